-- What may stand where: conditions on what follows, and pieces that lead from one to another.
use Rattle.std.proofs.Common.{◌≡◌, ℕ, Bool, true, false, not, ◌&&◌, ◌||◌, List, [], ◌++◌, refl, sym, subst, arith, append_assoc}
use Rattle.std.specs.Prelude.{◌==◌}
use Rattle.std.proofs.lemmas.Bool.{and_parts, both_ways, not_from_false, or_from}
use Rattle.std.proofs.lemmas.Bool.Decides.{nat_tests}
use Rattle.unicode_ident.proofs.IdentLemmas.{is_xid_continue-ascii}
use Rattle.js_tree.specs.Lexing.{is_name_part}
use Rattle.std.specs.Char.{is_ascii_digit}
use Rattle.script_text.specs.declared.gap.Gap.{Gap}
use Rattle.script_text.specs.declared.gap.Gap.TheVariants.{Tight, Sign, Loose}
use Rattle.script_text.specs.Pieces.{Piece}
use Rattle.lexing_back.proofs.Characters.{Behind, Any, NoPart, NoPoint, NoDigit, NoOperator, allows, is_operator}
use Rattle.lexing_back.proofs.Written.{first, Reads}

-- ---- characters that follow an expression

-- behind any: a space, a line feed, `)`, `]`, `}`, `;`, `,` or `:`
abbrev pub is_end : ℕ → Bool
is_end c = c == 32 || c == 10 || c == 41 || c == 93 || c == 125 || c == 59 || c == 44 || c == 58

-- behind one that arguments, an index or a postfix operator may follow
abbrev pub is_tail : ℕ → Bool
is_tail c = is_end c || c == 40 || c == 91 || c == 43 || c == 45

-- behind one that a point may follow too
abbrev pub is_point : ℕ → Bool
is_point c = is_tail c || c == 46

-- ---- spots

pub data Spot : Type 0 where
  Anything : Spot
  -- behind an expression, in the three ways above
  Ended : Spot
  Tailed : Spot
  Pointed : Spot
  -- a space comes first
  Spaced : Spot
  -- an expression begins
  Begun : Spot
  -- the name of a property, behind a point
  Property : Spot
  -- behind the value or the name of a property of a literal
  Fielded : Spot

-- what comes first there, behind a token that a space may follow, behind a sign, and where no space may stand
abbrev pub fits : Spot → ℕ → ℕ → ℕ → Bool
fits Anything loose sign tight = true
fits Ended loose sign tight = is_end loose
fits Tailed loose sign tight = is_tail loose
fits Pointed loose sign tight = is_point loose
fits Spaced loose sign tight = loose == 32
fits Begun loose sign tight = loose == 32 && not (is_operator sign)
fits Property loose sign tight = not (is_ascii_digit tight)
fits Fielded loose sign tight = is_end loose && not (is_name_part tight)

-- Pieces that read, and that may stand at this spot.
pub record Holds (s : Spot) (rest : List Piece) : Type 0 where
  pub reads : Reads rest
  pub fit : (depth : ℕ) → fits s (first Loose depth rest) (first Sign depth rest) (first Tight depth rest) ≡ true

-- what may stand at the first spot may stand at the second
abbrev pub implies : Spot → Spot → Bool
implies p Anything = true
implies Ended Ended = true
implies Ended Tailed = true
implies Ended Pointed = true
implies Tailed Tailed = true
implies Tailed Pointed = true
implies Pointed Pointed = true
implies Spaced Ended = true
implies Spaced Tailed = true
implies Spaced Pointed = true
implies Spaced Spaced = true
implies Begun Ended = true
implies Begun Tailed = true
implies Begun Pointed = true
implies Begun Spaced = true
implies Begun Begun = true
implies Property Property = true
implies Fielded Ended = true
implies Fielded Tailed = true
implies Fielded Pointed = true
implies Fielded Fielded = true
implies p q = false

pub implies-self : (s : Spot) → implies s s ≡ true
implies-self Anything = refl
implies-self Ended = refl
implies-self Tailed = refl
implies-self Pointed = refl
implies-self Spaced = refl
implies-self Begun = refl
implies-self Property = refl
implies-self Fielded = refl

end_tail : (c : ℕ) → is_end c ≡ true → is_tail c ≡ true
end_tail c h = rw h refl

tail_point : (c : ℕ) → is_tail c ≡ true → is_point c ≡ true
tail_point c h = rw h refl

space_end : (c : ℕ) → (c == 32) ≡ true → is_end c ≡ true
space_end c h = rw h refl

fits-implies : (p q : Spot) (l s t : ℕ) → implies p q ≡ true → fits p l s t ≡ true → fits q l s t ≡ true
fits-implies p Anything l s t i h = refl
fits-implies Ended Ended l s t i h = h
fits-implies Ended Tailed l s t i h = end_tail l h
fits-implies Ended Pointed l s t i h = tail_point l (end_tail l h)
fits-implies Tailed Tailed l s t i h = h
fits-implies Tailed Pointed l s t i h = tail_point l h
fits-implies Pointed Pointed l s t i h = h
fits-implies Spaced Ended l s t i h = space_end l h
fits-implies Spaced Tailed l s t i h = end_tail l (space_end l h)
fits-implies Spaced Pointed l s t i h = tail_point l (end_tail l (space_end l h))
fits-implies Spaced Spaced l s t i h = h
fits-implies Begun Ended l s t i h = space_end l (and_parts (l == 32) _ h).0
fits-implies Begun Tailed l s t i h = end_tail l (space_end l (and_parts (l == 32) _ h).0)
fits-implies Begun Pointed l s t i h = tail_point l (end_tail l (space_end l (and_parts (l == 32) _ h).0))
fits-implies Begun Spaced l s t i h = (and_parts (l == 32) _ h).0
fits-implies Begun Begun l s t i h = h
fits-implies Property Property l s t i h = h
fits-implies Fielded Ended l s t i h = (and_parts (is_end l) _ h).0
fits-implies Fielded Tailed l s t i h = end_tail l (and_parts (is_end l) _ h).0
fits-implies Fielded Pointed l s t i h = tail_point l (end_tail l (and_parts (is_end l) _ h).0)
fits-implies Fielded Fielded l s t i h = h
fits-implies p q l s t i h = absurd (both_ways false refl i)

pub weaken : {p : Spot} (q : Spot) {rest : List Piece} → implies p q ≡ true → Holds p rest → Holds q rest
weaken {p = p} q {rest = rest} i h = record { reads = h.reads; fit = λ d. fits-implies p q (first Loose d rest) (first Sign d rest) (first Tight d rest) i (h.fit d) }

-- ---- pieces that lead from one spot to another

-- where the first spot's pieces follow, the second one's begin here
pub record Runs (p q : Spot) (ps : List Piece) : Type 0 where
  pub runs : (rest : List Piece) → Holds p rest → Holds q (ps ++ rest)

-- one behind another
pub joined : {p q r s : Spot} {xs ys : List Piece} → Runs r s xs → implies q r ≡ true → Runs p q ys → Runs p s (xs ++ ys)
joined {r = r} {s = s} {xs = xs} {ys = ys} a i b = record {
  runs = λ rest h. subst (λ ps. Holds s ps) (sym (append_assoc xs ys rest)) (a.runs (ys ++ rest) (weaken r i (b.runs rest h)));
}

-- nothing
pub nothing : {p : Spot} (q : Spot) → implies p q ≡ true → Runs p q []
nothing q i = record { runs = λ rest h. weaken q i h }

-- at a spot that asks more, for one that gives less
pub from : {p q : Spot} {ps : List Piece} (r : Spot) → implies r p ≡ true → Runs p q ps → Runs r q ps
from {p = p} r i a = record { runs = λ rest h. a.runs rest (weaken p i h) }

pub to : {p q : Spot} {ps : List Piece} (r : Spot) → implies q r ≡ true → Runs p q ps → Runs p r ps
to r i a = record { runs = λ rest h. weaken r i (a.runs rest h) }

-- ---- which tokens may stand before a spot

abbrev pub may : Spot → Gap → Behind → Bool
may p gap Any = true
may Ended Loose NoPart = true
may Ended Loose NoPoint = true
may Ended Loose NoOperator = true
may Tailed Loose NoPart = true
may Tailed Loose NoPoint = true
may Pointed Loose NoPart = true
may Spaced Loose NoPart = true
may Spaced Loose NoOperator = true
may Begun Loose NoOperator = true
may Begun Sign NoOperator = true
may Property Tight NoDigit = true
may Fielded Loose NoPart = true
may Fielded Tight NoPart = true
may p gap b = false

point_no_part : (c : ℕ) → is_point c ≡ true → is_name_part c ≡ false
unfolding is_name_part
point_no_part c h = rw (is_xid_continue-ascii c (grind (arith, nat_tests))) (grind (arith, nat_tests))

tail_no_point : (c : ℕ) → is_tail c ≡ true → (c == 46) ≡ false
tail_no_point c h = grind (arith, nat_tests)

end_no_operator : (c : ℕ) → is_end c ≡ true → is_operator c ≡ false
end_no_operator c h = grind (arith, nat_tests)

after_point : (c : ℕ) → is_point c ≡ true → allows NoPart c ≡ true
after_point c h = not_from_false (is_name_part c) (point_no_part c h)

after_tail : (c : ℕ) → is_tail c ≡ true → allows NoPoint c ≡ true
after_tail c h = not_from_false (is_name_part c || c == 46) (or_from (is_name_part c) (c == 46) (point_no_part c (tail_point c h)) (tail_no_point c h))

after_end : (c : ℕ) → is_end c ≡ true → allows NoOperator c ≡ true
after_end c h = not_from_false (is_operator c) (end_no_operator c h)

pub allowed : (p : Spot) (gap : Gap) (b : Behind) (rest : List Piece) → may p gap b ≡ true → Holds p rest → (d : ℕ) → allows b (first gap d rest) ≡ true
allowed p gap Any rest m h d = refl
allowed Ended Loose NoPart rest m h d = after_point (first Loose d rest) (tail_point (first Loose d rest) (end_tail (first Loose d rest) (h.fit d)))
allowed Ended Loose NoPoint rest m h d = after_tail (first Loose d rest) (end_tail (first Loose d rest) (h.fit d))
allowed Ended Loose NoOperator rest m h d = after_end (first Loose d rest) (h.fit d)
allowed Tailed Loose NoPart rest m h d = after_point (first Loose d rest) (tail_point (first Loose d rest) (h.fit d))
allowed Tailed Loose NoPoint rest m h d = after_tail (first Loose d rest) (h.fit d)
allowed Pointed Loose NoPart rest m h d = after_point (first Loose d rest) (h.fit d)
allowed Spaced Loose NoPart rest m h d = after_point (first Loose d rest) (tail_point (first Loose d rest) (end_tail (first Loose d rest) (space_end (first Loose d rest) (h.fit d))))
allowed Spaced Loose NoOperator rest m h d = after_end (first Loose d rest) (space_end (first Loose d rest) (h.fit d))
allowed Begun Loose NoOperator rest m h d = after_end (first Loose d rest) (space_end (first Loose d rest) (and_parts (first Loose d rest == 32) _ (h.fit d)).0)
allowed Begun Sign NoOperator rest m h d = (and_parts (first Loose d rest == 32) _ (h.fit d)).1
allowed Property Tight NoDigit rest m h d = h.fit d
allowed Fielded Loose NoPart rest m h d = after_point (first Loose d rest) (tail_point (first Loose d rest) (end_tail (first Loose d rest) (and_parts (is_end (first Loose d rest)) _ (h.fit d)).0))
allowed Fielded Tight NoPart rest m h d = (and_parts (is_end (first Loose d rest)) _ (h.fit d)).1
allowed p gap b rest m h d = absurd (both_ways false refl m)
