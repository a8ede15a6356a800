-- Functions without the names that they read have the same faults.
use Rattle.std.proofs.Common.{◌≡◌, ◌<◌, ◌+◌, ◌-◌, ℕ, Bool, true, false, List, [], ◌∷◌, ◌++◌, length, drop, get_or, refl, ap, sym, ◌∙◌}
use Rattle.std.specs.Prelude.{◌||◌, if◌then◌else◌}
use Rattle.std.specs.List.{AllZip, flat_map, list_any}
use Rattle.std.proofs.lemmas.Grind.{flat_map-append}
use Rattle.js_value.specs.declared.place.Place.{Place}
use Rattle.js_value.specs.declared.primitive.Kind.{Kind}
use Rattle.js_tree.specs.declared.refusal.Feature.TheVariants as feature
use Rattle.js_tree.specs.declared.refusal.ReadRefused.TheVariants.{Unsupported}
use Rattle.js_tree.specs.declared.statement.Func.{Func}
use Rattle.js_tree.specs.declared.statement.Script.{Script}
use Rattle.js_tree.specs.Early.{differs, mention_fault, mention_faults}
use Rattle.js_tree.specs.Mentions as M
use Rattle.js_tree.specs.Mentions.{Mention, Inside, Names, unbound, unbound_one, owned_one}
use Rattle.js_tree.specs.Parts.{is_among}
use Rattle.js_scope.specs.FreeNames.{IsUnread, unread, unread_one}
use Rattle.js_scope.specs.Functions.{inside}
use Rattle.js_scope.proofs.Standing.{body_like, joined_in, one_stands}
use Rattle.js_scope.proofs.Whole.{whole}

abbrev Ms : Type 0
Ms = List Mention

abbrev SameUnread : Ms → Ms → Type 0
SameUnread a b = unread a ≡ unread b

joined : (a b : Ms) → unread (a ++ b) ≡ unread a ++ unread b
joined a b = flat_map-append unread_one a b

joins : (a b c d : Ms) → SameUnread a c → SameUnread b d → SameUnread (a ++ b) (c ++ d)
joins a b c d h k = joined a b ∙ ap (λ ms. ms ++ unread b) h ∙ ap (λ ms. unread c ++ ms) k ∙ sym (joined c d)

-- what is done with each mention that reads no name is the same before and after
through : (f : Mention → Ms) → ((m : Mention) → unread (f m) ≡ flat_map f (unread_one m)) → (ms : Ms) → unread (flat_map f ms) ≡ flat_map f (unread ms)
through f h [] = refl
through f h (m ∷ ms) =
    joined (f m) (flat_map f ms)
    ∙ ap (λ r. r ++ unread (flat_map f ms)) (h m)
    ∙ ap (λ r. flat_map f (unread_one m) ++ r) (through f h ms)
    ∙ sym (flat_map-append f (unread_one m) (unread ms))

none_read : (b : Bool) (at : Place) (name : List ℕ) → unread (if b then [] else (M.Reads at name ∷ [])) ≡ []
none_read true at name = refl
none_read false at name = refl

nothing : (ms : Ms) → ms ≡ ms ++ []
nothing [] = refl
nothing (m ∷ ms) = ap (λ r. m ∷ r) (nothing ms)

unbound_unread : (names : Names) (m : Mention) → unread (unbound_one names m) ≡ flat_map (unbound_one names) (unread_one m)
unbound_unread names (M.Reads at name) = none_read (is_among names name) at name
unbound_unread names (M.Assigns at name) = by (is_among names name)
  where
    by : (b : Bool) → unread (if b then [] else (M.Assigns at name ∷ [])) ≡ (if b then [] else (M.Assigns at name ∷ [])) ++ []
    by true = refl
    by false = refl
unbound_unread names (M.AssignsOwn at) = refl
unbound_unread names (M.Takes at kind text) = refl
unbound_unread names (M.Repeats at) = refl

owned_unread : (own : Names) (m : Mention) → unread (owned_one own m) ≡ flat_map (owned_one own) (unread_one m)
owned_unread own (M.Reads at name) = none_read (is_among own name) at name
owned_unread own (M.Assigns at name) = by (is_among own name)
  where
    by : (b : Bool) → unread (if b then M.AssignsOwn at ∷ [] else (M.Assigns at name ∷ [])) ≡ (if b then M.AssignsOwn at ∷ [] else (M.Assigns at name ∷ [])) ++ []
    by true = refl
    by false = refl
owned_unread own (M.AssignsOwn at) = refl
owned_unread own (M.Takes at kind text) = refl
owned_unread own (M.Repeats at) = refl

binds : (names : Names) (a b : Ms) → SameUnread a b → SameUnread (unbound names a) (unbound names b)
binds names a b h = through (unbound_one names) (unbound_unread names) a ∙ ap (λ ms. unbound names ms) h ∙ sym (through (unbound_one names) (unbound_unread names) b)

owns : (own : Names) (a b : Ms) → SameUnread a b → SameUnread (flat_map (owned_one own) a) (flat_map (owned_one own) b)
owns own a b h = through (owned_one own) (owned_unread own) a ∙ ap (λ ms. flat_map (owned_one own) ms) h ∙ sym (through (owned_one own) (owned_unread own) b)

twice_one : (m : Mention) → unread (unread_one m) ≡ unread_one m
twice_one (M.Reads at name) = refl
twice_one (M.Assigns at name) = refl
twice_one (M.AssignsOwn at) = refl
twice_one (M.Takes at kind text) = refl
twice_one (M.Repeats at) = refl

twice : (ms : Ms) → unread (unread ms) ≡ unread ms
twice [] = refl
twice (m ∷ ms) = joined (unread_one m) (unread ms) ∙ ap (λ r. r ++ unread (unread ms)) (twice_one m) ∙ ap (λ r. unread_one m ++ r) (twice ms)

abbrev AreLike : Inside → Inside → Type 0
AreLike i j = (i.0 ≡ j.0) × SameUnread i.1 j.1

unread_like : (i j : Inside) → IsUnread i j → AreLike i j
unread_like i j h = (sym h.0, sym (twice i.1) ∙ ap (λ ms. unread ms) (sym h.1))

unread_follows : (i j k : Inside) → AreLike i j → IsUnread j k → IsUnread i k
unread_follows i j k h less = (less.0 ∙ sym h.0, less.1 ∙ sym h.1)

-- as a loop over the functions from the last one on comes to them
pub one_unread : (all behind : List Func) (done : ℕ) (f : Func) (known new : List Inside) (found less : Inside)
    → done < length all → f ≡ get_or all (length all - 1 - done) f
    → AllZip IsUnread (M.insides_from (length all - done) (drop (length all - done) all)) known
    → behind ≡ drop (length all - 1 - done + 1) all
    → found ≡ inside (length all - 1 - done + 1) behind known f
    → IsUnread found less
    → new ≡ less ∷ known
    → AllZip IsUnread (M.insides_from (length all - (done + 1)) (drop (length all - (done + 1)) all)) new
one_unread = one_stands SameUnread (λ a. refl) joins binds owns IsUnread unread_like unread_follows

pub whole_unread : (s : Script) (js : List Inside) → AllZip IsUnread (M.insides s) js → unread (joined_in 0 js s.body) ≡ unread (M.mentions s)
whole_unread s js h = sym (body_like SameUnread (λ a. refl) joins binds owns IsUnread unread_like unread_follows 0 (M.insides s) js s.body h) ∙ ap (λ ms. unread ms) (sym (whole s))

-- ---- what is refused

differs_unread : (at : Place) (k : Kind) (name : List ℕ) (ms : Ms) → list_any (differs at k name) ms ≡ list_any (differs at k name) (unread ms)
differs_unread at k name [] = refl
differs_unread at k name (M.Reads p x ∷ ms) = differs_unread at k name ms
differs_unread at k name (M.Assigns p x ∷ ms) = differs_unread at k name ms
differs_unread at k name (M.AssignsOwn p ∷ ms) = differs_unread at k name ms
differs_unread at k name (M.Takes p kind x ∷ ms) = ap (λ b. differs at k name (M.Takes p kind x) || b) (differs_unread at k name ms)
differs_unread at k name (M.Repeats p ∷ ms) = differs_unread at k name ms

fault_unread : (all : Ms) (m : Mention) → mention_fault all m ≡ mention_fault (unread all) m
fault_unread all (M.Reads at name) = refl
fault_unread all (M.Assigns at name) = refl
fault_unread all (M.AssignsOwn at) = refl
fault_unread all (M.Takes at k name) = ap (λ b. if b then Unsupported at feature.AbstractType ∷ [] else []) (differs_unread at k name all)
fault_unread all (M.Repeats at) = refl

faults_behind : (all ms : Ms) → flat_map (mention_fault all) ms ≡ flat_map (mention_fault (unread all)) (unread ms)
faults_behind all [] = refl
faults_behind all (M.Reads at name ∷ ms) = faults_behind all ms
faults_behind all (M.Assigns at name ∷ ms) = faults_behind all ms
faults_behind all (M.AssignsOwn at ∷ ms) = ap (λ fs. mention_fault all (M.AssignsOwn at) ++ fs) (faults_behind all ms)
faults_behind all (M.Takes at k name ∷ ms) =
    ap (λ fs. fs ++ flat_map (mention_fault all) ms) (fault_unread all (M.Takes at k name)) ∙ ap (λ fs. mention_fault (unread all) (M.Takes at k name) ++ fs) (faults_behind all ms)
faults_behind all (M.Repeats at ∷ ms) = ap (λ fs. mention_fault all (M.Repeats at) ++ fs) (faults_behind all ms)

pub same_faults : (a b : Ms) → unread a ≡ unread b → mention_faults a ≡ mention_faults b
same_faults a b h = faults_behind a a ∙ ap (λ ms. flat_map (mention_fault ms) ms) h ∙ sym (faults_behind b b)
