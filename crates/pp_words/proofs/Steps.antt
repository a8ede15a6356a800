-- One word of the walk.
use Rattle.std.proofs.Common.{◌≡◌, ℕ, Bool, true, false, List, [], ◌∷◌, Option, None, Some, codes, refl, ◌&&◌, ◌≢◌, slice_get}
use Rattle.std.specs.Str.{bytes_eq, chars}
use Rattle.clap.specs.Lexer.{long_of, short_of}
use Rattle.clap.specs.Kinds.{Kinds}
use Rattle.clap.specs.Walk.{Rule, Text, Walk, Waiting, Row, idle, positional, option, walked, settled_rows, used}
use Rattle.clap.specs.Faults.{turn_fault, settle_fault, flags_fault}
use Rattle.clap.specs.Simple.{Shape, built, with_index, filled}
use Rattle.pp_words.specs.Line.{line, steps_rule, words_rule}

abbrev pub top : Shape
top = (built line).top

-- a place between two words
abbrev pub at : List Row → Option (Text × List Text) → Waiting → Bool → Walk
at rows pending waiting trailing = record { held = record { rows = rows; pending = pending; skip = 0 }; waiting = waiting; position = 1; is_trailing = trailing; stopped = None }

abbrev pub settles : List Row → Option (Text × List Text) → Kinds
settles rows pending = settle_fault top.rules false (record { rows = rows; pending = pending; skip = 0 })

abbrev pub steps_built : Rule
steps_built = with_index 1 (filled steps_rule)

abbrev pub words_built : Rule
words_built = with_index 1 (filled words_rule)

-- no value of an option is wanted
pub data IsFree : Waiting → Type 0 where
  at_idle : IsFree idle
  at_positional : IsFree positional

and_false : (b : Bool) → (b && false) ≡ false
and_false true = refl
and_false false = refl

pub dashes_walked : (r : List Row) (p : Option (Text × List Text)) (wt : Waiting) (word : Text) → IsFree wt → bytes_eq word (codes "--") ≡ true → walked top.rules [] (at r p wt false) word ≡ at r p wt true
unfolding walked
dashes_walked r p wt word at_idle e = rw e refl
dashes_walked r p wt word at_positional e = rw e refl

pub dashes_fault : (r : List Row) (p : Option (Text × List Text)) (wt : Waiting) (word : Text) → IsFree wt → bytes_eq word (codes "--") ≡ true → turn_fault top [] (at r p wt false) word ≡ []
dashes_fault r p wt word at_idle e = rw e refl
dashes_fault r p wt word at_positional e = rw e refl

pub with_fault : (r : List Row) (p : Option (Text × List Text)) (wt : Waiting) (word name v : Text) → IsFree wt → bytes_eq word (codes "--") ≡ false → long_of word ≡ Some (name, Some v) → bytes_eq (codes "steps") name ≡ true → settles r p ≡ [] → turn_fault top [] (at r p wt false) word ≡ []
with_fault r p wt word name v at_idle e l n s = rw (e, l, n, s) refl
with_fault r p wt word name v at_positional e l n s = rw (e, l, n, s) refl

pub with_walked : (r : List Row) (p : Option (Text × List Text)) (wt : Waiting) (word name v : Text) → IsFree wt → bytes_eq word (codes "--") ≡ false → long_of word ≡ Some (name, Some v) → bytes_eq (codes "steps") name ≡ true → walked top.rules [] (at r p wt false) word ≡ at (used steps_built (v ∷ []) (settled_rows top.rules p r)) None idle false
unfolding walked
with_walked r p wt word name v at_idle e l n = rw (e, l, n) refl
with_walked r p wt word name v at_positional e l n = rw (e, l, n) refl

pub alone_fault : (r : List Row) (p : Option (Text × List Text)) (wt : Waiting) (word name : Text) → IsFree wt → bytes_eq word (codes "--") ≡ false → long_of word ≡ Some (name, None) → bytes_eq (codes "steps") name ≡ true → settles r p ≡ [] → turn_fault top [] (at r p wt false) word ≡ []
alone_fault r p wt word name at_idle e l n s = rw (e, l, n, s) refl
alone_fault r p wt word name at_positional e l n s = rw (e, l, n, s) refl

pub alone_walked : (r : List Row) (p : Option (Text × List Text)) (wt : Waiting) (word name : Text) → IsFree wt → bytes_eq word (codes "--") ≡ false → long_of word ≡ Some (name, None) → bytes_eq (codes "steps") name ≡ true → walked top.rules [] (at r p wt false) word ≡ at (settled_rows top.rules p r) (Some (codes "steps", [])) (option (codes "steps")) false
unfolding walked
alone_walked r p wt word name at_idle e l n = rw (e, l, n) refl
alone_walked r p wt word name at_positional e l n = rw (e, l, n) refl

pub long_fault : (r : List Row) (p : Option (Text × List Text)) (wt : Waiting) (word name : Text) (v : Option Text) → bytes_eq word (codes "--") ≡ false → long_of word ≡ Some (name, v) → bytes_eq (codes "steps") name ≡ false → turn_fault top [] (at r p wt false) word ≢ []
long_fault r p idle word name v e l n = rw (e, l, n) (λ q. cc)
long_fault r p positional word name v e l n = rw (e, l, n) (λ q. cc)
long_fault r p (option id) word name v e l n = rw (e, l, n) (λ q. cc)

pub short_fault : (r : List Row) (p : Option (Text × List Text)) (wt : Waiting) (word flags : Text) (x d : ℕ) → bytes_eq word (codes "--") ≡ false → long_of word ≡ None → short_of word ≡ Some (x ∷ flags) → slice_get (chars (x ∷ flags)) 0 ≡ Some d → turn_fault top [] (at r p wt false) word ≢ []
unfolding flags_fault
short_fault r p idle word flags x d e l n c = rw (e, l, n, c) (λ q. cc)
short_fault r p positional word flags x d e l n c = rw (e, l, n, c) (λ q. cc)
short_fault r p (option id) word flags x d e l n c = rw (e, l, n, c) (λ q. cc)

pub plain_fault : (r : List Row) (p : Option (Text × List Text)) (wt : Waiting) (word : Text) → IsFree wt → bytes_eq word (codes "--") ≡ false → long_of word ≡ None → short_of word ≡ None → settles r p ≡ [] → turn_fault top [] (at r p wt false) word ≡ []
plain_fault r p wt word at_idle e l n s = rw (e, l, n, and_false, s) refl
plain_fault r p wt word at_positional e l n s = rw (e, l, n, and_false, s) refl

pub plain_walked : (r : List Row) (p : Option (Text × List Text)) (wt : Waiting) (word : Text) → IsFree wt → bytes_eq word (codes "--") ≡ false → long_of word ≡ None → short_of word ≡ None → walked top.rules [] (at r p wt false) word ≡ at (settled_rows top.rules p r) (Some (codes "words", word ∷ [])) positional false
unfolding walked
plain_walked r p wt word at_idle e l n = rw (e, l, n, and_false) refl
plain_walked r p wt word at_positional e l n = rw (e, l, n, and_false) refl

pub trailing_fault : (r : List Row) (p : Option (Text × List Text)) (wt : Waiting) (word : Text) → turn_fault top [] (at r p wt true) word ≡ settles r p
trailing_fault r p wt word = rw and_false refl

pub trailing_walked : (r : List Row) (p : Option (Text × List Text)) (wt : Waiting) (word : Text) → walked top.rules [] (at r p wt true) word ≡ at (settled_rows top.rules p r) (Some (codes "words", word ∷ [])) positional true
unfolding walked
trailing_walked r p wt word = rw and_false refl

-- where a value is wanted
abbrev pub wanting : List Row → Bool → Walk
wanting rows trailing = at rows (Some (codes "steps", [])) (option (codes "steps")) trailing

pub given_walked : (rows : List Row) (word : Text) → bytes_eq word (codes "--") ≡ false → long_of word ≡ None → short_of word ≡ None → walked top.rules [] (wanting rows false) word ≡ at rows (Some (codes "steps", word ∷ [])) idle false
unfolding walked
given_walked rows word e l n = rw (e, l, n) refl

pub given_fault : (rows : List Row) (word : Text) → bytes_eq word (codes "--") ≡ false → long_of word ≡ None → short_of word ≡ None → turn_fault top [] (wanting rows false) word ≡ []
given_fault rows word e l n = rw (e, l, n) refl

pub wanting_dashes : (rows : List Row) (word : Text) → bytes_eq word (codes "--") ≡ true → walked top.rules [] (wanting rows false) word ≡ wanting rows true
unfolding walked
wanting_dashes rows word e = rw e refl

pub wanting_long : (rows : List Row) (word name : Text) (v : Option Text) → bytes_eq word (codes "--") ≡ false → long_of word ≡ Some (name, v) → turn_fault top [] (wanting rows false) word ≢ []
wanting_long rows word name v e l =
    elim (bytes_eq (codes "steps") name) as (λ b. bytes_eq (codes "steps") name ≡ b → turn_fault top [] (wanting rows false) word ≢ []) [
      | true ↦ λ n. elim v as (λ o. long_of word ≡ Some (name, o) → turn_fault top [] (wanting rows false) word ≢ []) [ None ↦ λ m. rw (e, m, n) (λ q. cc) | Some t ↦ λ m. rw (e, m, n) (λ q. cc) ] l
      | false ↦ λ n. long_fault rows (Some (codes "steps", [])) (option (codes "steps")) word name v e l n
    ] refl
