-- What the words of a command line ask for. A word is a list of bytes of UTF-8.
use Rattle.std.specs.Prelude.{ℕ, ℤ, ◌++◌, unwrap_or, nat_eq, is_some, pos, neg_ℤ, ◌==◌, ◌&&◌, Bool, true, false, not, nat_le, List, [], ◌∷◌, Option, Some, None, if◌then◌else◌, length, slice_index, codes}
use Rattle.std.specs.List.{list_any}
use Rattle.std.specs.Str.{bytes_eq}
use Rattle.js_value.specs.Conversions.{are_digits, digits_value}
use Rattle.std.specs.Cmp.Lexicographic.{pointwise}
use Rattle.clap.specs.Lexer.{strip_byte, name_and_value, long_of}
use Rattle.js_value.specs.Numbers.{greatest_magnitude}
use Rattle.js_value.specs.Texts.{units_of}
use Rattle.js_value.specs.declared.primitive.Primitive.{Primitive}
use Rattle.js_value.specs.declared.primitive.Primitive.TheVariants.{Boolean, Number, Text}
use Rattle.pp_words.specs.declared.command.Command.{Command}
use Rattle.pp_words.specs.declared.command.Command.TheVariants.{Eval, Run, Check}
use Rattle.pp_words.specs.declared.command.Item.{Item}

-- the bytes of a word
abbrev pub Word : Type 0
Word = List ℕ

-- what is there is handed on
infixl 20 ◌>>=◌
abbrev pub ◌>>=◌ : {A B : Type 0} → Option A → (A → Option B) → Option B
◌>>=◌ None next = None
◌>>=◌ (Some a) next = next a

abbrev pub begins : ℕ → Word → Bool
begins byte word = nat_le 1 (length word) && slice_index word 0 == byte

-- ---- the option

-- one more value of the option, one more plain word
abbrev pub with_value : Word → List Word × List Word → Option (List Word × List Word)
with_value value divided = Some (value ∷ divided.0, divided.1)

abbrev pub with_plain : Word → List Word × List Word → Option (List Word × List Word)
with_plain word divided = Some (divided.0, word ∷ divided.1)

-- The value of the option stands behind `=`, or is the next word. `here` is what the words behind the option give where the first of
-- them isn't its value, `in_next` where it is.
abbrev pub option_given : Option Word → Option (List Word × List Word) → Option (List Word × List Word) → Option (List Word × List Word)
option_given (Some value) here in_next = here >>= with_value value
option_given None here in_next = in_next

-- `long_of` gives the name of `--name` or `--name=value`, and the value; another option than `--steps` is refused
abbrev pub option_of : Option (Word × Option Word) → Option (List Word × List Word) → Option (List Word × List Word) → Option (List Word × List Word)
option_of None here in_next = None
option_of (Some flag) here in_next = if bytes_eq (codes "steps") flag.0 then option_given flag.1 here in_next else None

-- The values of `--steps` and the plain words; `true` where the word before was `--steps`, so that the next is its value. `strip_byte` gives
-- what follows a first byte; 45 is `-`.
abbrev pub divided : Bool → List Word → Option (List Word × List Word)
divided true [] = None
divided true (value ∷ rest) = divided false rest >>= with_value value
divided false [] = Some ([], [])
divided false (word ∷ rest) =
    if bytes_eq word (codes "--") then Some ([], rest)
    else (if not (is_some (strip_byte 45 word)) then divided false rest >>= with_plain word
    else option_of (long_of word) (divided false rest) (divided true rest))

-- one to nine digits, from 1 to 100,000,000
abbrev pub budget : Word → Option ℕ
budget word =
    if are_digits word && nat_le (length word) 9 && nat_le 1 (digits_value word) && nat_le (digits_value word) 100000000
    then Some (digits_value word) else None

-- the option at most once
abbrev pub steps : List Word → Option ℕ
steps [] = Some 1000000
steps (value ∷ []) = budget value
steps (value ∷ (other ∷ rest)) = None

-- ---- items

-- digits without a leading zero (48), in the profile's range
abbrev pub magnitude : Word → Option ℕ
magnitude word =
    if are_digits word && not (begins 48 word) && nat_le (digits_value word) greatest_magnitude then Some (digits_value word) else None

-- what stands behind an optional `-` (45), with the sign
abbrev pub signed : Option Word → Word → Option ℤ
signed (Some digits) word = magnitude digits >>= (λ n. Some (neg_ℤ (pos n)))
signed None word = magnitude word >>= (λ n. Some (pos n))

abbrev pub number : Word → Option ℤ
number word = if bytes_eq word (codes "0") then Some (pos 0) else signed (strip_byte 45 word) word

-- a number, or a string of which one leading `'` (39) is dropped
abbrev pub number_or_text : Option ℤ → Word → Primitive
number_or_text (Some n) word = Number n
number_or_text None word = Text (units_of (unwrap_or (strip_byte 39 word) word))

abbrev pub value : Word → Primitive
value word =
    if bytes_eq word (codes "true") then Boolean true
    else (if bytes_eq word (codes "false") then Boolean false
    else number_or_text (number word) word)

-- the value of an answer that begins with `!` (33) is thrown, and the rest is read as a value
abbrev pub answer : Option Word → Word → Item
answer (Some thrown) given = record { name = []; value = value thrown; threw = true }
answer None given = record { name = []; value = value given; threw = false }

-- an input of the name before the first `=`, an answer where that name is empty
abbrev pub named_item : Word → Word → Item
named_item [] given = answer (strip_byte 33 given) given
named_item (b ∷ name) given = record { name = units_of (b ∷ name); value = value given; threw = false }

-- the parts before and behind the first `=`; a word without one is refused
abbrev pub item_of : Word × Option Word → Option Item
item_of parts = parts.1 >>= (λ given. Some (named_item parts.0 given))

abbrev pub item : Word → Option Item
item word = item_of (name_and_value word)

abbrev pub is_named : List ℕ → Item → Bool
is_named name item = nat_le 1 (length name) && pointwise nat_eq item.name name

-- the items of one word more; an input whose name was given before is refused
abbrev pub more_items : List Item → Word → Option (List Item)
more_items done word = do
  next ← item word
  if list_any (is_named next.name) done then None else Some (done ++ next ∷ [])

-- the items of the words behind those that are done
abbrev pub items_behind : List Item → List Word → Option (List Item)
items_behind done [] = Some done
items_behind done (word ∷ rest) = do
  more ← more_items done word
  items_behind more rest

abbrev pub items : List Word → Option (List Item)
items words = items_behind [] words

-- ---- worlds

-- The worlds of the words behind those that are done and the items of the one that was begun. A word `/` ends a world and begins the next.
abbrev pub worlds_behind : List (List Item) → List Item → List Word → Option (List (List Item))
worlds_behind done world [] = Some (done ++ world ∷ [])
worlds_behind done world (word ∷ rest) =
    if bytes_eq word (codes "/") then worlds_behind (done ++ world ∷ []) [] rest
    else (more_items world word >>= (λ more. worlds_behind done more rest))

abbrev pub worlds : List Word → Option (List (List Item))
worlds words = worlds_behind [] [] words

-- ---- commands

abbrev pub eval : ℕ → List Word → Option Command
eval n [] = Some (Eval n)
eval n (word ∷ rest) = None

abbrev pub run : ℕ → List Word → Option Command
run n words = items words >>= (λ all. Some (Run n all))

abbrev pub check : ℕ → List Word → Option Command
check n words = worlds words >>= (λ all. Some (Check n all))

abbrev pub named : ℕ → List Word → Option Command
named n [] = None
named n (name ∷ words) =
    if bytes_eq name (codes "eval") then eval n words
    else (if bytes_eq name (codes "run") then run n words
    else (if bytes_eq name (codes "check") then check n words else None))

-- what the values of the option and the plain words ask for
abbrev pub asked : List Word × List Word → Option Command
asked parts = do
  n ← steps parts.0
  named n parts.1

-- what the words ask for, or nothing where they have another form
abbrev pub command : List Word → Option Command
command words = divided false words >>= asked
