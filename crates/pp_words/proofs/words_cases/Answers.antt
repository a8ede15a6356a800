use Rattle.std.proofs.Common.{◌≡◌, ◌<◌, ◌++◌, refl, ap, List, [], ◌∷◌, ℕ, Some, false, arith}
use Rattle.std.specs.List.{flat_map}
use Rattle.std.specs.Char.Escape.{encode_utf16}
use Rattle.std.specs.Str.{IsAscii}
use Rattle.std.proofs.lemmas.Grind.{common_steps}
use Rattle.std.proofs.lemmas.Str.{chars-IsAscii}
use Rattle.js_value.specs.Texts.{units_of}
use Rattle.js_value.specs.declared.primitive.Primitive.TheVariants.{Text}
use Rattle.pp_words.proofs.words_cases.Goals as goal

one_is_ascii : (c : ℕ) → c < 128 → IsAscii (c ∷ [])
one_is_ascii c low i = grind (arith, common_steps)

-- the units of a character of ASCII
units : (c : ℕ) → c < 128 → units_of (c ∷ []) ≡ encode_utf16 c ++ []
units c low = ap (flat_map encode_utf16) (chars-IsAscii (c ∷ []) (one_is_ascii c low))

pub returns-clause-quoted : goal.returns-clause-quoted
returns-clause-quoted c = ap (λ (t : List ℕ). Some (record { name = []; value = Text t; threw = false })) (units 53 (omega arith))

pub returns-clause-given_twice : goal.returns-clause-given_twice
returns-clause-given_twice c = rw (units 107 (omega arith)) refl
