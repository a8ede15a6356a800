-- Names, keys, texts and literals as a text gives them (7.6, 7.8).
use Rattle.std.specs.Prelude.{◌&&◌, ℕ, pos, int_le, nat_lt, Bool, true, false, not, List, [], ◌∷◌, Option, Some, None, is_none}
use Rattle.std.specs.Char.Utf16.{utf16_chars}
use Rattle.std.specs.List.{list_all}
use Rattle.js_value.specs.Numbers.{greatest}
use Rattle.js_value.specs.declared.primitive.Primitive.{Primitive}
use Rattle.js_value.specs.declared.primitive.Primitive.TheVariants as primitive
use Rattle.js_tree.specs.Lexing.{is_name_start, is_name_part, is_proto, reserved_word}
use Rattle.js_grammar.specs.Marks.{barred, form_name}

-- 16-bit units, and not `__proto__`
abbrev pub is_readable_text : List ℕ → Bool
is_readable_text text = list_all (λ u. nat_lt u 65536) text && not (is_proto text)

-- ---- names (7.6); a surrogate without its partner is no character

abbrev pub passes : (ℕ → Bool) → Option ℕ → Bool
passes holds None = false
passes holds (Some c) = holds c

abbrev pub begins_name : List (Option ℕ) → Bool
begins_name [] = false
begins_name (c ∷ cs) = passes is_name_start c

abbrev pub are_name_characters : List (Option ℕ) → Bool
are_name_characters cs = begins_name cs && list_all (passes is_name_part) cs

-- a name or a reserved word
abbrev pub is_identifier_name : List ℕ → Bool
is_identifier_name text = is_readable_text text && are_name_characters (utf16_chars text)

-- 7.6.1: no reserved word, and none of the names that aren't supported
abbrev pub is_identifier : List ℕ → Bool
is_identifier text = is_identifier_name text && is_none (reserved_word text) && is_none (barred text) && is_none (form_name text)

-- ---- literals (7.8): a number has no sign

abbrev pub is_readable_literal : Primitive → Bool
is_readable_literal primitive.Undefined = false
is_readable_literal primitive.Null = true
is_readable_literal (primitive.Boolean b) = true
is_readable_literal (primitive.Number n) = int_le (pos 0) n && int_le n greatest
is_readable_literal (primitive.Text units) = is_readable_text units
