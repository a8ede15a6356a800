-- Strings as lists of 16-bit units, and their literals as bytes.
use Rattle.std.specs.Prelude.{ℕ, ◌+◌, ◌/◌, ◌%◌, ◌||◌, ◌&&◌, if◌then◌else◌, ◌==◌, nat_lt, nat_le, List, [], ◌∷◌, ◌++◌, codes}
use Rattle.std.specs.List.{flat_map}
use Rattle.std.specs.Str.{chars}
use Rattle.std.specs.Char.Escape.{encode_utf16}

-- the units of the characters of a UTF-8 text
abbrev pub units_of : List ℕ → List ℕ
units_of bytes = flat_map encode_utf16 (chars bytes)

abbrev pub hex_digit : ℕ → ℕ
hex_digit n = if nat_lt n 10 then n + 48 else n + 87

abbrev pub four_hex_digits : ℕ → List ℕ
four_hex_digits u = hex_digit (u / 4096) ∷ hex_digit (u / 256 % 16) ∷ hex_digit (u / 16 % 16) ∷ hex_digit (u % 16) ∷ []

-- A unit inside the quotes: `"` and the backslash after a backslash, the others from the space to `~` as themselves, each
-- other as `\u` and four hexadecimal digits.
unfoldable pub quoted_unit : ℕ → List ℕ
quoted_unit u =
    if u == 34 || u == 92 then 92 ∷ u ∷ []
    else (if nat_le 32 u && nat_le u 126 then u ∷ [] else 92 ∷ 117 ∷ four_hex_digits u)

-- the string literal of these units
abbrev pub quoted : List ℕ → List ℕ
quoted units = codes "\"" ++ flat_map quoted_unit units ++ codes "\""
