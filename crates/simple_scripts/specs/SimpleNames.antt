-- The names and the literals of simple scripts.
use Rattle.std.specs.Prelude.{ℕ, Bool, not, ◌&&◌, ◌||◌, ◌==◌, List, slice_index}
use Rattle.std.specs.Char.{is_ascii_digit, is_ascii_alphabetic}
use Rattle.std.specs.List.{list_all, list_any}
use Rattle.std.specs.Str.{bytes_eq}
use Rattle.js_value.specs.Numbers.{greatest_magnitude}
use Rattle.simple_scripts.specs.declared.taken.TheConstants.{TAKEN_WORDS}

-- 7.6
abbrev pub is_name_start : ℕ → Bool
is_name_start c = is_ascii_alphabetic c || c == 36 || c == 95

-- 7.6
abbrev pub is_name_part : ℕ → Bool
is_name_part c = is_name_start c || is_ascii_digit c

abbrev pub is_taken : List ℕ → Bool
is_taken word = list_any (λ taken. bytes_eq taken.now word) TAKEN_WORDS

-- A name of a simple script: it begins as a name does, goes on as one, and isn't taken.
unfoldable pub is_simple_name : List ℕ → Bool
is_simple_name name = is_name_start (slice_index name 0) && list_all is_name_part name && not (is_taken name)

-- the greatest value of a literal
abbrev pub greatest_literal : ℕ
greatest_literal = greatest_magnitude
