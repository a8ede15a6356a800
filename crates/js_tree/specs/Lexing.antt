-- Tokens of a text (7): what stands at each place is the longest that begins there, and the first fault is answered.
use Rattle.std.specs.Prelude.{◌==◌, ◌&&◌, ◌||◌, ◌+◌, ◌-◌, ◌*◌, ℕ, zero, suc, pos, Bool, true, false, not, nat_eq, nat_lt, if◌then◌else◌, List, [], ◌∷◌, ◌++◌, length, map, take, drop, fold, slice_index, sum_by, codes, Option, Some, None, Result, Ok, Err}
use Rattle.js_value.specs.Numbers.{greatest_magnitude}
use Rattle.std.specs.Char.{digit_value, is_ascii_digit, is_ascii_hexdigit, len_utf8}
use Rattle.std.specs.Char.Escape.{encode_utf16}
use Rattle.std.specs.Cmp.Lexicographic.{pointwise}
use Rattle.std.specs.Int.{is_in_range}
use Rattle.std.specs.List.{flat_map, prefix_len, starts_with}
use Rattle.std.specs.Str.{chars, is_utf8}
use Rattle.std.specs.Str.Lossy.{utf8_valid_len}
use Rattle.unicode_ident.specs.Ident.{is_xid_start, is_xid_continue}
use Rattle.js_tree.specs.Refusals.{place, syntax, unsupported}
use Rattle.js_tree.specs.declared.refusal.Feature.TheVariants as feature
use Rattle.js_tree.specs.declared.refusal.ReadRefused.{ReadRefused}
use Rattle.js_tree.specs.declared.token.TheConstants.{KEYWORDS, PUNCTUATORS}
use Rattle.js_tree.specs.declared.token.Keyword.{Keyword}
use Rattle.js_tree.specs.declared.token.Punctuator.{Punctuator}
use Rattle.js_tree.specs.declared.token.TokenForm.{TokenForm}
use Rattle.js_tree.specs.declared.token.TokenForm.TheVariants as form
use Rattle.js_tree.specs.declared.token.InputElement.{InputElement}
use Rattle.js_tree.specs.declared.token.InputElement.TheVariants as element
use Rattle.js_tree.specs.declared.token.Token.{Token}
use Rattle.js_tree.specs.declared.token.Tokens.{Tokens}

-- ---- classes of characters

-- 7.2
abbrev pub is_white_space : ℕ → Bool
is_white_space c =
    c == 0x9 || c == 0xB || c == 0xC || c == 0x20 || c == 0xA0 || c == 0x1680 || is_in_range 0x2000 0x200A c || c == 0x202F || c == 0x205F || c == 0x3000 || c == 0xFEFF

-- 7.3
abbrev pub is_line_end : ℕ → Bool
is_line_end c = c == 0xA || c == 0xD || c == 0x2028 || c == 0x2029

-- 7.6, with Unicode's XID_Start and XID_Continue in place of the categories that it lists; 36 is `$` and 95 is `_`
unfoldable pub is_name_start : ℕ → Bool
is_name_start c = is_xid_start c || c == 36 || c == 95

unfoldable pub is_name_part : ℕ → Bool
is_name_part c = is_xid_continue c || c == 36 || c == 95 || c == 0x200C || c == 0x200D

-- how many bytes characters take in UTF-8
abbrev pub width : List ℕ → ℕ
width z = sum_by len_utf8 z

-- What stands at the front of a text, and how many characters it takes. The first argument of what follows is its place.
abbrev pub Scan : Type 0
Scan = Result (InputElement × ℕ) ReadRefused

abbrev pub token : TokenForm → ℕ → Scan
token f n = Ok (element.Token f, n)

-- ---- comments (7.4)

-- one that `//` begins goes up to the line end
abbrev pub line_comment : List ℕ → Scan
line_comment z = Ok (element.WhiteSpace, prefix_len (λ c. not (is_line_end c)) z)

-- One that `/*` begins goes up to the next `*/`, and is a line end where it has one. Before the rest stand n characters of
-- it, with or without a line end.
abbrev pub block_comment : ℕ → Bool → ℕ → List ℕ → Scan
block_comment at line n [] = syntax at
block_comment at line n (c ∷ z) =
    if c == 42 && slice_index z 0 == 47 then Ok (if line then element.LineEnd else element.WhiteSpace, n + 2) else block_comment at (line || is_line_end c) (n + 1) z

-- ---- names and reserved words (7.6)

-- the 16-bit units of characters
abbrev pub units : List ℕ → List ℕ
units z = flat_map encode_utf16 z

abbrev pub is_proto : List ℕ → Bool
is_proto text = pointwise nat_eq text (codes "__proto__")

-- a name or a string of n characters with this text: one whose text is `__proto__` isn't supported
abbrev pub word : ℕ → ℕ → List ℕ → TokenForm → Scan
word at n text f = if is_proto text then unsupported at feature.ProtoName else token f n

-- what a table has for a spelling
abbrev pub lookup : {V : Type 0} → List (List ℕ × V) → List ℕ → Option V
lookup [] word = None
lookup (row ∷ rows) word = if pointwise nat_eq row.0 word then Some row.1 else lookup rows word

unfoldable pub reserved_word : List ℕ → Option Keyword
reserved_word = lookup (map (λ row. (row.0.now, row.1)) KEYWORDS)

abbrev pub name_or_reserved : ℕ → ℕ → List ℕ → Option Keyword → Scan
name_or_reserved at n text (Some keyword) = token (form.Reserved keyword) n
name_or_reserved at n text None = word at n (units text) (form.Name (units text))

-- a name takes all characters that can go on with it
abbrev pub name : ℕ → List ℕ → Scan
name at z = let n = prefix_len is_name_part z in name_or_reserved at n (take n z) (reserved_word (take n z))

-- ---- punctuators (7.7)

-- the punctuator and its length, if it begins the text and is longer than the one so far
abbrev pub longer : List ℕ → Option Punctuator × ℕ → List ℕ × Punctuator → Option Punctuator × ℕ
longer z best row = if starts_with nat_eq z row.0 && nat_lt best.1 (length row.0) then (Some row.1, length row.0) else best

abbrev pub longest_of : List (List ℕ × Punctuator) → List ℕ → Option Punctuator × ℕ
longest_of rows z = fold (longer z) (None, 0) rows

-- the longest punctuator that begins the text, and its length
unfoldable pub longest_punctuator : List ℕ → Option Punctuator × ℕ
longest_punctuator = longest_of (map (λ row. (row.0.now, row.1)) PUNCTUATORS)

abbrev pub punctuator : ℕ → Option Punctuator × ℕ → Scan
punctuator at (None, n) = syntax at
punctuator at (Some p, n) = token (form.Punctuator p) n

-- ---- numbers (7.8.3)

-- 2^53 - 1
abbrev pub greatest : ℕ
greatest = greatest_magnitude

-- the number that digits spell
abbrev pub value : ℕ → List ℕ → ℕ
value radix digits = fold (λ n c. radix * n + digit_value c) 0 digits

-- A whole number that n characters spell. One above the greatest isn't supported, and none may be followed by a character
-- that goes on with a name.
abbrev pub whole : ℕ → ℕ → ℕ → List ℕ → Scan
whole at n number z =
    if nat_lt greatest number then unsupported at feature.NumberLiteral else (if is_name_part (slice_index z n) then syntax (at + n) else token (form.Number (pos number)) n)

-- `e` or `E`, maybe a sign, and a digit; 46 is `.`
abbrev pub begins_exponent : List ℕ → Bool
begins_exponent z =
    let c = slice_index z 1 in
    (slice_index z 0 == 101 || slice_index z 0 == 69) && (is_ascii_digit c || (c == 43 || c == 45) && is_ascii_digit (slice_index z 2))

-- n decimal digits; a point or an exponent behind them isn't supported
abbrev pub decimal : ℕ → ℕ → List ℕ → Scan
decimal at n z =
    if slice_index z n == 46 || begins_exponent (drop n z) then unsupported at feature.NumberLiteral else whole at n (value 10 (take n z)) z

-- `0x` and n hexadecimal digits
abbrev pub hexadecimal : ℕ → ℕ → List ℕ → Scan
hexadecimal at n z = whole at (n + 2) (value 16 (take n (drop 2 z))) z

-- `0x` or `0X`, and a hexadecimal digit
abbrev pub begins_hexadecimal : List ℕ → Bool
begins_hexadecimal z = slice_index z 0 == 48 && (slice_index z 1 == 120 || slice_index z 1 == 88) && is_ascii_hexdigit (slice_index z 2)

-- a zero before a digit, the old octal literal, isn't supported (B.1.1)
unfoldable pub number : ℕ → List ℕ → Scan
number at z =
    if begins_hexadecimal z then hexadecimal at (prefix_len is_ascii_hexdigit (drop 2 z)) z
    else (if slice_index z 0 == 48 && is_ascii_digit (slice_index z 1) then unsupported at feature.OctalLiteral else decimal at (prefix_len is_ascii_digit z) z)

-- ---- strings (7.8.4)

-- U+000D U+000A is one line end
abbrev pub line_end_len : ℕ → List ℕ → ℕ
line_end_len c z = if c == 0xD && slice_index z 0 == 0xA then 2 else 1

-- the unit of one of `b t n v f r`, or the character itself
abbrev pub single_escape : ℕ → List ℕ
single_escape c =
    if c == 98 then 0x8 ∷ []
    else (if c == 116 then 0x9 ∷ []
    else (if c == 110 then 0xA ∷ []
    else (if c == 118 then 0xB ∷ []
    else (if c == 102 then 0xC ∷ []
    else (if c == 114 then 0xD ∷ []
    else encode_utf16 c)))))

-- the unit that a number of hexadecimal digits at the front spells
abbrev pub hex_unit : ℕ → List ℕ → Option ℕ
hex_unit n z = if prefix_len is_ascii_hexdigit (take n z) == n then Some (value 16 (take n z)) else None

-- an escape of a number of characters, with its backslash at a place
abbrev pub hex_escape : ℕ → ℕ → Option ℕ → Result (List ℕ × ℕ) ReadRefused
hex_escape at n None = syntax at
hex_escape at n (Some unit) = Ok (unit ∷ [], n)

-- The units of an escape, by what follows its backslash, and how many characters it takes with the backslash. Where
-- nothing follows, the string has no end.
unfoldable pub escape : ℕ → List ℕ → Result (List ℕ × ℕ) ReadRefused
escape at [] = Ok ([], 1)
escape at (c ∷ z) =
    if is_line_end c then Ok ([], line_end_len c z + 1)
    else (if c == 48 && not (is_ascii_digit (slice_index z 0)) then Ok (0 ∷ [], 2)
    else (if is_ascii_digit c then unsupported at feature.OctalEscape
    else (if c == 120 then hex_escape at 4 (hex_unit 2 z)
    else (if c == 117 then hex_escape at 6 (hex_unit 4 z)
    else Ok (single_escape c, 2)))))

-- an escape, and what follows it
abbrev pub escaped : Result (List ℕ × ℕ) ReadRefused → (List ℕ → ℕ → Scan) → Scan
escaped (Err e) rest = Err e
escaped (Ok e) rest = rest e.0 (e.1 - 1)

-- The string that opened at a place with this quote, of which n characters stand before the rest and gave these units. The
-- third number counts the characters that are left of an escape. 92 is the backslash.
abbrev pub string_from : ℕ → ℕ → ℕ → List ℕ → ℕ → ℕ → List ℕ → Scan
string_from opened quote left text n at [] = syntax opened
string_from opened quote (suc left) text n at (c ∷ z) = string_from opened quote left text (n + 1) (at + len_utf8 c) z
string_from opened quote zero text n at (c ∷ z) =
    if c == quote then word opened (n + 1) text (form.Str text)
    else (if is_line_end c then syntax opened
    else (if c == 92 then escaped (escape at z) (λ more left. string_from opened quote left (text ++ more) (n + 1) (at + len_utf8 c) z)
    else string_from opened quote zero (text ++ encode_utf16 c) (n + 1) (at + len_utf8 c) z))

-- a string begins with its quote
abbrev pub string : ℕ → List ℕ → Scan
string at z = string_from at (slice_index z 0) 0 [] 1 (at + 1) (drop 1 z)

-- ---- what stands at the front of a text that isn't empty

-- a token (7.5); 34 and 39 are the quotes, 46 is `.`, 92 the backslash
unfoldable pub scan_token : ℕ → List ℕ → Scan
scan_token at z =
    let c = slice_index z 0 in
    if is_name_start c then name at z
    else (if is_ascii_digit c then number at z
    else (if c == 46 && is_ascii_digit (slice_index z 1) then unsupported at feature.NumberLiteral
    else (if c == 34 || c == 39 then string at z
    else (if c == 92 then unsupported at feature.IdentifierEscape
    else punctuator at (longest_punctuator z)))))

-- white space, a line end, a comment or a token; 47 is `/`, 42 `*`
unfoldable pub scan : ℕ → List ℕ → Scan
scan at z =
    let c = slice_index z 0 in
    let next = slice_index z 1 in
    if is_white_space c then Ok (element.WhiteSpace, 1)
    else (if is_line_end c then Ok (element.LineEnd, 1)
    else (if c == 47 && next == 47 then line_comment z
    else (if c == 47 && next == 42 then block_comment at false 2 (drop 2 z)
    else scan_token at z)))

-- ---- all tokens

abbrev pub Lexed : Type 0
Lexed = Result (List Token) ReadRefused

abbrev pub with_front : List Token → Lexed → Lexed
with_front front (Ok more) = Ok (front ++ more)
with_front front (Err e) = Err e

-- the token between two places, if it is one
abbrev pub kept : ℕ → ℕ → Bool → InputElement → List Token
kept at end line (element.Token f) = record { at = place at; end = place end; line_before = line; form = f } ∷ []
kept at end line element.WhiteSpace = []
kept at end line element.LineEnd = []

-- whether a line end stands before what follows
abbrev pub line_after : Bool → InputElement → Bool
line_after line (element.Token f) = false
line_after line element.WhiteSpace = line
line_after line element.LineEnd = true

-- What stands at a place, and then what follows it: whether a line end stands before that, and how many characters are left
-- until it.
abbrev pub going_on : ℕ → Bool → List ℕ → Scan → (Bool → ℕ → Lexed) → Lexed
going_on at line z (Err e) rest = Err e
going_on at line z (Ok t) rest = with_front (kept at (at + width (take t.1 z)) line t.0) (rest (line_after line t.0) (t.1 - 1))

-- The tokens from a place on, where a line end stands before it or not. The second number counts the characters that are
-- left of what began earlier.
abbrev pub lex_from : ℕ → Bool → ℕ → List ℕ → Lexed
lex_from at line left [] = Ok []
lex_from at line (suc left) (c ∷ z) = lex_from (at + len_utf8 c) line left z
lex_from at line zero (c ∷ z) = going_on at line (c ∷ z) (scan at (c ∷ z)) (λ line left. lex_from (at + len_utf8 c) line left z)

abbrev pub ended : ℕ → Lexed → Result Tokens ReadRefused
ended end (Ok tokens) = Ok (record { items = tokens; end = place end })
ended end (Err e) = Err e

-- First the bytes have to be UTF-8: else the fault is where their longest front that is UTF-8 ends, at the first byte of
-- the first bad sequence.
unfoldable pub lexed : List ℕ → Result Tokens ReadRefused
lexed bytes = if is_utf8 bytes then ended (length bytes) (lex_from 0 false 0 (chars bytes)) else syntax (utf8_valid_len bytes)
