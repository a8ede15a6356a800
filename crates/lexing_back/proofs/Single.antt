-- Single pieces: what they ask of the spot behind them, and which spot they make.
use Rattle.std.proofs.Common.{◌≡◌, ℕ, ◌<◌, ◌≤◌, pos, negsuc, Bool, true, false, not, ◌&&◌, cond, List, [], ◌∷◌, ◌++◌, ◌+◌, ◌-◌, length, refl, ap, ◌∙◌, arith}
use Rattle.std.specs.Prelude.{ℤ, int_le, slice_index, codes, Option, Some, None}
use Rattle.std.specs.Fmt.{decimal}
use Rattle.std.specs.Char.{is_ascii_digit}
use Rattle.std.specs.Char.Utf16.{utf16_lossy_chars}
use Rattle.std.specs.List.{list_all}
use Rattle.std.proofs.lemmas.Bool.{and_parts, and_from, both_ways, not_from_false, leb-true}
use Rattle.unicode_ident.proofs.Computing.{unicode_ident}
use Rattle.js_value.specs.Numbers.{greatest, greatest_magnitude}
use Rattle.js_value.specs.Texts.{quoted}
use Rattle.js_value.specs.declared.operator.BinaryOp.{BinaryOp}
use Rattle.js_value.specs.declared.operator.BinaryOp.TheVariants as binary
use Rattle.js_tree.specs.declared.expression.LogicOp.{LogicOp}
use Rattle.js_tree.specs.declared.expression.LogicOp.TheVariants as logic
use Rattle.js_tree.specs.Lexing.{is_name_part, is_proto, longest_punctuator}
use Rattle.js_tree.specs.declared.token.Punctuator.TheVariants as mark
use Rattle.js_tree.specs.declared.token.TokenForm.{TokenForm}
use Rattle.js_tree.specs.declared.token.TokenForm.TheVariants as form
use Rattle.js_grammar.specs.ReadableWords.{is_readable_text}
use Rattle.js_grammar.specs.ReadableExpressions.{is_compound}
use Rattle.script_text.specs.declared.gap.Gap.{Gap}
use Rattle.script_text.specs.declared.gap.Gap.TheVariants.{Tight, Sign, Loose}
use Rattle.script_text.specs.Pieces as pieces
use Rattle.script_text.specs.Pieces.{Piece, utf8, begins_with_sign, put, word, closing, opening, inner, prefix}
use Rattle.script_text.specs.Expressions.{name, reference, called, operator, logic_operator, assignment_operator}
use Rattle.script_text.specs.Tokens.{form_of, name_form}
use Rattle.lexing_back.proofs.Ascii.{encoded}
use Rattle.lexing_back.proofs.Characters.{Behind, Any, NoPart, NoPoint, NoOperator, is_operator, start_no_operator, start_no_digit, digit_no_operator}
use Rattle.lexing_back.proofs.Names.{IsName, Scans-name, small}
use Rattle.lexing_back.proofs.Numbers.{IsLiteral-decimal, decimal-ascii, Scans-number}
use Rattle.lexing_back.proofs.Strings.{Scans-string, quoted-ascii}
use Rattle.lexing_back.proofs.Scanning.{Scans}
use Rattle.lexing_back.proofs.Written.{first, written, IsToken, Reads-token, Reads-LineEnd, Reads-Open, Reads-Close, Reads-Bind, Reads-Release}
use Rattle.lexing_back.proofs.Spots.{Spot, Anything, Ended, Tailed, Pointed, Spaced, Begun, Property, Fielded, fits, is_end, Runs, may, allowed}
use Rattle.lexing_back.proofs.Known as known
use Rattle.lexing_back.proofs.Known.{Known}

-- the piece makes this spot, whatever follows
abbrev pub Makes : Spot → Piece → Type 0
Makes q p = (depth : ℕ) (rest : List Piece) → fits q (first Loose depth (p ∷ rest)) (first Sign depth (p ∷ rest)) (first Tight depth (p ∷ rest)) ≡ true

module _ (p q : Spot) where
  one : (piece : Piece) (text cs : List ℕ) (is_tight : Bool) (behind : Gap) (f : TokenForm) (b : Behind) → IsToken piece text cs is_tight behind f → Scans cs f b → may p behind b ≡ true → Makes q piece
      → Runs p q (piece ∷ [])
  one piece text cs is_tight behind f b is scans m makes = record {
    runs = λ rest h. record { reads = Reads-token piece text cs is_tight behind f b rest is scans h.reads (allowed p behind b rest m h); fit = λ d. makes d rest };
  }

  pub token : {text : List ℕ} {b : Behind} (is_tight : Bool) (behind : Gap) → Known text b → may p behind b ≡ true → Makes q (pieces.Token text is_tight behind) → Runs p q (pieces.Token text is_tight behind ∷ [])
  unfolding put
  token {text = text} {b = b} is_tight behind is m makes =
      one (pieces.Token text is_tight behind) text text is_tight behind (form_of text) b (record { puts = λ page. refl; writes = λ gap d more. refl; gives = λ line more. refl; encodes = is.encodes }) is.scans m makes

  reference_one : (us : List ℕ) → IsName us → may p Loose NoPart ≡ true → Makes q (pieces.Reference us) → Runs p q (reference us)
  unfolding put
  reference_one us is m makes =
      one (pieces.Reference us) (utf8 us) (utf16_lossy_chars us) false Loose (name_form us) NoPart (record { puts = λ page. refl; writes = λ gap d more. refl; gives = λ line more. refl; encodes = refl }) (Scans-name us is) m makes

  named_one : (us : List ℕ) (behind : Gap) → IsName us → may p behind NoPart ≡ true → Makes q (pieces.Named us behind) → Runs p q (pieces.Named us behind ∷ [])
  unfolding put
  named_one us behind is m makes =
      one (pieces.Named us behind) (utf8 us) (utf16_lossy_chars us) false behind (name_form us) NoPart (record { puts = λ page. refl; writes = λ gap d more. refl; gives = λ line more. refl; encodes = refl }) (Scans-name us is) m makes

  quoted_one : (us : List ℕ) (behind : Gap) → is_readable_text us ≡ true → Makes q (pieces.Quoted us behind) → Runs p q (pieces.Quoted us behind ∷ [])
  unfolding put
  quoted_one us behind is makes =
      let low = (and_parts (list_all small us) (not (is_proto us)) is).0 in
      one (pieces.Quoted us behind) (quoted us) (quoted us) false behind (form.Str us) Any
      (record { puts = λ page. refl; writes = λ gap d more. refl; gives = λ line more. refl; encodes = encoded (quoted us) (quoted-ascii us low) }) (Scans-string us is) refl makes

  number_one : (n : ℕ) → n ≤ greatest_magnitude → may p Loose NoPoint ≡ true → Makes q (pieces.Number (pos n)) → Runs p q (pieces.Number (pos n) ∷ [])
  unfolding put
  number_one n small m makes =
      one (pieces.Number (pos n)) (decimal n) (decimal n) false Loose (form.Number (pos n)) NoPoint
      (record { puts = λ page. refl; writes = λ gap d more. refl; gives = λ line more. refl; encodes = encoded (decimal n) (decimal-ascii n small) }) (Scans-number n small) m makes

-- ---- names, strings and numbers

sign_first : (b : Bool) (cs z : List ℕ) → 0 < length cs → is_operator (slice_index cs 0) ≡ false → is_operator (slice_index (cond b (codes " ") [] ++ (cs ++ z)) 0) ≡ false
sign_first true cs z some out = refl
sign_first false [] z some out = absurd (omega arith)
sign_first false (c ∷ cs) z some out = out

first_of : (cs z : List ℕ) → 0 < length cs → slice_index (cs ++ z) 0 ≡ slice_index cs 0
first_of [] z some = absurd (omega arith)
first_of (c ∷ cs) z some = refl

name_begins : (us : List ℕ) (z : List ℕ) (b : Bool) → IsName us → not (is_operator (slice_index (cond b (codes " ") [] ++ (utf16_lossy_chars us ++ z)) 0)) ≡ true
name_begins us z b is = not_from_false _ (sign_first b (utf16_lossy_chars us) z is.some (start_no_operator (slice_index (utf16_lossy_chars us) 0) is.starts))

name_no_digit : (us : List ℕ) (z : List ℕ) → IsName us → not (is_ascii_digit (slice_index (utf16_lossy_chars us ++ z) 0)) ≡ true
name_no_digit us z is =
    ap (λ c. not (is_ascii_digit c)) (first_of (utf16_lossy_chars us) z is.some) ∙ not_from_false _ (start_no_digit (slice_index (utf16_lossy_chars us) 0) is.starts)

pub reference-runs : (us : List ℕ) → IsName us → Runs Pointed Begun (reference us)
reference-runs us is = reference_one Pointed Begun us is refl (λ d rest. name_begins us (written Loose d rest) (begins_with_sign (utf8 us)) is)

pub name-runs : (us : List ℕ) → IsName us → Runs Pointed Begun (name us)
name-runs us is = named_one Pointed Begun us Loose is refl (λ d rest. name_begins us (written Loose d rest) (begins_with_sign (utf8 us)) is)

-- a name behind a point
pub property-runs : (us : List ℕ) → IsName us → Runs Pointed Property (name us)
property-runs us is = named_one Pointed Property us Loose is refl (λ d rest. name_no_digit us (written Loose d rest) is)

-- a name that a parenthesis follows
pub called-runs : (us : List ℕ) → IsName us → Runs Fielded Begun (called us)
called-runs us is = named_one Fielded Begun us Tight is refl (λ d rest. name_begins us (written Tight d rest) (begins_with_sign (utf8 us)) is)

pub string-runs : (us : List ℕ) (behind : Gap) → is_readable_text us ≡ true → Runs Anything Begun (pieces.Quoted us behind ∷ [])
string-runs us behind is = quoted_one Anything Begun us behind is (λ d rest. refl)

number_begins : (n : ℕ) (z : List ℕ) (b : Bool) → n ≤ greatest_magnitude → not (is_operator (slice_index (cond b (codes " ") [] ++ (decimal n ++ z)) 0)) ≡ true
number_begins n z b small =
    let is = IsLiteral-decimal n small in
    not_from_false _ (sign_first b (decimal n) z is.some (digit_no_operator (slice_index (decimal n) 0) (first_digit (decimal n) is.some is.all)))
  where
    first_digit : (ds : List ℕ) → 0 < length ds → list_all is_ascii_digit ds ≡ true → is_ascii_digit (slice_index ds 0) ≡ true
    first_digit [] some all = absurd (omega arith)
    first_digit (d ∷ ds) some all = (and_parts (is_ascii_digit d) (list_all is_ascii_digit ds) all).0

pub number-runs : (n : ℤ) → (int_le (pos 0) n && int_le n greatest) ≡ true → Runs Tailed Begun (pieces.Number n ∷ [])
number-runs (pos n) h =
    let small : n ≤ greatest_magnitude = leb-true n greatest_magnitude (and_parts (int_le (pos 0) (pos n)) (int_le (pos n) greatest) h).1 in
    number_one Tailed Begun n small refl (λ d rest. number_begins n (written Loose d rest) (begins_with_sign (decimal n)) small)
number-runs (negsuc n) h = absurd (both_ways false refl (and_parts (int_le (pos 0) (negsuc n)) (int_le (negsuc n) greatest) h).0)

-- ---- words

-- a word that begins an expression or a statement
pub word-runs : (c : ℕ) (text : List ℕ) → known.are_letters (c ∷ text) ≡ true → is_proto (c ∷ text) ≡ false → Makes Begun (pieces.Token (c ∷ text) false Loose) → Runs Pointed Begun (word (c ∷ text))
word-runs c text letters plain makes = token Pointed Begun false Loose (known.known-word c text letters plain) refl makes

-- ---- marks

-- one without a space before it, in every way that an expression can end before it
pub closing-runs : (c : ℕ) → Known (c ∷ []) Any → is_end c ≡ true → is_name_part c ≡ false → Runs Anything Fielded (closing (c ∷ []))
closing-runs c is ends part = token Anything Fielded true Loose is refl (λ d rest. and_from (is_end c) (not (is_name_part c)) ends (not_from_false (is_name_part c) part))

pub right_parenthesis-runs : Runs Anything Fielded (closing (codes ")"))
unfolding is_name_part unicode_ident
right_parenthesis-runs = closing-runs 41 known.known-right_parenthesis refl refl

pub right_bracket-runs : Runs Anything Fielded (closing (codes "]"))
unfolding is_name_part unicode_ident
right_bracket-runs = closing-runs 93 known.known-right_bracket refl refl

pub right_brace-runs : Runs Anything Fielded (closing (codes "}"))
unfolding is_name_part unicode_ident
right_brace-runs = closing-runs 125 known.known-right_brace refl refl

pub comma-runs : Runs Anything Fielded (closing (codes ","))
unfolding is_name_part unicode_ident
comma-runs = closing-runs 44 known.known-comma refl refl

pub semicolon-runs : Runs Anything Fielded (closing (codes ";"))
unfolding is_name_part unicode_ident
semicolon-runs = closing-runs 59 known.known-semicolon refl refl

pub colon-runs : Runs Anything Fielded (closing (codes ":"))
unfolding is_name_part unicode_ident
colon-runs = closing-runs 58 known.known-colon refl refl

pub group-runs : Runs Anything Begun (opening (codes "("))
group-runs = token Anything Begun false Tight known.known-left_parenthesis refl (λ d rest. refl)

pub parameters-run : Runs Anything Fielded (opening (codes "("))
unfolding is_name_part unicode_ident
parameters-run = token Anything Fielded false Tight known.known-left_parenthesis refl (λ d rest. refl)

pub array-runs : Runs Anything Begun (opening (codes "["))
array-runs = token Anything Begun false Tight known.known-left_bracket refl (λ d rest. refl)

pub object-runs : Runs Anything Begun (opening (codes "{"))
object-runs = token Anything Begun false Tight known.known-left_brace refl (λ d rest. refl)

pub arguments-run : Runs Anything Tailed (inner (codes "("))
arguments-run = token Anything Tailed true Tight known.known-left_parenthesis refl (λ d rest. refl)

pub index-runs : Runs Anything Tailed (inner (codes "["))
index-runs = token Anything Tailed true Tight known.known-left_bracket refl (λ d rest. refl)

pub point-runs : Runs Property Pointed (inner (codes "."))
point-runs = token Property Pointed true Tight known.known-point refl (λ d rest. refl)

pub left_brace-runs : Runs Anything Begun (word (codes "{"))
left_brace-runs = token Anything Begun false Loose known.known-left_brace refl (λ d rest. refl)

pub brace-runs : Runs Anything Begun (word (codes "}"))
brace-runs = token Anything Begun false Loose known.known-right_brace refl (λ d rest. refl)

pub colon_word-runs : Runs Anything Begun (word (codes ":"))
colon_word-runs = token Anything Begun false Loose known.known-colon refl (λ d rest. refl)

pub question-runs : Runs Anything Begun (word (codes "?"))
question-runs = token Anything Begun false Loose known.known-question refl (λ d rest. refl)

pub number_word-runs : Runs Anything Begun (word (codes "\"number\""))
number_word-runs = token Anything Begun false Loose known.known-number refl (λ d rest. refl)

pub boolean_word-runs : Runs Anything Begun (word (codes "\"boolean\""))
boolean_word-runs = token Anything Begun false Loose known.known-boolean refl (λ d rest. refl)

pub string_word-runs : Runs Anything Begun (word (codes "\"string\""))
string_word-runs = token Anything Begun false Loose known.known-string refl (λ d rest. refl)

pub strict-runs : Runs Anything Begun (word (codes "\"use strict\""))
strict-runs = token Anything Begun false Loose known.known-strict refl (λ d rest. refl)

-- ---- what is no token

pub LineEnd-runs : Runs Anything Ended (pieces.LineEnd ∷ [])
LineEnd-runs = record { runs = λ rest h. record { reads = Reads-LineEnd rest h.reads; fit = λ d. refl } }

pub Open-runs : (s : Spot) → Runs s s (pieces.Open ∷ [])
Open-runs s = record { runs = λ rest h. record { reads = Reads-Open rest h.reads; fit = λ d. h.fit (d + 1) } }

pub Close-runs : (s : Spot) → Runs s s (pieces.Close ∷ [])
Close-runs s = record { runs = λ rest h. record { reads = Reads-Close rest h.reads; fit = λ d. h.fit (d - 1) } }

pub Bind-runs : (s : Spot) (names : List (List ℕ)) → Runs s s (pieces.Bind names ∷ [])
Bind-runs s names = record { runs = λ rest h. record { reads = Reads-Bind names rest h.reads; fit = λ d. h.fit d } }

pub Release-runs : (s : Spot) → Runs s s (pieces.Release ∷ [])
Release-runs s = record { runs = λ rest h. record { reads = Reads-Release rest h.reads; fit = λ d. h.fit d } }

-- ---- operators

spaced : {text : List ℕ} {b : Behind} → Known text b → may Spaced Loose b ≡ true → Runs Spaced Spaced (word text)
spaced is m = token Spaced Spaced false Loose is m (λ d rest. refl)

pub operator-runs : (op : BinaryOp) → Runs Spaced Spaced (word (operator op))
unfolding longest_punctuator form_of
operator-runs binary.Mul = spaced (known.known-sign 42 (codes "") mark.Star refl refl refl refl refl) refl
operator-runs binary.Div = spaced known.known-slash refl
operator-runs binary.Rem = spaced (known.known-sign 37 (codes "") mark.Percent refl refl refl refl refl) refl
operator-runs binary.Add = spaced (known.known-sign 43 (codes "") mark.Plus refl refl refl refl refl) refl
operator-runs binary.Sub = spaced (known.known-sign 45 (codes "") mark.Minus refl refl refl refl refl) refl
operator-runs binary.Shl = spaced (known.known-sign 60 (codes "<") mark.Shl refl refl refl refl refl) refl
operator-runs binary.Sar = spaced (known.known-sign 62 (codes ">") mark.Sar refl refl refl refl refl) refl
operator-runs binary.Shr = spaced (known.known-sign 62 (codes ">>") mark.Shr refl refl refl refl refl) refl
operator-runs binary.Less = spaced (known.known-sign 60 (codes "") mark.Less refl refl refl refl refl) refl
operator-runs binary.Greater = spaced (known.known-sign 62 (codes "") mark.Greater refl refl refl refl refl) refl
operator-runs binary.LessEqual = spaced (known.known-sign 60 (codes "=") mark.LessEqual refl refl refl refl refl) refl
operator-runs binary.GreaterEqual = spaced (known.known-sign 62 (codes "=") mark.GreaterEqual refl refl refl refl refl) refl
operator-runs binary.Equal = spaced (known.known-sign 61 (codes "=") mark.Equal refl refl refl refl refl) refl
operator-runs binary.NotEqual = spaced (known.known-sign 33 (codes "=") mark.NotEqual refl refl refl refl refl) refl
operator-runs binary.Same = spaced (known.known-sign 61 (codes "==") mark.Same refl refl refl refl refl) refl
operator-runs binary.NotSame = spaced (known.known-sign 33 (codes "==") mark.NotSame refl refl refl refl refl) refl
operator-runs binary.BitAnd = spaced (known.known-sign 38 (codes "") mark.BitAnd refl refl refl refl refl) refl
operator-runs binary.BitXor = spaced (known.known-sign 94 (codes "") mark.BitXor refl refl refl refl refl) refl
operator-runs binary.BitOr = spaced (known.known-sign 124 (codes "") mark.BitOr refl refl refl refl refl) refl
operator-runs binary.In = spaced (known.known-word 105 (codes "n") refl refl) refl
operator-runs binary.InstanceOf = spaced (known.known-word 105 (codes "nstanceof") refl refl) refl

pub logic-runs : (op : LogicOp) → Runs Spaced Spaced (word (logic_operator op))
unfolding longest_punctuator form_of
logic-runs logic.And = spaced (known.known-sign 38 (codes "&") mark.And refl refl refl refl refl) refl
logic-runs logic.Or = spaced (known.known-sign 124 (codes "|") mark.Or refl refl refl refl refl) refl

pub assignment-runs : (op : Option BinaryOp) → is_compound op ≡ true → Runs Spaced Spaced (word (assignment_operator op))
unfolding longest_punctuator form_of
assignment-runs None compound = spaced (known.known-sign 61 (codes "") mark.Assign refl refl refl refl refl) refl
assignment-runs (Some binary.Mul) compound = spaced (known.known-sign 42 (codes "=") mark.StarAssign refl refl refl refl refl) refl
assignment-runs (Some binary.Div) compound = spaced known.known-slash_assign refl
assignment-runs (Some binary.Rem) compound = spaced (known.known-sign 37 (codes "=") mark.PercentAssign refl refl refl refl refl) refl
assignment-runs (Some binary.Add) compound = spaced (known.known-sign 43 (codes "=") mark.PlusAssign refl refl refl refl refl) refl
assignment-runs (Some binary.Sub) compound = spaced (known.known-sign 45 (codes "=") mark.MinusAssign refl refl refl refl refl) refl
assignment-runs (Some binary.Shl) compound = spaced (known.known-sign 60 (codes "<=") mark.ShlAssign refl refl refl refl refl) refl
assignment-runs (Some binary.Sar) compound = spaced (known.known-sign 62 (codes ">=") mark.SarAssign refl refl refl refl refl) refl
assignment-runs (Some binary.Shr) compound = spaced (known.known-sign 62 (codes ">>=") mark.ShrAssign refl refl refl refl refl) refl
assignment-runs (Some binary.BitAnd) compound = spaced (known.known-sign 38 (codes "=") mark.BitAndAssign refl refl refl refl refl) refl
assignment-runs (Some binary.BitXor) compound = spaced (known.known-sign 94 (codes "=") mark.BitXorAssign refl refl refl refl refl) refl
assignment-runs (Some binary.BitOr) compound = spaced (known.known-sign 124 (codes "=") mark.BitOrAssign refl refl refl refl refl) refl
assignment-runs (Some op) compound = absurd (both_ways false refl compound)

pub equals-run : Runs Spaced Spaced (word (codes "="))
equals-run = assignment-runs None refl

-- a sign before its operand
signed : {text : List ℕ} → Known text NoOperator → Makes Begun (pieces.Token text false Sign) → Runs Begun Begun (prefix text)
signed is makes = token Begun Begun false Sign is refl makes

pub plus-runs : Runs Begun Begun (prefix (codes "+"))
unfolding longest_punctuator form_of
plus-runs = signed (known.known-sign 43 (codes "") mark.Plus refl refl refl refl refl) (λ d rest. refl)

pub minus-runs : Runs Begun Begun (prefix (codes "-"))
unfolding longest_punctuator form_of
minus-runs = signed (known.known-sign 45 (codes "") mark.Minus refl refl refl refl refl) (λ d rest. refl)

pub not-runs : Runs Begun Begun (prefix (codes "!"))
unfolding longest_punctuator form_of
not-runs = signed (known.known-sign 33 (codes "") mark.Not refl refl refl refl refl) (λ d rest. refl)

pub bit_not-runs : Runs Begun Begun (prefix (codes "~"))
unfolding longest_punctuator form_of
bit_not-runs = signed (known.known-sign 126 (codes "") mark.BitNot refl refl refl refl refl) (λ d rest. refl)

pub up-runs : Runs Begun Begun (prefix (codes "++"))
unfolding longest_punctuator form_of
up-runs = signed (known.known-sign 43 (codes "+") mark.PlusPlus refl refl refl refl refl) (λ d rest. refl)

pub down-runs : Runs Begun Begun (prefix (codes "--"))
unfolding longest_punctuator form_of
down-runs = signed (known.known-sign 45 (codes "-") mark.MinusMinus refl refl refl refl refl) (λ d rest. refl)

pub post_up-runs : Runs Ended Tailed (closing (codes "++"))
unfolding longest_punctuator form_of
post_up-runs = token Ended Tailed true Loose (known.known-sign 43 (codes "+") mark.PlusPlus refl refl refl refl refl) refl (λ d rest. refl)

pub post_down-runs : Runs Ended Tailed (closing (codes "--"))
unfolding longest_punctuator form_of
post_down-runs = token Ended Tailed true Loose (known.known-sign 45 (codes "-") mark.MinusMinus refl refl refl refl refl) refl (λ d rest. refl)
