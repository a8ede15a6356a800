-- Cases of where a statement ends, worked out by hand: which tokens continue it on a later line, of all that there are.
use Rattle.std.specs.Prelude.{◌≡◌, ◌==◌, ℕ, pos, Bool, false, if◌then◌else◌, codes, List, [], ◌∷◌, ◌++◌, length, map, Option, Some, None}
use Rattle.std.specs.List.{flat_map, slice_split}
use Rattle.js_tree.specs.declared.token.TheConstants.{KEYWORDS, PUNCTUATORS}
use Rattle.js_tree.specs.declared.token.Punctuator.TheVariants as mark
use Rattle.js_tree.specs.declared.token.TokenForm.{TokenForm}
use Rattle.js_tree.specs.declared.token.TokenForm.TheVariants as form
use Rattle.js_tree.specs.declared.token.Token.{Token}
use Rattle.js_tree.specs.Refusals.{place}
use Rattle.js_grammar.specs.Ends.{continues_expression, continues_declared, continues_do}

-- each punctuator and each reserved word with its spelling, and one token of each other kind
abbrev pub all_tokens : List (List ℕ × TokenForm)
all_tokens =
    map (λ row. (row.0.now, form.Punctuator row.1)) PUNCTUATORS
    ++ map (λ row. (row.0.now, form.Reserved row.1)) KEYWORDS
    ++ ((codes "a", form.Name (codes "a")) ∷ (codes "1", form.Number (pos 1)) ∷ (codes "'a'", form.Str (codes "a")) ∷ [])

-- the spellings of those that continue
abbrev pub continuing : (TokenForm → Bool) → List (List ℕ)
continuing continues = flat_map (λ row. if continues row.1 then row.0 ∷ [] else []) all_tokens

abbrev pub spellings : List ℕ → List (List ℕ)
spellings text = slice_split (λ c. c == 32) text

-- the token directly before
abbrev pub behind : TokenForm → Option Token
behind what = Some (record { at = place 2; end = place 4; line_before = false; form = what })

-- `(`, `[`, `.`, `,`, `?`, `:`, the binary operators and those of assignments, `in` and `instanceof`
abbrev pub behind_expression : List (List ℕ)
behind_expression =
    spellings (codes "( [ . , < > <= >= == != === !== + - * / % << >> >>> & | ^ && || ? :")
    ++ spellings (codes "= += -= *= /= %= <<= >>= >>>= &= |= ^= in instanceof")

-- those without `(`, `[`, `.` and the operators of assignments
abbrev pub behind_postfix : List (List ℕ)
behind_postfix = spellings (codes ", < > <= >= == != === !== + - * / % << >> >>> & | ^ && || ? : in instanceof")

-- these tokens continue a statement and no others do
pub record EndCases : Type 0 where
  pub first : continuing (continues_expression None) ≡ behind_expression
  pub name : continuing (continues_expression (behind (form.Name (codes "a")))) ≡ behind_expression
  pub parenthesis : continuing (continues_expression (behind (form.Punctuator mark.RightParenthesis))) ≡ behind_expression
  pub up : continuing (continues_expression (behind (form.Punctuator mark.PlusPlus))) ≡ behind_postfix
  pub down : continuing (continues_expression (behind (form.Punctuator mark.MinusMinus))) ≡ behind_postfix
  pub declared : continuing continues_declared ≡ spellings (codes ", =")
  pub do_statement : continuing continues_do ≡ []
  -- 39 of the 48 punctuators and two words; behind a postfix operator 24 and the same words
  pub many : length behind_expression ≡ 41
  pub fewer : length behind_postfix ≡ 26
