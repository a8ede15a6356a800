-- Where a statement ends (7.9, by a rule of this project's own).
use Rattle.std.specs.Prelude.{◌&&◌, ◌||◌, Bool, true, false, not, if◌then◌else◌, List, [], ◌∷◌, Option, Ok, Err, is_some}
use Rattle.js_tree.specs.declared.refusal.ReadRefused.TheVariants.{Syntax}
use Rattle.js_tree.specs.declared.token.TokenForm.{TokenForm}
use Rattle.js_tree.specs.declared.token.Token.{Token}
use Rattle.js_grammar.specs.Rest.{Reading, ◌>>=◌, give, place_of, at_end, next, on_later_line}
use Rattle.js_grammar.specs.Marks
use Rattle.js_grammar.specs.Expressions.{is_postfix}
use Rattle.js_grammar.specs.Operators

-- tokens that go on with an expression however it ends
abbrev pub joins : TokenForm → Bool
joins t =
    is_some (Marks.comma t) || is_some (Marks.question t) || is_some (Marks.colon t) || is_some (Operators.or_operator t)
    || is_some (Operators.and_operator t) || is_some (Operators.bit_or_operator t) || is_some (Operators.bit_xor_operator t)
    || is_some (Operators.bit_and_operator t) || is_some (Operators.equality_operator t) || is_some (Operators.relational_operator t)
    || is_some (Operators.in_operator t) || is_some (Operators.shift_operator t) || is_some (Operators.additive_operator t)
    || is_some (Operators.multiplicative_operator t)

-- tokens that go on with one, unless it ends in a postfix operator
abbrev pub extends : TokenForm → Bool
extends t =
    is_some (Marks.left_parenthesis t) || is_some (Marks.left_bracket t) || is_some (Marks.dot t) || is_some (Operators.assignment_operator t)

-- the tokens that continue a statement: behind an expression, behind a name that `var` declares, and behind the end of a `do`
abbrev pub continues_expression : Option Token → TokenForm → Bool
continues_expression last t = joins t || extends t && not (is_postfix last)

abbrev pub continues_declared : TokenForm → Bool
continues_declared t = is_some (Marks.comma t) || is_some (Marks.equals t)

abbrev pub continues_do : TokenForm → Bool
continues_do t = false

-- A semicolon may be missing before `}`, at the end, and before a token on a later line that doesn't continue the statement.
abbrev pub may_end : (TokenForm → Bool) → List Token → Bool
may_end continues [] = true
may_end continues (t ∷ ts) = is_some (Marks.right_brace t.form) || t.line_before && not (continues t.form)

unfoldable pub ends : (Option Token → TokenForm → Bool) → Reading (Unit {0})
ends continues = next Marks.semicolon give (λ r.
    if may_end (continues r.last) r.tokens then Ok (tt, r) else Err (Syntax (place_of r.tokens r.end)))

-- whether a line end or the end of the text stands next
abbrev pub line_ends : Reading Bool
line_ends = do
  later ← on_later_line
  ended ← at_end
  give (later || ended)
