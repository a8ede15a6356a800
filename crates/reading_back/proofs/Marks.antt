-- Tokens by what they do around an expression: which go on with one, and which begin none.
use Rattle.std.specs.Prelude.{ℕ, ◌||◌, Bool, false, if◌then◌else◌, List, [], ◌∷◌, is_some}
use Rattle.js_tree.specs.declared.token.TokenForm.{TokenForm}
use Rattle.js_grammar.specs.Expressions as E
use Rattle.js_grammar.specs.Marks
use Rattle.js_grammar.specs.Operators
use Rattle.js_grammar.specs.Reading.{grammar}
use Rattle.js_grammar.specs.Statements.{beginning}
use Rattle.script_text.specs.Tokens.{Shape}

-- ---- the level at which a token goes on with an expression before it, or 0; a comma goes on with the loosest

abbrev pub joins_loose : TokenForm → ℕ
joins_loose t =
    if is_some (Operators.and_operator t) then 5
    else (if is_some (Operators.or_operator t) then 4
    else (if is_some (Marks.question t) then 3
    else (if is_some (Operators.assignment_operator t) then 2
    else (if is_some (Marks.comma t) then 1 else 0))))

abbrev pub joins_middle : Bool → TokenForm → ℕ
joins_middle allows_in t =
    if is_some (E.relational_operator grammar allows_in t) then 10
    else (if is_some (Operators.equality_operator t) then 9
    else (if is_some (Operators.bit_and_operator t) then 8
    else (if is_some (Operators.bit_xor_operator t) then 7
    else (if is_some (Operators.bit_or_operator t) then 6 else joins_loose t))))

abbrev pub joins_operand : Bool → TokenForm → ℕ
joins_operand allows_in t =
    if is_some (Operators.postfix_operator t) then 15
    else (if is_some (Operators.multiplicative_operator t) then 13
    else (if is_some (Operators.additive_operator t) then 12
    else (if is_some (Operators.shift_operator t) then 11 else joins_middle allows_in t)))

unfoldable pub joins : Bool → TokenForm → ℕ
joins allows_in t =
    if is_some (Marks.dot t) then 16
    else (if is_some (Marks.left_bracket t) then 16 else (if is_some (Marks.left_parenthesis t) then 16 else joins_operand allows_in t))

abbrev pub joins_first : Bool → List Shape → ℕ
joins_first allows_in [] = 0
joins_first allows_in (s ∷ ss) = joins allows_in s.form

-- ---- tokens that begin no expression

unfoldable pub begins_none : TokenForm → Bool
begins_none t =
    is_some (Marks.right_parenthesis t) || is_some (Marks.right_bracket t) || is_some (Marks.right_brace t) || is_some (Marks.comma t)
    || is_some (Marks.semicolon t) || is_some (Marks.in_word t) || is_some (Marks.case_word t) || is_some (Marks.default_word t)
    || is_some (Marks.else_word t) || is_some (Marks.finally_word t)

-- an operator before its operand (11.4)
unfoldable pub begins_unary : TokenForm → Bool
begins_unary t = is_some (Operators.unary_operator t) || is_some (Operators.prefix_step t)

-- a token that a statement begins with, but for `{` and `function`
unfoldable pub begins_statement : TokenForm → Bool
begins_statement t = if is_some (Marks.left_brace t) || is_some (Marks.function_word t) then false else is_some (beginning t)

-- a token that an expression statement can't begin with
unfoldable pub begins_other : TokenForm → Bool
begins_other t = is_some (Marks.left_brace t) || is_some (Marks.function_word t) || is_some (Marks.string t)
