-- Productions of the grammar that a reader has as calls of their own.
use Rattle.std.specs.Prelude.{if◌then◌else◌}
use Rattle.js_tree.specs.declared.expression.Expr.{Expr}
use Rattle.js_tree.specs.declared.expression.ExprForm.TheVariants as e
use Rattle.js_tree.specs.declared.statement.Name.{Name}
use Rattle.js_grammar.specs.Rest.{Reading, ◌>>=◌, ◌>>◌, give, next, expect, part, finish, on_later_line}
use Rattle.js_grammar.specs.Expressions as E
use Rattle.js_grammar.specs.Functions.{declared_name}
use Rattle.js_grammar.specs.Marks
use Rattle.js_grammar.specs.Operators

-- a postfix operator behind an operand, where there is one (11.3)
abbrev pub stepped : Expr → Reading Expr
stepped x = do
  later ← on_later_line
  if later then give x else next Operators.postfix_operator (λ op. E.if_target x (finish x.at (e.Step op x))) (give x)

-- the name of what was thrown, behind its parenthesis (12.14)
abbrev pub catch_name : Reading Name
catch_name = part (do
  name ← declared_name
  expect Marks.right_parenthesis
  give name)
