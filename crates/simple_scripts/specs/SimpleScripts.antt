-- Which scripts are simple: `var` statements whose initialisers are sums, however grouped.
use Rattle.std.specs.Prelude.{ℕ, ◌+◌, Bool, true, false, not, ◌&&◌, if◌then◌else◌, nat_le, Option, Some, None, pos}
use Rattle.std.specs.List.{list_all}
use Rattle.js_value.specs.declared.primitive.Primitive.TheVariants as primitive
use Rattle.js_value.specs.declared.operator.BinaryOp.TheVariants as binary
use Rattle.js_value.specs.declared.operator.UnaryOp.TheVariants as unary
use Rattle.js_tree.specs.declared.expression.Expr.{Expr, fold-Expr}
use Rattle.js_tree.specs.declared.expression.ExprForm.TheOpen.{ExprForm-F}
use Rattle.js_tree.specs.declared.statement.Declarator.{Declarator}
use Rattle.js_tree.specs.declared.statement.Stmt.{Stmt}
use Rattle.js_tree.specs.declared.statement.StmtForm.{out-StmtForm}
use Rattle.js_tree.specs.declared.statement.StmtForm.TheOpen.{StmtForm-F}
use Rattle.js_tree.specs.declared.statement.Script.{Script}
use Rattle.js_tree.specs.Parts.{has_functions}
use Rattle.simple_scripts.specs.SimpleNames.{greatest_literal, is_simple_name}
use Rattle.simple_scripts.specs.Simple.{reads_declared}

-- what an expression is as a sum
pub data Sum : Type 0 where
  NoSum : Sum
  LiteralAlone : Sum
  -- so many terms
  Terms : ℕ → Sum

abbrev pub joined : Sum → Sum → Sum
joined LiteralAlone LiteralAlone = Terms 2
joined LiteralAlone (Terms n) = Terms (1 + n)
joined (Terms m) LiteralAlone = Terms (m + 1)
joined (Terms m) (Terms n) = Terms (m + n)
joined _ _ = NoSum

abbrev pub negative : Sum → Sum
negative LiteralAlone = Terms 1
negative _ = NoSum

abbrev pub sum_form : ExprForm-F Sum (Unit {0}) Sum → Sum
sum_form (ExprForm-F.Literal (primitive.Number (pos n))) = if nat_le n greatest_literal then LiteralAlone else NoSum
sum_form (ExprForm-F.Name name) = if is_simple_name name then Terms 1 else NoSum
sum_form (ExprForm-F.Unary unary.Minus a) = negative a
sum_form (ExprForm-F.Binary binary.Add a b) = joined a b
sum_form (ExprForm-F.Binary binary.Sub a b) = joined a b
sum_form _ = NoSum

abbrev pub sum_in : Expr → Sum
sum_in = fold-Expr Sum (Unit {0}) Sum sum_form (λ f. tt) (λ e. e.form)

abbrev pub is_short : Sum → Bool
is_short NoSum = false
is_short LiteralAlone = true
is_short (Terms n) = nat_le n 20

abbrev pub is_simple_init : Option Expr → Bool
is_simple_init None = true
is_simple_init (Some e) = is_short (sum_in e)

abbrev pub is_simple_declarator : Declarator → Bool
is_simple_declarator d = is_simple_name d.name && is_simple_init d.init

abbrev pub is_simple_form : {A B C D E : Type 0} → StmtForm-F A B C D E → Bool
is_simple_form (StmtForm-F.Var ds) = list_all is_simple_declarator ds
is_simple_form _ = false

abbrev pub is_simple_statement : Stmt → Bool
is_simple_statement s = is_simple_form (out-StmtForm s.form)

-- `var` statements alone, with initialisers of one to twenty terms, simple names, and no name read that isn't declared
unfoldable pub is_simple : Script → Bool
is_simple s = not s.directive && not (has_functions s.funcs) && list_all is_simple_statement s.body && reads_declared s.body
