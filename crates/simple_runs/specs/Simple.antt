-- The rules of simple scripts, one for each form of their syntax.
use Rattle.std.specs.Prelude.{ℕ, List, [], ◌∷◌, fold, Option, Some, None, Result, ℤ}
use Rattle.js_value.specs.Numbers.{added, subtracted, negated}
use Rattle.js_value.specs.declared.place.Place.{Place}
use Rattle.js_value.specs.declared.primitive.Primitive.{Primitive}
use Rattle.js_value.specs.declared.primitive.Primitive.TheVariants as primitive
use Rattle.js_value.specs.declared.operator.BinaryOp.TheVariants as binary
use Rattle.js_value.specs.declared.operator.UnaryOp.TheVariants as unary
use Rattle.js_value.specs.declared.why.Why.{Why}
use Rattle.js_value.specs.declared.why.Why.TheVariants.{NotANumber}
use Rattle.js_tree.specs.declared.expression.Expr.{Expr, fold-Expr}
use Rattle.js_tree.specs.declared.expression.ExprForm.TheOpen.{ExprForm-F, Expr-F}
use Rattle.js_tree.specs.declared.statement.Declarator.{Declarator}
use Rattle.js_tree.specs.declared.statement.Stmt.{Stmt}
use Rattle.js_tree.specs.declared.statement.StmtForm.{out-StmtForm}
use Rattle.js_tree.specs.declared.statement.StmtForm.TheOpen.{StmtForm-F}
use Rattle.js_tree.specs.declared.statement.Script.{Script}
use Rattle.simple_scripts.specs.Simple.{declared_names}
use Rattle.simple_runs.specs.Events.{Heap, Tree, End, Run, ◌>>=◌, give, leave, no_rule, step, lookup, put, declare, change, or_no_rule, or_leave}

-- ---- 11: expressions

-- 9.3
abbrev pub to_number : Place → Primitive → Run ℤ
to_number at primitive.Undefined = leave NotANumber at
to_number at (primitive.Number n) = give n
to_number at _ = no_rule

-- 11.6: an operation on the numbers of two operands
abbrev pub arithmetic : Place → (ℤ → ℤ → Result ℤ Why) → Primitive → Primitive → Run Primitive
arithmetic at operation a b = do
  x ← to_number at a
  y ← to_number at b
  or_leave at (operation x y)

-- 11.1.2
unfoldable pub name_rule : List ℕ → Run Primitive
name_rule name = λ heap. or_no_rule (lookup name heap) heap

abbrev pub negation : Place → Primitive → Run Primitive
negation at a = do
  x ← to_number at a
  or_leave at (negated x)

-- 11.4.7
unfoldable pub minus_rule : Place → Run Primitive → Run Primitive
minus_rule at a = do
  value ← a
  negation at value

-- 11.6.1
unfoldable pub add_rule : Place → Run Primitive → Run Primitive → Run Primitive
add_rule at a b = do
  x ← a
  y ← b
  arithmetic at added x y

-- 11.6.2
unfoldable pub subtract_rule : Place → Run Primitive → Run Primitive → Run Primitive
subtract_rule at a b = do
  x ← a
  y ← b
  arithmetic at subtracted x y

abbrev pub form_rule : ExprForm-F (Place → Run Primitive) (Unit {0}) (Run Primitive) → Place → Run Primitive
form_rule (ExprForm-F.Literal value) at = give value
form_rule (ExprForm-F.Name name) at = name_rule name
form_rule (ExprForm-F.Unary unary.Minus a) at = minus_rule at a
form_rule (ExprForm-F.Binary binary.Add a b) at = add_rule at a b
form_rule (ExprForm-F.Binary binary.Sub a b) at = subtract_rule at a b
form_rule _ at = no_rule

-- each expression is a step
abbrev pub expr_rule : Expr-F (Place → Run Primitive) (Unit {0}) (Run Primitive) → Run Primitive
expr_rule e = step e.at (e.form e.at)

abbrev pub evaluation : Expr → Run Primitive
evaluation = fold-Expr (Place → Run Primitive) (Unit {0}) (Run Primitive) form_rule (λ f. tt) expr_rule

-- ---- 12: statements

-- 12.2: a declarator without an initialiser does nothing
unfoldable pub declarator_rule : List ℕ → Option Expr → Run (Unit {0})
declarator_rule name None = give tt
declarator_rule name (Some e) = do
  value ← evaluation e
  change (put name value)

abbrev pub in_turn : {A : Type 0} → (A → Run (Unit {0})) → List A → Run (Unit {0})
in_turn f [] = give tt
in_turn f (x ∷ xs) = do
  _ ← f x
  in_turn f xs

abbrev pub declarators_rule : List Declarator → Run (Unit {0})
declarators_rule ds = in_turn (λ (d : Declarator). declarator_rule d.name d.init) ds

abbrev pub statement_rule : {A B C D E : Type 0} → StmtForm-F A B C D E → Run (Unit {0})
statement_rule (StmtForm-F.Var ds) = declarators_rule ds
statement_rule _ = no_rule

-- each statement is a step
abbrev pub statement : Stmt → Run (Unit {0})
statement s = step s.at (statement_rule (out-StmtForm s.form))

-- 10.5: the names that the code declares are bound first, in the order of their first declarations
abbrev pub declared : List (List ℕ) → Heap
declared names = fold (λ heap name. declare name heap) [] names

-- 14: the global code
unfoldable pub script_tree : Script → Tree
script_tree s = in_turn statement s.body (declared (declared_names s.body)) (λ _ heap. End heap)
