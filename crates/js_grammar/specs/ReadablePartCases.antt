-- Cases of parts in trees that reading can give, worked out by hand: a tree can be read where each of its parts can, and
-- its functions are in order where they are so from part to part. Names are of `_`, and each place is 0.
use Rattle.std.specs.Prelude.{◌≡◌, Bool, true, false, codes, List, [], ◌∷◌, map, Some, None}
use Rattle.js_value.specs.declared.operator.BinaryOp.TheVariants as binary
use Rattle.js_value.specs.declared.operator.UnaryOp.TheVariants as unary
use Rattle.js_value.specs.declared.primitive.Kind.TheVariants as kind
use Rattle.js_tree.specs.declared.expression.Expr.{Expr}
use Rattle.js_tree.specs.declared.expression.ExprForm.{ExprForm}
use Rattle.js_tree.specs.declared.expression.ExprForm.TheVariants as e
use Rattle.js_tree.specs.declared.expression.Field.TheVariants as field
use Rattle.js_tree.specs.declared.expression.LogicOp.TheVariants as logic
use Rattle.js_tree.specs.declared.expression.StepOp.TheVariants as step
use Rattle.js_tree.specs.declared.statement.ForStart.TheVariants as start
use Rattle.js_tree.specs.declared.statement.ForTarget.TheVariants as target
use Rattle.js_tree.specs.declared.statement.Script.{Script}
use Rattle.js_tree.specs.declared.statement.Stmt.{Stmt}
use Rattle.js_tree.specs.declared.statement.StmtForm.{StmtForm}
use Rattle.js_tree.specs.declared.statement.StmtForm.TheVariants as s
use Rattle.js_tree.specs.NameCases.{n, function, declaring, named, nameless}
use Rattle.js_tree.specs.Refusals.{place}
use Rattle.js_tree.specs.Trees.{expr, stmt, declarator, clause, handler, final, script}
use Rattle.js_grammar.specs.FunctionOrder.{are_in_source_order}
use Rattle.js_grammar.specs.Readable.{is_readable}
use Rattle.js_grammar.specs.ReadableCases.{only, does, low, empty}

-- the empty name, and a `var` without a declarator
abbrev pub no_name : Expr
no_name = n []

abbrev pub no_var : Stmt
no_var = stmt 0 (s.Var [])

-- ---- expressions with a part (11)

abbrev pub leaf_forms : List ExprForm
leaf_forms = e.This ∷ e.ArrayLit [] ∷ e.ArrayLit (None ∷ []) ∷ e.ObjectLit [] ∷ []

abbrev pub member_forms : Expr → List ExprForm
member_forms x =
    e.ArrayLit (None ∷ Some x ∷ [])
    ∷ e.ObjectLit (field.Value (place 0) (codes "_") low ∷ field.Value (place 0) (codes "_") x ∷ [])
    ∷ e.Member x (codes "_")
    ∷ e.Index x low
    ∷ e.Index low x
    ∷ []

abbrev pub call_forms : Expr → List ExprForm
call_forms x =
    e.Call x []
    ∷ e.Call low (low ∷ x ∷ [])
    ∷ e.New x []
    ∷ e.New low (low ∷ x ∷ [])
    ∷ e.HostCall kind.Number (codes "_") (low ∷ x ∷ [])
    ∷ []

abbrev pub operator_forms : Expr → List ExprForm
operator_forms x =
    e.Unary unary.Void x ∷ e.Binary binary.Add x low ∷ e.Binary binary.Add low x ∷ e.Logic logic.And x low ∷ e.Logic logic.And low x ∷ []

abbrev pub loose_forms : Expr → List ExprForm
loose_forms x =
    e.Conditional x low low ∷ e.Conditional low x low ∷ e.Conditional low low x ∷ e.Comma x low ∷ e.Comma low x ∷ []

abbrev pub assigning_forms : Expr → List ExprForm
assigning_forms x = e.Assign x None low ∷ e.Assign low None x ∷ e.Step step.PostDown x ∷ []

-- ---- statements with a part (12)

abbrev pub tested_forms : Expr → List StmtForm
tested_forms x =
    s.Var (declarator 0 (codes "_") None ∷ declarator 0 (codes "_") (Some x) ∷ [])
    ∷ s.If x empty None
    ∷ s.If x empty (Some empty)
    ∷ s.DoWhile empty x
    ∷ s.While x empty
    ∷ s.Switch x []
    ∷ s.Switch low (clause None [] ∷ clause (Some x) [] ∷ [])
    ∷ s.Throw x
    ∷ []

abbrev pub for_forms : Expr → List StmtForm
for_forms x =
    s.For (start.Expr x) None None empty
    ∷ s.For (start.Var (declarator 0 (codes "_") (Some x) ∷ [])) None None empty
    ∷ s.For start.Nothing (Some x) None empty
    ∷ s.For start.Nothing None (Some x) empty
    ∷ s.ForIn (target.Expr x) low empty
    ∷ s.ForIn (target.Var (place 0) (codes "_")) x empty
    ∷ []

abbrev pub holding_forms : Stmt → List StmtForm
holding_forms t =
    s.Block (empty ∷ t ∷ [])
    ∷ s.If low t None
    ∷ s.If low t (Some empty)
    ∷ s.If low empty (Some t)
    ∷ s.DoWhile t low
    ∷ s.While low t
    ∷ s.For start.Nothing None None t
    ∷ s.ForIn (target.Var (place 0) (codes "_")) low t
    ∷ []

abbrev pub closing_forms : Stmt → List StmtForm
closing_forms t =
    s.Switch low (clause (Some low) (empty ∷ t ∷ []) ∷ [])
    ∷ s.Switch low (clause None [] ∷ clause (Some low) (t ∷ []) ∷ [])
    ∷ s.Try (empty ∷ t ∷ []) None (Some (final []))
    ∷ s.Try [] (Some (handler 0 (codes "_") (t ∷ []))) None
    ∷ s.Try [] (Some (handler 0 (codes "_") [])) (Some (final (t ∷ [])))
    ∷ []

-- ---- scripts with a statement (14)

abbrev pub scripts : Stmt → List Script
scripts t =
    script (empty ∷ t ∷ []) []
    ∷ script (declaring 0 ∷ []) (named (codes "_") (empty ∷ t ∷ []) ∷ [])
    ∷ []

-- with it in the second of two functions
abbrev pub longer_scripts : Stmt → List Script
longer_scripts t =
    script (declaring 0 ∷ declaring 1 ∷ []) (named (codes "_") [] ∷ named (codes "_") (t ∷ []) ∷ [])
    ∷ script (declaring 0 ∷ []) (named (codes "_") (declaring 1 ∷ []) ∷ named (codes "_") (t ∷ []) ∷ [])
    ∷ []

abbrev pub returning : Expr → Stmt
returning x = stmt 0 (s.Return (Some x))

abbrev pub returns : Expr → List Script
returns x = script (declaring 0 ∷ []) (named (codes "_") (returning x ∷ []) ∷ []) ∷ []

-- all of them are readable, or none is
abbrev pub All : Bool → List Script → Type 0
All answer scripts = map is_readable scripts ≡ map (λ _. answer) scripts

-- ---- two expressions in source order

abbrev pub two_in_expressions : Expr → Expr → List StmtForm
two_in_expressions x y =
    map (λ form. s.Eval (expr 0 form))
    (e.ArrayLit (Some x ∷ None ∷ Some y ∷ [])
    ∷ e.ObjectLit (field.Value (place 0) (codes "_") x ∷ field.Value (place 0) (codes "_") y ∷ [])
    ∷ e.Index x y
    ∷ e.Call x (y ∷ [])
    ∷ e.Call low (x ∷ y ∷ [])
    ∷ e.New x (y ∷ [])
    ∷ e.HostCall kind.Number (codes "_") (x ∷ y ∷ [])
    ∷ e.Binary binary.Add x y
    ∷ e.Logic logic.Or x y
    ∷ e.Conditional x y low
    ∷ e.Conditional low x y
    ∷ e.Assign (expr 0 (e.Member x (codes "_"))) None y
    ∷ e.Comma (expr 0 (e.Unary unary.Void x)) (expr 0 (e.Step step.PreUp (expr 0 (e.Member y (codes "_")))))
    ∷ [])

abbrev pub as_statement : Expr → Stmt
as_statement x = stmt 0 (s.Eval x)

abbrev pub two_in_statements : Expr → Expr → List StmtForm
two_in_statements x y =
    s.Var (declarator 0 (codes "_") (Some x) ∷ declarator 0 (codes "_") (Some y) ∷ [])
    ∷ s.Block (as_statement x ∷ as_statement y ∷ [])
    ∷ s.If x (as_statement y) None
    ∷ s.If low (as_statement x) (Some (as_statement y))
    ∷ s.DoWhile (as_statement x) y
    ∷ s.While x (as_statement y)
    ∷ s.For (start.Expr x) (Some y) None empty
    ∷ s.For start.Nothing (Some x) (Some y) empty
    ∷ s.For (start.Var (declarator 0 (codes "_") (Some x) ∷ [])) None None (as_statement y)
    ∷ s.For start.Nothing None (Some x) (as_statement y)
    ∷ s.ForIn (target.Expr x) y empty
    ∷ s.ForIn (target.Var (place 0) (codes "_")) x (as_statement y)
    ∷ []

abbrev pub two_in_clauses : Expr → Expr → List StmtForm
two_in_clauses x y =
    s.Switch x (clause (Some y) [] ∷ [])
    ∷ s.Switch low (clause (Some x) (as_statement y ∷ []) ∷ [])
    ∷ s.Switch low (clause None (as_statement x ∷ []) ∷ clause (Some y) [] ∷ [])
    ∷ s.Try (as_statement x ∷ []) (Some (handler 0 (codes "_") (as_statement y ∷ []))) None
    ∷ s.Try [] (Some (handler 0 (codes "_") (as_statement x ∷ []))) (Some (final (as_statement y ∷ [])))
    ∷ s.Block (stmt 0 (s.Return (Some x)) ∷ stmt 0 (s.Throw y) ∷ [])
    ∷ []

-- whether two functions without a name and without code are in order in each of these
abbrev pub AreInOrder : Bool → List StmtForm → Type 0
AreInOrder answer forms =
    map (λ t. are_in_source_order (script (stmt 0 t ∷ []) (nameless [] ∷ nameless [] ∷ []))) forms ≡ map (λ _. answer) forms

pub record ReadablePartCases : Type 0 where
  pub leaves : All true (map only leaf_forms)
  pub members : All true (map only (member_forms low))
  pub no_members : All false (map only (member_forms no_name))
  pub calls : All true (map only (call_forms low))
  pub no_calls : All false (map only (call_forms no_name))
  pub operators : All true (map only (operator_forms low))
  pub no_operators : All false (map only (operator_forms no_name))
  pub loose : All true (map only (loose_forms low))
  pub no_loose : All false (map only (loose_forms no_name))
  pub assigning : All true (map only (assigning_forms low))
  pub no_assigning : All false (map only (assigning_forms no_name))
  pub tested : All true (map does (tested_forms low))
  pub no_tested : All false (map does (tested_forms no_name))
  pub for_headers : All true (map does (for_forms low))
  pub no_for_headers : All false (map does (for_forms no_name))
  pub holding : All true (map does (holding_forms empty))
  pub no_holding : All false (map does (holding_forms no_var))
  pub closing : All true (map does (closing_forms empty))
  pub no_closing : All false (map does (closing_forms no_var))
  pub in_scripts : All true (scripts empty)
  pub not_in_scripts : All false (scripts no_var)
  pub in_longer_scripts : All true (longer_scripts empty)
  pub not_in_longer_scripts : All false (longer_scripts no_var)
  pub returned : All true (returns low)
  pub not_returned : All false (returns no_name)
  pub expressions_in_order : AreInOrder true (two_in_expressions (function 0) (function 1))
  pub expressions_out_of_order : AreInOrder false (two_in_expressions (function 1) (function 0))
  pub statements_in_order : AreInOrder true (two_in_statements (function 0) (function 1))
  pub statements_out_of_order : AreInOrder false (two_in_statements (function 1) (function 0))
  pub clauses_in_order : AreInOrder true (two_in_clauses (function 0) (function 1))
  pub clauses_out_of_order : AreInOrder false (two_in_clauses (function 1) (function 0))
