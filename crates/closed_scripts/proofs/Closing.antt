-- Closed code by its parts: an expression or a statement has neither an input nor a host call where none of its parts has.
use Rattle.std.proofs.Common.{◌≡◌, refl, ap, sym, ◌∙◌, ℕ, zero, suc, ◌+◌, List, [], ◌∷◌, map, arith}
use Rattle.std.specs.Prelude.{Option, Some, None, sum, IsTrue, nat_eq}
use Rattle.js_tree.specs.declared.expression.Expr.{Expr}
use Rattle.js_tree.specs.declared.expression.Field.{Field, out-Field}
use Rattle.js_tree.specs.declared.expression.ExprForm.{ExprForm, out-ExprForm}
use Rattle.js_tree.specs.declared.expression.ExprForm.TheOpen.{ExprForm-F, Field-F}
use Rattle.js_tree.specs.declared.expression.ExprForm.TheFolds.{map-ExprForm, map-Field, fold_out-ExprForm, fold_out-Expr, fold_out-Field}
use Rattle.js_tree.specs.declared.statement.Declarator.{Declarator}
use Rattle.js_tree.specs.declared.statement.ForStart.{ForStart}
use Rattle.js_tree.specs.declared.statement.ForStart.TheVariants as start
use Rattle.js_tree.specs.declared.statement.ForTarget.{ForTarget}
use Rattle.js_tree.specs.declared.statement.ForTarget.TheVariants as target
use Rattle.js_tree.specs.declared.statement.Stmt.{Stmt}
use Rattle.js_tree.specs.declared.statement.StmtForm.{StmtForm, out-StmtForm}
use Rattle.js_tree.specs.declared.statement.StmtForm.TheOpen.{StmtForm-F}
use Rattle.js_tree.specs.declared.statement.Case.{Case, out-Case}
use Rattle.js_tree.specs.declared.statement.Catch.{Catch, out-Catch}
use Rattle.js_tree.specs.declared.statement.Finally.{Finally, out-Finally}
use Rattle.js_tree.specs.declared.statement.Func.{Func}
use Rattle.js_tree.specs.declared.statement.StmtForm.TheFolds.{map-StmtForm, fold_out-StmtForm, fold_out-Case, fold_out-Catch, fold_out-Finally, fold_out-Stmt}
use Rattle.js_tree.specs.declared.statement.Script.{Script}
use Rattle.js_tree.specs.Early.{is_closed}
use Rattle.js_tree.specs.Weighed as weighed
use Rattle.std.proofs.lemmas.List.Sums.{sum_by-cons}
use Rattle.closed_scripts.specs.Known.{Each, none, also}
use Rattle.closed_scripts.proofs.Quiet.{Given, nothing, just}

-- how many inputs and host calls there are
abbrev in_expr : Expr → ℕ
in_expr = weighed.in_expr (record { node = 0; input = 1; host_call = 1 })

abbrev in_form : ExprForm → ℕ
in_form = weighed.in_form (record { node = 0; input = 1; host_call = 1 })

abbrev in_field : Field → ℕ
in_field = weighed.in_field (record { node = 0; input = 1; host_call = 1 })

abbrev in_stmt : Stmt → ℕ
in_stmt = weighed.in_stmt (record { node = 0; input = 1; host_call = 1 })

abbrev in_case : Case → ℕ
in_case = weighed.in_case (record { node = 0; input = 1; host_call = 1 })

abbrev in_catch : Catch → ℕ
in_catch = weighed.in_catch (record { node = 0; input = 1; host_call = 1 })

abbrev in_finally : Finally → ℕ
in_finally = weighed.in_finally (record { node = 0; input = 1; host_call = 1 })

pub record ClosedExpr (e : Expr) : Type 0 where
  pub weight : in_expr e ≡ 0

pub record ClosedField (f : Field) : Type 0 where
  pub weight : in_field f ≡ 0

pub record ClosedStmt (s : Stmt) : Type 0 where
  pub weight : in_stmt s ≡ 0

pub record ClosedDeclarator (d : Declarator) : Type 0 where
  pub init : Given ClosedExpr d.init

pub record ClosedFunc (f : Func) : Type 0 where
  pub body : Each ClosedStmt f.body

pub record ClosedElement (e : Option Expr) : Type 0 where
  pub element : Given ClosedExpr e

-- ---- expressions: what is so of the parts of a closed one

abbrev pub ClosedForm : ExprForm-F ExprForm Field Expr → Type 0
ClosedForm (ExprForm-F.ArrayLit items) = Each ClosedElement items
ClosedForm (ExprForm-F.ObjectLit fields) = Each ClosedField fields
ClosedForm (ExprForm-F.Member object key) = ClosedExpr object
ClosedForm (ExprForm-F.Index object key) = ClosedExpr object × ClosedExpr key
ClosedForm (ExprForm-F.Call callee args) = ClosedExpr callee × Each ClosedExpr args
ClosedForm (ExprForm-F.New callee args) = ClosedExpr callee × Each ClosedExpr args
ClosedForm (ExprForm-F.Unary op a) = ClosedExpr a
ClosedForm (ExprForm-F.Binary op a b) = ClosedExpr a × ClosedExpr b
ClosedForm (ExprForm-F.Logic op a b) = ClosedExpr a × ClosedExpr b
ClosedForm (ExprForm-F.Conditional test a b) = ClosedExpr test × ClosedExpr a × ClosedExpr b
ClosedForm (ExprForm-F.Assign a op b) = ClosedExpr a × ClosedExpr b
ClosedForm (ExprForm-F.Step op a) = ClosedExpr a
ClosedForm (ExprForm-F.Comma a b) = ClosedExpr a × ClosedExpr b
ClosedForm (ExprForm-F.Input kind text) = ⊥
ClosedForm (ExprForm-F.HostCall kind text args) = ⊥
ClosedForm _ = Unit {0}

abbrev pub ClosedFieldForm : Field-F ExprForm Field Expr → Type 0
ClosedFieldForm (Field-F.Value at key e) = ClosedExpr e
ClosedFieldForm _ = Unit {0}

left_zero : (n m : ℕ) → n + m ≡ 0 → n ≡ 0
left_zero n m e = omega (arith, e)

right_zero : (n m : ℕ) → n + m ≡ 0 → m ≡ 0
right_zero n m e = omega (arith, e)

first_of : (a b : Expr) → in_expr a + in_expr b ≡ 0 → ClosedExpr a
first_of a b e = record { weight = left_zero (in_expr a) (in_expr b) e }

second_of : (a b : Expr) → in_expr a + in_expr b ≡ 0 → ClosedExpr b
second_of a b e = record { weight = right_zero (in_expr a) (in_expr b) e }

both_of : (a b : Expr) → in_expr a + in_expr b ≡ 0 → ClosedExpr a × ClosedExpr b
both_of a b e = (first_of a b e, second_of a b e)

each_of : {A : Type 0} {Is : A → Type 0} (f : A → ℕ) → ((a : A) → f a ≡ 0 → Is a) → (xs : List A) → sum (map f xs) ≡ 0 → Each Is xs
each_of f h [] e = none
each_of f h (x ∷ xs) e =
    let both = sym (sum_by-cons (λ k. k) (f x) (map f xs)) ∙ e in
    also (h x (left_zero (f x) (sum (map f xs)) both)) (each_of f h xs (right_zero (f x) (sum (map f xs)) both))

exprs_of : (es : List Expr) → sum (map in_expr es) ≡ 0 → Each ClosedExpr es
exprs_of = each_of in_expr (λ a e. record { weight = e })

maybe_of : (o : Option Expr) → weighed.in_maybe (record { node = 0; input = 1; host_call = 1 }) o ≡ 0 → Given ClosedExpr o
maybe_of None e = nothing
maybe_of (Some x) e = just (record { weight = e })

element_of : (g : Option Expr → Option ℕ) → ((x : Expr) → g (Some x) ≡ Some (in_expr x)) → (o : Option Expr) → weighed.or_zero (g o) ≡ 0 → ClosedElement o
element_of g h None e = record { element = nothing }
element_of g h (Some x) e = record { element = just (record { weight = ap weighed.or_zero (sym (h x)) ∙ e }) }

elements_of : (g : Option Expr → Option ℕ) → ((x : Expr) → g (Some x) ≡ Some (in_expr x)) → (items : List (Option Expr)) → sum (map weighed.or_zero (map g items)) ≡ 0 → Each ClosedElement items
elements_of g h [] e = none
elements_of g h (x ∷ xs) e =
    let both = sym (sum_by-cons (λ k. k) (weighed.or_zero (g x)) (map weighed.or_zero (map g xs))) ∙ e in
    also (element_of g h x (left_zero (weighed.or_zero (g x)) (sum (map weighed.or_zero (map g xs))) both)) (elements_of g h xs (right_zero (weighed.or_zero (g x)) (sum (map weighed.or_zero (map g xs))) both))

in_layer : ExprForm-F ExprForm Field Expr → ℕ
in_layer x = weighed.of_form (record { node = 0; input = 1; host_call = 1 }) (map-ExprForm ExprForm Field Expr ℕ ℕ ℕ in_form in_field in_expr x)

call_of : (callee : Expr) (args : List Expr) → in_expr callee + sum (map in_expr args) ≡ 0 → ClosedExpr callee × Each ClosedExpr args
call_of callee args e = (record { weight = left_zero (in_expr callee) (sum (map in_expr args)) e }, exprs_of args (right_zero (in_expr callee) (sum (map in_expr args)) e))

parts_of : (x : ExprForm-F ExprForm Field Expr) → in_layer x ≡ 0 → ClosedForm x
unfolding in_layer
parts_of ExprForm-F.This e = tt
parts_of (ExprForm-F.Name text) e = tt
parts_of (ExprForm-F.Literal value) e = tt
parts_of (ExprForm-F.ArrayLit items) e = elements_of _ (λ x. refl) items e
parts_of (ExprForm-F.ObjectLit fields) e = each_of in_field (λ a e. record { weight = e }) fields e
parts_of (ExprForm-F.Func f) e = tt
parts_of (ExprForm-F.Member object key) e = record { weight = e }
parts_of (ExprForm-F.Index object key) e = both_of object key e
parts_of (ExprForm-F.Call callee args) e = call_of callee args e
parts_of (ExprForm-F.New callee args) e = call_of callee args e
parts_of (ExprForm-F.Unary op a) e = record { weight = e }
parts_of (ExprForm-F.Binary op a b) e = both_of a b e
parts_of (ExprForm-F.Logic op a b) e = both_of a b e
parts_of (ExprForm-F.Conditional test a b) e =
    let front = left_zero (in_expr test + in_expr a) (in_expr b) e in (first_of test a front, second_of test a front, record { weight = right_zero (in_expr test + in_expr a) (in_expr b) e })
parts_of (ExprForm-F.Assign a op b) e = both_of a b e
parts_of (ExprForm-F.Step op a) e = record { weight = e }
parts_of (ExprForm-F.Comma a b) e = both_of a b e
parts_of (ExprForm-F.Input kind text) e = absurd (omega (arith, e))
parts_of (ExprForm-F.HostCall kind text args) e = absurd (omega (arith, e))

pub closed_parts : (e : Expr) → ClosedExpr e → ClosedForm (out-ExprForm e.form)
unfolding in_layer
closed_parts e closed = parts_of (out-ExprForm e.form) (left_zero (in_layer (out-ExprForm e.form)) 0 (ap (λ n. n + 0) (sym (fold_out-ExprForm ℕ ℕ ℕ _ _ _ e.form)) ∙ sym (fold_out-Expr ℕ ℕ ℕ _ _ _ e) ∙ closed.weight))

field_parts_of : (x : Field-F ExprForm Field Expr) → weighed.of_field (record { node = 0; input = 1; host_call = 1 }) (map-Field ExprForm Field Expr ℕ ℕ ℕ in_form in_field in_expr x) ≡ 0 → ClosedFieldForm x
field_parts_of (Field-F.Value at key x) e = record { weight = e }
field_parts_of (Field-F.Getter at key f) e = tt
field_parts_of (Field-F.Setter at key f) e = tt

pub closed_field : (f : Field) → ClosedField f → ClosedFieldForm (out-Field f)
closed_field f closed = field_parts_of (out-Field f) (sym (fold_out-Field ℕ ℕ ℕ _ _ _ f) ∙ closed.weight)

-- ---- statements

abbrev in_stmt_form : StmtForm → ℕ
in_stmt_form = weighed.in_stmt_form (record { node = 0; input = 1; host_call = 1 })

none_is : (n : ℕ) → IsTrue (nat_eq n 0) → n ≡ 0
none_is zero is = refl
none_is (suc n) is = grind (arith, is)

abbrev pub ClosedCase : Case → Type 0
ClosedCase c = Given ClosedExpr (out-Case c).test × Each ClosedStmt (out-Case c).body

pub record ClosedClause (c : Case) : Type 0 where
  pub parts : ClosedCase c

abbrev pub ClosedStart : ForStart → Type 0
ClosedStart start.Nothing = Unit {0}
ClosedStart (start.Expr e) = ClosedExpr e
ClosedStart (start.Var ds) = Each ClosedDeclarator ds

abbrev pub ClosedTarget : ForTarget → Type 0
ClosedTarget (target.Expr e) = ClosedExpr e
ClosedTarget (target.Var at name) = Unit {0}

pub record ClosedCatch (c : Catch) : Type 0 where
  pub body : Each ClosedStmt (out-Catch c).body

pub record ClosedFinally (f : Finally) : Type 0 where
  pub body : Each ClosedStmt (out-Finally f).body

abbrev pub ClosedStmtForm : StmtForm-F StmtForm Case Catch Finally Stmt → Type 0
ClosedStmtForm (StmtForm-F.Var ds) = Each ClosedDeclarator ds
ClosedStmtForm (StmtForm-F.Eval e) = ClosedExpr e
ClosedStmtForm (StmtForm-F.Block body) = Each ClosedStmt body
ClosedStmtForm (StmtForm-F.If test a b) = ClosedExpr test × ClosedStmt a × Given ClosedStmt b
ClosedStmtForm (StmtForm-F.DoWhile body test) = ClosedStmt body × ClosedExpr test
ClosedStmtForm (StmtForm-F.While test body) = ClosedExpr test × ClosedStmt body
ClosedStmtForm (StmtForm-F.For from test step body) = ClosedStart from × Given ClosedExpr test × Given ClosedExpr step × ClosedStmt body
ClosedStmtForm (StmtForm-F.ForIn to e body) = ClosedTarget to × ClosedExpr e × ClosedStmt body
ClosedStmtForm (StmtForm-F.Return e) = Given ClosedExpr e
ClosedStmtForm (StmtForm-F.Switch e cases) = ClosedExpr e × Each ClosedClause cases
ClosedStmtForm (StmtForm-F.Throw e) = ClosedExpr e
ClosedStmtForm (StmtForm-F.Try body handler final) = Each ClosedStmt body × Given ClosedCatch handler × Given ClosedFinally final
ClosedStmtForm _ = Unit {0}

weigh_maybe : Option Expr → ℕ
weigh_maybe o = weighed.in_maybe (record { node = 0; input = 1; host_call = 1 }) o

stmts_of : (body : List Stmt) → sum (map in_stmt body) ≡ 0 → Each ClosedStmt body
stmts_of = each_of in_stmt (λ a e. record { weight = e })

declarators_of : (ds : List Declarator) → weighed.in_declarators (record { node = 0; input = 1; host_call = 1 }) ds ≡ 0 → Each ClosedDeclarator ds
declarators_of ds e = each_of (λ (d : Declarator). weighed.in_maybe (record { node = 0; input = 1; host_call = 1 }) d.init) (λ d e. record { init = maybe_of d.init e }) ds e

start_of : (from : ForStart) → weighed.in_start (record { node = 0; input = 1; host_call = 1 }) from ≡ 0 → ClosedStart from
start_of start.Nothing e = tt
start_of (start.Expr x) e = record { weight = e }
start_of (start.Var ds) e = declarators_of ds e

target_of : (to : ForTarget) → weighed.in_target (record { node = 0; input = 1; host_call = 1 }) to ≡ 0 → ClosedTarget to
target_of (target.Expr x) e = record { weight = e }
target_of (target.Var at name) e = tt

case_layer : (c : Case) → in_case c ≡ weigh_maybe (out-Case c).test + sum (map in_stmt (out-Case c).body)
unfolding weigh_maybe
case_layer c = fold_out-Case ℕ ℕ ℕ ℕ ℕ _ _ _ _ _ c

clause_of : (c : Case) → in_case c ≡ 0 → ClosedClause c
unfolding weigh_maybe
clause_of c e =
    let both = sym (case_layer c) ∙ e in
    record { parts = (maybe_of (out-Case c).test (left_zero (weigh_maybe (out-Case c).test) (sum (map in_stmt (out-Case c).body)) both), stmts_of (out-Case c).body (right_zero (weigh_maybe (out-Case c).test) (sum (map in_stmt (out-Case c).body)) both)) }

catch_of : (c : Catch) → in_catch c ≡ 0 → ClosedCatch c
catch_of c e = record { body = stmts_of (out-Catch c).body (sym (fold_out-Catch ℕ ℕ ℕ ℕ ℕ _ _ _ _ _ c) ∙ e) }

finally_of : (f : Finally) → in_finally f ≡ 0 → ClosedFinally f
finally_of f e = record { body = stmts_of (out-Finally f).body (sym (fold_out-Finally ℕ ℕ ℕ ℕ ℕ _ _ _ _ _ f) ∙ e) }

in_stmt_layer : StmtForm-F StmtForm Case Catch Finally Stmt → ℕ
in_stmt_layer x = weighed.of_stmt_form (record { node = 0; input = 1; host_call = 1 }) (map-StmtForm StmtForm Case Catch Finally Stmt ℕ ℕ ℕ ℕ ℕ in_stmt_form in_case in_catch in_finally in_stmt x)

stmt_parts_of : (x : StmtForm-F StmtForm Case Catch Finally Stmt) → in_stmt_layer x ≡ 0 → ClosedStmtForm x
unfolding in_stmt_layer weigh_maybe
stmt_parts_of (StmtForm-F.Var ds) e = declarators_of ds e
stmt_parts_of (StmtForm-F.FuncDecl f) e = tt
stmt_parts_of (StmtForm-F.Eval x) e = record { weight = e }
stmt_parts_of (StmtForm-F.Block body) e = stmts_of body e
stmt_parts_of StmtForm-F.Empty e = tt
stmt_parts_of (StmtForm-F.If test a None) e =
    let front = left_zero (in_expr test + in_stmt a) 0 e in (record { weight = left_zero (in_expr test) (in_stmt a) front }, record { weight = right_zero (in_expr test) (in_stmt a) front }, nothing)
stmt_parts_of (StmtForm-F.If test a (Some b)) e =
    let front = left_zero (in_expr test + in_stmt a) (in_stmt b) e in
    (record { weight = left_zero (in_expr test) (in_stmt a) front }, record { weight = right_zero (in_expr test) (in_stmt a) front }, just (record { weight = right_zero (in_expr test + in_stmt a) (in_stmt b) e }))
stmt_parts_of (StmtForm-F.DoWhile body test) e = (record { weight = left_zero (in_stmt body) (in_expr test) e }, record { weight = right_zero (in_stmt body) (in_expr test) e })
stmt_parts_of (StmtForm-F.While test body) e = (record { weight = left_zero (in_expr test) (in_stmt body) e }, record { weight = right_zero (in_expr test) (in_stmt body) e })
stmt_parts_of (StmtForm-F.For from test step body) e =
    let s = weighed.in_start (record { node = 0; input = 1; host_call = 1 }) from in
    let three = left_zero (s + weigh_maybe test + weigh_maybe step) (in_stmt body) e in
    let two = left_zero (s + weigh_maybe test) (weigh_maybe step) three in
    (start_of from (left_zero s (weigh_maybe test) two), maybe_of test (right_zero s (weigh_maybe test) two), maybe_of step (right_zero (s + weigh_maybe test) (weigh_maybe step) three), record { weight = right_zero (s + weigh_maybe test + weigh_maybe step) (in_stmt body) e })
stmt_parts_of (StmtForm-F.ForIn to x body) e =
    let t = weighed.in_target (record { node = 0; input = 1; host_call = 1 }) to in
    let front = left_zero (t + in_expr x) (in_stmt body) e in
    (target_of to (left_zero t (in_expr x) front), record { weight = right_zero t (in_expr x) front }, record { weight = right_zero (t + in_expr x) (in_stmt body) e })
stmt_parts_of StmtForm-F.Continue e = tt
stmt_parts_of StmtForm-F.Break e = tt
stmt_parts_of (StmtForm-F.Return x) e = maybe_of x e
stmt_parts_of (StmtForm-F.Switch x cases) e = (record { weight = left_zero (in_expr x) (sum (map in_case cases)) e }, each_of in_case clause_of cases (right_zero (in_expr x) (sum (map in_case cases)) e))
stmt_parts_of (StmtForm-F.Throw x) e = record { weight = e }
stmt_parts_of (StmtForm-F.Try body None None) e = (stmts_of body (left_zero (sum (map in_stmt body)) 0 (left_zero (sum (map in_stmt body) + 0) 0 e)), nothing, nothing)
stmt_parts_of (StmtForm-F.Try body (Some c) None) e =
    let front = left_zero (sum (map in_stmt body) + in_catch c) 0 e in (stmts_of body (left_zero (sum (map in_stmt body)) (in_catch c) front), just (catch_of c (right_zero (sum (map in_stmt body)) (in_catch c) front)), nothing)
stmt_parts_of (StmtForm-F.Try body None (Some f)) e =
    let front = left_zero (sum (map in_stmt body) + 0) (in_finally f) e in (stmts_of body (left_zero (sum (map in_stmt body)) 0 front), nothing, just (finally_of f (right_zero (sum (map in_stmt body) + 0) (in_finally f) e)))
stmt_parts_of (StmtForm-F.Try body (Some c) (Some f)) e =
    let front = left_zero (sum (map in_stmt body) + in_catch c) (in_finally f) e in
    (stmts_of body (left_zero (sum (map in_stmt body)) (in_catch c) front), just (catch_of c (right_zero (sum (map in_stmt body)) (in_catch c) front)), just (finally_of f (right_zero (sum (map in_stmt body) + in_catch c) (in_finally f) e)))

pub closed_stmt_parts : (x : Stmt) → ClosedStmt x → ClosedStmtForm (out-StmtForm x.form)
unfolding in_stmt_layer
closed_stmt_parts x closed = stmt_parts_of (out-StmtForm x.form) (left_zero (in_stmt_layer (out-StmtForm x.form)) 0 (ap (λ n. n + 0) (sym (fold_out-StmtForm ℕ ℕ ℕ ℕ ℕ _ _ _ _ _ x.form)) ∙ sym (fold_out-Stmt ℕ ℕ ℕ ℕ ℕ _ _ _ _ _ x) ∙ closed.weight))

-- ---- scripts

pub closed_body : (s : Script) → IsTrue (is_closed s) → Each ClosedStmt s.body
unfolding is_closed
closed_body s closed = stmts_of s.body (left_zero (sum (map in_stmt s.body)) (sum (map (λ (f : Func). sum (map in_stmt f.body)) s.funcs)) (none_is (weighed.in_script (record { node = 0; input = 1; host_call = 1 }) s) closed))

pub closed_functions : (s : Script) → IsTrue (is_closed s) → Each ClosedFunc s.funcs
unfolding is_closed
closed_functions s closed = each_of (λ (f : Func). sum (map in_stmt f.body)) (λ f e. record { body = stmts_of f.body e }) s.funcs
    (right_zero (sum (map in_stmt s.body)) (sum (map (λ (f : Func). sum (map in_stmt f.body)) s.funcs)) (none_is (weighed.in_script (record { node = 0; input = 1; host_call = 1 }) s) closed))
