-- A layer whose parts correspond in one way, where they then do in another, and the functions that it names as well.
use Rattle.std.proofs.Common.{List}
use Rattle.std.specs.Prelude.{Option}
use Rattle.js_value.specs.declared.place.FuncNo.{FuncNo}
use Rattle.js_tree.specs.declared.expression.Expr.{Expr}
use Rattle.js_tree.specs.declared.expression.Field.{Field}
use Rattle.js_tree.specs.declared.expression.ExprForm.{ExprForm}
use Rattle.js_tree.specs.declared.expression.ExprForm.TheOpen.{ExprForm-F, Field-F}
use Rattle.js_tree.specs.declared.statement.Case.{Case}
use Rattle.js_tree.specs.declared.statement.Catch.{Catch}
use Rattle.js_tree.specs.declared.statement.Declarator.{Declarator}
use Rattle.js_tree.specs.declared.statement.Finally.{Finally}
use Rattle.js_tree.specs.declared.statement.ForStart.{ForStart}
use Rattle.js_tree.specs.declared.statement.ForTarget.{ForTarget}
use Rattle.js_tree.specs.declared.statement.Func.{Func}
use Rattle.js_tree.specs.declared.statement.Stmt.{Stmt}
use Rattle.js_tree.specs.declared.statement.StmtForm.{StmtForm}
use Rattle.js_tree.specs.declared.statement.StmtForm.TheOpen.{StmtForm-F}
use Rattle.js_machine.specs.Machine.Statements as S
use Rattle.related_states.specs.Related.{Correspondence, Names, BothOption, nothing, just, BothEach, none, also}
use Rattle.related_runs.specs.Codes.{SameForm, both_this, both_name, both_literal, both_array, both_object, both_function, both_member, both_index, both_call, both_new, both_unary, both_binary, both_logic, both_conditional, both_assign, both_step, both_comma, both_input, both_host, SameFieldOf, SameFields, same_value_field, same_getter_field, same_setter_field, SameClosure, SameInner, SameDeclarator, SameStart, start_nothing, start_expr, start_var, SameTarget, target_expr, target_var, SameClause, same_clause, SameCases, SameCatch, SameFinally, SameStmtForm, both_var, both_declared, both_eval, both_block, both_empty, both_if, both_do, both_while, both_for, both_for_in, both_continue, both_break, both_return, both_switch, both_throw, both_try}

pub option_to : {A B : Type 0} {R Q : A → B → Type 0} → ((a : A) (b : B) → R a b → Q a b) → {a : Option A} {b : Option B} → BothOption R a b → BothOption Q a b
option_to h nothing = nothing
option_to h (just r) = just (h _ _ r)

pub each_to : {A B : Type 0} {R Q : A → B → Type 0} → ((a : A) (b : B) → R a b → Q a b) → {xs : List A} {ys : List B} → BothEach R xs ys → BothEach Q xs ys
each_to h none = none
each_to h (also r all) = also (h _ _ r) (each_to h all)

module _ {x y : Correspondence} {fs gs hs ks : List Func}
    (inner : (ns : Names) (f g : FuncNo) → SameInner x fs gs ns f g → SameInner y hs ks ns f g) (closure : (ns : Names) (f g : FuncNo) → SameClosure x fs gs ns f g → SameClosure y hs ks ns f g)
    {X Z : Names → Expr → Expr → Type 0} (to : (ns : Names) (e f : Expr) → X ns e f → Z ns e f) where
  module _ {ns : Names} where
    field_of : {f g : Field-F ExprForm Field Expr} → SameFieldOf x fs gs X ns f g → SameFieldOf y hs ks Z ns f g
    field_of (same_value_field key e) = same_value_field key (to _ _ _ e)
    field_of (same_getter_field key f) = same_getter_field key (inner _ _ _ f)
    field_of (same_setter_field key f) = same_setter_field key (inner _ _ _ f)

    fields_to : (f g : Field) → SameFields x fs gs X ns f g → SameFields y hs ks Z ns f g
    fields_to f g h = record { form = field_of h.form }

    pub form_to : {f g : ExprForm-F ExprForm Field Expr} → SameForm x fs gs X ns f g → SameForm y hs ks Z ns f g
    form_to both_this = both_this
    form_to (both_name named) = both_name named
    form_to (both_literal p) = both_literal p
    form_to (both_array es) = both_array (each_to (λ _ _ e. option_to (to ns) e) es)
    form_to (both_object fields) = both_object (each_to fields_to fields)
    form_to (both_function c) = both_function (closure _ _ _ c)
    form_to (both_member e key) = both_member (to _ _ _ e) key
    form_to (both_index e i) = both_index (to _ _ _ e) (to _ _ _ i)
    form_to (both_call e es) = both_call (to _ _ _ e) (each_to (to ns) es)
    form_to (both_new e es) = both_new (to _ _ _ e) (each_to (to ns) es)
    form_to (both_unary op e) = both_unary op (to _ _ _ e)
    form_to (both_binary op e i) = both_binary op (to _ _ _ e) (to _ _ _ i)
    form_to (both_logic op e i) = both_logic op (to _ _ _ e) (to _ _ _ i)
    form_to (both_conditional e i k) = both_conditional (to _ _ _ e) (to _ _ _ i) (to _ _ _ k)
    form_to (both_assign op e i) = both_assign op (to _ _ _ e) (to _ _ _ i)
    form_to (both_step op e) = both_step op (to _ _ _ e)
    form_to (both_comma e i) = both_comma (to _ _ _ e) (to _ _ _ i)
    form_to (both_input kind name) = both_input kind name
    form_to (both_host kind name es) = both_host kind name (each_to (to ns) es)

  module _ {Y W : Names → Stmt → Stmt → Type 0} (stmts : (ns : Names) (s t : Stmt) → Y ns s t → W ns s t) {ns : Names} where
    declarator_to : (d e : Declarator) → SameDeclarator x fs gs X Y ns d e → SameDeclarator y hs ks Z W ns d e
    declarator_to d e h = record { name = h.name; init = option_to (to ns) h.init }

    start_to : {f g : ForStart} → SameStart x fs gs X Y ns f g → SameStart y hs ks Z W ns f g
    start_to start_nothing = start_nothing
    start_to (start_expr e) = start_expr (to _ _ _ e)
    start_to (start_var ds) = start_var (each_to declarator_to ds)

    target_to : {f g : ForTarget} → SameTarget x fs gs X Y ns f g → SameTarget y hs ks Z W ns f g
    target_to (target_expr e) = target_expr (to _ _ _ e)
    target_to (target_var named) = target_var named

    clause_to : {c d : S.Clause} → SameClause x fs gs X Y ns c d → SameClause y hs ks Z W ns c d
    clause_to (same_clause test body) = same_clause (option_to (to ns) test) (each_to (stmts ns) body)

    case_to : (c d : Case) → SameCases x fs gs X Y ns c d → SameCases y hs ks Z W ns c d
    case_to c d h = record { clause = clause_to h.clause }

    catch_to : (c d : Catch) → SameCatch x fs gs X Y ns c d → SameCatch y hs ks Z W ns c d
    catch_to c d h = record { name = h.name; body = each_to (stmts _) h.body }

    finally_to : (f g : Finally) → SameFinally x fs gs X Y ns f g → SameFinally y hs ks Z W ns f g
    finally_to f g h = record { body = each_to (stmts ns) h.body }

    pub stmt_form_to : {f g : StmtForm-F StmtForm Case Catch Finally Stmt} → SameStmtForm x fs gs X Y ns f g → SameStmtForm y hs ks Z W ns f g
    stmt_form_to (both_var ds) = both_var (each_to declarator_to ds)
    stmt_form_to (both_declared f g) = both_declared f g
    stmt_form_to (both_eval e) = both_eval (to _ _ _ e)
    stmt_form_to (both_block body) = both_block (each_to (stmts ns) body)
    stmt_form_to both_empty = both_empty
    stmt_form_to (both_if e s t) = both_if (to _ _ _ e) (stmts _ _ _ s) (option_to (stmts ns) t)
    stmt_form_to (both_do s e) = both_do (stmts _ _ _ s) (to _ _ _ e)
    stmt_form_to (both_while e s) = both_while (to _ _ _ e) (stmts _ _ _ s)
    stmt_form_to (both_for from e i s) = both_for (start_to from) (option_to (to ns) e) (option_to (to ns) i) (stmts _ _ _ s)
    stmt_form_to (both_for_in target e s) = both_for_in (target_to target) (to _ _ _ e) (stmts _ _ _ s)
    stmt_form_to both_continue = both_continue
    stmt_form_to both_break = both_break
    stmt_form_to (both_return e) = both_return (option_to (to ns) e)
    stmt_form_to (both_switch e cases) = both_switch (to _ _ _ e) (each_to case_to cases)
    stmt_form_to (both_throw e) = both_throw (to _ _ _ e)
    stmt_form_to (both_try body handler final) = both_try (each_to (stmts ns) body) (option_to catch_to handler) (option_to finally_to final)
