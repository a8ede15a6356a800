-- Code corresponds to itself, where the names around it are bound alike under the same names.
use Rattle.std.proofs.Common.{◌≡◌, refl, subst, ℕ, Bool, true, false, cond, List, [], ◌∷◌}
use Rattle.std.specs.Prelude.{◌&&◌, ◌||◌, slice_get, Option, Some, None}
use Rattle.std.specs.Cmp.Lexicographic.{nat_list_eq_equiv}
use Rattle.js_value.specs.Conversions.{is_same_text}
use Rattle.js_value.specs.declared.place.FuncNo.{FuncNo}
use Rattle.js_tree.specs.Mentions.{hoisted_functions}
use Rattle.js_tree.specs.declared.expression.Expr.{Expr}
use Rattle.js_tree.specs.declared.expression.Field.{Field, out-Field}
use Rattle.js_tree.specs.declared.expression.ExprForm.{ExprForm, out-ExprForm}
use Rattle.js_tree.specs.declared.expression.ExprForm.TheOpen.{ExprForm-F, Field-F}
use Rattle.js_tree.specs.declared.statement.Case.{Case, out-Case}
use Rattle.js_tree.specs.declared.statement.Catch.{Catch, out-Catch}
use Rattle.js_tree.specs.declared.statement.Declarator.{Declarator}
use Rattle.js_tree.specs.declared.statement.Finally.{Finally, out-Finally}
use Rattle.js_tree.specs.declared.statement.ForStart.{ForStart}
use Rattle.js_tree.specs.declared.statement.ForStart.TheVariants as start
use Rattle.js_tree.specs.declared.statement.ForTarget.{ForTarget}
use Rattle.js_tree.specs.declared.statement.ForTarget.TheVariants as target
use Rattle.js_tree.specs.declared.statement.Func.{Func}
use Rattle.js_tree.specs.declared.statement.Name.{Name}
use Rattle.js_tree.specs.declared.statement.Stmt.{Stmt}
use Rattle.js_tree.specs.declared.statement.StmtForm.{StmtForm, out-StmtForm}
use Rattle.js_tree.specs.declared.statement.StmtForm.TheOpen.{StmtForm-F}
use Rattle.js_machine.specs.Machine.Creating as C
use Rattle.related_states.specs.Related.{Correspondence, Names, are_named, BothOption, nothing, just, BothEach, none, also}
use Rattle.related_runs.specs.Codes.{Code, SameForm, both_this, both_name, both_literal, both_array, both_object, both_function, both_member, both_index, both_call, both_new, both_unary, both_binary, both_logic, both_conditional, both_assign, both_step, both_comma, both_input, both_host, SameFieldOf, same_value_field, same_getter_field, same_setter_field, SameInner, SameOwn, no_own, own, own_scope, SameFunc, inside}
use Rattle.related_runs.specs.Codes.{SameDeclarator, SameStart, start_nothing, start_expr, start_var, SameTarget, target_expr, target_var, same_clause, SameCases, SameCatch, SameFinally, SameStmtForm, both_var, both_declared, both_eval, both_block, both_empty, both_if, both_do, both_while, both_for, both_for_in, both_continue, both_break, both_return, both_switch, both_throw, both_try}
use Rattle.related_runs.specs.Itself.{Itself, Diagonal, no_more, one_more}
use Rattle.related_runs.proofs.Functions.{SameGlobal}
use Rattle.related_runs.proofs.Levels.{SameScript}
use Rattle.js_tree.specs.declared.statement.Script.{Script}

twice : (p b : Bool) → b ≡ true → cond (p || p) (p && p) b ≡ true
twice true b e = refl
twice false b e = e

pub named_self : {ns : Names} → Diagonal ns → (a : List ℕ) → are_named ns a a ≡ true
named_self no_more a = nat_list_eq_equiv.refl a
named_self (one_more n ns) a = twice (is_same_text n a) _ (named_self ns a)

pub inside_self : (ds : List (List ℕ)) {ns : Names} → Diagonal ns → Diagonal (inside ds ns)
inside_self [] ns = ns
inside_self (d ∷ ds) ns = one_more d (inside_self ds ns)

pub own_self : (o : Option Name) {ns : Names} → Diagonal ns → Diagonal (own_scope o ns)
own_self None ns = ns
own_self (Some n) ns = one_more n.text ns

pub own_name_self : (o : Option Name) → SameOwn o o
own_name_self None = no_own
own_name_self (Some n) = own refl

pub self_each : {A : Type 0} {Q : A → A → Type 0} → ((a : A) → Q a a) → (xs : List A) → BothEach Q xs xs
self_each h [] = none
self_each h (y ∷ ys) = also (h y) (self_each h ys)

pub self_option : {A : Type 0} {Q : A → A → Type 0} → ((a : A) → Q a a) → (o : Option A) → BothOption Q o o
self_option h None = nothing
self_option h (Some a) = just (h a)

module _ (x : Correspondence) (functions : List Func) (make : (ns : Names) → Diagonal ns → (f : FuncNo) → x.Functions ns f f) (take : (ns : Names) (f g : FuncNo) → x.Functions ns f g → Itself ns f g) where
  abbrev X : Names → Expr → Expr → Type 0
  X ns e f = Itself ns e f

  abbrev Y : Names → Stmt → Stmt → Type 0
  Y ns s t = Itself ns s t

  module _ {ns : Names} (d : Diagonal ns) where
    me : {A : Type 0} (a : A) → Itself ns a a
    me a = record { names = d; same = refl }

    self_inner : {ms : Names} → Diagonal ms → (f : FuncNo) → SameInner x functions functions ms f f
    self_inner e f = record { function = make _ e f; strict = λ s. refl }

    self_field : (f : Field-F ExprForm Field Expr) → SameFieldOf x functions functions X ns f f
    self_field (Field-F.Value at key e) = same_value_field key (me e)
    self_field (Field-F.Getter at key f) = same_getter_field key (self_inner d f)
    self_field (Field-F.Setter at key f) = same_setter_field key (self_inner d f)

    self_form : (f : ExprForm-F ExprForm Field Expr) → SameForm x functions functions X ns f f
    self_form ExprForm-F.This = both_this
    self_form (ExprForm-F.Name name) = both_name (named_self d name)
    self_form (ExprForm-F.Literal p) = both_literal p
    self_form (ExprForm-F.ArrayLit es) = both_array (self_each (self_option me) es)
    self_form (ExprForm-F.ObjectLit fs) = both_object (self_each (λ f. record { form = self_field (out-Field f) }) fs)
    self_form (ExprForm-F.Func f) = both_function (record { own = own_name_self (C.name_of (slice_get functions f.0)); inner = self_inner (own_self (C.name_of (slice_get functions f.0)) d) f })
    self_form (ExprForm-F.Member e key) = both_member (me e) key
    self_form (ExprForm-F.Index e i) = both_index (me e) (me i)
    self_form (ExprForm-F.Call e es) = both_call (me e) (self_each me es)
    self_form (ExprForm-F.New e es) = both_new (me e) (self_each me es)
    self_form (ExprForm-F.Unary op e) = both_unary op (me e)
    self_form (ExprForm-F.Binary op e i) = both_binary op (me e) (me i)
    self_form (ExprForm-F.Logic op e i) = both_logic op (me e) (me i)
    self_form (ExprForm-F.Conditional e i k) = both_conditional (me e) (me i) (me k)
    self_form (ExprForm-F.Assign e op i) = both_assign op (me e) (me i)
    self_form (ExprForm-F.Step op e) = both_step op (me e)
    self_form (ExprForm-F.Comma e i) = both_comma (me e) (me i)
    self_form (ExprForm-F.Input kind name) = both_input kind name
    self_form (ExprForm-F.HostCall kind name es) = both_host kind name (self_each me es)

    self_declarator : (e : Declarator) → SameDeclarator x functions functions X Y ns e e
    self_declarator e = record { name = named_self d e.name; init = self_option me e.init }

    self_start : (f : ForStart) → SameStart x functions functions X Y ns f f
    self_start start.Nothing = start_nothing
    self_start (start.Expr e) = start_expr (me e)
    self_start (start.Var ds) = start_var (self_each self_declarator ds)

    self_target : (f : ForTarget) → SameTarget x functions functions X Y ns f f
    self_target (target.Expr e) = target_expr (me e)
    self_target (target.Var at name) = target_var (named_self d name)

    self_case : (c : Case) → SameCases x functions functions X Y ns c c
    self_case c = record { clause = same_clause (self_option me (out-Case c).test) (self_each me (out-Case c).body) }

    self_catch : (c : Catch) → SameCatch x functions functions X Y ns c c
    self_catch c = record { name = refl; body = self_each (λ s. record { names = one_more (out-Catch c).name d; same = refl }) (out-Catch c).body }

    self_finally : (c : Finally) → SameFinally x functions functions X Y ns c c
    self_finally c = record { body = self_each me (out-Finally c).body }

    self_stmt : (f : StmtForm-F StmtForm Case Catch Finally Stmt) → SameStmtForm x functions functions X Y ns f f
    self_stmt (StmtForm-F.Var ds) = both_var (self_each self_declarator ds)
    self_stmt (StmtForm-F.FuncDecl f) = both_declared f f
    self_stmt (StmtForm-F.Eval e) = both_eval (me e)
    self_stmt (StmtForm-F.Block ss) = both_block (self_each me ss)
    self_stmt StmtForm-F.Empty = both_empty
    self_stmt (StmtForm-F.If e s t) = both_if (me e) (me s) (self_option me t)
    self_stmt (StmtForm-F.DoWhile s e) = both_do (me s) (me e)
    self_stmt (StmtForm-F.While e s) = both_while (me e) (me s)
    self_stmt (StmtForm-F.For f e i s) = both_for (self_start f) (self_option me e) (self_option me i) (me s)
    self_stmt (StmtForm-F.ForIn f e s) = both_for_in (self_target f) (me e) (me s)
    self_stmt StmtForm-F.Continue = both_continue
    self_stmt StmtForm-F.Break = both_break
    self_stmt (StmtForm-F.Return e) = both_return (self_option me e)
    self_stmt (StmtForm-F.Switch e cs) = both_switch (me e) (self_each self_case cs)
    self_stmt (StmtForm-F.Throw e) = both_throw (me e)
    self_stmt (StmtForm-F.Try ss c f) = both_try (self_each me ss) (self_option self_catch c) (self_option self_finally f)

    self_function : (f : Func) → SameFunc x functions functions Y ns f f
    self_function f =
        let within = inside_self (C.declared_names functions f) d in record {
          parameters = self_each (λ (p : Name). record { named = named_self within p.text }) f.params;
          declared = refl;
          hoisted = self_each (λ g. record { inner = self_inner within g; named = self_each (λ a. named_self within a) (C.function_name functions g) }) (hoisted_functions f.body);
          body = self_each (λ s. record { names = within; same = refl }) f.body;
        }

  pub self_code : Code x functions functions
  self_code = record {
    Exprs = X;
    Stmts = Y;
    form = λ ns e f h. subst (λ f. SameForm x functions functions X ns (out-ExprForm e.form) (out-ExprForm f.form)) h.same (self_form h.names (out-ExprForm e.form));
    stmt_form = λ ns s t h. subst (λ t. SameStmtForm x functions functions X Y ns (out-StmtForm s.form) (out-StmtForm t.form)) h.same (self_stmt h.names (out-StmtForm s.form));
    called = λ ns f g h. let same = take ns f g h in
        subst (λ g. BothOption (SameFunc x functions functions Y ns) (slice_get functions f.0) (slice_get functions g.0)) same.same (self_option (self_function same.names) (slice_get functions f.0));
  }

  pub self_global : (ss : List Stmt) → SameGlobal x self_code ss ss
  unfolding self_code
  self_global ss = record {
    hoisted = self_each (λ g. record { inner = record { function = make [] no_more g; strict = λ s. refl }; name = refl }) (hoisted_functions ss);
    variables = refl;
    body = self_each (λ s. record { names = no_more; same = refl }) ss;
  }

-- a script and itself
pub same_script : (x : Correspondence) (s : Script) → ((ns : Names) → Diagonal ns → (f : FuncNo) → x.Functions ns f f) → ((ns : Names) (f g : FuncNo) → x.Functions ns f g → Itself ns f g) → SameScript x s s
same_script x s make take = record { code = self_code x s.funcs make take; strict = refl; body = self_global x s.funcs make take s.body }
