-- A script behind two tables of functions whose codes correspond: its code behind the one corresponds to its code behind the other.
use Rattle.std.proofs.Common.{◌≡◌, inl, inr, refl, ap, sym, subst, ◌∙◌, ℕ, zero, suc, ◌+◌, Bool, List, [], ◌∷◌, ◌++◌, arith}
use Rattle.std.specs.Prelude.{length, map, slice_get, Option, Some, None}
use Rattle.std.specs.List.{flat_map}
use Rattle.std.specs.Option.{option_map}
use Rattle.js_value.specs.declared.place.FuncNo.{FuncNo}
use Rattle.js_tree.specs.Mentions.{hoisted_functions, hoisted_vars, distinct}
use Rattle.js_tree.specs.declared.expression.Expr.{Expr}
use Rattle.js_tree.specs.declared.expression.Field.{Field, out-Field}
use Rattle.js_tree.specs.declared.expression.ExprForm.{ExprForm, out-ExprForm}
use Rattle.js_tree.specs.declared.expression.ExprForm.TheFolds.{map-ExprForm, map-Field}
use Rattle.js_tree.specs.declared.expression.ExprForm.TheOpen.{ExprForm-F, Field-F}
use Rattle.js_tree.specs.declared.statement.Case.{Case, out-Case}
use Rattle.js_tree.specs.declared.statement.Catch.{Catch, out-Catch}
use Rattle.js_tree.specs.declared.statement.Declarator.{Declarator}
use Rattle.js_tree.specs.declared.statement.Finally.{Finally, out-Finally}
use Rattle.js_tree.specs.declared.statement.ForStart.{ForStart}
use Rattle.js_tree.specs.declared.statement.ForStart.TheVariants as start
use Rattle.js_tree.specs.declared.statement.ForTarget.{ForTarget}
use Rattle.js_tree.specs.declared.statement.ForTarget.TheVariants as target
use Rattle.js_tree.specs.declared.statement.Func.{Func}
use Rattle.js_tree.specs.declared.statement.Name.{Name}
use Rattle.js_tree.specs.declared.statement.Script.{Script}
use Rattle.js_tree.specs.declared.statement.Stmt.{Stmt}
use Rattle.js_tree.specs.declared.statement.StmtForm.{StmtForm, out-StmtForm}
use Rattle.js_tree.specs.declared.statement.StmtForm.TheFolds.{map-StmtForm}
use Rattle.js_tree.specs.declared.statement.StmtForm.TheOpen.{StmtForm-F}
use Rattle.js_machine.specs.Machine.Creating as C
use Rattle.related_states.specs.Related.{Correspondence, Names, BothOption, nothing, just, BothEach, none, also}
use Rattle.related_runs.specs.Codes.{inside, SameParameter, SameInner, SameClosure, SameFieldOf, SameFields, same_value_field, same_getter_field, same_setter_field, SameForm, both_this, both_name, both_literal, both_array, both_object, both_function, both_member, both_index, both_call, both_new, both_unary, both_binary, both_logic, both_conditional, both_assign, both_step, both_comma, both_input, both_host, SameDeclarator, SameStart, start_nothing, start_expr, start_var, SameTarget, target_expr, target_var, same_clause, SameCases, SameCatch, SameFinally, SameStmtForm, both_var, both_declared, both_eval, both_block, both_empty, both_if, both_do, both_while, both_for, both_for_in, both_continue, both_break, both_return, both_switch, both_throw, both_try, SameHoisted, SameFunc, Code, SameExprTo, SameStmtTo, SameStmt}
use Rattle.related_runs.specs.Itself.{Diagonal, no_more, one_more}
use Rattle.related_runs.specs.Starts.{BothThere, there, SameTables, with_later}
use Rattle.related_runs.proofs.Functions.{SameGlobal, SameGlobalFunction}
use Rattle.related_runs.proofs.Itself.{named_self, inside_self, own_self, own_name_self, self_each}
use Rattle.related_runs.proofs.Layers.{form_to, stmt_form_to, each_to}
use Rattle.related_runs.proofs.Levels.{SameScript}
use Rattle.related_runs.proofs.Moved.{Mover, mover, numbered_form, numbered_field, moved_declarator, moved_start, moved_target, moved_stmt, FormLayer, StmtLayer, items_of, moved_func, moved_script, vars_moved, functions_moved, number_is}

-- ---- tables

found_before : (fs more : List Func) (i : ℕ) (f : Func) → slice_get fs i ≡ Some f → slice_get (fs ++ more) i ≡ Some f
found_before [] more i f e = grind (arith, e)
found_before (y ∷ fs) more zero f e = e
found_before (y ∷ fs) more (suc i) f e = found_before fs more i f e

found_behind : (fs more : List Func) (j : ℕ) → slice_get (fs ++ more) (length fs + j) ≡ slice_get more j
found_behind [] more j = grind arith
found_behind (y ∷ fs) more j = grind (arith, found_behind fs more j)

found_moved : (p : Func → Func) (fs : List Func) (j : ℕ) → slice_get (map p fs) j ≡ option_map p (slice_get fs j)
found_moved p [] j = grind arith
found_moved p (f ∷ fs) zero = refl
found_moved p (f ∷ fs) (suc j) = found_moved p fs j

-- ---- the codes

module _ (x : Correspondence) (fs gs : List Func) (tables : SameTables x fs gs) (s : Script) where
  abbrev y : Correspondence
  y = with_later x fs gs

  abbrev m : Mover
  m = mover fs

  abbrev k : Mover
  k = mover gs

  abbrev hs : List Func
  hs = fs ++ map (moved_func m) s.funcs

  abbrev ks : List Func
  ks = gs ++ map (moved_func k) s.funcs

  -- the same part of the script, moved in both ways
  pub record Moved {A : Type 0} (p q : A → A) (ns : Names) (a b : A) : Type 0 where
    pub names : Diagonal ns
    pub of : A
    pub first : a ≡ p of
    pub second : b ≡ q of

  pub data Exprs (ns : Names) (e f : Expr) : Type 0 where
    old_expr : (n : ℕ) → SameExprTo x fs gs n ns e f → Exprs ns e f
    new_expr : Moved m.expr k.expr ns e f → Exprs ns e f

  pub data Stmts (ns : Names) (a b : Stmt) : Type 0 where
    old_stmt : (n : ℕ) → SameStmtTo x fs gs n ns a b → Stmts ns a b
    new_stmt : Moved m.stmt k.stmt ns a b → Stmts ns a b

  -- ---- code of the starts

  -- functions of the starts are found where they were
  record Kept (ns : Names) (f g : FuncNo) : Type 0 where
    one : Func
    two : Func
    first : slice_get fs f.0 ≡ Some one
    second : slice_get gs g.0 ≡ Some two
    same : SameFunc x fs gs (SameStmt x fs gs) ns one two

  kept : (ns : Names) (f g : FuncNo) → x.Functions ns f g → Kept ns f g
  kept ns f g h = by_there (slice_get fs f.0) (slice_get gs g.0) refl refl (tables.called ns f g h)
    where
      by_there : (a b : Option Func) → slice_get fs f.0 ≡ a → slice_get gs g.0 ≡ b → BothThere (SameFunc x fs gs (SameStmt x fs gs) ns) a b → Kept ns f g
      by_there _ _ e i (there {a = a} {b = b} same) = record { one = a; two = b; first = e; second = i; same = same }

  first_kept : (ns : Names) (f g : FuncNo) → x.Functions ns f g → slice_get hs f.0 ≡ slice_get fs f.0
  first_kept ns f g h = let l = kept ns f g h in found_before fs (map (moved_func m) s.funcs) f.0 l.one l.first ∙ sym l.first

  second_kept : (ns : Names) (f g : FuncNo) → x.Functions ns f g → slice_get ks g.0 ≡ slice_get gs g.0
  second_kept ns f g h = let l = kept ns f g h in found_before gs (map (moved_func k) s.funcs) g.0 l.two l.second ∙ sym l.second

  inner_kept : (ns : Names) (f g : FuncNo) → SameInner x fs gs ns f g → SameInner y hs ks ns f g
  inner_kept ns f g h = record { function = inl h.function; strict = λ b. rw (first_kept ns f g h.function, second_kept ns f g h.function) (h.strict b) }

  closure_kept : (ns : Names) (f g : FuncNo) → SameClosure x fs gs ns f g → SameClosure y hs ks ns f g
  closure_kept ns f g c =
      let e = first_kept _ f g c.inner.function in
      let i = second_kept _ f g c.inner.function in
      record { own = rw (e, i) c.own; inner = rw e (inner_kept _ f g c.inner) }

  form_kept : (n : ℕ) (ns : Names) (e f : Expr) → SameExprTo x fs gs n ns e f → SameForm y hs ks Exprs ns (out-ExprForm e.form) (out-ExprForm f.form)
  form_kept zero ns e f h = absurd h
  form_kept (suc n) ns e f h = form_to inner_kept closure_kept (λ ns e f h. old_expr n h) h

  stmt_kept : (n : ℕ) (ns : Names) (a b : Stmt) → SameStmtTo x fs gs n ns a b → SameStmtForm y hs ks Exprs Stmts ns (out-StmtForm a.form) (out-StmtForm b.form)
  stmt_kept zero ns a b h = absurd h
  stmt_kept (suc n) ns a b h = stmt_form_to inner_kept closure_kept (λ ns e f h. old_expr n h) (λ ns a b h. old_stmt n h) h

  names_first : {ns : Names} {xs ys : List FuncNo} → BothEach (SameHoisted x fs gs ns) xs ys → flat_map (C.function_name hs) xs ≡ flat_map (C.function_name fs) xs
  names_first none = refl
  names_first (also h all) = rw (first_kept _ _ _ h.inner.function, names_first all) refl

  names_second : {ns : Names} {xs ys : List FuncNo} → BothEach (SameHoisted x fs gs ns) xs ys → flat_map (C.function_name ks) ys ≡ flat_map (C.function_name gs) ys
  names_second none = refl
  names_second (also h all) = rw (second_kept _ _ _ h.inner.function, names_second all) refl

  hoisted_kept : (ns : Names) (f g : FuncNo) → SameHoisted x fs gs ns f g → SameHoisted y hs ks ns f g
  hoisted_kept ns f g h = record { inner = inner_kept ns f g h.inner; named = rw (first_kept _ _ _ h.inner.function, second_kept _ _ _ h.inner.function) h.named }

  func_kept : {ns : Names} {f g : Func} → SameFunc x fs gs (SameStmt x fs gs) ns f g → SameFunc y hs ks Stmts ns f g
  func_kept {ns = ns} {f = f} {g = g} h =
      let left : C.declared_names hs f ≡ C.declared_names fs f = ap (λ names. distinct (map (λ (p : Name). p.text) f.params ++ names ++ hoisted_vars f.body)) (names_first h.hoisted) in
      let right : C.declared_names ks g ≡ C.declared_names gs g = ap (λ names. distinct (map (λ (p : Name). p.text) g.params ++ names ++ hoisted_vars g.body)) (names_second h.hoisted) in
      let ms : Names = inside (C.declared_names fs f) ns in record {
        parameters = subst (λ ds. BothEach (SameParameter (inside ds ns)) f.params g.params) (sym left) h.parameters;
        declared = left ∙ h.declared ∙ sym right;
        hoisted = subst (λ ds. BothEach (SameHoisted y hs ks (inside ds ns)) (hoisted_functions f.body) (hoisted_functions g.body)) (sym left) (each_to (hoisted_kept ms) h.hoisted);
        body = subst (λ ds. BothEach (Stmts (inside ds ns)) f.body g.body) (sym left) (each_to (λ a b t. old_stmt t.height t.layers) h.body);
      }

  -- ---- code of the script

  first_moved : (f : FuncNo) → slice_get hs (m.number f).0 ≡ option_map (moved_func m) (slice_get s.funcs f.0)
  first_moved f = ap (λ (n : FuncNo). slice_get hs n.0) (number_is fs f) ∙ found_behind fs (map (moved_func m) s.funcs) f.0 ∙ found_moved (moved_func m) s.funcs f.0

  second_moved : (f : FuncNo) → slice_get ks (k.number f).0 ≡ option_map (moved_func k) (slice_get s.funcs f.0)
  second_moved f = ap (λ (n : FuncNo). slice_get ks n.0) (number_is gs f) ∙ found_behind gs (map (moved_func k) s.funcs) f.0 ∙ found_moved (moved_func k) s.funcs f.0

  strict_moved : (b : Bool) (o : Option Func) → C.is_strict_in b (option_map (moved_func m) o) ≡ C.is_strict_in b (option_map (moved_func k) o)
  strict_moved b None = refl
  strict_moved b (Some f) = refl

  name_moved : (l : Mover) (o : Option Func) → C.name_of (option_map (moved_func l) o) ≡ C.name_of o
  name_moved l None = refl
  name_moved l (Some f) = refl

  names_moved : (l : Mover) (o : Option Func) → C.own_names (option_map (moved_func l) o) ≡ C.own_names o
  names_moved l None = refl
  names_moved l (Some f) = refl

  first_name : (f : FuncNo) → C.function_name hs (m.number f) ≡ C.function_name s.funcs f
  first_name f = ap C.own_names (first_moved f) ∙ names_moved m (slice_get s.funcs f.0)

  second_name : (f : FuncNo) → C.function_name ks (k.number f) ≡ C.function_name s.funcs f
  second_name f = ap C.own_names (second_moved f) ∙ names_moved k (slice_get s.funcs f.0)

  module _ {ns : Names} (d : Diagonal ns) where
    inner_moved : (f : FuncNo) → SameInner y hs ks ns (m.number f) (k.number f)
    inner_moved f = record {
      function = inr (record { names = d; behind = f.0; first = number_is fs f; second = number_is gs f });
      strict = λ b. rw (first_moved f, second_moved f) (strict_moved b (slice_get s.funcs f.0));
    }

    moved_exprs : (es : List Expr) → BothEach (Exprs ns) (map m.expr es) (map k.expr es)
    moved_exprs [] = none
    moved_exprs (e ∷ es) = also (new_expr (record { names = d; of = e; first = refl; second = refl })) (moved_exprs es)

    moved_expr : (e : Expr) → Exprs ns (m.expr e) (k.expr e)
    moved_expr e = new_expr (record { names = d; of = e; first = refl; second = refl })

    moved_option : (o : Option Expr) → BothOption (Exprs ns) (option_map m.expr o) (option_map k.expr o)
    moved_option None = nothing
    moved_option (Some e) = just (moved_expr e)

    one_stmt : (t : Stmt) → Stmts ns (m.stmt t) (k.stmt t)
    one_stmt t = new_stmt (record { names = d; of = t; first = refl; second = refl })

    moved_stmts : (ts : List Stmt) → BothEach (Stmts ns) (map m.stmt ts) (map k.stmt ts)
    moved_stmts [] = none
    moved_stmts (t ∷ ts) = also (one_stmt t) (moved_stmts ts)

    moved_items : (es : List (Option Expr)) → BothEach (BothOption (Exprs ns)) (items_of (map-ExprForm ExprForm Field Expr ExprForm Field Expr m.form m.field m.expr (ExprForm-F.ArrayLit es)))
        (items_of (map-ExprForm ExprForm Field Expr ExprForm Field Expr k.form k.field k.expr (ExprForm-F.ArrayLit es)))
    moved_items [] = none
    moved_items (None ∷ es) = also nothing (moved_items es)
    moved_items (Some e ∷ es) = also (just (moved_expr e)) (moved_items es)

  closure_moved : {ns : Names} → Diagonal ns → (f : FuncNo) → SameClosure y hs ks ns (m.number f) (k.number f)
  closure_moved {ns = ns} d f =
      let name : C.name_of (slice_get hs (m.number f).0) ≡ C.name_of (slice_get s.funcs f.0) = ap C.name_of (first_moved f) ∙ name_moved m (slice_get s.funcs f.0) in
      let other : C.name_of (slice_get ks (k.number f).0) ≡ C.name_of (slice_get s.funcs f.0) = ap C.name_of (second_moved f) ∙ name_moved k (slice_get s.funcs f.0) in record {
        own = rw (name, other) (own_name_self (C.name_of (slice_get s.funcs f.0)));
        inner = rw name (inner_moved (own_self (C.name_of (slice_get s.funcs f.0)) d) f);
      }

  module _ {ns : Names} (d : Diagonal ns) where
    field_moved : (l : Field-F ExprForm Field Expr) → SameFieldOf y hs ks Exprs ns (numbered_field m.number (map-Field ExprForm Field Expr ExprForm Field Expr m.form m.field m.expr l))
        (numbered_field k.number (map-Field ExprForm Field Expr ExprForm Field Expr k.form k.field k.expr l))
    field_moved (Field-F.Value at key e) = same_value_field key (moved_expr d e)
    field_moved (Field-F.Getter at key f) = same_getter_field key (inner_moved d f)
    field_moved (Field-F.Setter at key f) = same_setter_field key (inner_moved d f)

    moved_fields : (l : List Field) → BothEach (SameFields y hs ks Exprs ns) (map m.field l) (map k.field l)
    moved_fields [] = none
    moved_fields (f ∷ l) = also (record { form = rw (m.field_out f, k.field_out f) (field_moved (out-Field f)) }) (moved_fields l)

    form_moved : (l : FormLayer) → SameForm y hs ks Exprs ns (numbered_form m.number (map-ExprForm ExprForm Field Expr ExprForm Field Expr m.form m.field m.expr l))
        (numbered_form k.number (map-ExprForm ExprForm Field Expr ExprForm Field Expr k.form k.field k.expr l))
    form_moved ExprForm-F.This = both_this
    form_moved (ExprForm-F.Name name) = both_name (named_self d name)
    form_moved (ExprForm-F.Literal p) = both_literal p
    form_moved (ExprForm-F.ArrayLit es) = both_array (moved_items d es)
    form_moved (ExprForm-F.ObjectLit l) = both_object (moved_fields l)
    form_moved (ExprForm-F.Func f) = both_function (closure_moved d f)
    form_moved (ExprForm-F.Member e key) = both_member (moved_expr d e) key
    form_moved (ExprForm-F.Index e i) = both_index (moved_expr d e) (moved_expr d i)
    form_moved (ExprForm-F.Call e es) = both_call (moved_expr d e) (moved_exprs d es)
    form_moved (ExprForm-F.New e es) = both_new (moved_expr d e) (moved_exprs d es)
    form_moved (ExprForm-F.Unary op e) = both_unary op (moved_expr d e)
    form_moved (ExprForm-F.Binary op e i) = both_binary op (moved_expr d e) (moved_expr d i)
    form_moved (ExprForm-F.Logic op e i) = both_logic op (moved_expr d e) (moved_expr d i)
    form_moved (ExprForm-F.Conditional e i j) = both_conditional (moved_expr d e) (moved_expr d i) (moved_expr d j)
    form_moved (ExprForm-F.Assign e op i) = both_assign op (moved_expr d e) (moved_expr d i)
    form_moved (ExprForm-F.Step op e) = both_step op (moved_expr d e)
    form_moved (ExprForm-F.Comma e i) = both_comma (moved_expr d e) (moved_expr d i)
    form_moved (ExprForm-F.Input kind name) = both_input kind name
    form_moved (ExprForm-F.HostCall kind name es) = both_host kind name (moved_exprs d es)

    moved_declarators : (ds : List Declarator) → BothEach (SameDeclarator y hs ks Exprs Stmts ns) (map (moved_declarator m.number m.expr) ds) (map (moved_declarator k.number k.expr) ds)
    moved_declarators [] = none
    moved_declarators (e ∷ ds) = also (record { name = named_self d e.name; init = moved_option d e.init }) (moved_declarators ds)

    start_moved : (from : ForStart) → SameStart y hs ks Exprs Stmts ns (moved_start m.number m.expr from) (moved_start k.number k.expr from)
    start_moved start.Nothing = start_nothing
    start_moved (start.Expr e) = start_expr (moved_expr d e)
    start_moved (start.Var ds) = start_var (moved_declarators ds)

    target_moved : (to : ForTarget) → SameTarget y hs ks Exprs Stmts ns (moved_target m.number m.expr to) (moved_target k.number k.expr to)
    target_moved (target.Expr e) = target_expr (moved_expr d e)
    target_moved (target.Var at name) = target_var (named_self d name)

    moved_cases : (cs : List Case) → BothEach (SameCases y hs ks Exprs Stmts ns) (map m.case cs) (map k.case cs)
    moved_cases [] = none
    moved_cases (c ∷ cs) = also (record { clause = rw (m.case_out c, k.case_out c) (same_clause (moved_option d (out-Case c).test) (moved_stmts d (out-Case c).body)) }) (moved_cases cs)

    catch_moved : (c : Catch) → SameCatch y hs ks Exprs Stmts ns (m.catch c) (k.catch c)
    catch_moved c = record { name = rw (m.catch_out c, k.catch_out c) refl; body = rw (m.catch_out c, k.catch_out c) (moved_stmts (one_more (out-Catch c).name d) (out-Catch c).body) }

    finally_moved : (f : Finally) → SameFinally y hs ks Exprs Stmts ns (m.finally f) (k.finally f)
    finally_moved f = record { body = rw (m.finally_out f, k.finally_out f) (moved_stmts d (out-Finally f).body) }

    abbrev first_layer : StmtLayer → StmtLayer
    first_layer l = moved_stmt m.number m.expr (map-StmtForm StmtForm Case Catch Finally Stmt StmtForm Case Catch Finally Stmt m.stmt_form m.case m.catch m.finally m.stmt l)

    abbrev second_layer : StmtLayer → StmtLayer
    second_layer l = moved_stmt k.number k.expr (map-StmtForm StmtForm Case Catch Finally Stmt StmtForm Case Catch Finally Stmt k.stmt_form k.case k.catch k.finally k.stmt l)

    stmt_moved : (l : StmtLayer) → SameStmtForm y hs ks Exprs Stmts ns (first_layer l) (second_layer l)
    stmt_moved (StmtForm-F.Var ds) = both_var (moved_declarators ds)
    stmt_moved (StmtForm-F.FuncDecl f) = both_declared _ _
    stmt_moved (StmtForm-F.Eval e) = both_eval (moved_expr d e)
    stmt_moved (StmtForm-F.Block ts) = both_block (moved_stmts d ts)
    stmt_moved StmtForm-F.Empty = both_empty
    stmt_moved (StmtForm-F.If e t None) = both_if (moved_expr d e) (one_stmt d t) nothing
    stmt_moved (StmtForm-F.If e t (Some u)) = both_if (moved_expr d e) (one_stmt d t) (just (one_stmt d u))
    stmt_moved (StmtForm-F.DoWhile t e) = both_do (one_stmt d t) (moved_expr d e)
    stmt_moved (StmtForm-F.While e t) = both_while (moved_expr d e) (one_stmt d t)
    stmt_moved (StmtForm-F.For from e i t) = both_for (start_moved from) (moved_option d e) (moved_option d i) (one_stmt d t)
    stmt_moved (StmtForm-F.ForIn to e t) = both_for_in (target_moved to) (moved_expr d e) (one_stmt d t)
    stmt_moved StmtForm-F.Continue = both_continue
    stmt_moved StmtForm-F.Break = both_break
    stmt_moved (StmtForm-F.Return e) = both_return (moved_option d e)
    stmt_moved (StmtForm-F.Switch e cs) = both_switch (moved_expr d e) (moved_cases cs)
    stmt_moved (StmtForm-F.Throw e) = both_throw (moved_expr d e)
    stmt_moved (StmtForm-F.Try ts None None) = both_try (moved_stmts d ts) nothing nothing
    stmt_moved (StmtForm-F.Try ts (Some c) None) = both_try (moved_stmts d ts) (just (catch_moved c)) nothing
    stmt_moved (StmtForm-F.Try ts None (Some f)) = both_try (moved_stmts d ts) nothing (just (finally_moved f))
    stmt_moved (StmtForm-F.Try ts (Some c) (Some f)) = both_try (moved_stmts d ts) (just (catch_moved c)) (just (finally_moved f))

    -- ---- functions of the script

    moved_hoisted : (l : List FuncNo) → BothEach (SameHoisted y hs ks ns) (map m.number l) (map k.number l)
    moved_hoisted [] = none
    moved_hoisted (f ∷ l) = also (record { inner = inner_moved d f; named = rw (first_name f, second_name f) (self_each (named_self d) (C.function_name s.funcs f)) }) (moved_hoisted l)

  all_first : (l : List FuncNo) → flat_map (C.function_name hs) (map m.number l) ≡ flat_map (C.function_name s.funcs) l
  all_first [] = refl
  all_first (f ∷ l) = rw (first_name f, all_first l) refl

  all_second : (l : List FuncNo) → flat_map (C.function_name ks) (map k.number l) ≡ flat_map (C.function_name s.funcs) l
  all_second [] = refl
  all_second (f ∷ l) = rw (second_name f, all_second l) refl

  declared_first : (f : Func) → C.declared_names hs (moved_func m f) ≡ C.declared_names s.funcs f
  declared_first f = rw (functions_moved m f.body, all_first (hoisted_functions f.body), vars_moved m f.body) refl

  declared_second : (f : Func) → C.declared_names ks (moved_func k f) ≡ C.declared_names s.funcs f
  declared_second f = rw (functions_moved k f.body, all_second (hoisted_functions f.body), vars_moved k f.body) refl

  func_moved : {ns : Names} → Diagonal ns → (f : Func) → SameFunc y hs ks Stmts ns (moved_func m f) (moved_func k f)
  func_moved {ns = ns} d f =
      let ms : Names = inside (C.declared_names hs (moved_func m f)) ns in
      let within : Diagonal ms = inside_self (C.declared_names hs (moved_func m f)) d in record {
        parameters = self_each (λ (p : Name). record { named = named_self within p.text }) f.params;
        declared = declared_first f ∙ sym (declared_second f);
        hoisted = subst (λ l. BothEach (SameHoisted y hs ks ms) l (hoisted_functions (map k.stmt f.body))) (sym (functions_moved m f.body))
            (subst (λ l. BothEach (SameHoisted y hs ks ms) (map m.number (hoisted_functions f.body)) l) (sym (functions_moved k f.body)) (moved_hoisted within (hoisted_functions f.body)));
        body = moved_stmts within f.body;
      }

  -- ---- both

  code_form : (ns : Names) (e f : Expr) → Exprs ns e f → SameForm y hs ks Exprs ns (out-ExprForm e.form) (out-ExprForm f.form)
  code_form ns e f (old_expr n h) = form_kept n ns e f h
  code_form ns e f (new_expr h) = rw (h.first, h.second, m.expr_out h.of, k.expr_out h.of) (form_moved h.names (out-ExprForm h.of.form))

  code_stmt : (ns : Names) (a b : Stmt) → Stmts ns a b → SameStmtForm y hs ks Exprs Stmts ns (out-StmtForm a.form) (out-StmtForm b.form)
  code_stmt ns a b (old_stmt n h) = stmt_kept n ns a b h
  code_stmt ns a b (new_stmt h) = rw (h.first, h.second, m.stmt_out h.of, k.stmt_out h.of) (stmt_moved h.names (out-StmtForm h.of.form))

  option_moved : {ns : Names} → Diagonal ns → (o : Option Func) → BothOption (SameFunc y hs ks Stmts ns) (option_map (moved_func m) o) (option_map (moved_func k) o)
  option_moved d None = nothing
  option_moved d (Some f) = just (func_moved d f)

  code_called : (ns : Names) (f g : FuncNo) → y.Functions ns f g → BothOption (SameFunc y hs ks Stmts ns) (slice_get hs f.0) (slice_get ks g.0)
  code_called ns f g (inl h) = let l = kept ns f g h in rw (first_kept ns f g h, second_kept ns f g h, l.first, l.second) (just (func_kept l.same))
  code_called ns f g (inr h) =
      let n : FuncNo = record { 0 = h.behind } in
      rw (h.first ∙ sym (number_is fs n), h.second ∙ sym (number_is gs n), first_moved n, second_moved n) (option_moved h.names (slice_get s.funcs h.behind))

  pub later_code : Code y hs ks
  later_code = record { Exprs = Exprs; Stmts = Stmts; form = code_form; stmt_form = code_stmt; called = code_called }

  moved_globals : (l : List FuncNo) → BothEach (SameGlobalFunction y hs ks) (map m.number l) (map k.number l)
  moved_globals [] = none
  moved_globals (f ∷ l) = also (record { inner = inner_moved no_more f; name = first_name f ∙ sym (second_name f) }) (moved_globals l)

  later_global : SameGlobal y later_code (map m.stmt s.body) (map k.stmt s.body)
  unfolding later_code
  later_global = record {
    hoisted = rw (functions_moved m s.body, functions_moved k s.body) (moved_globals (hoisted_functions s.body));
    variables = vars_moved m s.body ∙ sym (vars_moved k s.body);
    body = moved_stmts no_more s.body;
  }

  pub later_script : SameScript y (moved_script m fs s) (moved_script k gs s)
  later_script = record { code = later_code; strict = refl; body = later_global }
