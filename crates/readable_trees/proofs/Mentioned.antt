-- The inputs that code mentions are those that it has, and those that are inside the functions that it names.
use Rattle.std.proofs.Common.{◌≡◌, ℕ, ◌&&◌, Bool, true, false, List, [], ◌∷◌, ◌++◌, map, refl, ap, sym, ◌∙◌, subst, append-nil}
use Rattle.std.specs.Prelude.{if◌then◌else◌, Option, Some, None}
use Rattle.std.specs.List.{flat_map, list_any}
use Rattle.std.specs.Str.{bytes_eq}
use Rattle.std.proofs.lemmas.Grind.{flat_map-append}
use Rattle.js_value.specs.declared.place.FuncNo.{FuncNo}
use Rattle.js_value.specs.declared.place.Place.{Place}
use Rattle.js_tree.specs.Mentions as M
use Rattle.js_tree.specs.Mentions.{Mention, Mentioned, FieldMentions, Names, Property, joined, all_of, unbound, unbound_one, owned_one, repeated, clash}
use Rattle.js_tree.specs.Parts.{is_among}
use Rattle.js_tree.specs.declared.expression.Expr.{Expr, roll-Expr}
use Rattle.js_tree.specs.declared.expression.Field.{Field, roll-Field, fold-Field}
use Rattle.js_tree.specs.declared.expression.ExprForm.{ExprForm, roll-ExprForm, fold-ExprForm}
use Rattle.js_tree.specs.declared.expression.ExprForm.TheFolds.{map-ExprForm, map-Field, fold-roll-ExprForm, fold-roll-Field, fold_out-Expr, ind-Expr}
use Rattle.js_tree.specs.declared.expression.ExprForm.TheOpen.{ExprForm-F, Field-F, Expr-F}
use Rattle.js_tree.specs.declared.statement.Case.{Case, roll-Case, fold-Case}
use Rattle.js_tree.specs.declared.statement.Catch.{Catch, roll-Catch, fold-Catch}
use Rattle.js_tree.specs.declared.statement.Declarator.{Declarator}
use Rattle.js_tree.specs.declared.statement.Finally.{Finally, roll-Finally, fold-Finally}
use Rattle.js_tree.specs.declared.statement.ForStart.{ForStart}
use Rattle.js_tree.specs.declared.statement.ForStart.TheVariants as start
use Rattle.js_tree.specs.declared.statement.ForTarget.{ForTarget}
use Rattle.js_tree.specs.declared.statement.ForTarget.TheVariants as target
use Rattle.js_tree.specs.declared.statement.Stmt.{Stmt, roll-Stmt}
use Rattle.js_tree.specs.declared.statement.StmtForm.{StmtForm, roll-StmtForm, fold-StmtForm}
use Rattle.js_tree.specs.declared.statement.StmtForm.TheFolds.{map-StmtForm, fold-roll-StmtForm, fold-roll-Case, fold-roll-Catch, fold-roll-Finally, fold_out-Stmt, ind-Stmt}
use Rattle.js_tree.specs.declared.statement.StmtForm.TheOpen.{StmtForm-F, Case-F, Catch-F, Finally-F, Stmt-F}
use Rattle.readable_trees.specs.Items as I
use Rattle.readable_trees.specs.Items.{Item, Items, Function, Input}

abbrev Ms : Type 0
Ms = List Mention

-- the input that a mention is
abbrev pub taken_of : Mention → Items
taken_of (M.Takes at kind text) = Input kind text ∷ []
taken_of _ = []

abbrev pub taken : List Mention → Items
taken ms = flat_map taken_of ms

-- ---- what is bound or repeated is no input

none_if : (b : Bool) (m n : Mention) → taken_of m ≡ [] → taken_of n ≡ [] → taken (if b then m ∷ [] else (n ∷ [])) ≡ []
none_if true m n h k = append-nil (taken_of m) ∙ h
none_if false m n h k = append-nil (taken_of n) ∙ k

none_or : (b : Bool) (m : Mention) → taken_of m ≡ [] → taken (if b then [] else (m ∷ [])) ≡ []
none_or true m h = refl
none_or false m h = append-nil (taken_of m) ∙ h

taken_unbound_one : (names : Names) (m : Mention) → taken (unbound_one names m) ≡ taken_of m
taken_unbound_one names (M.Reads at name) = none_or (is_among names name) (M.Reads at name) refl
taken_unbound_one names (M.Assigns at name) = none_or (is_among names name) (M.Assigns at name) refl
taken_unbound_one names (M.AssignsOwn at) = refl
taken_unbound_one names (M.Takes at kind text) = refl
taken_unbound_one names (M.Repeats at) = refl

taken_owned_one : (names : Names) (m : Mention) → taken (owned_one names m) ≡ taken_of m
taken_owned_one names (M.Reads at name) = none_or (is_among names name) (M.Reads at name) refl
taken_owned_one names (M.Assigns at name) = none_if (is_among names name) (M.AssignsOwn at) (M.Assigns at name) refl refl
taken_owned_one names (M.AssignsOwn at) = refl
taken_owned_one names (M.Takes at kind text) = refl
taken_owned_one names (M.Repeats at) = refl

taken_each : (f : Mention → Ms) → ((m : Mention) → taken (f m) ≡ taken_of m) → (ms : Ms) → taken (flat_map f ms) ≡ taken ms
taken_each f h [] = refl
taken_each f h (m ∷ ms) = flat_map-append taken_of (f m) (flat_map f ms) ∙ ap (λ is. is ++ taken (flat_map f ms)) (h m) ∙ ap (λ is. taken_of m ++ is) (taken_each f h ms)

pub taken_unbound : (names : Names) (ms : Ms) → taken (unbound names ms) ≡ taken ms
taken_unbound names ms = taken_each (unbound_one names) (taken_unbound_one names) ms

pub taken_owned : (names : Names) (ms : Ms) → taken (flat_map (owned_one names) ms) ≡ taken ms
taken_owned names ms = taken_each (owned_one names) (taken_owned_one names) ms

taken_if : (b : Bool) (at : Place) → taken (if b then M.Repeats at ∷ [] else []) ≡ []
taken_if true at = refl
taken_if false at = refl

taken_repeated : (before ps : List Property) → taken (repeated before ps) ≡ []
taken_repeated before [] = refl
taken_repeated before (p ∷ ps) =
    let b : Bool = list_any (λ (q : Property). bytes_eq q.1 p.1 && clash q.2 p.2) before in
    flat_map-append taken_of (if b then M.Repeats p.0 ∷ [] else []) (repeated (p ∷ before) ps)
    ∙ ap (λ is. is ++ taken (repeated (p ∷ before) ps)) (taken_if b p.0)
    ∙ taken_repeated (p ∷ before) ps

-- ---- by what is inside functions

abbrev pub opened : (FuncNo → Items) → Item → Items
opened within (Function f) = within f
opened within (Input kind text) = Input kind text ∷ []

module _ (inside declared : FuncNo → Ms) (within : FuncNo → Items) (inside_is : (f : FuncNo) → taken (inside f) ≡ within f) (declared_is : (f : FuncNo) → taken (declared f) ≡ within f) where
  abbrev given : Items → Items
  given is = flat_map (opened within) is

  two : (ms ns : Ms) (x y : Items) → taken ms ≡ given x → taken ns ≡ given y → taken (ms ++ ns) ≡ given (x ++ y)
  two ms ns x y h k =
      flat_map-append taken_of ms ns ∙ ap (λ z. z ++ taken ns) h ∙ ap (λ z. given x ++ z) k ∙ sym (flat_map-append (opened within) x y)

  three : (ms ns os : Ms) (x y z : Items) → taken ms ≡ given x → taken ns ≡ given y → taken os ≡ given z → taken (ms ++ ns ++ os) ≡ given (x ++ y ++ z)
  three ms ns os x y z h k l = two (ms ++ ns) os (x ++ y) z (two ms ns x y h k) l

  named : (f : FuncNo) (ms : Ms) → taken ms ≡ within f → taken ms ≡ given (Function f ∷ [])
  named f ms h = h ∙ sym (append-nil (within f))

  -- ---- expressions

  abbrev form_mentions : ExprForm → Place → Mentioned
  form_mentions = fold-ExprForm (Place → Mentioned) FieldMentions Mentioned (M.form_mentions inside declared) (M.field_mentions inside declared) (λ e. e.form e.at)

  abbrev field_mentions : Field → FieldMentions
  field_mentions = fold-Field (Place → Mentioned) FieldMentions Mentioned (M.form_mentions inside declared) (M.field_mentions inside declared) (λ e. e.form e.at)

  abbrev mentioned : Expr → Mentioned
  mentioned = M.expr_mentions inside declared

  abbrev Layer : Type 0
  Layer = ExprForm-F ExprForm Field Expr

  abbrev items_layer : Layer → ExprForm-F Items Items Items
  items_layer = map-ExprForm ExprForm Field Expr Items Items Items I.in_form I.in_field I.in_expr

  abbrev mentions_layer : Layer → ExprForm-F (Place → Mentioned) FieldMentions Mentioned
  mentions_layer = map-ExprForm ExprForm Field Expr (Place → Mentioned) FieldMentions Mentioned form_mentions field_mentions mentioned

  abbrev Both : Mentioned → Items → Type 0
  Both m is = (taken m.0 ≡ given is) × (taken m.1 ≡ given is)

  twice : (ms : Ms) (is : Items) → taken ms ≡ given is → Both (M.both ms) is
  twice ms is h = (h, h)

  abbrev FormTakes : ExprForm → Type 0
  FormTakes form = (at : Place) → Both (form_mentions form at) (I.in_form form)

  abbrev FieldTakes : Field → Type 0
  FieldTakes f = taken (field_mentions f).1 ≡ given (I.in_field f)

  abbrev ExprTakes : Expr → Type 0
  ExprTakes x = Both (mentioned x) (I.in_expr x)

  abbrev LayerTakes : Layer → Type 0
  LayerTakes l = (at : Place) → Both (M.form_mentions inside declared (mentions_layer l) at) (I.of_form (items_layer l))

  from_layer : (l : Layer) → LayerTakes l → FormTakes (roll-ExprForm l)
  from_layer l h at =
      let mentions_are = fold-roll-ExprForm (Place → Mentioned) FieldMentions Mentioned (M.form_mentions inside declared) (M.field_mentions inside declared) (λ e. e.form e.at) l in
      let items_are = fold-roll-ExprForm Items Items Items I.of_form I.of_field (λ x. x.form) l in
      subst (λ (m : Place → Mentioned). Both (m at) (I.in_form (roll-ExprForm l))) (sym mentions_are)
      (subst (λ is. Both (M.form_mentions inside declared (mentions_layer l) at) is) (sym items_are) (h at))

  abbrev FieldLayerTakes : Field-F ExprForm Field Expr → Type 0
  FieldLayerTakes l =
      taken (M.field_mentions inside declared (map-Field ExprForm Field Expr (Place → Mentioned) FieldMentions Mentioned form_mentions field_mentions mentioned l)).1
      ≡ given (I.of_field (map-Field ExprForm Field Expr Items Items Items I.in_form I.in_field I.in_expr l))

  from_field_layer : (l : Field-F ExprForm Field Expr) → FieldLayerTakes l → FieldTakes (roll-Field l)
  from_field_layer l h =
      ap (λ (m : FieldMentions). taken m.1) (fold-roll-Field (Place → Mentioned) FieldMentions Mentioned (M.form_mentions inside declared) (M.field_mentions inside declared) (λ e. e.form e.at) l)
      ∙ h ∙ sym (ap (λ is. given is) (fold-roll-Field Items Items Items I.of_form I.of_field (λ x. x.form) l))

  from_form : (x : Expr-F ExprForm Field Expr) → FormTakes x.form → ExprTakes (roll-Expr x)
  from_form x h =
      let mentions_are = fold_out-Expr (Place → Mentioned) FieldMentions Mentioned (M.form_mentions inside declared) (M.field_mentions inside declared) (λ e. e.form e.at) (roll-Expr x) in
      let items_are = fold_out-Expr Items Items Items I.of_form I.of_field (λ x. x.form) (roll-Expr x) in
      subst (λ m. Both m (I.in_expr (roll-Expr x))) (sym mentions_are) (subst (λ is. Both (form_mentions x.form x.at) is) (sym items_are) (h x.at))

  module _ {A B C : Type 0} (form_in : A → ExprForm) (field_in : B → Field) (expr_in : C → Expr) (fields : (b : B) → FieldTakes (field_in b)) (exprs : (c : C) → ExprTakes (expr_in c)) where
    abbrev of : ExprForm-F A B C → Layer
    of = map-ExprForm A B C ExprForm Field Expr form_in field_in expr_in

    abbrev ms_of : C → Ms
    ms_of c = (mentioned (expr_in c)).0

    abbrev is_of : C → Items
    is_of c = I.in_expr (expr_in c)

    args : (cs : List C) → taken (all_of (map mentioned (map expr_in cs))) ≡ given (joined (map I.in_expr (map expr_in cs)))
    args [] = refl
    args (c ∷ cs) = two (ms_of c) (all_of (map mentioned (map expr_in cs))) (is_of c) (joined (map I.in_expr (map expr_in cs))) (exprs c).0 (args cs)

    abbrev of_fields : List B → Ms
    of_fields bs = flat_map (λ (f : FieldMentions). f.1) (map field_mentions (map field_in bs))

    all_fields : (bs : List B) → taken (of_fields bs) ≡ given (joined (map I.in_field (map field_in bs)))
    all_fields [] = refl
    all_fields (b ∷ bs) = two (field_mentions (field_in b)).1 (of_fields bs) (I.in_field (field_in b)) (joined (map I.in_field (map field_in bs))) (fields b) (all_fields bs)

    abbrev array_of : List (Option C) → Layer
    array_of cs = of (ExprForm-F.ArrayLit cs)

    elements : (at : Place) (cs : List (Option C)) → taken (M.form_mentions inside declared (mentions_layer (array_of cs)) at).0 ≡ given (I.of_form (items_layer (array_of cs)))
    elements at [] = refl
    elements at (None ∷ cs) = elements at cs
    elements at (Some c ∷ cs) = two (ms_of c) (M.form_mentions inside declared (mentions_layer (array_of cs)) at).0 (is_of c) (I.of_form (items_layer (array_of cs))) (exprs c).0 (elements at cs)

    pair : (a b : C) → taken (ms_of a ++ ms_of b) ≡ given (is_of a ++ is_of b)
    pair a b = two (ms_of a) (ms_of b) (is_of a) (is_of b) (exprs a).0 (exprs b).0

    called : (a : C) (cs : List C) → taken (ms_of a ++ all_of (map mentioned (map expr_in cs))) ≡ given (is_of a ++ joined (map I.in_expr (map expr_in cs)))
    called a cs = two (ms_of a) (all_of (map mentioned (map expr_in cs))) (is_of a) (joined (map I.in_expr (map expr_in cs))) (exprs a).0 (args cs)

    object : (bs : List B) (ps : List Property) → taken (of_fields bs ++ repeated [] ps) ≡ given (joined (map I.in_field (map field_in bs)))
    object bs ps =
        flat_map-append taken_of (of_fields bs) (repeated [] ps)
        ∙ ap (λ is. taken (of_fields bs) ++ is) (taken_repeated [] ps) ∙ append-nil (taken (of_fields bs)) ∙ all_fields bs

    layer_takes : (y : ExprForm-F A B C) → LayerTakes (of y)
    layer_takes ExprForm-F.This at = (refl, refl)
    layer_takes (ExprForm-F.Name text) at = (refl, refl)
    layer_takes (ExprForm-F.Literal v) at = (refl, refl)
    layer_takes (ExprForm-F.ArrayLit cs) at = (elements at cs, elements at cs)
    layer_takes (ExprForm-F.ObjectLit bs) at = let h = object bs (map (λ (f : FieldMentions). f.0) (map field_mentions (map field_in bs))) in (h, h)
    layer_takes (ExprForm-F.Func f) at = (named f (inside f) (inside_is f), named f (inside f) (inside_is f))
    layer_takes (ExprForm-F.Member a key) at = ((exprs a).0, (exprs a).0)
    layer_takes (ExprForm-F.Index a b) at = (pair a b, pair a b)
    layer_takes (ExprForm-F.Call a cs) at = (called a cs, called a cs)
    layer_takes (ExprForm-F.New a cs) at = (called a cs, called a cs)
    layer_takes (ExprForm-F.Unary op a) at = ((exprs a).0, (exprs a).0)
    layer_takes (ExprForm-F.Binary op a b) at = (pair a b, pair a b)
    layer_takes (ExprForm-F.Logic op a b) at = (pair a b, pair a b)
    layer_takes (ExprForm-F.Conditional t a b) at =
        let h = three (ms_of t) (ms_of a) (ms_of b) (is_of t) (is_of a) (is_of b) (exprs t).0 (exprs a).0 (exprs b).0 in (h, h)
    layer_takes (ExprForm-F.Assign a op b) at =
        let h = two (mentioned (expr_in a)).1 (ms_of b) (is_of a) (is_of b) (exprs a).1 (exprs b).0 in (h, h)
    layer_takes (ExprForm-F.Step op a) at = ((exprs a).1, (exprs a).1)
    layer_takes (ExprForm-F.Comma a b) at = (pair a b, pair a b)
    layer_takes (ExprForm-F.Input k text) at = (refl, refl)
    layer_takes (ExprForm-F.HostCall k text cs) at = (args cs, args cs)

    field_layer_takes : (y : Field-F A B C) → FieldLayerTakes (map-Field A B C ExprForm Field Expr form_in field_in expr_in y)
    field_layer_takes (Field-F.Value at key x) = (exprs x).0
    field_layer_takes (Field-F.Getter at key f) = named f (inside f) (inside_is f)
    field_layer_takes (Field-F.Setter at key f) = named f (inside f) (inside_is f)

  expr_takes : (x : Expr) → ExprTakes x
  expr_takes = ind-Expr FormTakes FieldTakes ExprTakes
      (λ x y is. subst (λ l. FormTakes (roll-ExprForm l)) is (from_layer _ (layer_takes (λ e. e.0) (λ e. e.0) (λ e. e.0) (λ e. e.1) (λ e. e.1) y)))
      (λ x y is. subst (λ l. FieldTakes (roll-Field l)) is (from_field_layer _ (field_layer_takes (λ e. e.0) (λ e. e.0) (λ e. e.0) (λ e. e.1) (λ e. e.1) y)))
      (λ x y is. subst (λ l. ExprTakes (roll-Expr l)) is (from_form _ y.form.1))

  -- ---- statements

  abbrev in_maybe : Option Expr → Ms
  in_maybe = M.maybe_mentions inside declared

  maybe_takes : (x : Option Expr) → taken (in_maybe x) ≡ given (I.in_maybe x)
  maybe_takes None = refl
  maybe_takes (Some x) = (expr_takes x).0

  abbrev in_declarators : List Declarator → Ms
  in_declarators = M.declarator_mentions inside declared

  declarators_take : (ds : List Declarator) → taken (in_declarators ds) ≡ given (I.in_declarators ds)
  declarators_take [] = refl
  declarators_take (d ∷ ds) = two (in_maybe d.init) (in_declarators ds) (I.in_maybe d.init) (I.in_declarators ds) (maybe_takes d.init) (declarators_take ds)

  start_takes : (from : ForStart) → taken (M.start_mentions inside declared from) ≡ given (I.in_start from)
  start_takes start.Nothing = refl
  start_takes (start.Expr x) = (expr_takes x).0
  start_takes (start.Var ds) = declarators_take ds

  target_takes : (to : ForTarget) → taken (M.target_mentions inside declared to) ≡ given (I.in_target to)
  target_takes (target.Expr x) = (expr_takes x).1
  target_takes (target.Var at name) = refl

  abbrev of_case : Case-F Ms Ms Ms Ms Ms → Ms
  of_case c = in_maybe c.test ++ joined c.body

  abbrev of_catch : Catch-F Ms Ms Ms Ms Ms → Ms
  of_catch c = unbound (c.name ∷ []) (joined c.body)

  abbrev of_finally : Finally-F Ms Ms Ms Ms Ms → Ms
  of_finally f = joined f.body

  abbrev of_stmt : StmtForm-F Ms Ms Ms Ms Ms → Ms
  of_stmt = M.stmt_form_mentions inside declared

  abbrev stmt_form_mentions : StmtForm → Ms
  stmt_form_mentions = fold-StmtForm Ms Ms Ms Ms Ms of_stmt of_case of_catch of_finally (λ s. s.form)

  abbrev case_mentions : Case → Ms
  case_mentions = fold-Case Ms Ms Ms Ms Ms of_stmt of_case of_catch of_finally (λ s. s.form)

  abbrev catch_mentions : Catch → Ms
  catch_mentions = fold-Catch Ms Ms Ms Ms Ms of_stmt of_case of_catch of_finally (λ s. s.form)

  abbrev finally_mentions : Finally → Ms
  finally_mentions = fold-Finally Ms Ms Ms Ms Ms of_stmt of_case of_catch of_finally (λ s. s.form)

  abbrev stmt_mentions : Stmt → Ms
  stmt_mentions = M.stmt_mentions inside declared

  abbrev StmtLayer : Type 0
  StmtLayer = StmtForm-F StmtForm Case Catch Finally Stmt

  abbrev stmt_items : StmtLayer → StmtForm-F Items Items Items Items Items
  stmt_items = map-StmtForm StmtForm Case Catch Finally Stmt Items Items Items Items Items I.in_stmt_form I.in_case I.in_catch I.in_finally I.in_stmt

  abbrev stmt_layer : StmtLayer → StmtForm-F Ms Ms Ms Ms Ms
  stmt_layer = map-StmtForm StmtForm Case Catch Finally Stmt Ms Ms Ms Ms Ms stmt_form_mentions case_mentions catch_mentions finally_mentions stmt_mentions

  abbrev StmtFormTakes : StmtForm → Type 0
  StmtFormTakes form = taken (stmt_form_mentions form) ≡ given (I.in_stmt_form form)

  abbrev CaseTakes : Case → Type 0
  CaseTakes c = taken (case_mentions c) ≡ given (I.in_case c)

  abbrev CatchTakes : Catch → Type 0
  CatchTakes c = taken (catch_mentions c) ≡ given (I.in_catch c)

  abbrev FinallyTakes : Finally → Type 0
  FinallyTakes f = taken (finally_mentions f) ≡ given (I.in_finally f)

  abbrev StmtTakes : Stmt → Type 0
  StmtTakes t = taken (stmt_mentions t) ≡ given (I.in_stmt t)

  abbrev StmtLayerTakes : StmtLayer → Type 0
  StmtLayerTakes l = taken (of_stmt (stmt_layer l)) ≡ given (I.of_stmt_form (stmt_items l))

  from_stmt_layer : (l : StmtLayer) → StmtLayerTakes l → StmtFormTakes (roll-StmtForm l)
  from_stmt_layer l h =
      ap (λ ms. taken ms) (fold-roll-StmtForm Ms Ms Ms Ms Ms of_stmt of_case of_catch of_finally (λ s. s.form) l)
      ∙ h ∙ sym (ap (λ is. given is) (fold-roll-StmtForm Items Items Items Items Items I.of_stmt_form I.of_case I.of_catch I.of_finally (λ t. t.form) l))

  from_stmt : (x : Stmt-F StmtForm Case Catch Finally Stmt) → StmtFormTakes x.form → StmtTakes (roll-Stmt x)
  from_stmt x h =
      ap (λ ms. taken ms) (fold_out-Stmt Ms Ms Ms Ms Ms of_stmt of_case of_catch of_finally (λ s. s.form) (roll-Stmt x))
      ∙ h ∙ sym (ap (λ is. given is) (fold_out-Stmt Items Items Items Items Items I.of_stmt_form I.of_case I.of_catch I.of_finally (λ t. t.form) (roll-Stmt x)))

  module _ {E : Type 0} (stmt_in : E → Stmt) (stmts : (e : E) → StmtTakes (stmt_in e)) where
    abbrev body_items : List E → Items
    body_items es = joined (map I.in_stmt (map stmt_in es))

    abbrev body_mentions : List E → Ms
    body_mentions es = joined (map stmt_mentions (map stmt_in es))

    body : (es : List E) → taken (body_mentions es) ≡ given (body_items es)
    body [] = refl
    body (e ∷ es) = two (stmt_mentions (stmt_in e)) (body_mentions es) (I.in_stmt (stmt_in e)) (body_items es) (stmts e) (body es)

    from_case : (test : Option Expr) (es : List E) → CaseTakes (roll-Case (record { test = test; body = map stmt_in es }))
    from_case test es =
        let l : Case-F StmtForm Case Catch Finally Stmt = record { test = test; body = map stmt_in es } in
        ap (λ ms. taken ms) (fold-roll-Case Ms Ms Ms Ms Ms of_stmt of_case of_catch of_finally (λ s. s.form) l)
        ∙ two (in_maybe test) (body_mentions es) (I.in_maybe test) (body_items es) (maybe_takes test) (body es)
        ∙ sym (ap (λ is. given is) (fold-roll-Case Items Items Items Items Items I.of_stmt_form I.of_case I.of_catch I.of_finally (λ t. t.form) l))

    from_catch : (at : Place) (name : List ℕ) (es : List E) → CatchTakes (roll-Catch (record { at = at; name = name; body = map stmt_in es }))
    from_catch at name es =
        let l : Catch-F StmtForm Case Catch Finally Stmt = record { at = at; name = name; body = map stmt_in es } in
        ap (λ ms. taken ms) (fold-roll-Catch Ms Ms Ms Ms Ms of_stmt of_case of_catch of_finally (λ s. s.form) l)
        ∙ taken_unbound (name ∷ []) (body_mentions es) ∙ body es
        ∙ sym (ap (λ is. given is) (fold-roll-Catch Items Items Items Items Items I.of_stmt_form I.of_case I.of_catch I.of_finally (λ t. t.form) l))

    from_finally : (es : List E) → FinallyTakes (roll-Finally (record { body = map stmt_in es }))
    from_finally es =
        let l : Finally-F StmtForm Case Catch Finally Stmt = record { body = map stmt_in es } in
        ap (λ ms. taken ms) (fold-roll-Finally Ms Ms Ms Ms Ms of_stmt of_case of_catch of_finally (λ s. s.form) l)
        ∙ body es
        ∙ sym (ap (λ is. given is) (fold-roll-Finally Items Items Items Items Items I.of_stmt_form I.of_case I.of_catch I.of_finally (λ t. t.form) l))

  module _ {A B C D E : Type 0} (form_in : A → StmtForm) (case_in : B → Case) (catch_in : C → Catch) (finally_in : D → Finally) (stmt_in : E → Stmt)
      (cases : (b : B) → CaseTakes (case_in b)) (catches : (c : C) → CatchTakes (catch_in c)) (lasts : (d : D) → FinallyTakes (finally_in d)) (stmts : (e : E) → StmtTakes (stmt_in e)) where
    abbrev stmt_of : StmtForm-F A B C D E → StmtLayer
    stmt_of = map-StmtForm A B C D E StmtForm Case Catch Finally Stmt form_in case_in catch_in finally_in stmt_in

    clauses : (bs : List B) → taken (joined (map case_mentions (map case_in bs))) ≡ given (joined (map I.in_case (map case_in bs)))
    clauses [] = refl
    clauses (b ∷ bs) = two (case_mentions (case_in b)) (joined (map case_mentions (map case_in bs))) (I.in_case (case_in b)) (joined (map I.in_case (map case_in bs))) (cases b) (clauses bs)

    abbrev ms_in : E → Ms
    ms_in a = stmt_mentions (stmt_in a)

    abbrev is_in : E → Items
    is_in a = I.in_stmt (stmt_in a)

    abbrev expr_ms : Expr → Ms
    expr_ms x = (mentioned x).0

    stmt_takes : (y : StmtForm-F A B C D E) → StmtLayerTakes (stmt_of y)
    stmt_takes (StmtForm-F.Var ds) = declarators_take ds
    stmt_takes (StmtForm-F.FuncDecl f) = named f (declared f) (declared_is f)
    stmt_takes (StmtForm-F.Eval x) = (expr_takes x).0
    stmt_takes (StmtForm-F.Block es) = body stmt_in stmts es
    stmt_takes StmtForm-F.Empty = refl
    stmt_takes (StmtForm-F.If x a None) = three (expr_ms x) (ms_in a) [] (I.in_expr x) (is_in a) [] (expr_takes x).0 (stmts a) refl
    stmt_takes (StmtForm-F.If x a (Some b)) = three (expr_ms x) (ms_in a) (ms_in b) (I.in_expr x) (is_in a) (is_in b) (expr_takes x).0 (stmts a) (stmts b)
    stmt_takes (StmtForm-F.DoWhile a x) = two (ms_in a) (expr_ms x) (is_in a) (I.in_expr x) (stmts a) (expr_takes x).0
    stmt_takes (StmtForm-F.While x a) = two (expr_ms x) (ms_in a) (I.in_expr x) (is_in a) (expr_takes x).0 (stmts a)
    stmt_takes (StmtForm-F.For from test step a) =
        two (M.start_mentions inside declared from ++ in_maybe test ++ in_maybe step) (ms_in a) (I.in_header from test step) (is_in a)
        (three (M.start_mentions inside declared from) (in_maybe test) (in_maybe step) (I.in_start from) (I.in_maybe test) (I.in_maybe step) (start_takes from) (maybe_takes test) (maybe_takes step)) (stmts a)
    stmt_takes (StmtForm-F.ForIn to x a) =
        three (M.target_mentions inside declared to) (expr_ms x) (ms_in a) (I.in_target to) (I.in_expr x) (is_in a) (target_takes to) (expr_takes x).0 (stmts a)
    stmt_takes StmtForm-F.Continue = refl
    stmt_takes StmtForm-F.Break = refl
    stmt_takes (StmtForm-F.Return x) = maybe_takes x
    stmt_takes (StmtForm-F.Switch x bs) = two (expr_ms x) (joined (map case_mentions (map case_in bs))) (I.in_expr x) (joined (map I.in_case (map case_in bs))) (expr_takes x).0 (clauses bs)
    stmt_takes (StmtForm-F.Throw x) = (expr_takes x).0
    stmt_takes (StmtForm-F.Try es None None) = three (body_mentions stmt_in stmts es) [] [] (body_items stmt_in stmts es) [] [] (body stmt_in stmts es) refl refl
    stmt_takes (StmtForm-F.Try es (Some c) None) = three (body_mentions stmt_in stmts es) (catch_mentions (catch_in c)) [] (body_items stmt_in stmts es) (I.in_catch (catch_in c)) [] (body stmt_in stmts es) (catches c) refl
    stmt_takes (StmtForm-F.Try es None (Some f)) = three (body_mentions stmt_in stmts es) [] (finally_mentions (finally_in f)) (body_items stmt_in stmts es) [] (I.in_finally (finally_in f)) (body stmt_in stmts es) refl (lasts f)
    stmt_takes (StmtForm-F.Try es (Some c) (Some f)) =
        three (body_mentions stmt_in stmts es) (catch_mentions (catch_in c)) (finally_mentions (finally_in f)) (body_items stmt_in stmts es) (I.in_catch (catch_in c)) (I.in_finally (finally_in f)) (body stmt_in stmts es) (catches c) (lasts f)

  every : (t : Stmt) → StmtTakes t
  every = ind-Stmt StmtFormTakes CaseTakes CatchTakes FinallyTakes StmtTakes
      (λ x y is. subst (λ l. StmtFormTakes (roll-StmtForm l)) is (from_stmt_layer _ (stmt_takes (λ e. e.0) (λ e. e.0) (λ e. e.0) (λ e. e.0) (λ e. e.0) (λ e. e.1) (λ e. e.1) (λ e. e.1) (λ e. e.1) y)))
      (λ x y is. subst (λ l. CaseTakes (roll-Case l)) is (from_case (λ e. e.0) (λ e. e.1) y.test y.body))
      (λ x y is. subst (λ l. CatchTakes (roll-Catch l)) is (from_catch (λ e. e.0) (λ e. e.1) y.at y.name y.body))
      (λ x y is. subst (λ l. FinallyTakes (roll-Finally l)) is (from_finally (λ e. e.0) (λ e. e.1) y.body))
      (λ x y is. subst (λ l. StmtTakes (roll-Stmt l)) is (from_stmt _ y.form.1))

  pub body_takes : (ts : List Stmt) → taken (M.body_mentions inside declared ts) ≡ given (I.in_stmts ts)
  body_takes [] = refl
  body_takes (t ∷ ts) = two (stmt_mentions t) (M.body_mentions inside declared ts) (I.in_stmt t) (I.in_stmts ts) (every t) (body_takes ts)
