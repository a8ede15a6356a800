-- Where what is inside functions is related, by a relation that joining and binding keep, what code mentions is related.
use Rattle.std.proofs.Common.{◌≡◌, ℕ, List, [], ◌∷◌, ◌++◌, map, refl, ap, sym, ◌∙◌, subst}
use Rattle.std.specs.Prelude.{Option, Some, None}
use Rattle.std.specs.List.{flat_map}
use Rattle.js_value.specs.declared.place.FuncNo.{FuncNo}
use Rattle.js_value.specs.declared.place.Place.{Place}
use Rattle.js_tree.specs.Mentions as M
use Rattle.js_tree.specs.Mentions.{Mention, Mentioned, FieldMentions, Names, Property, joined, all_of, unbound, repeated}
use Rattle.js_tree.specs.declared.expression.Expr.{Expr, roll-Expr}
use Rattle.js_tree.specs.declared.expression.Field.{Field, roll-Field, fold-Field}
use Rattle.js_tree.specs.declared.expression.ExprForm.{ExprForm, roll-ExprForm, fold-ExprForm}
use Rattle.js_tree.specs.declared.expression.ExprForm.TheFolds.{map-ExprForm, map-Field, fold-roll-ExprForm, fold-roll-Field, fold_out-Expr, ind-Expr}
use Rattle.js_tree.specs.declared.expression.ExprForm.TheOpen.{ExprForm-F, Field-F, Expr-F}
use Rattle.js_tree.specs.declared.statement.Case.{Case, roll-Case, fold-Case}
use Rattle.js_tree.specs.declared.statement.Catch.{Catch, roll-Catch, fold-Catch}
use Rattle.js_tree.specs.declared.statement.Declarator.{Declarator}
use Rattle.js_tree.specs.declared.statement.Finally.{Finally, roll-Finally, fold-Finally}
use Rattle.js_tree.specs.declared.statement.ForStart.{ForStart}
use Rattle.js_tree.specs.declared.statement.ForStart.TheVariants as start
use Rattle.js_tree.specs.declared.statement.ForTarget.{ForTarget}
use Rattle.js_tree.specs.declared.statement.ForTarget.TheVariants as target
use Rattle.js_tree.specs.declared.statement.Stmt.{Stmt, roll-Stmt}
use Rattle.js_tree.specs.declared.statement.StmtForm.{StmtForm, roll-StmtForm, fold-StmtForm}
use Rattle.js_tree.specs.declared.statement.StmtForm.TheFolds.{map-StmtForm, fold-roll-StmtForm, fold-roll-Case, fold-roll-Catch, fold-roll-Finally, fold_out-Stmt, ind-Stmt}
use Rattle.js_tree.specs.declared.statement.StmtForm.TheOpen.{StmtForm-F, Case-F, Catch-F, Finally-F, Stmt-F}

abbrev Ms : Type 0
Ms = List Mention

-- what a fold has where functions have these insides
module _ (inside declared : FuncNo → Ms) where
  abbrev form_of : ExprForm → Place → Mentioned
  form_of = fold-ExprForm (Place → Mentioned) FieldMentions Mentioned (M.form_mentions inside declared) (M.field_mentions inside declared) (λ e. e.form e.at)

  abbrev field_of : Field → FieldMentions
  field_of = fold-Field (Place → Mentioned) FieldMentions Mentioned (M.form_mentions inside declared) (M.field_mentions inside declared) (λ e. e.form e.at)

  abbrev expr_of : Expr → Mentioned
  expr_of = M.expr_mentions inside declared

  abbrev layer_of : ExprForm-F ExprForm Field Expr → Place → Mentioned
  layer_of l = M.form_mentions inside declared (map-ExprForm ExprForm Field Expr (Place → Mentioned) FieldMentions Mentioned form_of field_of expr_of l)

  abbrev field_layer_of : Field-F ExprForm Field Expr → FieldMentions
  field_layer_of l = M.field_mentions inside declared (map-Field ExprForm Field Expr (Place → Mentioned) FieldMentions Mentioned form_of field_of expr_of l)

  form_rolls : (l : ExprForm-F ExprForm Field Expr) → form_of (roll-ExprForm l) ≡ layer_of l
  form_rolls l = fold-roll-ExprForm (Place → Mentioned) FieldMentions Mentioned (M.form_mentions inside declared) (M.field_mentions inside declared) (λ e. e.form e.at) l

  field_rolls : (l : Field-F ExprForm Field Expr) → field_of (roll-Field l) ≡ field_layer_of l
  field_rolls l = fold-roll-Field (Place → Mentioned) FieldMentions Mentioned (M.form_mentions inside declared) (M.field_mentions inside declared) (λ e. e.form e.at) l

  expr_rolls : (x : Expr-F ExprForm Field Expr) → expr_of (roll-Expr x) ≡ form_of x.form x.at
  expr_rolls x = fold_out-Expr (Place → Mentioned) FieldMentions Mentioned (M.form_mentions inside declared) (M.field_mentions inside declared) (λ e. e.form e.at) (roll-Expr x)

  abbrev maybe_in : Option Expr → Ms
  maybe_in = M.maybe_mentions inside declared

  abbrev case_layer : Case-F Ms Ms Ms Ms Ms → Ms
  case_layer c = maybe_in c.test ++ joined c.body

  abbrev catch_layer : Catch-F Ms Ms Ms Ms Ms → Ms
  catch_layer c = unbound (c.name ∷ []) (joined c.body)

  abbrev finally_layer : Finally-F Ms Ms Ms Ms Ms → Ms
  finally_layer f = joined f.body

  abbrev stmt_form_layer : StmtForm-F Ms Ms Ms Ms Ms → Ms
  stmt_form_layer = M.stmt_form_mentions inside declared

  abbrev stmt_form_of : StmtForm → Ms
  stmt_form_of = fold-StmtForm Ms Ms Ms Ms Ms stmt_form_layer case_layer catch_layer finally_layer (λ s. s.form)

  abbrev case_of : Case → Ms
  case_of = fold-Case Ms Ms Ms Ms Ms stmt_form_layer case_layer catch_layer finally_layer (λ s. s.form)

  abbrev catch_of : Catch → Ms
  catch_of = fold-Catch Ms Ms Ms Ms Ms stmt_form_layer case_layer catch_layer finally_layer (λ s. s.form)

  abbrev finally_of : Finally → Ms
  finally_of = fold-Finally Ms Ms Ms Ms Ms stmt_form_layer case_layer catch_layer finally_layer (λ s. s.form)

  abbrev stmt_of : Stmt → Ms
  stmt_of = M.stmt_mentions inside declared

  abbrev stmt_layer_of : StmtForm-F StmtForm Case Catch Finally Stmt → Ms
  stmt_layer_of l = stmt_form_layer (map-StmtForm StmtForm Case Catch Finally Stmt Ms Ms Ms Ms Ms stmt_form_of case_of catch_of finally_of stmt_of l)

  stmt_form_rolls : (l : StmtForm-F StmtForm Case Catch Finally Stmt) → stmt_form_of (roll-StmtForm l) ≡ stmt_layer_of l
  stmt_form_rolls l = fold-roll-StmtForm Ms Ms Ms Ms Ms stmt_form_layer case_layer catch_layer finally_layer (λ s. s.form) l

  stmt_rolls : (x : Stmt-F StmtForm Case Catch Finally Stmt) → stmt_of (roll-Stmt x) ≡ stmt_form_of x.form
  stmt_rolls x = fold_out-Stmt Ms Ms Ms Ms Ms stmt_form_layer case_layer catch_layer finally_layer (λ s. s.form) (roll-Stmt x)

  module _ {E : Type 0} (stmt_in : E → Stmt) where
    abbrev body_of : List E → Ms
    body_of es = joined (map stmt_of (map stmt_in es))

    case_rolls : (test : Option Expr) (es : List E) → case_of (roll-Case (record { test = test; body = map stmt_in es })) ≡ maybe_in test ++ body_of es
    case_rolls test es = fold-roll-Case Ms Ms Ms Ms Ms stmt_form_layer case_layer catch_layer finally_layer (λ s. s.form) (record { test = test; body = map stmt_in es })

    catch_rolls : (at : Place) (name : List ℕ) (es : List E) → catch_of (roll-Catch (record { at = at; name = name; body = map stmt_in es })) ≡ unbound (name ∷ []) (body_of es)
    catch_rolls at name es = fold-roll-Catch Ms Ms Ms Ms Ms stmt_form_layer case_layer catch_layer finally_layer (λ s. s.form) (record { at = at; name = name; body = map stmt_in es })

    finally_rolls : (es : List E) → finally_of (roll-Finally (record { body = map stmt_in es })) ≡ body_of es
    finally_rolls es = fold-roll-Finally Ms Ms Ms Ms Ms stmt_form_layer case_layer catch_layer finally_layer (λ s. s.form) (record { body = map stmt_in es })

module _ (R : Ms → Ms → Type 0) (same : (a : Ms) → R a a) (joins : (a b c d : Ms) → R a c → R b d → R (a ++ b) (c ++ d))
    (binds : (names : Names) (a b : Ms) → R a b → R (unbound names a) (unbound names b))
    (i d j e : FuncNo → Ms) (insides : (f : FuncNo) → R (i f) (j f)) (declareds : (f : FuncNo) → R (d f) (e f)) where
  along : (a b c d : Ms) → a ≡ c → b ≡ d → R c d → R a b
  along a b c d h k r = subst (λ x. R x b) (sym h) (subst (λ y. R c y) (sym k) r)

  three : (a b c x y z : Ms) → R a x → R b y → R c z → R (a ++ b ++ c) (x ++ y ++ z)
  three a b c x y z h k l = joins (a ++ b) c (x ++ y) z (joins a b x y h k) l

  abbrev Both : Mentioned → Mentioned → Type 0
  Both m n = R m.0 n.0 × R m.1 n.1

  abbrev FormRelates : ExprForm → Type 0
  FormRelates f = (at : Place) → Both (form_of i d f at) (form_of j e f at)

  abbrev FieldRelates : Field → Type 0
  FieldRelates f = ((field_of i d f).0 ≡ (field_of j e f).0) × R (field_of i d f).1 (field_of j e f).1

  abbrev ExprRelates : Expr → Type 0
  ExprRelates x = Both (expr_of i d x) (expr_of j e x)

  abbrev LayerRelates : ExprForm-F ExprForm Field Expr → Type 0
  LayerRelates l = (at : Place) → Both (layer_of i d l at) (layer_of j e l at)

  from_layer : (l : ExprForm-F ExprForm Field Expr) → LayerRelates l → FormRelates (roll-ExprForm l)
  from_layer l h at =
      subst (λ (m : Place → Mentioned). Both (m at) (form_of j e (roll-ExprForm l) at)) (sym (form_rolls i d l))
      (subst (λ (m : Place → Mentioned). Both (layer_of i d l at) (m at)) (sym (form_rolls j e l)) (h at))

  abbrev FieldLayerRelates : Field-F ExprForm Field Expr → Type 0
  FieldLayerRelates l = ((field_layer_of i d l).0 ≡ (field_layer_of j e l).0) × R (field_layer_of i d l).1 (field_layer_of j e l).1

  from_field_layer : (l : Field-F ExprForm Field Expr) → FieldLayerRelates l → FieldRelates (roll-Field l)
  from_field_layer l h =
      let f : field_of i d (roll-Field l) ≡ field_layer_of i d l = field_rolls i d l in
      let g : field_of j e (roll-Field l) ≡ field_layer_of j e l = field_rolls j e l in (
        ap (λ (m : FieldMentions). m.0) f ∙ h.0 ∙ sym (ap (λ (m : FieldMentions). m.0) g),
        along _ _ _ _ (ap (λ (m : FieldMentions). m.1) f) (ap (λ (m : FieldMentions). m.1) g) h.1,
      )

  from_form : (x : Expr-F ExprForm Field Expr) → FormRelates x.form → ExprRelates (roll-Expr x)
  from_form x h =
      subst (λ (m : Mentioned). Both m (expr_of j e (roll-Expr x))) (sym (expr_rolls i d x))
      (subst (λ (m : Mentioned). Both (form_of i d x.form x.at) m) (sym (expr_rolls j e x)) (h x.at))

  module _ {A B C : Type 0} (form_in : A → ExprForm) (field_in : B → Field) (expr_in : C → Expr) (fields : (b : B) → FieldRelates (field_in b)) (exprs : (c : C) → ExprRelates (expr_in c)) where
    abbrev of : ExprForm-F A B C → ExprForm-F ExprForm Field Expr
    of = map-ExprForm A B C ExprForm Field Expr form_in field_in expr_in

    abbrev left : C → Ms
    left c = (expr_of i d (expr_in c)).0

    abbrev right : C → Ms
    right c = (expr_of j e (expr_in c)).0

    abbrev lefts : List C → Ms
    lefts cs = all_of (map (expr_of i d) (map expr_in cs))

    abbrev rights : List C → Ms
    rights cs = all_of (map (expr_of j e) (map expr_in cs))

    args : (cs : List C) → R (lefts cs) (rights cs)
    args [] = same []
    args (c ∷ cs) = joins (left c) (lefts cs) (right c) (rights cs) (exprs c).0 (args cs)

    abbrev fields_left : List B → List FieldMentions
    fields_left bs = map (field_of i d) (map field_in bs)

    abbrev fields_right : List B → List FieldMentions
    fields_right bs = map (field_of j e) (map field_in bs)

    abbrev in_fields : List FieldMentions → Ms
    in_fields fs = flat_map (λ (f : FieldMentions). f.1) fs

    abbrev properties : List FieldMentions → List Property
    properties fs = map (λ (f : FieldMentions). f.0) fs

    all_fields : (bs : List B) → R (in_fields (fields_left bs)) (in_fields (fields_right bs))
    all_fields [] = same []
    all_fields (b ∷ bs) = joins (field_of i d (field_in b)).1 (in_fields (fields_left bs)) (field_of j e (field_in b)).1 (in_fields (fields_right bs)) (fields b).1 (all_fields bs)

    all_properties : (bs : List B) → properties (fields_left bs) ≡ properties (fields_right bs)
    all_properties [] = refl
    all_properties (b ∷ bs) =
        ap (λ p. p ∷ properties (fields_left bs)) (fields b).0 ∙ ap (λ ps. (field_of j e (field_in b)).0 ∷ ps) (all_properties bs)

    object : (bs : List B) → R (in_fields (fields_left bs) ++ repeated [] (properties (fields_left bs))) (in_fields (fields_right bs) ++ repeated [] (properties (fields_right bs)))
    object bs =
        joins (in_fields (fields_left bs)) (repeated [] (properties (fields_left bs))) (in_fields (fields_right bs)) (repeated [] (properties (fields_right bs)))
        (all_fields bs)
        (subst (λ ps. R (repeated [] (properties (fields_left bs))) (repeated [] ps)) (all_properties bs) (same (repeated [] (properties (fields_left bs)))))

    elements : (at : Place) (cs : List (Option C)) → R (layer_of i d (of (ExprForm-F.ArrayLit cs)) at).0 (layer_of j e (of (ExprForm-F.ArrayLit cs)) at).0
    elements at [] = same []
    elements at (None ∷ cs) = elements at cs
    elements at (Some c ∷ cs) =
        joins (left c) (layer_of i d (of (ExprForm-F.ArrayLit cs)) at).0 (right c) (layer_of j e (of (ExprForm-F.ArrayLit cs)) at).0 (exprs c).0 (elements at cs)

    pair : (a b : C) → R (left a ++ left b) (right a ++ right b)
    pair a b = joins (left a) (left b) (right a) (right b) (exprs a).0 (exprs b).0

    called : (a : C) (cs : List C) → R (left a ++ lefts cs) (right a ++ rights cs)
    called a cs = joins (left a) (lefts cs) (right a) (rights cs) (exprs a).0 (args cs)

    layer_relates : (y : ExprForm-F A B C) → LayerRelates (of y)
    layer_relates ExprForm-F.This at = (same [], same [])
    layer_relates (ExprForm-F.Name text) at = (same (M.Reads at text ∷ []), same (M.Assigns at text ∷ []))
    layer_relates (ExprForm-F.Literal v) at = (same [], same [])
    layer_relates (ExprForm-F.ArrayLit cs) at = (elements at cs, elements at cs)
    layer_relates (ExprForm-F.ObjectLit bs) at = (object bs, object bs)
    layer_relates (ExprForm-F.Func f) at = (insides f, insides f)
    layer_relates (ExprForm-F.Member a key) at = ((exprs a).0, (exprs a).0)
    layer_relates (ExprForm-F.Index a b) at = (pair a b, pair a b)
    layer_relates (ExprForm-F.Call a cs) at = (called a cs, called a cs)
    layer_relates (ExprForm-F.New a cs) at = (called a cs, called a cs)
    layer_relates (ExprForm-F.Unary op a) at = ((exprs a).0, (exprs a).0)
    layer_relates (ExprForm-F.Binary op a b) at = (pair a b, pair a b)
    layer_relates (ExprForm-F.Logic op a b) at = (pair a b, pair a b)
    layer_relates (ExprForm-F.Conditional t a b) at =
        let h = three (left t) (left a) (left b) (right t) (right a) (right b) (exprs t).0 (exprs a).0 (exprs b).0 in (h, h)
    layer_relates (ExprForm-F.Assign a op b) at =
        let h = joins (expr_of i d (expr_in a)).1 (left b) (expr_of j e (expr_in a)).1 (right b) (exprs a).1 (exprs b).0 in (h, h)
    layer_relates (ExprForm-F.Step op a) at = ((exprs a).1, (exprs a).1)
    layer_relates (ExprForm-F.Comma a b) at = (pair a b, pair a b)
    layer_relates (ExprForm-F.Input k text) at = (same (M.Takes at k text ∷ []), same (M.Takes at k text ∷ []))
    layer_relates (ExprForm-F.HostCall k text cs) at = (args cs, args cs)

    field_layer_relates : (y : Field-F A B C) → FieldLayerRelates (map-Field A B C ExprForm Field Expr form_in field_in expr_in y)
    field_layer_relates (Field-F.Value at key x) = (refl, (exprs x).0)
    field_layer_relates (Field-F.Getter at key f) = (refl, insides f)
    field_layer_relates (Field-F.Setter at key f) = (refl, insides f)

  expr_relates : (x : Expr) → ExprRelates x
  expr_relates = ind-Expr FormRelates FieldRelates ExprRelates
      (λ x y is. subst (λ l. FormRelates (roll-ExprForm l)) is (from_layer _ (layer_relates (λ e. e.0) (λ e. e.0) (λ e. e.0) (λ e. e.1) (λ e. e.1) y)))
      (λ x y is. subst (λ l. FieldRelates (roll-Field l)) is (from_field_layer _ (field_layer_relates (λ e. e.0) (λ e. e.0) (λ e. e.0) (λ e. e.1) (λ e. e.1) y)))
      (λ x y is. subst (λ l. ExprRelates (roll-Expr l)) is (from_form _ y.form.1))

  -- ---- statements

  maybe_relates : (x : Option Expr) → R (maybe_in i d x) (maybe_in j e x)
  maybe_relates None = same []
  maybe_relates (Some x) = (expr_relates x).0

  declarators_relate : (ds : List Declarator) → R (M.declarator_mentions i d ds) (M.declarator_mentions j e ds)
  declarators_relate [] = same []
  declarators_relate (x ∷ ds) =
      joins (maybe_in i d x.init) (M.declarator_mentions i d ds) (maybe_in j e x.init) (M.declarator_mentions j e ds) (maybe_relates x.init) (declarators_relate ds)

  start_relates : (from : ForStart) → R (M.start_mentions i d from) (M.start_mentions j e from)
  start_relates start.Nothing = same []
  start_relates (start.Expr x) = (expr_relates x).0
  start_relates (start.Var ds) = declarators_relate ds

  target_relates : (to : ForTarget) → R (M.target_mentions i d to) (M.target_mentions j e to)
  target_relates (target.Expr x) = (expr_relates x).1
  target_relates (target.Var at name) = same []

  abbrev StmtFormRelates : StmtForm → Type 0
  StmtFormRelates f = R (stmt_form_of i d f) (stmt_form_of j e f)

  abbrev CaseRelates : Case → Type 0
  CaseRelates c = R (case_of i d c) (case_of j e c)

  abbrev CatchRelates : Catch → Type 0
  CatchRelates c = R (catch_of i d c) (catch_of j e c)

  abbrev FinallyRelates : Finally → Type 0
  FinallyRelates f = R (finally_of i d f) (finally_of j e f)

  abbrev StmtRelates : Stmt → Type 0
  StmtRelates t = R (stmt_of i d t) (stmt_of j e t)

  abbrev StmtLayerRelates : StmtForm-F StmtForm Case Catch Finally Stmt → Type 0
  StmtLayerRelates l = R (stmt_layer_of i d l) (stmt_layer_of j e l)

  from_stmt_layer : (l : StmtForm-F StmtForm Case Catch Finally Stmt) → StmtLayerRelates l → StmtFormRelates (roll-StmtForm l)
  from_stmt_layer l h = along _ _ _ _ (stmt_form_rolls i d l) (stmt_form_rolls j e l) h

  from_stmt : (x : Stmt-F StmtForm Case Catch Finally Stmt) → StmtFormRelates x.form → StmtRelates (roll-Stmt x)
  from_stmt x h = along _ _ _ _ (stmt_rolls i d x) (stmt_rolls j e x) h

  module _ {E : Type 0} (stmt_in : E → Stmt) (stmts : (s : E) → StmtRelates (stmt_in s)) where
    body : (es : List E) → R (body_of i d stmt_in es) (body_of j e stmt_in es)
    body [] = same []
    body (s ∷ es) = joins (stmt_of i d (stmt_in s)) (body_of i d stmt_in es) (stmt_of j e (stmt_in s)) (body_of j e stmt_in es) (stmts s) (body es)

    from_case : (test : Option Expr) (es : List E) → CaseRelates (roll-Case (record { test = test; body = map stmt_in es }))
    from_case test es =
        along _ _ _ _ (case_rolls i d stmt_in test es) (case_rolls j e stmt_in test es)
        (joins (maybe_in i d test) (body_of i d stmt_in es) (maybe_in j e test) (body_of j e stmt_in es) (maybe_relates test) (body es))

    from_catch : (at : Place) (name : List ℕ) (es : List E) → CatchRelates (roll-Catch (record { at = at; name = name; body = map stmt_in es }))
    from_catch at name es =
        along _ _ _ _ (catch_rolls i d stmt_in at name es) (catch_rolls j e stmt_in at name es)
        (binds (name ∷ []) (body_of i d stmt_in es) (body_of j e stmt_in es) (body es))

    from_finally : (es : List E) → FinallyRelates (roll-Finally (record { body = map stmt_in es }))
    from_finally es = along _ _ _ _ (finally_rolls i d stmt_in es) (finally_rolls j e stmt_in es) (body es)

  module _ {A B C D E : Type 0} (form_in : A → StmtForm) (case_in : B → Case) (catch_in : C → Catch) (finally_in : D → Finally) (stmt_in : E → Stmt)
      (cases : (b : B) → CaseRelates (case_in b)) (catches : (c : C) → CatchRelates (catch_in c)) (lasts : (f : D) → FinallyRelates (finally_in f)) (stmts : (s : E) → StmtRelates (stmt_in s)) where
    abbrev in_layer : StmtForm-F A B C D E → StmtForm-F StmtForm Case Catch Finally Stmt
    in_layer = map-StmtForm A B C D E StmtForm Case Catch Finally Stmt form_in case_in catch_in finally_in stmt_in

    abbrev cases_left : List B → Ms
    cases_left bs = joined (map (case_of i d) (map case_in bs))

    abbrev cases_right : List B → Ms
    cases_right bs = joined (map (case_of j e) (map case_in bs))

    clauses : (bs : List B) → R (cases_left bs) (cases_right bs)
    clauses [] = same []
    clauses (b ∷ bs) = joins (case_of i d (case_in b)) (cases_left bs) (case_of j e (case_in b)) (cases_right bs) (cases b) (clauses bs)

    abbrev at_left : E → Ms
    at_left s = stmt_of i d (stmt_in s)

    abbrev at_right : E → Ms
    at_right s = stmt_of j e (stmt_in s)

    abbrev x_left : Expr → Ms
    x_left x = (expr_of i d x).0

    abbrev x_right : Expr → Ms
    x_right x = (expr_of j e x).0

    abbrev all_left : List E → Ms
    all_left es = body_of i d stmt_in es

    abbrev all_right : List E → Ms
    all_right es = body_of j e stmt_in es

    stmt_relates : (y : StmtForm-F A B C D E) → StmtLayerRelates (in_layer y)
    stmt_relates (StmtForm-F.Var ds) = declarators_relate ds
    stmt_relates (StmtForm-F.FuncDecl f) = declareds f
    stmt_relates (StmtForm-F.Eval x) = (expr_relates x).0
    stmt_relates (StmtForm-F.Block es) = body stmt_in stmts es
    stmt_relates StmtForm-F.Empty = same []
    stmt_relates (StmtForm-F.If x a None) = three (x_left x) (at_left a) [] (x_right x) (at_right a) [] (expr_relates x).0 (stmts a) (same [])
    stmt_relates (StmtForm-F.If x a (Some b)) = three (x_left x) (at_left a) (at_left b) (x_right x) (at_right a) (at_right b) (expr_relates x).0 (stmts a) (stmts b)
    stmt_relates (StmtForm-F.DoWhile a x) = joins (at_left a) (x_left x) (at_right a) (x_right x) (stmts a) (expr_relates x).0
    stmt_relates (StmtForm-F.While x a) = joins (x_left x) (at_left a) (x_right x) (at_right a) (expr_relates x).0 (stmts a)
    stmt_relates (StmtForm-F.For from test step a) =
        joins (M.start_mentions i d from ++ maybe_in i d test ++ maybe_in i d step) (at_left a) (M.start_mentions j e from ++ maybe_in j e test ++ maybe_in j e step) (at_right a)
        (three (M.start_mentions i d from) (maybe_in i d test) (maybe_in i d step) (M.start_mentions j e from) (maybe_in j e test) (maybe_in j e step) (start_relates from) (maybe_relates test) (maybe_relates step))
        (stmts a)
    stmt_relates (StmtForm-F.ForIn to x a) =
        three (M.target_mentions i d to) (x_left x) (at_left a) (M.target_mentions j e to) (x_right x) (at_right a) (target_relates to) (expr_relates x).0 (stmts a)
    stmt_relates StmtForm-F.Continue = same []
    stmt_relates StmtForm-F.Break = same []
    stmt_relates (StmtForm-F.Return x) = maybe_relates x
    stmt_relates (StmtForm-F.Switch x bs) = joins (x_left x) (cases_left bs) (x_right x) (cases_right bs) (expr_relates x).0 (clauses bs)
    stmt_relates (StmtForm-F.Throw x) = (expr_relates x).0
    stmt_relates (StmtForm-F.Try es None None) = three (all_left es) [] [] (all_right es) [] [] (body stmt_in stmts es) (same []) (same [])
    stmt_relates (StmtForm-F.Try es (Some c) None) =
        three (all_left es) (catch_of i d (catch_in c)) [] (all_right es) (catch_of j e (catch_in c)) [] (body stmt_in stmts es) (catches c) (same [])
    stmt_relates (StmtForm-F.Try es None (Some f)) =
        three (all_left es) [] (finally_of i d (finally_in f)) (all_right es) [] (finally_of j e (finally_in f)) (body stmt_in stmts es) (same []) (lasts f)
    stmt_relates (StmtForm-F.Try es (Some c) (Some f)) =
        three (all_left es) (catch_of i d (catch_in c)) (finally_of i d (finally_in f)) (all_right es) (catch_of j e (catch_in c)) (finally_of j e (finally_in f))
        (body stmt_in stmts es) (catches c) (lasts f)

  every : (t : Stmt) → StmtRelates t
  every = ind-Stmt StmtFormRelates CaseRelates CatchRelates FinallyRelates StmtRelates
      (λ x y is. subst (λ l. StmtFormRelates (roll-StmtForm l)) is (from_stmt_layer _ (stmt_relates (λ e. e.0) (λ e. e.0) (λ e. e.0) (λ e. e.0) (λ e. e.0) (λ e. e.1) (λ e. e.1) (λ e. e.1) (λ e. e.1) y)))
      (λ x y is. subst (λ l. CaseRelates (roll-Case l)) is (from_case (λ e. e.0) (λ e. e.1) y.test y.body))
      (λ x y is. subst (λ l. CatchRelates (roll-Catch l)) is (from_catch (λ e. e.0) (λ e. e.1) y.at y.name y.body))
      (λ x y is. subst (λ l. FinallyRelates (roll-Finally l)) is (from_finally (λ e. e.0) (λ e. e.1) y.body))
      (λ x y is. subst (λ l. StmtRelates (roll-Stmt l)) is (from_stmt _ y.form.1))

  pub body_relates : (ts : List Stmt) → R (M.body_mentions i d ts) (M.body_mentions j e ts)
  body_relates [] = same []
  body_relates (t ∷ ts) = joins (stmt_of i d t) (M.body_mentions i d ts) (stmt_of j e t) (M.body_mentions j e ts) (every t) (body_relates ts)
