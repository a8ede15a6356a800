-- What each form of expressions with several parts mentions.
use Rattle.std.proofs.Common.{◌≡◌, ◌++◌, List, [], ◌∷◌, refl, ap, sym, ◌∙◌, map, append_assoc, OnOk, Ok, Err}
use Rattle.std.specs.Prelude.{Option, Some, None, Result}
use Rattle.std.specs.List.{flat_map}
use Rattle.js_value.specs.declared.operator.BinaryOp.{BinaryOp}
use Rattle.js_value.specs.declared.place.Place.{Place}
use Rattle.js_tree.specs.declared.expression.Expr.{Expr}
use Rattle.js_tree.specs.declared.expression.Field.{Field, out-Field}
use Rattle.js_tree.specs.declared.expression.LogicOp.{LogicOp}
use Rattle.js_tree.specs.declared.expression.ExprForm.{ExprForm, out-ExprForm}
use Rattle.js_tree.specs.declared.expression.ExprForm.TheOpen.{ExprForm-F, Field-F}
use Rattle.js_tree.specs.declared.expression.ExprForm.TheFolds.{map-ExprForm, map-Field, fold_out-Field}
use Rattle.js_tree.specs.declared.expression.ExprForm.TheVariants as e
use Rattle.js_tree.specs.declared.statement.Case.{Case}
use Rattle.js_tree.specs.declared.statement.Catch.{Catch}
use Rattle.js_tree.specs.declared.statement.Finally.{Finally}
use Rattle.js_tree.specs.declared.statement.Stmt.{Stmt}
use Rattle.js_tree.specs.declared.statement.StmtForm.{StmtForm, out-StmtForm}
use Rattle.js_tree.specs.declared.statement.StmtForm.TheOpen.{StmtForm-F}
use Rattle.js_tree.specs.declared.statement.StmtForm.TheFolds.{map-StmtForm, fold_out-StmtForm}
use Rattle.js_tree.specs.declared.statement.StmtForm.TheVariants as s
use Rattle.js_tree.proofs.Folds.{fold-layer}
use Rattle.js_tree.specs.Mentions as M
use Rattle.js_tree.specs.Mentions.{Mention, Mentioned, FieldMentions}
use Rattle.js_scope.specs.declared.walk.Walk.{Walk}
use Rattle.js_scope.specs.Mentioning.{expression, declaration, in_form, in_field, in_fields, in_expr, in_exprs, in_maybe, in_stmt_form, in_case, in_catch, in_finally, in_handler, in_last, in_stmt, in_stmts}
use Rattle.js_scope.specs.Properties.{property, property_in}

abbrev Ms : Type 0
Ms = List Mention

flat_map-along : {A B C : Type 0} (p : B → List C) (v : A → B) (q : A → List C) → ((x : A) → p (v x) ≡ q x) → (xs : List A) → flat_map p (map v xs) ≡ flat_map q xs
flat_map-along p v q s [] = refl
flat_map-along p v q s (x ∷ xs) = ap (λ r. r ++ flat_map p (map v xs)) (s x) ∙ ap (λ r. q x ++ r) (flat_map-along p v q s xs)

map-along : {A B C : Type 0} (p : B → C) (v : A → B) (q : A → C) → ((x : A) → p (v x) ≡ q x) → (xs : List A) → map p (map v xs) ≡ map q xs
map-along p v q s [] = refl
map-along p v q s (x ∷ xs) = ap (λ r. r ∷ map p (map v xs)) (s x) ∙ ap (λ r. q x ∷ r) (map-along p v q s xs)

module _ (w : Walk) where
  opened : (form : ExprForm) (layer : ExprForm-F ExprForm Field Expr) (at : Place) → out-ExprForm form ≡ layer
      → (in_form w form at).0 ≡ (M.form_mentions (expression w) (declaration w) (map-ExprForm ExprForm Field Expr (Place → Mentioned) FieldMentions Mentioned (in_form w) (in_field w) (in_expr w) layer) at).0
  opened form layer at h =
      ap (λ (g : Place → Mentioned). (g at).0)
      (fold-layer (Place → Mentioned) FieldMentions Mentioned (M.form_mentions (expression w) (declaration w)) (M.field_mentions (expression w) (declaration w)) (λ e. e.form e.at) form layer h)

  pub form-Index : (a b : Expr) (at : Place) → (in_form w (e.Index a b) at).0 ≡ (in_expr w a).0 ++ (in_expr w b).0
  form-Index a b at = opened _ _ at (e.outs-Index a b)

  pub form-Call : (a : Expr) (args : List Expr) (at : Place) → (in_form w (e.Call a args) at).0 ≡ (in_expr w a).0 ++ in_exprs w args
  form-Call a args at = opened _ _ at (e.outs-Call a args)

  pub form-New : (a : Expr) (args : List Expr) (at : Place) → (in_form w (e.New a args) at).0 ≡ (in_expr w a).0 ++ in_exprs w args
  form-New a args at = opened _ _ at (e.outs-New a args)

  pub form-Binary : (op : BinaryOp) (a b : Expr) (at : Place) → (in_form w (e.Binary op a b) at).0 ≡ (in_expr w a).0 ++ (in_expr w b).0
  form-Binary op a b at = opened _ _ at (e.outs-Binary op a b)

  pub form-Logic : (op : LogicOp) (a b : Expr) (at : Place) → (in_form w (e.Logic op a b) at).0 ≡ (in_expr w a).0 ++ (in_expr w b).0
  form-Logic op a b at = opened _ _ at (e.outs-Logic op a b)

  pub form-Conditional : (test a b : Expr) (at : Place) → (in_form w (e.Conditional test a b) at).0 ≡ (in_expr w test).0 ++ (in_expr w a).0 ++ (in_expr w b).0
  form-Conditional test a b at = opened _ _ at (e.outs-Conditional test a b)

  pub form-Assign : (a : Expr) (op : Option BinaryOp) (b : Expr) (at : Place) → (in_form w (e.Assign a op b) at).0 ≡ (in_expr w a).1 ++ (in_expr w b).0
  form-Assign a op b at = opened _ _ at (e.outs-Assign a op b)

  pub form-Comma : (a b : Expr) (at : Place) → (in_form w (e.Comma a b) at).0 ≡ (in_expr w a).0 ++ (in_expr w b).0
  form-Comma a b at = opened _ _ at (e.outs-Comma a b)

  maybe_is : (g : Option Expr → Option Mentioned) → g None ≡ None → ((x : Expr) → g (Some x) ≡ Some (in_expr w x)) → (o : Option Expr) → M.maybe_of (g o) ≡ in_maybe w o
  maybe_is g n s None = ap (λ o. M.maybe_of o) n
  maybe_is g n s (Some x) = ap (λ o. M.maybe_of o) (s x)

  elements : (g : Option Expr → Option Mentioned) → g None ≡ None → ((x : Expr) → g (Some x) ≡ Some (in_expr w x)) → (items : List (Option Expr))
      → flat_map M.maybe_of (map g items) ≡ flat_map (in_maybe w) items
  elements g n s items = flat_map-along M.maybe_of g (in_maybe w) (maybe_is g n s) items

  pub form-ArrayLit : (items : List (Option Expr)) (at : Place) → (in_form w (e.ArrayLit items) at).0 ≡ flat_map (in_maybe w) items
  form-ArrayLit items at = opened _ _ at (e.outs-ArrayLit items) ∙ elements _ refl (λ x. refl) items

  field_is : (f : Field) → (in_field w f).0 ≡ property f
  field_is f =
      ap (λ (m : FieldMentions). m.0) (fold_out-Field (Place → Mentioned) FieldMentions Mentioned (M.form_mentions (expression w) (declaration w)) (M.field_mentions (expression w) (declaration w)) (λ e. e.form e.at) f)
      ∙ by (out-Field f)
    where
      by : (l : Field-F ExprForm Field Expr)
          → (M.field_mentions (expression w) (declaration w) (map-Field ExprForm Field Expr (Place → Mentioned) FieldMentions Mentioned (in_form w) (in_field w) (in_expr w) l)).0 ≡ property_in l
      by (Field-F.Value at key x) = refl
      by (Field-F.Getter at key g) = refl
      by (Field-F.Setter at key g) = refl

  pub form-ObjectLit : (fields : List Field) (at : Place) → (in_form w (e.ObjectLit fields) at).0 ≡ in_fields w fields ++ M.repeated [] (map property fields)
  form-ObjectLit fields at =
      opened _ _ at (e.outs-ObjectLit fields)
      ∙ ap (λ ps. in_fields w fields ++ M.repeated [] ps) (map-along (λ (m : FieldMentions). m.0) (in_field w) property field_is fields)

  -- a `try` with a handler
  tried : (form : StmtForm) (layer : StmtForm-F StmtForm Case Catch Finally Stmt) → out-StmtForm form ≡ layer
      → in_stmt_form w form ≡ M.stmt_form_mentions (expression w) (declaration w) (map-StmtForm StmtForm Case Catch Finally Stmt Ms Ms Ms Ms Ms (in_stmt_form w) (in_case w) (in_catch w) (in_finally w) (in_stmt w) layer)
  tried form layer h =
      fold_out-StmtForm Ms Ms Ms Ms Ms (M.stmt_form_mentions (expression w) (declaration w)) (λ c. in_maybe w c.test ++ M.joined c.body) (λ c. M.unbound (c.name ∷ []) (M.joined c.body)) (λ f. M.joined f.body) (λ s. s.form) form
      ∙ ap (λ l. M.stmt_form_mentions (expression w) (declaration w) (map-StmtForm StmtForm Case Catch Finally Stmt Ms Ms Ms Ms Ms (in_stmt_form w) (in_case w) (in_catch w) (in_finally w) (in_stmt w) l)) h

  pub form-Try : (body : List Stmt) (handler : Option Catch) (last : Option Finally)
      → in_stmt_form w (s.Try body handler last) ≡ in_stmts w body ++ in_handler w handler ++ in_last w last
  form-Try body None None = tried _ _ (s.outs-Try body None None)
  form-Try body (Some handler) None = tried _ _ (s.outs-Try body (Some handler) None)
  form-Try body None (Some last) = tried _ _ (s.outs-Try body None (Some last))
  form-Try body (Some handler) (Some last) = tried _ _ (s.outs-Try body (Some handler) (Some last))

-- ---- one part behind another

pub on_ok : {A E P Q : Type 0} (r : Result A E) → (P → Q) → OnOk r P → OnOk r Q
on_ok (Ok x) f p = f p
on_ok (Err e) f p = p

pub behind : {A E : Type 0} (r : Result A E) (old mid new a b whole : List Mention) → mid ≡ old ++ a → whole ≡ a ++ b → OnOk r (new ≡ mid ++ b) → OnOk r (new ≡ old ++ whole)
behind r old mid new a b whole h is p = on_ok r (λ e. e ∙ ap (λ ms. ms ++ b) h ∙ append_assoc old a b ∙ ap (λ ms. old ++ ms) (sym is)) p

pub alone : {A E : Type 0} (r : Result A E) (old new a whole : List Mention) → whole ≡ a → OnOk r (new ≡ old ++ a) → OnOk r (new ≡ old ++ whole)
alone r old new a whole is p = on_ok r (λ e. e ∙ ap (λ ms. old ++ ms) (sym is)) p
