-- Folds that ask for no place say the same of a tree and of that without its places.
use Rattle.std.proofs.Common.{◌≡◌, List, [], ◌∷◌, map, refl, ap, ◌∙◌}
use Rattle.std.specs.Prelude.{Option, Some, None}
use Rattle.std.specs.Option.{option_map}
use Rattle.js_value.specs.declared.place.Place.{Place}
use Rattle.js_tree.specs.Refusals.{place}
use Rattle.js_tree.specs.declared.expression.Expr.{Expr, fold-Expr}
use Rattle.js_tree.specs.declared.expression.ExprForm.TheOpen.{ExprForm-F, Field-F, Expr-F}
use Rattle.js_tree.specs.declared.expression.ExprForm.TheFolds.{map-ExprForm, map-Field}
use Rattle.js_tree.specs.declared.statement.Stmt.{Stmt, fold-Stmt}
use Rattle.js_tree.specs.declared.statement.StmtForm.TheOpen.{StmtForm-F, Case-F, Catch-F, Finally-F, Stmt-F}
use Rattle.js_tree.specs.declared.statement.StmtForm.TheFolds.{map-StmtForm}
use Rattle.reading_back.specs.Unplaced as unplaced
use Rattle.early_back.proofs.RelatedExpressions.{Two, forget_field}
use Rattle.early_back.proofs.RelatedExpressions as RE
use Rattle.early_back.proofs.RelatedStatements.{forget_form}
use Rattle.early_back.proofs.RelatedStatements as RS

abbrev Equal : Type 0 → Type 0
Equal X = Two {A = X} {B = X} (λ a b. a ≡ b)

alike : {X : Type 0} (ps : List (Equal X)) → map (λ (p : Equal X). p.0) ps ≡ map (λ (p : Equal X). p.1) ps
alike [] = refl
alike {X = X} (p ∷ ps) = ap (λ x. x ∷ map (λ (p : Equal X). p.0) ps) p.2 ∙ ap (λ xs. p.1 ∷ xs) (alike ps)

-- ---- expressions

-- two rules that say the same where places are forgotten
module _ {A B C : Type 0} (form : ExprForm-F A B C → A) (field : Field-F A B C → B) (expr : Expr-F A B C → C) (form_of : ExprForm-F A B C → A) (field_of : Field-F A B C → B) (expr_of : Expr-F A B C → C)
    (forms : (l : ExprForm-F A B C) → form_of l ≡ form l) (fields : (f : Field-F A B C) → field_of (forget_field f) ≡ field f)
    (exprs : (at : Place) (f : A) → expr_of (record { at = place 0; form = f }) ≡ expr (record { at = at; form = f })) where
  abbrev Layer : Type 0
  Layer = ExprForm-F (Equal A) (Equal B) (Equal C)

  abbrev left : Layer → ExprForm-F A B C
  left = map-ExprForm (Equal A) (Equal B) (Equal C) A B C (λ p. p.0) (λ p. p.0) (λ p. p.0)

  abbrev right : Layer → ExprForm-F A B C
  right = map-ExprForm (Equal A) (Equal B) (Equal C) A B C (λ p. p.1) (λ p. p.1) (λ p. p.1)

  abbrev put : {X Y Z : Type 0} → Option Z → ExprForm-F X Y Z → ExprForm-F X Y Z
  put o (ExprForm-F.ArrayLit xs) = ExprForm-F.ArrayLit (o ∷ xs)
  put o l = l

  elements : (ps : List (Option (Equal C))) → left (ExprForm-F.ArrayLit ps) ≡ right (ExprForm-F.ArrayLit ps)
  elements [] = refl
  elements (None ∷ ps) = ap (put None) (elements ps)
  elements (Some p ∷ ps) = ap (λ x. put (Some x) (left (ExprForm-F.ArrayLit ps))) p.2 ∙ ap (put (Some p.1)) (elements ps)

  layers : (y : Layer) → left y ≡ right y
  layers ExprForm-F.This = refl
  layers (ExprForm-F.Name text) = refl
  layers (ExprForm-F.Literal value) = refl
  layers (ExprForm-F.ArrayLit ps) = elements ps
  layers (ExprForm-F.ObjectLit ps) = ap (λ xs. ExprForm-F.ObjectLit xs) (alike ps)
  layers (ExprForm-F.Func f) = refl
  layers (ExprForm-F.Member a key) = ap (λ x. ExprForm-F.Member x key) a.2
  layers (ExprForm-F.Index a b) = ap (λ x. ExprForm-F.Index x b.0) a.2 ∙ ap (λ x. ExprForm-F.Index a.1 x) b.2
  layers (ExprForm-F.Call a ps) = ap (λ x. ExprForm-F.Call x (map (λ (p : Equal C). p.0) ps)) a.2 ∙ ap (λ xs. ExprForm-F.Call a.1 xs) (alike ps)
  layers (ExprForm-F.New a ps) = ap (λ x. ExprForm-F.New x (map (λ (p : Equal C). p.0) ps)) a.2 ∙ ap (λ xs. ExprForm-F.New a.1 xs) (alike ps)
  layers (ExprForm-F.Unary op a) = ap (λ x. ExprForm-F.Unary op x) a.2
  layers (ExprForm-F.Binary op a b) = ap (λ x. ExprForm-F.Binary op x b.0) a.2 ∙ ap (λ x. ExprForm-F.Binary op a.1 x) b.2
  layers (ExprForm-F.Logic op a b) = ap (λ x. ExprForm-F.Logic op x b.0) a.2 ∙ ap (λ x. ExprForm-F.Logic op a.1 x) b.2
  layers (ExprForm-F.Conditional t a b) =
      ap (λ x. ExprForm-F.Conditional x a.0 b.0) t.2 ∙ ap (λ x. ExprForm-F.Conditional t.1 x b.0) a.2 ∙ ap (λ x. ExprForm-F.Conditional t.1 a.1 x) b.2
  layers (ExprForm-F.Assign a op b) = ap (λ x. ExprForm-F.Assign x op b.0) a.2 ∙ ap (λ x. ExprForm-F.Assign a.1 op x) b.2
  layers (ExprForm-F.Step op a) = ap (λ x. ExprForm-F.Step op x) a.2
  layers (ExprForm-F.Comma a b) = ap (λ x. ExprForm-F.Comma x b.0) a.2 ∙ ap (λ x. ExprForm-F.Comma a.1 x) b.2
  layers (ExprForm-F.Input kind text) = refl
  layers (ExprForm-F.HostCall kind text ps) = ap (λ xs. ExprForm-F.HostCall kind text xs) (alike ps)

  abbrev left_field : Field-F (Equal A) (Equal B) (Equal C) → Field-F A B C
  left_field = map-Field (Equal A) (Equal B) (Equal C) A B C (λ p. p.0) (λ p. p.0) (λ p. p.0)

  abbrev right_field : Field-F (Equal A) (Equal B) (Equal C) → Field-F A B C
  right_field = map-Field (Equal A) (Equal B) (Equal C) A B C (λ p. p.1) (λ p. p.1) (λ p. p.1)

  field_layers : (y : Field-F (Equal A) (Equal B) (Equal C)) → left_field y ≡ right_field y
  field_layers (Field-F.Value at key x) = ap (λ z. Field-F.Value at key z) x.2
  field_layers (Field-F.Getter at key f) = refl
  field_layers (Field-F.Setter at key f) = refl

  each : RE.EachForm form field expr form_of field_of expr_of (λ a b. a ≡ b) (λ a b. a ≡ b) (λ a b. a ≡ b)
  each = record {
    forms = λ y. forms (left y) ∙ ap form (layers y);
    fields = λ y. fields (left_field y) ∙ ap field (field_layers y);
    exprs = λ at p. exprs at p.0 ∙ ap (λ (f : A). expr (record { at = at; form = f })) p.2;
  }

  pub expr_same : (x : Expr) → fold-Expr A B C form_of field_of expr_of (unplaced.expr x) ≡ fold-Expr A B C form field expr x
  expr_same = RE.related form field expr form_of field_of expr_of (λ a b. a ≡ b) (λ a b. a ≡ b) (λ a b. a ≡ b) each

-- ---- statements

-- two rules that say the same where places are forgotten
module _ {A B C D E : Type 0}
    (form : StmtForm-F A B C D E → A) (clause : Case-F A B C D E → B) (handler : Catch-F A B C D E → C) (final : Finally-F A B C D E → D) (stmt : Stmt-F A B C D E → E)
    (form_of : StmtForm-F A B C D E → A) (clause_of : Case-F A B C D E → B) (handler_of : Catch-F A B C D E → C) (final_of : Finally-F A B C D E → D) (stmt_of : Stmt-F A B C D E → E)
    (forms : (l : StmtForm-F A B C D E) → form_of (forget_form l) ≡ form l)
    (clauses : (c : Case-F A B C D E) → clause_of (record { test = option_map unplaced.expr c.test; body = c.body }) ≡ clause c)
    (handlers : (c : Catch-F A B C D E) → handler_of (record { at = place 0; name = c.name; body = c.body }) ≡ handler c)
    (finals : (f : Finally-F A B C D E) → final_of f ≡ final f)
    (stmts : (at : Place) (f : A) → stmt_of (record { at = place 0; form = f }) ≡ stmt (record { at = at; form = f })) where
  abbrev StmtLayer : Type 0
  StmtLayer = StmtForm-F (Equal A) (Equal B) (Equal C) (Equal D) (Equal E)

  abbrev left_stmt : StmtLayer → StmtForm-F A B C D E
  left_stmt = map-StmtForm (Equal A) (Equal B) (Equal C) (Equal D) (Equal E) A B C D E (λ p. p.0) (λ p. p.0) (λ p. p.0) (λ p. p.0) (λ p. p.0)

  abbrev right_stmt : StmtLayer → StmtForm-F A B C D E
  right_stmt = map-StmtForm (Equal A) (Equal B) (Equal C) (Equal D) (Equal E) A B C D E (λ p. p.1) (λ p. p.1) (λ p. p.1) (λ p. p.1) (λ p. p.1)

  abbrev lefts : List (Equal E) → List E
  lefts ps = map (λ (p : Equal E). p.0) ps

  stmt_layers : (y : StmtLayer) → left_stmt y ≡ right_stmt y
  stmt_layers (StmtForm-F.Var ds) = refl
  stmt_layers (StmtForm-F.FuncDecl f) = refl
  stmt_layers (StmtForm-F.Eval x) = refl
  stmt_layers (StmtForm-F.Block ps) = ap (λ xs. StmtForm-F.Block xs) (alike ps)
  stmt_layers StmtForm-F.Empty = refl
  stmt_layers (StmtForm-F.If x a None) = ap (λ z. StmtForm-F.If x z None) a.2
  stmt_layers (StmtForm-F.If x a (Some b)) = ap (λ z. StmtForm-F.If x z (Some b.0)) a.2 ∙ ap (λ z. StmtForm-F.If x a.1 (Some z)) b.2
  stmt_layers (StmtForm-F.DoWhile a x) = ap (λ z. StmtForm-F.DoWhile z x) a.2
  stmt_layers (StmtForm-F.While x a) = ap (λ z. StmtForm-F.While x z) a.2
  stmt_layers (StmtForm-F.For from test step a) = ap (λ z. StmtForm-F.For from test step z) a.2
  stmt_layers (StmtForm-F.ForIn to x a) = ap (λ z. StmtForm-F.ForIn to x z) a.2
  stmt_layers StmtForm-F.Continue = refl
  stmt_layers StmtForm-F.Break = refl
  stmt_layers (StmtForm-F.Return x) = refl
  stmt_layers (StmtForm-F.Switch x ps) = ap (λ xs. StmtForm-F.Switch x xs) (alike ps)
  stmt_layers (StmtForm-F.Throw x) = refl
  stmt_layers (StmtForm-F.Try ps None None) = ap (λ xs. StmtForm-F.Try xs None None) (alike ps)
  stmt_layers (StmtForm-F.Try ps (Some c) None) = ap (λ z. StmtForm-F.Try (lefts ps) (Some z) None) c.2 ∙ ap (λ xs. StmtForm-F.Try xs (Some c.1) None) (alike ps)
  stmt_layers (StmtForm-F.Try ps None (Some f)) = ap (λ z. StmtForm-F.Try (lefts ps) None (Some z)) f.2 ∙ ap (λ xs. StmtForm-F.Try xs None (Some f.1)) (alike ps)
  stmt_layers (StmtForm-F.Try ps (Some c) (Some f)) =
      ap (λ z. StmtForm-F.Try (lefts ps) (Some z) (Some f.0)) c.2
      ∙ ap (λ z. StmtForm-F.Try (lefts ps) (Some c.1) (Some z)) f.2
      ∙ ap (λ xs. StmtForm-F.Try xs (Some c.1) (Some f.1)) (alike ps)

  each_stmt : RS.EachForm form clause handler final stmt form_of clause_of handler_of final_of stmt_of (λ a b. a ≡ b) (λ a b. a ≡ b) (λ a b. a ≡ b) (λ a b. a ≡ b) (λ a b. a ≡ b)
  each_stmt = record {
    forms = λ y. forms (left_stmt y) ∙ ap form (stmt_layers y);
    cases = λ y. clauses (record { test = y.test; body = lefts y.body }) ∙ ap (λ (xs : List E). clause (record { test = y.test; body = xs })) (alike y.body);
    catches = λ y. handlers (record { at = y.at; name = y.name; body = lefts y.body }) ∙ ap (λ (xs : List E). handler (record { at = y.at; name = y.name; body = xs })) (alike y.body);
    finals = λ y. finals (record { body = lefts y.body }) ∙ ap (λ (xs : List E). final (record { body = xs })) (alike y.body);
    stmts = λ at p. stmts at p.0 ∙ ap (λ (f : A). stmt (record { at = at; form = f })) p.2;
  }

  pub stmt_same : (t : Stmt) → fold-Stmt A B C D E form_of clause_of handler_of final_of stmt_of (unplaced.stmt t) ≡ fold-Stmt A B C D E form clause handler final stmt t
  stmt_same = RS.related form clause handler final stmt form_of clause_of handler_of final_of stmt_of (λ a b. a ≡ b) (λ a b. a ≡ b) (λ a b. a ≡ b) (λ a b. a ≡ b) (λ a b. a ≡ b) each_stmt
