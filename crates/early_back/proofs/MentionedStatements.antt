-- What a statement mentions is what that without its places mentions, but for places.
use Rattle.std.proofs.Common.{◌≡◌, List, [], ◌∷◌, ◌++◌, map, refl, ap, ◌∙◌}
use Rattle.std.specs.Prelude.{Some, None}
use Rattle.js_value.specs.declared.place.FuncNo.{FuncNo}
use Rattle.js_tree.specs.Mentions as M
use Rattle.js_tree.specs.Mentions.{Mention, joined, unbound}
use Rattle.js_tree.specs.declared.statement.Declarator.{Declarator}
use Rattle.js_tree.specs.declared.statement.ForStart.{ForStart}
use Rattle.js_tree.specs.declared.statement.ForStart.TheVariants as start
use Rattle.js_tree.specs.declared.statement.ForTarget.{ForTarget}
use Rattle.js_tree.specs.declared.statement.ForTarget.TheVariants as target
use Rattle.js_tree.specs.declared.statement.Stmt.{Stmt}
use Rattle.js_tree.specs.declared.statement.StmtForm.TheOpen.{StmtForm-F}
use Rattle.js_tree.specs.declared.statement.StmtForm.TheFolds.{map-StmtForm}
use Rattle.reading_back.specs.Unplaced as unplaced
use Rattle.early_back.proofs.Forgotten.{forget, forgotten, joins, joined-map, unbound_is}
use Rattle.early_back.proofs.MentionedExpressions.{expr_is, maybe_is}
use Rattle.early_back.proofs.RelatedExpressions.{Two}
use Rattle.early_back.proofs.RelatedStatements.{forget_form}
use Rattle.early_back.proofs.RelatedStatements as R

abbrev Ms : Type 0
Ms = List Mention

abbrev SameMs : Ms → Ms → Type 0
SameMs m n = m ≡ forgotten n

abbrev Pair : Type 0
Pair = Two SameMs

abbrev Layer : Type 0
Layer = StmtForm-F Pair Pair Pair Pair Pair

abbrev left : Layer → StmtForm-F Ms Ms Ms Ms Ms
left = map-StmtForm Pair Pair Pair Pair Pair Ms Ms Ms Ms Ms (λ p. p.0) (λ p. p.0) (λ p. p.0) (λ p. p.0) (λ p. p.0)

abbrev right : Layer → StmtForm-F Ms Ms Ms Ms Ms
right = map-StmtForm Pair Pair Pair Pair Pair Ms Ms Ms Ms Ms (λ p. p.1) (λ p. p.1) (λ p. p.1) (λ p. p.1) (λ p. p.1)

abbrev lefts : List Pair → Ms
lefts ps = joined (map (λ (p : Pair). p.0) ps)

abbrev rights : List Pair → Ms
rights ps = joined (map (λ (p : Pair). p.1) ps)

bodies : (ps : List Pair) → lefts ps ≡ forgotten (rights ps)
bodies ps = joined-map forget ps

-- by what is inside functions
module _ (inside declared unplaced_inside unplaced_declared : FuncNo → Ms) (inside_is : (f : FuncNo) → unplaced_inside f ≡ forgotten (inside f)) (declared_is : (f : FuncNo) → unplaced_declared f ≡ forgotten (declared f)) where
  declarators_are : (ds : List Declarator) → M.declarator_mentions unplaced_inside unplaced_declared (map unplaced.declarator ds) ≡ forgotten (M.declarator_mentions inside declared ds)
  declarators_are [] = refl
  declarators_are (d ∷ ds) =
      joins _ (M.declarator_mentions unplaced_inside unplaced_declared (map unplaced.declarator ds)) (M.maybe_mentions inside declared d.init) (M.declarator_mentions inside declared ds)
      (maybe_is inside declared unplaced_inside unplaced_declared inside_is d.init) (declarators_are ds)

  start_is : (from : ForStart) → M.start_mentions unplaced_inside unplaced_declared (unplaced.for_start from) ≡ forgotten (M.start_mentions inside declared from)
  start_is start.Nothing = refl
  start_is (start.Expr x) = (expr_is inside declared unplaced_inside unplaced_declared inside_is x).0
  start_is (start.Var ds) = declarators_are ds

  target_is : (to : ForTarget) → M.target_mentions unplaced_inside unplaced_declared (unplaced.for_target to) ≡ forgotten (M.target_mentions inside declared to)
  target_is (target.Expr x) = (expr_is inside declared unplaced_inside unplaced_declared inside_is x).1
  target_is (target.Var at name) = refl

  forms : (y : Layer) → M.stmt_form_mentions unplaced_inside unplaced_declared (forget_form (left y)) ≡ forgotten (M.stmt_form_mentions inside declared (right y))
  forms (StmtForm-F.Var ds) = declarators_are ds
  forms (StmtForm-F.FuncDecl f) = declared_is f
  forms (StmtForm-F.Eval x) = (expr_is inside declared unplaced_inside unplaced_declared inside_is x).0
  forms (StmtForm-F.Block ps) = bodies ps
  forms StmtForm-F.Empty = refl
  forms (StmtForm-F.If x a None) = joins _ [] _ [] (joins _ a.0 _ a.1 (expr_is inside declared unplaced_inside unplaced_declared inside_is x).0 a.2) refl
  forms (StmtForm-F.If x a (Some b)) = joins _ b.0 _ b.1 (joins _ a.0 _ a.1 (expr_is inside declared unplaced_inside unplaced_declared inside_is x).0 a.2) b.2
  forms (StmtForm-F.DoWhile a x) = joins a.0 _ a.1 _ a.2 (expr_is inside declared unplaced_inside unplaced_declared inside_is x).0
  forms (StmtForm-F.While x a) = joins _ a.0 _ a.1 (expr_is inside declared unplaced_inside unplaced_declared inside_is x).0 a.2
  forms (StmtForm-F.For from test step a) =
      joins _ a.0 _ a.1
      (joins _ _ _ _ (joins _ _ _ _ (start_is from) (maybe_is inside declared unplaced_inside unplaced_declared inside_is test)) (maybe_is inside declared unplaced_inside unplaced_declared inside_is step)) a.2
  forms (StmtForm-F.ForIn to x a) = joins _ a.0 _ a.1 (joins _ _ _ _ (target_is to) (expr_is inside declared unplaced_inside unplaced_declared inside_is x).0) a.2
  forms StmtForm-F.Continue = refl
  forms StmtForm-F.Break = refl
  forms (StmtForm-F.Return x) = maybe_is inside declared unplaced_inside unplaced_declared inside_is x
  forms (StmtForm-F.Switch x ps) = joins _ (lefts ps) _ (rights ps) (expr_is inside declared unplaced_inside unplaced_declared inside_is x).0 (bodies ps)
  forms (StmtForm-F.Throw x) = (expr_is inside declared unplaced_inside unplaced_declared inside_is x).0
  forms (StmtForm-F.Try ps None None) = joins _ [] _ [] (joins (lefts ps) [] (rights ps) [] (bodies ps) refl) refl
  forms (StmtForm-F.Try ps (Some c) None) = joins _ [] _ [] (joins (lefts ps) c.0 (rights ps) c.1 (bodies ps) c.2) refl
  forms (StmtForm-F.Try ps None (Some f)) = joins _ f.0 _ f.1 (joins (lefts ps) [] (rights ps) [] (bodies ps) refl) f.2
  forms (StmtForm-F.Try ps (Some c) (Some f)) = joins _ f.0 _ f.1 (joins (lefts ps) c.0 (rights ps) c.1 (bodies ps) c.2) f.2

  each : R.EachForm
      (M.stmt_form_mentions inside declared) (λ c. M.maybe_mentions inside declared c.test ++ joined c.body) (λ c. unbound (c.name ∷ []) (joined c.body)) (λ f. joined f.body) (λ s. s.form)
      (M.stmt_form_mentions unplaced_inside unplaced_declared) (λ c. M.maybe_mentions unplaced_inside unplaced_declared c.test ++ joined c.body) (λ c. unbound (c.name ∷ []) (joined c.body)) (λ f. joined f.body) (λ s. s.form)
      SameMs SameMs SameMs SameMs SameMs
  each = record {
    forms = forms;
    cases = λ y. joins _ (lefts y.body) _ (rights y.body) (maybe_is inside declared unplaced_inside unplaced_declared inside_is y.test) (bodies y.body);
    catches = λ y. ap (unbound (y.name ∷ [])) (bodies y.body) ∙ unbound_is (y.name ∷ []) (rights y.body);
    finals = λ y. bodies y.body;
    stmts = λ at p. p.2;
  }

  stmt_is : (t : Stmt) → M.stmt_mentions unplaced_inside unplaced_declared (unplaced.stmt t) ≡ forgotten (M.stmt_mentions inside declared t)
  stmt_is = R.related _ _ _ _ _ _ _ _ _ _ SameMs SameMs SameMs SameMs SameMs each

  pub body_is : (ts : List Stmt) → M.body_mentions unplaced_inside unplaced_declared (map unplaced.stmt ts) ≡ forgotten (M.body_mentions inside declared ts)
  body_is [] = refl
  body_is (t ∷ ts) = joins _ (M.body_mentions unplaced_inside unplaced_declared (map unplaced.stmt ts)) _ (M.body_mentions inside declared ts) (stmt_is t) (body_is ts)
