-- A script that is the same but for places as the residual of variables is that residual with its parts at other places.
use Rattle.std.proofs.Common.{◌≡◌, ℕ, zero, suc, pos, negsuc, Bool, false, List, [], ◌∷◌, map, refl, ap, sym, ◌∙◌}
use Rattle.std.specs.Prelude.{Option, Some, None}
use Rattle.std.specs.Option.{option_map}
use Rattle.js_value.specs.declared.operator.UnaryOp.TheVariants as unary
use Rattle.js_value.specs.declared.primitive.Primitive.{Primitive}
use Rattle.js_value.specs.declared.primitive.Primitive.TheVariants as primitive
use Rattle.js_tree.specs.Trees.{expr, script}
use Rattle.js_tree.specs.declared.expression.Expr.{Expr}
use Rattle.js_tree.specs.declared.expression.Field.{Field}
use Rattle.js_tree.specs.declared.expression.ExprForm.{ExprForm, roll-ExprForm, out-ExprForm, out-roll-ExprForm, roll-out-ExprForm}
use Rattle.js_tree.specs.declared.expression.ExprForm.TheOpen.{ExprForm-F}
use Rattle.js_tree.specs.declared.expression.ExprForm.TheFolds.{fold_out-Expr, fold_out-ExprForm}
use Rattle.js_tree.specs.declared.expression.ExprForm.TheVariants as form
use Rattle.js_tree.specs.declared.statement.Case.{Case}
use Rattle.js_tree.specs.declared.statement.Catch.{Catch}
use Rattle.js_tree.specs.declared.statement.Declarator.{Declarator}
use Rattle.js_tree.specs.declared.statement.Finally.{Finally}
use Rattle.js_tree.specs.declared.statement.Func.{Func}
use Rattle.js_tree.specs.declared.statement.Script.{Script}
use Rattle.js_tree.specs.declared.statement.Stmt.{Stmt}
use Rattle.js_tree.specs.declared.statement.StmtForm.{StmtForm, roll-StmtForm, out-StmtForm, roll-out-StmtForm}
use Rattle.js_tree.specs.declared.statement.StmtForm.TheOpen.{StmtForm-F}
use Rattle.js_tree.specs.declared.statement.StmtForm.TheFolds.{map-StmtForm}
use Rattle.js_tree.specs.declared.statement.StmtForm.TheVariants as statement
use Rattle.residual_form.specs.Snapshot as snapshots
use Rattle.residual_form.specs.Snapshot.{snapshot, constant, variable}
use Rattle.reading_back.proofs.Same.{Layer, unplaced_layer}
use Rattle.reading_back.specs.Unplaced as unplaced
use Rattle.early_back.proofs.Hoisted.{unplaced_form}
use Rattle.early_back.proofs.RelatedStatements as RS
use Rattle.simple_runs.specs.Placed.{Places, constant_at, variable_at, variables_at, var_at, placed}

-- ---- expressions

layer_of : (x : Expr) → out-ExprForm (unplaced.expr x).form ≡ unplaced_layer (out-ExprForm x.form)
layer_of x =
    ap (λ (y : Expr). out-ExprForm y.form) (fold_out-Expr ExprForm Field Expr roll-ExprForm unplaced.of_field unplaced.of_expr x)
    ∙ ap out-ExprForm (fold_out-ExprForm ExprForm Field Expr roll-ExprForm unplaced.of_field unplaced.of_expr x.form)
    ∙ out-roll-ExprForm _

same_layer : (x y : Expr) → unplaced.expr x ≡ unplaced.expr y → unplaced_layer (out-ExprForm x.form) ≡ unplaced_layer (out-ExprForm y.form)
same_layer x y same = sym (layer_of x) ∙ ap (λ (z : Expr). out-ExprForm z.form) same ∙ layer_of y

literal_layer : (l : Layer) (value : Primitive) → unplaced_layer l ≡ ExprForm-F.Literal value → l ≡ ExprForm-F.Literal value
literal_layer (ExprForm-F.Literal v) value same = same
literal_layer l value same = cc

-- an expression that is a literal but for its place
literal_is : (x : Expr) (value : Primitive) → unplaced.expr x ≡ unplaced.expr (snapshots.literal value) → x ≡ expr x.at.0 (form.Literal value)
literal_is x value same =
    let layer : out-ExprForm x.form ≡ ExprForm-F.Literal value = literal_layer (out-ExprForm x.form) value (same_layer x (snapshots.literal value) same ∙ ap unplaced_layer (form.outs-Literal value)) in
    let is : x.form ≡ form.Literal value = sym (roll-out-ExprForm x.form) ∙ ap roll-ExprForm layer ∙ form.rolls-Literal value in
    ap (λ f. expr x.at.0 f) is

record IsNegation (l : Layer) (a : Expr) : Type 0 where
  operand : Expr
  same : l ≡ ExprForm-F.Unary unary.Minus operand
  inside : unplaced.expr operand ≡ unplaced.expr a

negation_layer : (l : Layer) (a : Expr) → unplaced_layer l ≡ ExprForm-F.Unary unary.Minus (unplaced.expr a) → IsNegation l a
negation_layer (ExprForm-F.Unary op b) a same =
    let ops : op ≡ unary.Minus = cc in
    record { operand = b; same = ap (λ o. ExprForm-F.Unary o b) ops; inside = cc }
negation_layer l a same = absurd (cc)

-- an expression that is the negation of a literal but for places
negation_is : (x : Expr) (value : Primitive) → unplaced.expr x ≡ unplaced.expr (expr 0 (form.Unary unary.Minus (snapshots.literal value)))
    → (at : ℕ) × (x ≡ expr x.at.0 (form.Unary unary.Minus (expr at (form.Literal value))))
negation_is x value same =
    let a = snapshots.literal value in
    let n = negation_layer (out-ExprForm x.form) a (same_layer x (expr 0 (form.Unary unary.Minus a)) same ∙ ap unplaced_layer (form.outs-Unary unary.Minus a)) in
    let is : x.form ≡ form.Unary unary.Minus n.operand = sym (roll-out-ExprForm x.form) ∙ ap roll-ExprForm n.same ∙ form.rolls-Unary unary.Minus n.operand in
    (n.operand.at.0, ap (λ f. expr x.at.0 f) (is ∙ ap (λ b. form.Unary unary.Minus b) (literal_is n.operand value n.inside)))

-- ---- declarators

record IsConstant (o : Option Expr) (value : Primitive) : Type 0 where
  at : ℕ
  operand : ℕ
  same : (name : ℕ) → o ≡ constant_at (record { name = name; value = at; operand = operand }) value

some_is : (x y : Expr) → option_map unplaced.expr (Some x) ≡ option_map unplaced.expr (Some y) → unplaced.expr x ≡ unplaced.expr y
some_is x y same = cc

a_literal : (x : Expr) (value : Primitive) → Some (unplaced.expr x) ≡ Some (unplaced.expr (snapshots.literal value)) → Some x ≡ Some (expr x.at.0 (form.Literal value))
a_literal x value same = ap (λ y. Some y) (literal_is x value (some_is x (snapshots.literal value) same))

constant_is : (o : Option Expr) (value : Primitive) → option_map unplaced.expr o ≡ option_map unplaced.expr (constant value) → IsConstant o value
constant_is None primitive.Undefined same = record { at = 0; operand = 0; same = λ name. refl }
constant_is (Some x) primitive.Undefined same = absurd (cc)
constant_is (Some x) (primitive.Number (pos n)) same = record { at = x.at.0; operand = 0; same = λ name. a_literal x (primitive.Number (pos n)) same }
constant_is (Some x) (primitive.Number (negsuc n)) same =
    let value = primitive.Number (pos (suc n)) in
    let is = negation_is x value (some_is x (expr 0 (form.Unary unary.Minus (snapshots.literal value))) same) in
    record { at = x.at.0; operand = is.0; same = λ name. ap (λ y. Some y) is.1 }
constant_is (Some x) primitive.Null same = record { at = x.at.0; operand = 0; same = λ name. a_literal x primitive.Null same }
constant_is (Some x) (primitive.Boolean b) same = record { at = x.at.0; operand = 0; same = λ name. a_literal x (primitive.Boolean b) same }
constant_is (Some x) (primitive.Text units) same = record { at = x.at.0; operand = 0; same = λ name. a_literal x (primitive.Text units) same }
constant_is None (primitive.Number (pos n)) same = absurd (cc)
constant_is None (primitive.Number (negsuc n)) same = absurd (cc)
constant_is None primitive.Null same = absurd (cc)
constant_is None (primitive.Boolean b) same = absurd (cc)
constant_is None (primitive.Text units) same = absurd (cc)

variable_is : (d : Declarator) (v : List ℕ × Primitive) → unplaced.declarator d ≡ unplaced.declarator (variable v) → (at : Places) × (d ≡ variable_at at v)
variable_is d v same =
    let init = constant_is d.init v.1 (ap (λ (e : Declarator). e.init) same) in
    let name : d.name ≡ v.0 = ap (λ (e : Declarator). e.name) same in
    let at : Places = record { name = d.at.0; value = init.at; operand = init.operand } in
    let renamed = λ (n : List ℕ) (o : Option Expr). let e : Declarator = record { at = d.at; name = n; init = o } in e in
    (at, ap (λ n. renamed n d.init) name ∙ ap (λ o. renamed v.0 o) (init.same d.at.0))

-- these places, and then those
abbrev followed : Places → (ℕ → Places) → ℕ → Places
followed first rest zero = first
followed first rest (suc i) = rest i

first_same : {A : Type 0} (x y : A) (xs ys : List A) → x ∷ xs ≡ y ∷ ys → x ≡ y
first_same x y xs ys same = cc

rest_same : {A : Type 0} (x y : A) (xs ys : List A) → x ∷ xs ≡ y ∷ ys → xs ≡ ys
rest_same x y xs ys same = cc

variables_are : (ds : List Declarator) (vs : List (List ℕ × Primitive)) → map unplaced.declarator ds ≡ map unplaced.declarator (map variable vs) → (at : ℕ → Places) × (ds ≡ variables_at at vs)
variables_are [] [] same = ((λ i. record { name = 0; value = 0; operand = 0 }), refl)
variables_are [] (v ∷ vs) same = absurd (cc)
variables_are (d ∷ ds) [] same = absurd (cc)
variables_are (d ∷ ds) (v ∷ vs) same =
    let first = variable_is d v (first_same _ _ _ _ same) in
    let rest = variables_are ds vs (rest_same _ _ _ _ same) in
    (followed first.0 rest.0, ap (λ e. e ∷ ds) first.1 ∙ ap (λ es. variable_at first.0 v ∷ es) rest.1)

-- ---- statements

abbrev StmtLayer : Type 0
StmtLayer = StmtForm-F StmtForm Case Catch Finally Stmt

abbrev unplaced_stmt : StmtLayer → StmtLayer
unplaced_stmt l = unplaced.in_stmt_form (map-StmtForm StmtForm Case Catch Finally Stmt StmtForm Case Catch Finally Stmt RS.stmt_form RS.case RS.catch RS.finally unplaced.stmt l)

var_layer : (l : StmtLayer) (ds : List Declarator) → unplaced_stmt l ≡ StmtForm-F.Var (map unplaced.declarator ds)
    → (es : List Declarator) × (l ≡ StmtForm-F.Var es) × (map unplaced.declarator es ≡ map unplaced.declarator ds)
var_layer (StmtForm-F.Var es) ds same = (es, refl, cc)
var_layer l ds same = absurd (cc)

var_is : (t : Stmt) (ds : List Declarator) → unplaced.stmt t ≡ unplaced.stmt (var_at 0 ds) → (es : List Declarator) × (t ≡ var_at t.at.0 es) × (map unplaced.declarator es ≡ map unplaced.declarator ds)
var_is t ds same =
    let layers : unplaced_stmt (out-StmtForm t.form) ≡ StmtForm-F.Var (map unplaced.declarator ds) =
    sym (unplaced_form t) ∙ ap (λ (u : Stmt). out-StmtForm u.form) same ∙ unplaced_form (var_at 0 ds) ∙ ap unplaced_stmt (statement.outs-Var ds) in
    let is = var_layer (out-StmtForm t.form) ds layers in
    let form : t.form ≡ statement.Var is.0 = sym (roll-out-StmtForm t.form) ∙ ap roll-StmtForm is.1 ∙ statement.rolls-Var is.0 in
    (is.0, ap (λ f. let u : Stmt = record { at = t.at; form = f } in u) form, is.2)

-- ---- scripts

pub record IsPlaced (t : Script) (vs : List (List ℕ × Primitive)) : Type 0 where
  pub at : ℕ
  pub places : ℕ → Places
  pub same : t ≡ placed at places vs

none_of : (fs : List Func) → map unplaced.func fs ≡ [] → fs ≡ []
none_of [] same = refl
none_of (f ∷ fs) same = absurd (cc)

no_statement : (ts : List Stmt) → map unplaced.stmt ts ≡ [] → ts ≡ []
no_statement [] same = refl
no_statement (t ∷ ts) same = absurd (cc)

one_statement : (ts : List Stmt) (u : Stmt) → map unplaced.stmt ts ≡ unplaced.stmt u ∷ [] → (t : Stmt) × (ts ≡ t ∷ []) × (unplaced.stmt t ≡ unplaced.stmt u)
one_statement [] u same = absurd (cc)
one_statement (t ∷ []) u same = (t, refl, cc)
one_statement (t ∷ s ∷ ts) u same = absurd (cc)

whole : (t : Script) (body : List Stmt) → t.directive ≡ false → t.body ≡ body → t.funcs ≡ [] → t ≡ script body []
whole t body directive is none =
    let made = λ (d : Bool) (b : List Stmt) (fs : List Func). let s : Script = record { directive = d; body = b; funcs = fs } in s in
    ap (λ d. made d t.body t.funcs) directive ∙ ap (λ b. made false b t.funcs) is ∙ ap (λ fs. made false body fs) none

pub placing : (t : Script) (vs : List (List ℕ × Primitive)) → unplaced.script t ≡ unplaced.script (snapshot vs) → IsPlaced t vs
unfolding snapshot placed
placing t [] same = record {
  at = 0;
  places = λ i. record { name = 0; value = 0; operand = 0 };
  same = whole t [] (ap (λ (s : Script). s.directive) same) (no_statement t.body (ap (λ (s : Script). s.body) same)) (none_of t.funcs (ap (λ (s : Script). s.funcs) same));
}
placing t (v ∷ vs) same =
    let ds = map variable (v ∷ vs) in
    let body = one_statement t.body (var_at 0 ds) (ap (λ (s : Script). s.body) same) in
    let is = var_is body.0 ds body.2 in
    let ats = variables_are is.0 (v ∷ vs) is.2 in
    record {
      at = body.0.at.0;
      places = ats.0;
      same = whole t (var_at body.0.at.0 (variables_at ats.0 (v ∷ vs)) ∷ []) (ap (λ (s : Script). s.directive) same)
          (body.1 ∙ ap (λ u. u ∷ []) (is.1 ∙ ap (var_at body.0.at.0) ats.1)) (none_of t.funcs (ap (λ (s : Script). s.funcs) same));
    }
