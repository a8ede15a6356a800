-- The nodes of sums, and which expressions are none.
use Rattle.std.proofs.Common.{◌≡◌, ℕ, pos, negsuc, ◌+◌, ◌*◌, ◌≤◌, Bool, true, false, cond, List, refl, ap, sym, ◌∙◌, subst, arith}
use Rattle.std.specs.Prelude.{nat_le, Some}
use Rattle.std.proofs.lemmas.Bool.{leb-true}
use Rattle.js_value.specs.declared.place.Place.{Place}
use Rattle.js_value.specs.declared.primitive.Primitive.{Primitive}
use Rattle.js_value.specs.declared.primitive.Primitive.TheVariants as primitive
use Rattle.js_value.specs.declared.operator.BinaryOp.{BinaryOp}
use Rattle.js_value.specs.declared.operator.BinaryOp.TheVariants as binary
use Rattle.js_value.specs.declared.operator.UnaryOp.{UnaryOp}
use Rattle.js_value.specs.declared.operator.UnaryOp.TheVariants as unary
use Rattle.js_tree.specs.declared.expression.Expr.{Expr}
use Rattle.js_tree.specs.declared.expression.Field.{Field}
use Rattle.js_tree.specs.declared.expression.ExprForm.{ExprForm, out-ExprForm}
use Rattle.js_tree.specs.declared.expression.ExprForm.TheOpen.{ExprForm-F}
use Rattle.js_tree.specs.declared.expression.ExprForm.TheFolds.{map-ExprForm, fold-ExprForm, fold-Field}
use Rattle.js_tree.specs.declared.expression.ExprForm.TheVariants as e
use Rattle.js_tree.specs.declared.token.Keyword.TheVariants as keyword
use Rattle.js_tree.specs.declared.token.TokenForm.{TokenForm}
use Rattle.js_tree.specs.declared.token.TokenForm.TheVariants as form
use Rattle.simple_scripts.specs.SimpleNames.{greatest_literal, is_simple_name}
use Rattle.js_grammar.specs.Marks.{literal}
use Rattle.js_tree.specs.Count.{of_form, of_field, of_expr, in_expr}
use Rattle.simple_scripts.specs.SimpleScripts.{Sum, NoSum, LiteralAlone, Terms, joined, sum_form, sum_in, is_short}
use Rattle.js_tree.proofs.Folds.{fold-layer, fold-of_expr}

abbrev pub is_sum : Sum → Bool
is_sum NoSum = false
is_sum _ = true

abbrev pub node : Place → ExprForm → Expr
node at form = record { at = at; form = form }

-- what the layer of a form is as a sum
abbrev pub layer_sum : ExprForm-F ExprForm Field Expr → Sum
layer_sum l =
    sum_form (map-ExprForm ExprForm Field Expr Sum (Unit {0}) Sum (fold-ExprForm Sum (Unit {0}) Sum sum_form (λ f. tt) (λ x. x.form)) (fold-Field Sum (Unit {0}) Sum sum_form (λ f. tt) (λ x. x.form)) sum_in l)

pub sum_of_form : (at : Place) (f : ExprForm) (l : ExprForm-F ExprForm Field Expr) → out-ExprForm f ≡ l → sum_in (node at f) ≡ layer_sum l
sum_of_form at f l is = fold-of_expr Sum (Unit {0}) Sum sum_form (λ f. tt) (λ x. x.form) (node at f) ∙ fold-layer Sum (Unit {0}) Sum sum_form (λ f. tt) (λ x. x.form) f l is

abbrev layer_nodes : ExprForm-F ExprForm Field Expr → ℕ
layer_nodes l = of_form (map-ExprForm ExprForm Field Expr ℕ ℕ ℕ (fold-ExprForm ℕ ℕ ℕ of_form of_field of_expr) (fold-Field ℕ ℕ ℕ of_form of_field of_expr) in_expr l)

pub nodes_of_form : (at : Place) (f : ExprForm) (l : ExprForm-F ExprForm Field Expr) → out-ExprForm f ≡ l → in_expr (node at f) ≡ layer_nodes l + 1
nodes_of_form at f l is = fold-of_expr ℕ ℕ ℕ of_form of_field of_expr (node at f) ∙ ap (λ n. n + 1) (fold-layer ℕ ℕ ℕ of_form of_field of_expr f l is)

-- how many nodes a sum has: a literal one, others less than three for each term
abbrev pub Fits : Sum → ℕ → Type 0
Fits NoSum n = Unit {0}
Fits LiteralAlone n = n ≡ 1
Fits (Terms k) n = n + 1 ≤ 3 * k

abbrev pub Fit : Expr → Type 0
Fit x = Fits (sum_in x) (in_expr x)

fits_joined : (a b : Sum) (m n : ℕ) → Fits a m → Fits b n → Fits (joined a b) (m + n + 1)
fits_joined LiteralAlone LiteralAlone m n h k = omega (arith, h, k)
fits_joined LiteralAlone (Terms q) m n h k = omega (arith, h, k)
fits_joined (Terms p) LiteralAlone m n h k = omega (arith, h, k)
fits_joined (Terms p) (Terms q) m n h k = omega (arith, h, k)
fits_joined NoSum b m n h k = tt
fits_joined a NoSum m n h k = tt

fits_binary : (op : BinaryOp) (a b : Sum) (m n : ℕ) → Fits a m → Fits b n → Fits (sum_form (ExprForm-F.Binary op a b)) (m + n + 1)
fits_binary binary.Add a b m n h k = fits_joined a b m n h k
fits_binary binary.Sub a b m n h k = fits_joined a b m n h k
fits_binary op a b m n h k = tt

fits_unary : (op : UnaryOp) (a : Sum) (m : ℕ) → Fits a m → Fits (sum_form (ExprForm-F.Unary op a)) (m + 1)
fits_unary unary.Minus LiteralAlone m h = omega (arith, h)
fits_unary unary.Minus a m h = tt
fits_unary op a m h = tt

pub short_few : (x : Expr) → Fit x → is_short (sum_in x) ≡ true → in_expr x ≤ 59
short_few x h short = few (sum_in x) (in_expr x) h short
  where
    few : (s : Sum) (n : ℕ) → Fits s n → is_short s ≡ true → n ≤ 59
    few NoSum n h short = absurd (cc)
    few LiteralAlone n h short = omega (arith, h)
    few (Terms k) n h short = omega (arith, h, leb-true k 20 short)

pub short_sum : (s : Sum) → is_short s ≡ true → is_sum s ≡ true
short_sum NoSum short = short
short_sum LiteralAlone short = refl
short_sum (Terms k) short = refl

joined_parts : (a b : Sum) → is_sum (joined a b) ≡ true → (is_sum a ≡ true) × (is_sum b ≡ true)
joined_parts LiteralAlone LiteralAlone h = (h, h)
joined_parts LiteralAlone (Terms n) h = (h, h)
joined_parts (Terms m) LiteralAlone h = (h, h)
joined_parts (Terms m) (Terms n) h = (h, h)
joined_parts NoSum b h = cc
joined_parts a NoSum h = cc

binary_parts : (op : BinaryOp) (a b : Sum) → is_sum (sum_form (ExprForm-F.Binary op a b)) ≡ true → (is_sum a ≡ true) × (is_sum b ≡ true)
binary_parts binary.Add a b h = joined_parts a b h
binary_parts binary.Sub a b h = joined_parts a b h
binary_parts op a b h = cc

pub operands : (at : Place) (op : BinaryOp) (a b : Expr) → is_sum (sum_in (node at (e.Binary op a b))) ≡ true → (is_sum (sum_in a) ≡ true) × (is_sum (sum_in b) ≡ true)
operands at op a b h = binary_parts op (sum_in a) (sum_in b) (subst (λ s. is_sum s ≡ true) (sum_of_form at (e.Binary op a b) (ExprForm-F.Binary op a b) (e.outs-Binary op a b)) h)

unary_part : (op : UnaryOp) (a : Sum) → is_sum (sum_form (ExprForm-F.Unary op a)) ≡ true → is_sum a ≡ true
unary_part unary.Minus LiteralAlone h = refl
unary_part unary.Minus a h = cc
unary_part op a h = cc

pub operand : (at : Place) (op : UnaryOp) (a : Expr) → is_sum (sum_in (node at (e.Unary op a))) ≡ true → is_sum (sum_in a) ≡ true
operand at op a h = unary_part op (sum_in a) (subst (λ s. is_sum s ≡ true) (sum_of_form at (e.Unary op a) (ExprForm-F.Unary op a) (e.outs-Unary op a)) h)

pub nodes_binary : (at : Place) (op : BinaryOp) (a b : Expr) → in_expr (node at (e.Binary op a b)) ≡ in_expr a + in_expr b + 1
nodes_binary at op a b = nodes_of_form at (e.Binary op a b) (ExprForm-F.Binary op a b) (e.outs-Binary op a b)

pub nodes_unary : (at : Place) (op : UnaryOp) (a : Expr) → in_expr (node at (e.Unary op a)) ≡ in_expr a + 1
nodes_unary at op a = nodes_of_form at (e.Unary op a) (ExprForm-F.Unary op a) (e.outs-Unary op a)

pub nodes_name : (at : Place) (name : List ℕ) → in_expr (node at (e.Name name)) ≡ 1
nodes_name at name = nodes_of_form at (e.Name name) (ExprForm-F.Name name) (e.outs-Name name)

pub nodes_literal : (at : Place) (v : Primitive) → in_expr (node at (e.Literal v)) ≡ 1
nodes_literal at v = nodes_of_form at (e.Literal v) (ExprForm-F.Literal v) (e.outs-Literal v)

-- ---- what reading promises

-- of an expression that is read where tokens of weight w are left, and behind it those of weight v
abbrev pub Costs : ℕ → Expr → ℕ → Type 0
Costs w x v = Fit x × (is_sum (sum_in x) ≡ true → in_expr x + v ≤ w)

-- of one that goes on with another
abbrev pub Grows : ℕ → Expr → Expr → ℕ → Type 0
Grows w left x v = Fit left → Fit x × (is_sum (sum_in x) ≡ true → (is_sum (sum_in left) ≡ true) × (in_expr x + v ≤ in_expr left + w))

pub stops : (w : ℕ) (left : Expr) → Grows w left left w
stops w left fit = (fit, λ h. (h, omega arith))

no_fit : (x : Expr) → sum_in x ≡ NoSum → Fit x
no_fit x none = subst (λ s. Fits s (in_expr x)) (sym none) tt

no_sum : (x : Expr) → sum_in x ≡ NoSum → is_sum (sum_in x) ≡ true → ⊥
no_sum x none h = cc

pub none_costs : (w v : ℕ) (x : Expr) → sum_in x ≡ NoSum → Costs w x v
none_costs w v x none = (no_fit x none, λ h. absurd (no_sum x none h))

pub none_grows : (w u v : ℕ) (left both x : Expr) → sum_in both ≡ NoSum → Grows u both x v → Grows w left x v
none_grows w u v left both x none h fit =
    let g = h (no_fit both none) in
    (g.0, λ is. absurd (no_sum both none (g.1 is).0))

pub binary_fit : (at : Place) (op : BinaryOp) (a b : Expr) → Fit a → Fit b → Fit (node at (e.Binary op a b))
binary_fit at op a b h k =
    rw (sum_of_form at (e.Binary op a b) (ExprForm-F.Binary op a b) (e.outs-Binary op a b), nodes_binary at op a b) (fits_binary op (sum_in a) (sum_in b) (in_expr a) (in_expr b) h k)

-- an operator with two operands takes a token
pub binary_grows : (w u v z : ℕ) (left right x : Expr) (op : BinaryOp) → u + 1 ≤ w → Costs u right v → Grows v (node left.at (e.Binary op left right)) x z → Grows w left x z
binary_grows w u v z left right x op taken r h fit =
    let both = node left.at (e.Binary op left right) in
    let g = h (binary_fit left.at op left right fit r.0) in (
      g.0,
      λ is.
          let parts = g.1 is in
          let two = operands left.at op left right parts.0 in
          let n = nodes_binary left.at op left right in
          (two.0, omega (arith, taken, r.1 two.1, parts.1, n)),
    )

pub unary_costs : (w u v : ℕ) (at : Place) (op : UnaryOp) (x : Expr) → u + 1 ≤ w → Costs u x v → Costs w (node at (e.Unary op x)) v
unary_costs w u v at op x taken h = (
  rw (sum_of_form at (e.Unary op x) (ExprForm-F.Unary op x) (e.outs-Unary op x), nodes_unary at op x) (fits_unary op (sum_in x) (in_expr x) h.0),
  λ is. let n = nodes_unary at op x in omega (arith, taken, h.1 (operand at op x is), n),
)

pub none : (at : Place) (f : ExprForm) (l : ExprForm-F ExprForm Field Expr) → out-ExprForm f ≡ l → layer_sum l ≡ NoSum → sum_in (node at f) ≡ NoSum
none at f l is nothing = sum_of_form at f l is ∙ nothing

literal_fits : (p : Primitive) → Fits (sum_form (ExprForm-F.Literal p)) 1
literal_fits (primitive.Number (pos n)) = by_bool (nat_le n greatest_literal)
  where
    by_bool : (b : Bool) → Fits (cond b LiteralAlone NoSum) 1
    by_bool true = refl
    by_bool false = tt
literal_fits (primitive.Number (negsuc n)) = tt
literal_fits _ = tt

value_costs : (w v : ℕ) (at : Place) (p : Primitive) → v + 1 ≤ w → Costs w (node at (e.Literal p)) v
value_costs w v at p taken = (
  rw (sum_of_form at (e.Literal p) (ExprForm-F.Literal p) (e.outs-Literal p), nodes_literal at p) (literal_fits p),
  λ is. let n = nodes_literal at p in omega (arith, taken, n),
)

same_some : (f g : ExprForm) → Some f ≡ Some g → f ≡ g
same_some f g is = cc

-- a literal takes a token
pub literal_costs : (t : TokenForm) (f : ExprForm) (w v : ℕ) (at : Place) → literal t ≡ Some f → v + 1 ≤ w → Costs w (node at f) v
literal_costs (form.Reserved keyword.This) f w v at is taken =
    subst (λ g. Costs w (node at g) v) (same_some e.This f is) (none_costs w v (node at e.This) (none at e.This ExprForm-F.This e.outs-This refl))
literal_costs (form.Reserved keyword.Null) f w v at is taken = subst (λ g. Costs w (node at g) v) (same_some (e.Literal primitive.Null) f is) (value_costs w v at primitive.Null taken)
literal_costs (form.Reserved keyword.True) f w v at is taken = subst (λ g. Costs w (node at g) v) (same_some (e.Literal (primitive.Boolean true)) f is) (value_costs w v at (primitive.Boolean true) taken)
literal_costs (form.Reserved keyword.False) f w v at is taken = subst (λ g. Costs w (node at g) v) (same_some (e.Literal (primitive.Boolean false)) f is) (value_costs w v at (primitive.Boolean false) taken)
literal_costs (form.Number n) f w v at is taken = subst (λ g. Costs w (node at g) v) (same_some (e.Literal (primitive.Number n)) f is) (value_costs w v at (primitive.Number n) taken)
literal_costs (form.Str text) f w v at is taken = subst (λ g. Costs w (node at g) v) (same_some (e.Literal (primitive.Text text)) f is) (value_costs w v at (primitive.Text text) taken)
literal_costs _ f w v at is taken = absurd (cc)

name_fits : (b : Bool) → Fits (cond b (Terms 1) NoSum) 1
name_fits true = omega arith
name_fits false = tt

pub name_costs : (w v : ℕ) (at : Place) (name : List ℕ) → v + 1 ≤ w → Costs w (node at (e.Name name)) v
name_costs w v at name taken = (
  rw (sum_of_form at (e.Name name) (ExprForm-F.Name name) (e.outs-Name name), nodes_name at name) (name_fits (is_simple_name name)),
  λ is. let n = nodes_name at name in omega (arith, taken, n),
)

pub lighter : (w u v z : ℕ) (x : Expr) → v ≤ w → z ≤ u → Costs v x u → Costs w x z
lighter w u v z x le less c = (c.0, λ is. omega (arith, le, less, c.1 is))

pub grown : (w v z : ℕ) (left x : Expr) → Costs w left v → Grows v left x z → Costs w x z
grown w v z left x c h =
    let g = h c.0 in
    (g.0, λ is. let parts = g.1 is in omega (arith, c.1 parts.0, parts.1))
