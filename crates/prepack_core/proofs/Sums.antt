-- The parts of a sum.
use Rattle.std.proofs.Common.{◌≡◌, ℕ, List, [], Bool, true, false, refl, ap, sym, ◌∙◌, subst}
use Rattle.std.specs.Prelude.{◌&&◌}
use Rattle.std.specs.List.{list_all}
use Rattle.std.proofs.lemmas.List.Folds.{list_all-append}
use Rattle.js_value.specs.declared.operator.BinaryOp.{BinaryOp}
use Rattle.js_value.specs.declared.operator.BinaryOp.TheVariants as binary
use Rattle.js_value.specs.declared.operator.UnaryOp.{UnaryOp}
use Rattle.js_value.specs.declared.operator.UnaryOp.TheVariants as unary
use Rattle.js_tree.specs.declared.expression.Expr.{Expr}
use Rattle.js_tree.specs.declared.expression.ExprForm.{ExprForm}
use Rattle.js_tree.specs.declared.expression.ExprForm.TheVariants as form
use Rattle.js_tree.specs.declared.expression.ExprForm.TheOpen.{ExprForm-F}
use Rattle.simple_scripts.specs.Simple.{names_in, names_in_form}
use Rattle.simple_scripts.specs.SimpleScripts.{Sum, NoSum, LiteralAlone, Terms, joined, sum_form, sum_in}
use Rattle.js_tree.proofs.Folds.{fold-Binary, fold-Unary}
use Rattle.prepack_core.specs.Evaluates.{is_sum, is_additive, form_names}
use Rattle.simple_scripts.specs.Sums.{form_sum}

joined_parts : (a b : Sum) → is_sum (joined a b) ≡ true → (is_sum a ≡ true) × (is_sum b ≡ true)
joined_parts LiteralAlone LiteralAlone h = (h, h)
joined_parts LiteralAlone (Terms n) h = (h, h)
joined_parts (Terms m) LiteralAlone h = (h, h)
joined_parts (Terms m) (Terms n) h = (h, h)
joined_parts NoSum b h = cc
joined_parts a NoSum h = cc

binary_parts : (op : BinaryOp) (a b : Sum) → is_sum (sum_form (ExprForm-F.Binary op a b)) ≡ true → (is_additive op ≡ true) × (is_sum a ≡ true) × (is_sum b ≡ true)
binary_parts binary.Add a b h = let p = joined_parts a b h in (refl, p.0, p.1)
binary_parts binary.Sub a b h = let p = joined_parts a b h in (refl, p.0, p.1)
binary_parts op a b h = cc

-- a sum has an additive operator, and its operands are sums
pub sum_parts : (f : ExprForm) (op : BinaryOp) (a b : Expr) → f ≡ form.Binary op a b → is_sum (form_sum f) ≡ true → (is_additive op ≡ true) × (is_sum (sum_in a) ≡ true) × (is_sum (sum_in b) ≡ true)
sum_parts f op a b same h =
    binary_parts op (sum_in a) (sum_in b)
    (subst (λ (s : Sum). is_sum s ≡ true) (fold-Binary Sum (Unit {0}) Sum sum_form (λ f. tt) (λ e. e.form) op a b) (subst (λ (g : ExprForm). is_sum (form_sum g) ≡ true) same h))

both_true : (a b : Bool) → (a && b) ≡ true → (a ≡ true) × (b ≡ true)
both_true true b h = (refl, h)
both_true false b h = cc

abbrev Names : Type 0
Names = List (List ℕ)

-- what holds of each name of a sum holds of each name of its operands
pub names_parts : (p : List ℕ → Bool) (f : ExprForm) (op : BinaryOp) (a b : Expr) → f ≡ form.Binary op a b → list_all p (form_names f) ≡ true → (list_all p (names_in a) ≡ true) × (list_all p (names_in b) ≡ true)
names_parts p f op a b same h =
    both_true (list_all p (names_in a)) (list_all p (names_in b))
    (sym (list_all-append p (names_in a) (names_in b))
    ∙ (ap (list_all p) (sym (ap form_names same ∙ fold-Binary Names Names Names names_in_form (λ f. []) (λ e. e.form) op a b)) ∙ h))

operand_of_minus : (op : UnaryOp) (a : Sum) → is_sum (sum_form (ExprForm-F.Unary op a)) ≡ true → (op ≡ unary.Minus) × (is_sum a ≡ true)
operand_of_minus unary.Minus LiteralAlone h = (refl, refl)
operand_of_minus unary.Minus a h = cc
operand_of_minus op a h = cc

-- the one prefix operator in a sum is the sign of a literal
pub minus_parts : (f : ExprForm) (op : UnaryOp) (a : Expr) → f ≡ form.Unary op a → is_sum (form_sum f) ≡ true → (f ≡ form.Unary unary.Minus a) × (is_sum (sum_in a) ≡ true)
minus_parts f op a same h =
    let p = operand_of_minus op (sum_in a)
    (subst (λ (s : Sum). is_sum s ≡ true) (fold-Unary Sum (Unit {0}) Sum sum_form (λ f. tt) (λ e. e.form) op a) (subst (λ (g : ExprForm). is_sum (form_sum g) ≡ true) same h)) in
    (same ∙ ap (λ (o : UnaryOp). form.Unary o a) p.0, p.1)

pub names_of_minus : (p : List ℕ → Bool) (f : ExprForm) (op : UnaryOp) (a : Expr) → f ≡ form.Unary op a → list_all p (form_names f) ≡ true → list_all p (names_in a) ≡ true
names_of_minus p f op a same h = ap (list_all p) (sym (ap form_names same ∙ fold-Unary Names Names Names names_in_form (λ f. []) (λ e. e.form) op a)) ∙ h
