-- What the forms have whose parts are options, and one part behind another.
use Rattle.std.proofs.Common.{◌≡◌, Bool, ◌++◌, List, [], ◌∷◌, refl, ap, sym, ◌∙◌, map, append_assoc, OnOk, Ok, Err}
use Rattle.std.specs.Prelude.{Option, Some, None, Result}
use Rattle.std.specs.List.{flat_map, list_all}
use Rattle.std.proofs.lemmas.List.Folds.{list_all-map}
use Rattle.js_tree.specs.Mentions.{of_none}
use Rattle.js_tree.specs.declared.expression.Expr.{Expr}
use Rattle.js_tree.specs.declared.expression.ExprForm.TheVariants.{ArrayLit, outs-ArrayLit}
use Rattle.js_tree.specs.declared.statement.Case.{Case}
use Rattle.js_tree.specs.declared.statement.Catch.{Catch}
use Rattle.js_tree.specs.declared.statement.Finally.{Finally}
use Rattle.js_tree.specs.declared.statement.Stmt.{Stmt}
use Rattle.js_tree.specs.declared.statement.StmtForm.{StmtForm, out-StmtForm}
use Rattle.js_tree.specs.declared.statement.StmtForm.TheOpen.{StmtForm-F}
use Rattle.js_tree.specs.declared.statement.StmtForm.TheFolds.{map-StmtForm, fold_out-StmtForm}
use Rattle.js_tree.specs.declared.statement.StmtForm.TheVariants as s
use Rattle.js_tree.proofs.Folds.{fold-layer}
use Rattle.readable_trees.specs.declared.items.Item as D
use Rattle.readable_trees.specs.Items as I
use Rattle.readable_trees.specs.Items.{Item, Items, item_of, told, of_form, of_field, in_form, in_expr, in_maybe, in_elements, in_stmt_form, in_stmts, in_handler, in_last}

flat_map-along : {A B : Type 0} (p : B → Items) (v : A → B) (q : A → Items) → ((x : A) → p (v x) ≡ q x) → (xs : List A) → flat_map p (map v xs) ≡ flat_map q xs
flat_map-along p v q s [] = refl
flat_map-along p v q s (x ∷ xs) = ap (λ r. r ++ flat_map p (map v xs)) (s x) ∙ ap (λ r. q x ++ r) (flat_map-along p v q s xs)

maybe_is : (g : Option Expr → Option Items) → g None ≡ None → ((x : Expr) → g (Some x) ≡ Some (in_expr x)) → (o : Option Expr) → of_none (g o) ≡ in_maybe o
maybe_is g n s None = ap (λ o. of_none o) n
maybe_is g n s (Some x) = ap (λ o. of_none o) (s x)

elements : (g : Option Expr → Option Items) → g None ≡ None → ((x : Expr) → g (Some x) ≡ Some (in_expr x)) → (all : List (Option Expr)) → flat_map of_none (map g all) ≡ in_elements all
elements g n s all = flat_map-along of_none g in_maybe (maybe_is g n s) all

pub items-ArrayLit : (all : List (Option Expr)) → in_form (ArrayLit all) ≡ in_elements all
items-ArrayLit all = fold-layer Items Items Items of_form of_field (λ x. x.form) (ArrayLit all) _ (outs-ArrayLit all) ∙ elements _ refl (λ x. refl) all

tried : (form : StmtForm) (layer : StmtForm-F StmtForm Case Catch Finally Stmt) → out-StmtForm form ≡ layer
    → in_stmt_form form ≡ I.of_stmt_form (map-StmtForm StmtForm Case Catch Finally Stmt Items Items Items Items Items in_stmt_form I.in_case I.in_catch I.in_finally I.in_stmt layer)
tried form layer h =
    fold_out-StmtForm Items Items Items Items Items I.of_stmt_form I.of_case I.of_catch I.of_finally (λ t. t.form) form
    ∙ ap (λ l. I.of_stmt_form (map-StmtForm StmtForm Case Catch Finally Stmt Items Items Items Items Items in_stmt_form I.in_case I.in_catch I.in_finally I.in_stmt l)) h

pub items-Try : (body : List Stmt) (handler : Option Catch) (last : Option Finally) → in_stmt_form (s.Try body handler last) ≡ in_stmts body ++ in_handler handler ++ in_last last
items-Try body None None = tried _ _ (s.outs-Try body None None)
items-Try body (Some handler) None = tried _ _ (s.outs-Try body (Some handler) None)
items-Try body None (Some last) = tried _ _ (s.outs-Try body None (Some last))
items-Try body (Some handler) (Some last) = tried _ _ (s.outs-Try body (Some handler) (Some last))

-- ---- one part behind another

pub on_ok : {A E P Q : Type 0} (r : Result A E) → (P → Q) → OnOk r P → OnOk r Q
on_ok (Ok x) f p = f p
on_ok (Err e) f p = p

pub behind : {A E : Type 0} (r : Result A E) (old mid new a b whole : Items) → mid ≡ old ++ a → whole ≡ a ++ b → OnOk r (new ≡ mid ++ b) → OnOk r (new ≡ old ++ whole)
behind r old mid new a b whole h is p = on_ok r (λ e. e ∙ ap (λ ms. ms ++ b) h ∙ append_assoc old a b ∙ ap (λ ms. old ++ ms) (sym is)) p

pub alone : {A E : Type 0} (r : Result A E) (old new a whole : Items) → whole ≡ a → OnOk r (new ≡ old ++ a) → OnOk r (new ≡ old ++ whole)
alone r old new a whole is p = on_ok r (λ e. e ∙ ap (λ ms. old ++ ms) (sym is)) p

-- ---- tests of gathered items

pub told_all : (p : Item → Bool) (all : List D.Item) → list_all p (told all) ≡ list_all (λ i. p (item_of i)) all
told_all p all = list_all-map p item_of all
