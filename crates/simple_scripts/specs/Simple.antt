-- The trees of simple scripts, and the names that they declare and read.
use Rattle.std.specs.Prelude.{ℕ, Bool, List, [], ◌∷◌, ◌++◌, Option, Some, None}
use Rattle.std.specs.List.{list_all, flat_map}
use Rattle.js_value.specs.declared.place.Place.{Place}
use Rattle.js_tree.specs.declared.expression.Expr.{Expr, fold-Expr}
use Rattle.js_tree.specs.declared.expression.ExprForm.{ExprForm}
use Rattle.js_tree.specs.declared.expression.ExprForm.TheOpen.{ExprForm-F}
use Rattle.js_tree.specs.declared.statement.Declarator.{Declarator}
use Rattle.js_tree.specs.declared.statement.Stmt.{Stmt}
use Rattle.js_tree.specs.declared.statement.StmtForm.{out-StmtForm}
use Rattle.js_tree.specs.Parts.{is_among, declarators_in}

-- ---- expressions

abbrev pub expr : Place → ExprForm → Expr
expr at form = record { at = at; form = form }

-- ---- names

abbrev pub names_in_form : ExprForm-F (List (List ℕ)) (List (List ℕ)) (List (List ℕ)) → List (List ℕ)
names_in_form (ExprForm-F.Name name) = name ∷ []
names_in_form (ExprForm-F.Unary op a) = a
names_in_form (ExprForm-F.Binary op a b) = a ++ b
names_in_form _ = []

-- the names that an expression of a simple script reads
abbrev pub names_in : Expr → List (List ℕ)
names_in = fold-Expr (List (List ℕ)) (List (List ℕ)) (List (List ℕ)) names_in_form (λ f. []) (λ e. e.form)

abbrev pub names_in_init : Option Expr → List (List ℕ)
names_in_init None = []
names_in_init (Some e) = names_in e

-- the declarators of a simple script, in order
abbrev pub declarators_of : List Stmt → List Declarator
declarators_of ss = flat_map (λ (s : Stmt). declarators_in (out-StmtForm s.form)) ss

-- 10.5: the names that `var` declares
abbrev pub declared_names : List Stmt → List (List ℕ)
declared_names ss = flat_map (λ (d : Declarator). d.name ∷ []) (declarators_of ss)

abbrev pub read_names : List Stmt → List (List ℕ)
read_names ss = flat_map (λ (d : Declarator). names_in_init d.init) (declarators_of ss)

-- each name that is read is declared somewhere
unfoldable pub reads_declared : List Stmt → Bool
reads_declared ss = list_all (is_among (declared_names ss)) (read_names ss)
