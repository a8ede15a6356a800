-- What the residual of variables declares and reads.
use Rattle.std.proofs.Common.{◌≡◌, ℕ, suc, pos, negsuc, true, List, [], ◌∷◌, ◌++◌, refl, ap, ◌∙◌, append-nil}
use Rattle.std.specs.List.{list_all, flat_map}
use Rattle.js_value.specs.declared.primitive.Primitive.{Primitive}
use Rattle.js_value.specs.declared.primitive.Primitive.TheVariants as primitive
use Rattle.js_tree.specs.Trees.{expr}
use Rattle.js_tree.specs.declared.expression.ExprForm.TheVariants as form
use Rattle.js_tree.specs.declared.statement.Declarator.{Declarator}
use Rattle.js_tree.specs.declared.statement.StmtForm.TheVariants.{outs-Var}
use Rattle.simple_scripts.specs.Simple.{names_in_form, names_in, names_in_init, declarators_of, declared_names, read_names, reads_declared}
use Rattle.js_tree.specs.Parts.{declarators_in, is_among}
use Rattle.simple_runs.proofs.Forms.{fold-literal, fold-minus}
use Rattle.simple_runs.specs.Placed.{Places, literal, var_at, constant_at, behind, variables_at}

-- the declarators of one `var` statement
pub declarators_of-var : (at : ℕ) (ds : List Declarator) → declarators_of (var_at at ds ∷ []) ≡ ds
declarators_of-var at ds = ap (λ l. declarators_in l ++ []) (outs-Var ds) ∙ append-nil ds

-- a literal reads no name
names_in-literal : (at : ℕ) (value : Primitive) → names_in (expr at (form.Literal value)) ≡ []
names_in-literal at value = fold-literal (List (List ℕ)) (List (List ℕ)) (List (List ℕ)) names_in_form (λ f. []) (λ e. e.form) at value

-- a constant reads no name
names_in-constant : (at : Places) (value : Primitive) → names_in_init (constant_at at value) ≡ []
names_in-constant at primitive.Undefined = refl
names_in-constant at (primitive.Number (pos n)) = names_in-literal at.value (primitive.Number (pos n))
names_in-constant at (primitive.Number (negsuc n)) =
    fold-minus (List (List ℕ)) (List (List ℕ)) (List (List ℕ)) names_in_form (λ f. []) (λ e. e.form) at.value (literal at.operand (pos (suc n)))
    ∙ names_in-literal at.operand (primitive.Number (pos (suc n)))
names_in-constant at primitive.Null = names_in-literal at.value primitive.Null
names_in-constant at (primitive.Boolean b) = names_in-literal at.value (primitive.Boolean b)
names_in-constant at (primitive.Text units) = names_in-literal at.value (primitive.Text units)

-- the declarators of variables read no name
no_reads : (vs : List (List ℕ × Primitive)) (at : ℕ → Places) → flat_map (λ (d : Declarator). names_in_init d.init) (variables_at at vs) ≡ []
no_reads [] at = refl
no_reads (v ∷ vs) at =
    ap (λ names. names ++ flat_map (λ (d : Declarator). names_in_init d.init) (variables_at (behind at) vs)) (names_in-constant (at 0) v.1) ∙ no_reads vs (behind at)

-- so each name that is read is declared
pub reads_declared-variables : (vs : List (List ℕ × Primitive)) (at : ℕ) (places : ℕ → Places) → reads_declared (var_at at (variables_at places vs) ∷ []) ≡ true
unfolding reads_declared
reads_declared-variables vs at places =
    let ss = var_at at (variables_at places vs) ∷ [] in
    let none : read_names ss ≡ [] = ap (flat_map (λ (d : Declarator). names_in_init d.init)) (declarators_of-var at (variables_at places vs)) ∙ no_reads vs places in
    ap (list_all (is_among (declared_names ss))) none
