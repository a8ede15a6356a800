-- The form that residuals without a wrapper have.
use Rattle.std.proofs.Common.{◌≡◌, Bool, true, false, List, [], ◌∷◌, refl, ap, ℕ}
use Rattle.std.specs.Prelude.{◌&&◌, not, if◌then◌else◌}
use Rattle.std.proofs.lemmas.Bool.{both_ways}
use Rattle.std.specs.List.{list_all}
use Rattle.js_tree.specs.declared.statement.Declarator.{Declarator}
use Rattle.js_tree.specs.declared.statement.Func.{Func}
use Rattle.js_tree.specs.declared.statement.Script.{Script}
use Rattle.js_tree.specs.declared.statement.Stmt.{Stmt}
use Rattle.residual_form.specs.Small.{is_without_wrapper, is_residual_body}
use Rattle.js_tree.specs.Parts.{has_functions}
use Rattle.residual_form.specs.Form.{is_residual, is_fresh, is_code, temporaries, wrapped_temporaries}
use Rattle.residual_form.specs.Names.{is_identifier}
use Rattle.residual_form.specs.Creations.{creations, of_functions}
use Rattle.residual_form.specs.SmallForm.{SmallForm}

code_is : (d : Bool) (ss : List Stmt) (fs : List Func) → (not d && not (has_functions fs) && is_residual_body ss) ≡ true → (not d && is_code ss fs) ≡ true
code_is false ss [] h = h
code_is false ss (f ∷ fs) h = absurd (both_ways false refl h)
code_is true ss fs h = absurd (both_ways false refl h)

no_functions : (d : Bool) (ss : List Stmt) (fs : List Func) → (not d && not (has_functions fs) && is_residual_body ss) ≡ true → fs ≡ []
no_functions false ss [] h = refl
no_functions false ss (f ∷ fs) h = absurd (both_ways false refl h)
no_functions true ss fs h = absurd (both_ways false refl h)

without : (r : Script) → is_without_wrapper r ≡ true → r.funcs ≡ []
unfolding is_without_wrapper
without r h = no_functions r.directive r.body r.funcs h

form : (r : Script) → is_without_wrapper r ≡ true → is_residual r ≡ true
unfolding is_without_wrapper is_residual
form r h = code_is r.directive r.body r.funcs h

no_temporary : (r : Script) → is_without_wrapper r ≡ true → temporaries r ≡ []
unfolding temporaries
no_temporary r h = ap (wrapped_temporaries r.body) (without r h)

made_none : (b : Bool) (n : ℕ) → n ≡ 0 → (if b then n else 0) ≡ 0
made_none true n h = h
made_none false n h = refl

no_creation : (r : Script) → is_without_wrapper r ≡ true → creations r ≡ 0
unfolding creations
no_creation r h = made_none (is_residual r) (of_functions r.funcs) (ap of_functions (without r h))

fresh : (r s : Script) → is_without_wrapper r ≡ true → is_fresh r s ≡ true
unfolding is_fresh
fresh r s h = ap (λ ds. list_all (λ (d : Declarator). not (is_identifier s d.name)) ds) (no_temporary r h)

pub small_form : SmallForm
small_form = record { form = form; no_temporary = no_temporary; no_creation = no_creation; fresh = fresh }
