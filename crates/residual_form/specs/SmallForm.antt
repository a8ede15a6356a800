-- The form that residuals without a wrapper have.
use Rattle.std.specs.Prelude.{◌≡◌, true, []}
use Rattle.js_tree.specs.declared.statement.Script.{Script}
use Rattle.residual_form.specs.Small.{is_without_wrapper}
use Rattle.residual_form.specs.Form.{is_residual, is_fresh, temporaries}
use Rattle.residual_form.specs.Creations.{creations}

-- A script of nothing or one `var` statement of constants is in residual form, has no temporary and makes no object, and is
-- fresh for every source.
pub record SmallForm : Type 0 where
  pub form : (r : Script) → is_without_wrapper r ≡ true → is_residual r ≡ true
  pub no_temporary : (r : Script) → is_without_wrapper r ≡ true → temporaries r ≡ []
  pub no_creation : (r : Script) → is_without_wrapper r ≡ true → creations r ≡ 0
  pub fresh : (r s : Script) → is_without_wrapper r ≡ true → is_fresh r s ≡ true
