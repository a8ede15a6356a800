-- The parts of a wrapper's body, and what its temporaries are bound to.
use Rattle.std.specs.Prelude.{ℕ, ◌&&◌, Bool, false, not, List, None}
use Rattle.std.specs.List.{list_any}
use Rattle.std.specs.Str.{bytes_eq}
use Rattle.js_tree.specs.declared.expression.ExprForm.{out-ExprForm}
use Rattle.js_tree.specs.declared.expression.ExprForm.TheOpen.{ExprForm-F}
use Rattle.js_tree.specs.declared.statement.Declarator.{Declarator}
use Rattle.js_tree.specs.declared.statement.Func.{Func}
use Rattle.js_tree.specs.declared.statement.Stmt.{Stmt}
use Rattle.js_tree.specs.declared.statement.StmtForm.{out-StmtForm}
use Rattle.js_tree.specs.declared.statement.StmtForm.TheOpen.{StmtForm-F}
use Rattle.residual_form.specs.declared.body.Body as code
use Rattle.residual_form.specs.Acts.{names, is_assigned_once}
use Rattle.residual_form.specs.Names.{used, in_funcs}
use Rattle.residual_form.specs.Paths.{Form, leads}

pub record Body : Type 0 where
  -- what its first statement declares, where that is a `var` statement
  pub temporaries : List Declarator
  -- the statements behind it
  pub statements : List Stmt
  -- the functions of the script behind the wrapper's own
  pub inner : List Func

abbrev pub seen : code.Body → Body
seen b = record { temporaries = b.temporaries.now; statements = b.statements.now; inner = b.inner.now }

abbrev pub is_temporary : Body → List ℕ → Bool
is_temporary b name = list_any (λ (d : Declarator). bytes_eq d.name name) b.temporaries

abbrev pub assigns_path : List (List ℕ) → List ℕ → Form → Bool
assigns_path path name (ExprForm-F.Assign target None value) = names name target && leads path value
assigns_path path name _ = false

abbrev pub is_path_to : {A B C D : Type 0} → List (List ℕ) → List ℕ → StmtForm-F A B C D Stmt → Bool
is_path_to path name (StmtForm-F.Eval e) = assigns_path path name (out-ExprForm e.form)
is_path_to path name _ = false

-- The temporary stands for what has this path: it is assigned once, by the path. No function expression mentions it, so that
-- none assigns it.
abbrev pub is_bound : Body → List (List ℕ) → List ℕ → Bool
is_bound b path name =
    list_any (λ (s : Stmt). is_path_to path name (out-StmtForm s.form)) b.statements
    && is_assigned_once name b.statements
    && not (in_funcs name used b.inner)
