-- The form of residual scripts.
use Rattle.std.specs.Prelude.{ℕ, ◌==◌, ◌&&◌, ◌||◌, Bool, true, false, not, if◌then◌else◌, List, [], ◌∷◌, is_none, codes}
use Rattle.std.specs.List.{list_all}
use Rattle.std.specs.Str.{bytes_eq}
use Rattle.js_tree.specs.declared.expression.Expr.{Expr}
use Rattle.js_tree.specs.declared.expression.ExprForm.{out-ExprForm}
use Rattle.js_tree.specs.declared.expression.ExprForm.TheOpen.{ExprForm-F}
use Rattle.js_tree.specs.declared.statement.Declarator.{Declarator}
use Rattle.js_tree.specs.declared.statement.Func.{Func}
use Rattle.js_tree.specs.declared.statement.Name.{Name}
use Rattle.js_tree.specs.declared.statement.Script.{Script}
use Rattle.js_tree.specs.declared.statement.Stmt.{Stmt}
use Rattle.js_tree.specs.declared.statement.StmtForm.{out-StmtForm}
use Rattle.js_tree.specs.declared.statement.StmtForm.TheOpen.{StmtForm-F}
use Rattle.residual_form.specs.Small.{is_variables, is_residual_body}
use Rattle.js_tree.specs.Parts.{declarators_in}
use Rattle.residual_form.specs.declared.act.Act.TheVariants as act
use Rattle.residual_form.specs.Acts.{is_done}
use Rattle.residual_form.specs.Bodies.{Body}
use Rattle.residual_form.specs.Names.{is_captured, is_identifier}
use Rattle.residual_form.specs.Paths.{Form, is_this}
use Rattle.residual_form.specs.Statements.{are_in_order}

-- ---- the body of a wrapper

abbrev pub is_var : {A B C D E : Type 0} → StmtForm-F A B C D E → Bool
is_var (StmtForm-F.Var ds) = true
is_var _ = false

abbrev pub behind_var : List Stmt → List Stmt
behind_var [] = []
behind_var (s ∷ ss) = if is_var (out-StmtForm s.form) then ss else (s ∷ ss)

-- what a `var` statement in front declares
abbrev pub declared_first : List Stmt → List Declarator
declared_first [] = []
declared_first (s ∷ ss) = declarators_in (out-StmtForm s.form)

abbrev pub body_of : List Func → List Stmt → Body
body_of inner ss = record { temporaries = declared_first ss; statements = behind_var ss; inner = inner }

-- A temporary is read somewhere, or holds a captured binding, or takes a host call's answer.
abbrev pub is_needed : Body → List ℕ → Bool
is_needed b name = is_done act.Reads name b.statements || is_captured b.inner name || is_done act.TakesAnswer name b.statements

abbrev pub is_needed_temporary : Body → Declarator → Bool
is_needed_temporary b d = is_none d.init && is_needed b d.name

-- temporaries without initialisers, each needed, and statements in their order
abbrev pub is_body : Body → Bool
is_body b = list_all (is_needed_temporary b) b.temporaries && are_in_order b b.statements

-- ---- the wrapper

abbrev pub is_first : Form → Bool
is_first (ExprForm-F.Func f) = f.0 == 0
is_first _ = false

abbrev pub is_call_of_first : Form → Bool
is_call_of_first (ExprForm-F.Member f key) = is_first (out-ExprForm f.form) && bytes_eq key (codes "call")
is_call_of_first _ = false

abbrev pub is_this_alone : List Expr → Bool
is_this_alone (e ∷ []) = is_this (out-ExprForm e.form)
is_this_alone _ = false

abbrev pub is_wrapper_call : Form → Bool
is_wrapper_call (ExprForm-F.Call callee args) = is_call_of_first (out-ExprForm callee.form) && is_this_alone args
is_wrapper_call _ = false

-- `(function () { BODY }).call(this);`, whose function is the first of the script
abbrev pub is_wrapper : {A B C D E : Type 0} → StmtForm-F A B C D E → Bool
is_wrapper (StmtForm-F.Eval e) = is_wrapper_call (out-ExprForm e.form)
is_wrapper _ = false

-- the wrapper, or a `var` statement and the wrapper
abbrev pub is_wrapped : List Stmt → Bool
is_wrapped (w ∷ []) = is_wrapper (out-StmtForm w.form)
is_wrapped (v ∷ w ∷ []) = is_variables (out-StmtForm v.form) && is_wrapper (out-StmtForm w.form)
is_wrapped _ = false

abbrev pub has_parameters : List Name → Bool
has_parameters [] = false
has_parameters (p ∷ ps) = true

abbrev pub is_wrapper_function : Func → List Func → Bool
is_wrapper_function f inner = is_none f.name && not (has_parameters f.params) && not f.directive && is_body (body_of inner f.body)

-- ---- scripts

-- without functions nothing or a `var` statement, else the wrapper with or without a `var` statement before it
abbrev pub is_code : List Stmt → List Func → Bool
is_code ss [] = is_residual_body ss
is_code ss (f ∷ inner) = is_wrapped ss && is_wrapper_function f inner

unfoldable pub is_residual : Script → Bool
is_residual s = not s.directive && is_code s.body s.funcs

-- ---- temporaries

abbrev pub wrapped_temporaries : List Stmt → List Func → List Declarator
wrapped_temporaries ss [] = []
wrapped_temporaries ss (f ∷ inner) = if is_wrapped ss then declared_first f.body else []

unfoldable pub temporaries : Script → List Declarator
temporaries s = wrapped_temporaries s.body s.funcs

-- no temporary of the residual is an identifier of the source
unfoldable pub is_fresh : Script → Script → Bool
is_fresh r s = list_all (λ (d : Declarator). not (is_identifier s d.name)) (temporaries r)
