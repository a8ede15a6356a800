-- The names that `var` declares, each once, as they are gathered.
use Rattle.std.specs.Prelude.{◌≡◌, ℕ, List, [], ◌∷◌, ◌++◌, if◌then◌else◌, map, fold, slice_get, Option, Some, None}
use Rattle.js_tree.specs.declared.statement.Case.{Case, fold-Case}
use Rattle.js_tree.specs.declared.statement.Catch.{Catch, fold-Catch}
use Rattle.js_tree.specs.declared.statement.Finally.{Finally, fold-Finally}
use Rattle.js_tree.specs.declared.statement.Stmt.{Stmt}
use Rattle.js_tree.specs.declared.statement.StmtForm.{StmtForm, fold-StmtForm}
use Rattle.js_tree.specs.Mentions.{Names, joined, form_vars, vars_in, hoisted_functions, hoisted_vars}
use Rattle.js_tree.specs.Parts.{is_among}
use Rattle.js_tree.specs.declared.statement.Func.{Func}
use Rattle.js_tree.specs.declared.statement.Script.{Script}
use Rattle.js_value.specs.declared.place.FuncNo.{FuncNo}
use Rattle.js_scope.specs.declared.hoisting.HoistedNames.{HoistedNames}

abbrev pub in_form : StmtForm → Names
in_form = fold-StmtForm Names Names Names Names Names form_vars (λ c. joined c.body) (λ c. joined c.body) (λ f. joined f.body) (λ s. s.form)

abbrev pub in_case : Case → Names
in_case = fold-Case Names Names Names Names Names form_vars (λ c. joined c.body) (λ c. joined c.body) (λ f. joined f.body) (λ s. s.form)

abbrev pub in_catch : Catch → Names
in_catch = fold-Catch Names Names Names Names Names form_vars (λ c. joined c.body) (λ c. joined c.body) (λ f. joined f.body) (λ s. s.form)

abbrev pub in_finally : Finally → Names
in_finally = fold-Finally Names Names Names Names Names form_vars (λ c. joined c.body) (λ c. joined c.body) (λ f. joined f.body) (λ s. s.form)

abbrev pub in_stmts : List Stmt → Names
in_stmts all = joined (map vars_in all)

abbrev pub in_cases : List Case → Names
in_cases all = joined (map in_case all)

-- a name behind the others, unless it is among them
abbrev pub add : Names → List ℕ → Names
add names name = if is_among names name then names else (names ++ name ∷ [])

abbrev pub add_all : Names → Names → Names
add_all names more = fold add names more

abbrev pub body_in : Option Func → List Stmt
body_in None = []
body_in (Some f) = f.body

-- the global code, or the body of a function; one past the functions has an empty body
abbrev pub body_of : Script → Option FuncNo → List Stmt
body_of s None = s.body
body_of s (Some f) = body_in (slice_get s.funcs f.0)

-- what a body declares
abbrev pub HoistsBody : List Stmt → HoistedNames → Type 0
HoistsBody body h = (h.functions ≡ hoisted_functions body) × (h.vars ≡ hoisted_vars body)
