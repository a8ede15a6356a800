-- The code of a function as a listing has it: the script of the function alone, in which each name that it has captured stands by its
-- number. Whether it is strict is said beside it, so it has no directive of its own.
use Rattle.std.specs.Prelude.{ℕ, suc, ◌+◌, nat_eq, false, if◌then◌else◌, List, [], ◌∷◌, ◌++◌, map, codes, Option, Some, None}
use Rattle.std.specs.Fmt.{decimal}
use Rattle.std.specs.List.{flat_map, position}
use Rattle.std.specs.Option.{option_map}
use Rattle.std.specs.Str.{bytes_eq}
use Rattle.js_value.specs.declared.place.FuncNo.{FuncNo}
use Rattle.js_tree.specs.Mentions.{Names, joined, of_none, own_name, names_of, hoisted_functions, hoisted_vars}
use Rattle.js_tree.specs.Parts.{is_among}
use Rattle.js_tree.specs.declared.expression.Expr.{Expr, fold-Expr}
use Rattle.js_tree.specs.declared.expression.Field.{Field, roll-Field}
use Rattle.js_tree.specs.declared.expression.ExprForm.{ExprForm, roll-ExprForm}
use Rattle.js_tree.specs.declared.expression.ExprForm.TheOpen.{ExprForm-F}
use Rattle.js_tree.specs.declared.statement.Case.{Case, roll-Case}
use Rattle.js_tree.specs.declared.statement.Catch.{Catch, roll-Catch}
use Rattle.js_tree.specs.declared.statement.Declarator.{Declarator}
use Rattle.js_tree.specs.declared.statement.Finally.{Finally, roll-Finally}
use Rattle.js_tree.specs.declared.statement.ForStart.{ForStart}
use Rattle.js_tree.specs.declared.statement.ForStart.TheVariants as start
use Rattle.js_tree.specs.declared.statement.ForTarget.{ForTarget}
use Rattle.js_tree.specs.declared.statement.ForTarget.TheVariants as target
use Rattle.js_tree.specs.declared.statement.Func.{Func}
use Rattle.js_tree.specs.declared.statement.Name.{Name}
use Rattle.js_tree.specs.declared.statement.Script.{Script}
use Rattle.js_tree.specs.declared.statement.Stmt.{Stmt, fold-Stmt}
use Rattle.js_tree.specs.declared.statement.StmtForm.{StmtForm, roll-StmtForm}
use Rattle.js_tree.specs.declared.statement.StmtForm.TheOpen.{StmtForm-F, Case-F, Catch-F, Finally-F, Stmt-F}
use Rattle.js_grammar.specs.FunctionOrder.{in_expr, in_maybe, in_declarators, in_start, in_target}
use Rattle.lone_functions.specs.Alone.{alone}

-- ---- names

-- the k-th captured name is `%k`, which no name of a script is
abbrev pub numbered : List ℕ → Option ℕ → List ℕ
numbered name None = name
numbered name (Some k) = codes "%" ++ decimal (k + 1)

-- where the code around the name binds these
abbrev pub replaced : Names → Names → List ℕ → List ℕ
replaced captured bound name = if is_among bound name then name else numbered name (position (bytes_eq name) captured)

-- ---- expressions (11)

module _ (captured bound : Names) where
  abbrev pub of_form : ExprForm-F ExprForm Field Expr → ExprForm
  of_form (ExprForm-F.Name name) = roll-ExprForm (ExprForm-F.Name (replaced captured bound name))
  of_form layer = roll-ExprForm layer

  abbrev pub expr : Expr → Expr
  expr = fold-Expr ExprForm Field Expr of_form (λ f. roll-Field f) (λ x. record { at = x.at; form = x.form })

  abbrev pub declarator : Declarator → Declarator
  declarator d = record d { init = option_map expr d.init }

  abbrev pub for_start : ForStart → ForStart
  for_start start.Nothing = start.Nothing
  for_start (start.Expr x) = start.Expr (expr x)
  for_start (start.Var ds) = start.Var (map declarator ds)

  abbrev pub for_target : ForTarget → ForTarget
  for_target (target.Expr x) = target.Expr (expr x)
  for_target (target.Var at text) = target.Var at text

-- ---- statements (12), by the names that are bound around them

abbrev pub Bound : Type 0 → Type 0
Bound A = Names → A

abbrev pub each : {A : Type 0} → Names → List (Bound A) → List A
each bound xs = map (λ x. x bound) xs

abbrev pub maybe : {A : Type 0} → Names → Option (Bound A) → Option A
maybe bound x = option_map (λ x. x bound) x

module _ (captured : Names) where
  abbrev pub of_stmt_form : StmtForm-F (Bound StmtForm) (Bound Case) (Bound Catch) (Bound Finally) (Bound Stmt) → Bound StmtForm
  of_stmt_form (StmtForm-F.Var ds) bound = roll-StmtForm (StmtForm-F.Var (map (declarator captured bound) ds))
  of_stmt_form (StmtForm-F.FuncDecl f) bound = roll-StmtForm (StmtForm-F.FuncDecl f)
  of_stmt_form (StmtForm-F.Eval x) bound = roll-StmtForm (StmtForm-F.Eval (expr captured bound x))
  of_stmt_form (StmtForm-F.Block body) bound = roll-StmtForm (StmtForm-F.Block (each bound body))
  of_stmt_form StmtForm-F.Empty bound = roll-StmtForm StmtForm-F.Empty
  of_stmt_form (StmtForm-F.If test a b) bound = roll-StmtForm (StmtForm-F.If (expr captured bound test) (a bound) (maybe bound b))
  of_stmt_form (StmtForm-F.DoWhile body test) bound = roll-StmtForm (StmtForm-F.DoWhile (body bound) (expr captured bound test))
  of_stmt_form (StmtForm-F.While test body) bound = roll-StmtForm (StmtForm-F.While (expr captured bound test) (body bound))
  of_stmt_form (StmtForm-F.For from test step body) bound =
      roll-StmtForm (StmtForm-F.For (for_start captured bound from) (option_map (expr captured bound) test) (option_map (expr captured bound) step) (body bound))
  of_stmt_form (StmtForm-F.ForIn to object body) bound = roll-StmtForm (StmtForm-F.ForIn (for_target captured bound to) (expr captured bound object) (body bound))
  of_stmt_form StmtForm-F.Continue bound = roll-StmtForm StmtForm-F.Continue
  of_stmt_form StmtForm-F.Break bound = roll-StmtForm StmtForm-F.Break
  of_stmt_form (StmtForm-F.Return x) bound = roll-StmtForm (StmtForm-F.Return (option_map (expr captured bound) x))
  of_stmt_form (StmtForm-F.Switch x cases) bound = roll-StmtForm (StmtForm-F.Switch (expr captured bound x) (each bound cases))
  of_stmt_form (StmtForm-F.Throw x) bound = roll-StmtForm (StmtForm-F.Throw (expr captured bound x))
  of_stmt_form (StmtForm-F.Try body handler final) bound = roll-StmtForm (StmtForm-F.Try (each bound body) (maybe bound handler) (maybe bound final))

  abbrev pub of_case : Case-F (Bound StmtForm) (Bound Case) (Bound Catch) (Bound Finally) (Bound Stmt) → Bound Case
  of_case c bound = roll-Case (record { test = option_map (expr captured bound) c.test; body = each bound c.body })

  -- a handler binds its name in its body (12.14)
  abbrev pub of_catch : Catch-F (Bound StmtForm) (Bound Case) (Bound Catch) (Bound Finally) (Bound Stmt) → Bound Catch
  of_catch c bound = roll-Catch (record { at = c.at; name = c.name; body = each (c.name ∷ bound) c.body })

  abbrev pub of_finally : Finally-F (Bound StmtForm) (Bound Case) (Bound Catch) (Bound Finally) (Bound Stmt) → Bound Finally
  of_finally f bound = roll-Finally (record { body = each bound f.body })

  abbrev pub of_stmt : Stmt-F (Bound StmtForm) (Bound Case) (Bound Catch) (Bound Finally) (Bound Stmt) → Bound Stmt
  of_stmt t bound = record { at = t.at; form = t.form bound }

  abbrev pub stmt : Stmt → Bound Stmt
  stmt = fold-Stmt (Bound StmtForm) (Bound Case) (Bound Catch) (Bound Finally) (Bound Stmt) of_stmt_form of_case of_catch of_finally of_stmt

-- ---- functions (13): where they stand in code, and which names are bound there

abbrev pub Inner : Type 0
Inner = List (ℕ × Names)

abbrev pub plainly : List ℕ → Inner
plainly numbers = map (λ n. (n, [])) numbers

abbrev pub inner_form : StmtForm-F Inner Inner Inner Inner Inner → Inner
inner_form (StmtForm-F.Var ds) = plainly (in_declarators ds)
inner_form (StmtForm-F.FuncDecl f) = plainly (f.0 ∷ [])
inner_form (StmtForm-F.Eval x) = plainly (in_expr x)
inner_form (StmtForm-F.Block body) = joined body
inner_form StmtForm-F.Empty = []
inner_form (StmtForm-F.If test a b) = plainly (in_expr test) ++ a ++ of_none b
inner_form (StmtForm-F.DoWhile body test) = body ++ plainly (in_expr test)
inner_form (StmtForm-F.While test body) = plainly (in_expr test) ++ body
inner_form (StmtForm-F.For from test step body) = plainly (in_start from ++ in_maybe test ++ in_maybe step) ++ body
inner_form (StmtForm-F.ForIn to object body) = plainly (in_target to ++ in_expr object) ++ body
inner_form StmtForm-F.Continue = []
inner_form StmtForm-F.Break = []
inner_form (StmtForm-F.Return x) = plainly (in_maybe x)
inner_form (StmtForm-F.Switch x cases) = plainly (in_expr x) ++ joined cases
inner_form (StmtForm-F.Throw x) = plainly (in_expr x)
inner_form (StmtForm-F.Try body handler final) = joined body ++ of_none handler ++ of_none final

abbrev pub binding : Names → Inner → Inner
binding names inner = map (λ (i : ℕ × Names). (i.0, i.1 ++ names)) inner

abbrev pub inner_stmt : Stmt → Inner
inner_stmt =
    fold-Stmt Inner Inner Inner Inner Inner inner_form (λ c. plainly (in_maybe c.test) ++ joined c.body) (λ c. binding (c.name ∷ []) (joined c.body)) (λ f. joined f.body) (λ t. t.form)

-- the names that are bound where the function with this number stands
abbrev pub bound_at : ℕ → Inner → Names
bound_at n [] = []
bound_at n (i ∷ is) = if nat_eq n i.0 then i.1 else bound_at n is

-- what a function binds in its code, itself by its own name; the function has number n, and these stand behind it
abbrev pub bound_by : ℕ → Func → List Func → Names
bound_by n f fs = own_name f.name ++ map (λ (p : Name). p.text) f.params ++ hoisted_vars f.body ++ names_of (suc n) fs (hoisted_functions f.body)

-- the functions from number n on, outer ones before those inside them
abbrev pub functions_from : Names → ℕ → Inner → List Func → List Func
functions_from captured n around [] = []
functions_from captured n around (f ∷ fs) =
    let bound = bound_at n around ++ bound_by n f fs in
    record f { body = map (λ t. stmt captured t bound) f.body } ∷ functions_from captured (suc n) (around ++ binding bound (flat_map inner_stmt f.body)) fs

abbrev pub without_directive : List Func → List Func
without_directive [] = []
without_directive (f ∷ fs) = record f { directive = false } ∷ fs

-- ---- the code of a function of these that has captured these names

abbrev pub of_functions : List Func → Script
of_functions functions = record { directive = false; body = []; funcs = functions }

unfoldable pub code : List Func → FuncNo → Names → Script
code functions f captured =
    let one = alone (of_functions functions) f in
    record one { funcs = without_directive (functions_from captured 0 [] one.funcs) }
