-- A script of one function alone.
use Rattle.std.specs.Prelude.{ℕ, suc, zero, ◌+◌, List, [], ◌∷◌, map, length, drop}
use Rattle.js_value.specs.declared.place.FuncNo.{FuncNo}
use Rattle.js_tree.specs.Trees.{expr, stmt, no, script}
use Rattle.js_tree.specs.declared.expression.ExprForm.TheVariants as e
use Rattle.js_tree.specs.declared.statement.Func.{Func}
use Rattle.js_tree.specs.declared.statement.Script.{Script}
use Rattle.js_tree.specs.declared.statement.StmtForm.TheVariants as s
use Rattle.js_grammar.specs.FunctionOrder.{in_body}
use Rattle.lone_functions.specs.Anew.{func, nameless}

-- The first n of functions in source order, each with those that stand in it: these come right behind it.
abbrev pub with_inner : ℕ → List Func → List Func
with_inner zero fs = []
with_inner (suc n) [] = []
with_inner (suc n) (f ∷ fs) = f ∷ with_inner (length (in_body f.body) + n) fs

-- the first of these functions without its name, and those that stand in it
abbrev pub first_anew : ℕ → List Func → List Func
first_anew first [] = []
first_anew first (f ∷ fs) = nameless first f ∷ map (func first) (with_inner (length (in_body f.body)) fs)

-- Its one statement is the function f as an expression without a name. The functions inside are numbered anew in source order,
-- and every place is 0. Where f is no function of the script, it has no functions.
unfoldable pub alone : Script → FuncNo → Script
alone all f = script (stmt 0 (s.Eval (expr 0 (e.Func (no 0)))) ∷ []) (first_anew f.0 (drop f.0 all.funcs))
