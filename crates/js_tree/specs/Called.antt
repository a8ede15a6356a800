-- How a function value stands to the functions of a script.
use Rattle.std.specs.Prelude.{◌≡◌, ℕ, Bool, List, drop}
use denote.Ref.{Bor}
use Rattle.js_value.specs.declared.place.FuncNo.{FuncNo}
use Rattle.js_tree.specs.declared.statement.Func.{Func}
use Rattle.js_tree.specs.Flat.{callable_from}

-- of all functions those with number n and greater ones
abbrev pub callable_behind : List Func → ℕ → FuncNo → Bool
callable_behind funcs n = callable_from n (drop n funcs)

-- It tells of the functions with number n and greater ones which can be called in place.
pub record Tells (funcs : List Func) (n : ℕ) (pre : Bor (List Func) → ℕ → FuncNo → Type 0) (post : Bor (List Func) → ℕ → FuncNo → Bool → Type 0) : Type 0 where
  pub may_ask : (all : Bor (List Func)) (f : FuncNo) → all.now ≡ funcs → pre all n f
  pub answers : (all : Bor (List Func)) (f : FuncNo) (r : Bool) → all.now ≡ funcs → post all n f r → r ≡ callable_behind funcs n f
