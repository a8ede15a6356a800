-- How a function value that writes functions stands to the functions of a script.
use Rattle.std.specs.Prelude.{◌≡◌, ℕ, Bool, List, Result, OnOk}
use Rattle.std.specs.declared.alloc.Global.{Global}
use denote.Ref.{Bor, MutBor}
use Rattle.js_value.specs.declared.memory.NoMemory.{NoMemory}
use Rattle.js_value.specs.declared.place.FuncNo.{FuncNo}
use Rattle.js_tree.specs.declared.statement.Func.{Func}
use Rattle.token_sheets.specs.Sheets.{put_all}
use Rattle.token_sheets.specs.declared.sheet.Sheet.{Sheet}
use Rattle.script_text.specs.Printing.{function_to}

pub record Writes (funcs : List Func) (depth : ℕ) (pre : Global → Bor (List Func) → MutBor Sheet → ℕ → FuncNo → Bool → Type 0)
    (post : Global → Bor (List Func) → MutBor Sheet → ℕ → FuncNo → Bool → Result (Unit {0}) NoMemory → MutBor Sheet → Type 0) : Type 0 where
  pub may_ask : (alloc : Global) (all : Bor (List Func)) (old : MutBor Sheet) (f : FuncNo) (named : Bool) → all.now ≡ funcs → pre alloc all old depth f named
  pub writes : (alloc : Global) (all : Bor (List Func)) (old new : MutBor Sheet) (f : FuncNo) (named : Bool) (r : Result (Unit {0}) NoMemory)
      → all.now ≡ funcs → post alloc all old depth f named r new → OnOk r (new.now ≡ put_all (function_to depth funcs named f) old.now)
