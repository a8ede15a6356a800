-- A heap that meets what the laws on the frame ask: the realm, with a function that was made.
use Rattle.std.specs.Prelude.{false, List, [], ◌∷◌, codes, None}
use Rattle.js_tree.specs.Trees.{func, no}
use Rattle.js_tree.specs.declared.statement.Func.{Func}
use Rattle.plain_heap.specs.Heap.{Heap}
use Rattle.js_machine.specs.Machine.Creating.{function_expression}
use Rattle.js_machine.specs.Machine.Realm.{realm}
use Rattle.residual_frames.specs.Frames.{FindsCall, Leads}

-- function () {}
abbrev pub code : List Func
code = func 0 None [] [] ∷ []

-- the function has the number 41
abbrev pub with_function : Heap
with_function = (function_expression code (no 0) [] false realm).1

pub record Examples : Type 0 where
  pub finds : FindsCall with_function 41 (no 0) []
  -- this.Object.create and this.Array.prototype
  pub create : Leads realm (codes "create" ∷ codes "Object" ∷ []) 18
  pub prototype : Leads realm (codes "prototype" ∷ codes "Array" ∷ []) 5
