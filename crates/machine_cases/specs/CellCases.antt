-- Runs that leave functions which have captured cells: whether they agree, worked out by hand.
use Rattle.std.specs.Prelude.{List, false, ℕ, [], ◌∷◌, codes, Some, None}
use Rattle.js_tree.specs.Trees.{expr, stmt, no, func}
use Rattle.js_tree.specs.declared.expression.ExprForm.TheVariants as e
use Rattle.js_tree.specs.declared.statement.Func.{Func}
use Rattle.js_tree.specs.declared.statement.StmtForm.TheVariants as s
use Rattle.plain_heap.specs.Heap.{Heap, add_object, new_cell, Environment}
use Rattle.plain_heap.specs.Values.{number, CellNo}
use Rattle.machine_cases.specs.ListingCases.{holding}
use Rattle.js_machine.specs.Machine.Listed.{Agree}
use Rattle.js_machine.specs.Machine.Realm.{realm}
use Rattle.js_machine.specs.Machine.Walks.{Ended, Normally}
use Rattle.js_machine.specs.Machine.Creating.{function_state, prototype_state}

-- one function, `function () { return n; }`
abbrev pub reader : List Func
reader = func 0 None [] (stmt 14 (s.Return (Some (expr 21 (e.Name (codes "n"))))) ∷ []) ∷ []

abbrev pub AgreeAsLeft : Heap → Heap → Type 0
AgreeAsLeft h other = Agree reader (Ended [] Normally h) reader (Ended [] Normally other)

-- the variables f and g hold two function objects of this code, made in these environments
abbrev pub readers : Environment → Environment → Heap
readers s t =
    add_object (prototype_state 43) (add_object (function_state (no 0) t false 0 44) (add_object (prototype_state 41) (add_object (function_state (no 0) s false 0 42) (holding (codes "g") 43 (holding (codes "f") 41 realm)))))

-- an environment that binds `n` to this cell
abbrev pub binding : CellNo → Environment
binding c = (codes "n", c) ∷ []

-- both read one cell, which holds this number
abbrev pub one_cell : ℕ → Heap
one_cell n = new_cell (number n) (readers (binding 0) (binding 0))

-- a cell was made before that nothing leads to, and the second function stands in inner code
abbrev pub one_cell_later : Heap
one_cell_later = new_cell (number 1) (new_cell (number 7) (readers (binding 1) ((codes "m", 0) ∷ binding 1)))

-- each reads a cell of its own
abbrev pub two_cells : Heap
two_cells = new_cell (number 1) (new_cell (number 1) (readers (binding 0) (binding 1)))

pub record CellCases : Type 0 where
  pub same_cell : AgreeAsLeft (one_cell 1) one_cell_later
  pub another_value : AgreeAsLeft (one_cell 1) (one_cell 2) → ⊥
  pub own_cells : AgreeAsLeft (one_cell 1) two_cells → ⊥
