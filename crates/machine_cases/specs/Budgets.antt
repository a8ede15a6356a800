-- How counts of steps are said: with so many steps a script ends on the realm, and with one less it doesn't.
use Rattle.std.specs.Prelude.{ℕ, List, [], ◌∷◌, map}
use Rattle.js_tree.specs.declared.statement.Script.{Script}
use Rattle.js_machine.specs.Machine.Realm.{realm}
use Rattle.machine_cases.specs.RunCases.{Seen, Values, StepsSpent, no_world, deep, seen}

-- what a script comes to with each of these budgets, where thirty nodes and more may be active
abbrev pub by_budget : ℕ → Script → List ℕ → List Seen
by_budget d script budgets = map (seen realm [] (deep d) no_world script) budgets

-- with the first budget it ends normally, and with the second one its steps are spent
abbrev pub ended_and_spent : List Seen
ended_and_spent = Values [] ∷ StepsSpent ∷ []
