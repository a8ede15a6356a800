use Rattle.std.proofs.Common.{◌≡◌, drop}
use Rattle.property_table.proofs.table.PropertyTable.at.Given as goal

abbrev pub invariant-loop : goal.invariant-loop
invariant-loop g l = l.properties ≡ drop l.counter l.fn.self
