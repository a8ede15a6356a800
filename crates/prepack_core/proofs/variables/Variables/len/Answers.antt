use Rattle.std.proofs.Common.{ap, sym, ◌∙◌}
use Rattle.simple_runs.specs.PlainVariables.{are_plain_variables}
use Rattle.prepack_core.proofs.Bindings.{shown-plain, keys-shown}
use Rattle.prepack_core.proofs.variables.Variables.len.Goals as goal

pub returns-clause-plain : goal.returns-clause-plain
returns-clause-plain c = ap are_plain_variables (sym c.self.view_is) ∙ shown-plain c.self.inside.map.entries c.self.invariant

pub returns-clause-distinct : goal.returns-clause-distinct
returns-clause-distinct c = rw (← c.self.view_is, keys-shown) c.len.ensures.unique
