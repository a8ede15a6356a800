use Rattle.std.proofs.Common.{ap, ◌∙◌}
use Rattle.simple_scripts.specs.SimpleNames.{is_simple_name}
use Rattle.simple_runs.specs.Events as machine
use Rattle.prepack_core.specs.Values.{primitive_of, shown}
use Rattle.prepack_core.proofs.Bindings.{shown-insert, all-insert}
use Rattle.prepack_core.proofs.variables.Variables.put.Goals as goal

pub invariant_of-self-2 : goal.invariant_of-self-2
invariant_of-self-2 c =
    rw c.in_ok-insert.ensures.entries (all-insert is_simple_name c.self.inside.map.entries c.args.name c.args.value c.requires c.self.invariant)

pub returns : goal.returns
returns c =
    ap shown c.in_ok-insert.ensures.entries
    ∙ (shown-insert c.self.inside.map.entries c.args.name c.args.value ∙ ap (machine.put c.args.name (primitive_of c.args.value)) c.self.view_is)
