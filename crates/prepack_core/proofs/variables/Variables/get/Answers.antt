use Rattle.std.proofs.Common.{ap, ◌∙◌}
use Rattle.std.specs.Option.{option_map}
use Rattle.simple_runs.specs.Events as machine
use Rattle.prepack_core.specs.Values.{primitive_of}
use Rattle.prepack_core.proofs.Bindings.{shown-lookup}
use Rattle.prepack_core.proofs.variables.Variables.get.Goals as goal

pub returns : goal.returns
returns c =
    ap (option_map primitive_of) (c.copied.ensures ∙ c.get.ensures.value)
    ∙ (shown-lookup c.self.inside.map.entries c.args.name.now ∙ ap (machine.lookup c.args.name.now) c.self.view_is)
