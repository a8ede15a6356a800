use Rattle.std.proofs.Common.{ap}
use Rattle.std.specs.Option.{option_map}
use Rattle.heap_values.specs.Meaning.{property_of}
use Rattle.own_properties.proofs.Entries.{looked_up}
use Rattle.heap_arena.proofs.object.Object.own.Goals as goal

pub returns : goal.returns
returns c = rw looked_up (ap (option_map property_of) c.get.ensures.value)
