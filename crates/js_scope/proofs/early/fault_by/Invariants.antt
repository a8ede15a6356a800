use Rattle.std.proofs.Common.{◌≡◌, take}
use Rattle.std.specs.List.{flat_map}
use Rattle.js_scope.specs.Inputs.{fault_by}
use Rattle.js_scope.specs.Jumps as spec
use Rattle.js_scope.specs.Mentioning as mentioning
use Rattle.js_scope.proofs.early.fault_by.Given as goal

abbrev pub invariant-loop-mention : goal.invariant-loop-mention
invariant-loop-mention l = l.least ≡ spec.with_faults l.fn.least (flat_map (fault_by l.inputs) (mentioning.told (take l.mention-index l.all)))
