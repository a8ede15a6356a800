use Rattle.std.proofs.Common.{◌≡◌, take, [], ◌∷◌}
use Rattle.std.specs.List.{flat_map}
use Rattle.prepack_core.specs.Evaluates.{declared_after}
use Rattle.prepack_core.proofs.evaluate.declare_names.Given as goal

abbrev pub invariant-loop-declarator : goal.invariant-loop-declarator
invariant-loop-declarator l = l.variables ≡ declared_after l.fn.variables (flat_map (λ d. d.name ∷ []) (take l.declarator-index l.declarators))
