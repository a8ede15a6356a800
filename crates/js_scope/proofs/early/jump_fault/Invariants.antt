use Rattle.std.proofs.Common.{◌≡◌, ◌++◌, take}
use Rattle.std.specs.Prelude.{None}
use Rattle.std.specs.List.{flat_map}
use Rattle.js_tree.specs.declared.statement.Func.{Func}
use Rattle.js_tree.specs.Early as early
use Rattle.js_scope.specs.Jumps as spec
use Rattle.js_scope.proofs.early.jump_fault.Given as goal

abbrev pub invariant-loop-f : goal.invariant-loop-f
invariant-loop-f l =
    l.least ≡ spec.with_faults None (early.syntax_all (early.places_in early.returns l.script.body) ++ early.loose_jumps l.script.body ++ flat_map (λ (f : Func). early.loose_jumps f.body) (take l.f-index l.script.funcs))
