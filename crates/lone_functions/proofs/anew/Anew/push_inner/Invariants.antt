use Rattle.std.proofs.Common.{◌≡◌, ◌++◌, map, drop}
use Rattle.lone_functions.specs.Alone as spec
use Rattle.lone_functions.specs.Anew as copied
use Rattle.lone_functions.proofs.anew.Anew.push_inner.Given as goal

abbrev pub invariant-loop-f : goal.invariant-loop-f
invariant-loop-f l =
    l.copies ++ map (copied.func l.self.first) (spec.with_inner l.left (drop l.f-index l.from))
    ≡ l.fn.copies ++ map (copied.func l.self.first) (spec.with_inner l.wanted l.from)
