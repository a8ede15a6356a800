use Rattle.std.proofs.Common.{◌≡◌, false}
use Rattle.plain_heap.specs.Heap.{Property}
use Rattle.plain_heap.specs.Methods.{Descriptor, Defining, is_barred, if_allowed, settled}
use Rattle.heap_values.specs.declared.change.Verdict.{Verdict}
use Rattle.heap_values.specs.Judging.{judged, Judges}
use Rattle.heap_values.proofs.change.judge.Goals as goal

-- steps 8 to 11 decide where step 7 rejects nothing
decided_behind : (p : Property) (d : Descriptor) (v : Verdict) → false ≡ is_barred p d
    → ((done rejected : Defining) → settled (if_allowed p d done rejected) ≡ judged v (settled done) (settled rejected)) → Judges p d v
decided_behind p d v free says = record { says = λ done rejected. rw (← free) (says done rejected) }

pub returns : goal.returns
returns c = decided_behind _ _ _ c.if-is_barred.ensures c.judge_free.ensures
