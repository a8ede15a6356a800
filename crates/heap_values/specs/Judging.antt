-- Whether a property that is there may be changed so (8.12.9, steps 7 to 11), where no symbol stands.
use Rattle.std.specs.Prelude.{◌≡◌, if◌then◌else◌}
use Rattle.plain_heap.specs.Heap as heap
use Rattle.plain_heap.specs.Methods.{Descriptor, Defining, Settled, OfAbsent, settled, if_allowed, is_barred}
use Rattle.heap_values.specs.declared.change.Verdict.{Verdict}
use Rattle.heap_values.specs.declared.change.Verdict.TheVariants as verdict

-- what it comes to: what is done where the change is allowed, or what where it is rejected
abbrev pub judged : Verdict → Settled → Settled → Settled
judged verdict.Allowed done rejected = done
judged verdict.Rejected done rejected = rejected
judged verdict.OfAbsent done rejected = OfAbsent

-- whatever is done then
pub record Judges (p : heap.Property) (d : Descriptor) (v : Verdict) : Type 0 where
  pub says : (done rejected : Defining) → settled (if is_barred p d then rejected else if_allowed p d done rejected) ≡ judged v (settled done) (settled rejected)
