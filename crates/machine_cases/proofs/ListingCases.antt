-- The listings compute.
use Rattle.std.proofs.Common.{refl}
use Rattle.js_value.specs.Conversions.{is_same_value}
use Rattle.plain_heap.specs.Heap.{resolve}
use Rattle.machine_cases.specs.ListingCases.{ListingCases}
use Rattle.js_machine.specs.Machine.Listed.{queue_of, listing_by}
use Rattle.js_machine.specs.Machine.Realm.{realm}

pub listing_cases : ListingCases
unfolding is_same_value resolve queue_of listing_by realm
listing_cases = record { nothing = refl; a_number = refl; a_cycle = refl; a_function = refl; realm_changes = refl; a_deletion = refl; thrown_object = refl; unreached_object = refl; an_array = refl; a_capture = refl }
