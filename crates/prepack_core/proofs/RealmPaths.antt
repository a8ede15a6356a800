-- The names compute.
use Rattle.std.proofs.Common.{refl}
use Rattle.js_machine.specs.Machine.Realm.{realm_names}
use Rattle.prepack_core.specs.RealmPaths.{PathsAreNames}

pub paths_are_names : PathsAreNames
unfolding realm_names
paths_are_names = refl
