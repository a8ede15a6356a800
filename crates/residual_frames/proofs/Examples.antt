-- The heap of the examples.
use Rattle.std.proofs.Common.{[], ◌∷◌, refl}
use Rattle.std.specs.Prelude.{codes}
use Rattle.js_tree.specs.Trees.{no}
use Rattle.plain_heap.specs.Methods as methods
use Rattle.js_machine.specs.Machine.Creating as creating
use Rattle.js_machine.specs.Machine.Realm.{builtin_rule, realm}
use Rattle.residual_frames.specs.Examples.{Examples, with_function}
use Rattle.residual_frames.specs.Frames.{FindsCall, Leads}

finds : FindsCall with_function 41 (no 0) []
unfolding realm builtin_rule creating.function_expression creating.function creating.make_function methods.get methods.get_property
finds = record { callable = refl; code = refl; callee = 29; got = refl; also = refl; number = 29; class = refl; does = refl }

create : Leads realm (codes "create" ∷ codes "Object" ∷ []) 18
unfolding realm methods.get methods.get_property
create = (2, (0, refl, refl, refl), refl, refl)

prototype : Leads realm (codes "prototype" ∷ codes "Array" ∷ []) 5
unfolding realm methods.get methods.get_property
prototype = (6, (0, refl, refl, refl), refl, refl)

pub examples : Examples
examples = record { finds = finds; create = create; prototype = prototype }
