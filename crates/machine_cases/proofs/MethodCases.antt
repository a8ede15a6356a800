-- The cases of the internal methods compute.
use Rattle.std.proofs.Common.{refl}
use Rattle.std.specs.Fmt.{digits}
use Rattle.js_value.specs.Conversions.{is_same_value}
use Rattle.plain_heap.specs.Heap.{resolve}
use Rattle.plain_heap.specs.Methods.{get_property, get, can_put, put, has_property, delete, define_plain, array_index, define_array, define}
use Rattle.machine_cases.specs.MethodCases.{MethodCases}
use Rattle.plain_heap.specs.Valid.{is_valid}

pub method_cases : MethodCases
unfolding digits is_same_value get_property get can_put put has_property delete define_plain array_index define_array define is_valid resolve
method_cases = record { indices = refl; gets = refl; can_puts = refl; puts = refl; has = refl; deletes = refl; defines = refl; arrays = refl; valid = refl; resolves = refl }
