-- The laws of heaps that correspond.
use Rattle.plain_heap.specs.Heap.{Heap}
use Rattle.related_states.specs.Related.{Correspondence, SameHeaps, correspondence}
use Rattle.related_states.specs.Laws.{HeapsCorrespond, MethodsCorrespond, ChangesCorrespond}
use Rattle.related_states.proofs.Properties.{define_both}
use Rattle.related_states.proofs.Heaps.{own_property_both, get_both, put_both, has_same, delete_both, function_same, array_same, depth_same, set_object_both, add_object_both, set_cell_both, new_cell_both}

methods_correspond : (x : Correspondence) (h g : Heap) → SameHeaps x h g → MethodsCorrespond x h g
methods_correspond x h g same = record {
  own = λ o q key r. own_property_both x h g same r key;
  gets = λ o q key r. get_both x h g same r key;
  puts = λ o q key v u r s. put_both x h g same r key s;
  has = λ o q key r. has_same x h g same r key;
  deletes = λ o q key r. delete_both x h g same r key;
  functions = λ o q r. function_same x h g same r;
  arrays = λ o q r. array_same x h g same r;
  depths = λ o q r. depth_same x h g same r;
}

changes_correspond : (x : Correspondence) (h g : Heap) → SameHeaps x h g → ChangesCorrespond x h g
changes_correspond x h g same = record {
  set_object = λ o q a b r s. set_object_both x h g same r s;
  add_object = λ a b made s. add_object_both x h g same made s;
  set_cell = λ c d v u r s. set_cell_both x h g same r s;
  new_cell = λ v u made s. new_cell_both x h g same made s;
}

pub heaps_correspond : HeapsCorrespond
heaps_correspond = record {
  methods = λ d h g same. methods_correspond (correspondence d) h g same;
  changes = λ d h g same. changes_correspond (correspondence d) h g same;
  defines = λ d key f e o q s fields is. define_both (correspondence d) key fields is s;
}
