-- A change of a property of one object, and of the heap.
use Rattle.std.proofs.Common.{◌≡◌, ◌≢◌, ◌<◌, ◌∙◌, ℕ, List, true, false, Result, Ok, Err, IfOk, ap, sym, length, get_or}
use Rattle.std.specs.Prelude.{slice_set}
use Rattle.js_value.specs.declared.memory.NoMemory.{NoMemory}
use Rattle.plain_heap.specs.Heap as heap
use Rattle.plain_heap.specs.Methods.{Descriptor, Settled, define, define_array, define_plain, settled}
use Rattle.heap_values.specs.Meaning.{class_of}
use Rattle.heap_values.specs.declared.property.Property.{Property}
use Rattle.own_properties.specs.Defining.{Says, settled_as}
use Rattle.own_properties.specs.declared.answer.Defined.{Defined}
use Rattle.own_properties.specs.declared.answer.Defined.TheVariants as defined
use Rattle.heap_arena.specs.declared.object.Object.{Object}
use Rattle.heap_arena.specs.Defines.{settled_in}
use Rattle.heap_arena.specs.Meaning.{Store, heap_of, object_of}
use Rattle.heap_arena.proofs.Changed.{same_again}
use Rattle.heap_arena.proofs.Views.{with_object_set}

-- whatever environments there are
abbrev pub Settles : heap.Key → Descriptor → Object → Object → Defined → Type 0
Settles key d before after answer = (environments : List heap.Environment) → settled (define key d (object_of environments before)) ≡ settled_as answer (object_of environments after)

module _ (key : heap.Key) (d : Descriptor) (o : Object) (after : List (List ℕ × Property)) where
  pub of_array : (r : Result Defined NoMemory) → ((environments : List heap.Environment) → true ≡ heap.is_array_class (class_of environments o.class))
      → IfOk r (λ answer. Says (define_array key d) o.extensible o.properties after answer) → IfOk r (Settles key d o (record o { properties = after }))
  unfolding define
  of_array (Ok answer) array says = λ environments. rw (← array environments) (says (object_of environments o))
  of_array (Err e) array says = tt

  pub of_other : (r : Result Defined NoMemory) → ((environments : List heap.Environment) → false ≡ heap.is_array_class (class_of environments o.class))
      → IfOk r (λ answer. Says (define_plain key d) o.extensible o.properties after answer) → IfOk r (Settles key d o (record o { properties = after }))
  unfolding define
  of_other (Ok answer) other says = λ environments. rw (← other environments) (says (object_of environments o))
  of_other (Err e) other says = tt

module _ (s : Store) (n : ℕ) (o p : Object) (below : n < length s.objects) (is : o ≡ get_or s.objects n o) where
  stays : p ≡ o → heap_of s ≡ heap_of (record s { objects = slice_set s.objects n p })
  stays e = sym (with_object_set s.objects s.cells s.environments n p ∙ ap (λ q. heap.set_object n (object_of s.environments q) (heap_of s)) e ∙ same_again s n o below is)

  settled_by : (x : Settled) (answer : Defined) → x ≡ settled_as answer (object_of s.environments p) → (answer ≢ defined.Done → answer ≢ defined.Rejected → p ≡ o)
      → settled_in n (heap_of s) x ≡ (answer, heap_of (record s { objects = slice_set s.objects n p }))
  settled_by x defined.Done e same = ap (settled_in n (heap_of s)) e ∙ ap (λ h. (defined.Done, h)) (sym (with_object_set s.objects s.cells s.environments n p))
  settled_by x defined.Rejected e same = ap (settled_in n (heap_of s)) e ∙ ap (λ h. (defined.Rejected, h)) (sym (with_object_set s.objects s.cells s.environments n p))
  settled_by x defined.BadLength e same = ap (settled_in n (heap_of s)) e ∙ ap (λ h. (defined.BadLength, h)) (stays (same (λ e. cc) (λ e. cc)))
  settled_by x defined.OfAbsent e same = ap (settled_in n (heap_of s)) e ∙ ap (λ h. (defined.OfAbsent, h)) (stays (same (λ e. cc) (λ e. cc)))

  -- the heap is what the object is settled to be
  pub defined_there : (key : heap.Key) (d : Descriptor) (r : Result Defined NoMemory) → IfOk r (Settles key d o p) → IfOk r (λ answer. answer ≢ defined.Done → answer ≢ defined.Rejected → p ≡ o)
      → IfOk r (λ answer. settled_in n (heap_of s) (settled (define key d (object_of s.environments o))) ≡ (answer, heap_of (record s { objects = slice_set s.objects n p })))
  defined_there key d (Ok answer) says same = settled_by _ answer (says s.environments) same
  defined_there key d (Err e) says same = tt
