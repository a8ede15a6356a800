use Rattle.std.proofs.Common.{◌≡◌, ◌∙◌, ap, false, Option, Some, None, refl, sym}
use Rattle.plain_heap.specs.Heap.{Heap, Key, Property, Accessor, Data}
use Rattle.plain_heap.specs.Methods.{get_property, put, put_by, put_found}
use Rattle.plain_heap.specs.Values.{ObjNo, Value}
use Rattle.heap_arena.specs.Found.{is_own_data}
use Rattle.heap_arena.specs.Meaning.{heap_of}
use Rattle.heap_arena.proofs.heap.Heap.put.Goals as goal

-- where no own data property stands, the property found along the chain decides
by_chain : (h : Heap) (o : ObjNo) (key : Key) (v : Value) (own : Option Property) → false ≡ is_own_data own → put_by h o key v own ≡ put_found v (get_property h key (Some o))
by_chain h o key v None other = refl
by_chain h o key v (Some (Data p)) other = cc
by_chain h o key v (Some (Accessor p)) other = refl

pub returns-in-Some : goal.returns-in-Some
unfolding put
returns-in-Some c v =
    rw (← c.if-not-can_put.ensures)
    (c.put_by.ensures v c.in-Some.found.holder ∙ ap (put_found v) c.in-Some.ensures ∙ sym (by_chain (heap_of c.args.self.now) c.args.o c.args.key.now v _ c.if-has_own_data.ensures))
