-- A host's answers and its recorder's record in the runs of the definitions.
use Rattle.std.specs.Prelude.{◌≡◌, ℕ, List, length, map, slice_get, false, true}
use Rattle.std.specs.Option.{option_map}
use Rattle.js_value.specs.declared.primitive.Kind.{Kind}
use Rattle.js_value.specs.declared.primitive.Primitive.{Primitive}
use Rattle.host_box.specs.Recorders.{calls_after}
use Rattle.host_box.specs.declared.answer.Answer as answer
use Rattle.host_box.specs.declared.answer.Reply.TheVariants.{Given, Thrown}
use Rattle.host_box.specs.declared.event.HostEvent as event
use Rattle.plain_heap.specs.Values.{Prim, truth}
use Rattle.js_machine.specs.Machine.Walks.{called}
use Rattle.worlds.specs.Meaning.{answer_of, calls_of, world_of}

-- the record after a call with an answer that is given or thrown
pub record RecordsCalls : Type 0 where
  pub given : (calls : List event.HostEvent) (name : List ℕ) (args : List Primitive) (kind : Kind) (v : Primitive)
      → calls_of (calls_after calls name args kind (Given v)) ≡ called (calls_of calls) name (map Prim args) kind (Prim v) (truth false)
  pub thrown : (calls : List event.HostEvent) (name : List ℕ) (args : List Primitive) (kind : Kind) (v : Primitive)
      → calls_of (calls_after calls name args kind (Thrown v)) ≡ called (calls_of calls) name (map Prim args) kind (Prim v) (truth true)
  pub count : (calls : List event.HostEvent) → length (calls_of calls) ≡ length calls

-- the answer at a place
pub record GivesAnswers : Type 0 where
  pub at : (inputs : List (List ℕ × Primitive)) (answers : List answer.Answer) (n : ℕ) → slice_get (world_of inputs answers).answers n ≡ option_map answer_of (slice_get answers n)
