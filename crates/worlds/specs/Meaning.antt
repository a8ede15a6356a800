-- What answers and calls of the host are in the runs of the definitions.
use Rattle.std.specs.Prelude.{ℕ, List, map}
use Rattle.js_value.specs.declared.primitive.Primitive.{Primitive}
use Rattle.host_box.specs.declared.answer.Answer as answer
use Rattle.host_box.specs.declared.event.HostEvent as event
use Rattle.plain_heap.specs.Values.{Prim, truth}
use Rattle.js_machine.specs.Machine.Walks.{Answer, HostEvent, World}

abbrev pub answer_of : answer.Answer → Answer
answer_of a = record { value = a.value; threw = a.threw }

-- a host call has primitives as its arguments and its answer
abbrev pub event_of : event.HostEvent → HostEvent
event_of e = record { name = e.name; arguments = map Prim e.args; kind = e.kind; answer = Prim e.answer; threw = truth e.threw }

abbrev pub calls_of : List event.HostEvent → List HostEvent
calls_of calls = map event_of calls

abbrev pub world_of : List (List ℕ × Primitive) → List answer.Answer → World
world_of inputs answers = record { inputs = inputs; answers = map answer_of answers }
