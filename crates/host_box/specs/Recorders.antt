-- What a recorder keeps of its calls.
use Rattle.std.specs.Prelude.{ℕ, ◌+◌, ◌-◌, ◌^◌, min, Bool, true, false, List, [], ◌∷◌, ◌++◌}
use Rattle.js_value.specs.declared.primitive.Kind.{Kind}
use Rattle.js_value.specs.declared.primitive.Primitive.{Primitive}
use Rattle.host_box.specs.declared.answer.Reply.{Reply}
use Rattle.host_box.specs.declared.answer.Reply.TheVariants.{Given, Thrown, Ended}
use Rattle.host_box.specs.declared.event.HostEvent.{HostEvent}

abbrev pub event : List ℕ → List Primitive → Kind → Primitive → Bool → HostEvent
event name args kind answer threw = record { name = name; args = args; kind = kind; answer = answer; threw = threw }

-- the record after a call: one that was answered stands at its end, given or thrown, and no other call is in it
abbrev pub calls_after : List HostEvent → List ℕ → List Primitive → Kind → Reply → List HostEvent
calls_after calls name args kind (Given value) = calls ++ event name args kind value false ∷ []
calls_after calls name args kind (Thrown value) = calls ++ event name args kind value true ∷ []
calls_after calls name args kind _ = calls

-- the count of calls that found no answer, after one more call
abbrev pub ended_after : ℕ → Reply → ℕ
ended_after ended Ended = min (ended + 1) (2 ^ 64 - 1)
ended_after ended _ = ended
