-- How cases of runs are said: what a script comes to in a world, as far as a case looks at it.
use Rattle.std.specs.Prelude.{ℕ, suc, nat_eq, neg_ℤ, pos, true, false, replicate, if◌then◌else◌, List, [], ◌∷◌, map, Option, Some, None}
use Rattle.std.specs.Option.{option_and_then}
use Rattle.js_value.specs.declared.primitive.Primitive.TheVariants as primitive
use Rattle.js_value.specs.declared.why.Why.{Why}
use Rattle.js_tree.specs.declared.statement.Script.{Script}
use Rattle.plain_heap.specs.Heap.{Heap, Key, ObjectState, Plain, Property, Data, Accessor, lookup}
use Rattle.plain_heap.specs.Values.{Value, Prim, Object, ObjNo}
use Rattle.js_machine.specs.Machine.Levels.{script_tree_within}
use Rattle.js_machine.specs.Machine.RealmObjects.{ErrorKind, TypeError, RangeError, ReferenceError, error_prototype, global, object_prototype}
use Rattle.js_machine.specs.Machine.ObjectBuiltins.{properties_of}
use Rattle.js_machine.specs.Machine.Objects.{prototype_of}
use Rattle.js_machine.specs.Machine.Walks.{Answer, World, Outcome, Ended, Left, OutOfSteps, Unknown, Normally, Thrown, walk}
use Rattle.js_value.specs.declared.primitive.Primitive.{Primitive}
use Rattle.machine_cases.specs.MethodCases.{depth_below}

-- an answer that is given
abbrev pub given : Primitive → Answer
given value = record { value = value; threw = false }

-- an answer that is thrown
abbrev pub thrown_answer : Primitive → Answer
thrown_answer value = record { value = value; threw = true }

-- a world without inputs that gives these answers
abbrev pub answering : List Answer → World
answering answers = record { inputs = []; answers = answers }

abbrev pub no_world : World
no_world = record { inputs = []; answers = [] }

-- the number -n
abbrev pub minus : ℕ → Value
minus n = Prim (primitive.Number (neg_ℤ (pos n)))

pub data Seen : Type 0 where
  -- the code ended: the values of some global properties, none for one that isn't there or has no value
  Values : List (Option Value) → Seen
  -- the code threw this value, or a new error of this kind
  Threw : Value → Seen
  ThrewError : ErrorKind → Seen
  LeavesAt : Why → ℕ → Seen
  StepsSpent : Seen
  -- a symbol was met
  MetSymbol : Seen

abbrev pub held : Property → Option Value
held (Data p) = Some p.value
held (Accessor p) = None

abbrev pub error_of : Value → Option ObjNo → Seen
error_of v None = Threw v
error_of v (Some p) =
    if nat_eq p (error_prototype TypeError) then ThrewError TypeError
    else (if nat_eq p (error_prototype RangeError) then ThrewError RangeError
    else (if nat_eq p (error_prototype ReferenceError) then ThrewError ReferenceError else Threw v))

abbrev pub thrown : Value → Heap → Seen
thrown (Object o) h = error_of (Object o) (prototype_of h o)
thrown v h = Threw v

abbrev pub look_at : List Key → Outcome → Seen
look_at keys (Ended calls Normally h) = Values (map (λ key. option_and_then held (lookup key (properties_of global h))) keys)
look_at keys (Ended calls (Thrown v) h) = thrown v h
look_at keys (Left why at) = LeavesAt why at.0
look_at keys OutOfSteps = StepsSpent
look_at keys Unknown = MetSymbol

-- what the run of a script in a world comes to, where so many nodes and calls of built-ins may be active at once, and a loop may
-- have as many turns
abbrev pub seen : Heap → List Key → ℕ → World → Script → ℕ → Seen
seen start keys most w script n = look_at keys (walk w n [] (script_tree_within most most script start))

-- a realm whose objects have no properties, for cases that need none
abbrev pub bare_object : Option ObjNo → ObjectState
bare_object prototype = record { class = Plain; prototype = prototype; depth = depth_below prototype; extensible = true; properties = [] }

abbrev pub bare : Heap
bare = record { objects = bare_object (Some object_prototype) ∷ replicate 14 (bare_object None); cells = [] }

-- thirty more than a number: cases hold for every number of nodes that are allowed beyond thirty
abbrev pub ten_more : ℕ → ℕ
ten_more d = suc (suc (suc (suc (suc (suc (suc (suc (suc (suc d)))))))))

abbrev pub deep : ℕ → ℕ
deep d = ten_more (ten_more (ten_more d))
