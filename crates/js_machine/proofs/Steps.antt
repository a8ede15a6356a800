-- More steps don't change a run that ended or left.
use Rattle.std.proofs.Common.{◌≡◌, ℕ, zero, suc, ◌+◌, Bool, true, false, refl, ap, ◌∙◌, arith, List}
use Rattle.std.specs.Prelude.{if◌then◌else◌, length, slice_get, Option, Some, None}
use Rattle.js_value.specs.declared.place.Place.{Place}
use Rattle.js_value.specs.declared.primitive.Kind.{Kind}
use Rattle.js_value.specs.declared.primitive.Primitive.{Primitive}
use Rattle.js_value.specs.declared.why.Why.{Why}
use Rattle.js_value.specs.declared.why.Why.TheVariants.{NoInput, InputKind, AnswerKind}
use Rattle.plain_heap.specs.Heap.{lookup}
use Rattle.plain_heap.specs.Values.{Value, Prim, truth}
use Rattle.js_machine.specs.Machine.Events.{Tree, Step, Turn, Ask, Input, Call, Stop, Spent, End, Fail}
use Rattle.js_machine.specs.Machine.Walks.{World, HostEvent, Outcome, Ended, Left, OutOfSteps, walk, given, called, is_of_kind, Answer, answered}
use Rattle.js_machine.specs.Machine.Laws.{MoreSteps}

-- the run came to something else than the end of its steps
abbrev IsOver : Outcome → Type 0
IsOver OutOfSteps = ⊥
IsOver _ = Unit {0}

-- two ways to go on that agree where the first one is over
given_more : (at : Place) (missing other : Why) (k : Kind) (found : Option Primitive) (r s : Value → Outcome) → ((v : Value) → IsOver (r v) → s v ≡ r v)
    → IsOver (given at missing other k found r) → given at missing other k found s ≡ given at missing other k found r
given_more at missing other k None r s same over = refl
given_more at missing other k (Some p) r s same over = by_kind (is_of_kind k p) over
  where
    by_kind : (b : Bool) → IsOver (if b then r (Prim p) else Left other at) → (if b then s (Prim p) else Left other at) ≡ (if b then r (Prim p) else Left other at)
    by_kind true over = same (Prim p) over
    by_kind false over = refl

answered_more : (at : Place) (k : Kind) (found : Option Answer) (r s : Value → Value → Outcome) → ((v threw : Value) → IsOver (r v threw) → s v threw ≡ r v threw)
    → IsOver (answered at k found r) → answered at k found s ≡ answered at k found r
answered_more at k None r s same over = refl
answered_more at k (Some answer) r s same over = by_kind (is_of_kind k answer.value) over
  where
    by_kind : (b : Bool) → IsOver (if b then r (Prim answer.value) (truth answer.threw) else Left AnswerKind at)
        → (if b then s (Prim answer.value) (truth answer.threw) else Left AnswerKind at) ≡ (if b then r (Prim answer.value) (truth answer.threw) else Left AnswerKind at)
    by_kind true over = same (Prim answer.value) (truth answer.threw) over
    by_kind false over = refl

one_more : (w : World) (n : ℕ) (calls : List HostEvent) (t : Tree) → IsOver (walk w n calls t) → walk w (suc n) calls t ≡ walk w n calls t
one_more w zero calls (Step at t) over = absurd over
one_more w (suc n) calls (Step at t) over = one_more w n calls t over
one_more w zero calls (Turn at t) over = absurd over
one_more w (suc n) calls (Turn at t) over = one_more w n calls t over
one_more w n calls (Ask at v f) over = refl
one_more w n calls (Input at k name f) over =
    given_more at NoInput InputKind k (lookup name w.inputs) (λ v. walk w n calls (f v)) (λ v. walk w (suc n) calls (f v)) (λ v over. one_more w n calls (f v) over) over
one_more w n calls (Call at k name arguments f) over =
    answered_more at k (slice_get w.answers (length calls)) (λ v threw. walk w n (called calls name arguments k v threw) (f v threw)) (λ v threw. walk w (suc n) (called calls name arguments k v threw) (f v threw))
    (λ v threw over. one_more w n (called calls name arguments k v threw) (f v threw) over) over
one_more w n calls (Stop why at) over = refl
one_more w n calls Spent over = refl
one_more w n calls (End h) over = refl
one_more w n calls (Fail v h) over = refl

over_as : (o p : Outcome) → o ≡ p → IsOver p → IsOver o
over_as o p same over = rw same over

many_more : (w : World) (n m : ℕ) (calls : List HostEvent) (t : Tree) (o : Outcome) → IsOver o → walk w n calls t ≡ o → walk w (n + m) calls t ≡ o
many_more w n zero calls t o over is = ap (λ k. walk w k calls t) (no_more n) ∙ is
  where
    no_more : (n : ℕ) → n + zero ≡ n
    no_more n = omega arith
many_more w n (suc m) calls t o over is =
    ap (λ k. walk w k calls t) (next n m)
    ∙ one_more w (n + m) calls t (over_as (walk w (n + m) calls t) o (many_more w n m calls t o over is) over)
    ∙ many_more w n m calls t o over is
  where
    next : (n m : ℕ) → n + suc m ≡ suc (n + m)
    next n m = omega arith

pub more_steps : MoreSteps
more_steps = record {
  ended = λ w n m calls made t ending h is. many_more w n m calls t (Ended made ending h) tt is;
  left = λ w n m calls t why at is. many_more w n m calls t (Left why at) tt is;
}
