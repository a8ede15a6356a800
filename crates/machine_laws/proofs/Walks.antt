-- A relation between outcomes that a budget may have, as a relation between trees of events: that of the outcomes of their walks.
use Rattle.std.proofs.Common.{ℕ, zero, suc, ◌<◌, Bool, true, false, cond, List, arith}
use Rattle.std.specs.Prelude.{length, slice_get, Option, Some, None}
use Rattle.js_value.specs.declared.place.Place.{Place}
use Rattle.js_value.specs.declared.primitive.Kind.{Kind}
use Rattle.js_value.specs.declared.primitive.Primitive.{Primitive}
use Rattle.js_value.specs.declared.why.Why.{Why}
use Rattle.js_value.specs.declared.why.Why.TheVariants.{NoInput, InputKind, NoAnswer, AnswerKind}
use Rattle.plain_heap.specs.Heap.{lookup}
use Rattle.plain_heap.specs.Values.{Value, Prim, truth}
use Rattle.js_machine.specs.Machine.Events.{Tree, Step, Turn}
use Rattle.js_machine.specs.Machine.Walks.{given, World, HostEvent, Outcome, Left, walk, called, is_of_kind, Answer, answered}
use Rattle.machine_laws.proofs.Alike.{TreeRelation}

-- with a budget of so many steps
pub record OutcomeRelation : Type 1 where
  pub Holds : ℕ → Outcome → Outcome → Type 0
  pub same : (n : ℕ) (o : Outcome) → Holds n o o
  pub later : (n : ℕ) (o p : Outcome) → Holds n o p → Holds (suc n) o p

module _ (r : OutcomeRelation) where
  abbrev pub WalksRelated : ℕ → Tree → Tree → Type 0
  WalksRelated n t u = (w : World) (calls : List HostEvent) → r.Holds n (walk w n calls t) (walk w n calls u)

  pub after_step : (n : ℕ) (at : Place) (t u : Tree) → ((j : ℕ) → j < n → WalksRelated j t u) → WalksRelated n (Step at t) (Step at u)
  after_step zero at t u h w calls = r.same _ _
  after_step (suc n) at t u h w calls = r.later n _ _ (h n (omega arith) w calls)

  pub after_turn : (n : ℕ) (at : Place) (t u : Tree) → ((j : ℕ) → j < n → WalksRelated j t u) → WalksRelated n (Turn at t) (Turn at u)
  after_turn zero at t u h w calls = r.same _ _
  after_turn (suc n) at t u h w calls = r.later n _ _ (h n (omega arith) w calls)

  either : (n : ℕ) (b : Bool) (o p q : Outcome) → r.Holds n o p → r.Holds n (cond b o q) (cond b p q)
  either n true o p q h = h
  either n false o p q h = r.same n q

  pub given_both : (n : ℕ) (at : Place) (missing other : Why) (k : Kind) (found : Option Primitive) (f g : Value → Outcome) → ((v : Value) → r.Holds n (f v) (g v))
      → r.Holds n (given at missing other k found f) (given at missing other k found g)
  given_both n at missing other k None f g h = r.same n (Left missing at)
  given_both n at missing other k (Some p) f g h = either n (is_of_kind k p) (f (Prim p)) (g (Prim p)) (Left other at) (h (Prim p))

  pub answered_both : (n : ℕ) (at : Place) (k : Kind) (found : Option Answer) (f g : Value → Value → Outcome) → ((v threw : Value) → r.Holds n (f v threw) (g v threw))
      → r.Holds n (answered at k found f) (answered at k found g)
  answered_both n at k None f g h = r.same n (Left NoAnswer at)
  answered_both n at k (Some answer) f g h =
      either n (is_of_kind k answer.value) (f (Prim answer.value) (truth answer.threw)) (g (Prim answer.value) (truth answer.threw)) (Left AnswerKind at) (h (Prim answer.value) (truth answer.threw))

  abbrev pub walks : TreeRelation
  walks = record {
    Related = WalksRelated;
    steps = after_step;
    turns = after_turn;
    asks = λ n at v f g h w calls. r.same n _;
    inputs = λ n at k name f g h w calls. given_both n at NoInput InputKind k (lookup name w.inputs) (λ v. walk w n calls (f v)) (λ v. walk w n calls (g v)) (λ v. h v w calls);
    calls = λ n at k name arguments f g h w calls. answered_both n at k (slice_get w.answers (length calls))
        (λ v threw. walk w n (called calls name arguments k v threw) (f v threw)) (λ v threw. walk w n (called calls name arguments k v threw) (g v threw))
        (λ v threw. h v threw w (called calls name arguments k v threw));
    stops = λ n why at w calls. r.same n _;
    ends = λ n s w calls. r.same n _;
    fails = λ n v s w calls. r.same n _;
  }
