-- The run in a world and the run along this world's own choices, event by event.
use Rattle.std.proofs.Common.{◌≡◌, refl, ap, sym, subst, ◌∙◌, ℕ, zero, suc, Bool, true, false, List, [], ◌∷◌, ◌++◌, arith}
use Rattle.std.specs.Prelude.{if◌then◌else◌, length, slice_get, Option, Some, None}
use Rattle.std.specs.Option.{option_map}
use Rattle.std.proofs.lemmas.List.{length-append}
use Rattle.js_value.specs.Conversions.{to_boolean}
use Rattle.js_value.specs.declared.place.Place.{Place}
use Rattle.js_value.specs.declared.primitive.Kind.{Kind}
use Rattle.js_value.specs.declared.primitive.Primitive.{Primitive}
use Rattle.js_value.specs.declared.primitive.Primitive.TheVariants as primitive
use Rattle.js_value.specs.declared.why.Why.{Why}
use Rattle.js_value.specs.declared.why.Why.TheVariants.{NoInput, InputKind, AnswerKind}
use Rattle.plain_heap.specs.Values.{Value, Prim, Symbolic, Symbol, Input, truth}
use Rattle.plain_heap.specs.Heap.{lookup}
use Rattle.plain_heap.proofs.Properties.{some_is}
use Rattle.js_machine.specs.Machine.Choices as choices
use Rattle.js_machine.specs.Machine.Choices.{Opened, OpenRun, Kept, kept_answer, tested, open_walk, open_spend}
use Rattle.js_machine.specs.Machine.Events as T
use Rattle.js_machine.specs.Machine.Events.{Tree, Step, Turn, Ask, Call, Stop, Spent, End, Fail}
use Rattle.js_machine.specs.Machine.Operators as P
use Rattle.js_machine.specs.Machine.Walks.{World, Answer, HostEvent, Outcome, Left, walk, given, answered, called, is_of_kind}
use Rattle.related_states.specs.Related.{BothEach, none, also, SameValue, stands}
use Rattle.related_runs.proofs.Related.{TreeRelation}
use Rattle.run_laws.specs.Symbols.{meant, of_kind, choice, unless_kept, own_choices}
use Rattle.run_laws.specs.SymbolLaw.{valued, SameEvent, same_event, same_normally, same_thrown, Valued, leaves, needs, both_end, both_out}
use Rattle.run_laws.proofs.Meant.{same_meant}

-- ---- all choices are taken, whatever the events are

abbrev is_whole : OpenRun → Type 0
is_whole r = r.left ≡ []

one_more : (calls : List HostEvent) (c : HostEvent) → length (calls ++ c ∷ []) ≡ suc (length calls)
one_more calls c = rw (length-append calls (c ∷ [])) (omega arith)

module _ (w : World) where
  pub takes_all : (n : ℕ) (calls : List HostEvent) (kept : Kept) (t : Tree) → is_whole (open_walk n calls kept (own_choices w n (length calls) kept t) t)
  takes_all zero calls kept (Step at t) = refl
  takes_all (suc n) calls kept (Step at t) = takes_all n calls kept t
  takes_all zero calls kept (Turn at t) = refl
  takes_all (suc n) calls kept (Turn at t) = takes_all n calls kept t
  takes_all n calls kept (Ask at s f) = by_kept (kept_answer s kept) (meant w s) (λ b. takes_all n calls kept (f b)) (λ b. takes_all n calls ((s, b) ∷ kept) (f b))
    where
      by_kept : (a : Option Bool) (o : Option Primitive) → ((b : Bool) → is_whole (open_walk n calls kept (own_choices w n (length calls) kept (f b)) (f b)))
          → ((b : Bool) → is_whole (open_walk n calls ((s, b) ∷ kept) (own_choices w n (length calls) ((s, b) ∷ kept) (f b)) (f b)))
          → is_whole (tested a s kept (unless_kept a (λ b. own_choices w n (length calls) kept (f b)) (choice o (λ b. own_choices w n (length calls) ((s, b) ∷ kept) (f b)))) (λ kept choices b. open_walk n calls kept choices (f b)))
      by_kept (Some b) o again new = again b
      by_kept None (Some p) again new = new (to_boolean p)
      by_kept None None again new = refl
  takes_all n calls kept (T.Input at k name f) = takes_all n calls kept (f (Symbolic (Input k name)))
  takes_all n calls kept (Call at k name arguments f) =
      let answer = choices.answer k (length calls) in
      let threw = choices.thrown (length calls) in
      let behind = called calls name arguments k answer threw in
      subst (λ m. is_whole (open_walk n behind kept (own_choices w n m kept (f answer threw)) (f answer threw))) (one_more calls _) (takes_all n behind kept (f answer threw))
  takes_all n calls kept (Stop why at) = refl
  takes_all n calls kept Spent = refl
  takes_all n calls kept (End h) = refl
  takes_all n calls kept (Fail v h) = refl

  -- ---- what was kept is what the symbols have for truth

  pub record Right (kept : Kept) : Type 0 where
    pub at : (s : Symbol) (b : Bool) → kept_answer s kept ≡ Some b → option_map to_boolean (meant w s) ≡ Some b

  pub keeps : (kept : Kept) → Right kept → (s : Symbol) (p : Primitive) → meant w s ≡ Some p → Right ((s, to_boolean p) ∷ kept)
  keeps kept right s p is = record { at = λ t b e. by_test t b (P.is_same_symbol t s) refl e }
    where
      by_test : (t : Symbol) (b c : Bool) → P.is_same_symbol t s ≡ c → (if c then Some (to_boolean p) else kept_answer t kept) ≡ Some b → option_map to_boolean (meant w t) ≡ Some b
      by_test t b true same e = rw (same_meant w t s same, is) e
      by_test t b false same e = right.at t b e

  -- ---- the relation

  pub record Follows (t u : Tree) : Type 0 where
    pub at : (n : ℕ) (calls others : List HostEvent) → BothEach (SameEvent w) calls others → (kept : Kept) → Right kept
        → Valued w (walk w n calls t) (open_walk n others kept (own_choices w n (length others) kept u) u).came_to

  same_length : {calls others : List HostEvent} → BothEach (SameEvent w) calls others → length calls ≡ length others
  same_length none = refl
  same_length (also e all) = ap suc (same_length all)

  added : {calls others : List HostEvent} {c d : HostEvent} → BothEach (SameEvent w) calls others → SameEvent w c d → BothEach (SameEvent w) (calls ++ c ∷ []) (others ++ d ∷ [])
  added none e = also e none
  added (also f all) e = also f (added all e)

  pub step_follows : (at place : Place) (t u : Tree) → Follows t u → Follows (Step at t) (Step place u)
  step_follows at place t u h = record { at = λ n calls others all kept right. by_budget n calls others all kept right }
    where
      by_budget : (n : ℕ) (calls others : List HostEvent) → BothEach (SameEvent w) calls others → (kept : Kept) → Right kept
          → Valued w (walk w n calls (Step at t)) (open_walk n others kept (own_choices w n (length others) kept (Step place u)) (Step place u)).came_to
      by_budget zero calls others all kept right = both_out
      by_budget (suc n) calls others all kept right = h.at n calls others all kept right

  pub turn_follows : (at place : Place) (t u : Tree) → Follows t u → Follows (Turn at t) (Turn place u)
  turn_follows at place t u h = record { at = λ n calls others all kept right. by_budget n calls others all kept right }
    where
      by_budget : (n : ℕ) (calls others : List HostEvent) → BothEach (SameEvent w) calls others → (kept : Kept) → Right kept
          → Valued w (walk w n calls (Turn at t)) (open_walk n others kept (own_choices w n (length others) kept (Turn place u)) (Turn place u)).came_to
      by_budget zero calls others all kept right = both_out
      by_budget (suc n) calls others all kept right = h.at n calls others all kept right

  pub given_follows : (at : Place) (missing other : Why) (k : Kind) (o : Option Primitive) (f : Value → Outcome) (g : Opened) → ((p : Primitive) → of_kind k o ≡ Some p → Valued w (f (Prim p)) g) → Valued w (given at missing other k o f) g
  given_follows at missing other k None f g h = leaves
  given_follows at missing other k (Some p) f g h = by_test (is_of_kind k p) refl
    where
      by_test : (b : Bool) → is_of_kind k p ≡ b → Valued w (if b then f (Prim p) else Left other at) g
      by_test true e = h p (rw e refl)
      by_test false e = leaves

  answered_follows : (at : Place) (k : Kind) (o : Option Answer) (f : Value → Value → Outcome) (g : Opened)
      → ((a : Answer) → of_kind k (option_map (λ (a : Answer). a.value) o) ≡ Some a.value → option_map (λ (a : Answer). primitive.Boolean a.threw) o ≡ Some (primitive.Boolean a.threw) → Valued w (f (Prim a.value) (truth a.threw)) g)
      → Valued w (answered at k o f) g
  answered_follows at k None f g h = leaves
  answered_follows at k (Some a) f g h = by_test (is_of_kind k a.value) refl
    where
      by_test : (b : Bool) → is_of_kind k a.value ≡ b → Valued w (if b then f (Prim a.value) (truth a.threw) else Left AnswerKind at) g
      by_test true e = h a (rw e refl) refl
      by_test false e = leaves

  pub call_follows : (at place : Place) (k : Kind) (name : List ℕ) (vs us : List Value) (f g : Value → Value → Tree) → BothEach (SameValue (valued w)) vs us
      → ((v u threw thrown : Value) → SameValue (valued w) v u → SameValue (valued w) threw thrown → Follows (f v threw) (g u thrown)) → Follows (Call at k name vs f) (Call place k name us g)
  call_follows at place k name vs us f g both h = record {
    at = λ n calls others all kept right.
        let answer = choices.answer k (length others) in
        let thrown = choices.thrown (length others) in
        let behind = called others name us k answer thrown in
        subst (λ m. Valued w (answered at k (slice_get w.answers m) (λ v threw. walk w n (called calls name vs k v threw) (f v threw)))
        (open_walk n behind kept (own_choices w n (suc (length others)) kept (g answer thrown)) (g answer thrown)).came_to) (sym (same_length all))
        (answered_follows at k (slice_get w.answers (length others)) _ _ (λ a is threw.
        let value = stands is in
        let mark = stands threw in
        subst (λ m. Valued w (walk w n (called calls name vs k (Prim a.value) (truth a.threw)) (f (Prim a.value) (truth a.threw))) (open_walk n behind kept (own_choices w n m kept (g answer thrown)) (g answer thrown)).came_to) (one_more others _)
        ((h (Prim a.value) answer (truth a.threw) thrown value mark).at n (called calls name vs k (Prim a.value) (truth a.threw)) behind (added all (same_event name both k value mark)) kept right)));
  }

  pub ask_follows : (p : Primitive) (s : Symbol) → meant w s ≡ Some p → (at : Place) (t : Tree) (g : Bool → Tree) → Follows t (g (to_boolean p)) → Follows t (Ask at s g)
  ask_follows p s is at t g h = record { at = λ n calls others all kept right. by_kept n calls others all kept right (kept_answer s kept) refl }
    where
      by_kept : (n : ℕ) (calls others : List HostEvent) → BothEach (SameEvent w) calls others → (kept : Kept) → Right kept → (a : Option Bool) → kept_answer s kept ≡ a
          → Valued w (walk w n calls t) (tested a s kept (unless_kept a (λ b. own_choices w n (length others) kept (g b)) (choice (meant w s) (λ b. own_choices w n (length others) ((s, b) ∷ kept) (g b))))
          (λ kept choices b. open_walk n others kept choices (g b))).came_to
      by_kept n calls others all kept right (Some b) e =
          subst (λ b. Valued w (walk w n calls t) (open_walk n others kept (own_choices w n (length others) kept (g b)) (g b)).came_to) (some_is _ b (sym (ap (option_map to_boolean) is) ∙ right.at s b e))
          (h.at n calls others all kept right)
      by_kept n calls others all kept right None e = rw is (h.at n calls others all ((s, to_boolean p) ∷ kept) (keeps kept right s p is))

  abbrev pub follows : TreeRelation (valued w)
  follows = record {
    Related = Follows;
    steps = step_follows;
    turns = turn_follows;
    inputs = λ at place k name f g h. record {
      at = λ n calls others all kept right. given_follows at NoInput InputKind k (lookup name w.inputs) (λ v. walk w n calls (f v)) _ (λ p e. (h (Prim p) (Symbolic (Input k name)) (stands e)).at n calls others all kept right);
    };
    calls = λ at place k name vs us f g both free h. call_follows at place k name vs us f g both h;
    leaves = λ why at place. record { at = λ n calls others all kept right. leaves };
    runs_out = record { at = λ n calls others all kept right. both_out };
    ends = λ h g same. record { at = λ n calls others all kept right. both_end all same_normally same };
    fails = λ v u h g r same. record { at = λ n calls others all kept right. both_end all (same_thrown r) same };
    asks = ask_follows;
    wants = λ p s is what at t. record { at = λ n calls others all kept right. needs };
    leaves_first = λ p s is why at u. record { at = λ n calls others all kept right. leaves };
  }
