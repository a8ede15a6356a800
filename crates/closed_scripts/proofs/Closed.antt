-- What closed scripts do: a walk through plain events doesn't look at its world or its choices.
use Rattle.std.proofs.Common.{◌≡◌, refl, ap, sym, subst, ◌∙◌, ℕ, zero, suc, ◌≤◌, ◌<◌, ◌⊎◌, inl, inr, Bool, true, false, List, [], ◌∷◌, arith}
use Rattle.std.specs.List.{list_all}
use Rattle.std.proofs.lemmas.Bool.{and_parts}
use Rattle.js_tree.specs.declared.statement.Script.{Script}
use Rattle.plain_heap.specs.Values.{Value, Prim, Object, Absent, Symbolic}
use Rattle.plain_heap.specs.Heap.{Heap, Key, Property, Data, Accessor, ObjectState}
use Rattle.js_machine.specs.Machine.Choices.{Kept, OpenRun, EndsOrWants, EndsWithin, open_run, open_steps, open_walk}
use Rattle.js_machine.specs.Machine.Events.{Tree}
use Rattle.js_machine.specs.Machine.Levels.{script_tree}
use Rattle.js_machine.specs.Machine.Realm.{realm}
use Rattle.js_machine.specs.Machine.Walks.{World, HostEvent, Ending, Outcome, Ended, OutOfSteps, behind, plain, plain_from, walk}
use Rattle.js_machine.specs.Machine.Worlds.{IsClosed}
use Rattle.closed_scripts.specs.Closed.{ClosedScripts, IsClosedOutcome, ended, threw, left, out_of_steps, as_opened}
use Rattle.closed_scripts.specs.Known.{Each, none, also, IsKnown, is_primitive, is_object, is_absent, IsKnownProperty, of_data, of_accessor, IsKnownState, IsKnownHeap, IsPlain, steps, turns, leaves, out_of_turns, ends, fails}
use Rattle.closed_scripts.proofs.Levels.{plain_events}

-- ---- walks

same_walk : (w other : World) (n : ℕ) (calls : List HostEvent) {t : Tree} → IsPlain t → walk w n calls t ≡ walk other n calls t
same_walk w other zero calls (steps at p) = refl
same_walk w other (suc n) calls (steps at p) = same_walk w other n calls p
same_walk w other zero calls (turns at p) = refl
same_walk w other (suc n) calls (turns at p) = same_walk w other n calls p
same_walk w other n calls (leaves why at) = refl
same_walk w other n calls out_of_turns = refl
same_walk w other n calls (ends h known) = refl
same_walk w other n calls (fails v h is known) = refl

along : (w : World) (n : ℕ) (calls : List HostEvent) (kept : Kept) (choices : List Bool) {t : Tree} → IsPlain t → open_walk n calls kept choices t ≡ record { came_to = as_opened (walk w n calls t); left = choices }
along w zero calls kept choices (steps at p) = refl
along w (suc n) calls kept choices (steps at p) = along w n calls kept choices p
along w zero calls kept choices (turns at p) = refl
along w (suc n) calls kept choices (turns at p) = along w n calls kept choices p
along w n calls kept choices (leaves why at) = refl
along w n calls kept choices out_of_turns = refl
along w n calls kept choices (ends h known) = refl
along w n calls kept choices (fails v h is known) = refl

too_few : (w : World) (n made : ℕ) (calls : List HostEvent) (kept : Kept) {t : Tree} → IsPlain t → n < open_steps made kept t → walk w n calls t ≡ OutOfSteps
too_few w zero made calls kept (steps at p) below = refl
too_few w (suc n) made calls kept (steps at p) below = too_few w n made calls kept p (omega (arith, below))
too_few w zero made calls kept (turns at p) below = refl
too_few w (suc n) made calls kept (turns at p) below = too_few w n made calls kept p (omega (arith, below))
too_few w n made calls kept (leaves why at) below = absurd (omega (arith, below))
too_few w n made calls kept out_of_turns below = refl
too_few w n made calls kept (ends h known) below = absurd (omega (arith, below))
too_few w n made calls kept (fails v h is known) below = absurd (omega (arith, below))

one_more : {o : Outcome} {m n : ℕ} → (o ≡ OutOfSteps) ⊎ (m ≤ n) → (o ≡ OutOfSteps) ⊎ (suc m ≤ suc n)
one_more (inl e) = inl e
one_more (inr le) = inr (omega (arith, le))

enough_steps : (w : World) (n made : ℕ) (calls : List HostEvent) (kept : Kept) {t : Tree} → IsPlain t → (walk w n calls t ≡ OutOfSteps) ⊎ (open_steps made kept t ≤ n)
enough_steps w zero made calls kept (steps at p) = inl refl
enough_steps w (suc n) made calls kept (steps at p) = one_more (enough_steps w n made calls kept p)
enough_steps w zero made calls kept (turns at p) = inl refl
enough_steps w (suc n) made calls kept (turns at p) = one_more (enough_steps w n made calls kept p)
enough_steps w n made calls kept (leaves why at) = inr (omega arith)
enough_steps w n made calls kept out_of_turns = inl refl
enough_steps w n made calls kept (ends h known) = inr (omega arith)
enough_steps w n made calls kept (fails v h is known) = inr (omega arith)

-- an outcome that is an end, with whatever calls, heap and thrown value
abbrev IsEnd : Outcome → Type 0
IsEnd (Ended calls ending h) = Unit {0}
IsEnd _ = ⊥

not_out : {o : Outcome} {le : Type 0} → IsEnd o → (o ≡ OutOfSteps) ⊎ le → le
not_out end (inl e) = absurd (subst IsEnd e end)
not_out end (inr h) = h

came_to : (w : World) (n : ℕ) {t : Tree} → IsPlain t → IsClosedOutcome (walk w n [] t)
came_to w zero (steps at p) = out_of_steps
came_to w (suc n) (steps at p) = came_to w n p
came_to w zero (turns at p) = out_of_steps
came_to w (suc n) (turns at p) = came_to w n p
came_to w n (leaves why at) = left why at
came_to w n out_of_turns = out_of_steps
came_to w n (ends h known) = ended h known
came_to w n (fails v h is known) = threw v h is known

-- ---- the realm

value_is_known : Value → Bool
value_is_known (Symbolic s) = false
value_is_known v = true

property_is_known : Property → Bool
property_is_known (Data p) = value_is_known p.value
property_is_known (Accessor p) = true

state_is_known : ObjectState → Bool
state_is_known o = list_all (λ (e : Key × Property). property_is_known e.1) o.properties

known_value : (v : Value) → value_is_known v ≡ true → IsKnown v
unfolding value_is_known
known_value (Prim p) e = is_primitive p
known_value (Object o) e = is_object o
known_value Absent e = is_absent
known_value (Symbolic s) e = absurd (cc)

known_property : (p : Property) → property_is_known p ≡ true → IsKnownProperty p
unfolding property_is_known
known_property (Data p) e = of_data p (known_value p.value e)
known_property (Accessor p) e = of_accessor p

each_known : {A : Type 0} {Is : A → Type 0} (test : A → Bool) → ((a : A) → test a ≡ true → Is a) → (xs : List A) → list_all test xs ≡ true → Each Is xs
each_known test h [] e = none
each_known test h (x ∷ xs) e = let both = and_parts (test x) (list_all test xs) e in also (h x both.0) (each_known test h xs both.1)

known_state : (o : ObjectState) → state_is_known o ≡ true → IsKnownState o
unfolding state_is_known
known_state o e = record { properties = each_known (λ (e : Key × Property). property_is_known e.1) (λ entry e. record { property = known_property entry.1 e }) o.properties e }

known_realm : IsKnownHeap realm
unfolding realm state_is_known property_is_known value_is_known
known_realm = record { objects = each_known state_is_known known_state realm.objects refl; cells = none }

-- ---- closed scripts

plain_tree : (s : Script) (n : ℕ) → IsClosed s → IsPlain (script_tree n s realm)
plain_tree s n closed = plain_events s n realm closed known_realm

same_worlds : (s : Script) (w other : World) (n : ℕ) → IsClosed s → plain s w n ≡ plain s other n
unfolding plain_from behind
same_worlds s w other n closed = same_walk w other n [] (plain_tree s n closed)

same_choices : (s : Script) (w : World) (choices : List Bool) (n : ℕ) → IsClosed s → open_run s choices n ≡ record { came_to = as_opened (plain s w n); left = choices }
unfolding plain_from behind open_run
same_choices s w choices n closed = along w n [] [] choices (plain_tree s n closed)

fewer_steps : (s : Script) (w : World) (n : ℕ) → IsClosed s → n < open_steps 0 [] (script_tree n s realm) → plain s w n ≡ OutOfSteps
unfolding plain_from behind
fewer_steps s w n closed below = too_few w n 0 [] [] (plain_tree s n closed) below

steps_taken : (s : Script) (w : World) (n : ℕ) → IsClosed s → (plain s w n ≡ OutOfSteps) ⊎ (open_steps 0 [] (script_tree n s realm) ≤ n)
unfolding plain_from behind
steps_taken s w n closed = enough_steps w n 0 [] [] (plain_tree s n closed)

outcome : (s : Script) (w : World) (n : ℕ) → IsClosed s → IsClosedOutcome (plain s w n)
unfolding plain_from behind
outcome s w n closed = came_to w n (plain_tree s n closed)

ends_within : (s : Script) (w : World) (n : ℕ) (calls : List HostEvent) (ending : Ending) (h : Heap) → IsClosed s → plain s w n ≡ Ended calls ending h → EndsWithin s n
ends_within s w n calls ending h closed e = record {
  few = not_out (subst IsEnd (sym e) tt) (steps_taken s w n closed);
  ends = λ choices. subst EndsOrWants (sym (ap (λ (r : OpenRun). r.came_to) (same_choices s w choices n closed) ∙ ap as_opened e)) tt;
}

pub closed_scripts : ClosedScripts
closed_scripts = record {
  events = plain_events;
  start = known_realm;
  outcomes = outcome;
  worlds = same_worlds;
  choices = same_choices;
  fewer = fewer_steps;
  enough = steps_taken;
  ends = ends_within;
}
