-- Two starts that correspond: whatever script comes afterwards, in whatever world, the runs can't be told apart.
use Rattle.std.proofs.Common.{◌≡◌, refl, ap, sym, subst, ◌∙◌, ℕ, zero, suc, ◌+◌, Bool, true, false, List, [], ◌∷◌, arith}
use Rattle.std.specs.Prelude.{if◌then◌else◌, ◌||◌, nat_eq, length, slice_get, Option, Some, None, Result, Ok}
use Rattle.std.specs.List.{list_any}
use Rattle.js_value.specs.Conversions.{is_same_value}
use Rattle.js_value.specs.Operators.{binary_row}
use Rattle.js_value.specs.declared.operator.BinaryOp.{BinaryOp}
use Rattle.js_value.specs.declared.place.Place.{Place}
use Rattle.js_value.specs.declared.primitive.Kind.{Kind}
use Rattle.js_value.specs.declared.primitive.Primitive.{Primitive}
use Rattle.js_value.specs.declared.why.Why.{Why}
use Rattle.js_value.specs.declared.why.Why.TheVariants.{NoInput, InputKind, NoAnswer, AnswerKind}
use Rattle.js_tree.specs.declared.statement.Script.{Script}
use Rattle.plain_heap.specs.Values.{Value, Prim, Operand, truth}
use Rattle.plain_heap.specs.Heap.{Heap, lookup}
use Rattle.js_machine.specs.Machine.Levels.{script_tree}
use Rattle.js_machine.specs.Machine.Operators as P
use Rattle.js_machine.specs.Machine.Events.{Tree, Call}
use Rattle.js_machine.specs.Machine.Walks.{World, Answer, Start, realm_start, HostEvent, Outcome, Left, walk, plain_from, behind, spend, given, answered, called, is_of_kind}
use Rattle.related_states.specs.Related.{Correspondence, Decided, correspondence, BothEach, none, also, SameValue, known, object, stands, SameHeaps}
use Rattle.related_runs.proofs.Related.{TreeRelation}
use Rattle.related_runs.proofs.Operators.{SameOperand, itself, unknown, is_unknown, Meanings}
use Rattle.related_runs.proofs.Levels.{SameScript, script_trees}
use Rattle.related_runs.proofs.Later.{later_script}
use Rattle.related_runs.proofs.Moved.{mover, moved_script, behind_is}
use Rattle.run_laws.specs.LaterLaw.{normally, thrown, SameOutcome, both_ended, both_left, both_spent, IsPlain, after, SameStarts, LaterRuns}
use Rattle.run_laws.proofs.Meant.{differ}
use Rattle.run_laws.proofs.RealmItself.{realm_itself}
use Rattle.js_machine.specs.Machine.Realm.{realm}

no_truth : false ≡ true → ⊥
no_truth e = grind (arith, e)

module _ (x : Correspondence) (no_symbol : (v u : Value) → x.Stands v u → ⊥) (objects : (o : ℕ) → x.MadeObject o) (cells : (c : ℕ) → x.MadeCell c) where
  -- ---- without symbols there is nothing to show of their meanings

  two_known : (op : BinaryOp) (row : Primitive → Primitive → Result Primitive Why) (p q r : Primitive) (a b : Operand) → binary_row op ≡ Some row → SameOperand x p a → SameOperand x q b → is_unknown a || is_unknown b ≡ true → row p q ≡ Ok r
      → SameValue x (Prim r) (P.on_symbols op a b)
  two_known op row p q r _ _ is (itself _) (itself _) some e = grind (arith, some)
  two_known op row p q r a b is (unknown s) l some e = absurd (no_symbol _ _ s)
  two_known op row p q r a b is h (unknown s) some e = absurd (no_symbol _ _ s)

  other_known : (p q : Primitive) (a b : Operand) → SameOperand x p a → SameOperand x q b → P.is_same_type (P.operand_type a) (P.operand_type b) ≡ false → is_same_value p q ≡ false
  other_known p q _ _ (itself _) (itself _) e = differ p q e
  other_known p q a b (unknown s) l e = absurd (no_symbol _ _ s)
  other_known p q a b h (unknown s) e = absurd (no_symbol _ _ s)

  asked_known : (p q : Primitive) (a b : Operand) → SameOperand x p a → SameOperand x q b → is_unknown a || is_unknown b ≡ true → ⊥
  asked_known p q _ _ (itself _) (itself _) some = grind (arith, some)
  asked_known p q a b (unknown s) l some = no_symbol _ _ s
  asked_known p q a b h (unknown s) some = no_symbol _ _ s

  pub no_meanings : Meanings x
  no_meanings = record {
    symbols = λ v u s. absurd (no_symbol v u s);
    one = λ op row p r s is m e. absurd (no_symbol _ _ m);
    two = two_known;
    same = λ p q s t m l e. absurd (no_symbol _ _ m);
    other = other_known;
    asked = λ p q a b h l some. absurd (asked_known p q a b h l some);
    opposite = λ p s m. absurd (no_symbol _ _ m);
    spelled = λ p s m. absurd (no_symbol _ _ m);
    made_object = objects;
    made_cell = cells;
  }

  -- ---- the relation: the walks in a world have outcomes that correspond

  pub record Walked (w : World) (t u : Tree) : Type 0 where
    pub at : (n : ℕ) (calls : List HostEvent) → SameOutcome x (walk w n calls t) (walk w n calls u)

  module _ (w : World) where
    pub spend_both : (n : ℕ) (t u : Tree) → Walked w t u → (calls : List HostEvent) → SameOutcome x (spend n (λ n. walk w n calls t)) (spend n (λ n. walk w n calls u))
    spend_both zero t u h calls = both_spent
    spend_both (suc n) t u h calls = h.at n calls

    pub given_both : (at place : Place) (missing other : Why) (k : Kind) (o : Option Primitive) (f g : Value → Outcome) → ((p : Primitive) → SameOutcome x (f (Prim p)) (g (Prim p)))
        → SameOutcome x (given at missing other k o f) (given place missing other k o g)
    given_both at place missing other k None f g h = both_left missing
    given_both at place missing other k (Some p) f g h = by_test (is_of_kind k p)
      where
        by_test : (b : Bool) → SameOutcome x (if b then f (Prim p) else Left other at) (if b then g (Prim p) else Left other place)
        by_test true = h p
        by_test false = both_left other

    pub answered_both : (at place : Place) (k : Kind) (o : Option Answer) (f g : Value → Value → Outcome) → ((p : Primitive) (b : Bool) → SameOutcome x (f (Prim p) (truth b)) (g (Prim p) (truth b)))
        → SameOutcome x (answered at k o f) (answered place k o g)
    answered_both at place k None f g h = both_left NoAnswer
    answered_both at place k (Some a) f g h = by_test (is_of_kind k a.value)
      where
        by_test : (b : Bool) → SameOutcome x (if b then f (Prim a.value) (truth a.threw) else Left AnswerKind at) (if b then g (Prim a.value) (truth a.threw) else Left AnswerKind place)
        by_test true = h a.value a.threw
        by_test false = both_left AnswerKind

    -- what is no object is the same on both sides
    pub equal_values : {vs us : List Value} → BothEach (SameValue x) vs us → list_any P.is_object vs ≡ false → vs ≡ us
    equal_values none free = refl
    equal_values (also (known p) all) free = ap (λ us. Prim p ∷ us) (equal_values all free)
    equal_values (also (object r) all) free = grind (arith, free)
    equal_values (also (stands s) all) free = absurd (no_symbol _ _ s)

    pub call_both : (at place : Place) (k : Kind) (name : List ℕ) (vs : List Value) (f g : Value → Value → Tree)
        → ((v u threw thrown : Value) → SameValue x v u → SameValue x threw thrown → Walked w (f v threw) (g u thrown)) → Walked w (Call at k name vs f) (Call place k name vs g)
    call_both at place k name vs f g h = record {
      at = λ n calls. answered_both at place k (slice_get w.answers (length calls)) _ _
          (λ p b. (h (Prim p) (Prim p) (truth b) (truth b) (known p) (known _)).at n (called calls name vs k (Prim p) (truth b)));
    }

    abbrev pub walked : TreeRelation x
    walked = record {
      Related = Walked w;
      steps = λ at place t u h. record { at = λ n calls. spend_both n t u h calls };
      turns = λ at place t u h. record { at = λ n calls. spend_both n t u h calls };
      inputs = λ at place k name f g h. record {
        at = λ n calls. given_both at place NoInput InputKind k (lookup name w.inputs) (λ v. walk w n calls (f v)) (λ v. walk w n calls (g v)) (λ p. (h (Prim p) (Prim p) (known p)).at n calls);
      };
      calls = λ at place k name vs us f g both free h. subst (λ us. Walked w (Call at k name vs f) (Call place k name us g)) (equal_values both free) (call_both at place k name vs f g h);
      leaves = λ why at place. record { at = λ n calls. both_left why };
      runs_out = record { at = λ n calls. both_spent };
      ends = λ h g same. record { at = λ n calls. both_ended calls normally same };
      fails = λ v u h g r same. record { at = λ n calls. both_ended calls (thrown r) same };
      asks = λ p s m at t g h. absurd (no_symbol _ _ m);
      wants = λ p s m what at t. absurd (no_symbol _ _ m);
      leaves_first = λ p s m why at u. absurd (no_symbol _ _ m);
    }

    -- two scripts whose codes correspond, on heaps that do
    pub scripts_walked : (s t : Script) → SameScript x s t → (h g : Heap) → SameHeaps x h g → (n : ℕ) → SameOutcome x (walk w n [] (script_tree n s h)) (walk w n [] (script_tree n t g))
    scripts_walked s t same h g heaps n = (script_trees walked no_meanings s t same n h g heaps).at n []

-- ---- two starts

later_runs : (d : Decided) → IsPlain d → (a b : Start) → SameStarts d a b → (s : Script) (w : World) (n : ℕ) → SameOutcome (after d a b) (plain_from a s w n) (plain_from b s w n)
unfolding plain_from
later_runs d plain a b starts s w n =
    subst (λ (z : Script). SameOutcome (after d a b) (walk w n [] (script_tree n z a.heap)) (walk w n [] (script_tree n (behind b.functions s) b.heap))) (sym (behind_is a.functions s))
    (subst (λ (z : Script). SameOutcome (after d a b) (walk w n [] (script_tree n (moved_script (mover a.functions) a.functions s) a.heap)) (walk w n [] (script_tree n z b.heap))) (sym (behind_is b.functions s))
    (scripts_walked (after d a b) (λ v u e. no_truth (sym (plain.no_symbols v u) ∙ e)) plain.objects plain.cells w _ _ (later_script (correspondence d) a.functions b.functions starts.tables s) a.heap b.heap starts.heaps n))

-- ---- the realm and itself

equal_next : (m n : ℕ) → nat_eq m n ≡ true → nat_eq (m + 1) (n + 1) ≡ true
equal_next m n e = grind (arith, e)

equal_pairs : (o q p r : ℕ) → nat_eq o q ≡ true → nat_eq p r ≡ true → nat_eq o p ≡ nat_eq q r
equal_pairs o q p r e f = grind (arith, e, f)

equal_itself : (o : ℕ) → nat_eq o o ≡ true
equal_itself o = grind arith

equal_is : (o q : ℕ) → nat_eq o q ≡ true → o ≡ q
equal_is o q e = grind (arith, e)

abbrev equal : Decided
equal = record {
  objects = nat_eq;
  cells = nat_eq;
  functions = λ ns f g. false;
  stands = λ v u. false;
  object_counts = nat_eq;
  cell_counts = nat_eq;
  made_object = λ o. true;
  made_cell = λ c. true;
  new_object = λ m n e made. e;
  new_cell = λ m n e made. e;
  next_object = λ m n e made. equal_next m n e;
  next_cell = λ m n e made. equal_next m n e;
  one_object = equal_pairs;
  one_cell = equal_pairs;
  realm = λ o h. equal_itself o;
}

realm_starts : SameStarts equal realm_start realm_start
realm_starts = record {
  heaps = realm_itself (after equal realm_start realm_start) equal_itself equal_is (equal_itself (length realm.objects)) (equal_itself 0);
  tables = record { called = λ ns f g h. absurd (no_truth h) };
}

pub later : LaterRuns
later = record {
  realm = (equal, record { no_symbols = λ v u. refl; objects = λ o. refl; cells = λ c. refl }, realm_starts);
  same = later_runs;
}
