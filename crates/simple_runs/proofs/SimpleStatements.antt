-- Simple statements run by the rules of the whole language as by their own.
use Rattle.std.proofs.Common.{false, ◌≡◌, ℕ, suc, ◌≤◌, Bool, true, List, [], ◌∷◌, refl, arith}
use Rattle.std.specs.Prelude.{◌&&◌, Option, Some, None}
use Rattle.std.specs.List.{list_all}
use Rattle.std.proofs.lemmas.Bool.{and_parts, leb-true}
use Rattle.js_value.specs.declared.place.Place.{Place}
use Rattle.js_value.specs.declared.primitive.Primitive.{Primitive}
use Rattle.js_tree.specs.Count.{in_expr}
use Rattle.js_tree.specs.Parts.{is_among, declarators_in}
use Rattle.simple_scripts.specs.Simple.{names_in, names_in_init}
use Rattle.simple_scripts.specs.SimpleScripts.{Sum, NoSum, LiteralAlone, Terms, sum_in, is_short, is_simple_init, is_simple_declarator, is_simple_form, is_simple_statement}
use Rattle.simple_scripts.specs.SimpleNames.{is_simple_name}
use Rattle.js_tree.specs.declared.expression.Expr.{Expr}
use Rattle.js_tree.specs.declared.statement.Case.{Case}
use Rattle.js_tree.specs.declared.statement.Catch.{Catch}
use Rattle.js_tree.specs.declared.statement.Declarator.{Declarator}
use Rattle.js_tree.specs.declared.statement.Finally.{Finally}
use Rattle.js_tree.specs.declared.statement.Stmt.{Stmt}
use Rattle.js_tree.specs.declared.statement.StmtForm.{StmtForm, out-StmtForm}
use Rattle.js_tree.specs.declared.statement.StmtForm.TheOpen.{StmtForm-F}
use Rattle.plain_heap.specs.Heap.{Heap, Properties, ObjectState, lookup}
use Rattle.plain_heap.specs.Values.{Value, ObjNo}
use Rattle.simple_runs.specs.Events as simple
use Rattle.simple_runs.specs.Simple as rules
use Rattle.js_machine.specs.Machine.Expressions.{Completion, Normal, site}
use Rattle.js_machine.specs.Machine.Levels.{Setting, within, ev_of}
use Rattle.js_machine.specs.Machine.References.{NameReference, OnGlobal, global_context, put_value}
use Rattle.js_machine.specs.Machine.Statements as FF
use Rattle.js_machine.specs.Machine.Statements.{statements, stmt_rule}
use Rattle.js_machine.specs.Machine.Events.{Tree, Step}
use Rattle.simple_runs.proofs.GlobalNames.{heap_with, resolved, written}
use Rattle.js_machine.proofs.Opening.{at_stmt}
use Rattle.simple_runs.proofs.SimpleExpressions.{Fits, all_fit, is_sum, Follows, follows, evaluates}
use Rattle.simple_runs.proofs.Variables.{is_bound, is_plain, are_plain, among_all, all_among, all_more, bound_put, plain_put}

-- a sum of at most twenty terms has at most 59 nodes
short_few : (s : Sum) (n : ℕ) → Fits s n → is_short s ≡ true → n ≤ 59
short_few NoSum n h short = absurd (cc)
short_few LiteralAlone n h short = omega (arith, h)
short_few (Terms k) n h short = omega (arith, h, leb-true k 20 short)

pub short_sum : (s : Sum) → is_short s ≡ true → is_sum s ≡ true
short_sum NoSum short = short
short_sum LiteralAlone short = refl
short_sum (Terms k) short = refl

-- a declarator of a simple script that declares these names
abbrev pub is_among_declared : List (List ℕ) → Declarator → Bool
is_among_declared names d = is_simple_declarator d && (is_among names d.name && list_all (is_among names) (names_in_init d.init))

abbrev pub are_among_declared : List (List ℕ) → Stmt → Bool
are_among_declared names s = list_all (is_among_declared names) (declarators_in (out-StmtForm s.form))

-- these names are bound, and all values are plain
abbrev pub IsReady : List (List ℕ) → simple.Heap → Type 0
IsReady names vs = (list_all (is_bound vs) names ≡ true) × (are_plain vs ≡ true)

ready_put : (names : List (List ℕ)) (n : List ℕ) (q : Primitive) (vs : simple.Heap) → is_plain q ≡ true → IsReady names vs → IsReady names (simple.put n q vs)
ready_put names n q vs plain ready = (all_more (is_bound vs) (is_bound (simple.put n q vs)) names (λ m. bound_put m n q vs) ready.0, plain_put n q vs plain ready.1)

found : (name : List ℕ) (vs : simple.Heap) (o : Option Primitive) → simple.lookup name vs ≡ o → is_bound vs name ≡ true → (p : Primitive) × (simple.lookup name vs ≡ Some p)
found name vs None is bound = absurd (grind (arith, is, bound))
found name vs (Some p) is bound = (p, is)

module _ (own : Properties) (prototype : Option ObjNo) (rest : List ObjectState) (free : (name : List ℕ) → is_simple_name name ≡ true → lookup name own ≡ None) (set : Setting) (calls d : ℕ) (deep : 59 ≤ d) (names : List (List ℕ)) where
  abbrev at : simple.Heap → Heap
  at = heap_with own prototype rest

  abbrev Follow : simple.Tree → Tree → Type 0
  Follow = Follows own prototype rest

  -- what comes after a part by both rules
  abbrev pub GoesOn : {A : Type 0} → A → (Unit {0} → simple.Heap → simple.Tree) → (A → Heap → Tree) → Type 0
  GoesOn a ks k = (vs : simple.Heap) → IsReady names vs → Follow (ks tt vs) (k a (at vs))

  declarator_follows : (place : Place) (name : List ℕ) (init : Option Expr) (vs : simple.Heap) (ks : Unit {0} → simple.Heap → simple.Tree) (k : Unit {0} → Heap → Tree) (r : Value → Heap → Tree)
      → is_simple_name name ≡ true → is_simple_init init ≡ true → is_among names name ≡ true → list_all (is_among names) (names_in_init init) ≡ true → IsReady names vs → GoesOn tt ks k
      → Follow (rules.declarator_rule name init vs ks) (FF.declarator_rule (ev_of set (within set d) calls) (global_context false) place name init (at vs) k r)
  unfolding rules.declarator_rule FF.declarator_rule
  declarator_follows place name None vs ks k r named short declared known ready after = after vs ready
  declarator_follows place name (Some e) vs ks k r named short declared known ready after =
      let s = site (ev_of set (within set d) calls) place in
      let there = found name vs (simple.lookup name vs) refl (among_all (is_bound vs) names name declared ready.0) in
      let few = short_few (sum_in e) (in_expr e) (all_fit (in_expr e) e (omega arith)) short in
      rw (resolved own prototype rest free s name named vs there.0 there.1 (λ a h. (within set d calls).expr (global_context false) e h (λ v h. put_value s a v h k r) r) r)
      (evaluates own prototype rest free set calls d e vs (λ p vs. ks tt (simple.put name p vs)) (λ v h. put_value s (NameReference name OnGlobal false) v h k r) r (omega (arith, few, deep)) (short_sum (sum_in e) short) (all_among (is_bound vs) names (names_in e) known ready.0) ready.1
      (λ p plain. rw (written own prototype rest free s name named vs there.0 p there.1 k r) (after (simple.put name p vs) (ready_put names name p vs plain ready))))

  declarators_follow : (place : Place) (ds : List Declarator) (vs : simple.Heap) (ks : Unit {0} → simple.Heap → simple.Tree) (k : Unit {0} → Heap → Tree) (r : Value → Heap → Tree)
      → list_all (is_among_declared names) ds ≡ true → IsReady names vs → GoesOn tt ks k
      → Follow (rules.declarators_rule ds vs ks) (FF.declarators (ev_of set (within set d) calls) (global_context false) place ds (at vs) k r)
  declarators_follow place [] vs ks k r all ready after = after vs ready
  declarators_follow place (x ∷ ds) vs ks k r all ready after =
      let parts = and_parts (is_among_declared names x) (list_all (is_among_declared names) ds) all in
      let this = and_parts (is_simple_declarator x) (is_among names x.name && list_all (is_among names) (names_in_init x.init)) parts.0 in
      let form = and_parts (is_simple_name x.name) (is_simple_init x.init) this.0 in
      let known = and_parts (is_among names x.name) (list_all (is_among names) (names_in_init x.init)) this.1 in
      declarator_follows place x.name x.init vs (λ _ vs. rules.declarators_rule ds vs ks) (λ _ h. FF.declarators (ev_of set (within set d) calls) (global_context false) place ds h k r) r form.0 form.1 known.0 known.1 ready
      (λ vs ready. declarators_follow place ds vs ks k r parts.1 ready after)

  form_follows : (place : Place) (l : StmtForm-F StmtForm Case Catch Finally Stmt) (vs : simple.Heap) (ks : Unit {0} → simple.Heap → simple.Tree) (k : Completion → Heap → Tree) (r : Value → Heap → Tree)
      → is_simple_form l ≡ true → list_all (is_among_declared names) (declarators_in l) ≡ true → IsReady names vs → GoesOn Normal ks k
      → Follow (rules.statement_rule l vs ks) (stmt_rule (ev_of set (within set d) calls) (global_context false) place l (at vs) k r)
  unfolding stmt_rule FF.var_rule
  form_follows place (StmtForm-F.Var ds) vs ks k r form all ready after = declarators_follow place ds vs ks (λ _ h. k Normal h) r all ready after
  form_follows place _ vs ks k r form all ready after = cc

  pub statements_follow : (ss : List Stmt) (vs : simple.Heap) (ks : Unit {0} → simple.Heap → simple.Tree) (k : Completion → Heap → Tree) (r : Value → Heap → Tree)
      → list_all is_simple_statement ss ≡ true → list_all (are_among_declared names) ss ≡ true → IsReady names vs → GoesOn Normal ks k
      → Follow (rules.in_turn rules.statement ss vs ks) (statements ((within set (suc d) calls).stmt (global_context false)) ss (at vs) k r)
  unfolding statements
  statements_follow [] vs ks k r simple_ones all ready after = after vs ready
  statements_follow (s ∷ ss) vs ks k r simple_ones all ready after =
      let forms = and_parts (is_simple_statement s) (list_all is_simple_statement ss) simple_ones in
      let parts = and_parts (are_among_declared names s) (list_all (are_among_declared names) ss) all in
      let next = statements ((within set (suc d) calls).stmt (global_context false)) ss in
      let k' : Completion → Heap → Tree = λ completion h. FF.if_normal next completion h k r in
      follows own prototype rest _ (simple.Step s.at (rules.statement_rule (out-StmtForm s.form) vs (λ _ vs. rules.in_turn rules.statement ss vs ks))) _ (Step s.at (stmt_rule (ev_of set (within set d) calls) (global_context false) s.at (out-StmtForm s.form) (at vs) k' r))
      refl (at_stmt set d calls (global_context false) s (at vs) k' r)
      (_, refl, form_follows s.at (out-StmtForm s.form) vs (λ _ vs. rules.in_turn rules.statement ss vs ks) k' r forms.0 parts.0 ready (λ vs ready. statements_follow ss vs ks k r forms.1 parts.1 ready after))
