-- A sum is evaluated by the rules of the whole language as by those of simple scripts.
use Rattle.std.proofs.Common.{◌≡◌, ℕ, zero, suc, pos, ◌+◌, ◌*◌, ◌≤◌, Bool, true, false, List, [], ◌++◌, refl, ap, sym, ◌∙◌, arith}
use Rattle.std.specs.Prelude.{ℤ, if◌then◌else◌, ◌||◌, Option, Some, None, is_some, Result, Ok, Err}
use Rattle.std.specs.List.{list_all}
use Rattle.std.proofs.lemmas.Bool.{and_parts}
use Rattle.std.proofs.lemmas.List.Folds.{list_all-append}
use Rattle.js_value.specs.Conversions as V
use Rattle.js_value.specs.Conversions.{◌>>=◌}
use Rattle.js_value.specs.Operators as W
use Rattle.js_value.specs.Numbers.{added, subtracted, negated}
use Rattle.js_value.specs.declared.operator.BinaryOp.{BinaryOp}
use Rattle.js_value.specs.declared.operator.BinaryOp.TheVariants as binary
use Rattle.js_value.specs.declared.operator.UnaryOp.{UnaryOp}
use Rattle.js_value.specs.declared.operator.UnaryOp.TheVariants as unary
use Rattle.js_value.specs.declared.place.Place.{Place}
use Rattle.js_value.specs.declared.primitive.Primitive.{Primitive}
use Rattle.js_value.specs.declared.primitive.Primitive.TheVariants as primitive
use Rattle.js_value.specs.declared.why.Why.{Why}
use Rattle.js_tree.specs.Count.{of_form, of_field, of_expr, in_expr}
use Rattle.simple_scripts.specs.Simple.{names_in, names_in_form}
use Rattle.simple_scripts.specs.SimpleScripts.{Sum, NoSum, LiteralAlone, Terms, joined, negative, sum_form, sum_in}
use Rattle.simple_scripts.specs.SimpleNames.{is_simple_name}
use Rattle.js_tree.specs.declared.expression.Expr.{Expr}
use Rattle.js_tree.specs.declared.expression.Field.{Field}
use Rattle.js_tree.specs.declared.expression.ExprForm.{ExprForm, out-ExprForm}
use Rattle.js_tree.specs.declared.expression.ExprForm.TheOpen.{ExprForm-F, Field-F, Expr-F}
use Rattle.js_tree.specs.declared.expression.ExprForm.TheFolds.{map-ExprForm, fold-ExprForm, fold-Field, fold-Expr}
use Rattle.js_tree.proofs.Folds.{fold-layer, fold-of_expr}
use Rattle.plain_heap.specs.Heap.{Heap, Properties, ObjectState, lookup}
use Rattle.plain_heap.specs.Values.{Value, Prim, ObjNo}
use Rattle.simple_runs.specs.Events as simple
use Rattle.simple_runs.specs.Simple as rules
use Rattle.js_machine.specs.Machine.Expressions as EE
use Rattle.js_machine.specs.Machine.Expressions.{Ev, site, binary_value, unary_value, expr_rule}
use Rattle.js_machine.specs.Machine.Levels.{Setting, within, ev_of}
use Rattle.js_machine.specs.Machine.References.{global_context, get_value}
use Rattle.js_machine.specs.Machine.Objects.{Site}
use Rattle.js_machine.specs.Machine.Operators as BB
use Rattle.js_machine.specs.Machine.Events.{Tree, Step, Stop, Leaves, End, or_leave}
use Rattle.simple_runs.proofs.GlobalNames.{heap_with, resolved, read}
use Rattle.js_machine.proofs.Opening.{at_expr}
use Rattle.simple_runs.proofs.Variables.{is_bound, is_plain, are_plain, plain_found}

-- ---- one layer of an expression

abbrev pub Layer : Type 0
Layer = ExprForm-F ExprForm Field Expr

module _ (A B C : Type 0) (form : ExprForm-F A B C → A) (field : Field-F A B C → B) (expr : Expr-F A B C → C) where
  abbrev pub at_layer : Layer → A
  at_layer l = form (map-ExprForm ExprForm Field Expr A B C (fold-ExprForm A B C form field expr) (fold-Field A B C form field expr) (fold-Expr A B C form field expr) l)

  pub by_layer : (e : Expr) (l : Layer) → out-ExprForm e.form ≡ l → fold-Expr A B C form field expr e ≡ expr (record { at = e.at; form = at_layer l })
  by_layer e l is = fold-of_expr A B C form field expr e ∙ ap (λ a. expr (record { at = e.at; form = a })) (fold-layer A B C form field expr e.form l is)

abbrev pub sum_at : Layer → Sum
sum_at = at_layer Sum (Unit {0}) Sum sum_form (λ f. tt) (λ e. e.form)

abbrev pub nodes_at : Layer → ℕ
nodes_at = at_layer ℕ ℕ ℕ of_form of_field of_expr

abbrev names_at : Layer → List (List ℕ)
names_at = at_layer (List (List ℕ)) (List (List ℕ)) (List (List ℕ)) names_in_form (λ f. []) (λ e. e.form)

abbrev run_at : Layer → Place → simple.Run Primitive
run_at = at_layer (Place → simple.Run Primitive) (Unit {0}) (simple.Run Primitive) rules.form_rule (λ f. tt) rules.expr_rule

-- ---- how many nodes a sum has: a literal one, others less than three for each term

abbrev pub Fits : Sum → ℕ → Type 0
Fits NoSum n = Unit {0}
Fits LiteralAlone n = n ≡ 1
Fits (Terms k) n = n + 1 ≤ 3 * k

abbrev AllFit : ℕ → Type 0
AllFit d = (e : Expr) → in_expr e ≤ d → Fits (sum_in e) (in_expr e)

fits_joined : (a b : Sum) (m n : ℕ) → Fits a m → Fits b n → Fits (joined a b) (m + n + 1)
fits_joined LiteralAlone LiteralAlone m n h k = omega (arith, h, k)
fits_joined LiteralAlone (Terms q) m n h k = omega (arith, h, k)
fits_joined (Terms p) LiteralAlone m n h k = omega (arith, h, k)
fits_joined (Terms p) (Terms q) m n h k = omega (arith, h, k)
fits_joined NoSum b m n h k = tt
fits_joined a NoSum m n h k = tt

fits_binary : (op : BinaryOp) (a b : Sum) (m n : ℕ) → Fits a m → Fits b n → Fits (sum_form (ExprForm-F.Binary op a b)) (m + n + 1)
fits_binary binary.Add a b m n h k = fits_joined a b m n h k
fits_binary binary.Sub a b m n h k = fits_joined a b m n h k
fits_binary op a b m n h k = tt

fits_unary : (op : UnaryOp) (a : Sum) (m : ℕ) → Fits a m → Fits (sum_form (ExprForm-F.Unary op a)) (m + 1)
fits_unary unary.Minus LiteralAlone m h = omega (arith, h)
fits_unary unary.Minus a m h = tt
fits_unary op a m h = tt

fits_literal : (value : Primitive) → Fits (sum_form (ExprForm-F.Literal value)) 1
fits_literal (primitive.Number (pos n)) = grind (arith)
fits_literal _ = tt

fits_name : (b : Bool) → Fits (if b then Terms 1 else NoSum) 1
fits_name true = omega arith
fits_name false = tt

fits_layer : (d : ℕ) → AllFit d → (l : Layer) → nodes_at l ≤ d → Fits (sum_at l) (nodes_at l + 1)
fits_layer d below (ExprForm-F.Literal value) few = fits_literal value
fits_layer d below (ExprForm-F.Name name) few = fits_name (is_simple_name name)
fits_layer d below (ExprForm-F.Unary op a) few = fits_unary op (sum_in a) (in_expr a) (below a few)
fits_layer d below (ExprForm-F.Binary op a b) few = fits_binary op (sum_in a) (sum_in b) (in_expr a) (in_expr b) (below a (omega (arith, few))) (below b (omega (arith, few)))
fits_layer d below _ few = tt

pub sum_is : (e : Expr) (l : Layer) → out-ExprForm e.form ≡ l → sum_in e ≡ sum_at l
sum_is = by_layer Sum (Unit {0}) Sum sum_form (λ f. tt) (λ e. e.form)

pub nodes_are : (e : Expr) (l : Layer) → out-ExprForm e.form ≡ l → in_expr e ≡ nodes_at l + 1
nodes_are = by_layer ℕ ℕ ℕ of_form of_field of_expr

names_are : (e : Expr) (l : Layer) → out-ExprForm e.form ≡ l → names_in e ≡ names_at l
names_are = by_layer (List (List ℕ)) (List (List ℕ)) (List (List ℕ)) names_in_form (λ f. []) (λ e. e.form)

run_is : (e : Expr) (l : Layer) → out-ExprForm e.form ≡ l → rules.evaluation e ≡ simple.step e.at (run_at l e.at)
run_is = by_layer (Place → simple.Run Primitive) (Unit {0}) (simple.Run Primitive) rules.form_rule (λ f. tt) rules.expr_rule

pub all_fit : (d : ℕ) → AllFit d
all_fit zero e few = let is = nodes_are e (out-ExprForm e.form) refl in absurd (omega (arith, is, few))
all_fit (suc d) e few =
    let is = nodes_are e (out-ExprForm e.form) refl in
    rw (sum_is e (out-ExprForm e.form) refl, is) (fits_layer d (all_fit d) (out-ExprForm e.form) (omega (arith, is, few)))

abbrev pub is_sum : Sum → Bool
is_sum NoSum = false
is_sum _ = true

pub joined_parts : (a b : Sum) → is_sum (joined a b) ≡ true → (is_sum a ≡ true) × (is_sum b ≡ true)
joined_parts LiteralAlone LiteralAlone h = (h, h)
joined_parts LiteralAlone (Terms n) h = (h, h)
joined_parts (Terms m) LiteralAlone h = (h, h)
joined_parts (Terms m) (Terms n) h = (h, h)
joined_parts NoSum b h = cc
joined_parts a NoSum h = cc

pub negative_part : (a : Sum) → is_sum (negative a) ≡ true → is_sum a ≡ true
negative_part LiteralAlone h = refl
negative_part a h = cc

pub name_is_simple : (b : Bool) → is_sum (if b then Terms 1 else NoSum) ≡ true → b ≡ true
name_is_simple true h = refl
name_is_simple false h = h

no_text : (p q : Primitive) → is_plain p ≡ true → is_plain q ≡ true → (W.is_text p || W.is_text q) ≡ false
no_text (primitive.Text t) q plain plain' = cc
no_text p (primitive.Text t) plain plain' = cc
no_text p q plain plain' = refl

-- ---- the events

abbrev numbered : Result ℤ Why → W.Entry
numbered n = do
  x ← n
  Ok (primitive.Number x)

module _ (own : Properties) (prototype : Option ObjNo) (rest : List ObjectState) where
  abbrev at : simple.Heap → Heap
  at = heap_with own prototype rest

  -- the events by the rules of the whole language are those by the rules of simple scripts, in which no rule is missing
  abbrev pub Follows : simple.Tree → Tree → Type 0
  Follows (simple.Step place t) u = (more : Tree) × (u ≡ Step place more) × Follows t more
  Follows (simple.Leave why place) u = u ≡ Stop (Leaves why) place
  Follows (simple.End vs) u = u ≡ End (at vs)
  Follows simple.NoRule u = ⊥

  pub follows : (t t' : simple.Tree) (u u' : Tree) → t ≡ t' → u ≡ u' → Follows t' u' → Follows t u
  follows t t' u u' t_is u_is f = rw (t_is, u_is) f

  -- what comes after a value by both rules
  abbrev pub Continues : simple.Heap → (Primitive → simple.Heap → simple.Tree) → (Value → Heap → Tree) → Type 0
  Continues vs ks k = (p : Primitive) → is_plain p ≡ true → Follows (ks p vs) (k (Prim p) (at vs))

  module _ (vs : simple.Heap) (ks : Primitive → simple.Heap → simple.Tree) (k r : Value → Heap → Tree) (after : Continues vs ks k) where
    result : (place : Place) (n : Result ℤ Why) → Follows (simple.or_leave place n vs ks) (or_leave place (BB.result_map Prim (numbered n)) (at vs) k r)
    result place (Ok n) = after (primitive.Number n) refl
    result place (Err why) = refl

    negation_follows : (place : Place) (p : Primitive) → is_plain p ≡ true → Follows (rules.negation place p vs ks) (unary_value place unary.Minus (Prim p) (at vs) k r)
    unfolding W.unary_row BB.operate_one V.to_number
    negation_follows place primitive.Undefined plain = refl
    negation_follows place (primitive.Number n) plain = result place (negated n)
    negation_follows place p plain = cc

    arithmetic_follows : (place : Place) (op : ℤ → ℤ → Result ℤ Why) (p q : Primitive) → is_plain p ≡ true → is_plain q ≡ true
        → Follows (rules.arithmetic place op p q vs ks) (or_leave place (BB.result_map Prim (W.numeric op p q)) (at vs) k r)
    unfolding V.to_number
    arithmetic_follows place op primitive.Undefined q plain plain' = refl
    arithmetic_follows place op (primitive.Number m) primitive.Undefined plain plain' = refl
    arithmetic_follows place op (primitive.Number m) (primitive.Number n) plain plain' = result place (op m n)
    arithmetic_follows place op p q plain plain' = cc

    sum_follows : (s : Site) (p q : Primitive) → is_plain p ≡ true → is_plain q ≡ true → Follows (rules.arithmetic s.at added p q vs ks) (binary_value s binary.Add (Prim p) (Prim q) (at vs) k r)
    unfolding W.binary_row W.add BB.operate
    sum_follows s p q plain plain' = rw (no_text p q plain plain') (arithmetic_follows s.at added p q plain plain')

    difference_follows : (s : Site) (p q : Primitive) → is_plain p ≡ true → is_plain q ≡ true → Follows (rules.arithmetic s.at subtracted p q vs ks) (binary_value s binary.Sub (Prim p) (Prim q) (at vs) k r)
    unfolding W.binary_row BB.operate
    difference_follows s p q plain plain' = arithmetic_follows s.at subtracted p q plain plain'

  module _ (free : (name : List ℕ) → is_simple_name name ≡ true → lookup name own ≡ None) (set : Setting) (calls : ℕ) where
    name_follows : (ev : Ev) (place : Place) (name : List ℕ) (vs : simple.Heap) (ks : Primitive → simple.Heap → simple.Tree) (k r : Value → Heap → Tree) (found : Option Primitive)
        → simple.lookup name vs ≡ found → is_simple_name name ≡ true → is_some found ≡ true → are_plain vs ≡ true → Continues vs ks k
        → Follows (simple.or_no_rule found vs ks) (EE.name_rule ev (global_context false) place name (at vs) k r)
    unfolding EE.name_rule
    name_follows ev place name vs ks k r None is simple_name bound plain after = cc
    name_follows ev place name vs ks k r (Some p) is simple_name bound plain after =
        rw (resolved own prototype rest free (site ev place) name simple_name vs p is (λ a s. get_value (site ev place) a s k r) r, read own prototype rest free (site ev place) name simple_name vs p is k r) (after p (plain_found name p vs plain is))

    -- where so many nodes more may be active as the sum has
    abbrev pub Evaluates : ℕ → Type 0
    Evaluates d = (e : Expr) (vs : simple.Heap) (ks : Primitive → simple.Heap → simple.Tree) (k r : Value → Heap → Tree)
        → in_expr e ≤ d → is_sum (sum_in e) ≡ true → list_all (is_bound vs) (names_in e) ≡ true → are_plain vs ≡ true → Continues vs ks k
        → Follows (rules.evaluation e vs ks) ((within set d calls).expr (global_context false) e (at vs) k r)

    operands_follow : (d : ℕ) → Evaluates d → (a b : Expr) (vs : simple.Heap) (ks : Primitive → Primitive → simple.Heap → simple.Tree) (k : Value → Value → Heap → Tree) (r : Value → Heap → Tree)
        → in_expr a + in_expr b ≤ d → is_sum (joined (sum_in a) (sum_in b)) ≡ true → list_all (is_bound vs) (names_in a ++ names_in b) ≡ true → are_plain vs ≡ true
        → ((p q : Primitive) → is_plain p ≡ true → is_plain q ≡ true → Follows (ks p q vs) (k (Prim p) (Prim q) (at vs)))
        → Follows (rules.evaluation a vs (λ p vs. rules.evaluation b vs (ks p))) ((within set d calls).expr (global_context false) a (at vs) (λ v h. (within set d calls).expr (global_context false) b h (k v) r) r)
    operands_follow d below a b vs ks k r few sums known plain after =
        let parts = joined_parts (sum_in a) (sum_in b) sums in
        let names = and_parts (list_all (is_bound vs) (names_in a)) (list_all (is_bound vs) (names_in b)) (sym (list_all-append (is_bound vs) (names_in a) (names_in b)) ∙ known) in
        below a vs (λ p vs. rules.evaluation b vs (ks p)) (λ v h. (within set d calls).expr (global_context false) b h (k v) r) r (omega (arith, few)) parts.0 names.0 plain
        (λ p plain_p. below b vs (ks p) (k (Prim p)) r (omega (arith, few)) parts.1 names.1 plain (λ q plain_q. after p q plain_p plain_q))

    layer_follows : (d : ℕ) → Evaluates d → (place : Place) (l : Layer) (vs : simple.Heap) (ks : Primitive → simple.Heap → simple.Tree) (k r : Value → Heap → Tree)
        → nodes_at l ≤ d → is_sum (sum_at l) ≡ true → list_all (is_bound vs) (names_at l) ≡ true → are_plain vs ≡ true → Continues vs ks k
        → Follows (run_at l place vs ks) (expr_rule (ev_of set (within set d) calls) (global_context false) place l (at vs) k r)
    unfolding expr_rule EE.unary_rule EE.binary_rule rules.minus_rule rules.add_rule rules.subtract_rule rules.name_rule
    layer_follows d below place (ExprForm-F.Literal (primitive.Number n)) vs ks k r few sums known plain after = after (primitive.Number n) refl
    layer_follows d below place (ExprForm-F.Name name) vs ks k r few sums known plain after =
        name_follows (ev_of set (within set d) calls) place name vs ks k r (simple.lookup name vs) refl (name_is_simple (is_simple_name name) sums) (and_parts (is_bound vs name) true known).0 plain after
    layer_follows d below place (ExprForm-F.Unary unary.Minus a) vs ks k r few sums known plain after =
        below a vs (λ p vs. rules.negation place p vs ks) (λ v h. unary_value place unary.Minus v h k r) r few (negative_part (sum_in a) sums) known plain (negation_follows vs ks k r after place)
    layer_follows d below place (ExprForm-F.Binary binary.Add a b) vs ks k r few sums known plain after =
        operands_follow d below a b vs (λ p q vs. rules.arithmetic place added p q vs ks) (λ v w h. binary_value (site (ev_of set (within set d) calls) place) binary.Add v w h k r) r few sums known plain
        (sum_follows vs ks k r after (site (ev_of set (within set d) calls) place))
    layer_follows d below place (ExprForm-F.Binary binary.Sub a b) vs ks k r few sums known plain after =
        operands_follow d below a b vs (λ p q vs. rules.arithmetic place subtracted p q vs ks) (λ v w h. binary_value (site (ev_of set (within set d) calls) place) binary.Sub v w h k r) r few sums known plain
        (difference_follows vs ks k r after (site (ev_of set (within set d) calls) place))
    layer_follows d below place _ vs ks k r few sums known plain after = cc

    pub evaluates : (d : ℕ) → Evaluates d
    evaluates zero e vs ks k r few sums known plain after = let is = nodes_are e (out-ExprForm e.form) refl in absurd (omega (arith, is, few))
    evaluates (suc d) e vs ks k r few sums known plain after =
        let l = out-ExprForm e.form in
        let is = nodes_are e l refl in
        follows (rules.evaluation e vs ks) (simple.Step e.at (run_at l e.at vs ks)) _ (Step e.at (expr_rule (ev_of set (within set d) calls) (global_context false) e.at l (at vs) k r))
        (ap (λ (m : simple.Run Primitive). m vs ks) (run_is e l refl)) (at_expr set d calls (global_context false) e (at vs) k r)
        (_, refl, layer_follows d (evaluates d) e.at l vs ks k r (omega (arith, is, few)) (ap is_sum (sym (sum_is e l refl)) ∙ sums) (ap (list_all (is_bound vs)) (sym (names_are e l refl)) ∙ known) plain after)
