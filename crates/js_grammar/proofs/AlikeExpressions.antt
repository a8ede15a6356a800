-- Expressions from tight to loose do alike where what they refer to does.
use Rattle.std.proofs.Common.{ℕ, suc, Bool, true, false, refl, arith}
use Rattle.std.specs.Prelude.{◌&&◌, Option}
use Rattle.js_value.specs.declared.place.Place.{Place}
use Rattle.js_value.specs.declared.operator.BinaryOp.{BinaryOp}
use Rattle.js_value.specs.declared.operator.UnaryOp.{UnaryOp}
use Rattle.js_tree.specs.declared.expression.Expr.{Expr}
use Rattle.js_tree.specs.declared.expression.ExprForm.TheVariants as e
use Rattle.js_tree.specs.declared.expression.LogicOp.{LogicOp}
use Rattle.js_tree.specs.declared.expression.StepOp.{StepOp}
use Rattle.js_tree.specs.declared.refusal.ReadRefused.TheVariants.{Syntax}
use Rattle.js_tree.specs.declared.token.TokenForm.{TokenForm}
use Rattle.js_grammar.specs.Rest.{Reading, on_later_line, begins_line}
use Rattle.js_grammar.specs.Functions.{Grammar}
use Rattle.js_grammar.specs.Marks
use Rattle.js_grammar.specs.Operators
use Rattle.js_grammar.specs.Expressions as E
use Rattle.js_grammar.proofs.Alike.{steps, one_later, RuleAlike, Setting, Alike, later, taking, bind, bind_behind, gives, looks, refuses, chooses, takes, expects, opens, finishes, repeats}
use Rattle.js_grammar.proofs.AlikeParts.{Alikes, one_further, places, left_hand_side_too}

module _ (w : Setting) where
  pub lines_too : {i : ℕ} → Alike w false i on_later_line on_later_line
  lines_too = looks w (λ s. begins_line s.tokens) (λ s. refl)

  behind_postfix_too : {i : ℕ} → Alike w false i E.behind_postfix E.behind_postfix
  behind_postfix_too = looks w (λ s. E.is_postfix s.last) (λ s. refl)

  pub if_target_too : {A : Type 0} {i : ℕ} (x : Expr) {m n : Reading A} → Alike w false i m n → Alike w false i (E.if_target x m) (E.if_target x n)
  if_target_too x h = chooses w (E.is_target x) h (refuses w (Syntax x.at))

  -- ---- levels of operators grouped to the left

  pub more_binary_too : {i : ℕ} (operator : TokenForm → Option BinaryOp) {m n : Reading Expr} (g h : Grammar) → Alike w true i m n → RuleAlike w i (E.more_binary g operator m) (E.more_binary h operator n)
  more_binary_too operator g h t = record {
    at = λ k le m n again left. takes w operator (λ op. bind w (taking w (later w (omega (arith, le)) t)) (λ right.
        bind w (search steps) (λ both. again both))) (gives w left);
  }

  binary_too : {i : ℕ} (operator : TokenForm → Option BinaryOp) {m n : Reading Expr} (g h : Grammar) → Alike w true i m n → Alike w true i (E.binary_level g operator m) (E.binary_level h operator n)
  binary_too operator g h t = bind_behind w t (λ x. repeats w (more_binary_too operator g h (one_later w t)) x)

  pub more_logic_too : {i : ℕ} (operator : TokenForm → Option LogicOp) {m n : Reading Expr} (g h : Grammar) → Alike w true i m n → RuleAlike w i (E.more_logic g operator m) (E.more_logic h operator n)
  more_logic_too operator g h t = record {
    at = λ k le m n again left. takes w operator (λ op. bind w (taking w (later w (omega (arith, le)) t)) (λ right.
        bind w (search steps) (λ both. again both))) (gives w left);
  }

  logic_too : {i : ℕ} (operator : TokenForm → Option LogicOp) {m n : Reading Expr} (g h : Grammar) → Alike w true i m n → Alike w true i (E.logic_level g operator m) (E.logic_level h operator n)
  logic_too operator g h t = bind_behind w t (λ x. repeats w (more_logic_too operator g h (one_later w t)) x)

  module _ {g h : Grammar} where
    postfix_too : {i : ℕ} → Alikes w (suc i) g h → Alike w true i (E.postfix g) (E.postfix h)
    unfolding E.postfix
    postfix_too a = bind_behind w (left_hand_side_too w a) (λ x. bind w lines_too (λ is_later. chooses w is_later (gives w x)
        (takes w Operators.postfix_operator (λ op. if_target_too x (finishes w x.at (e.Step op x))) (gives w x))))

    unary_behind_too : {i : ℕ} (at : Place) (op : UnaryOp) → Alikes w i g h → Alike w true i (E.unary_behind g at op) (E.unary_behind h at op)
    unary_behind_too at op a = bind_behind w (opens w a.unary) (λ x. chooses w (E.is_delete g op && E.is_name x) (search steps) (search steps))

    step_behind_too : {i : ℕ} (at : Place) (op : StepOp) → Alikes w i g h → Alike w true i (E.step_behind g at op) (E.step_behind h at op)
    step_behind_too at op a = bind_behind w (opens w a.unary) (λ x. if_target_too x (search steps))

    pub unary_too : {i : ℕ} → Alikes w (suc i) g h → Alike w true i (E.unary g) (E.unary h)
    unfolding E.unary
    unary_too a = bind w (places w) (λ at. takes w Operators.unary_operator (λ op. taking w (unary_behind_too at op a))
        (takes w Operators.prefix_step (λ op. taking w (step_behind_too at op a)) (postfix_too a)))

    pub multiplicative_too : {i : ℕ} → Alikes w (suc i) g h → Alike w true i (E.multiplicative g) (E.multiplicative h)
    unfolding E.multiplicative
    multiplicative_too a = binary_too Operators.multiplicative_operator g h (unary_too a)

    pub additive_too : {i : ℕ} → Alikes w (suc i) g h → Alike w true i (E.additive g) (E.additive h)
    unfolding E.additive
    additive_too a = binary_too Operators.additive_operator g h (multiplicative_too a)

    pub shift_too : {i : ℕ} → Alikes w (suc i) g h → Alike w true i (E.shift g) (E.shift h)
    unfolding E.shift
    shift_too a = binary_too Operators.shift_operator g h (additive_too a)

    pub relational_too : {i : ℕ} → (allows_in : Bool) → Alikes w (suc i) g h → Alike w true i (E.relational g allows_in) (E.relational h allows_in)
    unfolding E.relational
    relational_too allows_in a = binary_too (E.relational_operator g allows_in) g h (shift_too a)

    pub equality_too : {i : ℕ} → (allows_in : Bool) → Alikes w (suc i) g h → Alike w true i (E.equality g allows_in) (E.equality h allows_in)
    unfolding E.equality
    equality_too allows_in a = binary_too Operators.equality_operator g h (relational_too allows_in a)

    pub bit_and_too : {i : ℕ} → (allows_in : Bool) → Alikes w (suc i) g h → Alike w true i (E.bit_and g allows_in) (E.bit_and h allows_in)
    unfolding E.bit_and
    bit_and_too allows_in a = binary_too Operators.bit_and_operator g h (equality_too allows_in a)

    pub bit_xor_too : {i : ℕ} → (allows_in : Bool) → Alikes w (suc i) g h → Alike w true i (E.bit_xor g allows_in) (E.bit_xor h allows_in)
    unfolding E.bit_xor
    bit_xor_too allows_in a = binary_too Operators.bit_xor_operator g h (bit_and_too allows_in a)

    pub bit_or_too : {i : ℕ} → (allows_in : Bool) → Alikes w (suc i) g h → Alike w true i (E.bit_or g allows_in) (E.bit_or h allows_in)
    unfolding E.bit_or
    bit_or_too allows_in a = binary_too Operators.bit_or_operator g h (bit_xor_too allows_in a)

    pub logical_and_too : {i : ℕ} → (allows_in : Bool) → Alikes w (suc i) g h → Alike w true i (E.logical_and g allows_in) (E.logical_and h allows_in)
    unfolding E.logical_and
    logical_and_too allows_in a = logic_too Operators.and_operator g h (bit_or_too allows_in a)

    pub logical_or_too : {i : ℕ} → (allows_in : Bool) → Alikes w (suc i) g h → Alike w true i (E.logical_or g allows_in) (E.logical_or h allows_in)
    unfolding E.logical_or
    logical_or_too allows_in a = logic_too Operators.or_operator g h (logical_and_too allows_in a)

    conditional_too : {i : ℕ} (allows_in : Bool) → Alikes w (suc i) g h → Alike w true i (E.conditional g allows_in) (E.conditional h allows_in)
    unfolding E.conditional
    conditional_too allows_in a = bind_behind w (logical_or_too allows_in a) (λ test.
        takes w Marks.question (λ _. bind w (opens w (taking w ((one_further w a).assignment true))) (λ yes_part. bind w (taking w (expects w Marks.colon)) (λ _.
        bind w (opens w (taking w ((one_further w a).assignment allows_in))) (λ no_part. search steps)))) (gives w test))

    pub assignment_too : {i : ℕ} (allows_in : Bool) → Alikes w (suc i) g h → Alike w true i (E.assignment g allows_in) (E.assignment h allows_in)
    unfolding E.assignment
    assignment_too allows_in a = bind_behind w (conditional_too allows_in a) (λ x. bind w lines_too (λ is_later. bind w behind_postfix_too (λ stepped.
        chooses w (is_later && stepped) (gives w x) (takes w Operators.assignment_operator (λ op. if_target_too x (bind w (opens w (taking w ((one_further w a).assignment allows_in))) (λ value. finishes w x.at (e.Assign x op value)))) (gives w x)))))
