-- Expressions that are sums have no more nodes than tokens.
use Rattle.std.proofs.Common.{◌≡◌, ℕ, ◌+◌, ◌≤◌, Bool, true, List, [], refl, subst, arith}
use Rattle.std.specs.Prelude.{Option, ◌&&◌}
use Rattle.js_value.specs.declared.place.Place.{Place}
use Rattle.js_value.specs.declared.operator.BinaryOp.{BinaryOp}
use Rattle.js_tree.specs.declared.expression.Expr.{Expr}
use Rattle.js_tree.specs.declared.expression.Field.{Field}
use Rattle.js_tree.specs.declared.expression.ExprForm.{ExprForm, out-ExprForm}
use Rattle.js_tree.specs.declared.expression.ExprForm.TheOpen.{ExprForm-F}
use Rattle.js_tree.specs.declared.expression.ExprForm.TheVariants as e
use Rattle.js_value.specs.declared.operator.UnaryOp.{UnaryOp}
use Rattle.js_tree.specs.declared.refusal.ReadRefused.TheVariants.{Syntax, Unsupported}
use Rattle.js_tree.specs.declared.expression.StepOp.{StepOp}
use Rattle.js_tree.specs.declared.expression.LogicOp.{LogicOp}
use Rattle.js_tree.specs.declared.token.TokenForm.{TokenForm}
use Rattle.js_tree.specs.declared.refusal.Feature.TheVariants as feature
use Rattle.simple_scripts.specs.SimpleScripts.{NoSum, sum_in}
use Rattle.js_grammar.specs.Rest.{Reading, ◌>>=◌, ◌>>◌, give, part, on_later_line, begins_line, finish, next, expect, repeat}
use Rattle.js_grammar.specs.Marks
use Rattle.js_grammar.specs.Functions.{Grammar, function_expression}
use Rattle.js_grammar.specs.Operators
use Rattle.js_grammar.specs.Primary as P
use Rattle.js_grammar.specs.Expressions as E
use Rattle.script_reader.proofs.Claims.{Still, Ends, bind, any, past, weaker, gives, refuses, misses, still, here_still, sees_still, look, chooses, bars, takes, takes_form, opens, finishes, repeats, some_weight}
use Rattle.script_reader.proofs.SumNodes.{node, layer_sum, Costs, Grows, stops, none, none_costs, none_grows, binary_grows, unary_costs, literal_costs, name_costs, lighter, grown}

pub later_still : Still on_later_line
later_still = still (λ s. begins_line s.tokens)

postfix_still : Still E.behind_postfix
postfix_still = still (λ s. E.is_postfix s.last)

pub expects : {A : Type 0} {w : ℕ} (want : TokenForm → Option A) → Ends w (expect want) (λ _ v. v + 1 ≤ w)
expects want = takes want (λ a v le. gives a le) misses

-- a finished part that is no sum
pub other : {w v : ℕ} (at : Place) (f : ExprForm) (l : ExprForm-F ExprForm Field Expr) → out-ExprForm f ≡ l → layer_sum l ≡ NoSum → Ends v (finish at f) (Costs w)
other {w = w} {v = v} at f l is nothing = finishes at f (none_costs w v (node at f) (none at f l is nothing))

-- it goes on with another
pub other_again : (w : ℕ) {v : ℕ} (left : Expr) {m : Expr → Reading Expr} (at : Place) (f : ExprForm) (l : ExprForm-F ExprForm Field Expr) → out-ExprForm f ≡ l → layer_sum l ≡ NoSum
    → ((a : Expr) (w : ℕ) → Ends w (m a) (Grows w a)) → Ends v (finish at f >>= m) (Grows w left)
other_again w left at f l is nothing again =
    bind (λ b u. sum_in b ≡ NoSum) (finishes at f (none at f l is nothing)) (λ b u empty. weaker (Grows u b) (λ x z. none_grows w u z left b x empty) (again b u))

pub other_then : (w : ℕ) {v : ℕ} (left : Expr) {n : Reading Expr} {m : Expr → Reading Expr} → Ends v n (λ b u. sum_in b ≡ NoSum)
    → ((a : Expr) (w : ℕ) → Ends w (m a) (Grows w a)) → Ends v (n >>= m) (Grows w left)
other_then w left h again = bind (λ b u. sum_in b ≡ NoSum) h (λ b u empty. weaker (Grows u b) (λ x z. none_grows w u z left b x empty) (again b u))

pub record Few (g : Grammar) : Type 0 where
  pub assignment : (allows_in : Bool) (w : ℕ) → Ends w (g.assignment allows_in) (Costs w)
  pub unary : (w : ℕ) → Ends w g.unary (Costs w)

module _ (g : Grammar) (few : Few g) where
  commas : (allows_in : Bool) (m : Expr → Reading Expr) → ((a : Expr) (w : ℕ) → Ends w (m a) (Grows w a)) → (left : Expr) (w : ℕ) → Ends w (P.more_commas g allows_in m left) (Grows w left)
  commas allows_in m again left w =
      takes Marks.comma (λ _ v le. any _ (λ right u. other_again w left left.at (e.Comma left right) (ExprForm-F.Comma left right) (e.outs-Comma left right) refl again)) (gives left (stops w left))

  pub expression_by_costs : (first : Reading Expr) (allows_in : Bool) → ((w : ℕ) → Ends w first (Costs w)) → (w : ℕ) → Ends w (P.expression_by g first allows_in) (Costs w)
  unfolding P.expression_by
  expression_by_costs first allows_in h w = bind (Costs w) (h w) (λ left v c. weaker (Grows v left) (λ x z. grown w v z left x c) (repeats Grows (commas allows_in) left v))

  expression_costs : (w : ℕ) → Ends w (P.expression g) (Costs w)
  expression_costs w = expression_by_costs (g.assignment true) true (few.assignment true) w

  group_costs : {w : ℕ} (v : ℕ) → v + 1 ≤ w → Ends v (P.group_behind g) (Costs w)
  unfolding P.group_behind
  group_costs {w = w} v le =
      opens (bind (Costs v) (expression_costs v) (λ x u c. bind (λ _ z. z + 1 ≤ u) (expects Marks.right_parenthesis) (λ _ z less. gives x (lighter w u v z x (omega (arith, le)) (omega (arith, less)) c))))

  abstract_costs : {w v : ℕ} (at : Place) → Ends v (P.abstract_behind at) (Costs w)
  unfolding P.abstract_behind
  abstract_costs at =
      past (P.in_shape at feature.AbstractForm Marks.left_parenthesis) (λ _. opens (any (P.in_shape at feature.AbstractForm Marks.kind_string) (λ kind _. past (P.in_shape at feature.AbstractForm Marks.comma) (λ _.
      any (P.in_shape at feature.AbstractForm Marks.string) (λ name _. past (P.in_shape at feature.AbstractForm Marks.right_parenthesis) (λ _. other at (e.Input kind name) (ExprForm-F.Input kind name) (e.outs-Input kind name) refl))))))

  residual_costs : {w v : ℕ} (at : Place) → Ends v (P.residual_behind g at) (Costs w)
  unfolding P.residual_behind
  residual_costs at =
      past (P.in_shape at feature.ResidualForm Marks.left_parenthesis) (λ _. opens (any (P.in_shape at feature.ResidualForm Marks.kind_string) (λ kind _. past (P.in_shape at feature.ResidualForm Marks.comma) (λ _.
      any (P.in_shape at feature.ResidualForm Marks.string) (λ name _. any (repeat (P.more_host_arguments g at) []) (λ args _. other at (e.HostCall kind name args) (ExprForm-F.HostCall kind name args) (e.outs-HostCall kind name args) refl))))))

  array_costs : {w v : ℕ} (at : Place) → Ends v (P.array_behind g at) (Costs w)
  unfolding P.array_behind
  array_costs at = any _ (λ items _. other at (e.ArrayLit items) (ExprForm-F.ArrayLit items) (e.outs-ArrayLit items) refl)

  object_costs : {w v : ℕ} (at : Place) → Ends v (P.object_behind g at) (Costs w)
  unfolding P.object_behind
  object_costs at = any _ (λ fields _. other at (e.ObjectLit fields) (ExprForm-F.ObjectLit fields) (e.outs-ObjectLit fields) refl)

  new_costs : {w v : ℕ} (at : Place) → Ends v (P.new_behind g at) (Costs w)
  unfolding P.new_behind
  new_costs at = any g.member (λ callee _. any (next Marks.left_parenthesis (λ _. P.arguments_behind g) (give [])) (λ args _. other at (e.New callee args) (ExprForm-F.New callee args) (e.outs-New callee args) refl))

  enclosed_costs : (w : ℕ) (at start : Place) → Ends w (P.enclosed_or_new g at (P.new_behind g start)) (Costs w)
  unfolding P.enclosed_or_new P.new_or_none
  enclosed_costs w at start =
      takes Marks.left_bracket (λ _ v le. array_costs at) (takes Marks.left_brace (λ _ v le. object_costs at) (takes Marks.left_parenthesis (λ _ v le. group_costs v le)
      (takes Marks.new_word (λ _ v le. new_costs start) (takes Operators.regular_expression (λ _ v le. refuses _) misses))))

  named_costs : (w v : ℕ) (at : Place) (text : List ℕ) → v + 1 ≤ w → Ends v (P.named_behind g at text) (Costs w)
  named_costs w v at text le =
      chooses (Marks.is_abstract text) (abstract_costs at)
      (chooses (Marks.is_residual text) (residual_costs at) (bars at (Marks.barred text) (finishes at (e.Name text) (name_costs w v at text le))))

  function_costs : (w v : ℕ) (at : Place) → Ends v (P.function_here g at) (Costs w)
  function_costs w v at = any (function_expression g at) (λ f _. other at (e.Func f) (ExprForm-F.Func f) (e.outs-Func f) refl)

  primary_costs : (w : ℕ) (start : Place) → Ends w (P.primary_or_new g (P.new_behind g start)) (Costs w)
  primary_costs w start =
      look here_still (λ at. look (sees_still Marks.function_word) (λ function. chooses function (function_costs w w at)
      (takes_form Marks.literal (λ f t v is heavy. finishes at f (literal_costs t f w v at is (omega (arith, heavy, some_weight t))))
      (takes Marks.identifier {f = P.named_behind g at} (λ text v le. named_costs w v at text le)
      (enclosed_costs w at start)))))

  operand_costs : (w : ℕ) → Ends w (P.operand g) (Costs w)
  operand_costs w = look here_still (λ at. primary_costs w at)

  dotted : (v : ℕ) (left : Expr) → Ends v (P.dotted_behind g left) (λ x _. sum_in x ≡ NoSum)
  dotted v left = any (expect Marks.identifier_name) (λ key u. finishes left.at (e.Member left key) (none left.at (e.Member left key) (ExprForm-F.Member left key) (e.outs-Member left key) refl))

  indexed : (v : ℕ) (left : Expr) → Ends v (P.index_behind g left) (λ x _. sum_in x ≡ NoSum)
  indexed v left = any _ (λ key u. finishes left.at (e.Index left key) (none left.at (e.Index left key) (ExprForm-F.Index left key) (e.outs-Index left key) refl))

  called : (v : ℕ) (left : Expr) → Ends v (P.call_behind g left) (λ x _. sum_in x ≡ NoSum)
  called v left = any (P.arguments_behind g) (λ args u. finishes left.at (e.Call left args) (none left.at (e.Call left args) (ExprForm-F.Call left args) (e.outs-Call left args) refl))

  members : (calls : Bool) (m : Expr → Reading Expr) → ((a : Expr) (w : ℕ) → Ends w (m a) (Grows w a)) → (left : Expr) (w : ℕ) → Ends w (P.more_members g calls m left) (Grows w left)
  members calls m again left w =
      look (sees_still Marks.left_parenthesis) (λ opens. takes Marks.dot {f = λ _. P.dotted_behind g left >>= m} (λ _ v le. other_then w left (dotted v left) again)
      (takes Marks.left_bracket {f = λ _. P.index_behind g left >>= m} (λ _ v le. other_then w left (indexed v left) again)
      (chooses (calls && opens) (past (expect Marks.left_parenthesis) {n = P.call_behind g left >>= m} (λ v. other_then w left (called v left) again)) (gives left (stops w left)))))

  left_hand_side_costs : (w : ℕ) → Ends w (P.left_hand_side g) (Costs w)
  unfolding P.left_hand_side
  left_hand_side_costs w = bind (Costs w) (operand_costs w) (λ left v c. weaker (Grows v left) (λ x z. grown w v z left x c) (repeats Grows (members true) left v))

  targets : {A : Type 0} {w : ℕ} {Q : A → ℕ → Type 0} (x : Expr) {m : Reading A} → Ends w m Q → Ends w (E.if_target x m) Q
  targets x h = chooses (E.is_target x) h (refuses (Syntax x.at))

  postfix_costs : (w : ℕ) → Ends w (E.postfix g) (Costs w)
  unfolding E.postfix
  postfix_costs w =
      bind (Costs w) (left_hand_side_costs w) (λ x v c. look later_still (λ later. chooses later (gives x c)
      (takes Operators.postfix_operator {f = λ op. E.if_target x (finish x.at (e.Step op x))} (λ op u le. targets x (other x.at (e.Step op x) (ExprForm-F.Step op x) (e.outs-Step op x) refl)) (gives x c))))

  unary_step : (w : ℕ) (at : Place) (op : UnaryOp) (v : ℕ) → v + 1 ≤ w → Ends v (E.unary_behind g at op) (Costs w)
  unary_step w at op v le =
      bind (Costs v) (opens (few.unary v)) (λ x u c. chooses (E.is_delete g op && E.is_name x) (refuses (Unsupported at feature.DeleteName)) (finishes at (e.Unary op x) (unary_costs w v u at op x le c)))

  prefix_step : (w v : ℕ) (at : Place) (op : StepOp) → Ends v (E.step_behind g at op) (Costs w)
  prefix_step w v at op = any (part g.unary) (λ x u. targets x (other at (e.Step op x) (ExprForm-F.Step op x) (e.outs-Step op x) refl))

  pub unary_is_few : (w : ℕ) → Ends w (E.unary g) (Costs w)
  unfolding E.unary
  unary_is_few w =
      look here_still (λ at. takes Operators.unary_operator {f = E.unary_behind g at} (λ op v le. unary_step w at op v le)
      (takes Operators.prefix_step {f = E.step_behind g at} (λ op v le. prefix_step w v at op) (postfix_costs w)))

  binaries : (operator : TokenForm → Option BinaryOp) (tighter : Reading Expr) → ((w : ℕ) → Ends w tighter (Costs w))
      → (m : Expr → Reading Expr) → ((a : Expr) (w : ℕ) → Ends w (m a) (Grows w a)) → (left : Expr) (w : ℕ) → Ends w (E.more_binary g operator tighter m left) (Grows w left)
  binaries operator tighter t m again left w =
      takes operator (λ op u le. bind (Costs u) (t u) (λ right v c. bind (λ b z. (b ≡ node left.at (e.Binary op left right)) × (z ≡ v)) (finishes left.at (e.Binary op left right) (refl, refl)) (λ b z is.
      weaker (Grows z b) (λ x y grows. binary_grows w u v y left right x op le c (subst (λ both. Grows v both x y) is.0 (subst (λ n. Grows n b x y) is.1 grows))) (again b z)))) (gives left (stops w left))

  binary_level : (operator : TokenForm → Option BinaryOp) (tighter : Reading Expr) → ((w : ℕ) → Ends w tighter (Costs w)) → (w : ℕ) → Ends w (E.binary_level g operator tighter) (Costs w)
  binary_level operator tighter t w = bind (Costs w) (t w) (λ left v c. weaker (Grows v left) (λ x z. grown w v z left x c) (repeats Grows (binaries operator tighter t) left v))

  logics : (operator : TokenForm → Option LogicOp) (tighter : Reading Expr)
      → (m : Expr → Reading Expr) → ((a : Expr) (w : ℕ) → Ends w (m a) (Grows w a)) → (left : Expr) (w : ℕ) → Ends w (E.more_logic g operator tighter m left) (Grows w left)
  logics operator tighter m again left w =
      takes operator (λ op u le. any _ (λ right v. other_again w left left.at (e.Logic op left right) (ExprForm-F.Logic op left right) (e.outs-Logic op left right) refl again)) (gives left (stops w left))

  logic_level : (operator : TokenForm → Option LogicOp) (tighter : Reading Expr) → ((w : ℕ) → Ends w tighter (Costs w)) → (w : ℕ) → Ends w (E.logic_level g operator tighter) (Costs w)
  logic_level operator tighter t w = bind (Costs w) (t w) (λ left v c. weaker (Grows v left) (λ x z. grown w v z left x c) (repeats Grows (logics operator tighter) left v))

  logical_or_costs : (allows_in : Bool) (w : ℕ) → Ends w (E.logical_or g allows_in) (Costs w)
  unfolding E.logical_or E.logical_and E.bit_or E.bit_xor E.bit_and E.equality E.relational E.shift E.additive E.multiplicative
  logical_or_costs allows_in =
      logic_level Operators.or_operator _ (logic_level Operators.and_operator _
      (binary_level Operators.bit_or_operator _ (binary_level Operators.bit_xor_operator _ (binary_level Operators.bit_and_operator _
      (binary_level Operators.equality_operator _ (binary_level (E.relational_operator g allows_in) _ (binary_level Operators.shift_operator _
      (binary_level Operators.additive_operator _ (binary_level Operators.multiplicative_operator _ unary_is_few)))))))))

  branches : (w v : ℕ) (allows_in : Bool) (test : Expr) → Ends v (part (g.assignment true) >>= λ yes_part. expect Marks.colon >> (part (g.assignment allows_in) >>= λ no_part. finish test.at (e.Conditional test yes_part no_part))) (Costs w)
  branches w v allows_in test =
      any (part (g.assignment true)) (λ yes_part _. past (expect Marks.colon) (λ _. any (part (g.assignment allows_in)) (λ no_part _.
      other test.at (e.Conditional test yes_part no_part) (ExprForm-F.Conditional test yes_part no_part) (e.outs-Conditional test yes_part no_part) refl)))

  conditional_costs : (allows_in : Bool) (w : ℕ) → Ends w (E.conditional g allows_in) (Costs w)
  unfolding E.conditional
  conditional_costs allows_in w =
      bind (Costs w) (logical_or_costs allows_in w) (λ test v c. takes Marks.question
      {f = λ _. part (g.assignment true) >>= λ yes_part. expect Marks.colon >> (part (g.assignment allows_in) >>= λ no_part. finish test.at (e.Conditional test yes_part no_part))}
      (λ _ u le. branches w u allows_in test) (gives test c))

  assigned_costs : (w v : ℕ) (allows_in : Bool) (x : Expr) (op : Option BinaryOp) → Ends v (E.assigned g allows_in x op) (Costs w)
  assigned_costs w v allows_in x op =
      targets x (any (part (g.assignment allows_in)) (λ value _. other x.at (e.Assign x op value) (ExprForm-F.Assign x op value) (e.outs-Assign x op value) refl))

  pub assignment_is_few : (allows_in : Bool) (w : ℕ) → Ends w (E.assignment g allows_in) (Costs w)
  unfolding E.assignment
  assignment_is_few allows_in w =
      bind (Costs w) (conditional_costs allows_in w) (λ x v c. look later_still (λ later. look postfix_still (λ stepped. chooses (later && stepped) (gives x c)
      (takes Operators.assignment_operator {f = E.assigned g allows_in x} (λ op u le. assigned_costs w u allows_in x op) (gives x c)))))
