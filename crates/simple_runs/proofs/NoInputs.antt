-- A simple script takes no input and makes no host call.
use Rattle.std.proofs.Common.{◌≡◌, ℕ, zero, suc, ◌+◌, ◌≤◌, Bool, true, List, [], ◌∷◌, ◌++◌, refl, ap, sym, ◌∙◌, arith}
use Rattle.std.specs.Prelude.{not, ◌&&◌, Option, Some, None}
use Rattle.std.specs.List.{list_all}
use Rattle.std.proofs.lemmas.Bool.{and_parts}
use Rattle.std.proofs.lemmas.List.Folds.{list_all-append}
use Rattle.js_value.specs.declared.operator.BinaryOp.{BinaryOp}
use Rattle.js_value.specs.declared.operator.BinaryOp.TheVariants as binary
use Rattle.js_value.specs.declared.operator.UnaryOp.{UnaryOp}
use Rattle.js_value.specs.declared.operator.UnaryOp.TheVariants as unary
use Rattle.js_value.specs.declared.place.FuncNo.{FuncNo}
use Rattle.js_value.specs.declared.place.Place.{Place}
use Rattle.js_tree.specs.Count.{in_expr}
use Rattle.js_tree.specs.Early.{is_closed}
use Rattle.js_tree.specs.Mentions as names
use Rattle.js_tree.specs.Mentions.{Mention, Mentioned, FieldMentions, joined, unbound, mentions}
use Rattle.simple_scripts.specs.Simple.{reads_declared}
use Rattle.simple_scripts.specs.SimpleScripts.{Sum, sum_form, sum_in, is_simple, is_simple_declarator, is_simple_form, is_simple_init, is_simple_statement}
use Rattle.js_tree.specs.Parts.{has_functions}
use Rattle.js_tree.specs.Weighed as forms
use Rattle.simple_scripts.specs.SimpleNames.{is_simple_name}
use Rattle.js_tree.specs.declared.expression.Expr.{Expr}
use Rattle.js_tree.specs.declared.expression.ExprForm.{out-ExprForm}
use Rattle.js_tree.specs.declared.expression.ExprForm.TheOpen.{ExprForm-F}
use Rattle.js_tree.specs.declared.statement.Case.{Case}
use Rattle.js_tree.specs.declared.statement.Catch.{Catch}
use Rattle.js_tree.specs.declared.statement.Declarator.{Declarator}
use Rattle.js_tree.specs.declared.statement.Finally.{Finally}
use Rattle.js_tree.specs.declared.statement.Func.{Func}
use Rattle.js_tree.specs.declared.statement.Script.{Script}
use Rattle.js_tree.specs.declared.statement.Stmt.{Stmt}
use Rattle.js_tree.specs.declared.statement.StmtForm.{StmtForm, out-StmtForm}
use Rattle.js_tree.specs.declared.statement.StmtForm.TheFolds.{fold_out-StmtForm, fold_out-Stmt}
use Rattle.js_tree.specs.declared.statement.StmtForm.TheOpen.{StmtForm-F}
use Rattle.js_machine.specs.Machine.Walks.{World}
use Rattle.js_machine.specs.Machine.Worlds.{is_given}
use Rattle.simple_runs.proofs.SimpleExpressions.{Layer, at_layer, by_layer, sum_at, nodes_at, sum_is, nodes_are, is_sum, joined_parts, negative_part}
use Rattle.simple_runs.proofs.SimpleStatements.{short_sum}

-- ---- the operands of a sum are sums

unary_part : (op : UnaryOp) (a : Sum) → is_sum (sum_form (ExprForm-F.Unary op a)) ≡ true → is_sum a ≡ true
unary_part unary.Minus a is = negative_part a is
unary_part op a is = cc

binary_parts : (op : BinaryOp) (a b : Sum) → is_sum (sum_form (ExprForm-F.Binary op a b)) ≡ true → (is_sum a ≡ true) × (is_sum b ≡ true)
binary_parts binary.Add a b is = joined_parts a b is
binary_parts binary.Sub a b is = joined_parts a b is
binary_parts op a b is = cc

-- ---- inputs and host calls

module _ (input host_call : ℕ) where
  abbrev forms_at : Layer → ℕ
  forms_at = at_layer ℕ ℕ ℕ (forms.of_form (record { node = 0; input = input; host_call = host_call })) (forms.of_field (record { node = 0; input = input; host_call = host_call })) (forms.of_expr (record { node = 0; input = input; host_call = host_call }))

  forms_are : (e : Expr) (l : Layer) → out-ExprForm e.form ≡ l → forms.in_expr (record { node = 0; input = input; host_call = host_call }) e ≡ forms_at l + 0
  forms_are = by_layer ℕ ℕ ℕ (forms.of_form (record { node = 0; input = input; host_call = host_call })) (forms.of_field (record { node = 0; input = input; host_call = host_call })) (forms.of_expr (record { node = 0; input = input; host_call = host_call }))

  abbrev NoneBelow : ℕ → Type 0
  NoneBelow d = (e : Expr) → in_expr e ≤ d → is_sum (sum_in e) ≡ true → forms.in_expr (record { node = 0; input = input; host_call = host_call }) e ≡ 0

  none_layer : (d : ℕ) → NoneBelow d → (l : Layer) → nodes_at l ≤ d → is_sum (sum_at l) ≡ true → forms_at l ≡ 0
  none_layer d below (ExprForm-F.Literal value) few is = refl
  none_layer d below (ExprForm-F.Name name) few is = refl
  none_layer d below (ExprForm-F.Unary op a) few is = below a few (unary_part op (sum_in a) is)
  none_layer d below (ExprForm-F.Binary op a b) few is =
      let parts = binary_parts op (sum_in a) (sum_in b) is in
      let left = below a (omega (arith, few)) parts.0 in
      let right = below b (omega (arith, few)) parts.1 in
      omega (arith, left, right)
  none_layer d below _ few is = cc

  none_in_expr : (d : ℕ) → NoneBelow d
  none_in_expr zero e few is = let nodes = nodes_are e (out-ExprForm e.form) refl in absurd (omega (arith, nodes, few))
  none_in_expr (suc d) e few is =
      let nodes = nodes_are e (out-ExprForm e.form) refl in
      let none = none_layer d (none_in_expr d) (out-ExprForm e.form) (omega (arith, nodes, few)) (ap is_sum (sym (sum_is e (out-ExprForm e.form) refl)) ∙ is) in
      omega (arith, forms_are e (out-ExprForm e.form) refl, none)

  none_in_maybe : (init : Option Expr) → is_simple_init init ≡ true → forms.in_maybe (record { node = 0; input = input; host_call = host_call }) init ≡ 0
  none_in_maybe None short = refl
  none_in_maybe (Some e) short = none_in_expr (in_expr e) e (omega arith) (short_sum (sum_in e) short)

  none_in_declarators : (ds : List Declarator) → list_all is_simple_declarator ds ≡ true → forms.in_declarators (record { node = 0; input = input; host_call = host_call }) ds ≡ 0
  none_in_declarators [] all = refl
  none_in_declarators (d ∷ ds) all =
      let parts = and_parts (is_simple_declarator d) (list_all is_simple_declarator ds) all in
      let first = none_in_maybe d.init ((and_parts (is_simple_name d.name) (is_simple_init d.init) parts.0).1) in
      let others = none_in_declarators ds parts.1 in
      rw first others

  none_by_form : (s : Stmt) (l : StmtForm-F StmtForm Case Catch Finally Stmt) → out-StmtForm s.form ≡ l → is_simple_form l ≡ true → forms.in_stmt (record { node = 0; input = input; host_call = host_call }) s ≡ 0
  none_by_form s (StmtForm-F.Var ds) is form =
      let by_form = fold_out-StmtForm ℕ ℕ ℕ ℕ ℕ (forms.of_stmt_form (record { node = 0; input = input; host_call = host_call })) (forms.of_case (record { node = 0; input = input; host_call = host_call })) (forms.of_catch (record { node = 0; input = input; host_call = host_call })) (forms.of_finally (record { node = 0; input = input; host_call = host_call })) (forms.of_stmt (record { node = 0; input = input; host_call = host_call })) s.form in
      let whole = fold_out-Stmt ℕ ℕ ℕ ℕ ℕ (forms.of_stmt_form (record { node = 0; input = input; host_call = host_call })) (forms.of_case (record { node = 0; input = input; host_call = host_call })) (forms.of_catch (record { node = 0; input = input; host_call = host_call })) (forms.of_finally (record { node = 0; input = input; host_call = host_call })) (forms.of_stmt (record { node = 0; input = input; host_call = host_call })) s in
      whole ∙ ap (λ n. n + 0) ((rw is at by_form) ∙ none_in_declarators ds form)
  none_by_form s _ is form = cc

  none_in_body : (ss : List Stmt) → list_all is_simple_statement ss ≡ true → forms.in_stmts (record { node = 0; input = input; host_call = host_call }) ss ≡ 0
  none_in_body [] all = refl
  none_in_body (s ∷ ss) all =
      let parts = and_parts (is_simple_statement s) (list_all is_simple_statement ss) all in
      rw (none_by_form s (out-StmtForm s.form) refl parts.0) (none_in_body ss parts.1)

-- ---- what the script mentions

module _ (w : World) (inside declared : FuncNo → List Mention) where
  abbrev are_given : List Mention → Bool
  are_given ms = list_all (is_given w) ms

  abbrev mentions_at : Layer → Place → Mentioned
  mentions_at = at_layer (Place → Mentioned) FieldMentions Mentioned (names.form_mentions inside declared) (names.field_mentions inside declared) (λ e. e.form e.at)

  mentions_are : (e : Expr) (l : Layer) → out-ExprForm e.form ≡ l → names.expr_mentions inside declared e ≡ mentions_at l e.at
  mentions_are = by_layer (Place → Mentioned) FieldMentions Mentioned (names.form_mentions inside declared) (names.field_mentions inside declared) (λ e. e.form e.at)

  abbrev GivenBelow : ℕ → Type 0
  GivenBelow d = (e : Expr) → in_expr e ≤ d → is_sum (sum_in e) ≡ true → are_given (names.expr_mentions inside declared e).0 ≡ true

  both_given : (ms ns : List Mention) → are_given ms ≡ true → are_given ns ≡ true → are_given (ms ++ ns) ≡ true
  both_given ms ns left right = rw (list_all-append (is_given w) ms ns, left) right

  given_layer : (d : ℕ) → GivenBelow d → (l : Layer) (at : Place) → nodes_at l ≤ d → is_sum (sum_at l) ≡ true → are_given (mentions_at l at).0 ≡ true
  given_layer d below (ExprForm-F.Literal value) at few is = refl
  given_layer d below (ExprForm-F.Name name) at few is = refl
  given_layer d below (ExprForm-F.Unary op a) at few is = below a few (unary_part op (sum_in a) is)
  given_layer d below (ExprForm-F.Binary op a b) at few is =
      let parts = binary_parts op (sum_in a) (sum_in b) is in
      both_given (names.expr_mentions inside declared a).0 (names.expr_mentions inside declared b).0 (below a (omega (arith, few)) parts.0) (below b (omega (arith, few)) parts.1)
  given_layer d below _ at few is = cc

  given_in_expr : (d : ℕ) → GivenBelow d
  given_in_expr zero e few is = let nodes = nodes_are e (out-ExprForm e.form) refl in absurd (omega (arith, nodes, few))
  given_in_expr (suc d) e few is =
      let nodes = nodes_are e (out-ExprForm e.form) refl in
      ap (λ m. are_given m.0) (mentions_are e (out-ExprForm e.form) refl)
      ∙ given_layer d (given_in_expr d) (out-ExprForm e.form) e.at (omega (arith, nodes, few)) (ap is_sum (sym (sum_is e (out-ExprForm e.form) refl)) ∙ is)

  given_in_maybe : (init : Option Expr) → is_simple_init init ≡ true → are_given (names.maybe_mentions inside declared init) ≡ true
  given_in_maybe None short = refl
  given_in_maybe (Some e) short = given_in_expr (in_expr e) e (omega arith) (short_sum (sum_in e) short)

  given_in_declarators : (ds : List Declarator) → list_all is_simple_declarator ds ≡ true → are_given (names.declarator_mentions inside declared ds) ≡ true
  given_in_declarators [] all = refl
  given_in_declarators (d ∷ ds) all =
      let parts = and_parts (is_simple_declarator d) (list_all is_simple_declarator ds) all in
      both_given (names.maybe_mentions inside declared d.init) (names.declarator_mentions inside declared ds) (given_in_maybe d.init ((and_parts (is_simple_name d.name) (is_simple_init d.init) parts.0).1)) (given_in_declarators ds parts.1)

  given_by_form : (s : Stmt) (l : StmtForm-F StmtForm Case Catch Finally Stmt) → out-StmtForm s.form ≡ l → is_simple_form l ≡ true → are_given (names.stmt_mentions inside declared s) ≡ true
  given_by_form s (StmtForm-F.Var ds) is form =
      let M = List Mention in
      let by_form = fold_out-StmtForm M M M M M (names.stmt_form_mentions inside declared) (λ c. names.maybe_mentions inside declared c.test ++ joined c.body) (λ c. unbound (c.name ∷ []) (joined c.body)) (λ f. joined f.body) (λ s. s.form) s.form in
      ap are_given (fold_out-Stmt M M M M M (names.stmt_form_mentions inside declared) (λ c. names.maybe_mentions inside declared c.test ++ joined c.body) (λ c. unbound (c.name ∷ []) (joined c.body)) (λ f. joined f.body) (λ s. s.form) s ∙ (rw is at by_form))
      ∙ given_in_declarators ds form
  given_by_form s _ is form = cc

  given_in_body : (ss : List Stmt) → list_all is_simple_statement ss ≡ true → are_given (names.body_mentions inside declared ss) ≡ true
  given_in_body [] all = refl
  given_in_body (s ∷ ss) all =
      let parts = and_parts (is_simple_statement s) (list_all is_simple_statement ss) all in
      both_given (names.stmt_mentions inside declared s) (names.body_mentions inside declared ss) (given_by_form s (out-StmtForm s.form) refl parts.0) (given_in_body ss parts.1)

-- ---- the script

no_funcs : (fs : List Func) → not (has_functions fs) ≡ true → fs ≡ []
no_funcs [] none = refl
no_funcs (f ∷ fs) none = cc

module _ (s : Script) (is : is_simple s ≡ true) where
  parts : ((not s.directive && not (has_functions s.funcs)) ≡ true) × (list_all is_simple_statement s.body ≡ true)
  unfolding is_simple
  parts =
      let read = and_parts (not s.directive && not (has_functions s.funcs) && list_all is_simple_statement s.body) (reads_declared s.body) is in
      and_parts (not s.directive && not (has_functions s.funcs)) (list_all is_simple_statement s.body) read.0

  pub simple_closed : is_closed s ≡ true
  unfolding is_closed
  simple_closed =
      rw (none_in_body 1 1 s.body parts.1, no_funcs s.funcs (and_parts (not s.directive) (not (has_functions s.funcs)) parts.0).1) refl

  pub simple_typed : (w : World) → list_all (is_given w) (mentions s) ≡ true
  unfolding mentions
  simple_typed w = given_in_body w _ _ s.body parts.1
