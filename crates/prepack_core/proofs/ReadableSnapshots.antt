-- The residual of variables is a script that reading can give.
use Rattle.std.proofs.Common.{◌≡◌, ℕ, suc, pos, negsuc, ◌≤◌, Bool, true, List, [], ◌∷◌, ◌++◌, map, refl, ap, ◌∙◌, arith}
use Rattle.std.specs.Prelude.{int_le, neg_ℤ, ◌&&◌, fold, Some, None}
use Rattle.std.specs.List.{list_all}
use Rattle.std.proofs.lemmas.Bool.{and_parts, and_from, leb-true}
use Rattle.std.proofs.lemmas.Bool.Decides.{nat_tests}
use Rattle.js_value.specs.Numbers.{is_safe, greatest}
use Rattle.js_value.specs.declared.place.FuncNo.{FuncNo}
use Rattle.js_value.specs.declared.place.Place.{Place}
use Rattle.js_value.specs.declared.primitive.Primitive.{Primitive}
use Rattle.js_value.specs.declared.primitive.Primitive.TheVariants as primitive
use Rattle.js_tree.specs.Early.{At, Places, places_in, returns, breaks, continues, lesser, mention_faults, early_fault}
use Rattle.js_tree.specs.Mentions.{Mention, Mentioned, FieldMentions, maybe_mentions, declarator_mentions, body_mentions, mentions}
use Rattle.js_tree.specs.Refusals.{place}
use Rattle.js_tree.specs.Trees.{stmt}
use Rattle.js_tree.specs.declared.expression.Expr.{Expr}
use Rattle.js_tree.specs.declared.statement.Declarator.{Declarator}
use Rattle.js_tree.specs.declared.statement.StmtForm.TheOpen.{StmtForm-F}
use Rattle.js_tree.specs.declared.statement.StmtForm.TheVariants.{Var}
use Rattle.js_grammar.specs.FunctionOrder as order
use Rattle.js_grammar.specs.Readable as R
use Rattle.js_grammar.specs.Readable.{ReadStmt, ReadCase, is_readable, are_parts_readable, agrees_with, are_inputs_alike, are_elements, are_declarators, is_declarator}
use Rattle.js_grammar.specs.ReadableExpressions as E
use Rattle.js_grammar.specs.ReadableExpressions.{ReadExpr, is_expr, is_maybe}
use Rattle.residual_form.specs.Snapshot.{literal, constant, variable, snapshot}
use Rattle.simple_scripts.specs.SimpleNames.{is_simple_name}
use Rattle.simple_scripts.proofs.Folds.{fold-var}
use Rattle.simple_runs.proofs.Forms.{fold-literal, fold-minus}
use Rattle.simple_runs.specs.PlainVariables.{is_plain_value, is_plain_variable, are_plain_variables}
use Rattle.prepack_core.proofs.ReadableNames.{identifier}

-- ---- its parts are such as reading gives

at_least_zero : (n : ℕ) → int_le (pos 0) (pos n) ≡ true
at_least_zero n = grind (arith, nat_tests)

literal_readable : (n : ℕ) → int_le (pos n) greatest ≡ true → is_expr [] (literal (primitive.Number (pos n))) ≡ true
literal_readable n small =
    ap (λ (r : ReadExpr). r.readable) (fold-literal ReadExpr Bool ReadExpr (E.of_form []) (E.of_field []) (λ x. x.form) 0 (primitive.Number (pos n)))
    ∙ and_from (int_le (pos 0) (pos n)) (int_le (pos n) greatest) (at_least_zero n) small

negated_small : (n : ℕ) → is_safe (negsuc n) ≡ true → int_le (pos (suc n)) greatest ≡ true
negated_small n safe =
    let low = (and_parts (int_le (neg_ℤ greatest) (negsuc n)) (int_le (negsuc n) greatest) safe).0 in
    let le : n ≤ 9007199254740990 = leb-true n 9007199254740990 low in
    grind (arith, nat_tests, le)

constant_readable : (value : Primitive) → is_plain_value value ≡ true → is_maybe [] (constant value) ≡ true
constant_readable primitive.Undefined plain = refl
constant_readable (primitive.Number (pos n)) plain = literal_readable n (and_parts (int_le (neg_ℤ greatest) (pos n)) (int_le (pos n) greatest) plain).1
constant_readable (primitive.Number (negsuc n)) plain =
    let operand = literal (primitive.Number (pos (suc n))) in
    ap (λ (r : ReadExpr). r.readable) (fold-minus ReadExpr Bool ReadExpr (E.of_form []) (E.of_field []) (λ x. x.form) 0 operand)
    ∙ and_from (is_expr [] operand) true (literal_readable (suc n) (negated_small n plain)) refl
constant_readable _ plain = cc

declarators_readable : (vs : List (List ℕ × Primitive)) → are_plain_variables vs ≡ true → list_all (is_declarator []) (map variable vs) ≡ true
declarators_readable [] plain = refl
declarators_readable (v ∷ vs) plain =
    let parts = and_parts (is_plain_variable v) (are_plain_variables vs) plain in
    let this = and_parts (is_simple_name v.0) (is_plain_value v.1) parts.0 in
    rw (identifier v.0 this.0, constant_readable v.1 this.1) (declarators_readable vs parts.1)

elements_readable : (v : List ℕ × Primitive) (vs : List (List ℕ × Primitive)) → are_plain_variables (v ∷ vs) ≡ true → are_elements [] (stmt 0 (Var (map variable (v ∷ vs))) ∷ []) ≡ true
elements_readable v vs plain =
    ap (λ (r : ReadStmt). r.readable && true) (fold-var ReadStmt ReadCase Bool Bool ReadStmt (R.of_stmt_form []) (R.of_case []) (R.of_catch []) (R.of_finally []) (λ t. t.form) (place 0) (map variable (v ∷ vs)))
    ∙ ap (λ b. b && true) (declarators_readable (v ∷ vs) plain)

-- ---- it names no function

no_function : (value : Primitive) → order.in_maybe (constant value) ≡ []
no_function primitive.Undefined = refl
no_function (primitive.Number (pos n)) = fold-literal order.Numbers order.Numbers order.Numbers order.in_form order.in_field (λ x. x.form) 0 (primitive.Number (pos n))
no_function (primitive.Number (negsuc n)) =
    fold-minus order.Numbers order.Numbers order.Numbers order.in_form order.in_field (λ x. x.form) 0 (literal (primitive.Number (pos (suc n))))
    ∙ fold-literal order.Numbers order.Numbers order.Numbers order.in_form order.in_field (λ x. x.form) 0 (primitive.Number (pos (suc n)))
no_function primitive.Null = fold-literal order.Numbers order.Numbers order.Numbers order.in_form order.in_field (λ x. x.form) 0 primitive.Null
no_function (primitive.Boolean b) = fold-literal order.Numbers order.Numbers order.Numbers order.in_form order.in_field (λ x. x.form) 0 (primitive.Boolean b)
no_function (primitive.Text units) = fold-literal order.Numbers order.Numbers order.Numbers order.in_form order.in_field (λ x. x.form) 0 (primitive.Text units)

no_functions : (vs : List (List ℕ × Primitive)) → order.in_declarators (map variable vs) ≡ []
no_functions [] = refl
no_functions (v ∷ vs) = ap (λ ns. ns ++ order.in_declarators (map variable vs)) (no_function v.1) ∙ no_functions vs

names_none : (vs : List (List ℕ × Primitive)) → order.in_body (stmt 0 (Var (map variable vs)) ∷ []) ≡ []
names_none vs = ap (λ ns. ns ++ []) (fold-var order.Numbers order.Numbers order.Numbers order.Numbers order.Numbers order.in_stmt_form _ _ _ _ (place 0) (map variable vs) ∙ no_functions vs)

-- ---- it mentions nothing, and has no early fault

module _ (inside declared : FuncNo → List Mention) where
  abbrev mentioned : Expr → List Mention
  mentioned x = maybe_mentions inside declared (Some x)

  literal_mentions : (value : Primitive) → mentioned (literal value) ≡ []
  literal_mentions value = ap (λ (m : Mentioned). m.0) (fold-literal (Place → Mentioned) FieldMentions Mentioned _ _ _ 0 value)

  no_mention : (value : Primitive) → maybe_mentions inside declared (constant value) ≡ []
  no_mention primitive.Undefined = refl
  no_mention (primitive.Number (pos n)) = literal_mentions (primitive.Number (pos n))
  no_mention (primitive.Number (negsuc n)) =
      ap (λ (m : Mentioned). m.0) (fold-minus (Place → Mentioned) FieldMentions Mentioned _ _ _ 0 (literal (primitive.Number (pos (suc n)))))
      ∙ literal_mentions (primitive.Number (pos (suc n)))
  no_mention primitive.Null = literal_mentions primitive.Null
  no_mention (primitive.Boolean b) = literal_mentions (primitive.Boolean b)
  no_mention (primitive.Text units) = literal_mentions (primitive.Text units)

  no_mentions : (vs : List (List ℕ × Primitive)) → declarator_mentions inside declared (map variable vs) ≡ []
  no_mentions [] = refl
  no_mentions (v ∷ vs) = ap (λ ms. ms ++ declarator_mentions inside declared (map variable vs)) (no_mention v.1) ∙ no_mentions vs

  none_in_body : (vs : List (List ℕ × Primitive)) → body_mentions inside declared (stmt 0 (Var (map variable vs)) ∷ []) ≡ []
  none_in_body vs = ap (λ ms. ms ++ []) (fold-var (List Mention) (List Mention) (List Mention) (List Mention) (List Mention) _ _ _ _ _ (place 0) (map variable vs) ∙ no_mentions vs)

no_jumps : (jumps : StmtForm-F At Places Places Places Places → At) (ds : List Declarator) → jumps (StmtForm-F.Var ds) (place 0) ≡ [] → places_in jumps (stmt 0 (Var ds) ∷ []) ≡ []
no_jumps jumps ds h = ap (λ p. p ++ []) (fold-var At Places Places Places Places jumps _ _ _ _ (place 0) ds ∙ h)

none_mentioned : (v : List ℕ × Primitive) (vs : List (List ℕ × Primitive)) → mentions (snapshot (v ∷ vs)) ≡ []
unfolding mentions snapshot
none_mentioned v vs = none_in_body _ _ (v ∷ vs)

no_fault : (v : List ℕ × Primitive) (vs : List (List ℕ × Primitive)) → early_fault (snapshot (v ∷ vs)) ≡ None
unfolding early_fault snapshot
no_fault v vs =
    let ds = map variable (v ∷ vs) in
    rw (no_jumps returns ds refl, no_jumps breaks ds refl, no_jumps continues ds refl) (ap (λ ms. fold lesser None (mention_faults ms)) (none_mentioned v vs))

-- ---- the script

parts_readable : (v : List ℕ × Primitive) (vs : List (List ℕ × Primitive)) → are_plain_variables (v ∷ vs) ≡ true → are_parts_readable (snapshot (v ∷ vs)) ≡ true
unfolding are_parts_readable snapshot
parts_readable v vs plain = ap (λ b. b && true) (elements_readable v vs plain)

in_order : (v : List ℕ × Primitive) (vs : List (List ℕ × Primitive)) → order.are_in_source_order (snapshot (v ∷ vs)) ≡ true
unfolding order.are_in_source_order snapshot
in_order v vs = ap (λ ns. order.are_named_from 0 ns []) (names_none (v ∷ vs))

inputs_alike : (v : List ℕ × Primitive) (vs : List (List ℕ × Primitive)) → are_inputs_alike (snapshot (v ∷ vs)) ≡ true
unfolding are_inputs_alike
inputs_alike v vs = ap (λ ms. list_all (agrees_with ms) ms) (none_mentioned v vs)

nothing_readable : is_readable (snapshot []) ≡ true
unfolding is_readable are_parts_readable order.are_in_source_order are_inputs_alike mentions early_fault snapshot
nothing_readable = refl

pub readable : (vs : List (List ℕ × Primitive)) → are_plain_variables vs ≡ true → is_readable (snapshot vs) ≡ true
unfolding is_readable
readable [] plain = nothing_readable
readable (v ∷ vs) plain = rw (parts_readable v vs plain, in_order v vs, inputs_alike v vs, no_fault v vs) refl
