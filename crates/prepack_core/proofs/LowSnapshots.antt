-- The residual of variables is hardly nested.
use Rattle.std.proofs.Common.{◌≡◌, ℕ, suc, pos, negsuc, ◌≤◌, Bool, true, List, [], ◌∷◌, map, arith}
use Rattle.js_value.specs.declared.place.FuncNo.{FuncNo}
use Rattle.js_value.specs.declared.primitive.Primitive.{Primitive}
use Rattle.js_value.specs.declared.primitive.Primitive.TheVariants as primitive
use Rattle.js_tree.specs.Refusals.{place}
use Rattle.js_tree.specs.Trees.{stmt}
use Rattle.js_tree.specs.declared.expression.ExprForm.TheOpen.{ExprForm-F}
use Rattle.js_tree.specs.declared.statement.StmtForm.TheVariants.{Var}
use Rattle.residual_form.specs.Snapshot.{literal, constant, variable, snapshot}
use Rattle.script_nesting.specs.Height as height
use Rattle.script_nesting.specs.Height.{function_height}
use Rattle.script_nesting.specs.Highest.{highest}
use Rattle.script_nesting.specs.Nesting.{nesting}
use Rattle.script_nesting.specs.Opened as opened
use Rattle.script_nesting.specs.Opened.{Deep, in_function}
use Rattle.script_text.specs.Pieces.{Piece}
use Rattle.script_text.specs.Printing.{function_to}
use Rattle.simple_scripts.proofs.Folds.{fold-var}
use Rattle.simple_runs.proofs.Forms.{fold-literal, fold-minus}

no_higher : (n : ℕ) (ns : List ℕ) (most : ℕ) → n ≤ most → highest ns ≤ most → highest (n ∷ ns) ≤ most
no_higher n ns most first rest = omega arith

-- ---- parts that are open

module _ (function : Bool → FuncNo → List Piece) (inside : FuncNo → ℕ) where
  literal_deep : (value : Primitive) → opened.deep function inside (literal value) ≡ opened.of_form function inside (ExprForm-F.Literal value)
  literal_deep value = fold-literal Deep (List Piece × ℕ) Deep (opened.of_form function inside) (opened.of_field function inside) (λ e. e.form) 0 value

  literal_opens : (value : Primitive) → opened.expr function inside 2 true (literal value) ≤ 1
  literal_opens value = rw (literal_deep value) (omega arith)

  constant_opens : (value : Primitive) → opened.maybe_expr function inside 2 true (constant value) ≤ 1
  constant_opens primitive.Undefined = omega arith
  constant_opens (primitive.Number (pos n)) = literal_opens (primitive.Number (pos n))
  constant_opens (primitive.Number (negsuc n)) =
      rw (
        fold-minus Deep (List Piece × ℕ) Deep (opened.of_form function inside) (opened.of_field function inside) (λ e. e.form) 0 (literal (primitive.Number (pos (suc n)))),
        literal_deep (primitive.Number (pos (suc n))),
      )
      (omega arith)
  constant_opens primitive.Null = literal_opens primitive.Null
  constant_opens (primitive.Boolean b) = literal_opens (primitive.Boolean b)
  constant_opens (primitive.Text units) = literal_opens (primitive.Text units)

  declarators_open : (vs : List (List ℕ × Primitive)) → opened.declarators function inside true (map variable vs) ≤ 1
  declarators_open [] = omega arith
  declarators_open (v ∷ vs) = no_higher (opened.maybe_expr function inside 2 true (constant v.1)) _ 1 (constant_opens v.1) (declarators_open vs)

  body_opens : (vs : List (List ℕ × Primitive)) → opened.of_body function inside (stmt 0 (Var (map variable vs)) ∷ []) ≤ 2
  body_opens vs =
      rw (fold-var ℕ ℕ ℕ ℕ ℕ (opened.of_stmt_form function inside) (opened.of_case function inside) (opened.of_catch function inside) (opened.of_finally function inside) (λ t. t.form) (place 0) (map variable vs))
      (omega (arith, declarators_open vs))

-- ---- heights

module _ (body : FuncNo → ℕ) where
  literal_height : (value : Primitive) → height.height body (literal value) ≡ 1
  literal_height value = fold-literal ℕ ℕ ℕ (height.of_form body) (height.of_field body) (λ e. suc e.form) 0 value

  literal_low : (value : Primitive) → height.height body (literal value) ≤ 2
  literal_low value = omega (arith, literal_height value)

  constant_low : (value : Primitive) → height.of_maybe body (constant value) ≤ 2
  constant_low primitive.Undefined = omega arith
  constant_low (primitive.Number (pos n)) = literal_low (primitive.Number (pos n))
  constant_low (primitive.Number (negsuc n)) =
      let operand = literal (primitive.Number (pos (suc n))) in
      omega (arith, fold-minus ℕ ℕ ℕ (height.of_form body) (height.of_field body) (λ e. suc e.form) 0 operand, literal_height (primitive.Number (pos (suc n))))
  constant_low primitive.Null = literal_low primitive.Null
  constant_low (primitive.Boolean b) = literal_low (primitive.Boolean b)
  constant_low (primitive.Text units) = literal_low (primitive.Text units)

  declarators_low : (vs : List (List ℕ × Primitive)) → height.of_declarators body (map variable vs) ≤ 2
  declarators_low [] = omega arith
  declarators_low (v ∷ vs) = no_higher (height.of_maybe body (constant v.1)) _ 2 (constant_low v.1) (declarators_low vs)

  body_low : (vs : List (List ℕ × Primitive)) → height.body_height body (stmt 0 (Var (map variable vs)) ∷ []) ≤ 3
  body_low vs =
      rw (fold-var ℕ ℕ ℕ ℕ ℕ (height.of_stmt_form body) (height.of_case body) (height.of_catch body) (height.of_finally body) (λ t. suc t.form) (place 0) (map variable vs))
      (omega (arith, declarators_low vs))

-- ---- the script

nothing_nested : nesting (snapshot []) ≤ 3
unfolding nesting snapshot
nothing_nested = omega arith

pub low : (vs : List (List ℕ × Primitive)) → nesting (snapshot vs) ≤ 3
unfolding nesting snapshot
low [] = nothing_nested
low (v ∷ vs) =
    let opens = body_opens (function_to 0 []) (in_function 0 []) (v ∷ vs) in
    let height = body_low (function_height 0 []) (v ∷ vs) in
    omega arith
