-- The cases of heights: leaves compute, and other trees are opened form by form.
use Rattle.std.proofs.Common.{Bool, true, false, List, [], ◌∷◌, ◌≡◌, refl, map, Some, None, pos}
use Rattle.std.specs.Prelude.{codes}
use Rattle.js_value.specs.declared.operator.UnaryOp.TheVariants as unary
use Rattle.js_value.specs.declared.primitive.Primitive.TheVariants as primitive
use Rattle.js_tree.specs.declared.expression.Expr.{Expr}
use Rattle.js_tree.specs.declared.expression.ExprForm.TheVariants as e
use Rattle.js_tree.specs.declared.expression.ExprForm.TheVariants.{outs-Literal, outs-Unary}
use Rattle.js_tree.specs.declared.refusal.ReadRefused.TheVariants.{Nested}
use Rattle.js_tree.specs.declared.statement.Func.{Func}
use Rattle.js_tree.specs.declared.statement.Stmt.{Stmt}
use Rattle.js_tree.specs.declared.statement.StmtForm.{out-StmtForm}
use Rattle.js_tree.specs.declared.statement.StmtForm.TheVariants as s
use Rattle.js_tree.specs.declared.statement.StmtForm.TheVariants.{outs-Var}
use Rattle.js_tree.specs.Refusals.{place}
use Rattle.js_tree.specs.Trees.{expr, stmt, declarator}
use Rattle.js_grammar.specs.Heights.{is_within, is_stmt_within}
use Rattle.js_grammar.specs.Reading.{read, read_by}
use Rattle.js_grammar.specs.Written.{tokens_of}
use Rattle.js_grammar.specs.Answers.{fault}
use Rattle.js_grammar.specs.HeightCases.{HeightCases, height_texts, higher_texts}
use Rattle.js_grammar.proofs.Cases.{all_opened}

heights_read : map (λ row. fault (read (tokens_of row.0) row.1)) height_texts ≡ map (λ row. row.2) height_texts
unfolding all_opened read out-StmtForm
heights_read = refl

-- the parts of `var x = ! ! 0 ;`
abbrev nought : Expr
nought = expr 12 (e.Literal (primitive.Number (pos 0)))

abbrev inner_not : Expr
inner_not = expr 10 (e.Unary unary.Not nought)

abbrev outer_not : Expr
outer_not = expr 8 (e.Unary unary.Not inner_not)

abbrev nots : Stmt
nots = stmt 0 (s.Var (declarator 4 (codes "x") (Some outer_not) ∷ []))

-- what is read follows from what the tests say of these parts
module _ (allows_expr : List Func → Expr → Bool) (allows_stmt : List Func → Stmt → Bool) where
  nots_fit_by : allows_expr [] nought ≡ true → allows_expr [] inner_not ≡ true → allows_expr [] outer_not ≡ true
      → allows_stmt [] nots ≡ true
      → fault (read_by allows_expr allows_stmt (tokens_of (codes "var x = ! ! 0 ;")) 4) ≡ None
  unfolding all_opened
  nots_fit_by a b c d = rw a (rw b (rw c (rw d refl)))

  nots_nested_by : allows_expr [] nought ≡ true → allows_expr [] inner_not ≡ true → allows_expr [] outer_not ≡ true
      → allows_stmt [] nots ≡ false
      → fault (read_by allows_expr allows_stmt (tokens_of (codes "var x = ! ! 0 ;")) 3) ≡ Some (Nested (place 0))
  unfolding all_opened
  nots_nested_by a b c d = rw a (rw b (rw c (rw d refl)))

nots_fit : fault (read (tokens_of (codes "var x = ! ! 0 ;")) 4) ≡ None
unfolding read
nots_fit =
    nots_fit_by (λ f x. is_within f 4 x) (λ f t. is_stmt_within f 4 t)
    (simp outs-Literal) (simp (outs-Unary, outs-Literal)) (simp (outs-Unary, outs-Literal)) (simp (outs-Var, outs-Unary, outs-Literal))

nots_nested : fault (read (tokens_of (codes "var x = ! ! 0 ;")) 3) ≡ Some (Nested (place 0))
unfolding read
nots_nested =
    nots_nested_by (λ f x. is_within f 3 x) (λ f t. is_stmt_within f 3 t)
    (simp outs-Literal) (simp (outs-Unary, outs-Literal)) (simp (outs-Unary, outs-Literal)) (simp (outs-Var, outs-Unary))

higher_read : map (λ row. fault (read (tokens_of row.0) row.1)) higher_texts ≡ map (λ row. row.2) higher_texts
higher_read = simp (nots_fit, nots_nested)

pub height_cases : HeightCases
height_cases = record { heights = heights_read; higher = higher_read }
