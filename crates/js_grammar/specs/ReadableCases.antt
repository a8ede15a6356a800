-- Cases of trees that reading can give, worked out by hand: each rule has some that keep it and some that just break it,
-- each tree behind its text. Names are of `_` and `$`. No place decides anything here: each is 0.
use Rattle.std.specs.Prelude.{◌≡◌, Bool, true, false, pos, neg_ℤ, codes, List, [], ◌∷◌, map, Some, None}
use Rattle.js_value.specs.declared.operator.BinaryOp.{BinaryOp}
use Rattle.js_value.specs.declared.operator.BinaryOp.TheVariants as binary
use Rattle.js_value.specs.declared.operator.UnaryOp.TheVariants as unary
use Rattle.js_value.specs.declared.primitive.Kind.TheVariants as kind
use Rattle.js_value.specs.declared.primitive.Primitive.{Primitive}
use Rattle.js_value.specs.declared.primitive.Primitive.TheVariants as primitive
use Rattle.js_tree.specs.declared.expression.Expr.{Expr}
use Rattle.js_tree.specs.declared.expression.ExprForm.{ExprForm}
use Rattle.js_tree.specs.declared.expression.ExprForm.TheVariants as e
use Rattle.js_tree.specs.declared.expression.StepOp.TheVariants as step
use Rattle.js_tree.specs.declared.statement.ForStart.TheVariants as start
use Rattle.js_tree.specs.declared.statement.ForTarget.TheVariants as target
use Rattle.js_tree.specs.declared.statement.Script.{Script}
use Rattle.js_tree.specs.declared.statement.Stmt.{Stmt}
use Rattle.js_tree.specs.declared.statement.StmtForm.{StmtForm}
use Rattle.js_tree.specs.declared.statement.StmtForm.TheVariants as s
use Rattle.js_tree.specs.NameCases.{n, eval, declaring, block, named}
use Rattle.js_tree.specs.Refusals.{place}
use Rattle.js_tree.specs.Trees.{expr, stmt, declarator, clause, handler, final, script, one}
use Rattle.js_grammar.specs.ReadableExpressions.{is_compound}
use Rattle.js_grammar.specs.Readable.{is_readable}

abbrev pub Rows : Type 0
Rows = List (Script × Bool)

-- the script of one expression, and that of one statement
abbrev pub only : ExprForm → Script
only x = one (eval x)

abbrev pub does : StmtForm → Script
does t = one (stmt 0 t)

-- `_`, `1` and `;`
abbrev pub low : Expr
low = n (codes "_")

abbrev pub number : Expr
number = expr 0 (e.Literal (primitive.Number (pos 1)))

abbrev pub empty : Stmt
empty = stmt 0 s.Empty

-- ---- statements (12)

-- if (_) FIRST, and if (_) FIRST else ;
abbrev pub without_else : Stmt → Stmt
without_else first = stmt 0 (s.If low first None)

abbrev pub with_else : Stmt → Stmt
with_else first = stmt 0 (s.If low first (Some empty))

-- 12.5: the first part of an `if` with `else` doesn't end in one without
abbrev pub if_rows : Rows
if_rows =
    -- if (_) if (_) ;
    (one (without_else (without_else empty)), true)
    -- if (_) { if (_) ; } else ;
    ∷ (one (with_else (block (without_else empty ∷ []))), true)
    -- if (_) (if (_) ;) else ;
    ∷ (one (with_else (without_else empty)), false)
    -- if (_) if (_) ; else ; else ;
    ∷ (one (with_else (with_else empty)), true)
    -- if (_) (if (_) ; else if (_) ;) else ;
    ∷ (one (with_else (stmt 0 (s.If low empty (Some (without_else empty))))), false)
    ∷ []

-- a loop but `do` ends as its body does
abbrev pub loop_rows : Rows
loop_rows =
    -- if (_) (while (_) if (_) ;) else ;
    (one (with_else (stmt 0 (s.While low (without_else empty)))), false)
    -- if (_) (for (;;) if (_) ;) else ;
    ∷ (one (with_else (stmt 0 (s.For start.Nothing None None (without_else empty)))), false)
    -- if (_) (for (var _ in _) if (_) ;) else ;
    ∷ (one (with_else (stmt 0 (s.ForIn (target.Var (place 0) (codes "_")) low (without_else empty)))), false)
    -- if (_) do if (_) ; while (_); else ;
    ∷ (one (with_else (stmt 0 (s.DoWhile (without_else empty) low))), true)
    ∷ []

-- 12.2, 12.11, 12.14: a `var` declares something, a `switch` has at most one default, and a `try` a handler or a last part
abbrev pub part_rows : Rows
part_rows =
    (does (s.Var (declarator 0 (codes "_") None ∷ [])), true)
    ∷ (does (s.Var []), false)
    ∷ (does (s.For (start.Var []) None None empty), false)
    -- switch (_) { default: case _: }
    ∷ (does (s.Switch low (clause None [] ∷ clause (Some low) [] ∷ [])), true)
    -- switch (_) { default: default: }
    ∷ (does (s.Switch low (clause None [] ∷ clause None [] ∷ [])), false)
    ∷ (does (s.Try [] None (Some (final []))), true)
    ∷ (does (s.Try [] (Some (handler 0 (codes "_") [])) None), true)
    ∷ (does (s.Try [] None None), false)
    ∷ []

-- 12.7 to 12.9: what the early checks refuse
abbrev pub jump_rows : Rows
jump_rows =
    (does (s.While low (stmt 0 s.Break)), true)
    ∷ (does s.Break, false)
    ∷ (does (s.While low (stmt 0 s.Continue)), true)
    ∷ (does s.Continue, false)
    ∷ (script (declaring 0 ∷ []) (named (codes "_") (stmt 0 (s.Return None) ∷ []) ∷ []), true)
    ∷ (does (s.Return None), false)
    ∷ []

-- ---- expressions (11)

-- 11.13: targets, and the operators of assignments
abbrev pub assignment_rows : Rows
assignment_rows =
    (only (e.Assign low None number), true)
    ∷ (only (e.Assign number None low), false)
    ∷ (only (e.Assign (expr 0 (e.Call low [])) None low), false)
    ∷ (only (e.Assign low (Some binary.Shr) number), true)
    ∷ (only (e.Assign low (Some binary.Less) number), false)
    ∷ (only (e.Assign low (Some binary.In) number), false)
    ∷ []

-- 11.13.2: the operators that an assignment can be compounded with, and the others
abbrev pub compound_operators : List BinaryOp
compound_operators =
    binary.Mul ∷ binary.Div ∷ binary.Rem ∷ binary.Add ∷ binary.Sub ∷ binary.Shl ∷ binary.Sar ∷ binary.Shr ∷ binary.BitAnd
    ∷ binary.BitXor ∷ binary.BitOr ∷ []

abbrev pub other_operators : List BinaryOp
other_operators =
    binary.Less ∷ binary.Greater ∷ binary.LessEqual ∷ binary.GreaterEqual ∷ binary.Equal ∷ binary.NotEqual ∷ binary.Same
    ∷ binary.NotSame ∷ binary.In ∷ binary.InstanceOf ∷ []

-- 11.3, 11.4.4, 12.6.4: targets
abbrev pub target_rows : Rows
target_rows =
    (only (e.Step step.PostUp (expr 0 (e.Index low low))), true)
    ∷ (only (e.Step step.PostUp (expr 0 (e.New low []))), false)
    ∷ (only (e.Step step.PreDown (expr 0 (e.Member low (codes "$")))), true)
    ∷ (only (e.Step step.PreDown number), false)
    ∷ (does (s.ForIn (target.Expr low) low empty), true)
    ∷ (does (s.ForIn (target.Expr number) low empty), false)
    ∷ []

-- 11.4.1: no name is the operand of `delete`
abbrev pub delete_rows : Rows
delete_rows =
    (only (e.Unary unary.Delete (expr 0 (e.Member low (codes "_")))), true)
    ∷ (only (e.Unary unary.Delete low), false)
    ∷ (only (e.Unary unary.TypeOf low), true)
    ∷ []

-- 7.8: literals
abbrev pub literal : Primitive → Script
literal value = only (e.Literal value)

abbrev pub literal_rows : Rows
literal_rows =
    (literal primitive.Null, true)
    ∷ (literal primitive.Undefined, false)
    ∷ (literal (primitive.Boolean false), true)
    ∷ (literal (primitive.Number (pos 0)), true)
    ∷ (literal (primitive.Number (neg_ℤ (pos 1))), false)
    ∷ (literal (primitive.Number (pos 9007199254740991)), true)
    ∷ (literal (primitive.Number (pos 9007199254740992)), false)
    ∷ (literal (primitive.Text []), true)
    ∷ (literal (primitive.Text (65535 ∷ [])), true)
    ∷ (literal (primitive.Text (65536 ∷ [])), false)
    ∷ (literal (primitive.Text (codes "__proto")), true)
    ∷ (literal (primitive.Text (codes "__proto__")), false)
    ∷ []

-- inputs and host calls: texts, and one type for one input
abbrev pub form_rows : Rows
form_rows =
    (only (e.Input kind.Number (codes "a b")), true)
    ∷ (only (e.Input kind.Number (codes "__proto__")), false)
    ∷ (only (e.HostCall kind.Text (codes "a") (low ∷ [])), true)
    ∷ (only (e.HostCall kind.Text (65536 ∷ []) (low ∷ [])), false)
    ∷ (only (e.Comma (expr 0 (e.Input kind.Number (codes "a"))) (expr 0 (e.Input kind.Number (codes "a")))), true)
    ∷ (only (e.Comma (expr 0 (e.Input kind.Number (codes "a"))) (expr 0 (e.Input kind.Text (codes "a")))), false)
    ∷ (only (e.Comma (expr 0 (e.Input kind.Number (codes "a"))) (expr 0 (e.Input kind.Text (codes "b")))), true)
    ∷ []

-- these trees can be read, or can't
abbrev pub AreReadable : Rows → Type 0
AreReadable rows = map (λ row. is_readable row.0) rows ≡ map (λ row. row.1) rows

pub record ReadableCases : Type 0 where
  pub ifs : AreReadable if_rows
  pub loops : AreReadable loop_rows
  pub parts : AreReadable part_rows
  pub jumps : AreReadable jump_rows
  pub assignments : AreReadable assignment_rows
  pub compound : map (λ op. is_compound (Some op)) compound_operators ≡ map (λ _. true) compound_operators
  pub not_compound : map (λ op. is_compound (Some op)) other_operators ≡ map (λ _. false) other_operators
  pub targets : AreReadable target_rows
  pub deletes : AreReadable delete_rows
  pub literals : AreReadable literal_rows
  pub forms : AreReadable form_rows
