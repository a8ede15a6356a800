-- Cases of printing, worked out by hand: each expression or statement stands beside its text.
use Rattle.std.specs.Fmt.{signed_decimal}
use Rattle.std.specs.Prelude.{◌≡◌, ◌++◌, ℕ, pos, codes, Bool, true, false, List, [], ◌∷◌, map, Option, Some, None}
use Rattle.js_value.specs.declared.operator.BinaryOp.TheVariants as binary
use Rattle.js_value.specs.declared.operator.UnaryOp.TheVariants as unary
use Rattle.js_value.specs.declared.place.FuncNo.{FuncNo}
use Rattle.js_value.specs.declared.primitive.Kind.TheVariants as kind
use Rattle.js_value.specs.declared.primitive.Primitive.TheVariants as primitive
use Rattle.js_tree.specs.Refusals.{place}
use Rattle.js_tree.specs.Trees.{no, expr, declarator}
use Rattle.js_tree.specs.declared.expression.Expr.{Expr}
use Rattle.js_tree.specs.declared.expression.ExprForm.TheVariants as e
use Rattle.js_tree.specs.declared.statement.Declarator.{Declarator}
use Rattle.js_tree.specs.declared.statement.ForStart.TheVariants as start
use Rattle.js_tree.specs.declared.statement.ForTarget.TheVariants as target
use Rattle.js_tree.specs.declared.statement.StmtForm.TheOpen.{StmtForm-F, Case-F, Catch-F, Finally-F}
use Rattle.script_text.specs.Statements.{Shown}
use Rattle.script_text.specs.Statements as statements
use Rattle.js_tree.specs.declared.expression.ExprForm.TheOpen.{ExprForm-F}
use Rattle.js_tree.specs.declared.expression.LogicOp.TheVariants as logic
use Rattle.js_tree.specs.declared.expression.StepOp.TheVariants as step
use Rattle.script_text.specs.Pieces.{Piece, Number, text_of, opening, closing, inner}
use Rattle.script_text.specs.Expressions.{Printed, of_form, if_grouped, at, index, name}

-- every function has no parameters and an empty body
abbrev pub function : Bool → FuncNo → List Piece
function named f = opening (codes "(") ++ closing (codes ")") ++ opening (codes "{") ++ closing (codes "}")

-- an expression, by what its parts are
abbrev pub x : ExprForm-F Printed (List Piece) Printed → Printed
x form = of_form function form

abbrev pub a : Printed
a = x (ExprForm-F.Name (codes "a"))

abbrev pub b : Printed
b = x (ExprForm-F.Name (codes "b"))

abbrev pub c : Printed
c = x (ExprForm-F.Name (codes "c"))

-- the text of an expression statement without its semicolon
abbrev pub statement : Printed → List ℕ
statement p = text_of (if_grouped p.starts true p)

-- the text of an expression in the first part of a `for` header
abbrev pub header : Printed → List ℕ
header p = text_of (at 1 false p)

abbrev pub ArePrinted : List (Printed × List ℕ) → Type 0
ArePrinted rows = map (λ row. statement row.0) rows ≡ map (λ row. row.1) rows

-- ---- parentheses by levels (11)

abbrev pub operators : List (Printed × List ℕ)
operators =
    ((x (ExprForm-F.Binary binary.Sub (x (ExprForm-F.Binary binary.Sub a b)) c)), codes "a - b - c")
    ∷ ((x (ExprForm-F.Binary binary.Sub a (x (ExprForm-F.Binary binary.Sub b c)))), codes "a - (b - c)")
    ∷ ((x (ExprForm-F.Binary binary.Mul (x (ExprForm-F.Binary binary.Add a b)) c)), codes "(a + b) * c")
    ∷ ((x (ExprForm-F.Binary binary.Add a (x (ExprForm-F.Binary binary.Mul b c)))), codes "a + b * c")
    ∷ ((x (ExprForm-F.Binary binary.Shl (x (ExprForm-F.Binary binary.Rem a b)) c)), codes "a % b << c")
    ∷ ((x (ExprForm-F.Binary binary.Div a (x (ExprForm-F.Binary binary.Shr b c)))), codes "a / (b >>> c)")
    ∷ ((x (ExprForm-F.Binary binary.Less (x (ExprForm-F.Binary binary.Sar a b)) c)), codes "a >> b < c")
    ∷ ((x (ExprForm-F.Binary binary.InstanceOf a (x (ExprForm-F.Binary binary.In b c)))), codes "a instanceof (b in c)")
    ∷ ((x (ExprForm-F.Binary binary.Same (x (ExprForm-F.Binary binary.Greater a b)) (x (ExprForm-F.Binary binary.LessEqual b c)))), codes "a > b === b <= c")
    ∷ ((x (ExprForm-F.Binary binary.NotSame a (x (ExprForm-F.Binary binary.Equal b c)))), codes "a !== (b == c)")
    ∷ ((x (ExprForm-F.Binary binary.BitAnd (x (ExprForm-F.Binary binary.NotEqual a b)) c)), codes "a != b & c")
    ∷ ((x (ExprForm-F.Binary binary.BitAnd a (x (ExprForm-F.Binary binary.BitXor b c)))), codes "a & (b ^ c)")
    ∷ ((x (ExprForm-F.Binary binary.BitOr (x (ExprForm-F.Binary binary.BitXor a b)) c)), codes "a ^ b | c")
    ∷ ((x (ExprForm-F.Binary binary.GreaterEqual a (x (ExprForm-F.Binary binary.BitOr b c)))), codes "a >= (b | c)")
    ∷ ((x (ExprForm-F.Logic logic.Or a (x (ExprForm-F.Logic logic.And b c)))), codes "a || b && c")
    ∷ ((x (ExprForm-F.Logic logic.And (x (ExprForm-F.Logic logic.Or a b)) c)), codes "(a || b) && c")
    ∷ ((x (ExprForm-F.Logic logic.And a (x (ExprForm-F.Binary binary.BitOr b c)))), codes "a && b | c")
    ∷ ((x (ExprForm-F.Logic logic.Or a (x (ExprForm-F.Logic logic.Or b c)))), codes "a || (b || c)")
    ∷ []

abbrev pub loose_forms : List (Printed × List ℕ)
loose_forms =
    ((x (ExprForm-F.Conditional (x (ExprForm-F.Conditional a b c)) b c)), codes "(a ? b : c) ? b : c")
    ∷ ((x (ExprForm-F.Conditional (x (ExprForm-F.Logic logic.Or a b)) (x (ExprForm-F.Conditional a b c)) (x (ExprForm-F.Conditional c b a)))), codes "a || b ? a ? b : c : c ? b : a")
    ∷ ((x (ExprForm-F.Conditional (x (ExprForm-F.Assign a None b)) b c)), codes "(a = b) ? b : c")
    ∷ ((x (ExprForm-F.Conditional a (x (ExprForm-F.Assign b None c)) (x (ExprForm-F.Comma b c)))), codes "a ? b = c : (b, c)")
    ∷ ((x (ExprForm-F.Assign a None (x (ExprForm-F.Assign b None c)))), codes "a = b = c")
    ∷ ((x (ExprForm-F.Assign a None (x (ExprForm-F.Comma b c)))), codes "a = (b, c)")
    ∷ ((x (ExprForm-F.Assign a (Some binary.Shr) b)), codes "a >>>= b")
    ∷ ((x (ExprForm-F.Assign (x (ExprForm-F.Member a (codes "b"))) (Some binary.Add) (x (ExprForm-F.Conditional a b c)))), codes "a.b += a ? b : c")
    ∷ ((x (ExprForm-F.Comma (x (ExprForm-F.Comma a b)) c)), codes "a, b, c")
    ∷ ((x (ExprForm-F.Comma a (x (ExprForm-F.Comma b c)))), codes "a, (b, c)")
    ∷ ((x (ExprForm-F.Call a ((x (ExprForm-F.Comma b c)) ∷ a ∷ []))), codes "a((b, c), a)")
    ∷ ((x (ExprForm-F.Index a (x (ExprForm-F.Comma b c)))), codes "a[b, c]")
    ∷ ((x (ExprForm-F.ArrayLit (Some (x (ExprForm-F.Comma a b)) ∷ []))), codes "[(a, b)]")
    ∷ []

abbrev pub prefixes : List (Printed × List ℕ)
prefixes =
    ((x (ExprForm-F.Unary unary.Minus (x (ExprForm-F.Unary unary.Minus a)))), codes "- -a")
    ∷ ((x (ExprForm-F.Unary unary.Plus (x (ExprForm-F.Unary unary.Minus a)))), codes "+ -a")
    ∷ ((x (ExprForm-F.Unary unary.Minus (x (ExprForm-F.Step step.PreDown a)))), codes "- --a")
    ∷ ((x (ExprForm-F.Unary unary.Not (x (ExprForm-F.Step step.PreUp a)))), codes "! ++a")
    ∷ ((x (ExprForm-F.Unary unary.Not (x (ExprForm-F.Unary unary.BitNot a)))), codes "!~a")
    ∷ ((x (ExprForm-F.Unary unary.TypeOf (x (ExprForm-F.Unary unary.Void a)))), codes "typeof void a")
    ∷ ((x (ExprForm-F.Unary unary.Delete (x (ExprForm-F.Member a (codes "b"))))), codes "delete a.b")
    ∷ ((x (ExprForm-F.Unary unary.Minus (x (ExprForm-F.Binary binary.Add a b)))), codes "-(a + b)")
    ∷ ((x (ExprForm-F.Unary unary.TypeOf (x (ExprForm-F.Binary binary.Add a b)))), codes "typeof (a + b)")
    ∷ ((x (ExprForm-F.Binary binary.Sub a (x (ExprForm-F.Unary unary.Minus b)))), codes "a - -b")
    ∷ ((x (ExprForm-F.Binary binary.Add (x (ExprForm-F.Step step.PostUp a)) (x (ExprForm-F.Step step.PreUp b)))), codes "a++ + ++b")
    ∷ ((x (ExprForm-F.Unary unary.Minus (x (ExprForm-F.Step step.PostUp (x (ExprForm-F.Member a (codes "b"))))))), codes "-a.b++")
    ∷ ((x (ExprForm-F.Binary binary.Sub (x (ExprForm-F.Unary unary.Not a)) (x (ExprForm-F.Step step.PostDown b)))), codes "!a - b--")
    ∷ []

abbrev pub members : List (Printed × List ℕ)
members =
    ((x (ExprForm-F.Member (x (ExprForm-F.Member a (codes "b"))) (codes "if"))), codes "a.b.if")
    ∷ ((x (ExprForm-F.Member (x (ExprForm-F.Binary binary.Add a b)) (codes "c"))), codes "(a + b).c")
    ∷ ((x (ExprForm-F.Call (x (ExprForm-F.Call a ([]))) (b ∷ c ∷ []))), codes "a()(b, c)")
    ∷ ((x (ExprForm-F.Call (x (ExprForm-F.Conditional a b c)) (b ∷ []))), codes "(a ? b : c)(b)")
    ∷ ((x (ExprForm-F.New (x (ExprForm-F.Call a ([]))) ([]))), codes "new (a())()")
    ∷ ((x (ExprForm-F.New (x (ExprForm-F.Member a (codes "b"))) (c ∷ []))), codes "new a.b(c)")
    ∷ ((x (ExprForm-F.New (x (ExprForm-F.Member (x (ExprForm-F.Call a ([]))) (codes "b"))) ([]))), codes "new (a().b)()")
    ∷ ((x (ExprForm-F.New (x (ExprForm-F.Index (x (ExprForm-F.Call a ([]))) b)) ([]))), codes "new (a()[b])()")
    ∷ ((x (ExprForm-F.New (x (ExprForm-F.Index a (x (ExprForm-F.Call b ([]))))) ([]))), codes "new a[b()]()")
    ∷ ((x (ExprForm-F.New (x (ExprForm-F.New a ([]))) ([]))), codes "new new a()()")
    ∷ ((x (ExprForm-F.Member (x (ExprForm-F.New a ([]))) (codes "b"))), codes "new a().b")
    ∷ ((x (ExprForm-F.New (x (ExprForm-F.Unary unary.Not a)) ([]))), codes "new (!a)()")
    ∷ ((x (ExprForm-F.Unary unary.Not (x (ExprForm-F.New a ([]))))), codes "!new a()")
    ∷ []

abbrev pub literals : List (Printed × List ℕ)
literals =
    ((x (ExprForm-F.This)), codes "this")
    ∷ ((x (ExprForm-F.Literal primitive.Null)), codes "null")
    ∷ ((x (ExprForm-F.Literal (primitive.Boolean true))), codes "true")
    ∷ ((x (ExprForm-F.Literal (primitive.Boolean false))), codes "false")
    ∷ ((x (ExprForm-F.Literal (primitive.Number (pos 120)))), signed_decimal (pos 120))
    ∷ ((x (ExprForm-F.Assign a None (x (ExprForm-F.Literal (primitive.Text (codes "s t")))))), codes "a = \"s t\"")
    ∷ ((x (ExprForm-F.ArrayLit ([]))), codes "[]")
    ∷ ((x (ExprForm-F.ArrayLit (None ∷ []))), codes "[,]")
    ∷ ((x (ExprForm-F.ArrayLit (None ∷ None ∷ []))), codes "[,,]")
    ∷ ((x (ExprForm-F.ArrayLit (Some a ∷ None ∷ []))), codes "[a,,]")
    ∷ ((x (ExprForm-F.ArrayLit (Some a ∷ None ∷ Some b ∷ []))), codes "[a,, b]")
    ∷ ((x (ExprForm-F.ArrayLit (None ∷ Some a ∷ []))), codes "[, a]")
    ∷ ((x (ExprForm-F.Assign a None (x (ExprForm-F.ObjectLit ([]))))), codes "a = {}")
    ∷ ((x (ExprForm-F.Assign a None (x (ExprForm-F.Func (no 0))))), codes "a = function () {}")
    ∷ ((x (ExprForm-F.Input kind.Number (codes "n"))), codes "__abstract(\"number\", \"n\")")
    ∷ ((x (ExprForm-F.Input kind.Boolean (codes "n"))), codes "__abstract(\"boolean\", \"n\")")
    ∷ ((x (ExprForm-F.HostCall kind.Text (codes "t") [])), codes "__residual(\"string\", \"t\")")
    ∷ ((x (ExprForm-F.HostCall kind.Number (codes "t") (a ∷ (x (ExprForm-F.Comma b c)) ∷ []))), codes "__residual(\"number\", \"t\", a, (b, c))")
    ∷ []

-- ---- parentheses round a whole statement, and in a header

abbrev pub beginnings : List (Printed × List ℕ)
beginnings =
    ((x (ExprForm-F.ObjectLit ([]))), codes "({})")
    ∷ ((x (ExprForm-F.Member (x (ExprForm-F.ObjectLit ([]))) (codes "a"))), codes "({}.a)")
    ∷ ((x (ExprForm-F.Func (no 0))), codes "(function () {})")
    ∷ ((x (ExprForm-F.Call (x (ExprForm-F.Member (x (ExprForm-F.Func (no 0))) (codes "call"))) ((x (ExprForm-F.This)) ∷ []))), codes "(function () {}.call(this))")
    ∷ ((x (ExprForm-F.Literal (primitive.Text (codes "s")))), codes "(\"s\")")
    ∷ ((x (ExprForm-F.Binary binary.Add (x (ExprForm-F.Literal (primitive.Text (codes "s")))) a)), codes "(\"s\" + a)")
    ∷ ((x (ExprForm-F.Conditional (x (ExprForm-F.Literal (primitive.Text (codes "s")))) a b)), codes "(\"s\" ? a : b)")
    ∷ ((x (ExprForm-F.Logic logic.And (x (ExprForm-F.Func (no 0))) a)), codes "(function () {} && a)")
    ∷ ((x (ExprForm-F.Comma (x (ExprForm-F.Index (x (ExprForm-F.ObjectLit ([]))) a)) b)), codes "({}[a], b)")
    ∷ ((x (ExprForm-F.Assign (x (ExprForm-F.Member (x (ExprForm-F.ObjectLit ([]))) (codes "a"))) None b)), codes "({}.a = b)")
    ∷ ((x (ExprForm-F.Step step.PostUp (x (ExprForm-F.Member (x (ExprForm-F.Func (no 0))) (codes "a"))))), codes "(function () {}.a++)")
    ∷ ((x (ExprForm-F.Call (x (ExprForm-F.Comma (x (ExprForm-F.Literal (primitive.Text (codes "s")))) a)) ([]))), codes "(\"s\", a)()")
    ∷ ((x (ExprForm-F.Unary unary.Not (x (ExprForm-F.Func (no 0))))), codes "!function () {}")
    ∷ ((x (ExprForm-F.New (x (ExprForm-F.Func (no 0))) ([]))), codes "new function () {}()")
    ∷ ((x (ExprForm-F.ArrayLit (Some (x (ExprForm-F.Literal (primitive.Text (codes "s")))) ∷ []))), codes "[\"s\"]")
    ∷ []

abbrev pub headers : List (Printed × List ℕ)
headers =
    ((x (ExprForm-F.Binary binary.In a b)), codes "(a in b)")
    ∷ ((x (ExprForm-F.Conditional a (x (ExprForm-F.Binary binary.In a b)) c)), codes "a ? a in b : c")
    ∷ ((x (ExprForm-F.Conditional a b (x (ExprForm-F.Binary binary.In b c)))), codes "a ? b : (b in c)")
    ∷ ((x (ExprForm-F.Conditional (x (ExprForm-F.Binary binary.In a b)) b c)), codes "(a in b) ? b : c")
    ∷ ((x (ExprForm-F.Call a ((x (ExprForm-F.Binary binary.In b c)) ∷ []))), codes "a(b in c)")
    ∷ ((x (ExprForm-F.Index a (x (ExprForm-F.Binary binary.In b c)))), codes "a[b in c]")
    ∷ ((x (ExprForm-F.Assign a None (x (ExprForm-F.Binary binary.In b c)))), codes "a = (b in c)")
    ∷ ((x (ExprForm-F.Comma a (x (ExprForm-F.Binary binary.In b c)))), codes "a, (b in c)")
    ∷ ((x (ExprForm-F.Unary unary.Not (x (ExprForm-F.Binary binary.In a b)))), codes "!(a in b)")
    ∷ ((x (ExprForm-F.Binary binary.Add (x (ExprForm-F.Binary binary.In a b)) c)), codes "(a in b) + c")
    ∷ ((x (ExprForm-F.Binary binary.Less a b)), codes "a < b")
    ∷ []

-- ---- statements (12), where expressions are names

abbrev pub t : StmtForm-F Shown (List Piece) (List Piece) (List Piece) Shown → Shown
t form = statements.of_form function form

abbrev pub k : Case-F Shown (List Piece) (List Piece) (List Piece) Shown → List Piece
k clause = statements.of_case function clause

abbrev pub h : Catch-F Shown (List Piece) (List Piece) (List Piece) Shown → List Piece
h handler = statements.of_catch function handler

abbrev pub l : Finally-F Shown (List Piece) (List Piece) (List Piece) Shown → List Piece
l last = statements.of_finally function last

abbrev pub d : Expr
d = expr 0 (e.Name (codes "d"))

abbrev pub v : Option Expr → Declarator
v init = declarator 0 (codes "d") init

abbrev pub statement_forms : List (Shown × List ℕ)
statement_forms =
    ((t (StmtForm-F.Empty)), codes ";")
    ∷ ((t (StmtForm-F.Block ([]))), codes "{}")
    ∷ ((t (StmtForm-F.Block ((t (StmtForm-F.Continue)) ∷ (t (StmtForm-F.Break)) ∷ []))), codes "{\n  continue;\n  break;\n}")
    ∷ ((t (StmtForm-F.Block ((t (StmtForm-F.Block ((t (StmtForm-F.Empty)) ∷ []))) ∷ []))), codes "{\n  {\n    ;\n  }\n}")
    ∷ ((t (StmtForm-F.Return None)), codes "return;")
    ∷ ((t (StmtForm-F.Return (Some d))), codes "return d;")
    ∷ ((t (StmtForm-F.Throw d)), codes "throw d;")
    ∷ ((t (StmtForm-F.Eval d)), codes "d;")
    ∷ ((t (StmtForm-F.Var (v None ∷ v (Some d) ∷ []))), codes "var d, d = d;")
    ∷ ((t (StmtForm-F.FuncDecl (no 0))), codes "function () {}")
    ∷ ((t (StmtForm-F.If d (t (StmtForm-F.Eval d)) None)), codes "if (d) d;")
    ∷ ((t (StmtForm-F.If d (t (StmtForm-F.Eval d)) (Some (t (StmtForm-F.Empty))))), codes "if (d) d;\nelse;")
    ∷ ((t (StmtForm-F.If d (t (StmtForm-F.Block ([]))) (Some (t (StmtForm-F.Block ([])))))), codes "if (d) {} else {}")
    ∷ ((t (StmtForm-F.If d (t (StmtForm-F.While d (t (StmtForm-F.Block ([]))))) (Some (t (StmtForm-F.Eval d))))), codes "if (d) while (d) {}\nelse d;")
    ∷ ((t (StmtForm-F.If d (t (StmtForm-F.Block ([]))) (Some (t (StmtForm-F.If d (t (StmtForm-F.Empty)) None))))), codes "if (d) {} else if (d);")
    ∷ ((t (StmtForm-F.DoWhile (t (StmtForm-F.Block ((t (StmtForm-F.Empty)) ∷ []))) d)), codes "do {\n  ;\n} while (d);")
    ∷ ((t (StmtForm-F.DoWhile (t (StmtForm-F.Empty)) d)), codes "do;\nwhile (d);")
    ∷ ((t (StmtForm-F.DoWhile (t (StmtForm-F.While d (t (StmtForm-F.Block ([]))))) d)), codes "do while (d) {} while (d);")
    ∷ ((t (StmtForm-F.While d (t (StmtForm-F.Empty)))), codes "while (d);")
    ∷ ((t (StmtForm-F.For start.Nothing None None (t (StmtForm-F.Empty)))), codes "for (;;);")
    ∷ ((t (StmtForm-F.For (start.Expr d) (Some d) (Some d) (t (StmtForm-F.Continue)))), codes "for (d; d; d) continue;")
    ∷ ((t (StmtForm-F.For (start.Var (v None ∷ v (Some d) ∷ [])) None (Some d) (t (StmtForm-F.Block ([]))))), codes "for (var d, d = d;; d) {}")
    ∷ ((t (StmtForm-F.ForIn (target.Expr d) d (t (StmtForm-F.Empty)))), codes "for (d in d);")
    ∷ ((t (StmtForm-F.ForIn (target.Var (place 0) (codes "d")) d (t (StmtForm-F.Block ([]))))), codes "for (var d in d) {}")
    ∷ ((t (StmtForm-F.Switch d [])), codes "switch (d) { }")
    ∷ ((t (StmtForm-F.Switch d (k (record { test = Some d; body = (t (StmtForm-F.Break)) ∷ [] }) ∷ k (record { test = None; body = [] }) ∷ []))), codes "switch (d) {\n  case d:\n    break;\n  default:\n}")
    ∷ ((t (StmtForm-F.Try [] (Some (h (record { at = place 0; name = codes "d"; body = [] }))) None)), codes "try {} catch (d) {}")
    ∷ ((t (StmtForm-F.Try ((t (StmtForm-F.Empty)) ∷ []) None (Some (l (record { body = (t (StmtForm-F.Empty)) ∷ [] }))))), codes "try {\n  ;\n} finally {\n  ;\n}")
    ∷ ((t (StmtForm-F.Try [] (Some (h (record { at = place 0; name = codes "d"; body = (t (StmtForm-F.Empty)) ∷ [] }))) (Some (l (record { body = [] }))))), codes "try {} catch (d) {\n  ;\n} finally {}")
    ∷ []

-- a number is grouped before a point, and not before an index (7.8.3)
abbrev pub one : Printed
one = x (ExprForm-F.Literal (primitive.Number (pos 1)))

abbrev pub digits : List Piece
digits = Number (pos 1) ∷ []

pub record PrintCases : Type 0 where
  pub number_grouped :
      (x (ExprForm-F.Member one (codes "a"))).pieces true ≡ opening (codes "(") ++ digits ++ closing (codes ")") ++ inner (codes ".") ++ name (codes "a")
  pub number_bare : (x (ExprForm-F.Index one a)).pieces true ≡ digits ++ index a
  pub operators_printed : ArePrinted operators
  pub loose_printed : ArePrinted loose_forms
  pub prefixes_printed : ArePrinted prefixes
  pub members_printed : ArePrinted members
  pub literals_printed : ArePrinted literals
  pub beginnings_printed : ArePrinted beginnings
  pub headers_printed : map (λ row. header row.0) headers ≡ map (λ row. row.1) headers
  pub statements_printed : map (λ row. text_of row.0.pieces) statement_forms ≡ map (λ row. row.1) statement_forms
