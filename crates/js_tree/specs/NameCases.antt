-- Cases of free names (10.2.2, 13) and of hoisted names (10.5), worked out by hand: each tree behind its text. No place decides anything here: each is 0.
use Rattle.std.specs.Prelude.{◌≡◌, ℕ, codes, List, [], ◌∷◌, map, Some, None}
use Rattle.js_value.specs.declared.operator.BinaryOp.TheVariants as binary
use Rattle.js_value.specs.declared.place.FuncNo.{FuncNo}
use Rattle.js_value.specs.declared.primitive.Kind.TheVariants as kind
use Rattle.js_tree.specs.declared.expression.Expr.{Expr}
use Rattle.js_tree.specs.declared.expression.ExprForm.{ExprForm}
use Rattle.js_tree.specs.declared.expression.ExprForm.TheVariants as e
use Rattle.js_tree.specs.declared.expression.Field.TheVariants as field
use Rattle.js_tree.specs.declared.expression.StepOp.TheVariants as step
use Rattle.js_tree.specs.declared.statement.Func.{Func}
use Rattle.js_tree.specs.declared.statement.ForStart.TheVariants as start
use Rattle.js_tree.specs.declared.statement.ForTarget.TheVariants as target
use Rattle.js_tree.specs.declared.statement.Script.{Script}
use Rattle.js_tree.specs.declared.statement.Stmt.{Stmt}
use Rattle.js_tree.specs.declared.statement.StmtForm.TheVariants as s
use Rattle.js_tree.specs.Mentions.{Names, hoisted_vars, hoisted_functions, free_names}
use Rattle.js_tree.specs.Refusals.{place}
use Rattle.js_tree.specs.Trees.{expr, name, stmt, no, declared, declarator, func, clause, handler, final, script}

abbrev pub n : List ℕ → Expr
n text = name 0 text

-- a name as a statement
abbrev pub read : List ℕ → Stmt
read text = stmt 0 (s.Eval (n text))

abbrev pub eval : ExprForm → Stmt
eval x = stmt 0 (s.Eval (expr 0 x))

-- TEXT = x
abbrev pub assigned : List ℕ → Expr → Stmt
assigned text x = eval (e.Assign (n text) None x)

-- a function expression, which is the function with a number
abbrev pub function : ℕ → Expr
function f = expr 0 (e.Func (no f))

-- a declaration of the function with a number
abbrev pub declaring : ℕ → Stmt
declaring f = stmt 0 (s.FuncDecl (no f))

-- var TEXT
abbrev pub var : List ℕ → Stmt
var text = stmt 0 (s.Var (declarator 0 text None ∷ []))

-- { BODY }
abbrev pub block : List Stmt → Stmt
block body = stmt 0 (s.Block body)

abbrev pub named : List ℕ → List Stmt → Func
named text body = func 0 (Some (declared 0 text)) [] body

abbrev pub nameless : List Stmt → Func
nameless body = func 0 None [] body

-- a script that declares the first of its functions
abbrev pub declares : List Func → Script
declares functions = script (declaring 0 ∷ []) functions

-- ---- free names: a script, the number of a function, and its free names

-- in the order in which they come first, each once
abbrev pub order_rows : List (Script × ℕ × Names)
order_rows =
    -- function f ( ) { }
    (declares (named (codes "f") [] ∷ []), 0, [])
    -- function f ( ) { b ; c = b ; a }
    ∷ (declares (named (codes "f") (read (codes "b") ∷ assigned (codes "c") (n (codes "b")) ∷ read (codes "a") ∷ []) ∷ []), 0, codes "b" ∷ codes "c" ∷ codes "a" ∷ [])
    -- function f ( ) { b [ a ] ( c , d ) }
    ∷ (
      declares (named (codes "f") (eval (e.Call (expr 0 (e.Index (n (codes "b")) (n (codes "a")))) (n (codes "c") ∷ n (codes "d") ∷ [])) ∷ []) ∷ []),
      0,
      codes "b" ∷ codes "a" ∷ codes "c" ∷ codes "d" ∷ [],
    )
    -- function f ( ) { for ( a in b ) c ++ ; d += a }
    ∷ (
      declares (named (codes "f") (stmt 0 (s.ForIn (target.Expr (n (codes "a"))) (n (codes "b")) (eval (e.Step step.PostUp (n (codes "c")))))
          ∷ eval (e.Assign (n (codes "d")) (Some binary.Add) (n (codes "a")))
          ∷ []) ∷ []),
      0,
      codes "a" ∷ codes "b" ∷ codes "c" ∷ codes "d" ∷ [],
    )
    ∷ []

-- neither `this` nor the name of a property or of an input is one; a function that is not there has none
abbrev pub named_rows : List (Script × ℕ × Names)
named_rows =
    -- function f ( ) { this . a ; __abstract ( "number" , "b" ) ; ( { c : d } ) }
    (
      declares (named (codes "f") (eval (e.Member (expr 0 e.This) (codes "a"))
          ∷ eval (e.Input kind.Number (codes "b"))
          ∷ eval (e.ObjectLit (field.Value (place 0) (codes "c") (n (codes "d")) ∷ []))
          ∷ []) ∷ []),
      0,
      codes "d" ∷ [],
    )
    -- function f ( ) { }, and a function that isn't there
    ∷ (declares (named (codes "f") [] ∷ []), 1, [])
    ∷ []

-- parameters and hoisted names are bound
abbrev pub bound_rows : List (Script × ℕ × Names)
bound_rows =
    -- function f ( a ) { a ; b }
    (declares (func 0 (Some (declared 0 (codes "f"))) (declared 0 (codes "a") ∷ []) (read (codes "a") ∷ read (codes "b") ∷ []) ∷ []), 0, codes "b" ∷ [])
    -- function f ( ) { a ; b ; { var a } }
    ∷ (declares (named (codes "f") (read (codes "a") ∷ read (codes "b") ∷ block (var (codes "a") ∷ []) ∷ []) ∷ []), 0, codes "b" ∷ [])
    -- function f ( ) { g ; a ; function g ( ) { g ; b } }
    ∷ (
      declares (named (codes "f") (read (codes "g") ∷ read (codes "a") ∷ declaring 1 ∷ [])
          ∷ named (codes "g") (read (codes "g") ∷ read (codes "b") ∷ [])
          ∷ []),
      0,
      codes "a" ∷ codes "b" ∷ [],
    )
    ∷ []

-- the own name of a function is among its free names
abbrev pub own_rows : List (Script × ℕ × Names)
own_rows =
    -- function f ( ) { f ; a }
    (declares (named (codes "f") (read (codes "f") ∷ read (codes "a") ∷ []) ∷ []), 0, codes "f" ∷ codes "a" ∷ [])
    -- x = function f ( ) { f ; a }
    ∷ (script (assigned (codes "x") (function 0) ∷ []) (named (codes "f") (read (codes "f") ∷ read (codes "a") ∷ []) ∷ []), 0, codes "f" ∷ codes "a" ∷ [])
    -- function f ( ) { a ; x = function g ( ) { g ; b ; a } }, of g
    ∷ (
      declares (named (codes "f") (read (codes "a") ∷ assigned (codes "x") (function 1) ∷ [])
          ∷ named (codes "g") (read (codes "g") ∷ read (codes "b") ∷ read (codes "a") ∷ [])
          ∷ []),
      1,
      codes "g" ∷ codes "b" ∷ codes "a" ∷ [],
    )
    ∷ []

-- an inner function expression binds its own name, its parameters and its hoisted names in itself alone
abbrev pub inner_rows : List (Script × ℕ × Names)
inner_rows =
    -- function f ( ) { x = function g ( ) { g ; b } ; g }
    (
      declares (named (codes "f") (assigned (codes "x") (function 1) ∷ read (codes "g") ∷ [])
          ∷ named (codes "g") (read (codes "g") ∷ read (codes "b") ∷ [])
          ∷ []),
      0,
      codes "x" ∷ codes "b" ∷ codes "g" ∷ [],
    )
    ∷ []

abbrev pub inner_own_rows : List (Script × ℕ × Names)
inner_own_rows =
    -- function f ( ) { x = function g ( ) { g = b } }
    (
      declares (named (codes "f") (assigned (codes "x") (function 1) ∷ [])
          ∷ named (codes "g") (assigned (codes "g") (n (codes "b")) ∷ [])
          ∷ []),
      0,
      codes "x" ∷ codes "b" ∷ [],
    )
    ∷ []

abbrev pub inner_bound_rows : List (Script × ℕ × Names)
inner_bound_rows =
    -- function f ( ) { x = function ( a ) { var b ; a ; b ; c } ; a }
    (
      declares (named (codes "f") (assigned (codes "x") (function 1) ∷ read (codes "a") ∷ [])
          ∷ func 0 None (declared 0 (codes "a") ∷ []) (var (codes "b") ∷ read (codes "a") ∷ read (codes "b") ∷ read (codes "c") ∷ [])
          ∷ []),
      0,
      codes "x" ∷ codes "c" ∷ codes "a" ∷ [],
    )
    ∷ []

-- a handler binds its name in its body (12.14)
abbrev pub catch_rows : List (Script × ℕ × Names)
catch_rows =
    -- function f ( ) { try { a } catch ( b ) { b ; c } finally { b } }
    (
      declares (named (codes "f") (stmt 0 (s.Try (read (codes "a") ∷ []) (Some (handler 0 (codes "b") (read (codes "b") ∷ read (codes "c") ∷ []))) (Some (final (read (codes "b") ∷ [])))) ∷ []) ∷ []),
      0,
      codes "a" ∷ codes "c" ∷ codes "b" ∷ [],
    )
    -- function f ( ) { try { } catch ( b ) { x = function ( ) { b ; a } } }
    ∷ (
      declares (named (codes "f") (stmt 0 (s.Try [] (Some (handler 0 (codes "b") (assigned (codes "x") (function 1) ∷ []))) None) ∷ [])
          ∷ nameless (read (codes "b") ∷ read (codes "a") ∷ [])
          ∷ []),
      0,
      codes "x" ∷ codes "a" ∷ [],
    )
    ∷ []

-- ---- hoisted variables: code, and the names that `var` declares in it, each once

abbrev pub var_rows : List (List Stmt × Names)
var_rows =
    ([], [])
    -- var b , a = b , b ; var c , a
    ∷ (
      stmt 0 (s.Var (declarator 0 (codes "b") None ∷ declarator 0 (codes "a") (Some (n (codes "b"))) ∷ declarator 0 (codes "b") None ∷ []))
          ∷ stmt 0 (s.Var (declarator 0 (codes "c") None ∷ declarator 0 (codes "a") None ∷ []))
          ∷ [],
      codes "b" ∷ codes "a" ∷ codes "c" ∷ [],
    )
    -- a = b ; for ( c in b ) d
    ∷ (assigned (codes "a") (n (codes "b")) ∷ stmt 0 (s.ForIn (target.Expr (n (codes "c"))) (n (codes "b")) (read (codes "d"))) ∷ [], [])
    -- { var b } if ( x ) var c ; else var a
    ∷ (block (var (codes "b") ∷ []) ∷ stmt 0 (s.If (n (codes "x")) (var (codes "c")) (Some (var (codes "a")))) ∷ [], codes "b" ∷ codes "c" ∷ codes "a" ∷ [])
    -- do var b ; while ( x ) while ( x ) { var a }
    ∷ (stmt 0 (s.DoWhile (var (codes "b")) (n (codes "x"))) ∷ stmt 0 (s.While (n (codes "x")) (block (var (codes "a") ∷ []))) ∷ [], codes "b" ∷ codes "a" ∷ [])
    -- for ( var b , c ; x ; x ) var a
    ∷ (
      stmt 0 (s.For (start.Var (declarator 0 (codes "b") None ∷ declarator 0 (codes "c") None ∷ [])) (Some (n (codes "x"))) (Some (n (codes "x"))) (var (codes "a")))
          ∷ [],
      codes "b" ∷ codes "c" ∷ codes "a" ∷ [],
    )
    -- for ( x ; ; ) var a
    ∷ (stmt 0 (s.For (start.Expr (n (codes "x"))) None None (var (codes "a"))) ∷ [], codes "a" ∷ [])
    -- for ( var b in x ) var a
    ∷ (stmt 0 (s.ForIn (target.Var (place 0) (codes "b")) (n (codes "x")) (var (codes "a"))) ∷ [], codes "b" ∷ codes "a" ∷ [])
    -- switch ( x ) { case x : var b ; default : var a ; { var c } }
    ∷ (
      stmt 0 (s.Switch (n (codes "x")) (clause (Some (n (codes "x"))) (var (codes "b") ∷ []) ∷ clause None (var (codes "a") ∷ block (var (codes "c") ∷ []) ∷ []) ∷ []))
          ∷ [],
      codes "b" ∷ codes "a" ∷ codes "c" ∷ [],
    )
    -- try { var c } catch ( d ) { var b } finally { var a }
    ∷ (
      stmt 0 (s.Try (var (codes "c") ∷ []) (Some (handler 0 (codes "d") (var (codes "b") ∷ []))) (Some (final (var (codes "a") ∷ []))))
          ∷ [],
      codes "c" ∷ codes "b" ∷ codes "a" ∷ [],
    )
    -- function f ( ) { var a } var b = function ( ) { var c }
    ∷ (declaring 0 ∷ stmt 0 (s.Var (declarator 0 (codes "b") (Some (function 1)) ∷ [])) ∷ [], codes "b" ∷ [])
    ∷ []

-- ---- hoisted functions: code, and the functions that it declares

abbrev pub function_rows : List (List Stmt × List FuncNo)
function_rows =
    ([], [])
    -- function g ( ) { } a ; function f ( ) { } function g ( ) { }
    ∷ (declaring 0 ∷ read (codes "a") ∷ declaring 1 ∷ declaring 2 ∷ [], no 0 ∷ no 1 ∷ no 2 ∷ [])
    -- a = function ( ) { } ; function f ( ) { function g ( ) { } }
    ∷ (assigned (codes "a") (function 0) ∷ declaring 1 ∷ [], no 1 ∷ [])
    -- var a
    ∷ (var (codes "a") ∷ [], [])
    -- in no text: { function f ( ) { } }
    ∷ (block (declaring 0 ∷ []) ∷ [], [])
    ∷ []

pub record NameCases : Type 0 where
  pub order : map (λ row. free_names row.0 (no row.1)) order_rows ≡ map (λ row. row.2) order_rows
  pub named : map (λ row. free_names row.0 (no row.1)) named_rows ≡ map (λ row. row.2) named_rows
  pub bound : map (λ row. free_names row.0 (no row.1)) bound_rows ≡ map (λ row. row.2) bound_rows
  pub own : map (λ row. free_names row.0 (no row.1)) own_rows ≡ map (λ row. row.2) own_rows
  pub inner : map (λ row. free_names row.0 (no row.1)) inner_rows ≡ map (λ row. row.2) inner_rows
  pub inner_own : map (λ row. free_names row.0 (no row.1)) inner_own_rows ≡ map (λ row. row.2) inner_own_rows
  pub inner_bound : map (λ row. free_names row.0 (no row.1)) inner_bound_rows ≡ map (λ row. row.2) inner_bound_rows
  pub catch : map (λ row. free_names row.0 (no row.1)) catch_rows ≡ map (λ row. row.2) catch_rows
  pub vars : map (λ row. hoisted_vars row.0) var_rows ≡ map (λ row. row.1) var_rows
  pub functions : map (λ row. hoisted_functions row.0) function_rows ≡ map (λ row. row.1) function_rows
