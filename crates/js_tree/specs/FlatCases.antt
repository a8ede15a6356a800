-- Cases of host calls, closed scripts and flat scripts, worked out by hand: each tree behind its text. No place decides anything here: each is 0.
use Rattle.std.specs.Prelude.{◌≡◌, ℕ, Bool, true, false, codes, List, [], ◌∷◌, map, Some, None}
use Rattle.js_value.specs.declared.primitive.Kind.TheVariants as kind
use Rattle.js_tree.specs.declared.expression.Expr.{Expr}
use Rattle.js_tree.specs.declared.expression.ExprForm.{ExprForm}
use Rattle.js_tree.specs.declared.expression.ExprForm.TheVariants as e
use Rattle.js_tree.specs.declared.expression.Field.TheVariants as field
use Rattle.js_tree.specs.declared.statement.Func.{Func}
use Rattle.js_tree.specs.declared.statement.ForStart.TheVariants as start
use Rattle.js_tree.specs.declared.statement.ForTarget.TheVariants as target
use Rattle.js_tree.specs.declared.statement.Script.{Script}
use Rattle.js_tree.specs.declared.statement.Stmt.{Stmt}
use Rattle.js_tree.specs.declared.statement.StmtForm.TheVariants as s
use Rattle.js_tree.specs.Early.{host_forms, is_closed}
use Rattle.js_tree.specs.Flat.{is_flat}
use Rattle.js_tree.specs.Refusals.{place}
use Rattle.js_tree.specs.Trees.{expr, name, stmt, no, declared, declarator, func, clause, handler, final, script, one}

abbrev pub a : Expr
a = name 0 (codes "a")

abbrev pub b : Expr
b = name 0 (codes "b")

abbrev pub eval : ExprForm → Stmt
eval x = stmt 0 (s.Eval (expr 0 x))

-- a = x
abbrev pub assigned : ExprForm → Stmt
assigned x = eval (e.Assign a None (expr 0 x))

-- ;
abbrev pub empty : Stmt
empty = stmt 0 s.Empty

-- __abstract ( "number" , "n" )
abbrev pub input : Expr
input = expr 0 (e.Input kind.Number (codes "n"))

-- __residual ( "number" , "n" , ARGS )
abbrev pub host_with : List Expr → Expr
host_with args = expr 0 (e.HostCall kind.Number (codes "n") args)

-- __residual ( "number" , "n" )
abbrev pub host : Expr
host = host_with []

abbrev pub hosting : Stmt
hosting = stmt 0 (s.Eval host)

-- a ( )
abbrev pub call : Expr
call = expr 0 (e.Call a [])

-- a function expression, which is the function with a number
abbrev pub function : ℕ → Expr
function n = expr 0 (e.Func (no n))

-- ( function ( ) { .. } ) ( )
abbrev pub in_place : ℕ → Stmt
in_place n = eval (e.Call (function n) [])

-- function ( ) { BODY }
abbrev pub nameless : List Stmt → Func
nameless body = func 0 None [] body

-- function a ( ) { BODY }
abbrev pub named : List Stmt → Func
named body = func 0 (Some (declared 0 (codes "a"))) [] body

-- while ( b ) ;
abbrev pub turns : Stmt
turns = stmt 0 (s.While b empty)

-- ---- how many host calls

abbrev pub host_rows : List (Script × ℕ)
host_rows =
    -- ;
    (one empty, 0)
    -- __abstract ( "number" , "n" )
    ∷ (one (stmt 0 (s.Eval input)), 0)
    -- a ( )
    ∷ (one (stmt 0 (s.Eval call)), 0)
    -- __residual ( "number" , "n" )
    ∷ (one hosting, 1)
    -- __residual ( "number" , "n" , __residual ( "number" , "n" ) , a )
    ∷ (one (stmt 0 (s.Eval (host_with (host ∷ a ∷ [])))), 2)
    -- [ __residual ( "number" , "n" ) , , __residual ( "number" , "n" ) ]
    ∷ (one (eval (e.ArrayLit (Some host ∷ None ∷ Some host ∷ []))), 2)
    -- try { __residual ( "number" , "n" ) } catch ( a ) { __residual ( "number" , "n" ) } finally { __residual ( "number" , "n" ) }
    ∷ (one (stmt 0 (s.Try (hosting ∷ []) (Some (handler 0 (codes "a") (hosting ∷ []))) (Some (final (hosting ∷ []))))), 3)
    -- switch ( a ) { case __residual ( "number" , "n" ) : __residual ( "number" , "n" ) }
    ∷ (one (stmt 0 (s.Switch a (clause (Some host) (hosting ∷ []) ∷ []))), 2)
    -- function a ( ) { __residual ( "number" , "n" ) }
    ∷ (script (stmt 0 (s.FuncDecl (no 0)) ∷ []) (named (hosting ∷ []) ∷ []), 1)
    -- function a ( ) { function a ( ) { __residual ( "number" , "n" ) } } __residual ( "number" , "n" )
    ∷ (script (stmt 0 (s.FuncDecl (no 0)) ∷ hosting ∷ []) (named (stmt 0 (s.FuncDecl (no 1)) ∷ []) ∷ named (hosting ∷ []) ∷ []), 2)
    ∷ []

-- ---- neither an input nor a host call

abbrev pub closed_rows : List (Script × Bool)
closed_rows =
    -- ;
    (one empty, true)
    -- a ( )
    ∷ (one (stmt 0 (s.Eval call)), true)
    -- __abstract ( "number" , "n" )
    ∷ (one (stmt 0 (s.Eval input)), false)
    -- __residual ( "number" , "n" )
    ∷ (one hosting, false)
    -- var a = __abstract ( "number" , "n" )
    ∷ (one (stmt 0 (s.Var (declarator 0 (codes "a") (Some input) ∷ []))), false)
    -- function a ( ) { }
    ∷ (script (stmt 0 (s.FuncDecl (no 0)) ∷ []) (named [] ∷ []), true)
    -- function a ( ) { return __abstract ( "number" , "n" ) }
    ∷ (script (stmt 0 (s.FuncDecl (no 0)) ∷ []) (named (stmt 0 (s.Return (Some input)) ∷ []) ∷ []), false)
    ∷ []

-- ---- flat scripts

-- a function called in place is a function expression without a name that is itself the callee of a call
abbrev pub called_rows : List (Script × Bool)
called_rows =
    -- ( function ( ) { } ) ( )
    (script (in_place 0 ∷ []) (nameless [] ∷ []), true)
    -- ( function a ( ) { } ) ( )
    ∷ (script (in_place 0 ∷ []) (named [] ∷ []), false)
    -- a ( )
    ∷ (one (stmt 0 (s.Eval call)), false)
    -- ( a , function ( ) { } ) ( )
    ∷ (script (eval (e.Call (expr 0 (e.Comma a (function 0))) []) ∷ []) (nameless [] ∷ []), false)
    -- ( function ( ) { } ) . call ( )
    ∷ (script (eval (e.Call (expr 0 (e.Member (function 0) (codes "call"))) []) ∷ []) (nameless [] ∷ []), false)
    -- ( function ( ) { } ) ( ) ( )
    ∷ (script (eval (e.Call (expr 0 (e.Call (function 0) [])) []) ∷ []) (nameless [] ∷ []), false)
    -- ( function ( ) { } ) ( b )
    ∷ (script (eval (e.Call (function 0) (b ∷ [])) ∷ []) (nameless [] ∷ []), true)
    -- ( function ( ) { } ) ( a ( ) )
    ∷ (script (eval (e.Call (function 0) (call ∷ [])) ∷ []) (nameless [] ∷ []), false)
    -- new ( function ( ) { } ) ( )
    ∷ (script (eval (e.New (function 0) []) ∷ []) (nameless [] ∷ []), false)
    -- in no text: a function that its own number calls in place
    ∷ (script (in_place 0 ∷ []) (nameless (in_place 0 ∷ []) ∷ []), false)
    -- in no text: a function that isn't there
    ∷ (one (in_place 0), false)
    ∷ []

-- the flat part of a script is its global code and the bodies of the functions called in place in the flat part
abbrev pub part_rows : List (Script × Bool)
part_rows =
    -- while ( b ) ;
    (one turns, false)
    -- ( function ( ) { while ( b ) ; } ) ( )
    ∷ (script (in_place 0 ∷ []) (nameless (turns ∷ []) ∷ []), false)
    -- a = function ( ) { while ( b ) ; }
    ∷ (script (assigned (e.Func (no 0)) ∷ []) (nameless (turns ∷ []) ∷ []), true)
    -- function a ( ) { while ( b ) ; }
    ∷ (script (stmt 0 (s.FuncDecl (no 0)) ∷ []) (named (turns ∷ []) ∷ []), true)
    -- ( function ( ) { ( function ( ) { while ( b ) ; } ) ( ) } ) ( )
    ∷ (script (in_place 0 ∷ []) (nameless (in_place 1 ∷ []) ∷ nameless (turns ∷ []) ∷ []), false)
    -- ( function ( ) { ( function ( ) { } ) ( ) } ) ( )
    ∷ (script (in_place 0 ∷ []) (nameless (in_place 1 ∷ []) ∷ nameless [] ∷ []), true)
    -- ( function ( ) { a = function ( ) { while ( b ) ; } } ) ( )
    ∷ (script (in_place 0 ∷ []) (nameless (assigned (e.Func (no 1)) ∷ []) ∷ nameless (turns ∷ []) ∷ []), true)
    -- ( function ( ) { } ) ( ) ; ( function ( ) { while ( b ) ; } ) ( )
    ∷ (script (in_place 0 ∷ in_place 1 ∷ []) (nameless [] ∷ nameless (turns ∷ []) ∷ []), false)
    ∷ []

-- no loop, no call but of a function called in place, no `new`, no `throw`, no `try`, no accessor in an initialiser
abbrev pub flat_rows : List (Script × Bool)
flat_rows =
    -- ;
    (one empty, true)
    -- if ( a ) { b } else ;
    ∷ (one (stmt 0 (s.If a (stmt 0 (s.Block (stmt 0 (s.Eval b) ∷ []))) (Some empty))), true)
    -- if ( a ) ; else while ( b ) ;
    ∷ (one (stmt 0 (s.If a empty (Some turns))), false)
    -- switch ( a ) { case b : break }
    ∷ (one (stmt 0 (s.Switch a (clause (Some b) (stmt 0 s.Break ∷ []) ∷ []))), true)
    -- switch ( a ) { case a ( ) : }
    ∷ (one (stmt 0 (s.Switch a (clause (Some call) [] ∷ []))), false)
    -- do ; while ( b )
    ∷ (one (stmt 0 (s.DoWhile empty b)), false)
    -- for ( ; ; ) ;
    ∷ (one (stmt 0 (s.For start.Nothing None None empty)), false)
    -- for ( a in b ) ;
    ∷ (one (stmt 0 (s.ForIn (target.Expr a) b empty)), false)
    -- var a = a ( )
    ∷ (one (stmt 0 (s.Var (declarator 0 (codes "a") (Some call) ∷ []))), false)
    -- a = [ b , , a ( ) ]
    ∷ (one (assigned (e.ArrayLit (Some b ∷ None ∷ Some call ∷ []))), false)
    -- a = [ b , ]
    ∷ (one (assigned (e.ArrayLit (Some b ∷ None ∷ []))), true)
    -- new a
    ∷ (one (eval (e.New a [])), false)
    -- throw a
    ∷ (one (stmt 0 (s.Throw a)), false)
    -- try { } catch ( a ) { }
    ∷ (one (stmt 0 (s.Try [] (Some (handler 0 (codes "a") [])) None)), false)
    -- try { } finally { }
    ∷ (one (stmt 0 (s.Try [] None (Some (final [])))), false)
    -- a = { a : b }
    ∷ (one (assigned (e.ObjectLit (field.Value (place 0) (codes "a") b ∷ []))), true)
    -- a = { get a ( ) { } }
    ∷ (script (assigned (e.ObjectLit (field.Getter (place 0) (codes "a") (no 0) ∷ [])) ∷ []) (nameless [] ∷ []), false)
    -- a = { set a ( b ) { } }
    ∷ (script (assigned (e.ObjectLit (field.Setter (place 0) (codes "a") (no 0) ∷ [])) ∷ []) (func 0 None (declared 0 (codes "b") ∷ []) [] ∷ []), false)
    -- __abstract ( "number" , "n" )
    ∷ (one (stmt 0 (s.Eval input)), true)
    -- __residual ( "number" , "n" , b )
    ∷ (one (stmt 0 (s.Eval (host_with (b ∷ [])))), true)
    -- __residual ( "number" , "n" , a ( ) )
    ∷ (one (stmt 0 (s.Eval (host_with (call ∷ [])))), false)
    ∷ []

pub record FlatCases : Type 0 where
  pub hosts : map (λ row. host_forms row.0) host_rows ≡ map (λ row. row.1) host_rows
  pub closed : map (λ row. is_closed row.0) closed_rows ≡ map (λ row. row.1) closed_rows
  pub called : map (λ row. is_flat row.0) called_rows ≡ map (λ row. row.1) called_rows
  pub parts : map (λ row. is_flat row.0) part_rows ≡ map (λ row. row.1) part_rows
  pub flat : map (λ row. is_flat row.0) flat_rows ≡ map (λ row. row.1) flat_rows
