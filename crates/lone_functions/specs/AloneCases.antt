-- Cases of functions alone, worked out by hand: each script stands behind its text, with its places.
use Rattle.std.specs.Prelude.{◌≡◌, ℕ, codes, List, [], ◌∷◌, map, Some, None}
use Rattle.js_tree.specs.declared.expression.ExprForm.TheVariants as e
use Rattle.js_tree.specs.declared.expression.Field.TheVariants as field
use Rattle.js_tree.specs.declared.statement.ForTarget.TheVariants as target
use Rattle.js_tree.specs.declared.statement.Func.{Func}
use Rattle.js_tree.specs.declared.statement.Script.{Script}
use Rattle.js_tree.specs.declared.statement.Stmt.{Stmt}
use Rattle.js_tree.specs.declared.statement.StmtForm.TheVariants as s
use Rattle.js_tree.specs.Refusals.{place}
use Rattle.js_tree.specs.Trees.{expr, name, stmt, no, declared, declarator, func, handler, script}
use Rattle.lone_functions.specs.Alone.{alone}

-- a declaration of the function with a number
abbrev pub declaring : ℕ → ℕ → Stmt
declaring at f = stmt at (s.FuncDecl (no f))

-- TEXT ;
abbrev pub read : ℕ → List ℕ → Stmt
read at text = stmt at (s.Eval (name at text))

abbrev pub named : ℕ → ℕ → List ℕ → List Stmt → Func
named at name_at text body = func at (Some (declared name_at text)) [] body

abbrev pub nameless : List Stmt → Func
nameless body = func 0 None [] body

-- ( function .. ) with these functions
abbrev pub only : List Func → Script
only functions = script (stmt 0 (s.Eval (expr 0 (e.Func (no 0)))) ∷ []) functions

-- ---- a script, the number of a function, and that function alone

-- function f ( a ) { a }
abbrev pub small : Script
small = script (declaring 0 0 ∷ []) (func 0 (Some (declared 9 (codes "f"))) (declared 13 (codes "a") ∷ []) (read 19 (codes "a") ∷ []) ∷ [])

-- function f ( ) { function g ( ) { function h ( ) { } } }
abbrev pub nested : Script
nested =
    script (declaring 0 0 ∷ [])
    (named 0 9 (codes "f") (declaring 17 1 ∷ []) ∷ named 17 26 (codes "g") (declaring 34 2 ∷ []) ∷ named 34 43 (codes "h") [] ∷ [])

-- function f ( ) { function g ( ) { } function h ( ) { } } function k ( ) { }
abbrev pub siblings : Script
siblings =
    script (declaring 0 0 ∷ declaring 57 3 ∷ [])
    (named 0 9 (codes "f") (declaring 17 1 ∷ declaring 36 2 ∷ []) ∷ named 17 26 (codes "g") [] ∷ named 36 45 (codes "h") [] ∷ named 57 66 (codes "k") [] ∷ [])

abbrev pub number_rows : List (Script × ℕ × Script)
number_rows =
    -- ( function ( a ) { a } )
    (small, 0, only (func 0 None (declared 0 (codes "a") ∷ []) (read 0 (codes "a") ∷ []) ∷ []))
    -- a number that no function has
    ∷ (small, 1, only [])
    -- ( function ( ) { function g ( ) { function h ( ) { } } } )
    ∷ (nested, 0, only (nameless (declaring 0 1 ∷ []) ∷ named 0 0 (codes "g") (declaring 0 2 ∷ []) ∷ named 0 0 (codes "h") [] ∷ []))
    -- ( function ( ) { function h ( ) { } } )
    ∷ (nested, 1, only (nameless (declaring 0 1 ∷ []) ∷ named 0 0 (codes "h") [] ∷ []))
    -- ( function ( ) { function g ( ) { } function h ( ) { } } )
    ∷ (siblings, 0, only (nameless (declaring 0 1 ∷ declaring 0 2 ∷ []) ∷ named 0 0 (codes "g") [] ∷ named 0 0 (codes "h") [] ∷ []))
    -- ( function ( ) { } )
    ∷ (siblings, 1, only (nameless [] ∷ []))
    ∷ (siblings, 3, only (nameless [] ∷ []))
    ∷ []

-- function k ( ) { } function f ( ) { ( { get x ( ) { } , set y ( v ) { function g ( ) { } } , z : function h ( ) { } } ) ; }
abbrev pub accessors : Script
accessors =
    script (declaring 0 0 ∷ declaring 19 1 ∷ [])
    (named 0 9 (codes "k") []
    ∷ named 19 28 (codes "f") (stmt 38 (s.Eval (expr 38 (e.ObjectLit (
    field.Getter (place 44) (codes "x") (no 2)
    ∷ field.Setter (place 60) (codes "y") (no 3)
    ∷ field.Value (place 93) (codes "z") (expr 97 (e.Func (no 5)))
    ∷ [])))) ∷ [])
    ∷ func 40 None [] []
    ∷ func 56 None (declared 64 (codes "v") ∷ []) (declaring 70 4 ∷ [])
    ∷ named 70 79 (codes "g") []
    ∷ named 97 106 (codes "h") []
    ∷ [])

abbrev pub accessor_rows : List (Script × ℕ × Script)
accessor_rows =
    -- ( function ( ) { ( { get x ( ) { } , set y ( v ) { function g ( ) { } } , z : function h ( ) { } } ) ; } )
    (
      accessors,
      1,
      only
          (nameless (stmt 0 (s.Eval (expr 0 (e.ObjectLit (
          field.Getter (place 0) (codes "x") (no 1)
          ∷ field.Setter (place 0) (codes "y") (no 2)
          ∷ field.Value (place 0) (codes "z") (expr 0 (e.Func (no 4)))
          ∷ [])))) ∷ [])
          ∷ nameless []
          ∷ func 0 None (declared 0 (codes "v") ∷ []) (declaring 0 3 ∷ [])
          ∷ named 0 0 (codes "g") []
          ∷ named 0 0 (codes "h") []
          ∷ []),
    )
    -- ( function ( v ) { function g ( ) { } } )
    ∷ (accessors, 3, only (func 0 None (declared 0 (codes "v") ∷ []) (declaring 0 1 ∷ []) ∷ named 0 0 (codes "g") [] ∷ []))
    -- ( function ( ) { } )
    ∷ (accessors, 5, only (nameless [] ∷ []))
    ∷ []

-- function f ( ) { var a = b ; for ( var c in d ) ; try { } catch ( e ) { } }
abbrev pub statements : Script
statements =
    script (declaring 0 0 ∷ [])
    (named 0 9 (codes "f")
    (stmt 17 (s.Var (declarator 21 (codes "a") (Some (name 25 (codes "b"))) ∷ []))
    ∷ stmt 29 (s.ForIn (target.Var (place 39) (codes "c")) (name 44 (codes "d")) (stmt 48 s.Empty))
    ∷ stmt 50 (s.Try [] (Some (handler 66 (codes "e") [])) None)
    ∷ []) ∷ [])

abbrev pub place_rows : List (Script × ℕ × Script)
place_rows =
    -- ( function ( ) { var a = b ; for ( var c in d ) ; try { } catch ( e ) { } } )
    (
      statements,
      0,
      only (nameless
          (stmt 0 (s.Var (declarator 0 (codes "a") (Some (name 0 (codes "b"))) ∷ []))
          ∷ stmt 0 (s.ForIn (target.Var (place 0) (codes "c")) (name 0 (codes "d")) (stmt 0 s.Empty))
          ∷ stmt 0 (s.Try [] (Some (handler 0 (codes "e") [])) None)
          ∷ []) ∷ []),
    )
    ∷ []

pub record AloneCases : Type 0 where
  pub by_numbers : map (λ row. alone row.0 (no row.1)) number_rows ≡ map (λ row. row.2) number_rows
  pub with_accessors : map (λ row. alone row.0 (no row.1)) accessor_rows ≡ map (λ row. row.2) accessor_rows
  pub at_places : map (λ row. alone row.0 (no row.1)) place_rows ≡ map (λ row. row.2) place_rows
