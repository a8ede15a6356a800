-- Cases of whole residuals, of their creations and of their freshness, worked out by hand: each tree behind its text.
use Rattle.std.specs.Prelude.{◌≡◌, ℕ, true, false, codes, List, [], ◌∷◌, map, Some, None}
use Rattle.js_tree.specs.declared.expression.ExprForm.TheVariants as e
use Rattle.js_tree.specs.declared.expression.Field.TheVariants as field
use Rattle.js_value.specs.declared.primitive.Primitive.TheVariants as primitive
use Rattle.js_tree.specs.declared.statement.Declarator.{Declarator}
use Rattle.js_tree.specs.declared.statement.ForTarget.TheVariants as target
use Rattle.js_tree.specs.declared.statement.Script.{Script}
use Rattle.js_tree.specs.declared.statement.Stmt.{Stmt}
use Rattle.js_tree.specs.declared.statement.StmtForm.TheVariants as s
use Rattle.js_tree.specs.Refusals.{place}
use Rattle.js_tree.specs.Trees.{name, no, declared, func, handler, script}
use Rattle.residual_form.specs.FormCases.{x, t, u, v, this, one, text, of, call, array, function, host, minus, stmt, eval, set, block, declarator, var, nameless, wrapper, wrapped, use_of, object}
use Rattle.residual_form.specs.Form.{is_residual, is_fresh}
use Rattle.residual_form.specs.Creations.{creations}

-- var DECLARATORS ;
abbrev pub variables : List Declarator → Stmt
variables ds = stmt (s.Var ds)

-- throw t ;
abbrev pub thrown : Stmt
thrown = stmt (s.Throw t)

-- ---- the script

abbrev pub scripts : List Script
scripts =
    -- nothing
    script [] []
    -- var a = 1 , b , c = - 1 , d = undefined ;
    ∷ script (variables (declarator (codes "a") (Some one) ∷ declarator (codes "b") None ∷ declarator (codes "c") (Some (minus one)) ∷ declarator (codes "d") (Some (name 0 (codes "undefined"))) ∷ []) ∷ []) []
    -- ( function ( ) { } ) . call ( this ) ;
    ∷ wrapped [] []
    -- var a ; ( function ( ) { } ) . call ( this ) ;
    ∷ script (var (codes "a" ∷ []) ∷ wrapper ∷ []) (nameless [] ∷ [])
    ∷ []

abbrev pub no_scripts : List Script
no_scripts =
    -- var a = b ;
    script (variables (declarator (codes "a") (Some (name 0 (codes "b"))) ∷ []) ∷ []) []
    -- var a = "__proto__" ;
    ∷ script (variables (declarator (codes "a") (Some (text (codes "__proto__"))) ∷ []) ∷ []) []
    -- var a ; var b ;
    ∷ script (var (codes "a" ∷ []) ∷ var (codes "b" ∷ []) ∷ []) []
    -- this . a = 1 ;
    ∷ script (set (of this (codes "a")) one ∷ []) []
    -- ( function ( ) { } ) . call ( this ) ; var a ;
    ∷ script (wrapper ∷ var (codes "a" ∷ []) ∷ []) (nameless [] ∷ [])
    -- ( function ( ) { } ) . call ( ) ;
    ∷ script (eval (call (of (function 0) (codes "call")) []) ∷ []) (nameless [] ∷ [])
    -- ( function ( ) { } ) . apply ( this ) ;
    ∷ script (eval (call (of (function 0) (codes "apply")) (this ∷ [])) ∷ []) (nameless [] ∷ [])
    -- ( function ( ) { } ) ( this ) ;
    ∷ script (eval (call (function 0) (this ∷ [])) ∷ []) (nameless [] ∷ [])
    -- "use strict" ;
    ∷ record { directive = true; body = []; funcs = [] }
    -- ( function ( ) { "use strict" ; } ) . call ( this ) ;
    ∷ script (wrapper ∷ []) (record { at = place 0; name = None; params = []; directive = true; body = [] } ∷ [])
    -- ( function a ( ) { } ) . call ( this ) ;
    ∷ script (wrapper ∷ []) (func 0 (Some (declared 0 (codes "a"))) [] [] ∷ [])
    -- ( function ( a ) { } ) . call ( this ) ;
    ∷ script (wrapper ∷ []) (func 0 None (declared 0 (codes "a") ∷ []) [] ∷ [])
    ∷ []

-- ---- the end

abbrev pub ends : List (List Stmt)
ends =
    -- throw t ;
    (thrown ∷ [])
    -- if ( t ) { throw t ; }
    ∷ (stmt (s.If t (block (thrown ∷ [])) None) ∷ [])
    ∷ []

abbrev pub no_ends : List (List Stmt)
no_ends =
    -- throw t ; this . a = t ;
    (thrown ∷ use_of t ∷ [])
    -- if ( t ) { throw t ; } else { }
    ∷ (stmt (s.If t (block (thrown ∷ [])) (Some (block []))) ∷ [])
    -- if ( t ) { this . a = t ; throw t ; }
    ∷ (stmt (s.If t (block (use_of t ∷ thrown ∷ [])) None) ∷ [])
    -- throw [ t ] ;
    ∷ (stmt (s.Throw (array (t ∷ []))) ∷ [])
    ∷ []

-- var t ; t = 1 ; STATEMENTS
abbrev pub ending : List Stmt → Script
ending ss = wrapped (var (codes "t" ∷ []) ∷ set t one ∷ ss) []

-- ---- temporaries

-- this . a = function ( ) { .. } ;
abbrev pub function_used : Stmt
function_used = use_of (function 1)

-- return t ;
abbrev pub returned : Stmt
returned = stmt (s.Return (Some t))

abbrev pub needed : List Script
needed =
    -- var t ; t = 1 ; this . a = t ;
    wrapped (var (codes "t" ∷ []) ∷ set t one ∷ use_of t ∷ []) []
    -- var t ; t = __residual ( "number" , "n" ) ;
    ∷ wrapped (var (codes "t" ∷ []) ∷ set t (host []) ∷ []) []
    -- var t ; if ( t ) { }
    ∷ wrapped (var (codes "t" ∷ []) ∷ stmt (s.If t (block []) None) ∷ []) []
    -- var t ; t = 1 ; this . a = function ( ) { return t ; } ;
    ∷ wrapped (var (codes "t" ∷ []) ∷ set t one ∷ function_used ∷ []) (nameless (returned ∷ []) ∷ [])
    -- var t ; this . a = function ( ) { t = 1 ; } ;
    ∷ wrapped (var (codes "t" ∷ []) ∷ function_used ∷ []) (nameless (set t one ∷ []) ∷ [])
    ∷ []

abbrev pub unneeded : List Script
unneeded =
    -- var t ;
    wrapped (var (codes "t" ∷ []) ∷ []) []
    -- var t ; t = 1 ;
    ∷ wrapped (var (codes "t" ∷ []) ∷ set t one ∷ []) []
    -- var t = 1 ; this . a = t ;
    ∷ wrapped (variables (declarator (codes "t") (Some one) ∷ []) ∷ use_of t ∷ []) []
    -- var t , u ; t = u ;
    ∷ wrapped (var (codes "t" ∷ codes "u" ∷ []) ∷ set t u ∷ []) []
    -- var t ; this . t = 1 ;
    ∷ wrapped (var (codes "t" ∷ []) ∷ set (of this (codes "t")) one ∷ []) []
    -- var t ; t = 1 ; this . a = function ( ) { var t ; return t ; } ;
    ∷ wrapped (var (codes "t" ∷ []) ∷ set t one ∷ function_used ∷ []) (nameless (var (codes "t" ∷ []) ∷ returned ∷ []) ∷ [])
    -- var t ; t = 1 ; this . a = function ( t ) { return t ; } ;
    ∷ wrapped (var (codes "t" ∷ []) ∷ set t one ∷ function_used ∷ []) (func 0 None (declared 0 (codes "t") ∷ []) (returned ∷ []) ∷ [])
    -- this . a = function b ( ) { } ;
    ∷ wrapped (function_used ∷ []) (func 0 (Some (declared 0 (codes "b"))) [] [] ∷ [])
    -- in no text: a function that isn't there
    ∷ wrapped (function_used ∷ []) []
    -- var t ; t = this . Object . create ; this . a = function ( ) { t = 1 ; } ; this . b = t ( null ) ;
    ∷ wrapped (var (codes "t" ∷ []) ∷ set t (object (codes "create")) ∷ function_used ∷ set (of this (codes "b")) (call t (x (e.Literal primitive.Null) ∷ [])) ∷ []) (nameless (set t one ∷ []) ∷ [])
    ∷ []

-- ---- creations

abbrev pub creation_rows : List (Script × ℕ)
creation_rows =
    -- var a = 1 ;
    (script (variables (declarator (codes "a") (Some one) ∷ []) ∷ []) [], 0)
    -- this . a = [ [ ] , { b : [ ] } , 1 ] ;
    ∷ (wrapped (use_of (array (array [] ∷ x (e.ObjectLit (field.Value (place 0) (codes "b") (array []) ∷ [])) ∷ one ∷ [])) ∷ []) [], 4)
    -- this . a = function ( ) { return [ ] ; } ;
    ∷ (wrapped (function_used ∷ []) (nameless (stmt (s.Return (Some (array []))) ∷ []) ∷ []), 1)
    -- if ( this ) { this . a = [ ] ; } else { this . a = this ? [ ] : { } ; }
    ∷ (wrapped (stmt (s.If this (block (use_of (array []) ∷ [])) (Some (block (use_of (x (e.Conditional this (array []) (x (e.ObjectLit [])))) ∷ [])))) ∷ []) [], 3)
    -- var t , u ; t = this . Object . create ; u = this . Object . preventExtensions ; this . a = [ t ( null ) ] ; u ( this ) ;
    ∷ (wrapped (var (codes "t" ∷ codes "u" ∷ []) ∷ set t (object (codes "create")) ∷ set u (object (codes "preventExtensions")) ∷ use_of (array (call t (x (e.Literal primitive.Null) ∷ []) ∷ [])) ∷ eval (call u (this ∷ [])) ∷ []) [], 2)
    -- not in residual form: this . a = [ ] ;
    ∷ (script (use_of (array []) ∷ []) [], 0)
    -- not in residual form: a temporary that isn't needed
    ∷ (wrapped (var (codes "t" ∷ []) ∷ use_of (array []) ∷ []) [], 0)
    ∷ []

-- ---- freshness

-- the residual with the one temporary t
abbrev pub with_t : Script
with_t = wrapped (var (codes "t" ∷ []) ∷ use_of t ∷ []) []

abbrev pub fresh_sources : List Script
fresh_sources =
    -- var v ;
    script (var (codes "v" ∷ []) ∷ []) []
    -- this . t = { t : "t" } ;
    ∷ script (set (of this (codes "t")) (x (e.ObjectLit (field.Value (place 0) (codes "t") (text (codes "t")) ∷ []))) ∷ []) []
    ∷ []

abbrev pub stale_sources : List Script
stale_sources =
    -- t ;
    script (eval t ∷ []) []
    -- t = 1 ;
    ∷ script (set t one ∷ []) []
    -- var t ;
    ∷ script (var (codes "t" ∷ []) ∷ []) []
    -- for ( var t in v ) ;
    ∷ script (stmt (s.ForIn (target.Var (place 0) (codes "t")) v (stmt s.Empty)) ∷ []) []
    -- try { } catch ( t ) { }
    ∷ script (stmt (s.Try [] (Some (handler 0 (codes "t") [])) None) ∷ []) []
    -- function t ( ) { }
    ∷ script (stmt (s.FuncDecl (no 0)) ∷ []) (func 0 (Some (declared 0 (codes "t"))) [] [] ∷ [])
    -- ( function ( t ) { } ) ;
    ∷ script (eval (function 0) ∷ []) (func 0 None (declared 0 (codes "t") ∷ []) [] ∷ [])
    -- ( function ( ) { return [ v , t ] ; } ) ;
    ∷ script (eval (function 0) ∷ []) (nameless (stmt (s.Return (Some (array (v ∷ t ∷ [])))) ∷ []) ∷ [])
    ∷ []

pub record WholeCases : Type 0 where
  pub forms : map is_residual scripts ≡ map (λ _. true) scripts
  pub no_forms : map is_residual no_scripts ≡ map (λ _. false) no_scripts
  pub thrown_last : map (λ ss. is_residual (ending ss)) ends ≡ map (λ _. true) ends
  pub not_last : map (λ ss. is_residual (ending ss)) no_ends ≡ map (λ _. false) no_ends
  pub all_needed : map is_residual needed ≡ map (λ _. true) needed
  pub some_unneeded : map is_residual unneeded ≡ map (λ _. false) unneeded
  pub made : map (λ row. creations row.0) creation_rows ≡ map (λ row. row.1) creation_rows
  pub fresh : map (is_fresh with_t) fresh_sources ≡ map (λ _. true) fresh_sources
  pub stale : map (is_fresh with_t) stale_sources ≡ map (λ _. false) stale_sources
