-- Cases of the residual form, worked out by hand: each tree behind its text. No place decides anything here: each is 0.
use Rattle.std.specs.Prelude.{◌≡◌, ℕ, true, false, codes, List, [], ◌∷◌, map, Option, Some, None, pos}
use Rattle.js_value.specs.declared.operator.BinaryOp.TheVariants as binary
use Rattle.js_value.specs.declared.operator.UnaryOp.TheVariants as unary
use Rattle.js_value.specs.declared.primitive.Kind.TheVariants as kind
use Rattle.js_value.specs.declared.primitive.Primitive.TheVariants as primitive
use Rattle.js_tree.specs.declared.expression.Expr.{Expr}
use Rattle.js_tree.specs.declared.expression.ExprForm.{ExprForm}
use Rattle.js_tree.specs.declared.expression.ExprForm.TheVariants as e
use Rattle.js_tree.specs.declared.expression.Field.TheVariants as field
use Rattle.js_tree.specs.declared.expression.LogicOp.TheVariants as logic
use Rattle.js_tree.specs.declared.statement.Declarator.{Declarator}
use Rattle.js_tree.specs.declared.statement.Func.{Func}
use Rattle.js_tree.specs.declared.statement.Script.{Script}
use Rattle.js_tree.specs.declared.statement.Stmt.{Stmt}
use Rattle.js_tree.specs.declared.statement.StmtForm.{StmtForm}
use Rattle.js_tree.specs.declared.statement.StmtForm.TheVariants as s
use Rattle.js_tree.specs.Refusals.{place}
use Rattle.js_tree.specs.Trees.{name, no, func, script}
use Rattle.js_tree.specs.Trees as tree
use Rattle.residual_form.specs.Bodies.{Body}
use Rattle.residual_form.specs.Statements.{is_statement, are_in_order}

-- ---- parts

abbrev pub x : ExprForm → Expr
x form = tree.expr 0 form

abbrev pub t : Expr
t = name 0 (codes "t")

abbrev pub u : Expr
u = name 0 (codes "u")

-- a name that is no temporary
abbrev pub v : Expr
v = name 0 (codes "v")

abbrev pub this : Expr
this = x e.This

abbrev pub one : Expr
one = x (e.Literal (primitive.Number (pos 1)))

abbrev pub text : List ℕ → Expr
text units = x (e.Literal (primitive.Text units))

abbrev pub of : Expr → List ℕ → Expr
of a key = x (e.Member a key)

abbrev pub at : Expr → Expr → Expr
at a key = x (e.Index a key)

abbrev pub call : Expr → List Expr → Expr
call callee args = x (e.Call callee args)

abbrev pub array : List Expr → Expr
array es = x (e.ArrayLit (map Some es))

-- a function expression, by the number of its function
abbrev pub function : ℕ → Expr
function n = x (e.Func (no n))

-- __residual ( "number" , "n" , ARGS )
abbrev pub host : List Expr → Expr
host args = x (e.HostCall kind.Number (codes "n") args)

abbrev pub plus : Expr → Expr → Expr
plus a b = x (e.Binary binary.Add a b)

abbrev pub minus : Expr → Expr
minus a = x (e.Unary unary.Minus a)

abbrev pub stmt : StmtForm → Stmt
stmt form = tree.stmt 0 form

abbrev pub eval : Expr → Stmt
eval a = stmt (s.Eval a)

-- TARGET = VALUE ;
abbrev pub set : Expr → Expr → Stmt
set target value = eval (x (e.Assign target None value))

abbrev pub block : List Stmt → Stmt
block body = stmt (s.Block body)

abbrev pub declarator : List ℕ → Option Expr → Declarator
declarator text init = tree.declarator 0 text init

-- var NAMES ;
abbrev pub var : List (List ℕ) → Stmt
var names = stmt (s.Var (map (λ n. declarator n None) names))

-- function ( ) { BODY }
abbrev pub nameless : List Stmt → Func
nameless body = func 0 None [] body

-- ( function ( ) { .. } ) . call ( this ) ;
abbrev pub wrapper : Stmt
wrapper = eval (call (of (function 0) (codes "call")) (this ∷ []))

-- ( function ( ) { BODY } ) . call ( this ) ; with further functions inside
abbrev pub wrapped : List Stmt → List Func → Script
wrapped body inner = script (wrapper ∷ []) (nameless body ∷ inner)

-- this . a = EXPR ;
abbrev pub use_of : Expr → Stmt
use_of a = set (of this (codes "a")) a

-- a body with the temporaries t and u and these statements
abbrev pub body : List Stmt → Body
body ss = record { temporaries = declarator (codes "t") None ∷ declarator (codes "u") None ∷ []; statements = ss; inner = [] }

-- this . Object . KEY
abbrev pub object : List ℕ → Expr
object key = of (of this (codes "Object")) key

-- ---- statements

abbrev pub statements : List Stmt
statements =
    -- t = u ;
    set t u
    -- t = this ;
    ∷ set t this
    -- t = null ;
    ∷ set t (x (e.Literal primitive.Null))
    -- t = true ;
    ∷ set t (x (e.Literal (primitive.Boolean true)))
    -- t = undefined ;
    ∷ set t (name 0 (codes "undefined"))
    -- t = "b" ;
    ∷ set t (text (codes "b"))
    -- t = 1 ;
    ∷ set t one
    -- t = - 1 ;
    ∷ set t (minus one)
    -- t = u ? 1 : [ u , 1 ] ;
    ∷ set t (x (e.Conditional u one (array (u ∷ one ∷ []))))
    -- t = { a : [ - 1 ] } ;
    ∷ set t (x (e.ObjectLit (field.Value (place 0) (codes "a") (array (minus one ∷ [])) ∷ [])))
    -- t = __abstract ( "number" , "n" ) ;
    ∷ set t (x (e.Input kind.Number (codes "n")))
    -- t = __residual ( "number" , "n" , u ) ;
    ∷ set t (host (u ∷ []))
    -- t = u + 1 ;
    ∷ set t (plus u one)
    -- t = "__pro" + "to__" ;
    ∷ set t (plus (text (codes "__pro")) (text (codes "to__")))
    -- t = typeof u ;
    ∷ set t (x (e.Unary unary.TypeOf u))
    -- t = - u ;
    ∷ set t (minus u)
    -- t = u . prototype ;
    ∷ set t (of u (codes "prototype"))
    -- __residual ( "number" , "n" , 1 ) ;
    ∷ eval (host (one ∷ []))
    -- u . k = [ t ] ;
    ∷ set (of u (codes "k")) (array (t ∷ []))
    -- u [ "k" ] = [ ] ;
    ∷ set (at u (text (codes "k"))) (array [])
    -- delete u [ "k" ] ;
    ∷ eval (x (e.Unary unary.Delete (at u (text (codes "k")))))
    -- delete this . k ;
    ∷ eval (x (e.Unary unary.Delete (of this (codes "k"))))
    -- if ( u ) { t = 1 ; }
    ∷ stmt (s.If u (block (set t one ∷ [])) None)
    -- if ( u ) { } else { if ( t ) { t = u ; } }
    ∷ stmt (s.If u (block []) (Some (block (stmt (s.If t (block (set t u ∷ [])) None) ∷ []))))
    ∷ []

abbrev pub no_statements : List Stmt
no_statements =
    -- t = v ;
    set t v
    -- v = t ;
    ∷ set v t
    -- t = "__proto__" ;
    ∷ set t (text (codes "__proto__"))
    -- t += 1 ;
    ∷ eval (x (e.Assign t (Some binary.Add) one))
    -- t = [ - u ] ;
    ∷ set t (array (minus u ∷ []))
    -- t = - "b" , inside a literal
    ∷ set t (array (minus (text (codes "b")) ∷ []))
    -- t = [ , ] ;
    ∷ set t (x (e.ArrayLit (None ∷ [])))
    -- t = [ 1 ] ? 1 : 1 ;
    ∷ set t (x (e.Conditional (array (one ∷ [])) one one))
    -- t = u ? v : 1 ;
    ∷ set t (x (e.Conditional u v one))
    -- t = { get a ( ) { } } ;
    ∷ set t (x (e.ObjectLit (field.Getter (place 0) (codes "a") (no 1) ∷ [])))
    -- t = u in u ;
    ∷ set t (x (e.Binary binary.In u u))
    -- t = u instanceof u ;
    ∷ set t (x (e.Binary binary.InstanceOf u u))
    -- t = delete u ;
    ∷ set t (x (e.Unary unary.Delete u))
    -- t = u && 1 ;
    ∷ set t (x (e.Logic logic.And u one))
    -- t = u + [ ] ;
    ∷ set t (plus u (array []))
    -- t = __residual ( "number" , "n" , [ ] ) ;
    ∷ set t (host (array [] ∷ []))
    -- t = [ __abstract ( "number" , "n" ) ] ;
    ∷ set t (array (x (e.Input kind.Number (codes "n")) ∷ []))
    -- t = u . k ;
    ∷ set t (of u (codes "k"))
    -- t = u [ "prototype" ] ;
    ∷ set t (at u (text (codes "prototype")))
    -- __abstract ( "number" , "n" ) ;
    ∷ eval (x (e.Input kind.Number (codes "n")))
    -- u . k = t + 1 ;
    ∷ set (of u (codes "k")) (plus t one)
    -- [ ] . k = t ;
    ∷ set (of (array []) (codes "k")) t
    -- u [ t ] = 1 ;
    ∷ set (at u t) one
    -- u [ "__proto__" ] = 1 ;
    ∷ set (at u (text (codes "__proto__"))) one
    -- delete u [ t ] ;
    ∷ eval (x (e.Unary unary.Delete (at u t)))
    -- delete u ;
    ∷ eval (x (e.Unary unary.Delete u))
    -- u ;
    ∷ eval u
    -- if ( [ ] ) { }
    ∷ stmt (s.If (array []) (block []) None)
    -- if ( u ) t = 1 ;
    ∷ stmt (s.If u (set t one) None)
    -- if ( u ) { } else t = 1 ;
    ∷ stmt (s.If u (block []) (Some (set t one)))
    -- { }
    ∷ block []
    -- ;
    ∷ stmt s.Empty
    -- var v ;
    ∷ var (codes "v" ∷ [])
    -- while ( u ) { }
    ∷ stmt (s.While u (block []))
    -- new t ( ) ;
    ∷ eval (x (e.New t []))
    -- t ( ) ;
    ∷ eval (call t [])
    -- return ;
    ∷ stmt (s.Return None)
    ∷ []

-- ---- paths, and what is bound to them

abbrev pub ordered : List (List Stmt)
ordered =
    -- t = this . Object ;
    (set t (of this (codes "Object")) ∷ [])
    -- t = this . Array . prototype . push ; u = this . RangeError . prototype ; t = 1 ;
    ∷ (set t (of (of (of this (codes "Array")) (codes "prototype")) (codes "push")) ∷ set u (of (of this (codes "RangeError")) (codes "prototype")) ∷ set t one ∷ [])
    -- t = this ; u = this ;
    ∷ (set t this ∷ set u this ∷ [])
    -- t = this . Object . create ; u = t ( null ) ;
    ∷ (set t (object (codes "create")) ∷ set u (call t (x (e.Literal primitive.Null) ∷ [])) ∷ [])
    -- t = this . Object . defineProperty ; t ( u , "k" , 1 ) ;
    ∷ (set t (object (codes "defineProperty")) ∷ eval (call t (u ∷ text (codes "k") ∷ one ∷ [])) ∷ [])
    -- t = this . Object . preventExtensions ; t ( u ) ;
    ∷ (set t (object (codes "preventExtensions")) ∷ eval (call t (u ∷ [])) ∷ [])
    ∷ []

abbrev pub disordered : List (List Stmt)
disordered =
    -- t = 1 ; u = this . Object ;
    (set t one ∷ set u (of this (codes "Object")) ∷ [])
    -- if ( u ) { t = this . Object ; }
    ∷ (stmt (s.If u (block (set t (of this (codes "Object")) ∷ [])) None) ∷ [])
    -- t = this . Math ;
    ∷ (set t (of this (codes "Math")) ∷ [])
    -- t = this . Object . prototype . constructor ;
    ∷ (set t (of (object (codes "prototype")) (codes "constructor")) ∷ [])
    -- t = u . Object ;
    ∷ (set t (of u (codes "Object")) ∷ [])
    -- v = this . Object ;
    ∷ (set v (of this (codes "Object")) ∷ [])
    -- u = t ( null ) ;
    ∷ (set u (call t (x (e.Literal primitive.Null) ∷ [])) ∷ [])
    -- t = this . Object . keys ; u = t ( 1 ) ;
    ∷ (set t (object (codes "keys")) ∷ set u (call t (one ∷ [])) ∷ [])
    -- t = this . Object . create ; u = t ( 1 ) ; t = 1 ;
    ∷ (set t (object (codes "create")) ∷ set u (call t (one ∷ [])) ∷ set t one ∷ [])
    -- t = this . Object . create ; u = t ( 1 , 1 ) ;
    ∷ (set t (object (codes "create")) ∷ set u (call t (one ∷ one ∷ [])) ∷ [])
    -- t = this . Object . create ; u = t ( [ ] ) ;
    ∷ (set t (object (codes "create")) ∷ set u (call t (array [] ∷ [])) ∷ [])
    -- t = this . Object . create ; t ( 1 ) ;
    ∷ (set t (object (codes "create")) ∷ eval (call t (one ∷ [])) ∷ [])
    -- t = this . Object . defineProperty ; t ( u , u , 1 ) ;
    ∷ (set t (object (codes "defineProperty")) ∷ eval (call t (u ∷ u ∷ one ∷ [])) ∷ [])
    -- t = this . Object . defineProperty ; u = t ( u , "k" , 1 ) ;
    ∷ (set t (object (codes "defineProperty")) ∷ set u (call t (u ∷ text (codes "k") ∷ one ∷ [])) ∷ [])
    -- this . Object . preventExtensions ( u ) ;
    ∷ (eval (call (object (codes "preventExtensions")) (u ∷ [])) ∷ [])
    ∷ []

pub record StatementCases : Type 0 where
  pub kept : map (is_statement (body [])) statements ≡ map (λ _. true) statements
  pub broken : map (is_statement (body [])) no_statements ≡ map (λ _. false) no_statements
  pub paths : map (λ ss. are_in_order (body ss) ss) ordered ≡ map (λ _. true) ordered
  pub no_paths : map (λ ss. are_in_order (body ss) ss) disordered ≡ map (λ _. false) disordered
