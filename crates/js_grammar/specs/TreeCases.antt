-- Cases of trees with their places, worked out by hand.
use Rattle.std.specs.Prelude.{◌≡◌, ℕ, pos, true, false, codes, List, [], ◌∷◌, map, Some, None, Ok}
use Rattle.js_value.specs.declared.operator.UnaryOp.TheVariants as unary
use Rattle.js_value.specs.declared.primitive.Kind.TheVariants as kind
use Rattle.js_value.specs.declared.primitive.Primitive.TheVariants as primitive
use Rattle.js_tree.specs.declared.expression.ExprForm.TheVariants as e
use Rattle.js_tree.specs.declared.expression.Field.TheVariants as field
use Rattle.js_tree.specs.declared.expression.StepOp.TheVariants as step
use Rattle.js_tree.specs.declared.statement.ForStart.TheVariants as start
use Rattle.js_tree.specs.declared.statement.ForTarget.TheVariants as target
use Rattle.js_tree.specs.declared.statement.Script.{Script}
use Rattle.js_tree.specs.declared.statement.StmtForm.TheVariants as s
use Rattle.js_grammar.specs.Answers.{read_text}
use Rattle.js_grammar.specs.OperatorCases.{alone}
use Rattle.js_tree.specs.Refusals.{place}
use Rattle.js_tree.specs.Trees.{expr, name, stmt, no, declared, func, declarator, clause, handler, final, script, one}

abbrev pub tree_texts : List (List ℕ × Script)
tree_texts =
    -- `else` belongs to the nearest `if`
    (
      codes "if ( a ) if ( b ) c ; else d ;",
      one (stmt 0 (s.If (name 5 (codes "a"))
          (stmt 9 (s.If (name 14 (codes "b")) (stmt 18 (s.Eval (name 18 (codes "c")))) (Some (stmt 27 (s.Eval (name 27 (codes "d")))))))
          None)),
    )
    -- a place is that of the first token inside parentheses
    ∷ (
      codes "( a . b ) ( c ) ;",
      one (stmt 2 (s.Eval (expr 2 (e.Call (expr 2 (e.Member (name 2 (codes "a")) (codes "b"))) (name 12 (codes "c") ∷ []))))),
    )
    ∷ (
      codes "a = - b ? c : d , e",
      one (stmt 0 (s.Eval (expr 0 (e.Comma
          (expr 0 (e.Assign (name 0 (codes "a")) None (expr 4 (e.Conditional
          (expr 4 (e.Unary unary.Minus (name 6 (codes "b")))) (name 10 (codes "c")) (name 14 (codes "d"))))))
          (name 18 (codes "e")))))),
    )
    ∷ (codes "[ a , , b , ]", one (stmt 0 (s.Eval (expr 0 (e.ArrayLit (Some (name 2 (codes "a")) ∷ None ∷ Some (name 8 (codes "b")) ∷ []))))))
    ∷ (
      codes "__residual ( \"number\" , \"t\" , a )",
      one (stmt 0 (s.Eval (expr 0 (e.HostCall kind.Number (codes "t") (name 30 (codes "a") ∷ []))))),
    )
    ∷ (codes "__abstract ( \"string\" , \"t\" )", one (stmt 0 (s.Eval (expr 0 (e.Input kind.Text (codes "t"))))))
    ∷ (
      codes "for ( var a = b , c ; ; d ++ ) ;",
      one (stmt 0 (s.For
          (start.Var (declarator 10 (codes "a") (Some (name 14 (codes "b"))) ∷ declarator 18 (codes "c") None ∷ []))
          None
          (Some (expr 24 (e.Step step.PostUp (name 24 (codes "d")))))
          (stmt 31 s.Empty))),
    )
    ∷ (
      codes "for ( a . b in c ) ;",
      one (stmt 0 (s.ForIn (target.Expr (expr 6 (e.Member (name 6 (codes "a")) (codes "b")))) (name 15 (codes "c")) (stmt 19 s.Empty))),
    )
    ∷ (codes "for ( var a in b ) ;", one (stmt 0 (s.ForIn (target.Var (place 10) (codes "a")) (name 15 (codes "b")) (stmt 19 s.Empty))))
    ∷ (
      codes "try { a } catch ( b ) { } finally { ; }",
      one (stmt 0 (s.Try
          (stmt 6 (s.Eval (name 6 (codes "a"))) ∷ [])
          (Some (handler 18 (codes "b") []))
          (Some (final (stmt 36 s.Empty ∷ []))))),
    )
    ∷ (
      codes "switch ( a ) { case b : c ; default : }",
      one (stmt 0 (s.Switch (name 9 (codes "a"))
          (clause (Some (name 20 (codes "b"))) (stmt 24 (s.Eval (name 24 (codes "c"))) ∷ []) ∷ clause None [] ∷ []))),
    )
    ∷ (codes "do a ; while ( b ) ;", script (stmt 0 (s.DoWhile (stmt 3 (s.Eval (name 3 (codes "a")))) (name 15 (codes "b"))) ∷ []) [])
    -- functions have numbers in source order, an outer one before those inside it
    ∷ (
      codes "x = { get a ( ) { } , b : 1 } ;",
      script
          (stmt 0 (s.Eval (expr 0 (e.Assign (name 0 (codes "x")) None (expr 4 (e.ObjectLit
          (field.Getter (place 10) (codes "a") (no 0) ∷ field.Value (place 22) (codes "b") (expr 26 (e.Literal (primitive.Number (pos 1))))
          ∷ [])))))) ∷ [])
          (func 6 None [] [] ∷ []),
    )
    ∷ (
      codes "function a ( b ) { function c ( ) { } return function ( ) { } ; } function d ( ) { }",
      script
          (stmt 0 (s.FuncDecl (no 0)) ∷ stmt 66 (s.FuncDecl (no 3)) ∷ [])
          (func 0 (Some (declared 9 (codes "a"))) (declared 13 (codes "b") ∷ [])
          (stmt 19 (s.FuncDecl (no 1)) ∷ stmt 38 (s.Return (Some (expr 45 (e.Func (no 2))))) ∷ [])
          ∷ func 19 (Some (declared 28 (codes "c"))) [] []
          ∷ func 45 None [] []
          ∷ func 66 (Some (declared 75 (codes "d"))) [] []
          ∷ []),
    )
    -- each of the other forms
    ∷ (codes "null", alone (e.Literal primitive.Null))
    ∷ (codes "true", alone (e.Literal (primitive.Boolean true)))
    ∷ (codes "false", alone (e.Literal (primitive.Boolean false)))
    ∷ (codes "\"a\"", alone (e.Literal (primitive.Text (codes "a"))))
    ∷ (codes "this", alone e.This)
    ∷ (codes "a . if", alone (e.Member (name 0 (codes "a")) (codes "if")))
    ∷ (codes "a [ b ]", alone (e.Index (name 0 (codes "a")) (name 4 (codes "b"))))
    ∷ (codes "a ( b , c )", alone (e.Call (name 0 (codes "a")) (name 4 (codes "b") ∷ name 8 (codes "c") ∷ [])))
    ∷ (codes "new a ( b )", alone (e.New (name 4 (codes "a")) (name 8 (codes "b") ∷ [])))
    ∷ (codes "new a", alone (e.New (name 4 (codes "a")) []))
    ∷ (codes "[ , ]", alone (e.ArrayLit (None ∷ [])))
    ∷ (codes "[ a , , ]", alone (e.ArrayLit (Some (name 2 (codes "a")) ∷ None ∷ [])))
    ∷ (codes "__abstract ( \"boolean\" , \"n\" )", alone (e.Input kind.Boolean (codes "n")))
    ∷ (
      codes "__residual ( \"string\" , \"a\" , b , c )",
      alone (e.HostCall kind.Text (codes "a") (name 30 (codes "b") ∷ name 34 (codes "c") ∷ [])),
    )
    ∷ (
      codes "x = { set a ( b ) { } , if : c , 2 : d , \"e\" : f }",
      script
          (stmt 0 (s.Eval (expr 0 (e.Assign (name 0 (codes "x")) None (expr 4 (e.ObjectLit
          (field.Setter (place 10) (codes "a") (no 0)
          ∷ field.Value (place 24) (codes "if") (name 29 (codes "c"))
          ∷ field.Value (place 33) (codes "2") (name 37 (codes "d"))
          ∷ field.Value (place 41) (codes "e") (name 47 (codes "f"))
          ∷ [])))))) ∷ [])
          (func 6 None (declared 14 (codes "b") ∷ []) [] ∷ []),
    )
    ∷ (
      codes "x = function a ( ) { }",
      script
          (stmt 0 (s.Eval (expr 0 (e.Assign (name 0 (codes "x")) None (expr 4 (e.Func (no 0)))))) ∷ [])
          (func 4 (Some (declared 13 (codes "a"))) [] [] ∷ []),
    )
    ∷ (codes "{ a ; }", one (stmt 0 (s.Block (stmt 2 (s.Eval (name 2 (codes "a"))) ∷ []))))
    ∷ (codes "break ; continue", script (stmt 0 s.Break ∷ stmt 8 s.Continue ∷ []) [])
    ∷ (codes "return ;", one (stmt 0 (s.Return None)))
    ∷ (codes "throw a", one (stmt 0 (s.Throw (name 6 (codes "a")))))
    ∷ (codes "while ( a ) b", one (stmt 0 (s.While (name 8 (codes "a")) (stmt 12 (s.Eval (name 12 (codes "b")))))))
    ∷ (
      codes "for ( a ; b ; c ) ;",
      one (stmt 0 (s.For (start.Expr (name 6 (codes "a"))) (Some (name 10 (codes "b"))) (Some (name 14 (codes "c"))) (stmt 18 s.Empty))),
    )
    ∷ (codes "for ( ; ; ) ;", one (stmt 0 (s.For start.Nothing None None (stmt 12 s.Empty))))
    ∷ (
      codes "var a , b = c",
      one (stmt 0 (s.Var (declarator 4 (codes "a") None ∷ declarator 8 (codes "b") (Some (name 12 (codes "c"))) ∷ []))),
    )
    ∷ (codes "try { } finally { }", one (stmt 0 (s.Try [] None (Some (final [])))))
    ∷ (codes "try { } catch ( a ) { }", one (stmt 0 (s.Try [] (Some (handler 16 (codes "a") [])) None)))
    ∷ (
      codes "function a ( b , c ) { }",
      script
          (stmt 0 (s.FuncDecl (no 0)) ∷ [])
          (func 0 (Some (declared 9 (codes "a"))) (declared 13 (codes "b") ∷ declared 17 (codes "c") ∷ []) [] ∷ []),
    )
    ∷ []

-- these texts are these scripts
pub record TreeCases : Type 0 where
  pub trees : map (λ row. read_text 50 row.0) tree_texts ≡ map (λ row. Ok row.1) tree_texts
