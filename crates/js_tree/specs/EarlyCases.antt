-- Cases of the early checks (16), worked out by hand: for each one some that it takes and some that just miss it.
use Rattle.std.specs.Prelude.{◌≡◌, ℕ, ◌+◌, codes, List, [], ◌∷◌, fold, map, Option, Some, None}
use Rattle.js_value.specs.declared.operator.BinaryOp.TheVariants as binary
use Rattle.js_value.specs.declared.primitive.Kind.TheVariants as kind
use Rattle.js_tree.specs.declared.expression.Expr.{Expr}
use Rattle.js_tree.specs.declared.expression.ExprForm.TheVariants as e
use Rattle.js_tree.specs.declared.refusal.Feature.TheVariants as feature
use Rattle.js_tree.specs.declared.refusal.ReadRefused.{ReadRefused}
use Rattle.js_tree.specs.declared.refusal.ReadRefused.TheVariants.{Syntax, Unsupported}
use Rattle.js_tree.specs.declared.statement.ForStart.TheVariants as start
use Rattle.js_tree.specs.declared.statement.ForTarget.TheVariants as target
use Rattle.js_tree.specs.declared.statement.Script.{Script}
use Rattle.js_tree.specs.declared.statement.Stmt.{Stmt}
use Rattle.js_tree.specs.declared.statement.StmtForm.TheVariants as s
use Rattle.js_tree.specs.Early.{jump_faults, mention_faults, lesser, early_fault}
use Rattle.js_tree.specs.Mentions.{Mention, Reads, Assigns, AssignsOwn, Takes, Repeats, Property, Valued, Got, Set, Inside, repeated, as_expression}
use Rattle.js_tree.specs.Refusals.{place}
use Rattle.js_tree.specs.Trees.{expr, name, stmt, no, declared, declarator, func, clause, handler, final, script, one}

abbrev pub a : ℕ → Expr
a at = name at (codes "a")

abbrev pub b : ℕ → Expr
b at = name at (codes "b")

-- ---- jumps (12.7 to 12.9), each tree behind its text

abbrev pub jump_trees : List (Script × List ReadRefused)
jump_trees =
    -- return
    (one (stmt 0 (s.Return None)), Syntax (place 0) ∷ [])
    -- { return }
    ∷ (one (stmt 0 (s.Block (stmt 2 (s.Return None) ∷ []))), Syntax (place 2) ∷ [])
    -- function a ( ) { return }
    ∷ (script (stmt 0 (s.FuncDecl (no 0)) ∷ []) (func 0 (Some (declared 9 (codes "a"))) [] (stmt 17 (s.Return None) ∷ []) ∷ []), [])
    -- break
    ∷ (one (stmt 0 s.Break), Syntax (place 0) ∷ [])
    -- if ( a ) break
    ∷ (one (stmt 0 (s.If (a 5) (stmt 9 s.Break) None)), Syntax (place 9) ∷ [])
    -- while ( a ) break
    ∷ (one (stmt 0 (s.While (a 8) (stmt 12 s.Break))), [])
    -- for ( a in b ) break
    ∷ (one (stmt 0 (s.ForIn (target.Expr (a 6)) (b 11) (stmt 15 s.Break))), [])
    -- switch ( a ) { default : break }
    ∷ (one (stmt 0 (s.Switch (a 9) (clause None (stmt 25 s.Break ∷ []) ∷ []))), [])
    -- continue
    ∷ (one (stmt 0 s.Continue), Syntax (place 0) ∷ [])
    -- do continue ; while ( a )
    ∷ (one (stmt 0 (s.DoWhile (stmt 3 s.Continue) (a 22))), [])
    -- for ( ; ; ) continue
    ∷ (one (stmt 0 (s.For start.Nothing None None (stmt 12 s.Continue))), [])
    -- switch ( a ) { default : continue }
    ∷ (one (stmt 0 (s.Switch (a 9) (clause None (stmt 25 s.Continue ∷ []) ∷ []))), Syntax (place 25) ∷ [])
    -- while ( a ) switch ( b ) { default : continue }
    ∷ (one (stmt 0 (s.While (a 8) (stmt 12 (s.Switch (b 21) (clause None (stmt 37 s.Continue ∷ []) ∷ []))))), [])
    -- while ( a ) function ( ) { break }, as an expression in parentheses
    ∷ (script (stmt 0 (s.While (a 8) (stmt 14 (s.Eval (expr 14 (e.Func (no 0)))))) ∷ []) (func 14 None [] (stmt 29 s.Break ∷ []) ∷ []), Syntax (place 29) ∷ [])
    -- function a ( ) { while ( b ) continue }
    ∷ (script (stmt 0 (s.FuncDecl (no 0)) ∷ []) (func 0 (Some (declared 9 (codes "a"))) [] (stmt 17 (s.While (b 25) (stmt 29 s.Continue)) ∷ []) ∷ []), [])
    -- try { break } catch ( a ) { continue } finally { return }
    ∷ (
      one (stmt 0 (s.Try (stmt 6 s.Break ∷ []) (Some (handler 22 (codes "a") (stmt 28 s.Continue ∷ []))) (Some (final (stmt 49 (s.Return None) ∷ []))))),
      Syntax (place 49) ∷ Syntax (place 6) ∷ Syntax (place 28) ∷ [],
    )
    ∷ []

-- ---- properties (11.1.5)

abbrev pub property_rows : List (List Property × List Mention)
property_rows =
    ((place 2, codes "a", Valued) ∷ (place 10, codes "a", Valued) ∷ [], [])
    ∷ ((place 2, codes "a", Valued) ∷ (place 10, codes "a", Got) ∷ [], Repeats (place 10) ∷ [])
    ∷ ((place 2, codes "a", Set) ∷ (place 10, codes "a", Valued) ∷ [], Repeats (place 10) ∷ [])
    ∷ ((place 2, codes "a", Got) ∷ (place 10, codes "a", Got) ∷ [], Repeats (place 10) ∷ [])
    ∷ ((place 2, codes "a", Set) ∷ (place 10, codes "a", Set) ∷ [], Repeats (place 10) ∷ [])
    ∷ ((place 2, codes "a", Got) ∷ (place 10, codes "a", Set) ∷ [], [])
    ∷ ((place 2, codes "a", Set) ∷ (place 10, codes "a", Got) ∷ [], [])
    ∷ ((place 2, codes "a", Got) ∷ (place 10, codes "b", Got) ∷ [], [])
    ∷ ((place 2, codes "a", Got) ∷ (place 10, codes "a", Set) ∷ (place 18, codes "a", Valued) ∷ [], Repeats (place 18) ∷ [])
    ∷ []

-- ---- a function expression's own name (13): what its inside mentions, and what the expression does

abbrev pub own_name_rows : List (Inside × List Mention)
own_name_rows =
    ((codes "a" ∷ [], Assigns (place 20) (codes "a") ∷ []), AssignsOwn (place 20) ∷ [])
    ∷ ((codes "a" ∷ [], Reads (place 20) (codes "a") ∷ []), [])
    ∷ ((codes "a" ∷ [], Assigns (place 20) (codes "b") ∷ []), Assigns (place 20) (codes "b") ∷ [])
    ∷ (([], Assigns (place 20) (codes "a") ∷ []), Assigns (place 20) (codes "a") ∷ [])
    ∷ []

-- ---- what mentions are refused

abbrev pub mention_rows : List (List Mention × List ReadRefused)
mention_rows =
    (Repeats (place 8) ∷ [], Syntax (place 8) ∷ [])
    ∷ (AssignsOwn (place 8) ∷ [], Unsupported (place 8) feature.OwnName ∷ [])
    ∷ (Reads (place 0) (codes "a") ∷ Assigns (place 4) (codes "a") ∷ [], [])
    ∷ (Takes (place 0) kind.Number (codes "a") ∷ Takes (place 30) kind.Boolean (codes "a") ∷ [], Unsupported (place 30) feature.AbstractType ∷ [])
    ∷ (Takes (place 30) kind.Boolean (codes "a") ∷ Takes (place 0) kind.Number (codes "a") ∷ [], Unsupported (place 30) feature.AbstractType ∷ [])
    ∷ (Takes (place 0) kind.Text (codes "a") ∷ Takes (place 30) kind.Text (codes "a") ∷ [], [])
    ∷ (Takes (place 0) kind.Number (codes "a") ∷ Takes (place 30) kind.Boolean (codes "b") ∷ [], [])
    ∷ []

-- ---- the least place answers, of two at one place the first

abbrev pub least_rows : List (List ReadRefused × Option ReadRefused)
least_rows =
    ([], None)
    ∷ (Syntax (place 30) ∷ Unsupported (place 8) feature.OwnName ∷ [], Some (Unsupported (place 8) feature.OwnName))
    ∷ (Unsupported (place 8) feature.OwnName ∷ Syntax (place 30) ∷ [], Some (Unsupported (place 8) feature.OwnName))
    ∷ (Syntax (place 8) ∷ Unsupported (place 8) feature.AbstractType ∷ [], Some (Syntax (place 8)))
    ∷ []

-- ---- whole scripts, each tree behind its text

abbrev pub assigned : ℕ → Expr → Stmt
assigned at x = stmt at (s.Eval (expr at (e.Assign (name at (codes "x")) None x)))

abbrev pub to_a : ℕ → Stmt
to_a at = stmt at (s.Eval (expr at (e.Assign (a at) None (name (at + 4) (codes "x")))))

-- ;
abbrev pub empty : Script
empty = one (stmt 0 s.Empty)

-- break ; return
abbrev pub break_and_return : Script
break_and_return = script (stmt 0 s.Break ∷ stmt 8 (s.Return None) ∷ []) []

-- x = function a ( ) { a = x }
abbrev pub own_name : Script
own_name = script (assigned 0 (expr 4 (e.Func (no 0))) ∷ []) (func 4 (Some (declared 13 (codes "a"))) [] (to_a 21 ∷ []) ∷ [])

-- x = function a ( a ) { a = x }
abbrev pub own_name_parameter : Script
own_name_parameter = script (assigned 0 (expr 4 (e.Func (no 0))) ∷ []) (func 4 (Some (declared 13 (codes "a"))) (declared 17 (codes "a") ∷ []) (to_a 23 ∷ []) ∷ [])

-- x = function a ( ) { var a ; a = x }
abbrev pub own_name_var : Script
own_name_var = script (assigned 0 (expr 4 (e.Func (no 0))) ∷ [])
    (func 4 (Some (declared 13 (codes "a"))) [] (stmt 21 (s.Var (declarator 25 (codes "a") None ∷ [])) ∷ to_a 29 ∷ []) ∷ [])

-- __abstract ( "number" , "n" ) + __abstract ( "boolean" , "n" )
abbrev pub two_types : Script
two_types = one (stmt 0 (s.Eval (expr 0 (e.Binary binary.Add (expr 0 (e.Input kind.Number (codes "n"))) (expr 32 (e.Input kind.Boolean (codes "n")))))))

-- x = function a ( ) { a = x } ; return
abbrev pub own_name_and_return : Script
own_name_and_return = script (assigned 0 (expr 4 (e.Func (no 0))) ∷ stmt 31 (s.Return None) ∷ []) (func 4 (Some (declared 13 (codes "a"))) [] (to_a 21 ∷ []) ∷ [])

pub record EarlyCases : Type 0 where
  pub jumps : map (λ row. jump_faults row.0) jump_trees ≡ map (λ row. row.1) jump_trees
  pub properties : map (λ row. repeated [] row.0) property_rows ≡ map (λ row. row.1) property_rows
  pub own_names : map (λ row. as_expression row.0) own_name_rows ≡ map (λ row. row.1) own_name_rows
  pub mentioned : map (λ row. mention_faults row.0) mention_rows ≡ map (λ row. row.1) mention_rows
  pub least : map (λ row. fold lesser None row.0) least_rows ≡ map (λ row. row.1) least_rows
  pub empty_fault : early_fault empty ≡ None
  pub break_and_return_fault : early_fault break_and_return ≡ Some (Syntax (place 0))
  pub own_name_fault : early_fault own_name ≡ Some (Unsupported (place 21) feature.OwnName)
  pub own_name_parameter_fault : early_fault own_name_parameter ≡ None
  pub own_name_var_fault : early_fault own_name_var ≡ None
  pub two_types_fault : early_fault two_types ≡ Some (Unsupported (place 32) feature.AbstractType)
  pub own_name_and_return_fault : early_fault own_name_and_return ≡ Some (Unsupported (place 21) feature.OwnName)
