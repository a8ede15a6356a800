-- Cases of what is refused by name, and how deep parts nest, worked out by hand: each rule has some that take it and some that just miss it.
use Rattle.std.specs.Prelude.{◌≡◌, ℕ, true, false, codes, List, [], ◌∷◌, map, Option, Some, None, Ok}
use Rattle.js_value.specs.declared.primitive.Primitive.TheVariants as primitive
use Rattle.js_tree.specs.declared.expression.ExprForm.TheVariants as e
use Rattle.js_tree.specs.declared.refusal.Feature.TheVariants as feature
use Rattle.js_tree.specs.declared.refusal.ReadRefused.{ReadRefused}
use Rattle.js_tree.specs.declared.refusal.ReadRefused.TheVariants.{Syntax, Nested}
use Rattle.js_tree.specs.declared.statement.StmtForm.TheVariants as s
use Rattle.js_tree.specs.declared.token.TokenForm.TheVariants as form
use Rattle.js_tree.specs.declared.token.Tokens.{Tokens}
use Rattle.js_tree.specs.Refusals.{place, syntax, unsupported}
use Rattle.js_tree.specs.Trees.{expr, stmt, one}
use Rattle.js_grammar.specs.Reading.{read_by}
use Rattle.js_grammar.specs.Answers.{Answer, AreRead, AreAnswered, AreOpen}

-- what is named as unsupported
abbrev pub unsupported_texts : List (List ℕ × Answer)
unsupported_texts =
    (codes "with ( a ) b ;", unsupported 0 feature.With)
    ∷ (codes "debugger ;", unsupported 0 feature.Debugger)
    ∷ (codes "a : b", unsupported 0 feature.Label)
    ∷ (codes "__abstract : 1", unsupported 0 feature.Label)
    ∷ (codes "{ a : b }", unsupported 2 feature.Label)
    ∷ (codes "if ( a ) b : c", unsupported 9 feature.Label)
    ∷ (codes "eval : a", unsupported 0 feature.Eval)
    ∷ (codes "arguments : a", unsupported 0 feature.Arguments)
    ∷ (codes "break a", unsupported 6 feature.Label)
    ∷ (codes "continue a", unsupported 9 feature.Label)
    ∷ (codes "break eval", unsupported 6 feature.Eval)
    ∷ (codes "continue arguments", unsupported 9 feature.Arguments)
    ∷ (codes "/ a /", unsupported 0 feature.RegularExpression)
    ∷ (codes "a = /= b", unsupported 4 feature.RegularExpression)
    ∷ (codes "a + / b", unsupported 4 feature.RegularExpression)
    ∷ (codes "( / a", unsupported 2 feature.RegularExpression)
    ∷ (codes "delete a", unsupported 0 feature.DeleteName)
    ∷ (codes "delete ( a )", unsupported 0 feature.DeleteName)
    ∷ (codes "- delete a", unsupported 2 feature.DeleteName)
    ∷ (codes "for ( var a = 1 in b ) ;", unsupported 14 feature.ForInInitialiser)
    ∷ (codes "for ( var a = ( 1 ) in b ) ;", unsupported 14 feature.ForInInitialiser)
    ∷ (codes "eval", unsupported 0 feature.Eval)
    ∷ (codes "eval ( a )", unsupported 0 feature.Eval)
    ∷ (codes "a + arguments", unsupported 4 feature.Arguments)
    ∷ (codes "var eval", unsupported 4 feature.Eval)
    ∷ (codes "function arguments ( ) { }", unsupported 9 feature.Arguments)
    ∷ (codes "function a ( eval ) { }", unsupported 13 feature.Eval)
    ∷ (codes "x = function eval ( ) { }", unsupported 13 feature.Eval)
    ∷ (codes "try { } catch ( arguments ) { }", unsupported 16 feature.Arguments)
    ∷ (codes "for ( var eval in a ) ;", unsupported 10 feature.Eval)
    ∷ (codes "var __abstract", unsupported 4 feature.AbstractForm)
    ∷ (codes "function __residual ( ) { }", unsupported 9 feature.ResidualForm)
    ∷ (codes "function a ( __abstract ) { }", unsupported 13 feature.AbstractForm)
    ∷ (codes "try { } catch ( __residual ) { }", unsupported 16 feature.ResidualForm)
    ∷ (codes "eval = a", unsupported 0 feature.Eval)
    ∷ []

-- what just misses them
abbrev pub supported_texts : List (List ℕ)
supported_texts =
    codes "a ? b : c"
    ∷ codes "x = { a : b }"
    ∷ codes "a / b"
    ∷ codes "a /= b"
    ∷ codes "delete a . b"
    ∷ codes "delete a [ b ]"
    ∷ codes "delete a ( )"
    ∷ codes "delete 1"
    ∷ codes "typeof a"
    ∷ codes "for ( var a = 1 ; ; ) ;"
    ∷ codes "a . eval ( b )"
    ∷ codes "a . arguments"
    ∷ codes "x = { eval : a , get arguments ( ) { } }"
    ∷ codes "break ; a"
    ∷ []

-- inputs and host calls
abbrev pub forms_texts : List (List ℕ)
forms_texts =
    codes "__abstract ( \"number\" , \"n\" )"
    ∷ codes "__abstract ( 'boolean' , \"b\" )"
    ∷ codes "__abstract ( \"string\" , \"\" )"
    ∷ codes "a + __abstract ( \"number\" , \"n\" ) . b"
    ∷ codes "__residual ( \"number\" , \"now\" )"
    ∷ codes "__residual ( \"string\" , \"a\" , b , c = d )"
    ∷ codes "__residual ( \"boolean\" , \"a\" , ( b , c ) ) ( d )"
    ∷ codes "new __abstract ( \"number\" , \"n\" )"
    ∷ codes "a . __abstract"
    ∷ codes "x = { __residual : 1 }"
    ∷ []

-- other shapes of them, and where the text ends inside
abbrev pub no_forms_texts : List (List ℕ × Answer)
no_forms_texts =
    (codes "__abstract", syntax 10)
    ∷ (codes "__abstract (", syntax 12)
    ∷ (codes "__abstract ( \"number\"", syntax 21)
    ∷ (codes "__abstract ( \"number\" ,", syntax 23)
    ∷ (codes "__abstract ( \"number\" , \"n\"", syntax 27)
    ∷ (codes "__abstract ;", unsupported 0 feature.AbstractForm)
    ∷ (codes "__abstract . a", unsupported 0 feature.AbstractForm)
    ∷ (codes "__abstract = a", unsupported 0 feature.AbstractForm)
    ∷ (codes "a + __abstract ( )", unsupported 4 feature.AbstractForm)
    ∷ (codes "__abstract ( \"object\" , \"n\" )", unsupported 0 feature.AbstractForm)
    ∷ (codes "__abstract ( a , \"n\" )", unsupported 0 feature.AbstractForm)
    ∷ (codes "__abstract ( \"number\" )", unsupported 0 feature.AbstractForm)
    ∷ (codes "__abstract ( \"number\" ; \"n\" )", unsupported 0 feature.AbstractForm)
    ∷ (codes "__abstract ( \"number\" , n )", unsupported 0 feature.AbstractForm)
    ∷ (codes "__abstract ( \"number\" , \"n\" , )", unsupported 0 feature.AbstractForm)
    ∷ (codes "__abstract ( \"number\" , \"n\" + \"m\" )", unsupported 0 feature.AbstractForm)
    ∷ (codes "__residual", syntax 10)
    ∷ (codes "__residual ( \"number\" , \"a\" ,", syntax 29)
    ∷ (codes "__residual ( \"number\" , \"a\" , b", syntax 31)
    ∷ (codes "__residual + a", unsupported 0 feature.ResidualForm)
    ∷ (codes "__residual ( )", unsupported 0 feature.ResidualForm)
    ∷ (codes "__residual ( \"symbol\" , \"a\" )", unsupported 0 feature.ResidualForm)
    ∷ (codes "__residual ( \"number\" , a )", unsupported 0 feature.ResidualForm)
    ∷ (codes "__residual ( \"number\" , \"a\" b )", unsupported 0 feature.ResidualForm)
    ∷ (codes "__residual ( \"number\" , \"a\" , b c )", unsupported 0 feature.ResidualForm)
    ∷ (codes "__residual ( \"number\" , \"a\" , )", syntax 30)
    ∷ (codes "__residual ( \"number\" , \"a\" , b , )", syntax 34)
    ∷ []

-- 14.1: strict code
abbrev pub strict_texts : List (List ℕ × Answer)
strict_texts =
    (codes "\"use_strict\"", unsupported 0 feature.StrictCode)
    ∷ (codes "'use_strict' ;", unsupported 0 feature.StrictCode)
    ∷ (codes "\"a\" ; \"use_strict\" ; b", unsupported 6 feature.StrictCode)
    ∷ (codes "\"a\" \n \"use_strict\" \n b", unsupported 6 feature.StrictCode)
    ∷ (codes "function a ( ) { \"use_strict\" ; }", unsupported 17 feature.StrictCode)
    ∷ (codes "x = function ( ) { \"b\" ; \"use_strict\" }", unsupported 25 feature.StrictCode)
    ∷ (codes "x = { get a ( ) { \"use_strict\" } }", unsupported 18 feature.StrictCode)
    ∷ (codes "\"use_strict\" a", syntax 13)
    ∷ []

-- 14.1: what just misses them
abbrev pub sloppy_texts : List (List ℕ)
sloppy_texts =
    codes "( \"use_strict\" )"
    ∷ codes "\"use_strict\" + a"
    ∷ codes "\"use_strict\" . a"
    ∷ codes "\"use_strict\" , a"
    ∷ codes "a ; \"use_strict\""
    ∷ codes "1 ; \"use_strict\""
    ∷ codes "{ \"use_strict\" ; }"
    ∷ codes "\"a\" + b ; \"use_strict\""
    ∷ codes "\"use__strict\""
    ∷ []

-- a statement of these units, the token taking the bytes from 0 to the second number
abbrev pub statement_of : List ℕ → ℕ → Tokens
statement_of text end = record {
  items = record { at = place 0; end = place end; line_before = false; form = form.Str text } ∷ [];
  end = place end;
}

-- 14.1: with its two quotes it takes twelve bytes where it is written without escapes, and more where it has one
abbrev pub written_tokens : List (Tokens × Answer)
written_tokens =
    (statement_of (codes "use strict") 12, unsupported 0 feature.StrictCode)
    ∷ (statement_of (codes "use strict") 13, Ok (one (stmt 0 (s.Eval (expr 0 (e.Literal (primitive.Text (codes "use strict"))))))))
    ∷ []

-- open parts: as many as the limit allows, and one more
abbrev pub open_parts_texts : List (List ℕ × ℕ × Option ReadRefused)
open_parts_texts =
    (codes "a", 1, None)
    ∷ (codes ";", 1, None)
    ∷ (codes "( a )", 1, Some (Nested (place 2)))
    ∷ (codes "a ( )", 1, Some (Nested (place 4)))
    ∷ (codes "[ ]", 1, Some (Nested (place 2)))
    ∷ (codes "a [ b ]", 1, Some (Nested (place 4)))
    ∷ (codes "- a", 1, Some (Nested (place 2)))
    ∷ (codes "++ a", 1, Some (Nested (place 3)))
    ∷ (codes "a = b", 1, Some (Nested (place 4)))
    ∷ (codes "a ? b : c", 1, Some (Nested (place 4)))
    ∷ (codes "a + { b : c }", 1, None)
    ∷ (codes "a + { b : { c : { d : e } } }", 1, None)
    ∷ (codes "{ }", 1, None)
    ∷ (codes "{ ; }", 1, Some (Nested (place 2)))
    ∷ (codes "if ( a ) b", 1, Some (Nested (place 5)))
    ∷ (codes "if ( a ) b", 2, None)
    ∷ (codes "while ( a ) ;", 1, Some (Nested (place 8)))
    ∷ (codes "for ( ; ; ) ;", 1, Some (Nested (place 6)))
    ∷ (codes "for ( var a in b ) ;", 1, Some (Nested (place 6)))
    ∷ (codes "do ; while ( a )", 1, Some (Nested (place 3)))
    ∷ (codes "switch ( a ) { }", 1, Some (Nested (place 9)))
    ∷ (codes "switch ( a ) { case b : ; }", 2, None)
    ∷ (codes "switch ( a ) { case b : { ; } }", 2, Some (Nested (place 26)))
    ∷ (codes "try { } finally { }", 1, None)
    ∷ (codes "try { } catch ( a ) { }", 1, Some (Nested (place 16)))
    ∷ (codes "try { ; } finally { }", 1, Some (Nested (place 6)))
    ∷ (codes "try { ; } finally { }", 2, None)
    ∷ (codes "function a ( ) { }", 1, Some (Nested (place 13)))
    ∷ (codes "function a ( ) { }", 2, None)
    ∷ (codes "function a ( ) { ; }", 2, Some (Nested (place 17)))
    ∷ (codes "function a ( ) { ; }", 3, None)
    ∷ (codes "a + function ( ) { }", 1, Some (Nested (place 15)))
    ∷ (codes "a + { get b ( ) { } }", 2, None)
    ∷ (codes "a + { get b ( ) { ; } }", 2, Some (Nested (place 18)))
    ∷ (codes "var a = b", 1, None)
    ∷ (codes "var a = b , c = d", 1, None)
    ∷ (codes "var a = b = c", 1, Some (Nested (place 12)))
    ∷ (codes "a + b + c * d , e", 1, None)
    ∷ (codes "new new new a", 1, None)
    ∷ (codes "a . b . c ++", 1, None)
    ∷ (codes "__abstract ( \"number\" , \"n\" )", 1, Some (Nested (place 13)))
    ∷ (codes "__residual ( 1 )", 1, Some (Nested (place 13)))
    ∷ (codes "a = - b", 2, Some (Nested (place 6)))
    ∷ (codes "a = - b", 3, None)
    ∷ (codes "- - a", 2, Some (Nested (place 4)))
    ∷ (codes "a = b = c", 2, Some (Nested (place 8)))
    ∷ (codes "a ? b ? c : d : e", 2, Some (Nested (place 8)))
    ∷ (codes "a ? b : c ? d : e", 2, Some (Nested (place 12)))
    ∷ (codes "- *", 1, Some (Nested (place 2)))
    ∷ (codes "-", 1, Some (Syntax (place 1)))
    ∷ (codes "( )", 1, Some (Nested (place 2)))
    ∷ (codes "(", 1, Some (Syntax (place 1)))
    ∷ (codes "throw a", 1, None)
    ∷ (codes "return a", 1, None)
    ∷ (codes "{ if ( a ) b }", 2, Some (Nested (place 7)))
    ∷ (codes "if ( a ) { ; }", 2, Some (Nested (place 11)))
    ∷ (codes "( ( a ) )", 2, Some (Nested (place 4)))
    ∷ (codes "( ( a ) )", 3, None)
    ∷ []

pub record RefusalCases : Type 0 where
  pub unsupported : AreAnswered unsupported_texts
  pub supported : AreRead supported_texts
  pub forms : AreRead forms_texts
  pub no_forms : AreAnswered no_forms_texts
  pub strict : AreAnswered strict_texts
  pub sloppy : AreRead sloppy_texts
  pub written : map (λ row. read_by (λ _ _. true) (λ _ _. true) row.0 50) written_tokens ≡ map (λ row. row.1) written_tokens
  pub open_parts : AreOpen open_parts_texts
