-- Cases of statements (12 to 14), worked out by hand: each rule has some that take it and some that just miss it.
use Rattle.std.specs.Prelude.{ℕ, codes, List, [], ◌∷◌}
use Rattle.js_tree.specs.declared.refusal.Feature.TheVariants as feature
use Rattle.js_tree.specs.Refusals.{syntax, unsupported}
use Rattle.js_grammar.specs.Answers.{Answer, AreRead, AreAnswered}

-- 12: each kind of statement
abbrev pub statement_texts : List (List ℕ)
statement_texts =
    codes "{ }"
    ∷ codes "{ a ; b ; }"
    ∷ codes "var a , b = 1 , c ;"
    ∷ codes ";"
    ∷ codes "a ;"
    ∷ codes "if ( a ) b ;"
    ∷ codes "if ( a ) b ; else c ;"
    ∷ codes "do a ; while ( b ) ;"
    ∷ codes "while ( a ) b ;"
    ∷ codes "for ( a ; b ; c ) d ;"
    ∷ codes "for ( ; ; ) ;"
    ∷ codes "for ( var a = 1 , b ; ; ) ;"
    ∷ codes "for ( a in b ) c ;"
    ∷ codes "for ( var a in b ) c ;"
    ∷ codes "for ( a . b in c , d ) e ;"
    ∷ codes "continue ;"
    ∷ codes "break ;"
    ∷ codes "return ;"
    ∷ codes "return a ;"
    ∷ codes "switch ( a ) { case b : c ; d ; case e : default : f ; case g : }"
    ∷ codes "switch ( a ) { }"
    ∷ codes "throw a ;"
    ∷ codes "try { } catch ( a ) { }"
    ∷ codes "try { a ; } finally { b ; }"
    ∷ codes "try { } catch ( a ) { } finally { }"
    ∷ codes "function a ( ) { }"
    ∷ codes "function a ( b , c ) { return b ; }"
    ∷ codes "a ; function b ( ) { function c ( ) { } }"
    ∷ codes ""
    ∷ []

-- 12: what just misses them
abbrev pub misplaced_texts : List (List ℕ × Answer)
misplaced_texts =
    (codes "{ a ;", syntax 5)
    ∷ (codes "}", syntax 0)
    ∷ (codes "var ;", syntax 4)
    ∷ (codes "var a , ;", syntax 8)
    ∷ (codes "var 1 ;", syntax 4)
    ∷ (codes "if a b ;", syntax 3)
    ∷ (codes "if ( a )", syntax 8)
    ∷ (codes "if ( a ) b ; else", syntax 17)
    ∷ (codes "else a ;", syntax 0)
    ∷ (codes "do a ; ( b ) ;", syntax 7)
    ∷ (codes "while ( a )", syntax 11)
    ∷ (codes "for ( a ) ;", syntax 8)
    ∷ (codes "for ( a ; b ) ;", syntax 12)
    ∷ (codes "for ( var a , b in c ) ;", syntax 16)
    ∷ (codes "for ( var a = 1 , b in c ) ;", syntax 20)
    ∷ (codes "switch ( a ) { b ; }", syntax 15)
    ∷ (codes "switch ( a ) { case : }", syntax 20)
    ∷ (codes "switch ( a ) { case b ; }", syntax 22)
    ∷ (codes "switch ( a ) { default : default : }", syntax 25)
    ∷ (codes "switch ( a ) { default : b ; case c : default : }", syntax 38)
    ∷ (codes "throw ;", syntax 6)
    ∷ (codes "try { } a ;", syntax 8)
    ∷ (codes "try { }", syntax 7)
    ∷ (codes "try a ; catch ( b ) { }", syntax 4)
    ∷ (codes "try { } catch { }", syntax 14)
    ∷ (codes "try { } catch ( ) { }", syntax 16)
    ∷ (codes "function ( ) { }", syntax 9)
    ∷ (codes "function a ( b , ) { }", syntax 17)
    ∷ (codes "function a ( 1 ) { }", syntax 13)
    ∷ (codes "function a ( ) ;", syntax 15)
    ∷ (codes "function a ( ) {", syntax 16)
    ∷ (codes "case a ;", syntax 0)
    ∷ (codes "catch ;", syntax 0)
    ∷ (codes "class a ;", syntax 0)
    ∷ (codes "const a ;", syntax 0)
    ∷ (codes "import ;", syntax 0)
    ∷ (codes ") ;", syntax 0)
    ∷ []

-- 13: a function declaration as another statement
abbrev pub function_in_block_texts : List (List ℕ × Answer)
function_in_block_texts =
    (codes "{ function a ( ) { } }", unsupported 2 feature.FunctionInBlock)
    ∷ (codes "if ( a ) function b ( ) { }", unsupported 9 feature.FunctionInBlock)
    ∷ (codes "while ( a ) function b ( ) { }", unsupported 12 feature.FunctionInBlock)
    ∷ (codes "switch ( a ) { case b : function c ( ) { } }", unsupported 24 feature.FunctionInBlock)
    ∷ (codes "try { function a ( ) { } } finally { }", unsupported 6 feature.FunctionInBlock)
    ∷ (codes "function a ( ) { { function b ( ) { } } }", unsupported 19 feature.FunctionInBlock)
    ∷ []

-- 11.8, 12.6.3: `in` where it is an operator
abbrev pub for_header_texts : List (List ℕ)
for_header_texts =
    codes "a in b"
    ∷ codes "for ( ( a in b ) ; ; ) ;"
    ∷ codes "for ( a [ b in c ] ; ; ) ;"
    ∷ codes "for ( a ( b in c ) ; ; ) ;"
    ∷ codes "for ( [ a in b ] ; ; ) ;"
    ∷ codes "for ( x = { a : b in c } ; ; ) ;"
    ∷ codes "for ( a ? b in c : d ; ; ) ;"
    ∷ codes "for ( ; a in b ; c in d ) ;"
    ∷ codes "for ( x = function ( ) { a in b } ; ; ) ;"
    ∷ codes "for ( var a = ( b in c ) ; ; ) ;"
    ∷ codes "for ( var a in b in c ) ;"
    ∷ codes "while ( a in b ) ;"
    ∷ []

-- 12.6.3: `in` barred in the first part of a header
abbrev pub barred_in_texts : List (List ℕ × Answer)
barred_in_texts =
    (codes "for ( 1 in b ; ; ) ;", syntax 6)
    ∷ (codes "for ( a ? b : c in d ; ; ) ;", syntax 6)
    ∷ (codes "for ( a = b in c ; ; ) ;", syntax 6)
    ∷ (codes "for ( a + b in c ) ;", syntax 6)
    ∷ (codes "for ( ! a in b ; ; ) ;", syntax 6)
    ∷ (codes "for ( a in b ; ; ) ;", syntax 13)
    ∷ (codes "for ( var a = 1 , b = c in d ; ; ) ;", syntax 24)
    ∷ []

-- 7.9: statements that end without a semicolon
abbrev pub ended_texts : List (List ℕ)
ended_texts =
    codes "a \n b"
    ∷ codes "a"
    ∷ codes "{ a }"
    ∷ codes "var a \n b"
    ∷ codes "var a = 1 \n b"
    ∷ codes "{ var a }"
    ∷ codes "a \n ++ b"
    ∷ codes "a \n -- b"
    ∷ codes "a \n ! b"
    ∷ codes "a \n { }"
    ∷ codes "a ++ \n ( b )"
    ∷ codes "a ++ \n [ b ]"
    ∷ codes "a -- \n ( b )"
    ∷ codes "a = b ++ \n ( c )"
    ∷ codes "var a \n ( b )"
    ∷ codes "var a \n [ b ]"
    ∷ codes "var a , b \n ( c )"
    ∷ codes "var a \n ++ b"
    ∷ codes "do ; while ( a ) \n ( b )"
    ∷ codes "do ; while ( a ) \n b"
    ∷ codes "{ do ; while ( a ) }"
    ∷ codes "do ; while ( a )"
    ∷ codes "break \n a"
    ∷ codes "continue \n a"
    ∷ codes "break \n ( a )"
    ∷ codes "return \n a"
    ∷ codes "return \n + a"
    ∷ codes "{ return }"
    ∷ codes "{ break }"
    ∷ codes "{ continue }"
    ∷ codes "return a \n b"
    ∷ codes "throw a \n b"
    ∷ codes "{ throw a }"
    ∷ codes "break \n ;"
    ∷ codes "if ( a ) b \n else c"
    ∷ codes "do a \n while ( b )"
    ∷ codes "for ( ; ; ) a \n b"
    ∷ codes "a \n + b"
    ∷ codes "a \n ( b )"
    ∷ codes "a \n . b"
    ∷ codes "a \n [ b ]"
    ∷ codes "a \n , b"
    ∷ codes "a \n ? b \n : c"
    ∷ codes "a \n = b"
    ∷ codes "a \n += b"
    ∷ codes "a \n instanceof b"
    ∷ codes "a \n in b"
    ∷ codes "var a \n , b"
    ∷ codes "var a \n = b"
    ∷ codes "var a = b \n ( c )"
    ∷ codes "var a = b \n * c"
    ∷ codes "a ++ \n + b"
    ∷ codes "a ++ \n , b"
    ∷ codes "a \n / b"
    ∷ []

-- 7.9: what just misses them
abbrev pub unended_texts : List (List ℕ × Answer)
unended_texts =
    (codes "a b", syntax 2)
    ∷ (codes "{ a b }", syntax 4)
    ∷ (codes "var a b", syntax 6)
    ∷ (codes "var a ( b )", syntax 6)
    ∷ (codes "var a = 1 b", syntax 10)
    ∷ (codes "if ( a ) b else c", syntax 11)
    ∷ (codes "1 \n : b", syntax 4)
    ∷ (codes "a ++ ( b )", syntax 5)
    ∷ (codes "a ++ [ b ]", syntax 5)
    ∷ (codes "a ++ . b", syntax 5)
    ∷ (codes "a ++ \n . b", syntax 7)
    ∷ (codes "a ++ \n = b", syntax 7)
    ∷ (codes "a + b ++ \n = c", syntax 11)
    ∷ (codes "a ++ ++", syntax 5)
    ∷ (codes "a ++ \n : b", syntax 7)
    ∷ (codes "var a \n . b", syntax 8)
    ∷ (codes "var a \n * b", syntax 8)
    ∷ (codes "var a \n in b", syntax 8)
    ∷ (codes "do ; while ( a ) b", syntax 17)
    ∷ (codes "do ; while ( a ) ( b )", syntax 17)
    ∷ (codes "do ; while ( a ) \n * b", syntax 19)
    ∷ (codes "do ; while ( a ) \n , b", syntax 19)
    ∷ (codes "a ++ b", syntax 5)
    ∷ (codes "return a b", syntax 9)
    ∷ (codes "throw \n a", syntax 8)
    ∷ (codes "throw \n ;", syntax 8)
    ∷ (codes "throw", syntax 5)
    ∷ (codes "break 1", syntax 6)
    ∷ (codes "continue ( a )", syntax 9)
    ∷ (codes "break \n . a", syntax 8)
    ∷ (codes "return \n * a", syntax 9)
    ∷ (codes "for ( a \n b ; c ) ;", syntax 10)
    ∷ (codes "for ( a ; b \n ) ;", syntax 14)
    ∷ (codes "for ( a \n ; b \n c ) ;", syntax 16)
    ∷ []

pub record StatementCases : Type 0 where
  pub statement : AreRead statement_texts
  pub misplaced : AreAnswered misplaced_texts
  pub function_in_block : AreAnswered function_in_block_texts
  pub for_header : AreRead for_header_texts
  pub barred_in : AreAnswered barred_in_texts
  pub ended : AreRead ended_texts
  pub unended : AreAnswered unended_texts
