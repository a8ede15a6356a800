-- Cases of expressions (11), worked out by hand: each rule has some that take it and some that just miss it.
use Rattle.std.specs.Prelude.{ℕ, codes, List, [], ◌∷◌}
use Rattle.js_tree.specs.Refusals.{syntax}
use Rattle.js_grammar.specs.Answers.{Answer, AreRead, AreReadPairs, AreAnswered, AreGrouped}

-- 11.11 to 11.14: comma, assignment, conditional, `||` and `&&`
abbrev pub loose_texts : List (List ℕ × List ℕ)
loose_texts =
    (codes "( a = b ) , c", codes "  a = b   , c")
    ∷ (codes "a , ( b = c )", codes "a ,   b = c  ")
    ∷ (codes "( a , b ) , c", codes "  a , b   , c")
    ∷ (codes "a = ( b = c )", codes "a =   b = c  ")
    ∷ (codes "a = ( b ? c : d )", codes "a =   b ? c : d  ")
    ∷ (codes "a ? ( b = c ) : ( d = e )", codes "a ?   b = c   :   d = e  ")
    ∷ (codes "a ? b : ( c ? d : e )", codes "a ? b :   c ? d : e  ")
    ∷ (codes "( a || b ) ? c : d", codes "  a || b   ? c : d")
    ∷ (codes "( a || b ) || c", codes "  a || b   || c")
    ∷ (codes "a || ( b && c )", codes "a ||   b && c  ")
    ∷ (codes "( a && b ) || c", codes "  a && b   || c")
    ∷ (codes "( a && b ) && c", codes "  a && b   && c")
    ∷ (codes "a && ( b | c )", codes "a &&   b | c  ")
    ∷ (codes "a | ( b ^ c )", codes "a |   b ^ c  ")
    ∷ []

-- 11.8 to 11.10: bits, equality, relations
abbrev pub bitwise_texts : List (List ℕ × List ℕ)
bitwise_texts =
    (codes "( a | b ) | c", codes "  a | b   | c")
    ∷ (codes "a ^ ( b & c )", codes "a ^   b & c  ")
    ∷ (codes "a & ( b == c )", codes "a &   b == c  ")
    ∷ (codes "( a == b ) != c", codes "  a == b   != c")
    ∷ (codes "a === ( b < c )", codes "a ===   b < c  ")
    ∷ (codes "( a !== b ) === c", codes "  a !== b   === c")
    ∷ (codes "( a < b ) > c", codes "  a < b   > c")
    ∷ (codes "a <= ( b << c )", codes "a <=   b << c  ")
    ∷ (codes "( a in b ) instanceof c", codes "  a in b   instanceof c")
    ∷ (codes "( a >= b ) in c", codes "  a >= b   in c")
    ∷ (codes "a << ( b + c )", codes "a <<   b + c  ")
    ∷ (codes "( a << b ) >> c", codes "  a << b   >> c")
    ∷ []

-- 11.5 to 11.8: relations, shifts, sums, products
abbrev pub arithmetic_texts : List (List ℕ × List ℕ)
arithmetic_texts =
    (codes "( a >>> b ) << c", codes "  a >>> b   << c")
    ∷ (codes "a + ( b * c )", codes "a +   b * c  ")
    ∷ (codes "( a + b ) - c", codes "  a + b   - c")
    ∷ (codes "( a - b ) + c", codes "  a - b   + c")
    ∷ (codes "( a * b ) / c", codes "  a * b   / c")
    ∷ (codes "( a % b ) * c", codes "  a % b   * c")
    ∷ (codes "a * ( - b )", codes "a *   - b  ")
    ∷ (codes "( - a ) * b", codes "  - a   * b")
    ∷ (codes "- ( - a )", codes "-   - a  ")
    ∷ (codes "- ( a ++ )", codes "-   a ++  ")
    ∷ (codes "! ( a . b )", codes "!   a . b  ")
    ∷ []

-- 11.3, 11.4: operators with one operand
abbrev pub prefix_texts : List (List ℕ × List ℕ)
prefix_texts =
    (codes "typeof ( a ( b ) )", codes "typeof   a ( b )  ")
    ∷ (codes "( typeof a ) + b", codes "  typeof a   + b")
    ∷ (codes "delete ( a . b )", codes "delete   a . b  ")
    ∷ (codes "void ( ~ a )", codes "void   ~ a  ")
    ∷ (codes "( a . b ) ++", codes "  a . b   ++")
    ∷ []

-- 11.2: members, `new` and calls
abbrev pub member_texts : List (List ℕ × List ℕ)
member_texts =
    (codes "( a ( b ) ) . c", codes "  a ( b )   . c")
    ∷ (codes "( new a ( b ) ) . c", codes "  new a ( b )   . c")
    ∷ (codes "( new a ( b ) ) ( c )", codes "  new a ( b )   ( c )")
    ∷ (codes "new ( new a ( b ) ) ( c )", codes "new   new a ( b )   ( c )")
    ∷ (codes "new ( a . b ) ( c )", codes "new   a . b   ( c )")
    ∷ (codes "new ( a [ b ] ) ( c )", codes "new   a [ b ]   ( c )")
    ∷ (codes "new ( a . b )", codes "new   a . b  ")
    ∷ (codes "( a [ b ] ) [ c ]", codes "  a [ b ]   [ c ]")
    ∷ (codes "( a ( b ) ) ( c )", codes "  a ( b )   ( c )")
    ∷ []

-- 11.1: primary expressions
abbrev pub primary_texts : List (List ℕ)
primary_texts =
    codes "this"
    ∷ codes "a"
    ∷ codes "1"
    ∷ codes "\"a\""
    ∷ codes "'a'"
    ∷ codes "null"
    ∷ codes "true"
    ∷ codes "false"
    ∷ codes "[ ]"
    ∷ codes "[ a ]"
    ∷ codes "[ a , b ]"
    ∷ codes "[ a , ]"
    ∷ codes "[ , ]"
    ∷ codes "[ , a ]"
    ∷ codes "[ a , , b ]"
    ∷ codes "[ a , , ]"
    ∷ codes "x = { }"
    ∷ codes "x = { a : 1 }"
    ∷ codes "x = { a : 1 , }"
    ∷ codes "x = { \"a\" : 1 , 2 : 3 , if : 4 , eval : 5 , arguments : 6 , __abstract : 7 }"
    ∷ codes "x = { get a ( ) { } , set a ( b ) { } }"
    ∷ codes "x = { get if ( ) { } , get \"b\" ( ) { } }"
    ∷ codes "x = { get : 1 , set : 2 }"
    ∷ codes "x = { get get ( ) { } , set set ( a ) { } }"
    ∷ codes "x = function ( ) { }"
    ∷ codes "x = function a ( b , c ) { d ; }"
    ∷ codes "( a )"
    ∷ codes "( ( a ) )"
    ∷ codes "( a , b )"
    ∷ codes "new a"
    ∷ codes "new a ( )"
    ∷ codes "new new a"
    ∷ codes "new a . b"
    ∷ codes "new a [ b ] ( c ) ( d )"
    ∷ codes "new function ( ) { }"
    ∷ codes "a . if"
    ∷ codes "a . eval"
    ∷ codes "a . __residual"
    ∷ codes "a ( )"
    ∷ codes "a ( b , c )"
    ∷ codes "a ( b , c ) . d [ e ] ( )"
    ∷ []

-- 11.1, 11.2: what just misses them
abbrev pub no_primary_texts : List (List ℕ × Answer)
no_primary_texts =
    (codes "*", syntax 0)
    ∷ (codes "a +", syntax 3)
    ∷ (codes "a + ;", syntax 4)
    ∷ (codes "[ a b ]", syntax 4)
    ∷ (codes "[ a , b )", syntax 8)
    ∷ (codes "[ a ,", syntax 5)
    ∷ (codes "x = { , }", syntax 6)
    ∷ (codes "x = { a }", syntax 8)
    ∷ (codes "x = { a : }", syntax 10)
    ∷ (codes "x = { a : 1 b : 2 }", syntax 12)
    ∷ (codes "x = { a : 1 , , }", syntax 14)
    ∷ (codes "x = { get a : 1 }", syntax 12)
    ∷ (codes "x = { get a ( b ) { } }", syntax 14)
    ∷ (codes "x = { set a ( ) { } }", syntax 14)
    ∷ (codes "x = { set a ( b , c ) { } }", syntax 16)
    ∷ (codes "x = { [ a ] : 1 }", syntax 6)
    ∷ (codes "( )", syntax 2)
    ∷ (codes "( a ;", syntax 4)
    ∷ (codes "( a , )", syntax 6)
    ∷ (codes "a . 1", syntax 4)
    ∷ (codes "a . \"b\"", syntax 4)
    ∷ (codes "a [ ]", syntax 4)
    ∷ (codes "a [ b )", syntax 6)
    ∷ (codes "a ( b c )", syntax 6)
    ∷ (codes "a ( b , )", syntax 8)
    ∷ (codes "new", syntax 3)
    ∷ (codes "new . a", syntax 4)
    ∷ (codes "a ? b", syntax 5)
    ∷ (codes "a ? b ;", syntax 6)
    ∷ (codes "a ? : b", syntax 4)
    ∷ (codes "a ? b : ;", syntax 8)
    ∷ (codes "- ;", syntax 2)
    ∷ (codes "a = ;", syntax 4)
    ∷ []

-- 11.3, 11.4.4, 11.13, 12.6.4: what is no target
abbrev pub target_texts : List (List ℕ × Answer)
target_texts =
    (codes "1 = a", syntax 0)
    -- no semicolon is supplied inside parentheses
    ∷ (codes "( a ++ \n = b )", syntax 9)
    ∷ (codes "this = a", syntax 0)
    ∷ (codes "a + b = c", syntax 0)
    ∷ (codes "a ( ) = b", syntax 0)
    ∷ (codes "- a = b", syntax 0)
    ∷ (codes "a = b + c = d", syntax 4)
    ∷ (codes "a ++ = b", syntax 0)
    ∷ (codes "\"a\" += b", syntax 0)
    ∷ (codes "1 ++", syntax 0)
    ∷ (codes "1 ++ b", syntax 0)
    ∷ (codes "a ( ) ++", syntax 0)
    ∷ (codes "++ 1", syntax 3)
    ∷ (codes "++ a ( )", syntax 3)
    ∷ (codes "++ a ++", syntax 3)
    ∷ (codes "-- - a", syntax 3)
    ∷ (codes "++ ++ a", syntax 3)
    ∷ (codes "new a = b", syntax 0)
    ∷ (codes "new a . b = c", syntax 0)
    ∷ (codes "new a ( ) ++", syntax 0)
    ∷ (codes "for ( a ( ) in b ) ;", syntax 6)
    ∷ (codes "for ( a , b in c ) ;", syntax 6)
    ∷ (codes "for ( new a in b ) ;", syntax 6)
    ∷ (codes "( a + b ) = c", syntax 2)
    ∷ (codes "( ( a ) + b ) ++", syntax 4)
    ∷ (codes "[ a ] = b", syntax 0)
    ∷ []

-- 11.13: targets
abbrev pub targets_texts : List (List ℕ)
targets_texts =
    codes "a = b"
    ∷ codes "a . b = c"
    ∷ codes "a [ b ] = c"
    ∷ codes "( a ) = b"
    ∷ codes "( ( a . b ) ) = c"
    ∷ codes "a ( ) . b = c"
    ∷ codes "new a ( ) . b = c"
    ∷ codes "a ++"
    ∷ codes "( a ) ++"
    ∷ codes "a . b --"
    ∷ codes "++ a"
    ∷ codes "-- a [ b ]"
    ∷ codes "++ ( a )"
    ∷ codes "for ( ( a ) in b ) ;"
    ∷ codes "for ( a [ b ] in c ) ;"
    ∷ codes "a ? b : c = d"
    ∷ codes "this . a = b"
    ∷ []

pub record ExpressionCases : Type 0 where
  pub loose_is_read : AreReadPairs loose_texts
  pub loose : AreGrouped loose_texts
  pub bitwise_is_read : AreReadPairs bitwise_texts
  pub bitwise : AreGrouped bitwise_texts
  pub arithmetic_is_read : AreReadPairs arithmetic_texts
  pub arithmetic : AreGrouped arithmetic_texts
  pub prefix_is_read : AreReadPairs prefix_texts
  pub prefix : AreGrouped prefix_texts
  pub member_is_read : AreReadPairs member_texts
  pub member : AreGrouped member_texts
  pub primary : AreRead primary_texts
  pub no_primary : AreAnswered no_primary_texts
  pub target : AreAnswered target_texts
  pub targets : AreRead targets_texts
