-- Cases of nesting, worked out by hand: each tree stands beside its text and its nesting.
use Rattle.std.specs.Prelude.{◌≡◌, ℕ, suc, max, ◌+◌, ◌-◌, Bool, true, false, codes, List, [], ◌∷◌, map, Some, None, Ok, Err}
use Rattle.js_value.specs.declared.operator.BinaryOp.TheVariants as binary
use Rattle.js_value.specs.declared.operator.UnaryOp.TheVariants as unary
use Rattle.js_value.specs.declared.place.FuncNo.{FuncNo}
use Rattle.js_value.specs.declared.primitive.Primitive.TheVariants as primitive
use Rattle.js_tree.specs.Trees.{no}
use Rattle.js_tree.specs.declared.expression.StepOp.TheVariants as step
use Rattle.js_tree.specs.declared.expression.ExprForm.TheOpen.{ExprForm-F}
use Rattle.js_tree.specs.declared.refusal.ReadRefused.TheVariants.{Nested}
use Rattle.js_grammar.specs.Answers.{Answer, read_text}
use Rattle.script_text.specs.Pieces.{Piece}
use Rattle.script_nesting.specs.Height as height
use Rattle.script_nesting.specs.Opened as opened
use Rattle.script_nesting.specs.Opened.{Deep}

-- an expression, by what its parts are: the parts that are open inside it, and its height
pub record Sized : Type 0 where
  pub deep : Deep
  pub high : ℕ

-- every function has an empty body
abbrev pub inside : FuncNo → ℕ
inside f = 1

abbrev pub body : FuncNo → ℕ
body f = 0

abbrev pub function : Bool → FuncNo → List Piece
function named f = []

-- leaves, and forms by their parts
abbrev pub leaf : ExprForm-F Deep (List Piece × ℕ) Deep → Sized
leaf l = record { deep = opened.of_form function inside l; high = 1 }

abbrev pub with_one : (Deep → ExprForm-F Deep (List Piece × ℕ) Deep) → (ℕ → ExprForm-F ℕ ℕ ℕ) → Sized → Sized
with_one f g a = record { deep = opened.of_form function inside (f a.deep); high = suc (height.of_form body (g a.high)) }

abbrev pub with_two : (Deep → Deep → ExprForm-F Deep (List Piece × ℕ) Deep) → (ℕ → ℕ → ExprForm-F ℕ ℕ ℕ) → Sized → Sized → Sized
with_two f g a b = record { deep = opened.of_form function inside (f a.deep b.deep); high = suc (height.of_form body (g a.high b.high)) }

abbrev pub a : Sized
a = leaf (ExprForm-F.Name (codes "a"))

abbrev pub text : Sized
text = leaf (ExprForm-F.Literal (primitive.Text (codes "s")))

abbrev pub func : Sized
func = record { deep = opened.of_form function inside (ExprForm-F.Func (no 0)); high = suc (height.of_form body (ExprForm-F.Func (no 0))) }

abbrev pub not : Sized → Sized
not = with_one (λ d. ExprForm-F.Unary unary.Not d) (λ n. ExprForm-F.Unary unary.Not n)

abbrev pub up : Sized → Sized
up = with_one (λ d. ExprForm-F.Step step.PostUp d) (λ n. ExprForm-F.Step step.PostUp n)

abbrev pub dot : Sized → Sized
dot = with_one (λ d. ExprForm-F.Member d (codes "k")) (λ n. ExprForm-F.Member n (codes "k"))

abbrev pub add : Sized → Sized → Sized
add = with_two (λ d e. ExprForm-F.Binary binary.Add d e) (λ m n. ExprForm-F.Binary binary.Add m n)

abbrev pub assign : Sized → Sized → Sized
assign = with_two (λ d e. ExprForm-F.Assign d None e) (λ m n. ExprForm-F.Assign m None n)

abbrev pub comma : Sized → Sized → Sized
comma = with_two (λ d e. ExprForm-F.Comma d e) (λ m n. ExprForm-F.Comma m n)

abbrev pub index : Sized → Sized → Sized
index = with_two (λ d e. ExprForm-F.Index d e) (λ m n. ExprForm-F.Index m n)

abbrev pub call : Sized → Sized → Sized
call = with_two (λ d e. ExprForm-F.Call d (e ∷ [])) (λ m n. ExprForm-F.Call m (n ∷ []))

abbrev pub new : Sized → Sized → Sized
new = with_two (λ d e. ExprForm-F.New d (e ∷ [])) (λ m n. ExprForm-F.New m (n ∷ []))

abbrev pub array : Sized → Sized
array = with_one (λ d. ExprForm-F.ArrayLit (Some d ∷ None ∷ [])) (λ n. ExprForm-F.ArrayLit (Some n ∷ None ∷ []))

abbrev pub chosen : Sized → Sized → Sized
chosen = with_two (λ d e. ExprForm-F.Conditional d e e) (λ m n. ExprForm-F.Conditional m n n)

-- of a script that is this expression statement alone, how many parts are open at once, and its nesting
abbrev pub opened_by : Sized → ℕ
opened_by x = opened.of_stmts (opened.if_grouped x.deep.printed.starts true x.deep ∷ [])

abbrev pub nesting_of : Sized → ℕ
nesting_of x = max (opened_by x) (x.high + 1)

-- an expression, how many parts its statement opens, the nesting, and the text
pub record Row : Type 0 where
  pub expression : Sized
  pub opened : ℕ
  pub nesting : ℕ
  pub text : List ℕ

abbrev pub row : Sized → ℕ → ℕ → List ℕ → Row
row x opened nesting text = record { expression = x; opened = opened; nesting = nesting; text = text }

abbrev pub rows : List Row
rows =
    row a 1 2 (codes "a ;")
    ∷ row (up a) 1 3 (codes "a ++ ;")
    ∷ row (not (not a)) 3 4 (codes "! ! a ;")
    ∷ row (not (not (not (not a)))) 5 6 (codes "! ! ! ! a ;")
    ∷ row (add (add a a) a) 1 4 (codes "a + a + a ;")
    ∷ row (add a (add a (add a a))) 3 5 (codes "a + ( a + ( a + a ) ) ;")
    ∷ row (assign a (assign a (assign a (comma a a)))) 5 6 (codes "a = a = a = ( a , a ) ;")
    ∷ row (index a (index a (call a a))) 4 5 (codes "a [ a [ a ( a ) ] ] ;")
    ∷ row (new (call a a) a) 3 4 (codes "new ( a ( a ) ) ( a ) ;")
    ∷ row (array (array (array a))) 4 5 (codes "[ [ [ a , , ] , , ] , , ] ;")
    ∷ row (chosen (chosen a a) (chosen a a)) 3 4 (codes "( a ? a : a ) ? a ? a : a : a ? a : a ;")
    ∷ row text 2 2 (codes "( 's' ) ;")
    ∷ row (dot func) 3 3 (codes "( function ( ) { } . k ) ;")
    ∷ row (add func (not (not (not a)))) 5 6 (codes "( function ( ) { } + ! ! ! a ) ;")
    ∷ row (call (dot func) (not (array (not (array a))))) 7 7 (codes "( function ( ) { } . k ( ! [ ! [ a , , ] , , ] ) ) ;")
    ∷ row (dot (dot (dot (dot a)))) 1 6 (codes "a . k . k . k . k ;")
    ∷ []

abbrev pub is_read : Answer → Bool
is_read (Ok s) = true
is_read (Err e) = false

abbrev pub is_nested : Answer → Bool
is_nested (Err (Nested at)) = true
is_nested _ = false

-- where trees of any height are allowed, the text is read with so many open parts, and not with one less
pub record NestingCases : Type 0 where
  pub opened : map (λ (r : Row). opened_by r.expression) rows ≡ map (λ (r : Row). r.opened) rows
  pub nesting : map (λ (r : Row). nesting_of r.expression) rows ≡ map (λ (r : Row). r.nesting) rows
  pub are_read : map (λ (r : Row). is_read (read_text r.opened r.text)) rows ≡ map (λ (r : Row). true) rows
  pub are_nested : map (λ (r : Row). is_nested (read_text (r.opened - 1) r.text)) rows ≡ map (λ (r : Row). true) rows
