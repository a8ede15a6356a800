-- What it is that printed tokens read back.
use Rattle.js_tree.specs.declared.refusal.ReadRefused.{ReadRefused}
use Rattle.js_tree.specs.declared.refusal.ReadRefused.TheVariants.{Nested}
use Rattle.std.specs.Prelude.{Result, Err, ◌≡◌, ◌≤◌, ◌<◌, ◌==◌, ◌&&◌, ℕ, suc, ◌+◌, min, Bool, true, false, not, List, [], ◌∷◌, ◌++◌, length, map, drop, slice_get, codes, Option, None}
use Rattle.std.specs.List.{list_any}
use Rattle.std.specs.Option.{option_map}
use Rattle.js_value.specs.declared.place.FuncNo.{FuncNo}
use Rattle.js_value.specs.declared.place.Place.{Place}
use Rattle.js_tree.specs.declared.expression.Expr.{Expr}
use Rattle.js_tree.specs.declared.expression.Field.{Field}
use Rattle.js_tree.specs.declared.statement.Func.{Func}
use Rattle.js_tree.specs.declared.token.Token.{Token}
use Rattle.js_tree.specs.declared.token.TokenForm.{TokenForm}
use Rattle.js_grammar.specs.Climbing as climbing
use Rattle.js_grammar.specs.Expressions as E
use Rattle.js_grammar.specs.FunctionOrder.{Numbers, are_named_from}
use Rattle.js_grammar.specs.Functions as F
use Rattle.js_grammar.specs.Heights.{body_of, is_within, is_stmt_within}
use Rattle.js_grammar.specs.Marks
use Rattle.js_grammar.specs.Primary as P
use Rattle.js_grammar.specs.Readable.{has_name}
use Rattle.js_grammar.specs.ReadableExpressions.{is_accessor}
use Rattle.js_grammar.specs.Reading.{grammar}
use Rattle.js_grammar.specs.Rest.{Rest, Reading, ◌>>=◌, give, repeat}
use Rattle.script_text.specs.Expressions.{Printed, tokens}
use Rattle.script_text.specs.Pieces.{Piece, word}
use Rattle.script_text.specs.Tokens.{Shape, shape, tokens_from}
use Rattle.reading_back.proofs.Marks.{joins_first, begins_none, begins_unary, begins_statement, begins_other}
use Rattle.reading_back.specs.Unplaced as unplaced
use Rattle.script_nesting.specs.Height.{height, body_height}

-- ---- states of reading

-- the places of the tokens that are left, the first and the last byte of each
abbrev pub Supply : Type 0
Supply = ℕ → Place × Place

abbrev pub placed : Supply → List Shape → List Token
placed supply [] = []
placed supply (s ∷ ss) = record { at = (supply 0).0; end = (supply 0).1; line_before = s.line_before; form = s.form } ∷ placed (λ i. supply (suc i)) ss

-- The functions of a script, and the least number of one that may be read; how high trees may be, and how high the bodies of
-- functions are.
pub record World : Type 0 where
  pub functions : List Func
  pub least : ℕ
  pub high : ℕ
  pub tall : FuncNo → ℕ
  pub stands : (f : FuncNo) → body_height tall (body_of functions f) ≤ tall f

-- an expression that is no higher than is allowed
pub record Low (all : World) (e : Expr) : Type 0 where
  pub within : height all.tall e ≤ all.high

-- what stays while a part is read: how many parts are open, and the numbers of the functions that were begun and aren't
-- read yet
pub record Frame (all : World) : Type 0 where
  pub end : Place
  pub limit : ℕ
  pub opened : ℕ
  pub begun : Numbers

-- what changes, but for the tokens
pub record Spot : Type 0 where
  pub supply : Supply
  pub last : Option Token
  pub functions : List Func

abbrev pub rest_of : {all : World} → Frame all → Spot → List Shape → Rest
rest_of {all = all} w c shapes = record {
  tokens = placed c.supply shapes;
  end = w.end;
  last = c.last;
  limit = w.limit;
  opened = w.opened;
  allows_expr = λ functions x. is_within functions all.high x;
  allows_stmt = λ functions t. is_stmt_within functions all.high t;
  functions = c.functions;
}

-- one more part is open
abbrev pub deeper : {all : World} → Frame all → Frame all
deeper w = record w { opened = w.opened + 1 }

-- ---- functions

-- a function of both lists is the same but for places
abbrev pub SameAt : List Func → List Func → ℕ → Type 0
SameAt functions all i = option_map unplaced.func (slice_get functions i) ≡ option_map unplaced.func (slice_get all i)

-- of the body of a function nothing was read, or all, but for places
pub data Stands (functions all : List Func) (k : FuncNo) : Type 0 where
  unread : body_of functions k ≡ [] → Stands functions all k
  alike : map unplaced.stmt (body_of functions k) ≡ map unplaced.stmt (body_of all k) → Stands functions all k

-- Of all functions of a script these were begun, and the ones with these numbers come next. Those that were read are the
-- same but for places.
pub record Ready {all : World} (w : Frame all) (functions : List Func) (numbers : Numbers) : Type 0 where
  pub named : are_named_from (length functions) numbers (drop (length functions) all.functions) ≡ true
  pub within : length functions ≤ length all.functions
  pub deep : all.least ≤ length functions
  pub right : (i : ℕ) → i < length functions → list_any (λ n. n == i) w.begun ≡ false → SameAt functions all.functions i
  pub stands : (k : FuncNo) → Stands functions all.functions k

-- ---- readings

-- From here m reads all but the rest and has a value that is wanted, and goes on with it as k does on the rest. The
-- functions whose numbers stand behind those read come next.
pub record IsNested {A : Type 0} (r : Result (A × Rest) ReadRefused) : Type 0 where
  pub at : Place
  pub is : r ≡ Err (Nested at)

-- With this limit or a greater one m does so; with a smaller one something is nested too deep.
pub record Leads {all : World} {A B : Type 0} (least : ℕ) (w : Frame all) (behind : Numbers) (Is : B → Type 0) (c : Spot) (front rest : List Shape) (m : Reading A) (k : B → Reading A) : Type 0 where
  pub value : B
  pub spot : Spot
  pub done : least ≤ w.limit → m (rest_of w c front) ≡ k value (rest_of w spot rest)
  pub nested : w.opened ≤ w.limit → w.limit < least → IsNested (m (rest_of w c front))
  pub is : Is value
  pub ready : Ready w spot.functions behind

-- With so many parts open the limit is far enough: these pieces read as m does to a value that is wanted, where what stands
-- behind fits, and their functions come next.
pub record Read {A B : Type 0} (all : World) (bound : ℕ) (pieces : List Piece) (numbers : Numbers) (Is : B → Type 0) (fits : List Shape → Type 0) (m : Reading A) (k : B → Reading A) : Type 0 where
  pub at : (w : Frame all) (c : Spot) (line : Bool) (rest : List Shape) (behind : Numbers) → Ready w c.functions (numbers ++ behind) → fits rest
      → Leads (w.opened + bound) w behind Is c (tokens_from line pieces ++ rest) rest m k

abbrev pub anything : List Shape → Type 0
anything rest = Unit {0}

-- no token that goes on with an expression of this level or a tighter one
abbrev pub below : Bool → ℕ → List Shape → Type 0
below allows_in level rest = joins_first allows_in rest < level

-- a token ends these pieces, so that what stands behind is on the same line
pub record Flows (pieces : List Piece) : Type 0 where
  pub at : (line : Bool) (more : List Piece) → tokens_from line (pieces ++ more) ≡ tokens_from line pieces ++ tokens_from false more

-- ---- expressions

-- the same but for places
pub record IsExpr (e x : Expr) : Type 0 where
  pub same : unplaced.expr x ≡ unplaced.expr e

-- what is known of a printed expression: how tight it is, whether it has a call outside brackets, and how it starts
pub record Look : Type 0 where
  pub level : ℕ
  pub calls : Bool
  pub starts : Bool

-- the token that these pieces begin with; `starts` says that it is `{`, `function` or a string
pub record First (look : Look) (pieces : List Piece) : Type 0 where
  pub form : TokenForm
  pub more : List Shape
  pub is : (line : Bool) → tokens_from line pieces ≡ shape form line ∷ more
  pub begins : begins_none form ≡ false
  pub no_statement : begins_statement form ≡ false
  pub no_sign : 15 ≤ look.level → begins_unary form ≡ false
  pub plain : look.starts ≡ false → begins_other form ≡ false

-- what these pieces read to in each production that takes such an expression
pub record Part (all : World) (bound : ℕ) (look : Look) (allows_in : Bool) (pieces : List Piece) (numbers : Numbers) (e : Expr) : Type 0 where
  pub flows : Flows pieces
  pub first : First look pieces
  -- 11.1
  pub operand : 17 ≤ look.level → Read all bound pieces numbers (IsExpr e) anything (P.operand grammar) give
  -- 11.2
  pub calls : 16 ≤ look.level → Read all bound pieces numbers (IsExpr e) anything (P.left_hand_side grammar) (repeat (P.more_members grammar true))
  pub members : 16 ≤ look.level → look.calls ≡ false → Read all bound pieces numbers (IsExpr e) anything (P.member grammar) (repeat (P.more_members grammar false))
  -- 11.3, 11.4
  pub unary : 14 ≤ look.level → Read all bound pieces numbers (IsExpr e) (below allows_in 14) (E.unary grammar) give
  -- 11.5 to 11.11
  pub climb : (n : ℕ) → n + 4 ≤ look.level → Read all bound pieces numbers (IsExpr e) (below allows_in (suc (min 13 look.level)))
      (E.unary grammar >>= climbing.rest (E.unary grammar) (drop n (climbing.levels allows_in))) (climbing.rest (E.unary grammar) (drop n (climbing.levels allows_in)))
  -- 11.12
  pub conditional : 3 ≤ look.level → Read all bound pieces numbers (IsExpr e) (below allows_in 2) (E.conditional grammar allows_in) give
  -- 11.13
  pub assignment : 2 ≤ look.level → Read all bound pieces numbers (IsExpr e) (below allows_in 2) (E.assignment grammar allows_in) give
  -- 11.14
  pub commas : Read all bound pieces numbers (IsExpr e) (below allows_in 2) (P.expression_by grammar (E.assignment grammar allows_in) allows_in) (repeat (P.more_commas grammar allows_in))

-- where an expression of at least a level is taken; `starts` says that it isn't grouped and starts so
pub record Fit (all : World) (bound wanted : ℕ) (starts allows_in : Bool) (pieces : List Piece) (numbers : Numbers) (e : Expr) : Type 0 where
  pub look : Look
  pub enough : wanted ≤ look.level
  pub plain : starts ≡ false → look.starts ≡ false
  pub part : Part all bound look allows_in pieces numbers e

-- an expression as it is printed without parentheses around it, wherever it may stand so
pub record Whole (all : World) (p : Printed) (opened : Bool → ℕ) (numbers : Numbers) (e : Expr) : Type 0 where
  pub no_in : 16 ≤ p.level → p.is_in ≡ false
  pub part : (allows_in : Bool) → (p.is_in && not allows_in) ≡ false → Part all (opened allows_in) (record { level = p.level; calls = p.calls; starts = p.starts }) allows_in (tokens p allows_in) numbers e

-- the pieces of a property (11.1.5)
pub record IsField (f x : Field) : Type 0 where
  pub same : unplaced.field x ≡ unplaced.field f

pub record FieldPart (all : World) (bound : ℕ) (pieces : List Piece) (numbers : Numbers) (f : Field) : Type 0 where
  pub flows : Flows pieces
  pub form : TokenForm
  pub more : List Shape
  pub is : (line : Bool) → tokens_from line pieces ≡ shape form line ∷ more
  pub begins : Marks.right_brace form ≡ None
  pub reads : Read all bound pieces numbers (IsField f) (below true 2) (P.property grammar) give

-- ---- functions by their numbers (13)

pub record IsNumber (f x : FuncNo) : Type 0 where
  pub same : x ≡ f

-- the pieces of each function read to it, whatever its place
pub record FunctionsRead (all : World) (function : Bool → FuncNo → List Piece) (inside : FuncNo → ℕ) : Type 0 where
  pub ends : (named : Bool) (f : FuncNo) (before : List Piece) → Flows before → Flows (before ++ function named f)
  pub expression : (f : FuncNo) (at : Place) → all.tall f ≤ all.high → Read all (inside f) (word (codes "function") ++ function true f) (f.0 ∷ []) (IsNumber f) anything (F.function_expression grammar at) give
  pub declaration : (f : FuncNo) (at : Place) → all.tall f ≤ all.high → has_name (slice_get all.functions f.0) ≡ true
      → Read all (inside f) (word (codes "function") ++ function true f) (f.0 ∷ []) (IsNumber f) anything (F.function_declaration grammar at) give
  pub getter : (f : FuncNo) (at : Place) → all.tall f ≤ all.high → is_accessor 0 (slice_get all.functions f.0) ≡ true
      → Read all (inside f) (function false f) (f.0 ∷ []) (IsNumber f) anything (F.accessor grammar at (F.no_parameter grammar)) give
  pub setter : (f : FuncNo) (at : Place) → all.tall f ≤ all.high → is_accessor 1 (slice_get all.functions f.0) ≡ true
      → Read all (inside f) (function false f) (f.0 ∷ []) (IsNumber f) anything (F.accessor grammar at (F.one_parameter grammar)) give
