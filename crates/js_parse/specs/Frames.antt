-- What is still to be read, by what waits for an operand.
use Rattle.std.specs.Prelude.{◌≡◌, ◌≢◌, ◌+◌, ◌*◌, ◌<◌, ℕ, ◌&&◌, if◌then◌else◌, Bool, true, false, List, [], ◌∷◌, ◌++◌, drop, length, Option, Some, None, is_some, Result, Ok, Err}
use Rattle.js_value.specs.declared.place.Place.{Place}
use Rattle.js_tree.specs.declared.expression.Expr.{Expr}
use Rattle.js_tree.specs.declared.expression.ExprForm.TheVariants as e
use Rattle.js_tree.specs.declared.expression.Field.{Field}
use Rattle.js_tree.specs.declared.expression.Field.TheVariants as field
use Rattle.js_tree.specs.declared.refusal.ReadRefused.{ReadRefused}
use Rattle.js_tree.specs.declared.refusal.ReadRefused.TheVariants.{NoMemory}
use Rattle.js_tree.specs.declared.token.Token.{Token}
use Rattle.js_grammar.specs.Rest.{Rest, Reading, ◌>>=◌, ◌>>◌, give, next, expect, repeat, part, finish, on_later_line}
use Rattle.js_grammar.specs.Climbing.{levels, rest}
use Rattle.js_grammar.specs.Expressions as E
use Rattle.js_grammar.specs.Primary as P
use Rattle.js_grammar.specs.Marks
use Rattle.js_grammar.specs.Operators
use Rattle.js_grammar.specs.Reading.{grammar}
use Rattle.js_parse.specs.declared.frames.Open.{Open}
use Rattle.js_parse.specs.declared.frames.Literal.{Literal}
use Rattle.js_parse.specs.declared.frames.Frame.{Frame}
use Rattle.js_parse.specs.declared.frames.Frame.TheVariants as frame
use Rattle.js_parse.specs.declared.frames.Next.{Next}
use Rattle.js_parse.specs.declared.frames.Next.TheVariants as after
use Rattle.js_parse.specs.declared.frames.Stage.{Stage}
use Rattle.js_parse.specs.declared.frames.Stage.TheVariants as stage
use Rattle.js_parse.specs.declared.frames.First.{First}
use Rattle.js_parse.specs.declared.frames.First.TheVariants as first
use Rattle.js_parse.specs.declared.frames.Reached.{Reached}
use Rattle.js_parse.specs.declared.frames.Reached.TheVariants as reached
use Rattle.token_marks.specs.declared.operators.Level.{Level}
use Rattle.token_marks.specs.declared.operators.Level.TheVariants as level
use Rattle.token_marks.specs.Levels.{number, form_of}
use Rattle.token_reader.specs.Parts.{stepped}

-- ---- what a frame waits for

-- `new`, its callee
abbrev pub callee_of : Frame → Option Place
callee_of (frame.Callee at) = Some at
callee_of _ = None

-- operators that pass this level, and `in` where it may be one
abbrev pub level_of : Frame → Option (Level × Bool)
level_of (frame.Operation allows_in) = Some (level.Any, allows_in)
level_of (frame.Right o) = Some (o.level, o.allows_in)
level_of (frame.Value l) = Some (level.Any, true)
level_of _ = None

-- the same of the innermost frame
abbrev pub of_first : {A : Type 0} → (Frame → Option A) → List Frame → Option A
of_first want [] = None
of_first want (f ∷ fs) = want f

-- ---- what goes on behind an expression, production by production

-- operators that are tighter than so many levels (11.5 to 11.11)
abbrev pub tighter : Bool → ℕ → Expr → Reading Expr
tighter allows_in n = rest (E.unary grammar) (drop n (levels allows_in))

-- the right side of an operator was read
abbrev pub join : Open → Expr → Reading Expr
join o right = finish o.left.at (form_of o.op o.left right)

-- 11.12
abbrev pub chosen : Bool → Expr → Reading Expr
chosen allows_in test =
    next Marks.question (λ _. do
      yes_part ← part (grammar.assignment true)
      expect Marks.colon
      no_part ← part (grammar.assignment allows_in)
      finish test.at (e.Conditional test yes_part no_part)) (give test)

-- 11.13
abbrev pub assigned : Bool → Expr → Reading Expr
assigned allows_in x = do
  later ← on_later_line
  behind_step ← E.behind_postfix
  if later && behind_step then give x else next Operators.assignment_operator (E.assigned grammar allows_in x) (give x)

-- 11.2.2
abbrev pub perhaps_arguments : Reading (List Expr)
perhaps_arguments = next Marks.left_parenthesis (λ _. P.arguments_behind grammar) (give [])

abbrev pub constructed : Place → Expr → Reading Expr
constructed at callee = do
  args ← perhaps_arguments
  finish at (e.New callee args)

-- 11.1.5: the end of an object literal, what stands behind some of its properties, and behind the last of them
abbrev pub literal_end : Place → List Field → Reading Expr
literal_end at all = expect Marks.right_brace >> finish at (e.ObjectLit all)

abbrev pub literal_from : Place → List Field → Reading Expr
literal_from at so_far = do
  fields ← repeat (P.more_fields grammar) so_far
  finish at (e.ObjectLit fields)

abbrev pub literal_behind : Place → List Field → Reading Expr
literal_behind at so_far = next Marks.comma (λ _. literal_from at so_far) (literal_end at so_far)

-- a property with a value, behind those so far
abbrev pub keyed : Place → List Field → Reading Expr
keyed at so_far = do
  x ← P.valued grammar
  literal_behind at (so_far ++ (x ∷ []))

-- the value of a property was read up to its operators with two operands
abbrev pub value : Literal → Expr → Reading Expr
value l x = do
  y ← chosen true x
  v ← assigned true y
  literal_behind l.at (l.so_far ++ (field.Value l.key_at l.key v ∷ []))

-- ---- what goes on behind an operand, and behind one with its prefix and postfix operators

pub record Behind : Type 0 where
  pub operand : Expr → Reading Expr
  pub unary : Expr → Reading Expr

-- behind what a frame waited for
abbrev pub popped : Frame → Behind → Expr → Reading Expr
popped (frame.Right o) k = λ x. join o x >>= k.unary
popped (frame.Value l) k = λ x. value l x >>= k.operand
popped _ k = k.unary

abbrev pub behind_operators : Option (Level × Bool) → (Expr → Reading Expr) → Expr → Reading Expr
behind_operators None k = k
behind_operators (Some l) k = λ x. tighter l.1 (number l.0) x >>= k

abbrev pub behind_operand : Option Place → (Expr → Reading Expr) → (Expr → Reading Expr) → Expr → Reading Expr
behind_operand None unary outer = λ x. repeat (P.more_members grammar true) x >>= stepped >>= unary
behind_operand (Some at) unary outer = λ x. repeat (P.more_members grammar false) x >>= constructed at >>= outer

abbrev pub behind_frame : Frame → Behind → Behind
behind_frame f k = record {
  operand = behind_operand (callee_of f) (behind_operators (level_of f) (popped f k)) k.operand;
  unary = behind_operators (level_of f) (popped f k);
}

abbrev pub behind_all : List Frame → Behind
behind_all [] = record { operand = behind_operand None give give; unary = give }
behind_all (f ∷ fs) = behind_frame f (behind_all fs)

-- behind what the innermost frame waited for
abbrev pub behind_first : List Frame → Expr → Reading Expr
behind_first [] = give
behind_first (f ∷ fs) = popped f (behind_all fs)

-- ---- what is still to be read

abbrev pub begun : Bool → Behind → Reading Expr
begun true k = E.unary grammar >>= k.unary
begun false k = P.operand grammar >>= k.operand

abbrev pub operand_on : List Frame → Reading Expr
operand_on fs = P.operand grammar >>= (behind_all fs).operand

abbrev pub field_on : Place → List Field → List Frame → Reading Expr
field_on at so_far fs = (P.property grammar >>= λ x. literal_behind at (so_far ++ (x ∷ []))) >>= (behind_all fs).operand

abbrev pub keyed_on : Place → List Field → List Frame → Reading Expr
keyed_on at so_far fs = keyed at so_far >>= (behind_all fs).operand

abbrev pub read_on : Stage → List Frame → Reading Expr
read_on stage.Begin = λ fs. begun (is_some (of_first level_of fs)) (behind_all fs)
read_on (stage.Fields at so_far) = λ fs. literal_from at so_far >>= (behind_all fs).operand
read_on (stage.Operand x) = λ fs. (behind_all fs).operand x
read_on (stage.Unary x) = λ fs. (behind_all fs).unary x

abbrev pub stage_of : Reached → Stage
stage_of (reached.Whole x) = stage.Operand x
stage_of (reached.Fields at so_far) = stage.Fields at so_far

-- ---- answers

-- what was still to be read is what is still to be read now
abbrev pub IsStage : Reading Expr → Rest → List Frame → Rest → Result Stage ReadRefused → Type 0
IsStage m s fs t (Ok st) = m s ≡ read_on st fs t
IsStage m s fs t (Err d) = d ≢ NoMemory → m s ≡ Err d

abbrev pub IsNext : Reading Expr → Rest → List Frame → Rest → Result Next ReadRefused → Type 0
IsNext m s fs t (Ok (after.Stage st)) = m s ≡ read_on st fs t
IsNext m s fs t (Ok (after.Done x)) = m s ≡ Ok (x, t)
IsNext m s fs t (Err d) = d ≢ NoMemory → m s ≡ Err d

abbrev pub IsFirst : Reading Expr → Rest → Rest → Result First ReadRefused → Type 0
IsFirst m s t (Ok (first.Whole x)) = m s ≡ Ok (x, t)
IsFirst m s t (Ok (first.New at)) = m s ≡ P.new_behind grammar at t
IsFirst m s t (Ok (first.Object at)) = m s ≡ P.object_behind grammar at t
IsFirst m s t (Err d) = d ≢ NoMemory → m s ≡ Err d

abbrev pub IsReached : Reading Expr → Rest → Rest → Result Reached ReadRefused → Type 0
IsReached m s t (Ok (reached.Whole x)) = m s ≡ Ok (x, t)
IsReached m s t (Ok (reached.Fields at so_far)) = m s ≡ literal_from at so_far t
IsReached m s t (Err d) = d ≢ NoMemory → m s ≡ Err d

-- a rule that needs something to begin with, or another rule in its place
abbrev pub IsPart : {A : Type 0} → Reading A → Reading A → Rest → Rest → Result (Option A) ReadRefused → Type 0
IsPart m other s t (Ok (Some a)) = m s ≡ Ok (a, t)
IsPart m other s t (Ok None) = (m s ≡ other s) × (t ≡ s)
IsPart m other s t (Err d) = d ≢ NoMemory → m s ≡ Err d

-- ---- how much is left to do

abbrev pub work : List Token → List Frame → ℕ
work tokens frames = 3 * length tokens + 2 * length frames

abbrev pub rank : Stage → ℕ
rank (stage.Operand x) = 1
rank _ = 0

abbrev pub Falls : ℕ → ℕ → Next → Type 0
Falls now before (after.Stage st) = now + rank st < before
Falls now before (after.Done x) = Unit {0}
