-- Expressions, where their parts read.
use Rattle.std.proofs.Common.{◌≡◌, ℕ, ◌+◌, Bool, true, false, not, ◌&&◌, ◌||◌, List, [], ◌∷◌, refl, sym, subst, arith}
use Rattle.std.specs.Prelude.{nat_lt, codes, Option, Some, None, if◌then◌else◌}
use Rattle.std.specs.List.{list_all}
use Rattle.std.proofs.lemmas.Bool.{and_parts, and_from, or_parts, both_ways, not-true}
use Rattle.js_value.specs.declared.place.FuncNo.{FuncNo}
use Rattle.js_value.specs.declared.primitive.Kind.{Kind}
use Rattle.js_value.specs.declared.primitive.Kind.TheVariants as kind
use Rattle.js_value.specs.declared.primitive.Primitive.{Primitive}
use Rattle.js_value.specs.declared.primitive.Primitive.TheVariants as primitive
use Rattle.js_value.specs.declared.operator.BinaryOp.{BinaryOp}
use Rattle.js_value.specs.declared.operator.BinaryOp.TheVariants as binary
use Rattle.js_value.specs.declared.operator.UnaryOp.{UnaryOp}
use Rattle.js_value.specs.declared.operator.UnaryOp.TheVariants as unary
use Rattle.js_tree.specs.Lexing.{is_name_start, is_name_part, is_proto}
use Rattle.js_tree.specs.declared.expression.LogicOp.{LogicOp}
use Rattle.js_tree.specs.declared.expression.LogicOp.TheVariants as logic
use Rattle.js_tree.specs.declared.expression.StepOp.{StepOp}
use Rattle.js_tree.specs.declared.expression.StepOp.TheVariants as step
use Rattle.js_tree.specs.declared.expression.ExprForm.TheOpen.{ExprForm-F, Field-F}
use Rattle.js_grammar.specs.ReadableWords.{is_readable_text, is_readable_literal}
use Rattle.js_grammar.specs.ReadableExpressions.{is_compound}
use Rattle.script_text.specs.declared.gap.Gap.{Gap}
use Rattle.script_text.specs.declared.gap.Gap.TheVariants.{Tight, Loose}
use Rattle.script_text.specs.Pieces.{Piece, Named, Quoted, word, separated, behind_commas}
use Rattle.script_text.specs.Expressions as text
use Rattle.script_text.specs.Expressions.{Printed, tokens, literal, key_before, is_ascii_name, is_ascii_start, is_ascii_part, are_ascii_parts, unary_operator, binary_level, logic_level, is_postfix, level, is_number, grouped, if_grouped, at, object, callee_of_new, value, element, last_comma, ends_in_elision, index, in_parentheses, branch, stepped, kind_text, two_literals, input, host_call, of_field, of_form}
use Rattle.lexing_back.proofs.Ascii.{is_ascii_text}
use Rattle.lexing_back.proofs.Characters.{start_part}
use Rattle.lexing_back.proofs.Names.{IsName, is_name-ascii, small}
use Rattle.lexing_back.proofs.Spots.{Spot, Anything, Ended, Tailed, Pointed, Begun, Fielded, implies, Runs, joined, implies-self, nothing, from, to}
use Rattle.lexing_back.proofs.Single as one

-- ---- parts in parentheses or not

-- the spot behind an expression, by its level and whether it is a number
abbrev pub edge_by : Bool → Bool → Spot
edge_by loose number = if loose then Ended else (if number then Tailed else Pointed)

abbrev pub edge : ℕ → Bool → Spot
edge level number = edge_by (nat_lt level 16) number

-- An expression's pieces lead from a spot behind it to one where an expression begins.
pub record Prints (p : Printed) : Type 0 where
  pub runs : (allows_in : Bool) → Runs (edge p.level p.is_number) Begun (tokens p allows_in)

pub ended-edge : (a b : Bool) → implies Ended (edge_by a b) ≡ true
ended-edge true b = refl
ended-edge false true = refl
ended-edge false false = refl

tailed-edge : (a b : Bool) → a ≡ false → implies Tailed (edge_by a b) ≡ true
tailed-edge true b e = cc
tailed-edge false true e = refl
tailed-edge false false e = refl

pointed-edge : (a b : Bool) → a ≡ false → b ≡ false → implies Pointed (edge_by a b) ≡ true
pointed-edge true b e h = cc
pointed-edge false true e h = cc
pointed-edge false false e h = refl

ended : {p : Printed} → Prints p → (allows_in : Bool) → Runs Ended Begun (tokens p allows_in)
ended {p = p} is allows_in = from Ended (ended-edge (nat_lt p.level 16) p.is_number) (is.runs allows_in)

grouped-runs : (ps : List Piece) → Runs Ended Begun ps → Runs Anything Begun (grouped ps)
grouped-runs ps is = joined (joined one.group-runs refl is) refl one.right_parenthesis-runs

pub if_grouped-runs : (s : Spot) (b allows_in : Bool) (p : Printed) → Prints p → (b ≡ false → implies s (edge p.level p.is_number) ≡ true) → Runs s Begun (if_grouped b allows_in p)
if_grouped-runs s true allows_in p is h = from s refl (grouped-runs (tokens p true) (ended is true))
if_grouped-runs s false allows_in p is h = from s (h refl) (is.runs allows_in)

pub at-runs : (wanted : ℕ) (allows_in : Bool) (p : Printed) → Prints p → Runs Ended Begun (at wanted allows_in p)
at-runs wanted allows_in p is = if_grouped-runs Ended _ allows_in p is (λ e. ended-edge (nat_lt p.level 16) p.is_number)

pub tail-runs : (allows_in : Bool) (p : Printed) → Prints p → Runs Tailed Begun (at 16 allows_in p)
tail-runs allows_in p is =
    if_grouped-runs Tailed (nat_lt p.level 16 || p.is_in && not allows_in) allows_in p is
    (λ e. tailed-edge (nat_lt p.level 16) p.is_number (or_parts (nat_lt p.level 16) (p.is_in && not allows_in) e).0)

object-runs : (allows_in : Bool) (p : Printed) → Prints p → Runs Pointed Begun (object allows_in p)
object-runs allows_in p is =
    if_grouped-runs Pointed (nat_lt p.level 16 || p.is_number) allows_in p is
    (λ e. let parts = or_parts (nat_lt p.level 16) p.is_number e in pointed-edge (nat_lt p.level 16) p.is_number parts.0 parts.1)

callee-runs : (allows_in : Bool) (p : Printed) → Prints p → Runs Tailed Begun (callee_of_new allows_in p)
callee-runs allows_in p is =
    if_grouped-runs Tailed (nat_lt p.level 16 || p.calls) allows_in p is (λ e. tailed-edge (nat_lt p.level 16) p.is_number (or_parts (nat_lt p.level 16) p.calls e).0)

pub value-runs : (p : Printed) → Prints p → Runs Ended Begun (value p)
value-runs p is = at-runs 2 true p is

-- ---- lists of parts

-- this holds of each
abbrev pub Each : {A : Type 0} → (A → Type 0) → List A → Type 0
Each P [] = Unit {0}
Each P (x ∷ xs) = P x × Each P xs

pub commas-run : {A : Type 0} (f : A → List Piece) (s : Spot) (xs : List A) → implies Fielded s ≡ true → Each (λ x. Runs s Begun (f x)) xs → Runs s s (behind_commas f xs)
commas-run f s [] i all = nothing s (implies-self s)
commas-run f s (x ∷ xs) i all = joined (to s i one.comma-runs) refl (joined all.0 (implies-self s) (commas-run f s xs i all.1))

pub separated-run : {A : Type 0} (f : A → List Piece) (s : Spot) (xs : List A) → implies Fielded s ≡ true → Each (λ x. Runs s Begun (f x)) xs → Runs s Anything (separated f xs)
separated-run f s [] i all = nothing Anything refl
separated-run f s (x ∷ xs) i all = to Anything refl (joined all.0 (implies-self s) (commas-run f s xs i all.1))

all-values : (ps : List Printed) → Each Prints ps → Each (λ p. Runs Ended Begun (value p)) ps
all-values [] all = tt
all-values (p ∷ ps) all = (value-runs p all.0, all-values ps all.1)

arguments-run : (ps : List Printed) → Each Prints ps → Runs Ended Anything (separated value ps)
arguments-run ps all = separated-run value Ended ps refl (all-values ps all)

-- an element of an array, or an elision
abbrev pub MaybePrints : Option Printed → Type 0
MaybePrints None = Unit {0}
MaybePrints (Some p) = Prints p

element-runs : (o : Option Printed) → MaybePrints o → Runs Ended Ended (element o)
element-runs None is = nothing Ended refl
element-runs (Some p) is = to Ended refl (value-runs p is)

more_elements-run : (os : List (Option Printed)) → Each MaybePrints os → Runs Ended Ended (behind_commas element os)
more_elements-run [] all = nothing Ended refl
more_elements-run (o ∷ os) all = joined (to Ended refl one.comma-runs) refl (joined (element-runs o all.0) refl (more_elements-run os all.1))

elements-run : (os : List (Option Printed)) → Each MaybePrints os → Runs Ended Ended (separated element os)
elements-run [] all = nothing Ended refl
elements-run (o ∷ os) all = joined (element-runs o all.0) refl (more_elements-run os all.1)

last_comma-runs : (b : Bool) → Runs Ended Ended (last_comma b)
last_comma-runs true = from Ended refl (to Ended refl one.comma-runs)
last_comma-runs false = nothing Ended refl

-- ---- parts of some forms

index-runs : (key : Printed) → Prints key → Runs Anything Tailed (index key)
unfolding text.index
index-runs key is = joined (joined one.index-runs refl (at-runs 1 true key is)) refl one.right_bracket-runs

in_parentheses-runs : (ps : List Piece) → Runs Ended Anything ps → Runs Anything Tailed (in_parentheses ps)
in_parentheses-runs ps is = joined (joined one.arguments-run refl is) refl one.right_parenthesis-runs

branch-runs : (sign : List ℕ) (allows_in : Bool) (p : Printed) → Runs Anything Begun (word sign) → Prints p → Runs Ended Begun (branch sign allows_in p)
unfolding branch
branch-runs sign allows_in p mark is = joined mark refl (at-runs 2 allows_in p is)

stepped-runs : (op : StepOp) (allows_in : Bool) (p : Printed) → Prints p → Runs Ended Begun (stepped op allows_in p)
stepped-runs step.PreUp allows_in p is = joined one.up-runs refl (at-runs 14 allows_in p is)
stepped-runs step.PreDown allows_in p is = joined one.down-runs refl (at-runs 14 allows_in p is)
stepped-runs step.PostUp allows_in p is = joined (tail-runs allows_in p is) refl one.post_up-runs
stepped-runs step.PostDown allows_in p is = joined (tail-runs allows_in p is) refl one.post_down-runs

kind-runs : (k : Kind) → Runs Anything Begun (word (kind_text k))
kind-runs kind.Number = one.number_word-runs
kind-runs kind.Boolean = one.boolean_word-runs
kind-runs kind.Text = one.string_word-runs

two_literals-run : (k : Kind) (us : List ℕ) → is_readable_text us ≡ true → Runs Anything Begun (two_literals k us)
unfolding two_literals
two_literals-run k us is = joined (joined (kind-runs k) refl one.comma-runs) refl (one.string-runs us Loose is)

input-runs : (k : Kind) (us : List ℕ) → is_readable_text us ≡ true → Runs Anything Begun (input k us)
input-runs k us is =
    joined (joined (joined (one.word-runs 95 (codes "_abstract") refl refl (λ d rest. refl)) refl one.arguments-run) refl (two_literals-run k us is)) refl one.right_parenthesis-runs

host_call-runs : (k : Kind) (us : List ℕ) (ps : List Piece) → is_readable_text us ≡ true → Runs Ended Ended ps → Runs Anything Begun (host_call k us ps)
unfolding host_call
host_call-runs k us ps is args =
    joined (joined (joined (joined (one.word-runs 95 (codes "_residual") refl refl (λ d rest. refl)) refl one.arguments-run) refl (two_literals-run k us is)) refl args) refl one.right_parenthesis-runs

unary-runs : (op : UnaryOp) → Runs Begun Begun (unary_operator op)
unary-runs unary.Plus = one.plus-runs
unary-runs unary.Minus = one.minus-runs
unary-runs unary.Not = one.not-runs
unary-runs unary.BitNot = one.bit_not-runs
unary-runs unary.TypeOf = from Begun refl (one.word-runs 116 (codes "ypeof") refl refl (λ d rest. refl))
unary-runs unary.Void = from Begun refl (one.word-runs 118 (codes "oid") refl refl (λ d rest. refl))
unary-runs unary.Delete = from Begun refl (one.word-runs 100 (codes "elete") refl refl (λ d rest. refl))

boolean-runs : (b : Bool) → Runs Pointed Begun (word (if b then codes "true" else codes "false"))
boolean-runs true = one.word-runs 116 (codes "rue") refl refl (λ d rest. refl)
boolean-runs false = one.word-runs 102 (codes "alse") refl refl (λ d rest. refl)

ascii-parts : (us : List ℕ) → are_ascii_parts us ≡ true → (is_ascii_text us ≡ true) × (list_all is_name_part us ≡ true)
ascii-parts [] h = (refl, refl)
ascii-parts (u ∷ us) h =
    let p = and_parts (is_ascii_part u) (are_ascii_parts us) h in
    let one = and_parts (nat_lt u 128) (is_name_part u) p.0 in
    let more = ascii-parts us p.1 in
    (and_from (nat_lt u 128) (is_ascii_text us) one.0 more.0, and_from (is_name_part u) (list_all is_name_part us) one.1 more.1)

ascii_name : (key : List ℕ) → is_ascii_name key ≡ true → is_proto key ≡ false → IsName key
ascii_name [] h plain = absurd (both_ways false refl h)
ascii_name (u ∷ us) h plain =
    let p = and_parts (is_ascii_start u) (are_ascii_parts us) h in
    let one = and_parts (nat_lt u 128) (is_name_start u) p.0 in
    let more = ascii-parts us p.1 in
    is_name-ascii (u ∷ us) (and_from (nat_lt u 128) (is_ascii_text us) one.0 more.0) (and_from (is_name_part u) (list_all is_name_part us) (start_part u one.1) more.1) (omega arith) one.1 plain

key-by : (key : List ℕ) (behind : Gap) (b : Bool) → is_ascii_name key ≡ b → is_readable_text key ≡ true → ((is : IsName key) → Runs Fielded Begun (Named key behind ∷ []))
    → Runs Fielded Begun (if b then Named key behind ∷ [] else Quoted key behind ∷ [])
key-by key behind true e is named = named (ascii_name key e (not-true (is_proto key) (and_parts (list_all small key) (not (is_proto key)) is).1))
key-by key behind false e is named = from Fielded refl (one.string-runs key behind is)

-- a key, before its `:` or before parameters
key-runs : (key : List ℕ) → is_readable_text key ≡ true → Runs Fielded Begun (key_before Loose key)
key-runs key is = key-by key Loose (is_ascii_name key) refl is (λ n. from Fielded refl (one.name-runs key n))

called_key-runs : (key : List ℕ) → is_readable_text key ≡ true → Runs Fielded Begun (key_before Tight key)
called_key-runs key is = key-by key Tight (is_ascii_name key) refl is (λ n. one.called-runs key n)

-- ---- the forms (11)

-- What a function's pieces do, behind the word that begins it.
pub record FunctionsRun (function : Bool → FuncNo → List Piece) : Type 0 where
  pub expression : (f : FuncNo) → Runs Pointed Pointed (function true f)
  pub accessor : (f : FuncNo) → Runs Fielded Fielded (function false f)

-- the parts of a form read
abbrev pub PartsRead : ExprForm-F Printed (List Piece) Printed → Type 0
PartsRead (ExprForm-F.Name us) = IsName us
PartsRead (ExprForm-F.Literal v) = is_readable_literal v ≡ true
PartsRead (ExprForm-F.ArrayLit items) = Each MaybePrints items
PartsRead (ExprForm-F.ObjectLit fields) = Each (λ ps. Runs Fielded Begun ps) fields
PartsRead (ExprForm-F.Member o key) = Prints o × IsName key
PartsRead (ExprForm-F.Index o key) = Prints o × Prints key
PartsRead (ExprForm-F.Call callee args) = Prints callee × Each Prints args
PartsRead (ExprForm-F.New callee args) = Prints callee × Each Prints args
PartsRead (ExprForm-F.Unary op a) = Prints a
PartsRead (ExprForm-F.Binary op a b) = Prints a × Prints b
PartsRead (ExprForm-F.Logic op a b) = Prints a × Prints b
PartsRead (ExprForm-F.Conditional test a b) = Prints test × Prints a × Prints b
PartsRead (ExprForm-F.Assign a op b) = Prints a × (is_compound op ≡ true) × Prints b
PartsRead (ExprForm-F.Step op a) = Prints a
PartsRead (ExprForm-F.Comma a b) = Prints a × Prints b
PartsRead (ExprForm-F.Input k us) = is_readable_text us ≡ true
PartsRead (ExprForm-F.HostCall k us args) = (is_readable_text us ≡ true) × Each Prints args
PartsRead _ = Unit {0}

binary-edge : (op : BinaryOp) → edge (binary_level op) false ≡ Ended
binary-edge binary.Mul = refl
binary-edge binary.Div = refl
binary-edge binary.Rem = refl
binary-edge binary.Add = refl
binary-edge binary.Sub = refl
binary-edge binary.Shl = refl
binary-edge binary.Sar = refl
binary-edge binary.Shr = refl
binary-edge binary.Less = refl
binary-edge binary.Greater = refl
binary-edge binary.LessEqual = refl
binary-edge binary.GreaterEqual = refl
binary-edge binary.InstanceOf = refl
binary-edge binary.In = refl
binary-edge binary.Equal = refl
binary-edge binary.NotEqual = refl
binary-edge binary.Same = refl
binary-edge binary.NotSame = refl
binary-edge binary.BitAnd = refl
binary-edge binary.BitXor = refl
binary-edge binary.BitOr = refl

logic-edge : (op : LogicOp) → edge (logic_level op) false ≡ Ended
logic-edge logic.And = refl
logic-edge logic.Or = refl

step-edge : (op : StepOp) → edge (if is_postfix op then 15 else 14) false ≡ Ended
step-edge step.PreUp = refl
step-edge step.PreDown = refl
step-edge step.PostUp = refl
step-edge step.PostDown = refl

literal-runs : (v : Primitive) → is_readable_literal v ≡ true → Runs (edge 17 (is_number {A = Printed} {B = List Piece} {C = Printed} (ExprForm-F.Literal v))) Begun (literal v)
literal-runs primitive.Undefined is = absurd (both_ways false refl is)
literal-runs primitive.Null is = one.word-runs 110 (codes "ull") refl refl (λ d rest. refl)
literal-runs (primitive.Boolean b) is = boolean-runs b
literal-runs (primitive.Number n) is = one.number-runs n is
literal-runs (primitive.Text us) is = from Pointed refl (one.string-runs us Loose is)

module _ (function : Bool → FuncNo → List Piece) (functions : FunctionsRun function) where
  -- an expression that ends in no parentheses
  pub form-runs : (f : ExprForm-F Printed (List Piece) Printed) → PartsRead f → (allows_in : Bool) → Runs (edge (level f) (is_number f)) Begun (text.pieces function f allows_in)
  form-runs ExprForm-F.This is allows_in = one.word-runs 116 (codes "his") refl refl (λ d rest. refl)
  form-runs (ExprForm-F.Name us) is allows_in = one.reference-runs us is
  form-runs (ExprForm-F.Literal v) is allows_in = literal-runs v is
  form-runs (ExprForm-F.ArrayLit items) is allows_in =
      from Pointed refl (joined (joined (joined one.array-runs refl (elements-run items is)) refl (last_comma-runs (ends_in_elision items))) refl one.right_bracket-runs)
  form-runs (ExprForm-F.ObjectLit fields) is allows_in = from Pointed refl (joined (joined one.object-runs refl (separated-run (λ f. f) Fielded fields refl is)) refl one.right_brace-runs)
  form-runs (ExprForm-F.Func f) is allows_in = joined (one.word-runs 102 (codes "unction") refl refl (λ d rest. refl)) refl (functions.expression f)
  form-runs (ExprForm-F.Member o key) is allows_in = joined (joined (object-runs allows_in o is.0) refl one.point-runs) refl (one.property-runs key is.1)
  form-runs (ExprForm-F.Index o key) is allows_in = from Pointed refl (joined (tail-runs allows_in o is.0) refl (index-runs key is.1))
  form-runs (ExprForm-F.Call callee args) is allows_in = from Pointed refl (joined (tail-runs allows_in callee is.0) refl (in_parentheses-runs (separated value args) (arguments-run args is.1)))
  form-runs (ExprForm-F.New callee args) is allows_in =
      from Pointed refl (joined (joined (one.word-runs 110 (codes "ew") refl refl (λ d rest. refl)) refl (callee-runs allows_in callee is.0)) refl (in_parentheses-runs (separated value args) (arguments-run args is.1)))
  form-runs (ExprForm-F.Unary op a) is allows_in = joined (unary-runs op) refl (at-runs 14 allows_in a is)
  form-runs (ExprForm-F.Binary op a b) is allows_in =
      subst (λ s. Runs s Begun (text.pieces function (ExprForm-F.Binary op a b) allows_in)) (sym (binary-edge op))
      (joined (joined (at-runs (binary_level op) allows_in a is.0) refl (one.operator-runs op)) refl (at-runs (binary_level op + 1) allows_in b is.1))
  form-runs (ExprForm-F.Logic op a b) is allows_in =
      subst (λ s. Runs s Begun (text.pieces function (ExprForm-F.Logic op a b) allows_in)) (sym (logic-edge op))
      (joined (joined (at-runs (logic_level op) allows_in a is.0) refl (one.logic-runs op)) refl (at-runs (logic_level op + 1) allows_in b is.1))
  form-runs (ExprForm-F.Conditional test a b) is allows_in =
      joined (joined (at-runs 4 allows_in test is.0) refl (branch-runs (codes "?") true a one.question-runs is.1)) refl (branch-runs (codes ":") allows_in b one.colon_word-runs is.2)
  form-runs (ExprForm-F.Assign a op b) is allows_in = joined (joined (from Ended refl (tail-runs allows_in a is.0)) refl (one.assignment-runs op is.1)) refl (at-runs 2 allows_in b is.2)
  form-runs (ExprForm-F.Step op a) is allows_in = subst (λ s. Runs s Begun (stepped op allows_in a)) (sym (step-edge op)) (stepped-runs op allows_in a is)
  form-runs (ExprForm-F.Comma a b) is allows_in = joined (joined (at-runs 1 allows_in a is.0) refl one.comma-runs) refl (at-runs 2 allows_in b is.1)
  form-runs (ExprForm-F.Input k us) is allows_in = from Pointed refl (input-runs k us is)
  form-runs (ExprForm-F.HostCall k us args) is allows_in = from Pointed refl (host_call-runs k us (behind_commas value args) is.0 (commas-run value Ended args refl (all-values args is.1)))

  pub form-prints : (f : ExprForm-F Printed (List Piece) Printed) → PartsRead f → Prints (of_form function f)
  unfolding tokens
  form-prints f is = record { runs = form-runs f is }

  -- ---- properties of a literal (11.1.5)

  abbrev pub FieldRead : Field-F Printed (List Piece) Printed → Type 0
  FieldRead (Field-F.Value at key x) = (is_readable_text key ≡ true) × Prints x
  FieldRead (Field-F.Getter at key f) = is_readable_text key ≡ true
  FieldRead (Field-F.Setter at key f) = is_readable_text key ≡ true

  pub field-runs : (f : Field-F Printed (List Piece) Printed) → FieldRead f → Runs Fielded Begun (of_field function f)
  field-runs (Field-F.Value at key x) is = from Fielded refl (joined (joined (key-runs key is.0) refl one.colon-runs) refl (value-runs x is.1))
  field-runs (Field-F.Getter at key f) is = joined (joined (one.word-runs 103 (codes "et") refl refl (λ d rest. refl)) refl (called_key-runs key is)) refl (functions.accessor f)
  field-runs (Field-F.Setter at key f) is = joined (joined (one.word-runs 115 (codes "et") refl refl (λ d rest. refl)) refl (called_key-runs key is)) refl (functions.accessor f)
