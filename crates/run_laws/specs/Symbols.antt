-- What symbols mean in a world, and the run of a script along the truth values that its symbols have there (9.2).
use Rattle.std.specs.Prelude.{ℕ, zero, suc, if◌then◌else◌, Bool, true, false, List, [], ◌∷◌, slice_get, Option, Some, None, Result, Ok, Err}
use Rattle.std.specs.Option.{option_map}
use Rattle.js_value.specs.Conversions.{to_boolean}
use Rattle.js_value.specs.Operators.{binary_row, unary_row}
use Rattle.js_value.specs.declared.operator.UnaryOp.{UnaryOp}
use Rattle.js_value.specs.declared.operator.UnaryOp.TheVariants as unary
use Rattle.js_value.specs.declared.primitive.Kind.{Kind}
use Rattle.js_value.specs.declared.primitive.Primitive.{Primitive}
use Rattle.js_value.specs.declared.primitive.Primitive.TheVariants as primitive
use Rattle.js_value.specs.declared.why.Why.{Why}
use Rattle.plain_heap.specs.Heap.{lookup}
use Rattle.plain_heap.specs.Values.{Prim, Symbolic, Symbol, Input, Answer, Threw, Unary, Binary, Operand, Known, Unknown}
use Rattle.js_machine.specs.Machine.Choices as choices
use Rattle.js_machine.specs.Machine.Choices.{Kept, kept_answer}
use Rattle.js_machine.specs.Machine.Events as T
use Rattle.js_machine.specs.Machine.Events.{Tree, Step, Turn, Ask, Call, Stop, Spent, End, Fail}
use Rattle.js_machine.specs.Machine.Walks as world
use Rattle.js_machine.specs.Machine.Walks.{World, is_of_kind}

-- ---- the value of a symbol in a world

abbrev pub of_kind : Kind → Option Primitive → Option Primitive
of_kind k None = None
of_kind k (Some p) = if is_of_kind k p then Some p else None

abbrev pub to_option : {A : Type 0} → Result A Why → Option A
to_option (Ok a) = Some a
to_option (Err why) = None

-- what an operator gives for its operands' values, where they have some
abbrev pub by_one : Option (Primitive → Result Primitive Why) → Option Primitive → Option Primitive
by_one (Some row) (Some p) = to_option (row p)
by_one _ _ = None

abbrev pub by_two : Option (Primitive → Primitive → Result Primitive Why) → Option Primitive → Option Primitive → Option Primitive
by_two (Some row) (Some p) (Some q) = to_option (row p q)
by_two _ _ _ = None

-- `void` and `typeof` of a symbol are computed, and so is `delete`
abbrev pub gives_symbol : UnaryOp → Bool
gives_symbol unary.Void = false
gives_symbol unary.TypeOf = false
gives_symbol unary.Delete = false
gives_symbol op = true

-- an answer with a value of the kind, and whether it is thrown
abbrev mutual
  pub meant : World → Symbol → Option Primitive
  meant w (Input k name) = of_kind k (lookup name w.inputs)
  meant w (Answer k n) = of_kind k (option_map (λ (a : world.Answer). a.value) (slice_get w.answers n))
  meant w (Threw n) = option_map (λ (a : world.Answer). primitive.Boolean a.threw) (slice_get w.answers n)
  meant w (Unary op s) = if gives_symbol op then by_one (unary_row op) (meant w s) else None
  meant w (Binary op a b) = by_two (binary_row op) (meant_operand w a) (meant_operand w b)

  pub meant_operand : World → Operand → Option Primitive
  meant_operand w (Known p) = Some p
  meant_operand w (Unknown s) = meant w s

-- ---- a world's own choices: the truth values of the symbols that are tested for the first time

abbrev pub choice : Option Primitive → (Bool → List Bool) → List Bool
choice None rest = []
choice (Some p) rest = to_boolean p ∷ rest (to_boolean p)

abbrev pub unless_kept : Option Bool → (Bool → List Bool) → List Bool → List Bool
unless_kept (Some b) rest other = rest b
unless_kept None rest other = other

abbrev pub while_steps : ℕ → (ℕ → List Bool) → List Bool
while_steps zero rest = []
while_steps (suc n) rest = rest n

-- with a budget of steps, when so many host calls were made
abbrev pub own_choices : World → ℕ → ℕ → Kept → Tree → List Bool
own_choices w n calls kept (Step at t) = while_steps n (λ n. own_choices w n calls kept t)
own_choices w n calls kept (Turn at t) = while_steps n (λ n. own_choices w n calls kept t)
own_choices w n calls kept (Ask at s f) = unless_kept (kept_answer s kept) (λ b. own_choices w n calls kept (f b)) (choice (meant w s) (λ b. own_choices w n calls ((s, b) ∷ kept) (f b)))
own_choices w n calls kept (T.Input at k name f) = own_choices w n calls kept (f (Symbolic (Input k name)))
own_choices w n calls kept (Call at k name arguments f) = own_choices w n (suc calls) kept (f (choices.answer k calls) (choices.thrown calls))
own_choices w n calls kept (Stop why at) = []
own_choices w n calls kept Spent = []
own_choices w n calls kept (End h) = []
own_choices w n calls kept (Fail v h) = []
