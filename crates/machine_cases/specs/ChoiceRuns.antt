-- Runs along choices, and what a world is to give, worked out by hand.
use Rattle.std.specs.Prelude.{◌≡◌, ℕ, pos, Bool, true, false, not, List, [], ◌∷◌, codes}
use Rattle.std.specs.List.{list_all}
use Rattle.js_value.specs.declared.operator.BinaryOp.TheVariants as binary
use Rattle.js_value.specs.declared.operator.UnaryOp.TheVariants as unary
use Rattle.js_value.specs.declared.primitive.Kind.TheVariants as kind
use Rattle.js_value.specs.declared.primitive.Primitive.TheVariants as primitive
use Rattle.js_value.specs.declared.why.Why.TheVariants.{MinusZero}
use Rattle.js_tree.specs.Mentions.{Reads, Takes}
use Rattle.js_tree.specs.Refusals.{place}
use Rattle.js_tree.specs.Trees.{expr, stmt, script}
use Rattle.js_tree.specs.declared.expression.Expr.{Expr}
use Rattle.js_tree.specs.declared.expression.ExprForm.TheVariants as e
use Rattle.js_tree.specs.declared.statement.Script.{Script}
use Rattle.js_tree.specs.declared.statement.StmtForm.TheVariants as s
use Rattle.plain_heap.specs.Heap.{Heap}
use Rattle.plain_heap.specs.Values.{Value, Input, Unary, Symbolic, Symbol, Threw, Answer}
use Rattle.js_machine.specs.Machine.Choices.{Opened, OpenEnded, Stopped, OpenOutOfSteps, Wanting, OpenRun, open_walk, open_steps}
use Rattle.js_machine.specs.Machine.Levels.{script_tree_within}
use Rattle.js_machine.specs.Machine.Operators.{test}
use Rattle.js_machine.specs.Machine.Events.{Key, Tree, Step, Ask, Call, End, Lacks, Leaves, Stop}
use Rattle.js_machine.specs.Machine.Walks.{World, HostEvent, Normally}
use Rattle.js_machine.specs.Machine.Worlds.{is_given}
use Rattle.machine_cases.specs.RunCases.{bare, deep}
use Rattle.js_value.specs.declared.place.Place.{Place}

-- along choices, with a budget of steps
abbrev pub along : ℕ → Script → List Bool → ℕ → OpenRun
along most script choices n = open_walk n [] [] choices (script_tree_within most most script bare)

-- what a run came to, and the choices that were left
abbrev pub came : Opened → List Bool → OpenRun
came o left = record { came_to = o; left = left }

abbrev pub flag : ℕ → Expr
flag at = expr at (e.Input kind.Boolean (codes "b"))

abbrev pub number : ℕ → ℕ → Expr
number at n = expr at (e.Literal (primitive.Number (pos n)))

-- __abstract("boolean", "b") ? 1 : 2; __abstract("boolean", "b") ? 3 : 4;
abbrev pub tested_again : Script
tested_again = script (stmt 0 (s.Eval (expr 0 (e.Conditional (flag 0) (number 29 1) (number 33 2)))) ∷ stmt 36 (s.Eval (expr 36 (e.Conditional (flag 36) (number 65 3) (number 69 4)))) ∷ []) []

-- __residual("boolean", "a") === __residual("boolean", "a") ? 1 : 2;
abbrev pub two_answers : Script
two_answers = script (stmt 0 (s.Eval (expr 0 (e.Conditional (expr 0 (e.Binary binary.Same (expr 0 (e.HostCall kind.Boolean (codes "a") [])) (expr 31 (e.HostCall kind.Boolean (codes "a") [])))) (number 60 1) (number 64 2)))) ∷ []) []

-- __abstract("boolean", "b") === 1 ? 1 : 2;
abbrev pub other_kind : Script
other_kind = script (stmt 0 (s.Eval (expr 0 (e.Conditional (expr 0 (e.Binary binary.Same (flag 0) (number 31 1))) (number 35 1) (number 39 2)))) ∷ []) []

-- [][__abstract("string", "k")];
abbrev pub unknown_key : Script
unknown_key = script (stmt 0 (s.Eval (expr 0 (e.Index (expr 0 (e.ArrayLit [])) (expr 3 (e.Input kind.Text (codes "k")))))) ∷ []) []

-- ---- events that these and other scripts come to

abbrev pub truth : Symbol
truth = Input kind.Boolean (codes "b")

-- a step before, between and behind two tests of one input
abbrev pub asked_again : Tree
asked_again = Step (place 0) (Ask (place 0) truth (λ b. Step (place 36) (Ask (place 36) truth (λ c. Step (place 65) (End bare)))))

-- the code goes on where the input is true, and else leaves the profile
abbrev pub by_truth : Bool → Tree
by_truth true = Step (place 9) (End bare)
by_truth false = Stop (Leaves MinusZero) (place 9)

abbrev pub asked_once : Tree
asked_once = Step (place 0) (Ask (place 0) truth by_truth)

-- the symbol that a value is
abbrev pub ask_of : Place → Value → (Bool → Tree) → Tree
ask_of at (Symbolic s) f = Ask at s f
ask_of at v f = f true

-- tests of the answers to two host calls
abbrev pub asked_of_both : Tree
asked_of_both =
    Call (place 0) kind.Boolean (codes "a") [] (λ v v_threw. Call (place 31) kind.Boolean (codes "a") [] (λ w w_threw.
    ask_of (place 0) v (λ b. Step (place 60) (ask_of (place 61) w (λ c. Step (place 62) (End bare))))))

-- the two calls
abbrev pub both_calls : List HostEvent
both_calls =
    record { name = codes "a"; arguments = []; kind = kind.Boolean; answer = Symbolic (Answer kind.Boolean 0); threw = Symbolic (Threw 0) }
    ∷ record { name = codes "a"; arguments = []; kind = kind.Boolean; answer = Symbolic (Answer kind.Boolean 1); threw = Symbolic (Threw 1) }
    ∷ []

-- ---- worlds

-- the inputs n, a number, and b, a truth value
abbrev pub both_given : World
both_given = record { inputs = (codes "b", primitive.Boolean false) ∷ (codes "n", primitive.Number (pos 4)) ∷ []; answers = [] }

abbrev pub is_met : World → Bool
is_met w = list_all (is_given w) (Takes (place 0) kind.Number (codes "n") ∷ Reads (place 9) (codes "m") ∷ Takes (place 12) kind.Boolean (codes "b") ∷ [])

pub record ChoiceRuns : Type 0 where
  pub no_choice_run : (d : ℕ) → along (deep d) tested_again [] 200 ≡ came Wanting []
  pub two_answers_run : (d : ℕ) → along (deep d) two_answers [] 200 ≡ came Wanting []
  pub other_kind_run : (d : ℕ) → along (deep d) other_kind [] 200 ≡ came (OpenEnded [] Normally bare) []
  pub unknown_key_run : (d : ℕ) → along (deep d) unknown_key (true ∷ []) 200 ≡ came (Stopped (Lacks Key) (place 0)) (true ∷ [])
  pub one_choice : open_walk 3 [] [] (true ∷ []) asked_again ≡ came (OpenEnded [] Normally bare) []
  pub spare_choice : open_walk 3 [] [] (false ∷ true ∷ []) asked_again ≡ came (OpenEnded [] Normally bare) (true ∷ [])
  pub few_steps : open_walk 2 [] [] (true ∷ []) asked_again ≡ came OpenOutOfSteps []
  pub steps_of_both : open_steps 0 [] asked_again ≡ 5
  pub choice_that_leaves : open_walk 9 [] [] (false ∷ []) asked_once ≡ came (Stopped (Leaves MinusZero) (place 9)) []
  pub steps_of_one : open_steps 0 [] asked_once ≡ 2
  pub one_answer_known : open_walk 9 [] [] (true ∷ []) asked_of_both ≡ came Wanting []
  pub both_answers_known : open_walk 9 [] [] (true ∷ false ∷ []) asked_of_both ≡ came (OpenEnded both_calls Normally bare) []
  pub steps_of_answers : open_steps 0 [] asked_of_both ≡ 6
  pub opposite : (h : Heap) (k : Bool → Heap → Tree) (r : Value → Heap → Tree) → test (place 0) (Symbolic (Unary unary.Not truth)) h k r ≡ Ask (place 0) truth (λ b. k (not b) h)
  pub given_inputs : is_met both_given ≡ true
  pub missing_input : is_met (record { inputs = (codes "n", primitive.Number (pos 4)) ∷ []; answers = [] }) ≡ false
  pub other_input : is_met (record { inputs = (codes "b", primitive.Text (codes "b")) ∷ (codes "n", primitive.Number (pos 4)) ∷ []; answers = [] }) ≡ false
