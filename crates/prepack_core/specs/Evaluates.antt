-- What it means that code runs a part of a script, whatever comes after it.
use Rattle.std.specs.Prelude.{◌≡◌, ℕ, ◌+◌, ◌≤◌, Result, Ok, Err, Bool, true, false, List, [], is_some, ℤ, fold}
use Rattle.std.specs.List.{list_all, flat_map}
use Rattle.js_value.specs.Numbers.{added, subtracted}
use Rattle.js_value.specs.declared.operator.BinaryOp.{BinaryOp}
use Rattle.js_value.specs.declared.operator.BinaryOp.TheVariants as binary
use Rattle.js_value.specs.declared.place.Place.{Place}
use Rattle.js_value.specs.declared.primitive.Primitive.{Primitive}
use Rattle.js_value.specs.declared.why.Why.{Why}
use Rattle.js_tree.specs.declared.expression.ExprForm.{ExprForm, fold-ExprForm}
use Rattle.simple_scripts.specs.SimpleScripts.{Sum, NoSum}
use Rattle.simple_runs.specs.Events.{Heap, Tree, Run, lookup, declare}
use Rattle.simple_runs.specs.Simple.{form_rule, expr_rule}
use Rattle.simple_runs.specs.Runs.{Ended, Left, walk, plain}
use Rattle.simple_scripts.specs.Simple.{names_in_form, names_in_init}
use Rattle.js_value.specs.declared.why.Why.TheVariants.{NotANumber}
use Rattle.prepack_core.specs.declared.value.Number.{Number}
use Rattle.prepack_core.specs.declared.value.Value.{Value}
use Rattle.prepack_core.specs.declared.value.Value.TheVariants as value
use Rattle.js_tree.specs.Count.{nodes}
use Rattle.js_tree.specs.declared.statement.Declarator.{Declarator}
use Rattle.js_tree.specs.declared.statement.Script.{Script}
use Rattle.prepack_core.specs.declared.evaluate.Departure.{Departure}
use Rattle.prepack_core.specs.declared.evaluate.Stop.{Stop}
use Rattle.prepack_core.specs.declared.evaluate.Stop.TheVariants as stop
use Rattle.js_tree.specs.declared.refusal.ReadRefused.{ReadRefused}
use Rattle.js_tree.specs.declared.refusal.ReadRefused.TheVariants as refused
use Rattle.prepack_core.specs.declared.report.Report.{Report}
use Rattle.prepack_core.specs.declared.report.Report.TheVariants as report
use Rattle.prepack_core.specs.Values.{primitive_of}

-- after so many steps the run goes on with this answer, at this heap
pub record Gives {A : Type 0} (m : Run A) (heap : Heap) (steps : ℕ) (answer : A) (after : Heap) : Type 0 where
  pub goes : (k : A → Heap → Tree) (n : ℕ) → walk (steps + n) (m heap k) ≡ walk n (k answer after)

-- within so many steps the run leaves the profile
pub record Departs {A : Type 0} (m : Run A) (heap : Heap) (steps : ℕ) (d : Departure) : Type 0 where
  pub leaves : (k : A → Heap → Tree) (n : ℕ) → walk (steps + n) (m heap k) ≡ Left d.why d.at

-- an evaluation comes to a value, or departs
abbrev pub Comes : Run Primitive → Heap → ℕ → Result Value Departure → Type 0
Comes m heap steps (Ok v) = Gives m heap steps (primitive_of v) heap
Comes m heap steps (Err d) = Departs m heap steps d

abbrev pub form_evaluation : ExprForm → Place → Run Primitive
form_evaluation = fold-ExprForm (Place → Run Primitive) (Unit {0}) (Run Primitive) form_rule (λ f. tt) expr_rule

abbrev pub is_sum : Sum → Bool
is_sum NoSum = false
is_sum _ = true

abbrev pub is_bound : Heap → List ℕ → Bool
is_bound heap name = is_some (lookup name heap)

abbrev pub is_additive : BinaryOp → Bool
is_additive binary.Add = true
is_additive binary.Sub = true
is_additive _ = false

-- 11.6: the operation on two numbers
abbrev pub combined : BinaryOp → ℤ → ℤ → Result ℤ Why
combined binary.Sub a b = subtracted a b
combined _ a b = added a b

abbrev pub form_names : ExprForm → List (List ℕ)
form_names = fold-ExprForm (List (List ℕ)) (List (List ℕ)) (List (List ℕ)) names_in_form (λ f. []) (λ e. e.form)

-- 9.3: the number of an operand, or the departure where it is undefined
abbrev pub IsNumberOf : Value → Place → Result Number Departure → Type 0
IsNumberOf (value.Number n) at r = r ≡ Ok n
IsNumberOf value.Undefined at r = r ≡ Err (record { at = at; why = NotANumber })

-- a part of a script runs to its end, or departs; nothing is said where there was no memory
abbrev pub RunsTo : Run (Unit {0}) → Heap → ℕ → Result (Unit {0}) Stop → Heap → Type 0
RunsTo m old steps (Ok u) new = Gives m old steps tt new
RunsTo m old steps (Err (stop.Left d)) new = Departs m old steps d
RunsTo m old steps (Err stop.NoMemory) new = Unit {0}

-- what is bound before is bound afterwards
pub record KeepsBound (old new : Heap) : Type 0 where
  pub keeps : (name : List ℕ) → is_bound old name ≡ true → is_bound new name ≡ true

-- each of these names is bound
abbrev pub are_bound : Heap → List (List ℕ) → Bool
are_bound heap names = list_all (is_bound heap) names

abbrev pub names_in_declarators : List Declarator → List (List ℕ)
names_in_declarators ds = flat_map (λ (d : Declarator). names_in_init d.init) ds

-- 10.5: these names declared after those that are bound
abbrev pub declared_after : Heap → List (List ℕ) → Heap
declared_after heap names = fold (λ h name. declare name h) heap names

-- With a budget for each of its nodes, a simple script ends by its own rules with these variables, or departs.
abbrev pub Evaluates : Script → Result Heap Stop → Type 0
Evaluates s (Ok heap) = (n : ℕ) → nodes s ≤ n → plain s n ≡ Ended heap
Evaluates s (Err (stop.Left d)) = (n : ℕ) → nodes s ≤ n → plain s n ≡ Left d.why d.at
Evaluates s (Err stop.NoMemory) = Unit {0}

-- the report of a run that stopped
abbrev pub IsReportOf : Stop → Report → Type 0
IsReportOf (stop.Left d) r = r ≡ report.Stuck d.at d.why
IsReportOf stop.NoMemory r = r ≡ report.NoMemory

-- the report of a text that isn't read
abbrev pub report_of_refusal : ReadRefused → Report
report_of_refusal (refused.Syntax at) = report.Syntax at
report_of_refusal (refused.Unsupported at feature) = report.Unsupported at feature
report_of_refusal (refused.Nested at) = report.Nested at
report_of_refusal refused.NoMemory = report.NoMemory
