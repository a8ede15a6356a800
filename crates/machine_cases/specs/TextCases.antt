-- Texts of runs, worked out by hand for the heaps of `ListingCases`.
use Rattle.std.specs.Prelude.{false, ◌≡◌, ℕ, List, [], ◌∷◌, ◌++◌, codes, Some, None, true}
use Rattle.js_value.specs.declared.primitive.Kind.TheVariants as kind
use Rattle.js_tree.specs.Trees.{expr, name, stmt, no, declared, declarator, func, script}
use Rattle.js_tree.specs.declared.expression.ExprForm.TheVariants as e
use Rattle.js_tree.specs.declared.statement.Script.{Script}
use Rattle.js_tree.specs.declared.statement.StmtForm.TheVariants as s
use Rattle.plain_heap.specs.Heap.{Heap, ObjectState, add_object}
use Rattle.plain_heap.specs.Values.{Object, number, text, truth}
use Rattle.machine_cases.specs.ListingCases.{shown, holding, rows, after_number, after_cycle, after_function, after_realm_changes, after_deletion, after_throw, after_array, after_capture}
use Rattle.js_machine.specs.Machine.Listed.{listing_by, queue_of}
use Rattle.js_machine.specs.Machine.Realm.{realm}
use Rattle.js_machine.specs.Machine.RunText.{line, run_text, outcome_text}
use Rattle.js_machine.specs.Machine.Walks.{HostEvent, Ended, Ending, Normally, Thrown}
use Rattle.js_machine.specs.Machine.Creating.{function_state, prototype_state}

abbrev pub text_of : List HostEvent → Heap → Ending → List ℕ
text_of calls h ending = run_text calls (queue_of (λ f. []) h ending) ending (rows h ending)

-- where the free name is `n`
abbrev pub text_with_name : Heap → List ℕ
text_with_name h = run_text [] (queue_of (λ f. codes "n" ∷ []) h Normally) Normally (listing_by shown (λ f. codes "n" ∷ []) h Normally)

abbrev pub now_call : HostEvent
now_call = record { name = codes "now"; arguments = []; kind = kind.Number; answer = number 5; threw = truth false }

abbrev pub tick_call : HostEvent
tick_call = record { name = codes "tick"; arguments = number 5 ∷ text (codes "a") ∷ []; kind = kind.Number; answer = number 9; threw = truth false }

abbrev pub a_number_text : List ℕ
a_number_text =
    line (codes "normal")
    ++ line (codes "global")
    ++ line (codes "  \"x\" = 3 we-")

abbrev pub a_cycle_text : List ℕ
a_cycle_text =
    line (codes "normal")
    ++ line (codes "global")
    ++ line (codes "  \"a\" = #1 we-")
    ++ line (codes "#1 object Object.prototype")
    ++ line (codes "  \"self\" = #1 wec")

abbrev pub a_function_text : List ℕ
a_function_text =
    line (codes "normal")
    ++ line (codes "global")
    ++ line (codes "  \"F\" = #1 we-")
    ++ line (codes "  \"p\" = #2 we-")
    ++ line (codes "#1 function Function.prototype")
    ++ line (codes "  code function ( ) { }")
    ++ line (codes "  \"length\" = 0 ---")
    ++ line (codes "  \"prototype\" = #3 w--")
    ++ line (codes "#2 object Object.prototype")
    ++ line (codes "  \"constructor\" = #1 w-c")
    ++ line (codes "#3 object Object.prototype")

abbrev pub realm_changes_text : List ℕ
realm_changes_text =
    line (codes "normal")
    ++ line (codes "global")
    ++ line (codes "  \"a\" = #1 we-")
    ++ line (codes "Object")
    ++ line (codes "  \"defineProperty\" = 1 w-c")
    ++ line (codes "#1 object null")
    ++ line (codes "  \"k\" = 1 wec")
    ++ line (codes "Array.prototype")
    ++ line (codes "  -\"push\"")

abbrev pub a_deletion_text : List ℕ
a_deletion_text =
    line (codes "normal")
    ++ line (codes "global")
    ++ line (codes "  -\"Array\"")
    ++ line (codes "Array.prototype")
    ++ line (codes "  \"x\" = 1 wec")

abbrev pub thrown_object_text : List ℕ
thrown_object_text =
    line (codes "throw #1")
    ++ line (codes "#1 object Object.prototype")
    ++ line (codes "  \"k\" = 1 wec")

abbrev pub an_array_text : List ℕ
an_array_text =
    line (codes "normal")
    ++ line (codes "global")
    ++ line (codes "  \"a\" = #1 we-")
    ++ line (codes "#1 array Array.prototype fixed")
    ++ line (codes "  \"length\" = 1 w--")
    ++ line (codes "  \"0\" get Function.prototype set undefined e-")

abbrev pub a_capture_text : List ℕ
a_capture_text =
    line (codes "normal")
    ++ line (codes "global")
    ++ line (codes "  \"f\" = #1 we-")
    ++ line (codes "#1 function Function.prototype")
    ++ line (codes "  code function ( n ) { }")
    ++ line (codes "  cells @1")
    ++ line (codes "  \"length\" = 0 ---")
    ++ line (codes "  \"prototype\" = #2 w--")
    ++ line (codes "#2 object Object.prototype")
    ++ line (codes "  \"constructor\" = #1 w-c")
    ++ line (codes "@1 = 1")

abbrev pub host_calls_text : List ℕ
host_calls_text =
    line (codes "call \"now\"() = 5")
    ++ line (codes "call \"tick\"(5, \"a\") = 9")
    ++ line (codes "normal")

-- ---- a strict function that can't be extended

abbrev pub fixed_function : ObjectState
fixed_function = record (function_state (no 0) [] true 0 42) { extensible = false }

abbrev pub after_strict : Heap
after_strict = add_object (prototype_state 41) (add_object fixed_function (holding (codes "f") 41 realm))

abbrev pub a_strict_text : List ℕ
a_strict_text =
    line (codes "normal")
    ++ line (codes "global")
    ++ line (codes "  \"f\" = #1 we-")
    ++ line (codes "#1 function Function.prototype strict fixed")
    ++ line (codes "  code function ( ) { }")
    ++ line (codes "  \"length\" = 0 ---")
    ++ line (codes "  \"prototype\" = #2 w--")
    ++ line (codes "#2 object Object.prototype")
    ++ line (codes "  \"constructor\" = #1 w-c")

-- an answer that is thrown
abbrev pub gone_call : HostEvent
gone_call = record { name = codes "load"; arguments = []; kind = kind.Text; answer = text (codes "gone"); threw = truth true }

-- function F() {} var p = F.prototype; F.prototype = {};
abbrev pub function_script : Script
function_script =
    script (stmt 0 (s.FuncDecl (no 0))
    ∷ stmt 16 (s.Var (declarator 20 (codes "p") (Some (expr 24 (e.Member (name 24 (codes "F")) (codes "prototype")))) ∷ []))
    ∷ stmt 37 (s.Eval (expr 37 (e.Assign (expr 37 (e.Member (name 37 (codes "F")) (codes "prototype"))) None (expr 51 (e.ObjectLit [])))))
    ∷ []) (func 0 (Some (declared 9 (codes "F"))) [] [] ∷ [])

pub record TextCases : Type 0 where
  -- with the code of the script's function
  pub with_code : outcome_text function_script.funcs (Ended [] Normally after_function) ≡ Some a_function_text
  pub a_number : text_of [] after_number Normally ≡ a_number_text
  pub a_cycle : text_of [] after_cycle Normally ≡ a_cycle_text
  pub a_function : text_of [] after_function Normally ≡ a_function_text
  pub realm_changes : text_of [] after_realm_changes Normally ≡ realm_changes_text
  pub a_deletion : text_of [] after_deletion Normally ≡ a_deletion_text
  pub thrown_object : text_of [] after_throw (Thrown (Object 41)) ≡ thrown_object_text
  pub an_array : text_of [] after_array Normally ≡ an_array_text
  pub a_capture : text_with_name after_capture ≡ a_capture_text
  pub thrown_answer : text_of (gone_call ∷ []) realm Normally ≡ line (codes "call \"load\"() throws \"gone\"") ++ line (codes "normal")
  pub strict_function : text_of [] after_strict Normally ≡ a_strict_text
  pub host_calls : text_of (now_call ∷ tick_call ∷ []) realm Normally ≡ host_calls_text
