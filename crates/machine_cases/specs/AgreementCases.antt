-- Which runs agree and which don't, worked out by hand, and which scripts are closed.
use Rattle.std.specs.Prelude.{pos, true, false, List, [], ◌∷◌, codes, Some}
use Rattle.js_value.specs.declared.primitive.Kind.TheVariants as kind
use Rattle.js_value.specs.declared.primitive.Primitive.TheVariants as primitive
use Rattle.js_value.specs.declared.why.Why.TheVariants.{MinusZero}
use Rattle.js_tree.specs.Refusals.{place}
use Rattle.js_tree.specs.Trees.{expr, stmt, no, declared, declarator, func, script}
use Rattle.js_tree.specs.declared.expression.ExprForm.TheVariants as e
use Rattle.js_tree.specs.declared.statement.Script.{Script}
use Rattle.js_tree.specs.declared.statement.StmtForm.TheVariants as s
use Rattle.plain_heap.specs.Heap.{Heap, Properties, add_object, data_property}
use Rattle.plain_heap.specs.Values.{Object, number, text, truth}
use Rattle.machine_cases.specs.ListingCases.{added, after_number, holding, plain}
use Rattle.js_machine.specs.Machine.Listed.{Agree}
use Rattle.js_machine.specs.Machine.RealmObjects.{global, function_prototype, object_prototype}
use Rattle.js_machine.specs.Machine.Realm.{realm}
use Rattle.js_machine.specs.Machine.Walks.{HostEvent, Ended, Left, OutOfSteps, Normally, Outcome, Thrown}
use Rattle.js_machine.specs.Machine.Worlds.{IsClosed}

abbrev pub nothing : Script
nothing =
    script [] []

-- of two scripts without functions
abbrev pub AgreeAs : Outcome → Outcome → Type 0
AgreeAs one other = Agree [] one [] other

-- code that ended normally, without host calls
abbrev pub left : Heap → Outcome
left h = Ended [] Normally h

-- a new object with these properties, of which the heap has one more
abbrev pub with_object : Properties → Heap → Heap
with_object properties h = add_object (plain (Some object_prototype) properties) h

-- ---- host calls

-- __residual("number", "now") is 5
abbrev pub now_call : HostEvent
now_call = record { name = codes "now"; arguments = []; kind = kind.Number; answer = number 5; threw = truth false }

-- the answer is 6
abbrev pub later_call : HostEvent
later_call = record now_call { answer = number 6 }

-- the answer is thrown
abbrev pub thrown_call : HostEvent
thrown_call = record now_call { threw = truth true }

-- __residual("number", "now", "a") is 5
abbrev pub argument_call : HostEvent
argument_call = record now_call { arguments = text (codes "a") ∷ [] }

abbrev pub calling : List HostEvent → Outcome
calling calls = Ended calls Normally realm

-- ---- objects: the first new one has the number 41

-- `var a = {};`
abbrev pub first_made : Heap
first_made = with_object [] (holding (codes "a") 41 realm)

-- the same where an object that nothing leads to was made before
abbrev pub second_made : Heap
second_made = with_object [] (with_object ((codes "k", data_property (number 1) true true true) ∷ []) (holding (codes "a") 42 realm))

-- `var a = {}, b = a;`
abbrev pub one_object : Heap
one_object = with_object [] (holding (codes "b") 41 (holding (codes "a") 41 realm))

-- `var a = {}, b = {};`
abbrev pub two_objects : Heap
two_objects = with_object [] (with_object [] (holding (codes "b") 42 (holding (codes "a") 41 realm)))

-- `var x = 4;`
abbrev pub another_number : Heap
another_number = added global (codes "x") (data_property (number 4) true true false) realm

-- `x = 3;`, where `x` can be deleted
abbrev pub deletable_number : Heap
deletable_number = added global (codes "x") (data_property (number 3) true true true) realm

-- `var x = 3, y = 4;`
abbrev pub two_numbers : Heap
two_numbers = added global (codes "y") (data_property (number 4) true true false) after_number

-- `var y = 4, x = 3;`
abbrev pub turned_numbers : Heap
turned_numbers = added global (codes "x") (data_property (number 3) true true false) (added global (codes "y") (data_property (number 4) true true false) realm)

-- ---- scripts

-- var x = 1;
abbrev pub closed_script : Script
closed_script =
    script (stmt 0 (s.Var (declarator 4 (codes "x") (Some (expr 8 (e.Literal (primitive.Number (pos 1))))) ∷ [])) ∷ []) []

-- x.__abstract;
abbrev pub named_alike : Script
named_alike =
    script (stmt 0 (s.Eval (expr 0 (e.Member (expr 0 (e.Name (codes "x"))) (codes "__abstract")))) ∷ []) []

-- var x = __abstract("number", "n");
abbrev pub with_input : Script
with_input =
    script (stmt 0 (s.Var (declarator 4 (codes "x") (Some (expr 8 (e.Input kind.Number (codes "n")))) ∷ [])) ∷ []) []

-- function f() { return __residual("number", "n"); }
abbrev pub call_inside : Script
call_inside =
    script (stmt 0 (s.FuncDecl (no 0)) ∷ []) (func 0 (Some (declared 9 (codes "f"))) [] (stmt 15 (s.Return (Some (expr 22 (e.HostCall kind.Number (codes "n") [])))) ∷ []) ∷ [])

pub record AgreementCases : Type 0 where
  -- runs that agree
  pub nothing_done : AgreeAs (left realm) (left realm)
  pub other_numbers : AgreeAs (left first_made) (left second_made)
  pub same_calls : AgreeAs (calling (now_call ∷ argument_call ∷ [])) (calling (now_call ∷ argument_call ∷ []))
  pub same_number_thrown : AgreeAs (Ended [] (Thrown (number 5)) realm) (Ended [] (Thrown (number 5)) realm)
  pub other_number_thrown : AgreeAs (Ended [] (Thrown (Object 41)) first_made) (Ended [] (Thrown (Object 42)) second_made)
  pub realm_object_thrown : AgreeAs (Ended [] (Thrown (Object object_prototype)) realm) (Ended [] (Thrown (Object object_prototype)) realm)
  -- the host calls differ: one has another answer, another argument, comes alone, or comes first
  pub answer_differs : AgreeAs (calling (now_call ∷ [])) (calling (later_call ∷ [])) → ⊥
  pub mark_differs : AgreeAs (calling (now_call ∷ [])) (calling (thrown_call ∷ [])) → ⊥
  pub argument_differs : AgreeAs (calling (now_call ∷ [])) (calling (argument_call ∷ [])) → ⊥
  pub call_more : AgreeAs (calling []) (calling (now_call ∷ [])) → ⊥
  pub order_of_calls : AgreeAs (calling (now_call ∷ later_call ∷ [])) (calling (later_call ∷ now_call ∷ [])) → ⊥
  -- the code ends otherwise
  pub thrown_and_normal : AgreeAs (Ended [] (Thrown (number 5)) realm) (left realm) → ⊥
  pub normal_and_thrown : AgreeAs (left realm) (Ended [] (Thrown (number 5)) realm) → ⊥
  pub thrown_differs : AgreeAs (Ended [] (Thrown (number 5)) realm) (Ended [] (Thrown (number 6)) realm) → ⊥
  pub realm_objects_differ : AgreeAs (Ended [] (Thrown (Object object_prototype)) realm) (Ended [] (Thrown (Object function_prototype)) realm) → ⊥
  -- each throws what is #1, which is another variable's
  pub variables_differ : AgreeAs (Ended [] (Thrown (Object 41)) two_objects) (Ended [] (Thrown (Object 42)) two_objects) → ⊥
  -- the listings differ: in a value, in an attribute, in the order of properties, or in whether two variables hold one object
  pub value_differs : AgreeAs (left after_number) (left another_number) → ⊥
  pub attribute_differs : AgreeAs (left after_number) (left deletable_number) → ⊥
  pub order_differs : AgreeAs (left two_numbers) (left turned_numbers) → ⊥
  pub sharing_differs : AgreeAs (left one_object) (left two_objects) → ⊥
  -- a run that doesn't end agrees with none
  pub left_alike : AgreeAs (Left MinusZero (place 8)) (Left MinusZero (place 8)) → ⊥
  pub spent_alike : AgreeAs OutOfSteps OutOfSteps → ⊥
  -- closed scripts
  pub is_closed_script : IsClosed closed_script
  pub is_closed_name : IsClosed named_alike
  pub has_input : IsClosed with_input → ⊥
  pub has_call_inside : IsClosed call_inside → ⊥
