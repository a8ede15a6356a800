-- Cases of the realm (15), and runs that end since too much is active at once, worked out by hand.
use Rattle.std.specs.Prelude.{suc, zero, length, ◌≡◌, ℕ, pos, true, [], ◌∷◌, codes, Some, None}
use Rattle.js_value.specs.declared.operator.BinaryOp.TheVariants as binary
use Rattle.js_value.specs.declared.primitive.Primitive.TheVariants as primitive
use Rattle.js_value.specs.declared.why.Why.TheVariants.{Depth}
use Rattle.js_tree.specs.declared.expression.ExprForm.TheVariants as e
use Rattle.js_tree.specs.declared.expression.Field.TheVariants as field
use Rattle.js_tree.specs.declared.statement.Script.{Script}
use Rattle.js_tree.specs.declared.statement.StmtForm.TheVariants as s
use Rattle.js_tree.specs.Refusals.{place}
use Rattle.js_tree.specs.Trees.{expr, stmt, declarator, script}
use Rattle.plain_heap.specs.Values.{number}
use Rattle.js_machine.specs.Machine.RealmObjects.{TypeError, RangeError, ReferenceError}
use Rattle.machine_cases.specs.RunCases.{Values, LeavesAt, StepsSpent, no_world, bare, seen}
use Rattle.js_machine.specs.Machine.Realm.{realm}
use Rattle.plain_heap.specs.Valid.{is_valid}
use Rattle.js_machine.specs.Machine.RealmObjects.{global, object_prototype, function_prototype, array_prototype, error_prototype}
use Rattle.js_machine.specs.Machine.Realm.{realm_count, realm_name}

abbrev pub three_more : ℕ → ℕ
three_more z = suc (suc (suc z))

abbrev pub eight_more : ℕ → ℕ
eight_more z = suc (suc (suc (suc (suc (three_more z)))))

-- var x = 1 + (2 + 3);
abbrev pub nested_sum : Script
nested_sum = script (stmt 0 (s.Var (declarator 4 (codes "x") (Some (expr 8 (e.Binary binary.Add (expr 8 (e.Literal (primitive.Number (pos 1)))) (expr 13 (e.Binary binary.Add (expr 13 (e.Literal (primitive.Number (pos 2)))) (expr 17 (e.Literal (primitive.Number (pos 3))))))))) ∷ [])) ∷ []) []

-- var x = 1 + (2 + 3);
abbrev pub nested_sum_spent : Script
nested_sum_spent = script (stmt 0 (s.Var (declarator 4 (codes "x") (Some (expr 8 (e.Binary binary.Add (expr 8 (e.Literal (primitive.Number (pos 1)))) (expr 13 (e.Binary binary.Add (expr 13 (e.Literal (primitive.Number (pos 2)))) (expr 17 (e.Literal (primitive.Number (pos 3))))))))) ∷ [])) ∷ []) []

-- var x = 1 + (2 + 3);
abbrev pub nested_sum_left : Script
nested_sum_left = script (stmt 0 (s.Var (declarator 4 (codes "x") (Some (expr 8 (e.Binary binary.Add (expr 8 (e.Literal (primitive.Number (pos 1)))) (expr 13 (e.Binary binary.Add (expr 13 (e.Literal (primitive.Number (pos 2)))) (expr 17 (e.Literal (primitive.Number (pos 3))))))))) ∷ [])) ∷ []) []

-- var x = 1 + 2;
abbrev pub less_nested_sum : Script
less_nested_sum = script (stmt 0 (s.Var (declarator 4 (codes "x") (Some (expr 8 (e.Binary binary.Add (expr 8 (e.Literal (primitive.Number (pos 1)))) (expr 12 (e.Literal (primitive.Number (pos 2))))))) ∷ [])) ∷ []) []

-- var o = {}; Object.defineProperty(o, "length", {get: [].join}); o.length;
abbrev pub getter_of_itself : Script
getter_of_itself = script (stmt 0 (s.Var (declarator 4 (codes "o") (Some (expr 8 (e.ObjectLit []))) ∷ [])) ∷ stmt 12 (s.Eval (expr 12 (e.Call (expr 12 (e.Member (expr 12 (e.Name (codes "Object"))) (codes "defineProperty"))) (expr 34 (e.Name (codes "o")) ∷ expr 37 (e.Literal (primitive.Text (codes "length"))) ∷ expr 47 (e.ObjectLit (field.Value (place 48) (codes "get") (expr 53 (e.Member (expr 53 (e.ArrayLit [])) (codes "join"))) ∷ [])) ∷ [])))) ∷ stmt 64 (s.Eval (expr 64 (e.Member (expr 64 (e.Name (codes "o"))) (codes "length")))) ∷ []) []

pub record RealmCases : Type 0 where
  pub valid : is_valid realm ≡ true
  pub count : length realm.objects ≡ realm_count
  pub first_name : realm_name global ≡ Some (codes "global")
  pub object_name : realm_name object_prototype ≡ Some (codes "Object.prototype")
  pub function_name : realm_name function_prototype ≡ Some (codes "Function.prototype")
  pub array_name : realm_name array_prototype ≡ Some (codes "Array.prototype")
  pub type_name : realm_name (error_prototype TypeError) ≡ Some (codes "TypeError.prototype")
  pub range_name : realm_name (error_prototype RangeError) ≡ Some (codes "RangeError.prototype")
  pub reference_name : realm_name (error_prototype ReferenceError) ≡ Some (codes "ReferenceError.prototype")
  pub create_name : realm_name 18 ≡ Some (codes "Object.create")
  pub last_name : realm_name 40 ≡ Some (codes "Array.isArray")
  pub no_name : realm_name 41 ≡ None
  pub nested_sum_run : (z : ℕ) → z ≡ zero → seen bare [] (three_more z) no_world nested_sum 200 ≡ LeavesAt Depth 13
  pub nested_sum_spent_run : (z : ℕ) → z ≡ zero → seen bare [] (three_more z) no_world nested_sum_spent 4 ≡ StepsSpent
  pub nested_sum_left_run : (z : ℕ) → z ≡ zero → seen bare [] (three_more z) no_world nested_sum_left 5 ≡ LeavesAt Depth 13
  pub less_nested_sum_run : (z : ℕ) → z ≡ zero → seen bare (codes "x" ∷ []) (three_more z) no_world less_nested_sum 200 ≡ Values (Some (number 3) ∷ [])
  pub getter_of_itself_run : (z : ℕ) → z ≡ zero → seen realm [] (eight_more z) no_world getter_of_itself 200 ≡ LeavesAt Depth 64
