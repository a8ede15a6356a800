-- Where and why runs leave the profile, worked out by hand, and the message of an error.
use Rattle.std.specs.Prelude.{◌≡◌, ℕ, pos, true, false, nat_le, List, [], ◌∷◌, ◌++◌, length, codes, Some, None}
use Rattle.js_value.specs.declared.operator.BinaryOp.TheVariants as binary
use Rattle.js_value.specs.declared.operator.UnaryOp.TheVariants as unary
use Rattle.js_value.specs.declared.primitive.Kind.TheVariants as kind
use Rattle.js_value.specs.declared.primitive.Primitive.TheVariants as primitive
use Rattle.js_value.specs.Operators.{greatest_length}
use Rattle.js_value.specs.declared.why.Why.TheVariants.{AbsentBuiltin, ClosedBuiltin, Fraction, Infinite, MinusZero, NotANumber, NumberSpelling, ObjectToPrimitive, PrimitiveProperty, PrimitiveThis, ProtoKey, TextLength, Unsafe}
use Rattle.js_tree.specs.Trees.{expr, stmt, no, declarator, func, script}
use Rattle.js_tree.specs.declared.expression.ExprForm.TheVariants as e
use Rattle.js_tree.specs.declared.statement.Script.{Script}
use Rattle.js_tree.specs.declared.statement.StmtForm.TheVariants as s
use Rattle.plain_heap.specs.Values.{text, truth}
use Rattle.js_machine.specs.Machine.Realm.{realm}
use Rattle.js_machine.specs.Machine.Walks.{World}
use Rattle.machine_cases.specs.RunCases.{LeavesAt, Values, deep, no_world, seen}

-- 1 + 5 / 2;
abbrev pub quotient : Script
quotient = script (stmt 0 (s.Eval (expr 0 (e.Binary binary.Add (expr 0 (e.Literal (primitive.Number (pos 1)))) (expr 4 (e.Binary binary.Div (expr 4 (e.Literal (primitive.Number (pos 5)))) (expr 8 (e.Literal (primitive.Number (pos 2))))))))) ∷ []) []

-- 1 + 5 / 0;
abbrev pub quotient_by_zero : Script
quotient_by_zero = script (stmt 0 (s.Eval (expr 0 (e.Binary binary.Add (expr 0 (e.Literal (primitive.Number (pos 1)))) (expr 4 (e.Binary binary.Div (expr 4 (e.Literal (primitive.Number (pos 5)))) (expr 8 (e.Literal (primitive.Number (pos 0))))))))) ∷ []) []

-- 1 + 0 / 0;
abbrev pub zero_by_zero : Script
zero_by_zero = script (stmt 0 (s.Eval (expr 0 (e.Binary binary.Add (expr 0 (e.Literal (primitive.Number (pos 1)))) (expr 4 (e.Binary binary.Div (expr 4 (e.Literal (primitive.Number (pos 0)))) (expr 8 (e.Literal (primitive.Number (pos 0))))))))) ∷ []) []

-- 1 + 5 % 0;
abbrev pub rest_by_zero : Script
rest_by_zero = script (stmt 0 (s.Eval (expr 0 (e.Binary binary.Add (expr 0 (e.Literal (primitive.Number (pos 1)))) (expr 4 (e.Binary binary.Rem (expr 4 (e.Literal (primitive.Number (pos 5)))) (expr 8 (e.Literal (primitive.Number (pos 0))))))))) ∷ []) []

-- 1 + -0;
abbrev pub negated_zero : Script
negated_zero = script (stmt 0 (s.Eval (expr 0 (e.Binary binary.Add (expr 0 (e.Literal (primitive.Number (pos 1)))) (expr 4 (e.Unary unary.Minus (expr 5 (e.Literal (primitive.Number (pos 0))))))))) ∷ []) []

-- 1 + 0 / -5;
abbrev pub zero_by_negative : Script
zero_by_negative = script (stmt 0 (s.Eval (expr 0 (e.Binary binary.Add (expr 0 (e.Literal (primitive.Number (pos 1)))) (expr 4 (e.Binary binary.Div (expr 4 (e.Literal (primitive.Number (pos 0)))) (expr 8 (e.Unary unary.Minus (expr 9 (e.Literal (primitive.Number (pos 5))))))))))) ∷ []) []

-- 1 + -5 % 5;
abbrev pub rest_of_negative : Script
rest_of_negative = script (stmt 0 (s.Eval (expr 0 (e.Binary binary.Add (expr 0 (e.Literal (primitive.Number (pos 1)))) (expr 4 (e.Binary binary.Rem (expr 4 (e.Unary unary.Minus (expr 5 (e.Literal (primitive.Number (pos 5)))))) (expr 9 (e.Literal (primitive.Number (pos 5))))))))) ∷ []) []

-- 1 + +"9007199254740992";
abbrev pub great_text : Script
great_text = script (stmt 0 (s.Eval (expr 0 (e.Binary binary.Add (expr 0 (e.Literal (primitive.Number (pos 1)))) (expr 4 (e.Unary unary.Plus (expr 5 (e.Literal (primitive.Text (codes "9007199254740992"))))))))) ∷ []) []

-- 1 + +"a";
abbrev pub spelled : Script
spelled = script (stmt 0 (s.Eval (expr 0 (e.Binary binary.Add (expr 0 (e.Literal (primitive.Number (pos 1)))) (expr 4 (e.Unary unary.Plus (expr 5 (e.Literal (primitive.Text (codes "a"))))))))) ∷ []) []

-- "abc"["__pro" + "to__"];
abbrev pub proto_of_text : Script
proto_of_text = script (stmt 0 (s.Eval (expr 0 (e.Index (expr 0 (e.Literal (primitive.Text (codes "abc")))) (expr 6 (e.Binary binary.Add (expr 6 (e.Literal (primitive.Text (codes "__pro")))) (expr 16 (e.Literal (primitive.Text (codes "to__"))))))))) ∷ []) []

-- "abc".length = 1;
abbrev pub length_of_text : Script
length_of_text = script (stmt 0 (s.Eval (expr 0 (e.Assign (expr 0 (e.Member (expr 0 (e.Literal (primitive.Text (codes "abc")))) (codes "length"))) None (expr 15 (e.Literal (primitive.Number (pos 1))))))) ∷ []) []

-- !([]["__pro" + "to__"] = 1);
abbrev pub proto_written : Script
proto_written = script (stmt 0 (s.Eval (expr 0 (e.Unary unary.Not (expr 2 (e.Assign (expr 2 (e.Index (expr 2 (e.ArrayLit [])) (expr 5 (e.Binary binary.Add (expr 5 (e.Literal (primitive.Text (codes "__pro")))) (expr 15 (e.Literal (primitive.Text (codes "to__")))))))) None (expr 25 (e.Literal (primitive.Number (pos 1))))))))) ∷ []) []

-- delete []["__pro" + "to__"];
abbrev pub proto_deleted : Script
proto_deleted = script (stmt 0 (s.Eval (expr 0 (e.Unary unary.Delete (expr 7 (e.Index (expr 7 (e.ArrayLit [])) (expr 10 (e.Binary binary.Add (expr 10 (e.Literal (primitive.Text (codes "__pro")))) (expr 20 (e.Literal (primitive.Text (codes "to__"))))))))))) ∷ []) []

-- !("__pro" + "to__" in []);
abbrev pub proto_tested : Script
proto_tested = script (stmt 0 (s.Eval (expr 0 (e.Unary unary.Not (expr 2 (e.Binary binary.In (expr 2 (e.Binary binary.Add (expr 2 (e.Literal (primitive.Text (codes "__pro")))) (expr 12 (e.Literal (primitive.Text (codes "to__")))))) (expr 22 (e.ArrayLit []))))))) ∷ []) []

-- 1 + [].hasOwnProperty("__pro" + "to__");
abbrev pub proto_own : Script
proto_own = script (stmt 0 (s.Eval (expr 0 (e.Binary binary.Add (expr 0 (e.Literal (primitive.Number (pos 1)))) (expr 4 (e.Call (expr 4 (e.Member (expr 4 (e.ArrayLit [])) (codes "hasOwnProperty"))) (expr 22 (e.Binary binary.Add (expr 22 (e.Literal (primitive.Text (codes "__pro")))) (expr 32 (e.Literal (primitive.Text (codes "to__"))))) ∷ [])))))) ∷ []) []

-- 1 + Array.call(null);
abbrev pub closed_within : Script
closed_within = script (stmt 0 (s.Eval (expr 0 (e.Binary binary.Add (expr 0 (e.Literal (primitive.Number (pos 1)))) (expr 4 (e.Call (expr 4 (e.Member (expr 4 (e.Name (codes "Array"))) (codes "call"))) (expr 15 (e.Literal primitive.Null) ∷ [])))))) ∷ []) []

-- ![1].map(Object);
abbrev pub closed_callback : Script
closed_callback = script (stmt 0 (s.Eval (expr 0 (e.Unary unary.Not (expr 1 (e.Call (expr 1 (e.Member (expr 1 (e.ArrayLit (Some (expr 2 (e.Literal (primitive.Number (pos 1)))) ∷ []))) (codes "map"))) (expr 9 (e.Name (codes "Object")) ∷ [])))))) ∷ []) []

-- ![].sort();
abbrev pub absent_callee : Script
absent_callee = script (stmt 0 (s.Eval (expr 0 (e.Unary unary.Not (expr 1 (e.Call (expr 1 (e.Member (expr 1 (e.ArrayLit [])) (codes "sort"))) []))))) ∷ []) []

-- [1].map(function () { return 1 + 5 / 2; });
abbrev pub in_callback : Script
in_callback = script (stmt 0 (s.Eval (expr 0 (e.Call (expr 0 (e.Member (expr 0 (e.ArrayLit (Some (expr 1 (e.Literal (primitive.Number (pos 1)))) ∷ []))) (codes "map"))) (expr 8 (e.Func (no 0)) ∷ [])))) ∷ []) (func 8 None [] (stmt 22 (s.Return (Some (expr 29 (e.Binary binary.Add (expr 29 (e.Literal (primitive.Number (pos 1)))) (expr 33 (e.Binary binary.Div (expr 33 (e.Literal (primitive.Number (pos 5)))) (expr 37 (e.Literal (primitive.Number (pos 2)))))))))) ∷ []) ∷ [])

-- ![1].map(function () { }, 5);
abbrev pub this_of_callback : Script
this_of_callback = script (stmt 0 (s.Eval (expr 0 (e.Unary unary.Not (expr 1 (e.Call (expr 1 (e.Member (expr 1 (e.ArrayLit (Some (expr 2 (e.Literal (primitive.Number (pos 1)))) ∷ []))) (codes "map"))) (expr 9 (e.Func (no 0)) ∷ expr 26 (e.Literal (primitive.Number (pos 5))) ∷ [])))))) ∷ []) (func 9 None [] [] ∷ [])

-- ![1, {}].join();
abbrev pub joined_within : Script
joined_within = script (stmt 0 (s.Eval (expr 0 (e.Unary unary.Not (expr 1 (e.Call (expr 1 (e.Member (expr 1 (e.ArrayLit (Some (expr 2 (e.Literal (primitive.Number (pos 1)))) ∷ Some (expr 5 (e.ObjectLit [])) ∷ []))) (codes "join"))) []))))) ∷ []) []

-- !(__abstract("string", "s") + __abstract("string", "s"));
abbrev pub doubled : Script
doubled = script (stmt 0 (s.Eval (expr 0 (e.Unary unary.Not (expr 2 (e.Binary binary.Add (expr 2 (e.Input kind.Text (codes "s"))) (expr 30 (e.Input kind.Text (codes "s")))))))) ∷ []) []

-- the input s is this text
abbrev pub with_text : List ℕ → World
with_text t = record { inputs = (codes "s", primitive.Text t) ∷ []; answers = [] }

-- var d = Object.getOwnPropertyDescriptor(Error("m"), "message"); var v = d.value, x = d.writable, y = d.enumerable, z = d.configurable;
abbrev pub message_attributes : Script
message_attributes = script (stmt 0 (s.Var (declarator 4 (codes "d") (Some (expr 8 (e.Call (expr 8 (e.Member (expr 8 (e.Name (codes "Object"))) (codes "getOwnPropertyDescriptor"))) (expr 40 (e.Call (expr 40 (e.Name (codes "Error"))) (expr 46 (e.Literal (primitive.Text (codes "m"))) ∷ [])) ∷ expr 52 (e.Literal (primitive.Text (codes "message"))) ∷ [])))) ∷ [])) ∷ stmt 64 (s.Var (declarator 68 (codes "v") (Some (expr 72 (e.Member (expr 72 (e.Name (codes "d"))) (codes "value")))) ∷ declarator 81 (codes "x") (Some (expr 85 (e.Member (expr 85 (e.Name (codes "d"))) (codes "writable")))) ∷ declarator 97 (codes "y") (Some (expr 101 (e.Member (expr 101 (e.Name (codes "d"))) (codes "enumerable")))) ∷ declarator 115 (codes "z") (Some (expr 119 (e.Member (expr 119 (e.Name (codes "d"))) (codes "configurable")))) ∷ [])) ∷ []) []

-- var d = Object.getOwnPropertyDescriptor(new TypeError(5), "message"); var v = d.value, x = d.writable, y = d.enumerable, z = d.configurable;
abbrev pub message_of_number : Script
message_of_number = script (stmt 0 (s.Var (declarator 4 (codes "d") (Some (expr 8 (e.Call (expr 8 (e.Member (expr 8 (e.Name (codes "Object"))) (codes "getOwnPropertyDescriptor"))) (expr 40 (e.New (expr 44 (e.Name (codes "TypeError"))) (expr 54 (e.Literal (primitive.Number (pos 5))) ∷ [])) ∷ expr 58 (e.Literal (primitive.Text (codes "message"))) ∷ [])))) ∷ [])) ∷ stmt 70 (s.Var (declarator 74 (codes "v") (Some (expr 78 (e.Member (expr 78 (e.Name (codes "d"))) (codes "value")))) ∷ declarator 87 (codes "x") (Some (expr 91 (e.Member (expr 91 (e.Name (codes "d"))) (codes "writable")))) ∷ declarator 103 (codes "y") (Some (expr 107 (e.Member (expr 107 (e.Name (codes "d"))) (codes "enumerable")))) ∷ declarator 121 (codes "z") (Some (expr 125 (e.Member (expr 125 (e.Name (codes "d"))) (codes "configurable")))) ∷ [])) ∷ []) []

pub record LeftRuns : Type 0 where
  pub quotient_run : (d : ℕ) → seen realm [] (deep d) no_world quotient 200 ≡ LeavesAt Fraction 4
  pub quotient_by_zero_run : (d : ℕ) → seen realm [] (deep d) no_world quotient_by_zero 200 ≡ LeavesAt Infinite 4
  pub zero_by_zero_run : (d : ℕ) → seen realm [] (deep d) no_world zero_by_zero 200 ≡ LeavesAt NotANumber 4
  pub rest_by_zero_run : (d : ℕ) → seen realm [] (deep d) no_world rest_by_zero 200 ≡ LeavesAt NotANumber 4
  pub negated_zero_run : (d : ℕ) → seen realm [] (deep d) no_world negated_zero 200 ≡ LeavesAt MinusZero 4
  pub zero_by_negative_run : (d : ℕ) → seen realm [] (deep d) no_world zero_by_negative 200 ≡ LeavesAt MinusZero 4
  pub rest_of_negative_run : (d : ℕ) → seen realm [] (deep d) no_world rest_of_negative 200 ≡ LeavesAt MinusZero 4
  pub great_text_run : (d : ℕ) → seen realm [] (deep d) no_world great_text 200 ≡ LeavesAt Unsafe 4
  pub spelled_run : (d : ℕ) → seen realm [] (deep d) no_world spelled 200 ≡ LeavesAt NumberSpelling 4
  pub proto_of_text_run : (d : ℕ) → seen realm [] (deep d) no_world proto_of_text 200 ≡ LeavesAt PrimitiveProperty 0
  pub length_of_text_run : (d : ℕ) → seen realm [] (deep d) no_world length_of_text 200 ≡ LeavesAt PrimitiveProperty 0
  pub proto_written_run : (d : ℕ) → seen realm [] (deep d) no_world proto_written 200 ≡ LeavesAt ProtoKey 2
  pub proto_deleted_run : (d : ℕ) → seen realm [] (deep d) no_world proto_deleted 200 ≡ LeavesAt ProtoKey 0
  pub proto_tested_run : (d : ℕ) → seen realm [] (deep d) no_world proto_tested 200 ≡ LeavesAt ProtoKey 2
  pub proto_own_run : (d : ℕ) → seen realm [] (deep d) no_world proto_own 200 ≡ LeavesAt ProtoKey 4
  pub closed_within_run : (d : ℕ) → seen realm [] (deep d) no_world closed_within 200 ≡ LeavesAt ClosedBuiltin 4
  pub closed_callback_run : (d : ℕ) → seen realm [] (deep d) no_world closed_callback 200 ≡ LeavesAt ClosedBuiltin 1
  pub absent_callee_run : (d : ℕ) → seen realm [] (deep d) no_world absent_callee 200 ≡ LeavesAt AbsentBuiltin 1
  pub in_callback_run : (d : ℕ) → seen realm [] (deep d) no_world in_callback 200 ≡ LeavesAt Fraction 33
  pub this_of_callback_run : (d : ℕ) → seen realm [] (deep d) no_world this_of_callback 200 ≡ LeavesAt PrimitiveThis 1
  pub joined_within_run : (d : ℕ) → seen realm [] (deep d) no_world joined_within 200 ≡ LeavesAt ObjectToPrimitive 1
  -- a text that is too long twice over
  pub doubled_run : (d : ℕ) (t : List ℕ) → nat_le (length (t ++ t)) greatest_length ≡ false → seen realm [] (deep d) (with_text t) doubled 200 ≡ LeavesAt TextLength 2
  pub message_attributes_run : (d : ℕ) → seen realm (codes "v" ∷ codes "x" ∷ codes "y" ∷ codes "z" ∷ []) (deep d) no_world message_attributes 200 ≡ Values (Some (text (codes "m")) ∷ Some (truth true) ∷ Some (truth false) ∷ Some (truth true) ∷ [])
  pub message_of_number_run : (d : ℕ) → seen realm (codes "v" ∷ codes "x" ∷ codes "y" ∷ codes "z" ∷ []) (deep d) no_world message_of_number 200 ≡ Values (Some (text (codes "5")) ∷ Some (truth true) ∷ Some (truth false) ∷ Some (truth true) ∷ [])
