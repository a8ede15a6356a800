-- Runs of expressions (11), worked out by hand.
use Rattle.std.specs.Prelude.{◌≡◌, ℕ, pos, true, false, [], ◌∷◌, codes, Some, None}
use Rattle.js_value.specs.declared.operator.BinaryOp.TheVariants as binary
use Rattle.js_value.specs.declared.operator.UnaryOp.TheVariants as unary
use Rattle.js_value.specs.declared.primitive.Primitive.TheVariants as primitive
use Rattle.js_value.specs.declared.why.Why.TheVariants.{Unsafe, NotANumber, MinusZero, ObjectToPrimitive, PrimitiveProperty, ProtoKey, AbsentBuiltin, ClosedBuiltin}
use Rattle.js_tree.specs.declared.expression.ExprForm.TheVariants as e
use Rattle.js_tree.specs.declared.expression.Field.TheVariants as field
use Rattle.js_tree.specs.declared.expression.LogicOp.TheVariants as logic
use Rattle.js_tree.specs.declared.expression.StepOp.TheVariants as stepping
use Rattle.js_tree.specs.declared.statement.Script.{Script}
use Rattle.js_tree.specs.declared.statement.StmtForm.TheVariants as s
use Rattle.js_tree.specs.Refusals.{place}
use Rattle.js_tree.specs.Trees.{expr, stmt, no, declared, declarator, func, script}
use Rattle.plain_heap.specs.Values.{undefined, null, truth, number, text}
use Rattle.js_machine.specs.Machine.RealmObjects.{TypeError, ReferenceError}
use Rattle.machine_cases.specs.RunCases.{Values, ThrewError, LeavesAt, StepsSpent, minus, no_world, deep, bare, seen}
use Rattle.js_machine.specs.Machine.Realm.{realm}

-- var x = 1 + 2;
abbrev pub sum : Script
sum = script (stmt 0 (s.Var (declarator 4 (codes "x") (Some (expr 8 (e.Binary binary.Add (expr 8 (e.Literal (primitive.Number (pos 1)))) (expr 12 (e.Literal (primitive.Number (pos 2))))))) ∷ [])) ∷ []) []

-- var x = 1 + 2;
abbrev pub sum_without_steps : Script
sum_without_steps = script (stmt 0 (s.Var (declarator 4 (codes "x") (Some (expr 8 (e.Binary binary.Add (expr 8 (e.Literal (primitive.Number (pos 1)))) (expr 12 (e.Literal (primitive.Number (pos 2))))))) ∷ [])) ∷ []) []

-- var m = 9007199254740990 + 2;
abbrev pub unsafe_sum : Script
unsafe_sum = script (stmt 0 (s.Var (declarator 4 (codes "m") (Some (expr 8 (e.Binary binary.Add (expr 8 (e.Literal (primitive.Number (pos 9007199254740990)))) (expr 27 (e.Literal (primitive.Number (pos 2))))))) ∷ [])) ∷ []) []

-- var z = 0 * -1;
abbrev pub minus_zero : Script
minus_zero = script (stmt 0 (s.Var (declarator 4 (codes "z") (Some (expr 8 (e.Binary binary.Mul (expr 8 (e.Literal (primitive.Number (pos 0)))) (expr 12 (e.Unary unary.Minus (expr 13 (e.Literal (primitive.Number (pos 1))))))))) ∷ [])) ∷ []) []

-- var x = typeof this, y = this === this;
abbrev pub this_value : Script
this_value = script (stmt 0 (s.Var (declarator 4 (codes "x") (Some (expr 8 (e.Unary unary.TypeOf (expr 15 e.This)))) ∷ declarator 21 (codes "y") (Some (expr 25 (e.Binary binary.Same (expr 25 e.This) (expr 34 e.This)))) ∷ [])) ∷ []) []

-- x;
abbrev pub unbound : Script
unbound = script (stmt 0 (s.Eval (expr 0 (e.Name (codes "x")))) ∷ []) []

-- var x = typeof y;
abbrev pub unbound_type : Script
unbound_type = script (stmt 0 (s.Var (declarator 4 (codes "x") (Some (expr 8 (e.Unary unary.TypeOf (expr 15 (e.Name (codes "y")))))) ∷ [])) ∷ []) []

-- x = 1; var y = x;
abbrev pub made_global : Script
made_global = script (stmt 0 (s.Eval (expr 0 (e.Assign (expr 0 (e.Name (codes "x"))) None (expr 4 (e.Literal (primitive.Number (pos 1))))))) ∷ stmt 7 (s.Var (declarator 11 (codes "y") (Some (expr 15 (e.Name (codes "x")))) ∷ [])) ∷ []) []

-- parseInt;
abbrev pub absent_value : Script
absent_value = script (stmt 0 (s.Eval (expr 0 (e.Name (codes "parseInt")))) ∷ []) []

-- var x = typeof parseInt;
abbrev pub absent_type : Script
absent_type = script (stmt 0 (s.Var (declarator 4 (codes "x") (Some (expr 8 (e.Unary unary.TypeOf (expr 15 (e.Name (codes "parseInt")))))) ∷ [])) ∷ []) []

-- var a = [1,,3,]; var x = a.length, y = 1 in a, z = a[2], w = a[1];
abbrev pub array : Script
array = script (stmt 0 (s.Var (declarator 4 (codes "a") (Some (expr 8 (e.ArrayLit (Some (expr 9 (e.Literal (primitive.Number (pos 1)))) ∷ None ∷ Some (expr 12 (e.Literal (primitive.Number (pos 3)))) ∷ [])))) ∷ [])) ∷ stmt 17 (s.Var (declarator 21 (codes "x") (Some (expr 25 (e.Member (expr 25 (e.Name (codes "a"))) (codes "length")))) ∷ declarator 35 (codes "y") (Some (expr 39 (e.Binary binary.In (expr 39 (e.Literal (primitive.Number (pos 1)))) (expr 44 (e.Name (codes "a")))))) ∷ declarator 47 (codes "z") (Some (expr 51 (e.Index (expr 51 (e.Name (codes "a"))) (expr 53 (e.Literal (primitive.Number (pos 2))))))) ∷ declarator 57 (codes "w") (Some (expr 61 (e.Index (expr 61 (e.Name (codes "a"))) (expr 63 (e.Literal (primitive.Number (pos 1))))))) ∷ [])) ∷ []) []

-- var x = [,,].length, y = [].length;
abbrev pub elisions : Script
elisions = script (stmt 0 (s.Var (declarator 4 (codes "x") (Some (expr 8 (e.Member (expr 8 (e.ArrayLit (None ∷ None ∷ []))) (codes "length")))) ∷ declarator 21 (codes "y") (Some (expr 25 (e.Member (expr 25 (e.ArrayLit [])) (codes "length")))) ∷ [])) ∷ []) []

-- var o = {a: 1, "b c": 2, 3: 4, a: 5}; var x = o.a, y = o["b c"], z = o[3];
abbrev pub object : Script
object = script (stmt 0 (s.Var (declarator 4 (codes "o") (Some (expr 8 (e.ObjectLit (field.Value (place 9) (codes "a") (expr 12 (e.Literal (primitive.Number (pos 1)))) ∷ field.Value (place 15) (codes "b c") (expr 22 (e.Literal (primitive.Number (pos 2)))) ∷ field.Value (place 25) (codes "3") (expr 28 (e.Literal (primitive.Number (pos 4)))) ∷ field.Value (place 31) (codes "a") (expr 34 (e.Literal (primitive.Number (pos 5)))) ∷ [])))) ∷ [])) ∷ stmt 38 (s.Var (declarator 42 (codes "x") (Some (expr 46 (e.Member (expr 46 (e.Name (codes "o"))) (codes "a")))) ∷ declarator 51 (codes "y") (Some (expr 55 (e.Index (expr 55 (e.Name (codes "o"))) (expr 57 (e.Literal (primitive.Text (codes "b c"))))))) ∷ declarator 65 (codes "z") (Some (expr 69 (e.Index (expr 69 (e.Name (codes "o"))) (expr 71 (e.Literal (primitive.Number (pos 3))))))) ∷ [])) ∷ []) []

-- var y = 0; var o = {get p() { return 7; }, set p(v) { y = v; }}; var x = o.p; o.p = 5;
abbrev pub accessors : Script
accessors = script (stmt 0 (s.Var (declarator 4 (codes "y") (Some (expr 8 (e.Literal (primitive.Number (pos 0))))) ∷ [])) ∷ stmt 11 (s.Var (declarator 15 (codes "o") (Some (expr 19 (e.ObjectLit (field.Getter (place 24) (codes "p") (no 0) ∷ field.Setter (place 47) (codes "p") (no 1) ∷ [])))) ∷ [])) ∷ stmt 65 (s.Var (declarator 69 (codes "x") (Some (expr 73 (e.Member (expr 73 (e.Name (codes "o"))) (codes "p")))) ∷ [])) ∷ stmt 78 (s.Eval (expr 78 (e.Assign (expr 78 (e.Member (expr 78 (e.Name (codes "o"))) (codes "p"))) None (expr 84 (e.Literal (primitive.Number (pos 5))))))) ∷ []) (func 20 None [] (stmt 30 (s.Return (Some (expr 37 (e.Literal (primitive.Number (pos 7)))))) ∷ []) ∷ func 43 None (declared 49 (codes "v") ∷ []) (stmt 54 (s.Eval (expr 54 (e.Assign (expr 54 (e.Name (codes "y"))) None (expr 58 (e.Name (codes "v")))))) ∷ []) ∷ [])

-- var o = {get p() { return 7; }}; o.p = 5; var x = o.p;
abbrev pub getter_alone : Script
getter_alone = script (stmt 0 (s.Var (declarator 4 (codes "o") (Some (expr 8 (e.ObjectLit (field.Getter (place 13) (codes "p") (no 0) ∷ [])))) ∷ [])) ∷ stmt 33 (s.Eval (expr 33 (e.Assign (expr 33 (e.Member (expr 33 (e.Name (codes "o"))) (codes "p"))) None (expr 39 (e.Literal (primitive.Number (pos 5))))))) ∷ stmt 42 (s.Var (declarator 46 (codes "x") (Some (expr 50 (e.Member (expr 50 (e.Name (codes "o"))) (codes "p")))) ∷ [])) ∷ []) (func 9 None [] (stmt 19 (s.Return (Some (expr 26 (e.Literal (primitive.Number (pos 7)))))) ∷ []) ∷ [])

-- var f = function (a, b) { return b; }; var x = f.length, y = f(1, 2), z = f(1);
abbrev pub function_value : Script
function_value = script (stmt 0 (s.Var (declarator 4 (codes "f") (Some (expr 8 (e.Func (no 0)))) ∷ [])) ∷ stmt 39 (s.Var (declarator 43 (codes "x") (Some (expr 47 (e.Member (expr 47 (e.Name (codes "f"))) (codes "length")))) ∷ declarator 57 (codes "y") (Some (expr 61 (e.Call (expr 61 (e.Name (codes "f"))) (expr 63 (e.Literal (primitive.Number (pos 1))) ∷ expr 66 (e.Literal (primitive.Number (pos 2))) ∷ [])))) ∷ declarator 70 (codes "z") (Some (expr 74 (e.Call (expr 74 (e.Name (codes "f"))) (expr 76 (e.Literal (primitive.Number (pos 1))) ∷ [])))) ∷ [])) ∷ []) (func 8 None (declared 18 (codes "a") ∷ declared 21 (codes "b") ∷ []) (stmt 26 (s.Return (Some (expr 33 (e.Name (codes "b"))))) ∷ []) ∷ [])

-- var f = function g(n) { return n ? g(0) : 5; }; var h = f; f = 1; var x = h(1), y = typeof g;
abbrev pub own_name : Script
own_name = script (stmt 0 (s.Var (declarator 4 (codes "f") (Some (expr 8 (e.Func (no 0)))) ∷ [])) ∷ stmt 48 (s.Var (declarator 52 (codes "h") (Some (expr 56 (e.Name (codes "f")))) ∷ [])) ∷ stmt 59 (s.Eval (expr 59 (e.Assign (expr 59 (e.Name (codes "f"))) None (expr 63 (e.Literal (primitive.Number (pos 1))))))) ∷ stmt 66 (s.Var (declarator 70 (codes "x") (Some (expr 74 (e.Call (expr 74 (e.Name (codes "h"))) (expr 76 (e.Literal (primitive.Number (pos 1))) ∷ [])))) ∷ declarator 80 (codes "y") (Some (expr 84 (e.Unary unary.TypeOf (expr 91 (e.Name (codes "g")))))) ∷ [])) ∷ []) (func 8 (Some (declared 17 (codes "g"))) (declared 19 (codes "n") ∷ []) (stmt 24 (s.Return (Some (expr 31 (e.Conditional (expr 31 (e.Name (codes "n"))) (expr 35 (e.Call (expr 35 (e.Name (codes "g"))) (expr 37 (e.Literal (primitive.Number (pos 0))) ∷ []))) (expr 42 (e.Literal (primitive.Number (pos 5)))))))) ∷ []) ∷ [])

-- var u; u.a;
abbrev pub undefined_base : Script
undefined_base = script (stmt 0 (s.Var (declarator 4 (codes "u") None ∷ [])) ∷ stmt 7 (s.Eval (expr 7 (e.Member (expr 7 (e.Name (codes "u"))) (codes "a")))) ∷ []) []

-- null.a;
abbrev pub null_base : Script
null_base = script (stmt 0 (s.Eval (expr 0 (e.Member (expr 0 (e.Literal primitive.Null)) (codes "a")))) ∷ []) []

-- var u; u[{}];
abbrev pub base_before_key : Script
base_before_key = script (stmt 0 (s.Var (declarator 4 (codes "u") None ∷ [])) ∷ stmt 7 (s.Eval (expr 7 (e.Index (expr 7 (e.Name (codes "u"))) (expr 9 (e.ObjectLit []))))) ∷ []) []

-- var o = {}; o[{}];
abbrev pub object_key : Script
object_key = script (stmt 0 (s.Var (declarator 4 (codes "o") (Some (expr 8 (e.ObjectLit []))) ∷ [])) ∷ stmt 12 (s.Eval (expr 12 (e.Index (expr 12 (e.Name (codes "o"))) (expr 14 (e.ObjectLit []))))) ∷ []) []

-- var o = {}; o["__pro" + "to__"];
abbrev pub proto_key : Script
proto_key = script (stmt 0 (s.Var (declarator 4 (codes "o") (Some (expr 8 (e.ObjectLit []))) ∷ [])) ∷ stmt 12 (s.Eval (expr 12 (e.Index (expr 12 (e.Name (codes "o"))) (expr 14 (e.Binary binary.Add (expr 14 (e.Literal (primitive.Text (codes "__pro")))) (expr 24 (e.Literal (primitive.Text (codes "to__"))))))))) ∷ []) []

-- var o = {}; o["__pro" + "to__"] = f();
abbrev pub proto_key_after_value : Script
proto_key_after_value = script (stmt 0 (s.Var (declarator 4 (codes "o") (Some (expr 8 (e.ObjectLit []))) ∷ [])) ∷ stmt 12 (s.Eval (expr 12 (e.Assign (expr 12 (e.Index (expr 12 (e.Name (codes "o"))) (expr 14 (e.Binary binary.Add (expr 14 (e.Literal (primitive.Text (codes "__pro")))) (expr 24 (e.Literal (primitive.Text (codes "to__")))))))) None (expr 34 (e.Call (expr 34 (e.Name (codes "f"))) []))))) ∷ []) []

-- var x = "abc".length, y = "abc"[1];
abbrev pub string_properties : Script
string_properties = script (stmt 0 (s.Var (declarator 4 (codes "x") (Some (expr 8 (e.Member (expr 8 (e.Literal (primitive.Text (codes "abc")))) (codes "length")))) ∷ declarator 22 (codes "y") (Some (expr 26 (e.Index (expr 26 (e.Literal (primitive.Text (codes "abc")))) (expr 32 (e.Literal (primitive.Number (pos 1))))))) ∷ [])) ∷ []) []

-- "abc"[3];
abbrev pub beyond_string : Script
beyond_string = script (stmt 0 (s.Eval (expr 0 (e.Index (expr 0 (e.Literal (primitive.Text (codes "abc")))) (expr 6 (e.Literal (primitive.Number (pos 3))))))) ∷ []) []

-- "abc".concat;
abbrev pub other_of_string : Script
other_of_string = script (stmt 0 (s.Eval (expr 0 (e.Member (expr 0 (e.Literal (primitive.Text (codes "abc")))) (codes "concat")))) ∷ []) []

-- (5).a;
abbrev pub of_number : Script
of_number = script (stmt 1 (s.Eval (expr 1 (e.Member (expr 1 (e.Literal (primitive.Number (pos 5)))) (codes "a")))) ∷ []) []

-- true.x = 1;
abbrev pub to_boolean_property : Script
to_boolean_property = script (stmt 0 (s.Eval (expr 0 (e.Assign (expr 0 (e.Member (expr 0 (e.Literal (primitive.Boolean true))) (codes "x"))) None (expr 9 (e.Literal (primitive.Number (pos 1))))))) ∷ []) []

-- var x = 5; x();
abbrev pub call_of_number : Script
call_of_number = script (stmt 0 (s.Var (declarator 4 (codes "x") (Some (expr 8 (e.Literal (primitive.Number (pos 5))))) ∷ [])) ∷ stmt 11 (s.Eval (expr 11 (e.Call (expr 11 (e.Name (codes "x"))) []))) ∷ []) []

-- ({}).f();
abbrev pub call_of_nothing : Script
call_of_nothing = script (stmt 1 (s.Eval (expr 1 (e.Call (expr 1 (e.Member (expr 1 (e.ObjectLit [])) (codes "f"))) []))) ∷ []) []

-- var o = {}; o.f(g());
abbrev pub arguments_before_check : Script
arguments_before_check = script (stmt 0 (s.Var (declarator 4 (codes "o") (Some (expr 8 (e.ObjectLit []))) ∷ [])) ∷ stmt 12 (s.Eval (expr 12 (e.Call (expr 12 (e.Member (expr 12 (e.Name (codes "o"))) (codes "f"))) (expr 16 (e.Call (expr 16 (e.Name (codes "g"))) []) ∷ [])))) ∷ []) []

-- var u; u.f(g());
abbrev pub base_before_arguments : Script
base_before_arguments = script (stmt 0 (s.Var (declarator 4 (codes "u") None ∷ [])) ∷ stmt 7 (s.Eval (expr 7 (e.Call (expr 7 (e.Member (expr 7 (e.Name (codes "u"))) (codes "f"))) (expr 11 (e.Call (expr 11 (e.Name (codes "g"))) []) ∷ [])))) ∷ []) []

-- var o = {f: function () { return this; }}; var x = o.f() === o, y = (function () { return this; })() === this, z = (0, o.f)() === this;
abbrev pub this_of_call : Script
this_of_call = script (stmt 0 (s.Var (declarator 4 (codes "o") (Some (expr 8 (e.ObjectLit (field.Value (place 9) (codes "f") (expr 12 (e.Func (no 0))) ∷ [])))) ∷ [])) ∷ stmt 43 (s.Var (declarator 47 (codes "x") (Some (expr 51 (e.Binary binary.Same (expr 51 (e.Call (expr 51 (e.Member (expr 51 (e.Name (codes "o"))) (codes "f"))) [])) (expr 61 (e.Name (codes "o")))))) ∷ declarator 64 (codes "y") (Some (expr 69 (e.Binary binary.Same (expr 69 (e.Call (expr 69 (e.Func (no 1))) [])) (expr 105 e.This)))) ∷ declarator 111 (codes "z") (Some (expr 116 (e.Binary binary.Same (expr 116 (e.Call (expr 116 (e.Comma (expr 116 (e.Literal (primitive.Number (pos 0)))) (expr 119 (e.Member (expr 119 (e.Name (codes "o"))) (codes "f"))))) [])) (expr 130 e.This)))) ∷ [])) ∷ []) (func 12 None [] (stmt 26 (s.Return (Some (expr 33 e.This))) ∷ []) ∷ func 69 None [] (stmt 83 (s.Return (Some (expr 90 e.This))) ∷ []) ∷ [])

-- function P(a) { this.a = a; } var p = new P(4); var x = p.a, y = p instanceof P, z = p.constructor === P;
abbrev pub construction : Script
construction = script (stmt 0 (s.FuncDecl (no 0)) ∷ stmt 30 (s.Var (declarator 34 (codes "p") (Some (expr 38 (e.New (expr 42 (e.Name (codes "P"))) (expr 44 (e.Literal (primitive.Number (pos 4))) ∷ [])))) ∷ [])) ∷ stmt 48 (s.Var (declarator 52 (codes "x") (Some (expr 56 (e.Member (expr 56 (e.Name (codes "p"))) (codes "a")))) ∷ declarator 61 (codes "y") (Some (expr 65 (e.Binary binary.InstanceOf (expr 65 (e.Name (codes "p"))) (expr 78 (e.Name (codes "P")))))) ∷ declarator 81 (codes "z") (Some (expr 85 (e.Binary binary.Same (expr 85 (e.Member (expr 85 (e.Name (codes "p"))) (codes "constructor"))) (expr 103 (e.Name (codes "P")))))) ∷ [])) ∷ []) (func 0 (Some (declared 9 (codes "P"))) (declared 11 (codes "a") ∷ []) (stmt 16 (s.Eval (expr 16 (e.Assign (expr 16 (e.Member (expr 16 e.This) (codes "a"))) None (expr 25 (e.Name (codes "a")))))) ∷ []) ∷ [])

-- function Q() { return {a: 1}; } function R() { this.a = 2; return 1; } var x = (new Q).a, y = new R().a;
abbrev pub object_returned : Script
object_returned = script (stmt 0 (s.FuncDecl (no 0)) ∷ stmt 32 (s.FuncDecl (no 1)) ∷ stmt 71 (s.Var (declarator 75 (codes "x") (Some (expr 80 (e.Member (expr 80 (e.New (expr 84 (e.Name (codes "Q"))) [])) (codes "a")))) ∷ declarator 90 (codes "y") (Some (expr 94 (e.Member (expr 94 (e.New (expr 98 (e.Name (codes "R"))) [])) (codes "a")))) ∷ [])) ∷ []) (func 0 (Some (declared 9 (codes "Q"))) [] (stmt 15 (s.Return (Some (expr 22 (e.ObjectLit (field.Value (place 23) (codes "a") (expr 26 (e.Literal (primitive.Number (pos 1)))) ∷ []))))) ∷ []) ∷ func 32 (Some (declared 41 (codes "R"))) [] (stmt 47 (s.Eval (expr 47 (e.Assign (expr 47 (e.Member (expr 47 e.This) (codes "a"))) None (expr 56 (e.Literal (primitive.Number (pos 2))))))) ∷ stmt 59 (s.Return (Some (expr 66 (e.Literal (primitive.Number (pos 1)))))) ∷ []) ∷ [])

-- function F() {} F.prototype = 1; var x = Object.getPrototypeOf(new F) === Object.prototype;
abbrev pub no_object_prototype : Script
no_object_prototype = script (stmt 0 (s.FuncDecl (no 0)) ∷ stmt 16 (s.Eval (expr 16 (e.Assign (expr 16 (e.Member (expr 16 (e.Name (codes "F"))) (codes "prototype"))) None (expr 30 (e.Literal (primitive.Number (pos 1))))))) ∷ stmt 33 (s.Var (declarator 37 (codes "x") (Some (expr 41 (e.Binary binary.Same (expr 41 (e.Call (expr 41 (e.Member (expr 41 (e.Name (codes "Object"))) (codes "getPrototypeOf"))) (expr 63 (e.New (expr 67 (e.Name (codes "F"))) []) ∷ []))) (expr 74 (e.Member (expr 74 (e.Name (codes "Object"))) (codes "prototype")))))) ∷ [])) ∷ []) (func 0 (Some (declared 9 (codes "F"))) [] [] ∷ [])

-- new 5;
abbrev pub new_of_number : Script
new_of_number = script (stmt 0 (s.Eval (expr 0 (e.New (expr 4 (e.Literal (primitive.Number (pos 5)))) []))) ∷ []) []

-- new Object.create(null);
abbrev pub new_of_method : Script
new_of_method = script (stmt 0 (s.Eval (expr 0 (e.New (expr 4 (e.Member (expr 4 (e.Name (codes "Object"))) (codes "create"))) (expr 18 (e.Literal primitive.Null) ∷ [])))) ∷ []) []

-- new Object();
abbrev pub closed_new : Script
closed_new = script (stmt 0 (s.Eval (expr 0 (e.New (expr 4 (e.Name (codes "Object"))) []))) ∷ []) []

-- Array(3);
abbrev pub closed_call : Script
closed_call = script (stmt 0 (s.Eval (expr 0 (e.Call (expr 0 (e.Name (codes "Array"))) (expr 6 (e.Literal (primitive.Number (pos 3))) ∷ [])))) ∷ []) []

-- Function();
abbrev pub closed_function : Script
closed_function = script (stmt 0 (s.Eval (expr 0 (e.Call (expr 0 (e.Name (codes "Function"))) []))) ∷ []) []

-- var o = {a: 1}; var x = delete o.a, y = "a" in o, z = delete o.b, w = delete 5;
abbrev pub deletion : Script
deletion = script (stmt 0 (s.Var (declarator 4 (codes "o") (Some (expr 8 (e.ObjectLit (field.Value (place 9) (codes "a") (expr 12 (e.Literal (primitive.Number (pos 1)))) ∷ [])))) ∷ [])) ∷ stmt 16 (s.Var (declarator 20 (codes "x") (Some (expr 24 (e.Unary unary.Delete (expr 31 (e.Member (expr 31 (e.Name (codes "o"))) (codes "a")))))) ∷ declarator 36 (codes "y") (Some (expr 40 (e.Binary binary.In (expr 40 (e.Literal (primitive.Text (codes "a")))) (expr 47 (e.Name (codes "o")))))) ∷ declarator 50 (codes "z") (Some (expr 54 (e.Unary unary.Delete (expr 61 (e.Member (expr 61 (e.Name (codes "o"))) (codes "b")))))) ∷ declarator 66 (codes "w") (Some (expr 70 (e.Unary unary.Delete (expr 77 (e.Literal (primitive.Number (pos 5))))))) ∷ [])) ∷ []) []

-- var x = delete this.undefined, y = delete this.x;
abbrev pub no_deletion : Script
no_deletion = script (stmt 0 (s.Var (declarator 4 (codes "x") (Some (expr 8 (e.Unary unary.Delete (expr 15 (e.Member (expr 15 e.This) (codes "undefined")))))) ∷ declarator 31 (codes "y") (Some (expr 35 (e.Unary unary.Delete (expr 42 (e.Member (expr 42 e.This) (codes "x")))))) ∷ [])) ∷ []) []

-- var x = delete "abc".length;
abbrev pub deletion_of_unit : Script
deletion_of_unit = script (stmt 0 (s.Var (declarator 4 (codes "x") (Some (expr 8 (e.Unary unary.Delete (expr 15 (e.Member (expr 15 (e.Literal (primitive.Text (codes "abc")))) (codes "length")))))) ∷ [])) ∷ []) []

-- var x = typeof {}, y = typeof function () {}, z = typeof Object.create, w = typeof null;
abbrev pub types : Script
types = script (stmt 0 (s.Var (declarator 4 (codes "x") (Some (expr 8 (e.Unary unary.TypeOf (expr 15 (e.ObjectLit []))))) ∷ declarator 19 (codes "y") (Some (expr 23 (e.Unary unary.TypeOf (expr 30 (e.Func (no 0)))))) ∷ declarator 46 (codes "z") (Some (expr 50 (e.Unary unary.TypeOf (expr 57 (e.Member (expr 57 (e.Name (codes "Object"))) (codes "create")))))) ∷ declarator 72 (codes "w") (Some (expr 76 (e.Unary unary.TypeOf (expr 83 (e.Literal primitive.Null))))) ∷ [])) ∷ []) (func 30 None [] [] ∷ [])

-- var x = +"5", y = -true, z = !{}, w = ~5, v = void 0;
abbrev pub unary_values : Script
unary_values = script (stmt 0 (s.Var (declarator 4 (codes "x") (Some (expr 8 (e.Unary unary.Plus (expr 9 (e.Literal (primitive.Text (codes "5"))))))) ∷ declarator 14 (codes "y") (Some (expr 18 (e.Unary unary.Minus (expr 19 (e.Literal (primitive.Boolean true)))))) ∷ declarator 25 (codes "z") (Some (expr 29 (e.Unary unary.Not (expr 30 (e.ObjectLit []))))) ∷ declarator 34 (codes "w") (Some (expr 38 (e.Unary unary.BitNot (expr 39 (e.Literal (primitive.Number (pos 5))))))) ∷ declarator 42 (codes "v") (Some (expr 46 (e.Unary unary.Void (expr 51 (e.Literal (primitive.Number (pos 0))))))) ∷ [])) ∷ []) []

-- +{};
abbrev pub number_of_object : Script
number_of_object = script (stmt 0 (s.Eval (expr 0 (e.Unary unary.Plus (expr 1 (e.ObjectLit []))))) ∷ []) []

-- ({}) + f; function f() {}
abbrev pub object_sum : Script
object_sum = script (stmt 1 (s.Eval (expr 1 (e.Binary binary.Add (expr 1 (e.ObjectLit [])) (expr 7 (e.Name (codes "f")))))) ∷ stmt 10 (s.FuncDecl (no 0)) ∷ []) (func 10 (Some (declared 19 (codes "f"))) [] [] ∷ [])

-- var u; u - {};
abbrev pub undefined_less_object : Script
undefined_less_object = script (stmt 0 (s.Var (declarator 4 (codes "u") None ∷ [])) ∷ stmt 7 (s.Eval (expr 7 (e.Binary binary.Sub (expr 7 (e.Name (codes "u"))) (expr 11 (e.ObjectLit []))))) ∷ []) []

-- var u; u + {};
abbrev pub undefined_plus_object : Script
undefined_plus_object = script (stmt 0 (s.Var (declarator 4 (codes "u") None ∷ [])) ∷ stmt 7 (s.Eval (expr 7 (e.Binary binary.Add (expr 7 (e.Name (codes "u"))) (expr 11 (e.ObjectLit []))))) ∷ []) []

-- var o = {}; var x = o == o, y = o != o, z = {} == {}, w = o == null, v = o === 1, u = undefined != o;
abbrev pub object_equality : Script
object_equality = script (stmt 0 (s.Var (declarator 4 (codes "o") (Some (expr 8 (e.ObjectLit []))) ∷ [])) ∷ stmt 12 (s.Var (declarator 16 (codes "x") (Some (expr 20 (e.Binary binary.Equal (expr 20 (e.Name (codes "o"))) (expr 25 (e.Name (codes "o")))))) ∷ declarator 28 (codes "y") (Some (expr 32 (e.Binary binary.NotEqual (expr 32 (e.Name (codes "o"))) (expr 37 (e.Name (codes "o")))))) ∷ declarator 40 (codes "z") (Some (expr 44 (e.Binary binary.Equal (expr 44 (e.ObjectLit [])) (expr 50 (e.ObjectLit []))))) ∷ declarator 54 (codes "w") (Some (expr 58 (e.Binary binary.Equal (expr 58 (e.Name (codes "o"))) (expr 63 (e.Literal primitive.Null))))) ∷ declarator 69 (codes "v") (Some (expr 73 (e.Binary binary.Same (expr 73 (e.Name (codes "o"))) (expr 79 (e.Literal (primitive.Number (pos 1))))))) ∷ declarator 82 (codes "u") (Some (expr 86 (e.Binary binary.NotEqual (expr 86 (e.Name (codes "undefined"))) (expr 99 (e.Name (codes "o")))))) ∷ [])) ∷ []) []

-- ({}) == 1;
abbrev pub object_equals_number : Script
object_equals_number = script (stmt 1 (s.Eval (expr 1 (e.Binary binary.Equal (expr 1 (e.ObjectLit [])) (expr 8 (e.Literal (primitive.Number (pos 1))))))) ∷ []) []

-- true == {};
abbrev pub true_equals_object : Script
true_equals_object = script (stmt 0 (s.Eval (expr 0 (e.Binary binary.Equal (expr 0 (e.Literal (primitive.Boolean true))) (expr 8 (e.ObjectLit []))))) ∷ []) []

-- var x = "a" in {a: 1}, y = "toString" in {}, z = 0 in [];
abbrev pub membership : Script
membership = script (stmt 0 (s.Var (declarator 4 (codes "x") (Some (expr 8 (e.Binary binary.In (expr 8 (e.Literal (primitive.Text (codes "a")))) (expr 15 (e.ObjectLit (field.Value (place 16) (codes "a") (expr 19 (e.Literal (primitive.Number (pos 1)))) ∷ [])))))) ∷ declarator 23 (codes "y") (Some (expr 27 (e.Binary binary.In (expr 27 (e.Literal (primitive.Text (codes "toString")))) (expr 41 (e.ObjectLit []))))) ∷ declarator 45 (codes "z") (Some (expr 49 (e.Binary binary.In (expr 49 (e.Literal (primitive.Number (pos 0)))) (expr 54 (e.ArrayLit []))))) ∷ [])) ∷ []) []

-- "a" in 1;
abbrev pub membership_of_number : Script
membership_of_number = script (stmt 0 (s.Eval (expr 0 (e.Binary binary.In (expr 0 (e.Literal (primitive.Text (codes "a")))) (expr 7 (e.Literal (primitive.Number (pos 1))))))) ∷ []) []

-- ({}) in {};
abbrev pub object_as_key : Script
object_as_key = script (stmt 1 (s.Eval (expr 1 (e.Binary binary.In (expr 1 (e.ObjectLit [])) (expr 8 (e.ObjectLit []))))) ∷ []) []

-- var x = 1 instanceof Object, y = {} instanceof Object, z = [] instanceof Array, w = {} instanceof Array, v = 1 instanceof Object.create;
abbrev pub instances : Script
instances = script (stmt 0 (s.Var (declarator 4 (codes "x") (Some (expr 8 (e.Binary binary.InstanceOf (expr 8 (e.Literal (primitive.Number (pos 1)))) (expr 21 (e.Name (codes "Object")))))) ∷ declarator 29 (codes "y") (Some (expr 33 (e.Binary binary.InstanceOf (expr 33 (e.ObjectLit [])) (expr 47 (e.Name (codes "Object")))))) ∷ declarator 55 (codes "z") (Some (expr 59 (e.Binary binary.InstanceOf (expr 59 (e.ArrayLit [])) (expr 73 (e.Name (codes "Array")))))) ∷ declarator 80 (codes "w") (Some (expr 84 (e.Binary binary.InstanceOf (expr 84 (e.ObjectLit [])) (expr 98 (e.Name (codes "Array")))))) ∷ declarator 105 (codes "v") (Some (expr 109 (e.Binary binary.InstanceOf (expr 109 (e.Literal (primitive.Number (pos 1)))) (expr 122 (e.Member (expr 122 (e.Name (codes "Object"))) (codes "create")))))) ∷ [])) ∷ []) []

-- 1 instanceof 1;
abbrev pub instance_of_number : Script
instance_of_number = script (stmt 0 (s.Eval (expr 0 (e.Binary binary.InstanceOf (expr 0 (e.Literal (primitive.Number (pos 1)))) (expr 13 (e.Literal (primitive.Number (pos 1))))))) ∷ []) []

-- ({}) instanceof {};
abbrev pub instance_of_plain : Script
instance_of_plain = script (stmt 1 (s.Eval (expr 1 (e.Binary binary.InstanceOf (expr 1 (e.ObjectLit [])) (expr 16 (e.ObjectLit []))))) ∷ []) []

-- ({}) instanceof Object.create;
abbrev pub instance_without_prototype : Script
instance_without_prototype = script (stmt 1 (s.Eval (expr 1 (e.Binary binary.InstanceOf (expr 1 (e.ObjectLit [])) (expr 16 (e.Member (expr 16 (e.Name (codes "Object"))) (codes "create")))))) ∷ []) []

-- var x = 0 && f(), y = 1 || f(), z = 2 && 3, w = "" || null;
abbrev pub logic_values : Script
logic_values = script (stmt 0 (s.Var (declarator 4 (codes "x") (Some (expr 8 (e.Logic logic.And (expr 8 (e.Literal (primitive.Number (pos 0)))) (expr 13 (e.Call (expr 13 (e.Name (codes "f"))) []))))) ∷ declarator 18 (codes "y") (Some (expr 22 (e.Logic logic.Or (expr 22 (e.Literal (primitive.Number (pos 1)))) (expr 27 (e.Call (expr 27 (e.Name (codes "f"))) []))))) ∷ declarator 32 (codes "z") (Some (expr 36 (e.Logic logic.And (expr 36 (e.Literal (primitive.Number (pos 2)))) (expr 41 (e.Literal (primitive.Number (pos 3))))))) ∷ declarator 44 (codes "w") (Some (expr 48 (e.Logic logic.Or (expr 48 (e.Literal (primitive.Text []))) (expr 54 (e.Literal primitive.Null))))) ∷ [])) ∷ []) []

-- var x = "" ? f() : 2, y = {} ? 1 : f();
abbrev pub conditionals : Script
conditionals = script (stmt 0 (s.Var (declarator 4 (codes "x") (Some (expr 8 (e.Conditional (expr 8 (e.Literal (primitive.Text []))) (expr 13 (e.Call (expr 13 (e.Name (codes "f"))) [])) (expr 19 (e.Literal (primitive.Number (pos 2))))))) ∷ declarator 22 (codes "y") (Some (expr 26 (e.Conditional (expr 26 (e.ObjectLit [])) (expr 31 (e.Literal (primitive.Number (pos 1)))) (expr 35 (e.Call (expr 35 (e.Name (codes "f"))) []))))) ∷ [])) ∷ []) []

-- var u; u.a = f();
abbrev pub target_first : Script
target_first = script (stmt 0 (s.Var (declarator 4 (codes "u") None ∷ [])) ∷ stmt 7 (s.Eval (expr 7 (e.Assign (expr 7 (e.Member (expr 7 (e.Name (codes "u"))) (codes "a"))) None (expr 13 (e.Call (expr 13 (e.Name (codes "f"))) []))))) ∷ []) []

-- var x = 5; x += "a"; var y = 8; y >>>= 1; y *= 3; var o = {a: 1}; o.a -= 3; var z = o.a;
abbrev pub compound : Script
compound = script (stmt 0 (s.Var (declarator 4 (codes "x") (Some (expr 8 (e.Literal (primitive.Number (pos 5))))) ∷ [])) ∷ stmt 11 (s.Eval (expr 11 (e.Assign (expr 11 (e.Name (codes "x"))) (Some binary.Add) (expr 16 (e.Literal (primitive.Text (codes "a"))))))) ∷ stmt 21 (s.Var (declarator 25 (codes "y") (Some (expr 29 (e.Literal (primitive.Number (pos 8))))) ∷ [])) ∷ stmt 32 (s.Eval (expr 32 (e.Assign (expr 32 (e.Name (codes "y"))) (Some binary.Shr) (expr 39 (e.Literal (primitive.Number (pos 1))))))) ∷ stmt 42 (s.Eval (expr 42 (e.Assign (expr 42 (e.Name (codes "y"))) (Some binary.Mul) (expr 47 (e.Literal (primitive.Number (pos 3))))))) ∷ stmt 50 (s.Var (declarator 54 (codes "o") (Some (expr 58 (e.ObjectLit (field.Value (place 59) (codes "a") (expr 62 (e.Literal (primitive.Number (pos 1)))) ∷ [])))) ∷ [])) ∷ stmt 66 (s.Eval (expr 66 (e.Assign (expr 66 (e.Member (expr 66 (e.Name (codes "o"))) (codes "a"))) (Some binary.Sub) (expr 73 (e.Literal (primitive.Number (pos 3))))))) ∷ stmt 76 (s.Var (declarator 80 (codes "z") (Some (expr 84 (e.Member (expr 84 (e.Name (codes "o"))) (codes "a")))) ∷ [])) ∷ []) []

-- var x, y; x = y = 3;
abbrev pub assignment_chain : Script
assignment_chain = script (stmt 0 (s.Var (declarator 4 (codes "x") None ∷ declarator 7 (codes "y") None ∷ [])) ∷ stmt 10 (s.Eval (expr 10 (e.Assign (expr 10 (e.Name (codes "x"))) None (expr 14 (e.Assign (expr 14 (e.Name (codes "y"))) None (expr 18 (e.Literal (primitive.Number (pos 3))))))))) ∷ []) []

-- undefined = 1; var x = undefined;
abbrev pub not_writable : Script
not_writable = script (stmt 0 (s.Eval (expr 0 (e.Assign (expr 0 (e.Name (codes "undefined"))) None (expr 12 (e.Literal (primitive.Number (pos 1))))))) ∷ stmt 15 (s.Var (declarator 19 (codes "x") (Some (expr 23 (e.Name (codes "undefined")))) ∷ [])) ∷ []) []

-- var i = 5; var x = i++, y = ++i, z = i--, w = --i;
abbrev pub steps : Script
steps = script (stmt 0 (s.Var (declarator 4 (codes "i") (Some (expr 8 (e.Literal (primitive.Number (pos 5))))) ∷ [])) ∷ stmt 11 (s.Var (declarator 15 (codes "x") (Some (expr 19 (e.Step stepping.PostUp (expr 19 (e.Name (codes "i")))))) ∷ declarator 24 (codes "y") (Some (expr 28 (e.Step stepping.PreUp (expr 30 (e.Name (codes "i")))))) ∷ declarator 33 (codes "z") (Some (expr 37 (e.Step stepping.PostDown (expr 37 (e.Name (codes "i")))))) ∷ declarator 42 (codes "w") (Some (expr 46 (e.Step stepping.PreDown (expr 48 (e.Name (codes "i")))))) ∷ [])) ∷ []) []

-- var s = "3"; var x = s++; var o = {a: 1}; ++o.a; var y = o.a;
abbrev pub step_of_text : Script
step_of_text = script (stmt 0 (s.Var (declarator 4 (codes "s") (Some (expr 8 (e.Literal (primitive.Text (codes "3"))))) ∷ [])) ∷ stmt 13 (s.Var (declarator 17 (codes "x") (Some (expr 21 (e.Step stepping.PostUp (expr 21 (e.Name (codes "s")))))) ∷ [])) ∷ stmt 26 (s.Var (declarator 30 (codes "o") (Some (expr 34 (e.ObjectLit (field.Value (place 35) (codes "a") (expr 38 (e.Literal (primitive.Number (pos 1)))) ∷ [])))) ∷ [])) ∷ stmt 42 (s.Eval (expr 42 (e.Step stepping.PreUp (expr 44 (e.Member (expr 44 (e.Name (codes "o"))) (codes "a")))))) ∷ stmt 49 (s.Var (declarator 53 (codes "y") (Some (expr 57 (e.Member (expr 57 (e.Name (codes "o"))) (codes "a")))) ∷ [])) ∷ []) []

-- var u; ++u;
abbrev pub step_of_undefined : Script
step_of_undefined = script (stmt 0 (s.Var (declarator 4 (codes "u") None ∷ [])) ∷ stmt 7 (s.Eval (expr 7 (e.Step stepping.PreUp (expr 9 (e.Name (codes "u")))))) ∷ []) []

-- var x = (1, 2);
abbrev pub comma : Script
comma = script (stmt 0 (s.Var (declarator 4 (codes "x") (Some (expr 9 (e.Comma (expr 9 (e.Literal (primitive.Number (pos 1)))) (expr 12 (e.Literal (primitive.Number (pos 2))))))) ∷ [])) ∷ []) []

pub record ExpressionRuns : Type 0 where
  pub sum_run : (d : ℕ) → seen bare (codes "x" ∷ []) (deep d) no_world sum 4 ≡ Values (Some (number 3) ∷ [])
  pub sum_without_steps_run : (d : ℕ) → seen bare [] (deep d) no_world sum_without_steps 3 ≡ StepsSpent
  pub unsafe_sum_run : (d : ℕ) → seen bare [] (deep d) no_world unsafe_sum 200 ≡ LeavesAt Unsafe 8
  pub minus_zero_run : (d : ℕ) → seen bare [] (deep d) no_world minus_zero 200 ≡ LeavesAt MinusZero 8
  pub this_value_run : (d : ℕ) → seen bare (codes "x" ∷ codes "y" ∷ []) (deep d) no_world this_value 200 ≡ Values (Some (text (codes "object")) ∷ Some (truth true) ∷ [])
  pub unbound_run : (d : ℕ) → seen bare [] (deep d) no_world unbound 200 ≡ ThrewError ReferenceError
  pub unbound_type_run : (d : ℕ) → seen bare (codes "x" ∷ []) (deep d) no_world unbound_type 200 ≡ Values (Some (text (codes "undefined")) ∷ [])
  pub made_global_run : (d : ℕ) → seen bare (codes "x" ∷ codes "y" ∷ []) (deep d) no_world made_global 200 ≡ Values (Some (number 1) ∷ Some (number 1) ∷ [])
  pub absent_value_run : (d : ℕ) → seen realm [] (deep d) no_world absent_value 200 ≡ LeavesAt AbsentBuiltin 0
  pub absent_type_run : (d : ℕ) → seen realm [] (deep d) no_world absent_type 200 ≡ LeavesAt AbsentBuiltin 15
  pub array_run : (d : ℕ) → seen bare (codes "x" ∷ codes "y" ∷ codes "z" ∷ codes "w" ∷ []) (deep d) no_world array 200 ≡ Values (Some (number 3) ∷ Some (truth false) ∷ Some (number 3) ∷ Some undefined ∷ [])
  pub elisions_run : (d : ℕ) → seen bare (codes "x" ∷ codes "y" ∷ []) (deep d) no_world elisions 200 ≡ Values (Some (number 2) ∷ Some (number 0) ∷ [])
  pub object_run : (d : ℕ) → seen bare (codes "x" ∷ codes "y" ∷ codes "z" ∷ []) (deep d) no_world object 200 ≡ Values (Some (number 5) ∷ Some (number 2) ∷ Some (number 4) ∷ [])
  pub accessors_run : (d : ℕ) → seen bare (codes "x" ∷ codes "y" ∷ []) (deep d) no_world accessors 200 ≡ Values (Some (number 7) ∷ Some (number 5) ∷ [])
  pub getter_alone_run : (d : ℕ) → seen bare (codes "x" ∷ []) (deep d) no_world getter_alone 200 ≡ Values (Some (number 7) ∷ [])
  pub function_value_run : (d : ℕ) → seen bare (codes "x" ∷ codes "y" ∷ codes "z" ∷ []) (deep d) no_world function_value 200 ≡ Values (Some (number 2) ∷ Some (number 2) ∷ Some undefined ∷ [])
  pub own_name_run : (d : ℕ) → seen bare (codes "x" ∷ codes "y" ∷ []) (deep d) no_world own_name 200 ≡ Values (Some (number 5) ∷ Some (text (codes "undefined")) ∷ [])
  pub undefined_base_run : (d : ℕ) → seen bare [] (deep d) no_world undefined_base 200 ≡ ThrewError TypeError
  pub null_base_run : (d : ℕ) → seen bare [] (deep d) no_world null_base 200 ≡ ThrewError TypeError
  pub base_before_key_run : (d : ℕ) → seen bare [] (deep d) no_world base_before_key 200 ≡ ThrewError TypeError
  pub object_key_run : (d : ℕ) → seen bare [] (deep d) no_world object_key 200 ≡ LeavesAt ObjectToPrimitive 12
  pub proto_key_run : (d : ℕ) → seen bare [] (deep d) no_world proto_key 200 ≡ LeavesAt ProtoKey 12
  pub proto_key_after_value_run : (d : ℕ) → seen bare [] (deep d) no_world proto_key_after_value 200 ≡ ThrewError ReferenceError
  pub string_properties_run : (d : ℕ) → seen bare (codes "x" ∷ codes "y" ∷ []) (deep d) no_world string_properties 200 ≡ Values (Some (number 3) ∷ Some (text (codes "b")) ∷ [])
  pub beyond_string_run : (d : ℕ) → seen bare [] (deep d) no_world beyond_string 200 ≡ LeavesAt PrimitiveProperty 0
  pub other_of_string_run : (d : ℕ) → seen realm [] (deep d) no_world other_of_string 200 ≡ LeavesAt PrimitiveProperty 0
  pub of_number_run : (d : ℕ) → seen bare [] (deep d) no_world of_number 200 ≡ LeavesAt PrimitiveProperty 1
  pub to_boolean_property_run : (d : ℕ) → seen bare [] (deep d) no_world to_boolean_property 200 ≡ LeavesAt PrimitiveProperty 0
  pub call_of_number_run : (d : ℕ) → seen bare [] (deep d) no_world call_of_number 200 ≡ ThrewError TypeError
  pub call_of_nothing_run : (d : ℕ) → seen bare [] (deep d) no_world call_of_nothing 200 ≡ ThrewError TypeError
  pub arguments_before_check_run : (d : ℕ) → seen bare [] (deep d) no_world arguments_before_check 200 ≡ ThrewError ReferenceError
  pub base_before_arguments_run : (d : ℕ) → seen bare [] (deep d) no_world base_before_arguments 200 ≡ ThrewError TypeError
  pub this_of_call_run : (d : ℕ) → seen bare (codes "x" ∷ codes "y" ∷ codes "z" ∷ []) (deep d) no_world this_of_call 200 ≡ Values (Some (truth true) ∷ Some (truth true) ∷ Some (truth true) ∷ [])
  pub construction_run : (d : ℕ) → seen realm (codes "x" ∷ codes "y" ∷ codes "z" ∷ []) (deep d) no_world construction 200 ≡ Values (Some (number 4) ∷ Some (truth true) ∷ Some (truth true) ∷ [])
  pub object_returned_run : (d : ℕ) → seen bare (codes "x" ∷ codes "y" ∷ []) (deep d) no_world object_returned 200 ≡ Values (Some (number 1) ∷ Some (number 2) ∷ [])
  pub no_object_prototype_run : (d : ℕ) → seen realm (codes "x" ∷ []) (deep d) no_world no_object_prototype 200 ≡ Values (Some (truth true) ∷ [])
  pub new_of_number_run : (d : ℕ) → seen bare [] (deep d) no_world new_of_number 200 ≡ ThrewError TypeError
  pub new_of_method_run : (d : ℕ) → seen realm [] (deep d) no_world new_of_method 200 ≡ ThrewError TypeError
  pub closed_new_run : (d : ℕ) → seen realm [] (deep d) no_world closed_new 200 ≡ LeavesAt ClosedBuiltin 0
  pub closed_call_run : (d : ℕ) → seen realm [] (deep d) no_world closed_call 200 ≡ LeavesAt ClosedBuiltin 0
  pub closed_function_run : (d : ℕ) → seen realm [] (deep d) no_world closed_function 200 ≡ LeavesAt ClosedBuiltin 0
  pub deletion_run : (d : ℕ) → seen bare (codes "x" ∷ codes "y" ∷ codes "z" ∷ codes "w" ∷ []) (deep d) no_world deletion 200 ≡ Values (Some (truth true) ∷ Some (truth false) ∷ Some (truth true) ∷ Some (truth true) ∷ [])
  pub no_deletion_run : (d : ℕ) → seen realm (codes "x" ∷ codes "y" ∷ []) (deep d) no_world no_deletion 200 ≡ Values (Some (truth false) ∷ Some (truth false) ∷ [])
  pub deletion_of_unit_run : (d : ℕ) → seen bare [] (deep d) no_world deletion_of_unit 200 ≡ LeavesAt PrimitiveProperty 8
  pub types_run : (d : ℕ) → seen realm (codes "x" ∷ codes "y" ∷ codes "z" ∷ codes "w" ∷ []) (deep d) no_world types 200 ≡ Values (Some (text (codes "object")) ∷ Some (text (codes "function")) ∷ Some (text (codes "function")) ∷ Some (text (codes "object")) ∷ [])
  pub unary_values_run : (d : ℕ) → seen bare (codes "x" ∷ codes "y" ∷ codes "z" ∷ codes "w" ∷ codes "v" ∷ []) (deep d) no_world unary_values 200 ≡ Values (Some (number 5) ∷ Some (minus 1) ∷ Some (truth false) ∷ Some (minus 6) ∷ Some undefined ∷ [])
  pub number_of_object_run : (d : ℕ) → seen bare [] (deep d) no_world number_of_object 200 ≡ LeavesAt ObjectToPrimitive 0
  pub object_sum_run : (d : ℕ) → seen bare [] (deep d) no_world object_sum 200 ≡ LeavesAt ObjectToPrimitive 1
  pub undefined_less_object_run : (d : ℕ) → seen bare [] (deep d) no_world undefined_less_object 200 ≡ LeavesAt NotANumber 7
  pub undefined_plus_object_run : (d : ℕ) → seen bare [] (deep d) no_world undefined_plus_object 200 ≡ LeavesAt ObjectToPrimitive 7
  pub object_equality_run : (d : ℕ) → seen realm (codes "x" ∷ codes "y" ∷ codes "z" ∷ codes "w" ∷ codes "v" ∷ codes "u" ∷ []) (deep d) no_world object_equality 200 ≡ Values (Some (truth true) ∷ Some (truth false) ∷ Some (truth false) ∷ Some (truth false) ∷ Some (truth false) ∷ Some (truth true) ∷ [])
  pub object_equals_number_run : (d : ℕ) → seen bare [] (deep d) no_world object_equals_number 200 ≡ LeavesAt ObjectToPrimitive 1
  pub true_equals_object_run : (d : ℕ) → seen bare [] (deep d) no_world true_equals_object 200 ≡ LeavesAt ObjectToPrimitive 0
  pub membership_run : (d : ℕ) → seen realm (codes "x" ∷ codes "y" ∷ codes "z" ∷ []) (deep d) no_world membership 200 ≡ Values (Some (truth true) ∷ Some (truth true) ∷ Some (truth false) ∷ [])
  pub membership_of_number_run : (d : ℕ) → seen bare [] (deep d) no_world membership_of_number 200 ≡ ThrewError TypeError
  pub object_as_key_run : (d : ℕ) → seen bare [] (deep d) no_world object_as_key 200 ≡ LeavesAt ObjectToPrimitive 1
  pub instances_run : (d : ℕ) → seen realm (codes "x" ∷ codes "y" ∷ codes "z" ∷ codes "w" ∷ codes "v" ∷ []) (deep d) no_world instances 200 ≡ Values (Some (truth false) ∷ Some (truth true) ∷ Some (truth true) ∷ Some (truth false) ∷ Some (truth false) ∷ [])
  pub instance_of_number_run : (d : ℕ) → seen realm [] (deep d) no_world instance_of_number 200 ≡ ThrewError TypeError
  pub instance_of_plain_run : (d : ℕ) → seen realm [] (deep d) no_world instance_of_plain 200 ≡ ThrewError TypeError
  pub instance_without_prototype_run : (d : ℕ) → seen realm [] (deep d) no_world instance_without_prototype 200 ≡ ThrewError TypeError
  pub logic_values_run : (d : ℕ) → seen bare (codes "x" ∷ codes "y" ∷ codes "z" ∷ codes "w" ∷ []) (deep d) no_world logic_values 200 ≡ Values (Some (number 0) ∷ Some (number 1) ∷ Some (number 3) ∷ Some null ∷ [])
  pub conditionals_run : (d : ℕ) → seen bare (codes "x" ∷ codes "y" ∷ []) (deep d) no_world conditionals 200 ≡ Values (Some (number 2) ∷ Some (number 1) ∷ [])
  pub target_first_run : (d : ℕ) → seen bare [] (deep d) no_world target_first 200 ≡ ThrewError TypeError
  pub compound_run : (d : ℕ) → seen bare (codes "x" ∷ codes "y" ∷ codes "z" ∷ []) (deep d) no_world compound 200 ≡ Values (Some (text (codes "5a")) ∷ Some (number 12) ∷ Some (minus 2) ∷ [])
  pub assignment_chain_run : (d : ℕ) → seen bare (codes "x" ∷ codes "y" ∷ []) (deep d) no_world assignment_chain 200 ≡ Values (Some (number 3) ∷ Some (number 3) ∷ [])
  pub not_writable_run : (d : ℕ) → seen realm (codes "x" ∷ []) (deep d) no_world not_writable 200 ≡ Values (Some undefined ∷ [])
  pub steps_run : (d : ℕ) → seen bare (codes "x" ∷ codes "y" ∷ codes "z" ∷ codes "w" ∷ codes "i" ∷ []) (deep d) no_world steps 200 ≡ Values (Some (number 5) ∷ Some (number 7) ∷ Some (number 7) ∷ Some (number 5) ∷ Some (number 5) ∷ [])
  pub step_of_text_run : (d : ℕ) → seen bare (codes "x" ∷ codes "s" ∷ codes "y" ∷ []) (deep d) no_world step_of_text 200 ≡ Values (Some (number 3) ∷ Some (number 4) ∷ Some (number 2) ∷ [])
  pub step_of_undefined_run : (d : ℕ) → seen bare [] (deep d) no_world step_of_undefined 200 ≡ LeavesAt NotANumber 7
  pub comma_run : (d : ℕ) → seen bare (codes "x" ∷ []) (deep d) no_world comma 200 ≡ Values (Some (number 2) ∷ [])
