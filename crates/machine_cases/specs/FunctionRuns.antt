-- Runs of functions and of declarations (10, 13), worked out by hand.
use Rattle.std.specs.Prelude.{◌≡◌, ℕ, pos, true, false, [], ◌∷◌, codes, Some, None}
use Rattle.js_value.specs.declared.operator.BinaryOp.TheVariants as binary
use Rattle.js_value.specs.declared.operator.UnaryOp.TheVariants as unary
use Rattle.js_value.specs.declared.primitive.Primitive.TheVariants as primitive
use Rattle.js_value.specs.declared.why.Why.TheVariants.{PrimitiveThis}
use Rattle.js_tree.specs.declared.expression.ExprForm.TheVariants as e
use Rattle.js_tree.specs.declared.expression.Field.TheVariants as field
use Rattle.js_tree.specs.declared.statement.Script.{Script}
use Rattle.js_tree.specs.declared.statement.StmtForm.TheVariants as s
use Rattle.js_tree.specs.Refusals.{place}
use Rattle.js_tree.specs.Trees.{expr, stmt, no, declared, declarator, func, handler, script}
use Rattle.plain_heap.specs.Values.{undefined, truth, number, text}
use Rattle.js_machine.specs.Machine.RealmObjects.{TypeError}
use Rattle.machine_cases.specs.RunCases.{Values, ThrewError, LeavesAt, no_world, deep, bare, seen}
use Rattle.js_machine.specs.Machine.Realm.{realm}

-- function make() { var n = 0; return function () { n = n + 1; return n; }; } var c = make(); c(); var x = c();
abbrev pub counter : Script
counter = script (stmt 0 (s.FuncDecl (no 0)) ∷ stmt 76 (s.Var (declarator 80 (codes "c") (Some (expr 84 (e.Call (expr 84 (e.Name (codes "make"))) []))) ∷ [])) ∷ stmt 92 (s.Eval (expr 92 (e.Call (expr 92 (e.Name (codes "c"))) []))) ∷ stmt 97 (s.Var (declarator 101 (codes "x") (Some (expr 105 (e.Call (expr 105 (e.Name (codes "c"))) []))) ∷ [])) ∷ []) (func 0 (Some (declared 9 (codes "make"))) [] (stmt 18 (s.Var (declarator 22 (codes "n") (Some (expr 26 (e.Literal (primitive.Number (pos 0))))) ∷ [])) ∷ stmt 29 (s.Return (Some (expr 36 (e.Func (no 1))))) ∷ []) ∷ func 36 None [] (stmt 50 (s.Eval (expr 50 (e.Assign (expr 50 (e.Name (codes "n"))) None (expr 54 (e.Binary binary.Add (expr 54 (e.Name (codes "n"))) (expr 58 (e.Literal (primitive.Number (pos 1))))))))) ∷ stmt 61 (s.Return (Some (expr 68 (e.Name (codes "n"))))) ∷ []) ∷ [])

-- function make() { var n = 0; return {inc: function () { n = 1; }, get: function () { return n; }}; } var c = make(); c.inc(); var x = c.get();
abbrev pub shared_variable : Script
shared_variable = script (stmt 0 (s.FuncDecl (no 0)) ∷ stmt 101 (s.Var (declarator 105 (codes "c") (Some (expr 109 (e.Call (expr 109 (e.Name (codes "make"))) []))) ∷ [])) ∷ stmt 117 (s.Eval (expr 117 (e.Call (expr 117 (e.Member (expr 117 (e.Name (codes "c"))) (codes "inc"))) []))) ∷ stmt 126 (s.Var (declarator 130 (codes "x") (Some (expr 134 (e.Call (expr 134 (e.Member (expr 134 (e.Name (codes "c"))) (codes "get"))) []))) ∷ [])) ∷ []) (func 0 (Some (declared 9 (codes "make"))) [] (stmt 18 (s.Var (declarator 22 (codes "n") (Some (expr 26 (e.Literal (primitive.Number (pos 0))))) ∷ [])) ∷ stmt 29 (s.Return (Some (expr 36 (e.ObjectLit (field.Value (place 37) (codes "inc") (expr 42 (e.Func (no 1))) ∷ field.Value (place 66) (codes "get") (expr 71 (e.Func (no 2))) ∷ []))))) ∷ []) ∷ func 42 None [] (stmt 56 (s.Eval (expr 56 (e.Assign (expr 56 (e.Name (codes "n"))) None (expr 60 (e.Literal (primitive.Number (pos 1))))))) ∷ []) ∷ func 71 None [] (stmt 85 (s.Return (Some (expr 92 (e.Name (codes "n"))))) ∷ []) ∷ [])

-- function make(n) { return function () { return n; }; } var a = make(1); make(2); var x = a();
abbrev pub own_cells : Script
own_cells = script (stmt 0 (s.FuncDecl (no 0)) ∷ stmt 55 (s.Var (declarator 59 (codes "a") (Some (expr 63 (e.Call (expr 63 (e.Name (codes "make"))) (expr 68 (e.Literal (primitive.Number (pos 1))) ∷ [])))) ∷ [])) ∷ stmt 72 (s.Eval (expr 72 (e.Call (expr 72 (e.Name (codes "make"))) (expr 77 (e.Literal (primitive.Number (pos 2))) ∷ [])))) ∷ stmt 81 (s.Var (declarator 85 (codes "x") (Some (expr 89 (e.Call (expr 89 (e.Name (codes "a"))) []))) ∷ [])) ∷ []) (func 0 (Some (declared 9 (codes "make"))) (declared 14 (codes "n") ∷ []) (stmt 19 (s.Return (Some (expr 26 (e.Func (no 1))))) ∷ []) ∷ func 26 None [] (stmt 40 (s.Return (Some (expr 47 (e.Name (codes "n"))))) ∷ []) ∷ [])

-- function f(a, a) { return a; } var x = f(1, 2), y = f(1);
abbrev pub doubled_parameters : Script
doubled_parameters = script (stmt 0 (s.FuncDecl (no 0)) ∷ stmt 31 (s.Var (declarator 35 (codes "x") (Some (expr 39 (e.Call (expr 39 (e.Name (codes "f"))) (expr 41 (e.Literal (primitive.Number (pos 1))) ∷ expr 44 (e.Literal (primitive.Number (pos 2))) ∷ [])))) ∷ declarator 48 (codes "y") (Some (expr 52 (e.Call (expr 52 (e.Name (codes "f"))) (expr 54 (e.Literal (primitive.Number (pos 1))) ∷ [])))) ∷ [])) ∷ []) (func 0 (Some (declared 9 (codes "f"))) (declared 11 (codes "a") ∷ declared 14 (codes "a") ∷ []) (stmt 19 (s.Return (Some (expr 26 (e.Name (codes "a"))))) ∷ []) ∷ [])

-- function f(a) { return typeof a; function a() { } } var x = f(1);
abbrev pub parameter_and_function : Script
parameter_and_function = script (stmt 0 (s.FuncDecl (no 0)) ∷ stmt 52 (s.Var (declarator 56 (codes "x") (Some (expr 60 (e.Call (expr 60 (e.Name (codes "f"))) (expr 62 (e.Literal (primitive.Number (pos 1))) ∷ [])))) ∷ [])) ∷ []) (func 0 (Some (declared 9 (codes "f"))) (declared 11 (codes "a") ∷ []) (stmt 16 (s.Return (Some (expr 23 (e.Unary unary.TypeOf (expr 30 (e.Name (codes "a"))))))) ∷ stmt 33 (s.FuncDecl (no 1)) ∷ []) ∷ func 33 (Some (declared 42 (codes "a"))) [] [] ∷ [])

-- function f(a) { var a; return a; } var x = f(3);
abbrev pub parameter_and_var : Script
parameter_and_var = script (stmt 0 (s.FuncDecl (no 0)) ∷ stmt 35 (s.Var (declarator 39 (codes "x") (Some (expr 43 (e.Call (expr 43 (e.Name (codes "f"))) (expr 45 (e.Literal (primitive.Number (pos 3))) ∷ [])))) ∷ [])) ∷ []) (func 0 (Some (declared 9 (codes "f"))) (declared 11 (codes "a") ∷ []) (stmt 16 (s.Var (declarator 20 (codes "a") None ∷ [])) ∷ stmt 23 (s.Return (Some (expr 30 (e.Name (codes "a"))))) ∷ []) ∷ [])

-- var x = 1; function f() { x = 2; var x; } f();
abbrev pub inner_var : Script
inner_var = script (stmt 0 (s.Var (declarator 4 (codes "x") (Some (expr 8 (e.Literal (primitive.Number (pos 1))))) ∷ [])) ∷ stmt 11 (s.FuncDecl (no 0)) ∷ stmt 42 (s.Eval (expr 42 (e.Call (expr 42 (e.Name (codes "f"))) []))) ∷ []) (func 11 (Some (declared 20 (codes "f"))) [] (stmt 26 (s.Eval (expr 26 (e.Assign (expr 26 (e.Name (codes "x"))) None (expr 30 (e.Literal (primitive.Number (pos 2))))))) ∷ stmt 33 (s.Var (declarator 37 (codes "x") None ∷ [])) ∷ []) ∷ [])

-- function f() { return this; } var x = f.call(null) === this, y = f.call(undefined) === this;
abbrev pub this_of_null : Script
this_of_null = script (stmt 0 (s.FuncDecl (no 0)) ∷ stmt 30 (s.Var (declarator 34 (codes "x") (Some (expr 38 (e.Binary binary.Same (expr 38 (e.Call (expr 38 (e.Member (expr 38 (e.Name (codes "f"))) (codes "call"))) (expr 45 (e.Literal primitive.Null) ∷ []))) (expr 55 e.This)))) ∷ declarator 61 (codes "y") (Some (expr 65 (e.Binary binary.Same (expr 65 (e.Call (expr 65 (e.Member (expr 65 (e.Name (codes "f"))) (codes "call"))) (expr 72 (e.Name (codes "undefined")) ∷ []))) (expr 87 e.This)))) ∷ [])) ∷ []) (func 0 (Some (declared 9 (codes "f"))) [] (stmt 15 (s.Return (Some (expr 22 e.This))) ∷ []) ∷ [])

-- function f() { } f.call(5);
abbrev pub this_of_number : Script
this_of_number = script (stmt 0 (s.FuncDecl (no 0)) ∷ stmt 17 (s.Eval (expr 17 (e.Call (expr 17 (e.Member (expr 17 (e.Name (codes "f"))) (codes "call"))) (expr 24 (e.Literal (primitive.Number (pos 5))) ∷ [])))) ∷ []) (func 0 (Some (declared 9 (codes "f"))) [] [] ∷ [])

-- function f() { } var x = f.name, y = f.length, z = f.prototype.constructor === f;
abbrev pub no_name : Script
no_name = script (stmt 0 (s.FuncDecl (no 0)) ∷ stmt 17 (s.Var (declarator 21 (codes "x") (Some (expr 25 (e.Member (expr 25 (e.Name (codes "f"))) (codes "name")))) ∷ declarator 33 (codes "y") (Some (expr 37 (e.Member (expr 37 (e.Name (codes "f"))) (codes "length")))) ∷ declarator 47 (codes "z") (Some (expr 51 (e.Binary binary.Same (expr 51 (e.Member (expr 51 (e.Member (expr 51 (e.Name (codes "f"))) (codes "prototype"))) (codes "constructor"))) (expr 79 (e.Name (codes "f")))))) ∷ [])) ∷ []) (func 0 (Some (declared 9 (codes "f"))) [] [] ∷ [])

-- var f = 1; function f() { }
abbrev pub function_over_var : Script
function_over_var = script (stmt 0 (s.Var (declarator 4 (codes "f") (Some (expr 8 (e.Literal (primitive.Number (pos 1))))) ∷ [])) ∷ stmt 11 (s.FuncDecl (no 0)) ∷ []) (func 11 (Some (declared 20 (codes "f"))) [] [] ∷ [])

-- function undefined() { }
abbrev pub fixed_name : Script
fixed_name = script (stmt 0 (s.FuncDecl (no 0)) ∷ []) (func 0 (Some (declared 9 (codes "undefined"))) [] [] ∷ [])

-- var NaN = 5; var x = 1;
abbrev pub absent_and_fixed : Script
absent_and_fixed = script (stmt 0 (s.Var (declarator 4 (codes "NaN") (Some (expr 10 (e.Literal (primitive.Number (pos 5))))) ∷ [])) ∷ stmt 13 (s.Var (declarator 17 (codes "x") (Some (expr 21 (e.Literal (primitive.Number (pos 1))))) ∷ [])) ∷ []) []

-- var d = Object.getOwnPropertyDescriptor(this, "Object"); function Object() { } var x = d;
abbrev pub function_anew : Script
function_anew = script (stmt 0 (s.Var (declarator 4 (codes "d") (Some (expr 8 (e.Call (expr 8 (e.Member (expr 8 (e.Name (codes "Object"))) (codes "getOwnPropertyDescriptor"))) (expr 40 e.This ∷ expr 46 (e.Literal (primitive.Text (codes "Object"))) ∷ [])))) ∷ [])) ∷ stmt 57 (s.FuncDecl (no 0)) ∷ stmt 79 (s.Var (declarator 83 (codes "x") (Some (expr 87 (e.Name (codes "d")))) ∷ [])) ∷ []) (func 57 (Some (declared 66 (codes "Object"))) [] [] ∷ [])

-- var Object = 1; var x = Object;
abbrev pub realm_name_declared : Script
realm_name_declared = script (stmt 0 (s.Var (declarator 4 (codes "Object") (Some (expr 13 (e.Literal (primitive.Number (pos 1))))) ∷ [])) ∷ stmt 16 (s.Var (declarator 20 (codes "x") (Some (expr 24 (e.Name (codes "Object")))) ∷ [])) ∷ []) []

-- var x = typeof Array, y = delete this.Array; function Array() { }
abbrev pub configurable_anew : Script
configurable_anew = script (stmt 0 (s.Var (declarator 4 (codes "x") (Some (expr 8 (e.Unary unary.TypeOf (expr 15 (e.Name (codes "Array")))))) ∷ declarator 22 (codes "y") (Some (expr 26 (e.Unary unary.Delete (expr 33 (e.Member (expr 33 e.This) (codes "Array")))))) ∷ [])) ∷ stmt 45 (s.FuncDecl (no 0)) ∷ []) (func 45 (Some (declared 54 (codes "Array"))) [] [] ∷ [])

-- var x = 1; var y = delete this.x; z = 2; var w = delete this.z;
abbrev pub declared_for_good : Script
declared_for_good = script (stmt 0 (s.Var (declarator 4 (codes "x") (Some (expr 8 (e.Literal (primitive.Number (pos 1))))) ∷ [])) ∷ stmt 11 (s.Var (declarator 15 (codes "y") (Some (expr 19 (e.Unary unary.Delete (expr 26 (e.Member (expr 26 e.This) (codes "x")))))) ∷ [])) ∷ stmt 34 (s.Eval (expr 34 (e.Assign (expr 34 (e.Name (codes "z"))) None (expr 38 (e.Literal (primitive.Number (pos 2))))))) ∷ stmt 41 (s.Var (declarator 45 (codes "w") (Some (expr 49 (e.Unary unary.Delete (expr 56 (e.Member (expr 56 e.This) (codes "z")))))) ∷ [])) ∷ []) []

-- Object.defineProperty(Object.prototype, "v", {set: function () { throw 1; }, configurable: true}); var o = {v: 1}; var x = o.v;
abbrev pub setter_passed_by : Script
setter_passed_by = script (stmt 0 (s.Eval (expr 0 (e.Call (expr 0 (e.Member (expr 0 (e.Name (codes "Object"))) (codes "defineProperty"))) (expr 22 (e.Member (expr 22 (e.Name (codes "Object"))) (codes "prototype")) ∷ expr 40 (e.Literal (primitive.Text (codes "v"))) ∷ expr 45 (e.ObjectLit (field.Value (place 46) (codes "set") (expr 51 (e.Func (no 0))) ∷ field.Value (place 77) (codes "configurable") (expr 91 (e.Literal (primitive.Boolean true))) ∷ [])) ∷ [])))) ∷ stmt 99 (s.Var (declarator 103 (codes "o") (Some (expr 107 (e.ObjectLit (field.Value (place 108) (codes "v") (expr 111 (e.Literal (primitive.Number (pos 1)))) ∷ [])))) ∷ [])) ∷ stmt 115 (s.Var (declarator 119 (codes "x") (Some (expr 123 (e.Member (expr 123 (e.Name (codes "o"))) (codes "v")))) ∷ [])) ∷ []) (func 51 None [] (stmt 65 (s.Throw (expr 71 (e.Literal (primitive.Number (pos 1))))) ∷ []) ∷ [])

-- var o = Object.create({get a() { return this.b; }}); o.b = 4; var x = o.a;
abbrev pub inherited_getter : Script
inherited_getter = script (stmt 0 (s.Var (declarator 4 (codes "o") (Some (expr 8 (e.Call (expr 8 (e.Member (expr 8 (e.Name (codes "Object"))) (codes "create"))) (expr 22 (e.ObjectLit (field.Getter (place 27) (codes "a") (no 0) ∷ [])) ∷ [])))) ∷ [])) ∷ stmt 53 (s.Eval (expr 53 (e.Assign (expr 53 (e.Member (expr 53 (e.Name (codes "o"))) (codes "b"))) None (expr 59 (e.Literal (primitive.Number (pos 4))))))) ∷ stmt 62 (s.Var (declarator 66 (codes "x") (Some (expr 70 (e.Member (expr 70 (e.Name (codes "o"))) (codes "a")))) ∷ [])) ∷ []) (func 23 None [] (stmt 33 (s.Return (Some (expr 40 (e.Member (expr 40 e.This) (codes "b"))))) ∷ []) ∷ [])

-- function f() { throw 7; } var x; try { f(); } catch (e) { x = e; }
abbrev pub thrown_in_function : Script
thrown_in_function = script (stmt 0 (s.FuncDecl (no 0)) ∷ stmt 26 (s.Var (declarator 30 (codes "x") None ∷ [])) ∷ stmt 33 (s.Try (stmt 39 (s.Eval (expr 39 (e.Call (expr 39 (e.Name (codes "f"))) []))) ∷ []) (Some (handler 53 (codes "e") (stmt 58 (s.Eval (expr 58 (e.Assign (expr 58 (e.Name (codes "x"))) None (expr 62 (e.Name (codes "e")))))) ∷ []))) None) ∷ []) (func 0 (Some (declared 9 (codes "f"))) [] (stmt 15 (s.Throw (expr 21 (e.Literal (primitive.Number (pos 7))))) ∷ []) ∷ [])

pub record FunctionRuns : Type 0 where
  pub counter_run : (d : ℕ) → seen bare (codes "x" ∷ []) (deep d) no_world counter 300 ≡ Values (Some (number 2) ∷ [])
  pub shared_variable_run : (d : ℕ) → seen bare (codes "x" ∷ []) (deep d) no_world shared_variable 300 ≡ Values (Some (number 1) ∷ [])
  pub own_cells_run : (d : ℕ) → seen bare (codes "x" ∷ []) (deep d) no_world own_cells 200 ≡ Values (Some (number 1) ∷ [])
  pub doubled_parameters_run : (d : ℕ) → seen bare (codes "x" ∷ codes "y" ∷ []) (deep d) no_world doubled_parameters 200 ≡ Values (Some (number 2) ∷ Some undefined ∷ [])
  pub parameter_and_function_run : (d : ℕ) → seen bare (codes "x" ∷ []) (deep d) no_world parameter_and_function 200 ≡ Values (Some (text (codes "function")) ∷ [])
  pub parameter_and_var_run : (d : ℕ) → seen bare (codes "x" ∷ []) (deep d) no_world parameter_and_var 200 ≡ Values (Some (number 3) ∷ [])
  pub inner_var_run : (d : ℕ) → seen bare (codes "x" ∷ []) (deep d) no_world inner_var 200 ≡ Values (Some (number 1) ∷ [])
  pub this_of_null_run : (d : ℕ) → seen realm (codes "x" ∷ codes "y" ∷ []) (deep d) no_world this_of_null 200 ≡ Values (Some (truth true) ∷ Some (truth true) ∷ [])
  pub this_of_number_run : (d : ℕ) → seen realm [] (deep d) no_world this_of_number 200 ≡ LeavesAt PrimitiveThis 17
  pub no_name_run : (d : ℕ) → seen bare (codes "x" ∷ codes "y" ∷ codes "z" ∷ []) (deep d) no_world no_name 200 ≡ Values (Some undefined ∷ Some (number 0) ∷ Some (truth true) ∷ [])
  pub function_over_var_run : (d : ℕ) → seen bare (codes "f" ∷ []) (deep d) no_world function_over_var 200 ≡ Values (Some (number 1) ∷ [])
  pub fixed_name_run : (d : ℕ) → seen realm [] (deep d) no_world fixed_name 200 ≡ ThrewError TypeError
  pub absent_and_fixed_run : (d : ℕ) → seen realm (codes "x" ∷ []) (deep d) no_world absent_and_fixed 200 ≡ Values (Some (number 1) ∷ [])
  pub function_anew_run : (d : ℕ) → seen realm [] (deep d) no_world function_anew 200 ≡ ThrewError TypeError
  pub realm_name_declared_run : (d : ℕ) → seen realm (codes "x" ∷ []) (deep d) no_world realm_name_declared 200 ≡ Values (Some (number 1) ∷ [])
  pub configurable_anew_run : (d : ℕ) → seen realm (codes "x" ∷ codes "y" ∷ []) (deep d) no_world configurable_anew 200 ≡ Values (Some (text (codes "function")) ∷ Some (truth false) ∷ [])
  pub declared_for_good_run : (d : ℕ) → seen bare (codes "x" ∷ codes "y" ∷ codes "w" ∷ codes "z" ∷ []) (deep d) no_world declared_for_good 200 ≡ Values (Some (number 1) ∷ Some (truth false) ∷ Some (truth true) ∷ None ∷ [])
  pub setter_passed_by_run : (d : ℕ) → seen realm (codes "x" ∷ []) (deep d) no_world setter_passed_by 200 ≡ Values (Some (number 1) ∷ [])
  pub inherited_getter_run : (d : ℕ) → seen realm (codes "x" ∷ []) (deep d) no_world inherited_getter 200 ≡ Values (Some (number 4) ∷ [])
  pub thrown_in_function_run : (d : ℕ) → seen bare (codes "x" ∷ []) (deep d) no_world thrown_in_function 200 ≡ Values (Some (number 7) ∷ [])
