-- Runs of strict code (10.1.1), worked out by hand.
use Rattle.std.specs.Prelude.{◌≡◌, ℕ, pos, true, false, [], ◌∷◌, codes, Some, None}
use Rattle.js_value.specs.declared.operator.BinaryOp.TheVariants as binary
use Rattle.js_value.specs.declared.operator.UnaryOp.TheVariants as unary
use Rattle.js_value.specs.declared.primitive.Kind.TheVariants as kind
use Rattle.js_value.specs.declared.primitive.Primitive.TheVariants as primitive
use Rattle.js_value.specs.declared.why.Why.TheVariants.{PrimitiveThis, AnswerKind}
use Rattle.js_tree.specs.declared.expression.ExprForm.TheVariants as e
use Rattle.js_tree.specs.declared.expression.Field.TheVariants as field
use Rattle.js_tree.specs.declared.statement.Script.{Script}
use Rattle.js_tree.specs.declared.statement.StmtForm.TheVariants as s
use Rattle.js_tree.specs.Refusals.{place}
use Rattle.js_tree.specs.Trees.{expr, stmt, no, declared, declarator, func, handler, final, script}
use Rattle.plain_heap.specs.Values.{number, text, truth, undefined}
use Rattle.js_machine.specs.Machine.RealmObjects.{TypeError, ReferenceError}
use Rattle.js_machine.specs.Machine.Realm.{realm}
use Rattle.machine_cases.specs.RunCases.{Values, Threw, ThrewError, LeavesAt, no_world, answering, given, thrown_answer, deep, bare, seen}

-- "use strict"; function f() { return typeof this; } var t = f();
abbrev pub this_of_call : Script
this_of_call = record (script (stmt 14 (s.FuncDecl (no 0)) ∷ stmt 51 (s.Var (declarator 55 (codes "t") (Some (expr 59 (e.Call (expr 59 (e.Name (codes "f"))) []))) ∷ [])) ∷ []) (func 14 (Some (declared 23 (codes "f"))) [] (stmt 29 (s.Return (Some (expr 36 (e.Unary unary.TypeOf (expr 43 e.This))))) ∷ []) ∷ [])) { directive = true }

-- "use strict"; function f() { return typeof this; } var t = f.call(1);
abbrev pub this_of_number : Script
this_of_number = record (script (stmt 14 (s.FuncDecl (no 0)) ∷ stmt 51 (s.Var (declarator 55 (codes "t") (Some (expr 59 (e.Call (expr 59 (e.Member (expr 59 (e.Name (codes "f"))) (codes "call"))) (expr 66 (e.Literal (primitive.Number (pos 1))) ∷ [])))) ∷ [])) ∷ []) (func 14 (Some (declared 23 (codes "f"))) [] (stmt 29 (s.Return (Some (expr 36 (e.Unary unary.TypeOf (expr 43 e.This))))) ∷ []) ∷ [])) { directive = true }

-- "use strict"; function f() { return this === null; } var t = f.call(null);
abbrev pub this_of_null : Script
this_of_null = record (script (stmt 14 (s.FuncDecl (no 0)) ∷ stmt 53 (s.Var (declarator 57 (codes "t") (Some (expr 61 (e.Call (expr 61 (e.Member (expr 61 (e.Name (codes "f"))) (codes "call"))) (expr 68 (e.Literal primitive.Null) ∷ [])))) ∷ [])) ∷ []) (func 14 (Some (declared 23 (codes "f"))) [] (stmt 29 (s.Return (Some (expr 36 (e.Binary binary.Same (expr 36 e.This) (expr 45 (e.Literal primitive.Null)))))) ∷ []) ∷ [])) { directive = true }

-- function f() { return typeof this; } f.call(1);
abbrev pub other_this_of_number : Script
other_this_of_number = script (stmt 0 (s.FuncDecl (no 0)) ∷ stmt 37 (s.Eval (expr 37 (e.Call (expr 37 (e.Member (expr 37 (e.Name (codes "f"))) (codes "call"))) (expr 44 (e.Literal (primitive.Number (pos 1))) ∷ [])))) ∷ []) (func 0 (Some (declared 9 (codes "f"))) [] (stmt 15 (s.Return (Some (expr 22 (e.Unary unary.TypeOf (expr 29 e.This))))) ∷ []) ∷ [])

-- "use strict"; var o = {f: function () { return this; }}; var t = o.f() === o;
abbrev pub this_of_member : Script
this_of_member = record (script (stmt 14 (s.Var (declarator 18 (codes "o") (Some (expr 22 (e.ObjectLit (field.Value (place 23) (codes "f") (expr 26 (e.Func (no 0))) ∷ [])))) ∷ [])) ∷ stmt 57 (s.Var (declarator 61 (codes "t") (Some (expr 65 (e.Binary binary.Same (expr 65 (e.Call (expr 65 (e.Member (expr 65 (e.Name (codes "o"))) (codes "f"))) [])) (expr 75 (e.Name (codes "o")))))) ∷ [])) ∷ []) (func 26 None [] (stmt 40 (s.Return (Some (expr 47 e.This))) ∷ []) ∷ [])) { directive = true }

-- "use strict"; function f() { } f.length = 1;
abbrev pub read_only : Script
read_only = record (script (stmt 14 (s.FuncDecl (no 0)) ∷ stmt 31 (s.Eval (expr 31 (e.Assign (expr 31 (e.Member (expr 31 (e.Name (codes "f"))) (codes "length"))) None (expr 42 (e.Literal (primitive.Number (pos 1))))))) ∷ []) (func 14 (Some (declared 23 (codes "f"))) [] [] ∷ [])) { directive = true }

-- function f() { } f.length = 1; var x = f.length;
abbrev pub other_read_only : Script
other_read_only = script (stmt 0 (s.FuncDecl (no 0)) ∷ stmt 17 (s.Eval (expr 17 (e.Assign (expr 17 (e.Member (expr 17 (e.Name (codes "f"))) (codes "length"))) None (expr 28 (e.Literal (primitive.Number (pos 1))))))) ∷ stmt 31 (s.Var (declarator 35 (codes "x") (Some (expr 39 (e.Member (expr 39 (e.Name (codes "f"))) (codes "length")))) ∷ [])) ∷ []) (func 0 (Some (declared 9 (codes "f"))) [] [] ∷ [])

-- "use strict"; var o = {get a() { return 1; }}; o.a = 2;
abbrev pub getter_alone : Script
getter_alone = record (script (stmt 14 (s.Var (declarator 18 (codes "o") (Some (expr 22 (e.ObjectLit (field.Getter (place 27) (codes "a") (no 0) ∷ [])))) ∷ [])) ∷ stmt 47 (s.Eval (expr 47 (e.Assign (expr 47 (e.Member (expr 47 (e.Name (codes "o"))) (codes "a"))) None (expr 53 (e.Literal (primitive.Number (pos 2))))))) ∷ []) (func 28 None [] (stmt 33 (s.Return (Some (expr 40 (e.Literal (primitive.Number (pos 1)))))) ∷ []) ∷ [])) { directive = true }

-- "use strict"; y = 1;
abbrev pub undeclared : Script
undeclared = record (script (stmt 14 (s.Eval (expr 14 (e.Assign (expr 14 (e.Name (codes "y"))) None (expr 18 (e.Literal (primitive.Number (pos 1))))))) ∷ []) []) { directive = true }

-- "use strict"; var x; x = 1;
abbrev pub declared_name : Script
declared_name = record (script (stmt 14 (s.Var (declarator 18 (codes "x") None ∷ [])) ∷ stmt 21 (s.Eval (expr 21 (e.Assign (expr 21 (e.Name (codes "x"))) None (expr 25 (e.Literal (primitive.Number (pos 1))))))) ∷ []) []) { directive = true }

-- "use strict"; var t = typeof y;
abbrev pub undeclared_type : Script
undeclared_type = record (script (stmt 14 (s.Var (declarator 18 (codes "t") (Some (expr 22 (e.Unary unary.TypeOf (expr 29 (e.Name (codes "y")))))) ∷ [])) ∷ []) []) { directive = true }

-- "use strict"; var x = 0; function f() { x = 1; return 2; } try { y = f(); } catch (e) { }
abbrev pub value_before_name : Script
value_before_name = record (script (stmt 14 (s.Var (declarator 18 (codes "x") (Some (expr 22 (e.Literal (primitive.Number (pos 0))))) ∷ [])) ∷ stmt 25 (s.FuncDecl (no 0)) ∷ stmt 59 (s.Try (stmt 65 (s.Eval (expr 65 (e.Assign (expr 65 (e.Name (codes "y"))) None (expr 69 (e.Call (expr 69 (e.Name (codes "f"))) []))))) ∷ []) (Some (handler 83 (codes "e") [])) None) ∷ []) (func 25 (Some (declared 34 (codes "f"))) [] (stmt 40 (s.Eval (expr 40 (e.Assign (expr 40 (e.Name (codes "x"))) None (expr 44 (e.Literal (primitive.Number (pos 1))))))) ∷ stmt 47 (s.Return (Some (expr 54 (e.Literal (primitive.Number (pos 2)))))) ∷ []) ∷ [])) { directive = true }

-- "use strict"; function f() { } delete f.length;
abbrev pub refused_delete : Script
refused_delete = record (script (stmt 14 (s.FuncDecl (no 0)) ∷ stmt 31 (s.Eval (expr 31 (e.Unary unary.Delete (expr 38 (e.Member (expr 38 (e.Name (codes "f"))) (codes "length")))))) ∷ []) (func 14 (Some (declared 23 (codes "f"))) [] [] ∷ [])) { directive = true }

-- function f() { } var x = delete f.length;
abbrev pub other_refused_delete : Script
other_refused_delete = script (stmt 0 (s.FuncDecl (no 0)) ∷ stmt 17 (s.Var (declarator 21 (codes "x") (Some (expr 25 (e.Unary unary.Delete (expr 32 (e.Member (expr 32 (e.Name (codes "f"))) (codes "length")))))) ∷ [])) ∷ []) (func 0 (Some (declared 9 (codes "f"))) [] [] ∷ [])

-- function f() { "use strict"; return typeof this; } var t = f();
abbrev pub own_directive : Script
own_directive = script (stmt 0 (s.FuncDecl (no 0)) ∷ stmt 51 (s.Var (declarator 55 (codes "t") (Some (expr 59 (e.Call (expr 59 (e.Name (codes "f"))) []))) ∷ [])) ∷ []) (record (func 0 (Some (declared 9 (codes "f"))) [] (stmt 29 (s.Return (Some (expr 36 (e.Unary unary.TypeOf (expr 43 e.This))))) ∷ [])) { directive = true } ∷ [])

-- function f() { "use strict"; return 1; } y = f(); var x = y;
abbrev pub directive_stays_inside : Script
directive_stays_inside = script (stmt 0 (s.FuncDecl (no 0)) ∷ stmt 41 (s.Eval (expr 41 (e.Assign (expr 41 (e.Name (codes "y"))) None (expr 45 (e.Call (expr 45 (e.Name (codes "f"))) []))))) ∷ stmt 50 (s.Var (declarator 54 (codes "x") (Some (expr 58 (e.Name (codes "y")))) ∷ [])) ∷ []) (record (func 0 (Some (declared 9 (codes "f"))) [] (stmt 29 (s.Return (Some (expr 36 (e.Literal (primitive.Number (pos 1)))))) ∷ [])) { directive = true } ∷ [])

-- function f() { "use strict"; return (function () { return typeof this; })(); } var t = f();
abbrev pub inner_function : Script
inner_function = script (stmt 0 (s.FuncDecl (no 0)) ∷ stmt 79 (s.Var (declarator 83 (codes "t") (Some (expr 87 (e.Call (expr 87 (e.Name (codes "f"))) []))) ∷ [])) ∷ []) (record (func 0 (Some (declared 9 (codes "f"))) [] (stmt 29 (s.Return (Some (expr 36 (e.Call (expr 37 (e.Func (no 1))) [])))) ∷ [])) { directive = true } ∷ func 37 None [] (stmt 51 (s.Return (Some (expr 58 (e.Unary unary.TypeOf (expr 65 e.This))))) ∷ []) ∷ [])

-- function g() { return typeof this; } function f() { "use strict"; return g(); } var t = f();
abbrev pub other_function_called : Script
other_function_called = script (stmt 0 (s.FuncDecl (no 0)) ∷ stmt 37 (s.FuncDecl (no 1)) ∷ stmt 80 (s.Var (declarator 84 (codes "t") (Some (expr 88 (e.Call (expr 88 (e.Name (codes "f"))) []))) ∷ [])) ∷ []) (func 0 (Some (declared 9 (codes "g"))) [] (stmt 15 (s.Return (Some (expr 22 (e.Unary unary.TypeOf (expr 29 e.This))))) ∷ []) ∷ record (func 37 (Some (declared 46 (codes "f"))) [] (stmt 66 (s.Return (Some (expr 73 (e.Call (expr 73 (e.Name (codes "g"))) [])))) ∷ [])) { directive = true } ∷ [])

-- var o = {set a(v) { "use strict"; y = v; }}; o.a = 1;
abbrev pub strict_setter : Script
strict_setter = script (stmt 0 (s.Var (declarator 4 (codes "o") (Some (expr 8 (e.ObjectLit (field.Setter (place 13) (codes "a") (no 0) ∷ [])))) ∷ [])) ∷ stmt 45 (s.Eval (expr 45 (e.Assign (expr 45 (e.Member (expr 45 (e.Name (codes "o"))) (codes "a"))) None (expr 51 (e.Literal (primitive.Number (pos 1))))))) ∷ []) (record (func 14 None (declared 15 (codes "v") ∷ []) (stmt 34 (s.Eval (expr 34 (e.Assign (expr 34 (e.Name (codes "y"))) None (expr 38 (e.Name (codes "v")))))) ∷ [])) { directive = true } ∷ [])

-- "use strict"; var t; try { y = 1; } catch (e) { e = 2; t = e; }
abbrev pub handler_name : Script
handler_name = record (script (stmt 14 (s.Var (declarator 18 (codes "t") None ∷ [])) ∷ stmt 21 (s.Try (stmt 27 (s.Eval (expr 27 (e.Assign (expr 27 (e.Name (codes "y"))) None (expr 31 (e.Literal (primitive.Number (pos 1))))))) ∷ []) (Some (handler 43 (codes "e") (stmt 48 (s.Eval (expr 48 (e.Assign (expr 48 (e.Name (codes "e"))) None (expr 52 (e.Literal (primitive.Number (pos 2))))))) ∷ stmt 55 (s.Eval (expr 55 (e.Assign (expr 55 (e.Name (codes "t"))) None (expr 59 (e.Name (codes "e")))))) ∷ []))) None) ∷ []) []) { directive = true }

-- "use strict"; function F() { this.a = 1; } var t = new F().a;
abbrev pub constructed : Script
constructed = record (script (stmt 14 (s.FuncDecl (no 0)) ∷ stmt 43 (s.Var (declarator 47 (codes "t") (Some (expr 51 (e.Member (expr 51 (e.New (expr 55 (e.Name (codes "F"))) [])) (codes "a")))) ∷ [])) ∷ []) (func 14 (Some (declared 23 (codes "F"))) [] (stmt 29 (s.Eval (expr 29 (e.Assign (expr 29 (e.Member (expr 29 e.This) (codes "a"))) None (expr 38 (e.Literal (primitive.Number (pos 1))))))) ∷ []) ∷ [])) { directive = true }

-- "use strict"; var o = Object.preventExtensions({}); o.a = 1;
abbrev pub closed_object : Script
closed_object = record (script (stmt 14 (s.Var (declarator 18 (codes "o") (Some (expr 22 (e.Call (expr 22 (e.Member (expr 22 (e.Name (codes "Object"))) (codes "preventExtensions"))) (expr 47 (e.ObjectLit []) ∷ [])))) ∷ [])) ∷ stmt 52 (s.Eval (expr 52 (e.Assign (expr 52 (e.Member (expr 52 (e.Name (codes "o"))) (codes "a"))) None (expr 58 (e.Literal (primitive.Number (pos 1))))))) ∷ []) []) { directive = true }

-- var o = Object.preventExtensions({}); o.a = 1; var t = o.a;
abbrev pub other_closed_object : Script
other_closed_object = script (stmt 0 (s.Var (declarator 4 (codes "o") (Some (expr 8 (e.Call (expr 8 (e.Member (expr 8 (e.Name (codes "Object"))) (codes "preventExtensions"))) (expr 33 (e.ObjectLit []) ∷ [])))) ∷ [])) ∷ stmt 38 (s.Eval (expr 38 (e.Assign (expr 38 (e.Member (expr 38 (e.Name (codes "o"))) (codes "a"))) None (expr 44 (e.Literal (primitive.Number (pos 1))))))) ∷ stmt 47 (s.Var (declarator 51 (codes "t") (Some (expr 55 (e.Member (expr 55 (e.Name (codes "o"))) (codes "a")))) ∷ [])) ∷ []) []

-- "use strict"; var a = [1]; Object.defineProperty(a, "length", {writable: false}); a[1] = 2;
abbrev pub fixed_length : Script
fixed_length = record (script (stmt 14 (s.Var (declarator 18 (codes "a") (Some (expr 22 (e.ArrayLit (Some (expr 23 (e.Literal (primitive.Number (pos 1)))) ∷ [])))) ∷ [])) ∷ stmt 27 (s.Eval (expr 27 (e.Call (expr 27 (e.Member (expr 27 (e.Name (codes "Object"))) (codes "defineProperty"))) (expr 49 (e.Name (codes "a")) ∷ expr 52 (e.Literal (primitive.Text (codes "length"))) ∷ expr 62 (e.ObjectLit (field.Value (place 63) (codes "writable") (expr 73 (e.Literal (primitive.Boolean false))) ∷ [])) ∷ [])))) ∷ stmt 82 (s.Eval (expr 82 (e.Assign (expr 82 (e.Index (expr 82 (e.Name (codes "a"))) (expr 84 (e.Literal (primitive.Number (pos 1)))))) None (expr 89 (e.Literal (primitive.Number (pos 2))))))) ∷ []) []) { directive = true }

-- var a = Object.preventExtensions([]); a.push(1);
abbrev pub other_builtin : Script
other_builtin = script (stmt 0 (s.Var (declarator 4 (codes "a") (Some (expr 8 (e.Call (expr 8 (e.Member (expr 8 (e.Name (codes "Object"))) (codes "preventExtensions"))) (expr 33 (e.ArrayLit []) ∷ [])))) ∷ [])) ∷ stmt 38 (s.Eval (expr 38 (e.Call (expr 38 (e.Member (expr 38 (e.Name (codes "a"))) (codes "push"))) (expr 45 (e.Literal (primitive.Number (pos 1))) ∷ [])))) ∷ []) []

pub record StrictRuns : Type 0 where
  pub this_of_call_run : (d : ℕ) → seen bare (codes "t" ∷ []) (deep d) no_world this_of_call 200 ≡ Values (Some (text (codes "undefined")) ∷ [])
  pub this_of_number_run : (d : ℕ) → seen realm (codes "t" ∷ []) (deep d) no_world this_of_number 200 ≡ Values (Some (text (codes "number")) ∷ [])
  pub this_of_null_run : (d : ℕ) → seen realm (codes "t" ∷ []) (deep d) no_world this_of_null 200 ≡ Values (Some (truth true) ∷ [])
  pub other_this_of_number_run : (d : ℕ) → seen realm [] (deep d) no_world other_this_of_number 200 ≡ LeavesAt PrimitiveThis 37
  pub this_of_member_run : (d : ℕ) → seen bare (codes "t" ∷ []) (deep d) no_world this_of_member 200 ≡ Values (Some (truth true) ∷ [])
  pub read_only_run : (d : ℕ) → seen bare [] (deep d) no_world read_only 200 ≡ ThrewError TypeError
  pub other_read_only_run : (d : ℕ) → seen bare (codes "x" ∷ []) (deep d) no_world other_read_only 200 ≡ Values (Some (number 0) ∷ [])
  pub getter_alone_run : (d : ℕ) → seen bare [] (deep d) no_world getter_alone 200 ≡ ThrewError TypeError
  pub undeclared_run : (d : ℕ) → seen bare [] (deep d) no_world undeclared 200 ≡ ThrewError ReferenceError
  pub declared_name_run : (d : ℕ) → seen bare (codes "x" ∷ []) (deep d) no_world declared_name 200 ≡ Values (Some (number 1) ∷ [])
  pub undeclared_type_run : (d : ℕ) → seen bare (codes "t" ∷ []) (deep d) no_world undeclared_type 200 ≡ Values (Some (text (codes "undefined")) ∷ [])
  pub value_before_name_run : (d : ℕ) → seen bare (codes "x" ∷ []) (deep d) no_world value_before_name 200 ≡ Values (Some (number 1) ∷ [])
  pub refused_delete_run : (d : ℕ) → seen bare [] (deep d) no_world refused_delete 200 ≡ ThrewError TypeError
  pub other_refused_delete_run : (d : ℕ) → seen bare (codes "x" ∷ []) (deep d) no_world other_refused_delete 200 ≡ Values (Some (truth false) ∷ [])
  pub own_directive_run : (d : ℕ) → seen bare (codes "t" ∷ []) (deep d) no_world own_directive 200 ≡ Values (Some (text (codes "undefined")) ∷ [])
  pub directive_stays_inside_run : (d : ℕ) → seen bare (codes "x" ∷ []) (deep d) no_world directive_stays_inside 200 ≡ Values (Some (number 1) ∷ [])
  pub inner_function_run : (d : ℕ) → seen bare (codes "t" ∷ []) (deep d) no_world inner_function 200 ≡ Values (Some (text (codes "undefined")) ∷ [])
  pub other_function_called_run : (d : ℕ) → seen bare (codes "t" ∷ []) (deep d) no_world other_function_called 200 ≡ Values (Some (text (codes "object")) ∷ [])
  pub strict_setter_run : (d : ℕ) → seen bare [] (deep d) no_world strict_setter 200 ≡ ThrewError ReferenceError
  pub handler_name_run : (d : ℕ) → seen bare (codes "t" ∷ []) (deep d) no_world handler_name 200 ≡ Values (Some (number 2) ∷ [])
  pub constructed_run : (d : ℕ) → seen bare (codes "t" ∷ []) (deep d) no_world constructed 200 ≡ Values (Some (number 1) ∷ [])
  pub closed_object_run : (d : ℕ) → seen realm [] (deep d) no_world closed_object 200 ≡ ThrewError TypeError
  pub other_closed_object_run : (d : ℕ) → seen realm (codes "t" ∷ []) (deep d) no_world other_closed_object 200 ≡ Values (Some (undefined) ∷ [])
  pub fixed_length_run : (d : ℕ) → seen realm [] (deep d) no_world fixed_length 200 ≡ ThrewError TypeError
  pub other_builtin_run : (d : ℕ) → seen realm [] (deep d) no_world other_builtin 200 ≡ ThrewError TypeError
