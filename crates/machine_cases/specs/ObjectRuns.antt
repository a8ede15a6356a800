-- Runs of the built-ins of objects, functions and errors (15.2, 15.3, 15.11), worked out by hand.
use Rattle.std.specs.Prelude.{◌≡◌, ℕ, pos, true, false, [], ◌∷◌, codes, Some, None}
use Rattle.js_value.specs.declared.operator.BinaryOp.TheVariants as binary
use Rattle.js_value.specs.declared.operator.UnaryOp.TheVariants as unary
use Rattle.js_value.specs.declared.primitive.Primitive.TheVariants as primitive
use Rattle.js_value.specs.declared.why.Why.TheVariants.{ObjectToPrimitive, PrimitiveThis, ProtoKey, AbsentBuiltin, BuiltinArgument}
use Rattle.js_tree.specs.declared.expression.ExprForm.TheVariants as e
use Rattle.js_tree.specs.declared.expression.Field.TheVariants as field
use Rattle.js_tree.specs.declared.statement.Script.{Script}
use Rattle.js_tree.specs.declared.statement.StmtForm.TheVariants as s
use Rattle.js_tree.specs.Refusals.{place}
use Rattle.js_tree.specs.Trees.{expr, stmt, no, declared, declarator, func, script}
use Rattle.plain_heap.specs.Values.{undefined, null, truth, number, text}
use Rattle.js_machine.specs.Machine.RealmObjects.{TypeError, RangeError}
use Rattle.machine_cases.specs.RunCases.{Values, ThrewError, LeavesAt, no_world, deep, seen}
use Rattle.js_machine.specs.Machine.Realm.{realm}

-- var o = {a: 1}; var x = o.hasOwnProperty("a"), y = o.hasOwnProperty("toString");
abbrev pub own_property : Script
own_property = script (stmt 0 (s.Var (declarator 4 (codes "o") (Some (expr 8 (e.ObjectLit (field.Value (place 9) (codes "a") (expr 12 (e.Literal (primitive.Number (pos 1)))) ∷ [])))) ∷ [])) ∷ stmt 16 (s.Var (declarator 20 (codes "x") (Some (expr 24 (e.Call (expr 24 (e.Member (expr 24 (e.Name (codes "o"))) (codes "hasOwnProperty"))) (expr 41 (e.Literal (primitive.Text (codes "a"))) ∷ [])))) ∷ declarator 47 (codes "y") (Some (expr 51 (e.Call (expr 51 (e.Member (expr 51 (e.Name (codes "o"))) (codes "hasOwnProperty"))) (expr 68 (e.Literal (primitive.Text (codes "toString"))) ∷ [])))) ∷ [])) ∷ []) []

-- var h = this.hasOwnProperty; h.call(5, "a");
abbrev pub own_property_of_number : Script
own_property_of_number = script (stmt 0 (s.Var (declarator 4 (codes "h") (Some (expr 8 (e.Member (expr 8 e.This) (codes "hasOwnProperty")))) ∷ [])) ∷ stmt 29 (s.Eval (expr 29 (e.Call (expr 29 (e.Member (expr 29 (e.Name (codes "h"))) (codes "call"))) (expr 36 (e.Literal (primitive.Number (pos 5))) ∷ expr 39 (e.Literal (primitive.Text (codes "a"))) ∷ [])))) ∷ []) []

-- var h = this.hasOwnProperty; h.call(null, "a");
abbrev pub own_property_of_nothing : Script
own_property_of_nothing = script (stmt 0 (s.Var (declarator 4 (codes "h") (Some (expr 8 (e.Member (expr 8 e.This) (codes "hasOwnProperty")))) ∷ [])) ∷ stmt 29 (s.Eval (expr 29 (e.Call (expr 29 (e.Member (expr 29 (e.Name (codes "h"))) (codes "call"))) (expr 36 (e.Literal primitive.Null) ∷ expr 42 (e.Literal (primitive.Text (codes "a"))) ∷ [])))) ∷ []) []

-- var h = this.hasOwnProperty; h.call(null, {});
abbrev pub own_property_key_first : Script
own_property_key_first = script (stmt 0 (s.Var (declarator 4 (codes "h") (Some (expr 8 (e.Member (expr 8 e.This) (codes "hasOwnProperty")))) ∷ [])) ∷ stmt 29 (s.Eval (expr 29 (e.Call (expr 29 (e.Member (expr 29 (e.Name (codes "h"))) (codes "call"))) (expr 36 (e.Literal primitive.Null) ∷ expr 42 (e.ObjectLit []) ∷ [])))) ∷ []) []

-- var p = {}, o = Object.create(p); var x = p.isPrototypeOf(o), y = o.isPrototypeOf(p);
abbrev pub prototype_test : Script
prototype_test = script (stmt 0 (s.Var (declarator 4 (codes "p") (Some (expr 8 (e.ObjectLit []))) ∷ declarator 12 (codes "o") (Some (expr 16 (e.Call (expr 16 (e.Member (expr 16 (e.Name (codes "Object"))) (codes "create"))) (expr 30 (e.Name (codes "p")) ∷ [])))) ∷ [])) ∷ stmt 34 (s.Var (declarator 38 (codes "x") (Some (expr 42 (e.Call (expr 42 (e.Member (expr 42 (e.Name (codes "p"))) (codes "isPrototypeOf"))) (expr 58 (e.Name (codes "o")) ∷ [])))) ∷ declarator 62 (codes "y") (Some (expr 66 (e.Call (expr 66 (e.Member (expr 66 (e.Name (codes "o"))) (codes "isPrototypeOf"))) (expr 82 (e.Name (codes "p")) ∷ [])))) ∷ [])) ∷ []) []

-- var x = [1].propertyIsEnumerable("length"), y = [1].propertyIsEnumerable("0");
abbrev pub enumerable_test : Script
enumerable_test = script (stmt 0 (s.Var (declarator 4 (codes "x") (Some (expr 8 (e.Call (expr 8 (e.Member (expr 8 (e.ArrayLit (Some (expr 9 (e.Literal (primitive.Number (pos 1)))) ∷ []))) (codes "propertyIsEnumerable"))) (expr 33 (e.Literal (primitive.Text (codes "length"))) ∷ [])))) ∷ declarator 44 (codes "y") (Some (expr 48 (e.Call (expr 48 (e.Member (expr 48 (e.ArrayLit (Some (expr 49 (e.Literal (primitive.Number (pos 1)))) ∷ []))) (codes "propertyIsEnumerable"))) (expr 73 (e.Literal (primitive.Text (codes "0"))) ∷ [])))) ∷ [])) ∷ []) []

-- var x = Object.getPrototypeOf(Object.prototype), y = Object.getPrototypeOf([]) === Array.prototype;
abbrev pub prototypes : Script
prototypes = script (stmt 0 (s.Var (declarator 4 (codes "x") (Some (expr 8 (e.Call (expr 8 (e.Member (expr 8 (e.Name (codes "Object"))) (codes "getPrototypeOf"))) (expr 30 (e.Member (expr 30 (e.Name (codes "Object"))) (codes "prototype")) ∷ [])))) ∷ declarator 49 (codes "y") (Some (expr 53 (e.Binary binary.Same (expr 53 (e.Call (expr 53 (e.Member (expr 53 (e.Name (codes "Object"))) (codes "getPrototypeOf"))) (expr 75 (e.ArrayLit []) ∷ []))) (expr 83 (e.Member (expr 83 (e.Name (codes "Array"))) (codes "prototype")))))) ∷ [])) ∷ []) []

-- Object.getPrototypeOf(1);
abbrev pub prototype_of_number : Script
prototype_of_number = script (stmt 0 (s.Eval (expr 0 (e.Call (expr 0 (e.Member (expr 0 (e.Name (codes "Object"))) (codes "getPrototypeOf"))) (expr 22 (e.Literal (primitive.Number (pos 1))) ∷ [])))) ∷ []) []

-- var o = Object.create(null); var x = Object.getPrototypeOf(o);
abbrev pub created : Script
created = script (stmt 0 (s.Var (declarator 4 (codes "o") (Some (expr 8 (e.Call (expr 8 (e.Member (expr 8 (e.Name (codes "Object"))) (codes "create"))) (expr 22 (e.Literal primitive.Null) ∷ [])))) ∷ [])) ∷ stmt 29 (s.Var (declarator 33 (codes "x") (Some (expr 37 (e.Call (expr 37 (e.Member (expr 37 (e.Name (codes "Object"))) (codes "getPrototypeOf"))) (expr 59 (e.Name (codes "o")) ∷ [])))) ∷ [])) ∷ []) []

-- Object.create(1);
abbrev pub created_with_number : Script
created_with_number = script (stmt 0 (s.Eval (expr 0 (e.Call (expr 0 (e.Member (expr 0 (e.Name (codes "Object"))) (codes "create"))) (expr 14 (e.Literal (primitive.Number (pos 1))) ∷ [])))) ∷ []) []

-- Object.create({}, {});
abbrev pub created_with_properties : Script
created_with_properties = script (stmt 0 (s.Eval (expr 0 (e.Call (expr 0 (e.Member (expr 0 (e.Name (codes "Object"))) (codes "create"))) (expr 14 (e.ObjectLit []) ∷ expr 18 (e.ObjectLit []) ∷ [])))) ∷ []) []

-- var d = Object.getOwnPropertyDescriptor([], "length"); var x = d.value, y = d.writable, z = d.enumerable, w = d.configurable;
abbrev pub descriptor : Script
descriptor = script (stmt 0 (s.Var (declarator 4 (codes "d") (Some (expr 8 (e.Call (expr 8 (e.Member (expr 8 (e.Name (codes "Object"))) (codes "getOwnPropertyDescriptor"))) (expr 40 (e.ArrayLit []) ∷ expr 44 (e.Literal (primitive.Text (codes "length"))) ∷ [])))) ∷ [])) ∷ stmt 55 (s.Var (declarator 59 (codes "x") (Some (expr 63 (e.Member (expr 63 (e.Name (codes "d"))) (codes "value")))) ∷ declarator 72 (codes "y") (Some (expr 76 (e.Member (expr 76 (e.Name (codes "d"))) (codes "writable")))) ∷ declarator 88 (codes "z") (Some (expr 92 (e.Member (expr 92 (e.Name (codes "d"))) (codes "enumerable")))) ∷ declarator 106 (codes "w") (Some (expr 110 (e.Member (expr 110 (e.Name (codes "d"))) (codes "configurable")))) ∷ [])) ∷ []) []

-- var k = Object.keys(Object.getOwnPropertyDescriptor({a: 1}, "a")); var x = k[0], y = k[1], z = k[2], w = k[3];
abbrev pub descriptor_order : Script
descriptor_order = script (stmt 0 (s.Var (declarator 4 (codes "k") (Some (expr 8 (e.Call (expr 8 (e.Member (expr 8 (e.Name (codes "Object"))) (codes "keys"))) (expr 20 (e.Call (expr 20 (e.Member (expr 20 (e.Name (codes "Object"))) (codes "getOwnPropertyDescriptor"))) (expr 52 (e.ObjectLit (field.Value (place 53) (codes "a") (expr 56 (e.Literal (primitive.Number (pos 1)))) ∷ [])) ∷ expr 60 (e.Literal (primitive.Text (codes "a"))) ∷ [])) ∷ [])))) ∷ [])) ∷ stmt 67 (s.Var (declarator 71 (codes "x") (Some (expr 75 (e.Index (expr 75 (e.Name (codes "k"))) (expr 77 (e.Literal (primitive.Number (pos 0))))))) ∷ declarator 81 (codes "y") (Some (expr 85 (e.Index (expr 85 (e.Name (codes "k"))) (expr 87 (e.Literal (primitive.Number (pos 1))))))) ∷ declarator 91 (codes "z") (Some (expr 95 (e.Index (expr 95 (e.Name (codes "k"))) (expr 97 (e.Literal (primitive.Number (pos 2))))))) ∷ declarator 101 (codes "w") (Some (expr 105 (e.Index (expr 105 (e.Name (codes "k"))) (expr 107 (e.Literal (primitive.Number (pos 3))))))) ∷ [])) ∷ []) []

-- var d = Object.getOwnPropertyDescriptor({get a() { }}, "a"); var x = typeof d.get, y = typeof d.set, z = "value" in d;
abbrev pub accessor_descriptor : Script
accessor_descriptor = script (stmt 0 (s.Var (declarator 4 (codes "d") (Some (expr 8 (e.Call (expr 8 (e.Member (expr 8 (e.Name (codes "Object"))) (codes "getOwnPropertyDescriptor"))) (expr 40 (e.ObjectLit (field.Getter (place 45) (codes "a") (no 0) ∷ [])) ∷ expr 55 (e.Literal (primitive.Text (codes "a"))) ∷ [])))) ∷ [])) ∷ stmt 61 (s.Var (declarator 65 (codes "x") (Some (expr 69 (e.Unary unary.TypeOf (expr 76 (e.Member (expr 76 (e.Name (codes "d"))) (codes "get")))))) ∷ declarator 83 (codes "y") (Some (expr 87 (e.Unary unary.TypeOf (expr 94 (e.Member (expr 94 (e.Name (codes "d"))) (codes "set")))))) ∷ declarator 101 (codes "z") (Some (expr 105 (e.Binary binary.In (expr 105 (e.Literal (primitive.Text (codes "value")))) (expr 116 (e.Name (codes "d")))))) ∷ [])) ∷ []) (func 41 None [] [] ∷ [])

-- var x = Object.getOwnPropertyDescriptor({}, "a");
abbrev pub no_descriptor : Script
no_descriptor = script (stmt 0 (s.Var (declarator 4 (codes "x") (Some (expr 8 (e.Call (expr 8 (e.Member (expr 8 (e.Name (codes "Object"))) (codes "getOwnPropertyDescriptor"))) (expr 40 (e.ObjectLit []) ∷ expr 44 (e.Literal (primitive.Text (codes "a"))) ∷ [])))) ∷ [])) ∷ []) []

-- Object.getOwnPropertyDescriptor(this, "NaN");
abbrev pub absent_descriptor : Script
absent_descriptor = script (stmt 0 (s.Eval (expr 0 (e.Call (expr 0 (e.Member (expr 0 (e.Name (codes "Object"))) (codes "getOwnPropertyDescriptor"))) (expr 32 e.This ∷ expr 38 (e.Literal (primitive.Text (codes "NaN"))) ∷ [])))) ∷ []) []

-- var o = {}; var x = Object.defineProperty(o, "a", {value: 4}) === o, y = o.a; o.a = 5; var z = o.a;
abbrev pub defined : Script
defined = script (stmt 0 (s.Var (declarator 4 (codes "o") (Some (expr 8 (e.ObjectLit []))) ∷ [])) ∷ stmt 12 (s.Var (declarator 16 (codes "x") (Some (expr 20 (e.Binary binary.Same (expr 20 (e.Call (expr 20 (e.Member (expr 20 (e.Name (codes "Object"))) (codes "defineProperty"))) (expr 42 (e.Name (codes "o")) ∷ expr 45 (e.Literal (primitive.Text (codes "a"))) ∷ expr 50 (e.ObjectLit (field.Value (place 51) (codes "value") (expr 58 (e.Literal (primitive.Number (pos 4)))) ∷ [])) ∷ []))) (expr 66 (e.Name (codes "o")))))) ∷ declarator 69 (codes "y") (Some (expr 73 (e.Member (expr 73 (e.Name (codes "o"))) (codes "a")))) ∷ [])) ∷ stmt 78 (s.Eval (expr 78 (e.Assign (expr 78 (e.Member (expr 78 (e.Name (codes "o"))) (codes "a"))) None (expr 84 (e.Literal (primitive.Number (pos 5))))))) ∷ stmt 87 (s.Var (declarator 91 (codes "z") (Some (expr 95 (e.Member (expr 95 (e.Name (codes "o"))) (codes "a")))) ∷ [])) ∷ []) []

-- var o = {}; Object.defineProperty(o, "a", {value: 4}); Object.defineProperty(o, "a", {value: 5});
abbrev pub defined_again : Script
defined_again = script (stmt 0 (s.Var (declarator 4 (codes "o") (Some (expr 8 (e.ObjectLit []))) ∷ [])) ∷ stmt 12 (s.Eval (expr 12 (e.Call (expr 12 (e.Member (expr 12 (e.Name (codes "Object"))) (codes "defineProperty"))) (expr 34 (e.Name (codes "o")) ∷ expr 37 (e.Literal (primitive.Text (codes "a"))) ∷ expr 42 (e.ObjectLit (field.Value (place 43) (codes "value") (expr 50 (e.Literal (primitive.Number (pos 4)))) ∷ [])) ∷ [])))) ∷ stmt 55 (s.Eval (expr 55 (e.Call (expr 55 (e.Member (expr 55 (e.Name (codes "Object"))) (codes "defineProperty"))) (expr 77 (e.Name (codes "o")) ∷ expr 80 (e.Literal (primitive.Text (codes "a"))) ∷ expr 85 (e.ObjectLit (field.Value (place 86) (codes "value") (expr 93 (e.Literal (primitive.Number (pos 5)))) ∷ [])) ∷ [])))) ∷ []) []

-- Object.defineProperty({}, "a", {get: function () { }, value: 1});
abbrev pub defined_both : Script
defined_both = script (stmt 0 (s.Eval (expr 0 (e.Call (expr 0 (e.Member (expr 0 (e.Name (codes "Object"))) (codes "defineProperty"))) (expr 22 (e.ObjectLit []) ∷ expr 26 (e.Literal (primitive.Text (codes "a"))) ∷ expr 31 (e.ObjectLit (field.Value (place 32) (codes "get") (expr 37 (e.Func (no 0))) ∷ field.Value (place 54) (codes "value") (expr 61 (e.Literal (primitive.Number (pos 1)))) ∷ [])) ∷ [])))) ∷ []) (func 37 None [] [] ∷ [])

-- Object.defineProperty({}, "a", {get: 1});
abbrev pub defined_getter : Script
defined_getter = script (stmt 0 (s.Eval (expr 0 (e.Call (expr 0 (e.Member (expr 0 (e.Name (codes "Object"))) (codes "defineProperty"))) (expr 22 (e.ObjectLit []) ∷ expr 26 (e.Literal (primitive.Text (codes "a"))) ∷ expr 31 (e.ObjectLit (field.Value (place 32) (codes "get") (expr 37 (e.Literal (primitive.Number (pos 1)))) ∷ [])) ∷ [])))) ∷ []) []

-- Object.defineProperty({}, "a", 1);
abbrev pub defined_attributes : Script
defined_attributes = script (stmt 0 (s.Eval (expr 0 (e.Call (expr 0 (e.Member (expr 0 (e.Name (codes "Object"))) (codes "defineProperty"))) (expr 22 (e.ObjectLit []) ∷ expr 26 (e.Literal (primitive.Text (codes "a"))) ∷ expr 31 (e.Literal (primitive.Number (pos 1))) ∷ [])))) ∷ []) []

-- Object.defineProperty(1, "a", {});
abbrev pub defined_number : Script
defined_number = script (stmt 0 (s.Eval (expr 0 (e.Call (expr 0 (e.Member (expr 0 (e.Name (codes "Object"))) (codes "defineProperty"))) (expr 22 (e.Literal (primitive.Number (pos 1))) ∷ expr 25 (e.Literal (primitive.Text (codes "a"))) ∷ expr 30 (e.ObjectLit []) ∷ [])))) ∷ []) []

-- Object.defineProperty([], "length", {value: -1});
abbrev pub defined_length : Script
defined_length = script (stmt 0 (s.Eval (expr 0 (e.Call (expr 0 (e.Member (expr 0 (e.Name (codes "Object"))) (codes "defineProperty"))) (expr 22 (e.ArrayLit []) ∷ expr 26 (e.Literal (primitive.Text (codes "length"))) ∷ expr 36 (e.ObjectLit (field.Value (place 37) (codes "value") (expr 44 (e.Unary unary.Minus (expr 45 (e.Literal (primitive.Number (pos 1)))))) ∷ [])) ∷ [])))) ∷ []) []

-- Object.defineProperty({}, "__pro" + "to__", {});
abbrev pub defined_proto : Script
defined_proto = script (stmt 0 (s.Eval (expr 0 (e.Call (expr 0 (e.Member (expr 0 (e.Name (codes "Object"))) (codes "defineProperty"))) (expr 22 (e.ObjectLit []) ∷ expr 26 (e.Binary binary.Add (expr 26 (e.Literal (primitive.Text (codes "__pro")))) (expr 36 (e.Literal (primitive.Text (codes "to__"))))) ∷ expr 44 (e.ObjectLit []) ∷ [])))) ∷ []) []

-- Object.defineProperty(this, "NaN", {value: 1});
abbrev pub defined_absent : Script
defined_absent = script (stmt 0 (s.Eval (expr 0 (e.Call (expr 0 (e.Member (expr 0 (e.Name (codes "Object"))) (codes "defineProperty"))) (expr 22 e.This ∷ expr 28 (e.Literal (primitive.Text (codes "NaN"))) ∷ expr 35 (e.ObjectLit (field.Value (place 36) (codes "value") (expr 43 (e.Literal (primitive.Number (pos 1)))) ∷ [])) ∷ [])))) ∷ []) []

-- var x = Object.keys({a: 1, b: 2}).length, y = Object.keys([7, 8])[1];
abbrev pub keys_of : Script
keys_of = script (stmt 0 (s.Var (declarator 4 (codes "x") (Some (expr 8 (e.Member (expr 8 (e.Call (expr 8 (e.Member (expr 8 (e.Name (codes "Object"))) (codes "keys"))) (expr 20 (e.ObjectLit (field.Value (place 21) (codes "a") (expr 24 (e.Literal (primitive.Number (pos 1)))) ∷ field.Value (place 27) (codes "b") (expr 30 (e.Literal (primitive.Number (pos 2)))) ∷ [])) ∷ []))) (codes "length")))) ∷ declarator 42 (codes "y") (Some (expr 46 (e.Index (expr 46 (e.Call (expr 46 (e.Member (expr 46 (e.Name (codes "Object"))) (codes "keys"))) (expr 58 (e.ArrayLit (Some (expr 59 (e.Literal (primitive.Number (pos 7)))) ∷ Some (expr 62 (e.Literal (primitive.Number (pos 8)))) ∷ [])) ∷ []))) (expr 66 (e.Literal (primitive.Number (pos 1))))))) ∷ [])) ∷ []) []

-- Object.keys(1);
abbrev pub keys_of_number : Script
keys_of_number = script (stmt 0 (s.Eval (expr 0 (e.Call (expr 0 (e.Member (expr 0 (e.Name (codes "Object"))) (codes "keys"))) (expr 12 (e.Literal (primitive.Number (pos 1))) ∷ [])))) ∷ []) []

-- var o = {}; var x = Object.isExtensible(o); Object.preventExtensions(o); o.a = 1; var y = Object.isExtensible(o), z = o.a;
abbrev pub extensions : Script
extensions = script (stmt 0 (s.Var (declarator 4 (codes "o") (Some (expr 8 (e.ObjectLit []))) ∷ [])) ∷ stmt 12 (s.Var (declarator 16 (codes "x") (Some (expr 20 (e.Call (expr 20 (e.Member (expr 20 (e.Name (codes "Object"))) (codes "isExtensible"))) (expr 40 (e.Name (codes "o")) ∷ [])))) ∷ [])) ∷ stmt 44 (s.Eval (expr 44 (e.Call (expr 44 (e.Member (expr 44 (e.Name (codes "Object"))) (codes "preventExtensions"))) (expr 69 (e.Name (codes "o")) ∷ [])))) ∷ stmt 73 (s.Eval (expr 73 (e.Assign (expr 73 (e.Member (expr 73 (e.Name (codes "o"))) (codes "a"))) None (expr 79 (e.Literal (primitive.Number (pos 1))))))) ∷ stmt 82 (s.Var (declarator 86 (codes "y") (Some (expr 90 (e.Call (expr 90 (e.Member (expr 90 (e.Name (codes "Object"))) (codes "isExtensible"))) (expr 110 (e.Name (codes "o")) ∷ [])))) ∷ declarator 114 (codes "z") (Some (expr 118 (e.Member (expr 118 (e.Name (codes "o"))) (codes "a")))) ∷ [])) ∷ []) []

-- var o = {a: 1}; Object.seal(o); var x = Object.isSealed(o), y = Object.isFrozen(o); o.a = 2; var z = o.a, w = delete o.a;
abbrev pub sealing : Script
sealing = script (stmt 0 (s.Var (declarator 4 (codes "o") (Some (expr 8 (e.ObjectLit (field.Value (place 9) (codes "a") (expr 12 (e.Literal (primitive.Number (pos 1)))) ∷ [])))) ∷ [])) ∷ stmt 16 (s.Eval (expr 16 (e.Call (expr 16 (e.Member (expr 16 (e.Name (codes "Object"))) (codes "seal"))) (expr 28 (e.Name (codes "o")) ∷ [])))) ∷ stmt 32 (s.Var (declarator 36 (codes "x") (Some (expr 40 (e.Call (expr 40 (e.Member (expr 40 (e.Name (codes "Object"))) (codes "isSealed"))) (expr 56 (e.Name (codes "o")) ∷ [])))) ∷ declarator 60 (codes "y") (Some (expr 64 (e.Call (expr 64 (e.Member (expr 64 (e.Name (codes "Object"))) (codes "isFrozen"))) (expr 80 (e.Name (codes "o")) ∷ [])))) ∷ [])) ∷ stmt 84 (s.Eval (expr 84 (e.Assign (expr 84 (e.Member (expr 84 (e.Name (codes "o"))) (codes "a"))) None (expr 90 (e.Literal (primitive.Number (pos 2))))))) ∷ stmt 93 (s.Var (declarator 97 (codes "z") (Some (expr 101 (e.Member (expr 101 (e.Name (codes "o"))) (codes "a")))) ∷ declarator 106 (codes "w") (Some (expr 110 (e.Unary unary.Delete (expr 117 (e.Member (expr 117 (e.Name (codes "o"))) (codes "a")))))) ∷ [])) ∷ []) []

-- var o = {a: 1}; Object.freeze(o); var x = Object.isFrozen(o); o.a = 2; var y = o.a;
abbrev pub freezing : Script
freezing = script (stmt 0 (s.Var (declarator 4 (codes "o") (Some (expr 8 (e.ObjectLit (field.Value (place 9) (codes "a") (expr 12 (e.Literal (primitive.Number (pos 1)))) ∷ [])))) ∷ [])) ∷ stmt 16 (s.Eval (expr 16 (e.Call (expr 16 (e.Member (expr 16 (e.Name (codes "Object"))) (codes "freeze"))) (expr 30 (e.Name (codes "o")) ∷ [])))) ∷ stmt 34 (s.Var (declarator 38 (codes "x") (Some (expr 42 (e.Call (expr 42 (e.Member (expr 42 (e.Name (codes "Object"))) (codes "isFrozen"))) (expr 58 (e.Name (codes "o")) ∷ [])))) ∷ [])) ∷ stmt 62 (s.Eval (expr 62 (e.Assign (expr 62 (e.Member (expr 62 (e.Name (codes "o"))) (codes "a"))) None (expr 68 (e.Literal (primitive.Number (pos 2))))))) ∷ stmt 71 (s.Var (declarator 75 (codes "y") (Some (expr 79 (e.Member (expr 79 (e.Name (codes "o"))) (codes "a")))) ∷ [])) ∷ []) []

-- var x = Object.isSealed({}), y = Object.isFrozen(Object.preventExtensions({}));
abbrev pub not_sealed : Script
not_sealed = script (stmt 0 (s.Var (declarator 4 (codes "x") (Some (expr 8 (e.Call (expr 8 (e.Member (expr 8 (e.Name (codes "Object"))) (codes "isSealed"))) (expr 24 (e.ObjectLit []) ∷ [])))) ∷ declarator 29 (codes "y") (Some (expr 33 (e.Call (expr 33 (e.Member (expr 33 (e.Name (codes "Object"))) (codes "isFrozen"))) (expr 49 (e.Call (expr 49 (e.Member (expr 49 (e.Name (codes "Object"))) (codes "preventExtensions"))) (expr 74 (e.ObjectLit []) ∷ [])) ∷ [])))) ∷ [])) ∷ []) []

-- Object.freeze(this);
abbrev pub freezing_absent : Script
freezing_absent = script (stmt 0 (s.Eval (expr 0 (e.Call (expr 0 (e.Member (expr 0 (e.Name (codes "Object"))) (codes "freeze"))) (expr 14 e.This ∷ [])))) ∷ []) []

-- var f = function (a, b) { return this.k + a + b; }; var x = f.call({k: 1}, 2, 3);
abbrev pub called : Script
called = script (stmt 0 (s.Var (declarator 4 (codes "f") (Some (expr 8 (e.Func (no 0)))) ∷ [])) ∷ stmt 52 (s.Var (declarator 56 (codes "x") (Some (expr 60 (e.Call (expr 60 (e.Member (expr 60 (e.Name (codes "f"))) (codes "call"))) (expr 67 (e.ObjectLit (field.Value (place 68) (codes "k") (expr 71 (e.Literal (primitive.Number (pos 1)))) ∷ [])) ∷ expr 75 (e.Literal (primitive.Number (pos 2))) ∷ expr 78 (e.Literal (primitive.Number (pos 3))) ∷ [])))) ∷ [])) ∷ []) (func 8 None (declared 18 (codes "a") ∷ declared 21 (codes "b") ∷ []) (stmt 26 (s.Return (Some (expr 33 (e.Binary binary.Add (expr 33 (e.Binary binary.Add (expr 33 (e.Member (expr 33 e.This) (codes "k"))) (expr 42 (e.Name (codes "a"))))) (expr 46 (e.Name (codes "b"))))))) ∷ []) ∷ [])

-- var f = function (a) { return this.k + a; }; var x = f.apply({k: 1}, [2]);
abbrev pub applied : Script
applied = script (stmt 0 (s.Var (declarator 4 (codes "f") (Some (expr 8 (e.Func (no 0)))) ∷ [])) ∷ stmt 45 (s.Var (declarator 49 (codes "x") (Some (expr 53 (e.Call (expr 53 (e.Member (expr 53 (e.Name (codes "f"))) (codes "apply"))) (expr 61 (e.ObjectLit (field.Value (place 62) (codes "k") (expr 65 (e.Literal (primitive.Number (pos 1)))) ∷ [])) ∷ expr 69 (e.ArrayLit (Some (expr 70 (e.Literal (primitive.Number (pos 2)))) ∷ [])) ∷ [])))) ∷ [])) ∷ []) (func 8 None (declared 18 (codes "a") ∷ []) (stmt 23 (s.Return (Some (expr 30 (e.Binary binary.Add (expr 30 (e.Member (expr 30 e.This) (codes "k"))) (expr 39 (e.Name (codes "a"))))))) ∷ []) ∷ [])

-- var f = function (a, b) { return b; }; var x = f.apply(null, [2, 3]);
abbrev pub applied_to_two : Script
applied_to_two = script (stmt 0 (s.Var (declarator 4 (codes "f") (Some (expr 8 (e.Func (no 0)))) ∷ [])) ∷ stmt 39 (s.Var (declarator 43 (codes "x") (Some (expr 47 (e.Call (expr 47 (e.Member (expr 47 (e.Name (codes "f"))) (codes "apply"))) (expr 55 (e.Literal primitive.Null) ∷ expr 61 (e.ArrayLit (Some (expr 62 (e.Literal (primitive.Number (pos 2)))) ∷ Some (expr 65 (e.Literal (primitive.Number (pos 3)))) ∷ [])) ∷ [])))) ∷ [])) ∷ []) (func 8 None (declared 18 (codes "a") ∷ declared 21 (codes "b") ∷ []) (stmt 26 (s.Return (Some (expr 33 (e.Name (codes "b"))))) ∷ []) ∷ [])

-- var f = function (a) { return a; }; var x = f.apply(null, null);
abbrev pub applied_to_nothing : Script
applied_to_nothing = script (stmt 0 (s.Var (declarator 4 (codes "f") (Some (expr 8 (e.Func (no 0)))) ∷ [])) ∷ stmt 36 (s.Var (declarator 40 (codes "x") (Some (expr 44 (e.Call (expr 44 (e.Member (expr 44 (e.Name (codes "f"))) (codes "apply"))) (expr 52 (e.Literal primitive.Null) ∷ expr 58 (e.Literal primitive.Null) ∷ [])))) ∷ [])) ∷ []) (func 8 None (declared 18 (codes "a") ∷ []) (stmt 23 (s.Return (Some (expr 30 (e.Name (codes "a"))))) ∷ []) ∷ [])

-- var f = function (a) { return a; }; f.apply(null, 1);
abbrev pub applied_to_number : Script
applied_to_number = script (stmt 0 (s.Var (declarator 4 (codes "f") (Some (expr 8 (e.Func (no 0)))) ∷ [])) ∷ stmt 36 (s.Eval (expr 36 (e.Call (expr 36 (e.Member (expr 36 (e.Name (codes "f"))) (codes "apply"))) (expr 44 (e.Literal primitive.Null) ∷ expr 50 (e.Literal (primitive.Number (pos 1))) ∷ [])))) ∷ []) (func 8 None (declared 18 (codes "a") ∷ []) (stmt 23 (s.Return (Some (expr 30 (e.Name (codes "a"))))) ∷ []) ∷ [])

-- var f = function () { }; f.call.call(1);
abbrev pub call_of_no_function : Script
call_of_no_function = script (stmt 0 (s.Var (declarator 4 (codes "f") (Some (expr 8 (e.Func (no 0)))) ∷ [])) ∷ stmt 25 (s.Eval (expr 25 (e.Call (expr 25 (e.Member (expr 25 (e.Member (expr 25 (e.Name (codes "f"))) (codes "call"))) (codes "call"))) (expr 37 (e.Literal (primitive.Number (pos 1))) ∷ [])))) ∷ []) (func 8 None [] [] ∷ [])

-- var x = Object.getPrototypeOf(Object)(1);
abbrev pub empty_function : Script
empty_function = script (stmt 0 (s.Var (declarator 4 (codes "x") (Some (expr 8 (e.Call (expr 8 (e.Call (expr 8 (e.Member (expr 8 (e.Name (codes "Object"))) (codes "getPrototypeOf"))) (expr 30 (e.Name (codes "Object")) ∷ []))) (expr 38 (e.Literal (primitive.Number (pos 1))) ∷ [])))) ∷ [])) ∷ []) []

-- var e = new TypeError("m"); var x = e.message, y = e.name, z = e.hasOwnProperty("message");
abbrev pub error_object : Script
error_object = script (stmt 0 (s.Var (declarator 4 (codes "e") (Some (expr 8 (e.New (expr 12 (e.Name (codes "TypeError"))) (expr 22 (e.Literal (primitive.Text (codes "m"))) ∷ [])))) ∷ [])) ∷ stmt 28 (s.Var (declarator 32 (codes "x") (Some (expr 36 (e.Member (expr 36 (e.Name (codes "e"))) (codes "message")))) ∷ declarator 47 (codes "y") (Some (expr 51 (e.Member (expr 51 (e.Name (codes "e"))) (codes "name")))) ∷ declarator 59 (codes "z") (Some (expr 63 (e.Call (expr 63 (e.Member (expr 63 (e.Name (codes "e"))) (codes "hasOwnProperty"))) (expr 80 (e.Literal (primitive.Text (codes "message"))) ∷ [])))) ∷ [])) ∷ []) []

-- var e = Error(); var x = e.message, y = e.name, z = e.hasOwnProperty("message");
abbrev pub error_without_message : Script
error_without_message = script (stmt 0 (s.Var (declarator 4 (codes "e") (Some (expr 8 (e.Call (expr 8 (e.Name (codes "Error"))) []))) ∷ [])) ∷ stmt 17 (s.Var (declarator 21 (codes "x") (Some (expr 25 (e.Member (expr 25 (e.Name (codes "e"))) (codes "message")))) ∷ declarator 36 (codes "y") (Some (expr 40 (e.Member (expr 40 (e.Name (codes "e"))) (codes "name")))) ∷ declarator 48 (codes "z") (Some (expr 52 (e.Call (expr 52 (e.Member (expr 52 (e.Name (codes "e"))) (codes "hasOwnProperty"))) (expr 69 (e.Literal (primitive.Text (codes "message"))) ∷ [])))) ∷ [])) ∷ []) []

-- var x = RangeError(5).message;
abbrev pub error_number : Script
error_number = script (stmt 0 (s.Var (declarator 4 (codes "x") (Some (expr 8 (e.Member (expr 8 (e.Call (expr 8 (e.Name (codes "RangeError"))) (expr 19 (e.Literal (primitive.Number (pos 5))) ∷ []))) (codes "message")))) ∷ [])) ∷ []) []

-- Error({});
abbrev pub error_of_object : Script
error_of_object = script (stmt 0 (s.Eval (expr 0 (e.Call (expr 0 (e.Name (codes "Error"))) (expr 6 (e.ObjectLit []) ∷ [])))) ∷ []) []

pub record ObjectRuns : Type 0 where
  pub own_property_run : (d : ℕ) → seen realm (codes "x" ∷ codes "y" ∷ []) (deep d) no_world own_property 200 ≡ Values (Some (truth true) ∷ Some (truth false) ∷ [])
  pub own_property_of_number_run : (d : ℕ) → seen realm [] (deep d) no_world own_property_of_number 200 ≡ LeavesAt PrimitiveThis 29
  pub own_property_of_nothing_run : (d : ℕ) → seen realm [] (deep d) no_world own_property_of_nothing 200 ≡ ThrewError TypeError
  pub own_property_key_first_run : (d : ℕ) → seen realm [] (deep d) no_world own_property_key_first 200 ≡ LeavesAt ObjectToPrimitive 29
  pub prototype_test_run : (d : ℕ) → seen realm (codes "x" ∷ codes "y" ∷ []) (deep d) no_world prototype_test 200 ≡ Values (Some (truth true) ∷ Some (truth false) ∷ [])
  pub enumerable_test_run : (d : ℕ) → seen realm (codes "x" ∷ codes "y" ∷ []) (deep d) no_world enumerable_test 200 ≡ Values (Some (truth false) ∷ Some (truth true) ∷ [])
  pub prototypes_run : (d : ℕ) → seen realm (codes "x" ∷ codes "y" ∷ []) (deep d) no_world prototypes 200 ≡ Values (Some null ∷ Some (truth true) ∷ [])
  pub prototype_of_number_run : (d : ℕ) → seen realm [] (deep d) no_world prototype_of_number 200 ≡ ThrewError TypeError
  pub created_run : (d : ℕ) → seen realm (codes "x" ∷ []) (deep d) no_world created 200 ≡ Values (Some null ∷ [])
  pub created_with_number_run : (d : ℕ) → seen realm [] (deep d) no_world created_with_number 200 ≡ ThrewError TypeError
  pub created_with_properties_run : (d : ℕ) → seen realm [] (deep d) no_world created_with_properties 200 ≡ LeavesAt BuiltinArgument 0
  pub descriptor_run : (d : ℕ) → seen realm (codes "x" ∷ codes "y" ∷ codes "z" ∷ codes "w" ∷ []) (deep d) no_world descriptor 200 ≡ Values (Some (number 0) ∷ Some (truth true) ∷ Some (truth false) ∷ Some (truth false) ∷ [])
  pub descriptor_order_run : (d : ℕ) → seen realm (codes "x" ∷ codes "y" ∷ codes "z" ∷ codes "w" ∷ []) (deep d) no_world descriptor_order 200 ≡ Values (Some (text (codes "value")) ∷ Some (text (codes "writable")) ∷ Some (text (codes "enumerable")) ∷ Some (text (codes "configurable")) ∷ [])
  pub accessor_descriptor_run : (d : ℕ) → seen realm (codes "x" ∷ codes "y" ∷ codes "z" ∷ []) (deep d) no_world accessor_descriptor 200 ≡ Values (Some (text (codes "function")) ∷ Some (text (codes "undefined")) ∷ Some (truth false) ∷ [])
  pub no_descriptor_run : (d : ℕ) → seen realm (codes "x" ∷ []) (deep d) no_world no_descriptor 200 ≡ Values (Some undefined ∷ [])
  pub absent_descriptor_run : (d : ℕ) → seen realm [] (deep d) no_world absent_descriptor 200 ≡ LeavesAt AbsentBuiltin 0
  pub defined_run : (d : ℕ) → seen realm (codes "x" ∷ codes "y" ∷ codes "z" ∷ []) (deep d) no_world defined 200 ≡ Values (Some (truth true) ∷ Some (number 4) ∷ Some (number 4) ∷ [])
  pub defined_again_run : (d : ℕ) → seen realm [] (deep d) no_world defined_again 200 ≡ ThrewError TypeError
  pub defined_both_run : (d : ℕ) → seen realm [] (deep d) no_world defined_both 200 ≡ ThrewError TypeError
  pub defined_getter_run : (d : ℕ) → seen realm [] (deep d) no_world defined_getter 200 ≡ ThrewError TypeError
  pub defined_attributes_run : (d : ℕ) → seen realm [] (deep d) no_world defined_attributes 200 ≡ ThrewError TypeError
  pub defined_number_run : (d : ℕ) → seen realm [] (deep d) no_world defined_number 200 ≡ ThrewError TypeError
  pub defined_length_run : (d : ℕ) → seen realm [] (deep d) no_world defined_length 200 ≡ ThrewError RangeError
  pub defined_proto_run : (d : ℕ) → seen realm [] (deep d) no_world defined_proto 200 ≡ LeavesAt ProtoKey 0
  pub defined_absent_run : (d : ℕ) → seen realm [] (deep d) no_world defined_absent 200 ≡ LeavesAt AbsentBuiltin 0
  pub keys_of_run : (d : ℕ) → seen realm (codes "x" ∷ codes "y" ∷ []) (deep d) no_world keys_of 200 ≡ Values (Some (number 2) ∷ Some (text (codes "1")) ∷ [])
  pub keys_of_number_run : (d : ℕ) → seen realm [] (deep d) no_world keys_of_number 200 ≡ ThrewError TypeError
  pub extensions_run : (d : ℕ) → seen realm (codes "x" ∷ codes "y" ∷ codes "z" ∷ []) (deep d) no_world extensions 200 ≡ Values (Some (truth true) ∷ Some (truth false) ∷ Some undefined ∷ [])
  pub sealing_run : (d : ℕ) → seen realm (codes "x" ∷ codes "y" ∷ codes "z" ∷ codes "w" ∷ []) (deep d) no_world sealing 200 ≡ Values (Some (truth true) ∷ Some (truth false) ∷ Some (number 2) ∷ Some (truth false) ∷ [])
  pub freezing_run : (d : ℕ) → seen realm (codes "x" ∷ codes "y" ∷ []) (deep d) no_world freezing 200 ≡ Values (Some (truth true) ∷ Some (number 1) ∷ [])
  pub not_sealed_run : (d : ℕ) → seen realm (codes "x" ∷ codes "y" ∷ []) (deep d) no_world not_sealed 200 ≡ Values (Some (truth false) ∷ Some (truth true) ∷ [])
  pub freezing_absent_run : (d : ℕ) → seen realm [] (deep d) no_world freezing_absent 200 ≡ LeavesAt AbsentBuiltin 0
  pub called_run : (d : ℕ) → seen realm (codes "x" ∷ []) (deep d) no_world called 200 ≡ Values (Some (number 6) ∷ [])
  pub applied_run : (d : ℕ) → seen realm (codes "x" ∷ []) (deep d) no_world applied 200 ≡ Values (Some (number 3) ∷ [])
  pub applied_to_two_run : (d : ℕ) → seen realm (codes "x" ∷ []) (deep d) no_world applied_to_two 200 ≡ Values (Some (number 3) ∷ [])
  pub applied_to_nothing_run : (d : ℕ) → seen realm (codes "x" ∷ []) (deep d) no_world applied_to_nothing 200 ≡ Values (Some undefined ∷ [])
  pub applied_to_number_run : (d : ℕ) → seen realm [] (deep d) no_world applied_to_number 200 ≡ ThrewError TypeError
  pub call_of_no_function_run : (d : ℕ) → seen realm [] (deep d) no_world call_of_no_function 200 ≡ ThrewError TypeError
  pub empty_function_run : (d : ℕ) → seen realm (codes "x" ∷ []) (deep d) no_world empty_function 200 ≡ Values (Some undefined ∷ [])
  pub error_object_run : (d : ℕ) → seen realm (codes "x" ∷ codes "y" ∷ codes "z" ∷ []) (deep d) no_world error_object 200 ≡ Values (Some (text (codes "m")) ∷ Some (text (codes "TypeError")) ∷ Some (truth true) ∷ [])
  pub error_without_message_run : (d : ℕ) → seen realm (codes "x" ∷ codes "y" ∷ codes "z" ∷ []) (deep d) no_world error_without_message 200 ≡ Values (Some (text []) ∷ Some (text (codes "Error")) ∷ Some (truth false) ∷ [])
  pub error_number_run : (d : ℕ) → seen realm (codes "x" ∷ []) (deep d) no_world error_number 200 ≡ Values (Some (text (codes "5")) ∷ [])
  pub error_of_object_run : (d : ℕ) → seen realm [] (deep d) no_world error_of_object 200 ≡ LeavesAt ObjectToPrimitive 0
