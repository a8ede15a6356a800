-- Runs of the built-ins of arrays (15.4), worked out by hand.
use Rattle.std.specs.Prelude.{◌≡◌, ℕ, pos, true, false, [], ◌∷◌, codes, Some, None}
use Rattle.js_value.specs.declared.operator.BinaryOp.TheVariants as binary
use Rattle.js_value.specs.declared.operator.UnaryOp.TheVariants as unary
use Rattle.js_value.specs.declared.primitive.Primitive.TheVariants as primitive
use Rattle.js_value.specs.declared.why.Why.TheVariants.{NotANumber, NumberSpelling, ObjectToPrimitive}
use Rattle.js_tree.specs.declared.expression.ExprForm.TheVariants as e
use Rattle.js_tree.specs.declared.expression.Field.TheVariants as field
use Rattle.js_tree.specs.declared.statement.Script.{Script}
use Rattle.js_tree.specs.declared.statement.StmtForm.TheVariants as s
use Rattle.js_tree.specs.Refusals.{place}
use Rattle.js_tree.specs.Trees.{expr, stmt, no, declared, declarator, func, script}
use Rattle.plain_heap.specs.Values.{undefined, truth, number, text}
use Rattle.js_machine.specs.Machine.RealmObjects.{TypeError, RangeError}
use Rattle.machine_cases.specs.RunCases.{Values, ThrewError, LeavesAt, StepsSpent, minus, no_world, deep, bare, seen}
use Rattle.js_machine.specs.Machine.Realm.{realm}

-- var x = Array.isArray([]), y = Array.isArray({length: 0}), z = Array.isArray(Array.prototype);
abbrev pub array_test : Script
array_test = script (stmt 0 (s.Var (declarator 4 (codes "x") (Some (expr 8 (e.Call (expr 8 (e.Member (expr 8 (e.Name (codes "Array"))) (codes "isArray"))) (expr 22 (e.ArrayLit []) ∷ [])))) ∷ declarator 27 (codes "y") (Some (expr 31 (e.Call (expr 31 (e.Member (expr 31 (e.Name (codes "Array"))) (codes "isArray"))) (expr 45 (e.ObjectLit (field.Value (place 46) (codes "length") (expr 54 (e.Literal (primitive.Number (pos 0)))) ∷ [])) ∷ [])))) ∷ declarator 59 (codes "z") (Some (expr 63 (e.Call (expr 63 (e.Member (expr 63 (e.Name (codes "Array"))) (codes "isArray"))) (expr 77 (e.Member (expr 77 (e.Name (codes "Array"))) (codes "prototype")) ∷ [])))) ∷ [])) ∷ []) []

-- var a = [1, , 2].concat(3, [4]); var x = a.length, y = 1 in a, z = a[4];
abbrev pub concatenation : Script
concatenation = script (stmt 0 (s.Var (declarator 4 (codes "a") (Some (expr 8 (e.Call (expr 8 (e.Member (expr 8 (e.ArrayLit (Some (expr 9 (e.Literal (primitive.Number (pos 1)))) ∷ None ∷ Some (expr 14 (e.Literal (primitive.Number (pos 2)))) ∷ []))) (codes "concat"))) (expr 24 (e.Literal (primitive.Number (pos 3))) ∷ expr 27 (e.ArrayLit (Some (expr 28 (e.Literal (primitive.Number (pos 4)))) ∷ [])) ∷ [])))) ∷ [])) ∷ stmt 33 (s.Var (declarator 37 (codes "x") (Some (expr 41 (e.Member (expr 41 (e.Name (codes "a"))) (codes "length")))) ∷ declarator 51 (codes "y") (Some (expr 55 (e.Binary binary.In (expr 55 (e.Literal (primitive.Number (pos 1)))) (expr 60 (e.Name (codes "a")))))) ∷ declarator 63 (codes "z") (Some (expr 67 (e.Index (expr 67 (e.Name (codes "a"))) (expr 69 (e.Literal (primitive.Number (pos 4))))))) ∷ [])) ∷ []) []

-- var x = [1, , null, "a", true].join("-"), y = [1, 2].join(), z = [].join();
abbrev pub joining : Script
joining = script (stmt 0 (s.Var (declarator 4 (codes "x") (Some (expr 8 (e.Call (expr 8 (e.Member (expr 8 (e.ArrayLit (Some (expr 9 (e.Literal (primitive.Number (pos 1)))) ∷ None ∷ Some (expr 14 (e.Literal primitive.Null)) ∷ Some (expr 20 (e.Literal (primitive.Text (codes "a")))) ∷ Some (expr 25 (e.Literal (primitive.Boolean true))) ∷ []))) (codes "join"))) (expr 36 (e.Literal (primitive.Text (codes "-"))) ∷ [])))) ∷ declarator 42 (codes "y") (Some (expr 46 (e.Call (expr 46 (e.Member (expr 46 (e.ArrayLit (Some (expr 47 (e.Literal (primitive.Number (pos 1)))) ∷ Some (expr 50 (e.Literal (primitive.Number (pos 2)))) ∷ []))) (codes "join"))) []))) ∷ declarator 61 (codes "z") (Some (expr 65 (e.Call (expr 65 (e.Member (expr 65 (e.ArrayLit [])) (codes "join"))) []))) ∷ [])) ∷ []) []

-- [{}].join();
abbrev pub joining_object : Script
joining_object = script (stmt 0 (s.Eval (expr 0 (e.Call (expr 0 (e.Member (expr 0 (e.ArrayLit (Some (expr 1 (e.ObjectLit [])) ∷ []))) (codes "join"))) []))) ∷ []) []

-- [1, 2, 3].join();
abbrev pub joining_turns : Script
joining_turns = script (stmt 0 (s.Eval (expr 0 (e.Call (expr 0 (e.Member (expr 0 (e.ArrayLit (Some (expr 1 (e.Literal (primitive.Number (pos 1)))) ∷ Some (expr 4 (e.Literal (primitive.Number (pos 2)))) ∷ Some (expr 7 (e.Literal (primitive.Number (pos 3)))) ∷ []))) (codes "join"))) []))) ∷ []) []

-- [1, 2, 3].join();
abbrev pub joining_too_long : Script
joining_too_long = script (stmt 0 (s.Eval (expr 0 (e.Call (expr 0 (e.Member (expr 0 (e.ArrayLit (Some (expr 1 (e.Literal (primitive.Number (pos 1)))) ∷ Some (expr 4 (e.Literal (primitive.Number (pos 2)))) ∷ Some (expr 7 (e.Literal (primitive.Number (pos 3)))) ∷ []))) (codes "join"))) []))) ∷ []) []

-- var a = [1, 2]; var x = a.pop(), y = a.length, z = [].pop();
abbrev pub popping : Script
popping = script (stmt 0 (s.Var (declarator 4 (codes "a") (Some (expr 8 (e.ArrayLit (Some (expr 9 (e.Literal (primitive.Number (pos 1)))) ∷ Some (expr 12 (e.Literal (primitive.Number (pos 2)))) ∷ [])))) ∷ [])) ∷ stmt 16 (s.Var (declarator 20 (codes "x") (Some (expr 24 (e.Call (expr 24 (e.Member (expr 24 (e.Name (codes "a"))) (codes "pop"))) []))) ∷ declarator 33 (codes "y") (Some (expr 37 (e.Member (expr 37 (e.Name (codes "a"))) (codes "length")))) ∷ declarator 47 (codes "z") (Some (expr 51 (e.Call (expr 51 (e.Member (expr 51 (e.ArrayLit [])) (codes "pop"))) []))) ∷ [])) ∷ []) []

-- var o = {length: 2, 1: 7, pop: [].pop}; var x = o.pop(), y = o.length, z = 1 in o;
abbrev pub popping_like : Script
popping_like = script (stmt 0 (s.Var (declarator 4 (codes "o") (Some (expr 8 (e.ObjectLit (field.Value (place 9) (codes "length") (expr 17 (e.Literal (primitive.Number (pos 2)))) ∷ field.Value (place 20) (codes "1") (expr 23 (e.Literal (primitive.Number (pos 7)))) ∷ field.Value (place 26) (codes "pop") (expr 31 (e.Member (expr 31 (e.ArrayLit [])) (codes "pop"))) ∷ [])))) ∷ [])) ∷ stmt 40 (s.Var (declarator 44 (codes "x") (Some (expr 48 (e.Call (expr 48 (e.Member (expr 48 (e.Name (codes "o"))) (codes "pop"))) []))) ∷ declarator 57 (codes "y") (Some (expr 61 (e.Member (expr 61 (e.Name (codes "o"))) (codes "length")))) ∷ declarator 71 (codes "z") (Some (expr 75 (e.Binary binary.In (expr 75 (e.Literal (primitive.Number (pos 1)))) (expr 80 (e.Name (codes "o")))))) ∷ [])) ∷ []) []

-- var a = []; var x = a.push(5, 6), y = a[1], z = a.length;
abbrev pub pushing : Script
pushing = script (stmt 0 (s.Var (declarator 4 (codes "a") (Some (expr 8 (e.ArrayLit []))) ∷ [])) ∷ stmt 12 (s.Var (declarator 16 (codes "x") (Some (expr 20 (e.Call (expr 20 (e.Member (expr 20 (e.Name (codes "a"))) (codes "push"))) (expr 27 (e.Literal (primitive.Number (pos 5))) ∷ expr 30 (e.Literal (primitive.Number (pos 6))) ∷ [])))) ∷ declarator 34 (codes "y") (Some (expr 38 (e.Index (expr 38 (e.Name (codes "a"))) (expr 40 (e.Literal (primitive.Number (pos 1))))))) ∷ declarator 44 (codes "z") (Some (expr 48 (e.Member (expr 48 (e.Name (codes "a"))) (codes "length")))) ∷ [])) ∷ []) []

-- Object.freeze([]).push(1);
abbrev pub pushing_fixed : Script
pushing_fixed = script (stmt 0 (s.Eval (expr 0 (e.Call (expr 0 (e.Member (expr 0 (e.Call (expr 0 (e.Member (expr 0 (e.Name (codes "Object"))) (codes "freeze"))) (expr 14 (e.ArrayLit []) ∷ []))) (codes "push"))) (expr 23 (e.Literal (primitive.Number (pos 1))) ∷ [])))) ∷ []) []

-- var a = [1, 2, 3, 4].slice(1, -1); var x = a.length, y = a[0], z = a[1];
abbrev pub slicing : Script
slicing = script (stmt 0 (s.Var (declarator 4 (codes "a") (Some (expr 8 (e.Call (expr 8 (e.Member (expr 8 (e.ArrayLit (Some (expr 9 (e.Literal (primitive.Number (pos 1)))) ∷ Some (expr 12 (e.Literal (primitive.Number (pos 2)))) ∷ Some (expr 15 (e.Literal (primitive.Number (pos 3)))) ∷ Some (expr 18 (e.Literal (primitive.Number (pos 4)))) ∷ []))) (codes "slice"))) (expr 27 (e.Literal (primitive.Number (pos 1))) ∷ expr 30 (e.Unary unary.Minus (expr 31 (e.Literal (primitive.Number (pos 1))))) ∷ [])))) ∷ [])) ∷ stmt 35 (s.Var (declarator 39 (codes "x") (Some (expr 43 (e.Member (expr 43 (e.Name (codes "a"))) (codes "length")))) ∷ declarator 53 (codes "y") (Some (expr 57 (e.Index (expr 57 (e.Name (codes "a"))) (expr 59 (e.Literal (primitive.Number (pos 0))))))) ∷ declarator 63 (codes "z") (Some (expr 67 (e.Index (expr 67 (e.Name (codes "a"))) (expr 69 (e.Literal (primitive.Number (pos 1))))))) ∷ [])) ∷ []) []

-- var x = [1, 2, 3].slice(-2)[0], y = [1, 2].slice().length;
abbrev pub slicing_end : Script
slicing_end = script (stmt 0 (s.Var (declarator 4 (codes "x") (Some (expr 8 (e.Index (expr 8 (e.Call (expr 8 (e.Member (expr 8 (e.ArrayLit (Some (expr 9 (e.Literal (primitive.Number (pos 1)))) ∷ Some (expr 12 (e.Literal (primitive.Number (pos 2)))) ∷ Some (expr 15 (e.Literal (primitive.Number (pos 3)))) ∷ []))) (codes "slice"))) (expr 24 (e.Unary unary.Minus (expr 25 (e.Literal (primitive.Number (pos 2))))) ∷ []))) (expr 28 (e.Literal (primitive.Number (pos 0))))))) ∷ declarator 32 (codes "y") (Some (expr 36 (e.Member (expr 36 (e.Call (expr 36 (e.Member (expr 36 (e.ArrayLit (Some (expr 37 (e.Literal (primitive.Number (pos 1)))) ∷ Some (expr 40 (e.Literal (primitive.Number (pos 2)))) ∷ []))) (codes "slice"))) [])) (codes "length")))) ∷ [])) ∷ []) []

-- var x = [1, 2].slice(5).length;
abbrev pub slicing_beyond : Script
slicing_beyond = script (stmt 0 (s.Var (declarator 4 (codes "x") (Some (expr 8 (e.Member (expr 8 (e.Call (expr 8 (e.Member (expr 8 (e.ArrayLit (Some (expr 9 (e.Literal (primitive.Number (pos 1)))) ∷ Some (expr 12 (e.Literal (primitive.Number (pos 2)))) ∷ []))) (codes "slice"))) (expr 21 (e.Literal (primitive.Number (pos 5))) ∷ []))) (codes "length")))) ∷ [])) ∷ []) []

-- var a = [1, , 3, ,].slice(1); var x = a.length, y = 0 in a, z = a[1];
abbrev pub slicing_holes : Script
slicing_holes = script (stmt 0 (s.Var (declarator 4 (codes "a") (Some (expr 8 (e.Call (expr 8 (e.Member (expr 8 (e.ArrayLit (Some (expr 9 (e.Literal (primitive.Number (pos 1)))) ∷ None ∷ Some (expr 14 (e.Literal (primitive.Number (pos 3)))) ∷ None ∷ []))) (codes "slice"))) (expr 26 (e.Literal (primitive.Number (pos 1))) ∷ [])))) ∷ [])) ∷ stmt 30 (s.Var (declarator 34 (codes "x") (Some (expr 38 (e.Member (expr 38 (e.Name (codes "a"))) (codes "length")))) ∷ declarator 48 (codes "y") (Some (expr 52 (e.Binary binary.In (expr 52 (e.Literal (primitive.Number (pos 0)))) (expr 57 (e.Name (codes "a")))))) ∷ declarator 60 (codes "z") (Some (expr 64 (e.Index (expr 64 (e.Name (codes "a"))) (expr 66 (e.Literal (primitive.Number (pos 1))))))) ∷ [])) ∷ []) []

-- [].slice({});
abbrev pub slicing_object : Script
slicing_object = script (stmt 0 (s.Eval (expr 0 (e.Call (expr 0 (e.Member (expr 0 (e.ArrayLit [])) (codes "slice"))) (expr 9 (e.ObjectLit []) ∷ [])))) ∷ []) []

-- var a = [1, "2", 2]; var x = a.indexOf(2), y = a.indexOf(3), z = a.indexOf(1, 1), w = a.indexOf(2, -1);
abbrev pub searching : Script
searching = script (stmt 0 (s.Var (declarator 4 (codes "a") (Some (expr 8 (e.ArrayLit (Some (expr 9 (e.Literal (primitive.Number (pos 1)))) ∷ Some (expr 12 (e.Literal (primitive.Text (codes "2")))) ∷ Some (expr 17 (e.Literal (primitive.Number (pos 2)))) ∷ [])))) ∷ [])) ∷ stmt 21 (s.Var (declarator 25 (codes "x") (Some (expr 29 (e.Call (expr 29 (e.Member (expr 29 (e.Name (codes "a"))) (codes "indexOf"))) (expr 39 (e.Literal (primitive.Number (pos 2))) ∷ [])))) ∷ declarator 43 (codes "y") (Some (expr 47 (e.Call (expr 47 (e.Member (expr 47 (e.Name (codes "a"))) (codes "indexOf"))) (expr 57 (e.Literal (primitive.Number (pos 3))) ∷ [])))) ∷ declarator 61 (codes "z") (Some (expr 65 (e.Call (expr 65 (e.Member (expr 65 (e.Name (codes "a"))) (codes "indexOf"))) (expr 75 (e.Literal (primitive.Number (pos 1))) ∷ expr 78 (e.Literal (primitive.Number (pos 1))) ∷ [])))) ∷ declarator 82 (codes "w") (Some (expr 86 (e.Call (expr 86 (e.Member (expr 86 (e.Name (codes "a"))) (codes "indexOf"))) (expr 96 (e.Literal (primitive.Number (pos 2))) ∷ expr 99 (e.Unary unary.Minus (expr 100 (e.Literal (primitive.Number (pos 1))))) ∷ [])))) ∷ [])) ∷ []) []

-- var x = 0; [, 2].forEach(function (v, i) { x = v + i; });
abbrev pub visiting : Script
visiting = script (stmt 0 (s.Var (declarator 4 (codes "x") (Some (expr 8 (e.Literal (primitive.Number (pos 0))))) ∷ [])) ∷ stmt 11 (s.Eval (expr 11 (e.Call (expr 11 (e.Member (expr 11 (e.ArrayLit (None ∷ Some (expr 14 (e.Literal (primitive.Number (pos 2)))) ∷ []))) (codes "forEach"))) (expr 25 (e.Func (no 0)) ∷ [])))) ∷ []) (func 25 None (declared 35 (codes "v") ∷ declared 38 (codes "i") ∷ []) (stmt 43 (s.Eval (expr 43 (e.Assign (expr 43 (e.Name (codes "x"))) None (expr 47 (e.Binary binary.Add (expr 47 (e.Name (codes "v"))) (expr 51 (e.Name (codes "i")))))))) ∷ []) ∷ [])

-- var o = {k: 5}, x; [1].forEach(function () { x = this.k; }, o);
abbrev pub visiting_this : Script
visiting_this = script (stmt 0 (s.Var (declarator 4 (codes "o") (Some (expr 8 (e.ObjectLit (field.Value (place 9) (codes "k") (expr 12 (e.Literal (primitive.Number (pos 5)))) ∷ [])))) ∷ declarator 16 (codes "x") None ∷ [])) ∷ stmt 19 (s.Eval (expr 19 (e.Call (expr 19 (e.Member (expr 19 (e.ArrayLit (Some (expr 20 (e.Literal (primitive.Number (pos 1)))) ∷ []))) (codes "forEach"))) (expr 31 (e.Func (no 0)) ∷ expr 60 (e.Name (codes "o")) ∷ [])))) ∷ []) (func 31 None [] (stmt 45 (s.Eval (expr 45 (e.Assign (expr 45 (e.Name (codes "x"))) None (expr 49 (e.Member (expr 49 e.This) (codes "k")))))) ∷ []) ∷ [])

-- [].forEach(1);
abbrev pub visiting_nothing : Script
visiting_nothing = script (stmt 0 (s.Eval (expr 0 (e.Call (expr 0 (e.Member (expr 0 (e.ArrayLit [])) (codes "forEach"))) (expr 11 (e.Literal (primitive.Number (pos 1))) ∷ [])))) ∷ []) []

-- var a = [, 2].map(function (v) { return v + 1; }); var x = a.length, y = 0 in a, z = a[1];
abbrev pub mapping : Script
mapping = script (stmt 0 (s.Var (declarator 4 (codes "a") (Some (expr 8 (e.Call (expr 8 (e.Member (expr 8 (e.ArrayLit (None ∷ Some (expr 11 (e.Literal (primitive.Number (pos 2)))) ∷ []))) (codes "map"))) (expr 18 (e.Func (no 0)) ∷ [])))) ∷ [])) ∷ stmt 51 (s.Var (declarator 55 (codes "x") (Some (expr 59 (e.Member (expr 59 (e.Name (codes "a"))) (codes "length")))) ∷ declarator 69 (codes "y") (Some (expr 73 (e.Binary binary.In (expr 73 (e.Literal (primitive.Number (pos 0)))) (expr 78 (e.Name (codes "a")))))) ∷ declarator 81 (codes "z") (Some (expr 85 (e.Index (expr 85 (e.Name (codes "a"))) (expr 87 (e.Literal (primitive.Number (pos 1))))))) ∷ [])) ∷ []) (func 18 None (declared 28 (codes "v") ∷ []) (stmt 33 (s.Return (Some (expr 40 (e.Binary binary.Add (expr 40 (e.Name (codes "v"))) (expr 44 (e.Literal (primitive.Number (pos 1)))))))) ∷ []) ∷ [])

-- var a = [0, 2].filter(function (v) { return v; }); var x = a.length, y = a[0];
abbrev pub filtering : Script
filtering = script (stmt 0 (s.Var (declarator 4 (codes "a") (Some (expr 8 (e.Call (expr 8 (e.Member (expr 8 (e.ArrayLit (Some (expr 9 (e.Literal (primitive.Number (pos 0)))) ∷ Some (expr 12 (e.Literal (primitive.Number (pos 2)))) ∷ []))) (codes "filter"))) (expr 22 (e.Func (no 0)) ∷ [])))) ∷ [])) ∷ stmt 51 (s.Var (declarator 55 (codes "x") (Some (expr 59 (e.Member (expr 59 (e.Name (codes "a"))) (codes "length")))) ∷ declarator 69 (codes "y") (Some (expr 73 (e.Index (expr 73 (e.Name (codes "a"))) (expr 75 (e.Literal (primitive.Number (pos 0))))))) ∷ [])) ∷ []) (func 22 None (declared 32 (codes "v") ∷ []) (stmt 37 (s.Return (Some (expr 44 (e.Name (codes "v"))))) ∷ []) ∷ [])

-- var a = []; a[2] = 1; var x = a.length; a["01"] = 1; var y = a.length;
abbrev pub length_raised : Script
length_raised = script (stmt 0 (s.Var (declarator 4 (codes "a") (Some (expr 8 (e.ArrayLit []))) ∷ [])) ∷ stmt 12 (s.Eval (expr 12 (e.Assign (expr 12 (e.Index (expr 12 (e.Name (codes "a"))) (expr 14 (e.Literal (primitive.Number (pos 2)))))) None (expr 19 (e.Literal (primitive.Number (pos 1))))))) ∷ stmt 22 (s.Var (declarator 26 (codes "x") (Some (expr 30 (e.Member (expr 30 (e.Name (codes "a"))) (codes "length")))) ∷ [])) ∷ stmt 40 (s.Eval (expr 40 (e.Assign (expr 40 (e.Index (expr 40 (e.Name (codes "a"))) (expr 42 (e.Literal (primitive.Text (codes "01")))))) None (expr 50 (e.Literal (primitive.Number (pos 1))))))) ∷ stmt 53 (s.Var (declarator 57 (codes "y") (Some (expr 61 (e.Member (expr 61 (e.Name (codes "a"))) (codes "length")))) ∷ [])) ∷ []) []

-- var a = [1, 2, 3]; a.length = "1"; var x = a.length, y = 1 in a;
abbrev pub length_lowered : Script
length_lowered = script (stmt 0 (s.Var (declarator 4 (codes "a") (Some (expr 8 (e.ArrayLit (Some (expr 9 (e.Literal (primitive.Number (pos 1)))) ∷ Some (expr 12 (e.Literal (primitive.Number (pos 2)))) ∷ Some (expr 15 (e.Literal (primitive.Number (pos 3)))) ∷ [])))) ∷ [])) ∷ stmt 19 (s.Eval (expr 19 (e.Assign (expr 19 (e.Member (expr 19 (e.Name (codes "a"))) (codes "length"))) None (expr 30 (e.Literal (primitive.Text (codes "1"))))))) ∷ stmt 35 (s.Var (declarator 39 (codes "x") (Some (expr 43 (e.Member (expr 43 (e.Name (codes "a"))) (codes "length")))) ∷ declarator 53 (codes "y") (Some (expr 57 (e.Binary binary.In (expr 57 (e.Literal (primitive.Number (pos 1)))) (expr 62 (e.Name (codes "a")))))) ∷ [])) ∷ []) []

-- var a = [1]; a.length = -1;
abbrev pub length_refused : Script
length_refused = script (stmt 0 (s.Var (declarator 4 (codes "a") (Some (expr 8 (e.ArrayLit (Some (expr 9 (e.Literal (primitive.Number (pos 1)))) ∷ [])))) ∷ [])) ∷ stmt 13 (s.Eval (expr 13 (e.Assign (expr 13 (e.Member (expr 13 (e.Name (codes "a"))) (codes "length"))) None (expr 24 (e.Unary unary.Minus (expr 25 (e.Literal (primitive.Number (pos 1))))))))) ∷ []) []

-- var a = [], u; a.length = u;
abbrev pub length_undefined : Script
length_undefined = script (stmt 0 (s.Var (declarator 4 (codes "a") (Some (expr 8 (e.ArrayLit []))) ∷ declarator 12 (codes "u") None ∷ [])) ∷ stmt 15 (s.Eval (expr 15 (e.Assign (expr 15 (e.Member (expr 15 (e.Name (codes "a"))) (codes "length"))) None (expr 26 (e.Name (codes "u")))))) ∷ []) []

-- var a = []; a.length = "x";
abbrev pub length_fraction : Script
length_fraction = script (stmt 0 (s.Var (declarator 4 (codes "a") (Some (expr 8 (e.ArrayLit []))) ∷ [])) ∷ stmt 12 (s.Eval (expr 12 (e.Assign (expr 12 (e.Member (expr 12 (e.Name (codes "a"))) (codes "length"))) None (expr 23 (e.Literal (primitive.Text (codes "x"))))))) ∷ []) []

pub record ArrayRuns : Type 0 where
  pub array_test_run : (d : ℕ) → seen realm (codes "x" ∷ codes "y" ∷ codes "z" ∷ []) (deep d) no_world array_test 200 ≡ Values (Some (truth true) ∷ Some (truth false) ∷ Some (truth true) ∷ [])
  pub concatenation_run : (d : ℕ) → seen realm (codes "x" ∷ codes "y" ∷ codes "z" ∷ []) (deep d) no_world concatenation 200 ≡ Values (Some (number 5) ∷ Some (truth false) ∷ Some (number 4) ∷ [])
  pub joining_run : (d : ℕ) → seen realm (codes "x" ∷ codes "y" ∷ codes "z" ∷ []) (deep d) no_world joining 200 ≡ Values (Some (text (codes "1---a-true")) ∷ Some (text (codes "1,2")) ∷ Some (text []) ∷ [])
  pub joining_object_run : (d : ℕ) → seen realm [] (deep d) no_world joining_object 200 ≡ LeavesAt ObjectToPrimitive 0
  pub joining_turns_run : (d : ℕ) → seen realm (codes "x" ∷ []) (deep d) no_world joining_turns 10 ≡ Values (None ∷ [])
  pub joining_too_long_run : (d : ℕ) → seen realm [] (deep d) no_world joining_too_long 9 ≡ StepsSpent
  pub popping_run : (d : ℕ) → seen realm (codes "x" ∷ codes "y" ∷ codes "z" ∷ []) (deep d) no_world popping 200 ≡ Values (Some (number 2) ∷ Some (number 1) ∷ Some undefined ∷ [])
  pub popping_like_run : (d : ℕ) → seen realm (codes "x" ∷ codes "y" ∷ codes "z" ∷ []) (deep d) no_world popping_like 200 ≡ Values (Some (number 7) ∷ Some (text (codes "1")) ∷ Some (truth false) ∷ [])
  pub pushing_run : (d : ℕ) → seen realm (codes "x" ∷ codes "y" ∷ codes "z" ∷ []) (deep d) no_world pushing 200 ≡ Values (Some (number 2) ∷ Some (number 6) ∷ Some (number 2) ∷ [])
  pub pushing_fixed_run : (d : ℕ) → seen realm [] (deep d) no_world pushing_fixed 200 ≡ ThrewError TypeError
  pub slicing_run : (d : ℕ) → seen realm (codes "x" ∷ codes "y" ∷ codes "z" ∷ []) (deep d) no_world slicing 200 ≡ Values (Some (number 2) ∷ Some (number 2) ∷ Some (number 3) ∷ [])
  pub slicing_end_run : (d : ℕ) → seen realm (codes "x" ∷ codes "y" ∷ []) (deep d) no_world slicing_end 200 ≡ Values (Some (number 2) ∷ Some (number 2) ∷ [])
  pub slicing_beyond_run : (d : ℕ) → seen realm (codes "x" ∷ []) (deep d) no_world slicing_beyond 200 ≡ Values (Some (number 0) ∷ [])
  pub slicing_holes_run : (d : ℕ) → seen realm (codes "x" ∷ codes "y" ∷ codes "z" ∷ []) (deep d) no_world slicing_holes 200 ≡ Values (Some (number 3) ∷ Some (truth false) ∷ Some (number 3) ∷ [])
  pub slicing_object_run : (d : ℕ) → seen realm [] (deep d) no_world slicing_object 200 ≡ LeavesAt ObjectToPrimitive 0
  pub searching_run : (d : ℕ) → seen realm (codes "x" ∷ codes "y" ∷ codes "z" ∷ codes "w" ∷ []) (deep d) no_world searching 200 ≡ Values (Some (number 2) ∷ Some (minus 1) ∷ Some (minus 1) ∷ Some (number 2) ∷ [])
  pub visiting_run : (d : ℕ) → seen realm (codes "x" ∷ []) (deep d) no_world visiting 200 ≡ Values (Some (number 3) ∷ [])
  pub visiting_this_run : (d : ℕ) → seen realm (codes "x" ∷ []) (deep d) no_world visiting_this 200 ≡ Values (Some (number 5) ∷ [])
  pub visiting_nothing_run : (d : ℕ) → seen realm [] (deep d) no_world visiting_nothing 200 ≡ ThrewError TypeError
  pub mapping_run : (d : ℕ) → seen realm (codes "x" ∷ codes "y" ∷ codes "z" ∷ []) (deep d) no_world mapping 200 ≡ Values (Some (number 2) ∷ Some (truth false) ∷ Some (number 3) ∷ [])
  pub filtering_run : (d : ℕ) → seen realm (codes "x" ∷ codes "y" ∷ []) (deep d) no_world filtering 200 ≡ Values (Some (number 1) ∷ Some (number 2) ∷ [])
  pub length_raised_run : (d : ℕ) → seen bare (codes "x" ∷ codes "y" ∷ []) (deep d) no_world length_raised 200 ≡ Values (Some (number 3) ∷ Some (number 3) ∷ [])
  pub length_lowered_run : (d : ℕ) → seen bare (codes "x" ∷ codes "y" ∷ []) (deep d) no_world length_lowered 200 ≡ Values (Some (number 1) ∷ Some (truth false) ∷ [])
  pub length_refused_run : (d : ℕ) → seen bare [] (deep d) no_world length_refused 200 ≡ ThrewError RangeError
  pub length_undefined_run : (d : ℕ) → seen bare [] (deep d) no_world length_undefined 200 ≡ LeavesAt NotANumber 15
  pub length_fraction_run : (d : ℕ) → seen bare [] (deep d) no_world length_fraction 200 ≡ LeavesAt NumberSpelling 12
