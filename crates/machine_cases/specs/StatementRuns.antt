-- Runs of statements (12), worked out by hand.
use Rattle.std.specs.Prelude.{◌≡◌, ℕ, pos, true, false, [], ◌∷◌, codes, Some, None}
use Rattle.js_value.specs.declared.operator.BinaryOp.TheVariants as binary
use Rattle.js_value.specs.declared.operator.UnaryOp.TheVariants as unary
use Rattle.js_value.specs.declared.primitive.Primitive.TheVariants as primitive
use Rattle.js_value.specs.declared.why.Why.TheVariants.{PrimitiveProperty}
use Rattle.js_tree.specs.declared.expression.ExprForm.TheVariants as e
use Rattle.js_tree.specs.declared.expression.Field.TheVariants as field
use Rattle.js_tree.specs.declared.expression.StepOp.TheVariants as stepping
use Rattle.js_tree.specs.declared.statement.ForStart.TheVariants as start
use Rattle.js_tree.specs.declared.statement.ForTarget.TheVariants as target
use Rattle.js_tree.specs.declared.statement.Script.{Script}
use Rattle.js_tree.specs.declared.statement.StmtForm.TheVariants as s
use Rattle.js_tree.specs.Refusals.{place}
use Rattle.js_tree.specs.Trees.{expr, stmt, no, declared, declarator, func, clause, handler, final, script}
use Rattle.plain_heap.specs.Values.{undefined, truth, number, text}
use Rattle.machine_cases.specs.RunCases.{Values, Threw, LeavesAt, StepsSpent, no_world, deep, bare, seen}
use Rattle.js_machine.specs.Machine.Realm.{realm}

-- var x = typeof y; var y = 1;
abbrev pub hoisted_var : Script
hoisted_var = script (stmt 0 (s.Var (declarator 4 (codes "x") (Some (expr 8 (e.Unary unary.TypeOf (expr 15 (e.Name (codes "y")))))) ∷ [])) ∷ stmt 18 (s.Var (declarator 22 (codes "y") (Some (expr 26 (e.Literal (primitive.Number (pos 1))))) ∷ [])) ∷ []) []

-- var x = 1; var x;
abbrev pub var_twice : Script
var_twice = script (stmt 0 (s.Var (declarator 4 (codes "x") (Some (expr 8 (e.Literal (primitive.Number (pos 1))))) ∷ [])) ∷ stmt 11 (s.Var (declarator 15 (codes "x") None ∷ [])) ∷ []) []

-- { var x = 1; } ; { }
abbrev pub blocks : Script
blocks = script (stmt 0 (s.Block (stmt 2 (s.Var (declarator 6 (codes "x") (Some (expr 10 (e.Literal (primitive.Number (pos 1))))) ∷ [])) ∷ [])) ∷ stmt 15 s.Empty ∷ stmt 17 (s.Block []) ∷ []) []

-- var x, y; if (1) x = 1; else x = 2; if (0) y = 1; else y = 2; if (0) x = 3;
abbrev pub if_else : Script
if_else = script (stmt 0 (s.Var (declarator 4 (codes "x") None ∷ declarator 7 (codes "y") None ∷ [])) ∷ stmt 10 (s.If (expr 14 (e.Literal (primitive.Number (pos 1)))) (stmt 17 (s.Eval (expr 17 (e.Assign (expr 17 (e.Name (codes "x"))) None (expr 21 (e.Literal (primitive.Number (pos 1)))))))) (Some (stmt 29 (s.Eval (expr 29 (e.Assign (expr 29 (e.Name (codes "x"))) None (expr 33 (e.Literal (primitive.Number (pos 2)))))))))) ∷ stmt 36 (s.If (expr 40 (e.Literal (primitive.Number (pos 0)))) (stmt 43 (s.Eval (expr 43 (e.Assign (expr 43 (e.Name (codes "y"))) None (expr 47 (e.Literal (primitive.Number (pos 1)))))))) (Some (stmt 55 (s.Eval (expr 55 (e.Assign (expr 55 (e.Name (codes "y"))) None (expr 59 (e.Literal (primitive.Number (pos 2)))))))))) ∷ stmt 62 (s.If (expr 66 (e.Literal (primitive.Number (pos 0)))) (stmt 69 (s.Eval (expr 69 (e.Assign (expr 69 (e.Name (codes "x"))) None (expr 73 (e.Literal (primitive.Number (pos 3)))))))) None) ∷ []) []

-- var x = 0; do { x++; if (x === 2) continue; if (x === 3) break; } while (x < 9);
abbrev pub do_while : Script
do_while = script (stmt 0 (s.Var (declarator 4 (codes "x") (Some (expr 8 (e.Literal (primitive.Number (pos 0))))) ∷ [])) ∷ stmt 11 (s.DoWhile (stmt 14 (s.Block (stmt 16 (s.Eval (expr 16 (e.Step stepping.PostUp (expr 16 (e.Name (codes "x")))))) ∷ stmt 21 (s.If (expr 25 (e.Binary binary.Same (expr 25 (e.Name (codes "x"))) (expr 31 (e.Literal (primitive.Number (pos 2)))))) (stmt 34 s.Continue) None) ∷ stmt 44 (s.If (expr 48 (e.Binary binary.Same (expr 48 (e.Name (codes "x"))) (expr 54 (e.Literal (primitive.Number (pos 3)))))) (stmt 57 s.Break) None) ∷ []))) (expr 73 (e.Binary binary.Less (expr 73 (e.Name (codes "x"))) (expr 77 (e.Literal (primitive.Number (pos 9))))))) ∷ []) []

-- var x = 0; do x++; while (0);
abbrev pub do_while_once : Script
do_while_once = script (stmt 0 (s.Var (declarator 4 (codes "x") (Some (expr 8 (e.Literal (primitive.Number (pos 0))))) ∷ [])) ∷ stmt 11 (s.DoWhile (stmt 14 (s.Eval (expr 14 (e.Step stepping.PostUp (expr 14 (e.Name (codes "x"))))))) (expr 26 (e.Literal (primitive.Number (pos 0))))) ∷ []) []

-- var x = 0; while (x < 3) x++;
abbrev pub while_loop : Script
while_loop = script (stmt 0 (s.Var (declarator 4 (codes "x") (Some (expr 8 (e.Literal (primitive.Number (pos 0))))) ∷ [])) ∷ stmt 11 (s.While (expr 18 (e.Binary binary.Less (expr 18 (e.Name (codes "x"))) (expr 22 (e.Literal (primitive.Number (pos 3)))))) (stmt 25 (s.Eval (expr 25 (e.Step stepping.PostUp (expr 25 (e.Name (codes "x")))))))) ∷ []) []

-- while (1) ;
abbrev pub while_endless : Script
while_endless = script (stmt 0 (s.While (expr 7 (e.Literal (primitive.Number (pos 1)))) (stmt 10 s.Empty)) ∷ []) []

-- var x = 0, i; for (i = 0; i < 5; i++) { if (i === 1) continue; if (i === 3) break; x = x + i; }
abbrev pub for_loop : Script
for_loop = script (stmt 0 (s.Var (declarator 4 (codes "x") (Some (expr 8 (e.Literal (primitive.Number (pos 0))))) ∷ declarator 11 (codes "i") None ∷ [])) ∷ stmt 14 (s.For (start.Expr (expr 19 (e.Assign (expr 19 (e.Name (codes "i"))) None (expr 23 (e.Literal (primitive.Number (pos 0))))))) (Some (expr 26 (e.Binary binary.Less (expr 26 (e.Name (codes "i"))) (expr 30 (e.Literal (primitive.Number (pos 5))))))) (Some (expr 33 (e.Step stepping.PostUp (expr 33 (e.Name (codes "i")))))) (stmt 38 (s.Block (stmt 40 (s.If (expr 44 (e.Binary binary.Same (expr 44 (e.Name (codes "i"))) (expr 50 (e.Literal (primitive.Number (pos 1)))))) (stmt 53 s.Continue) None) ∷ stmt 63 (s.If (expr 67 (e.Binary binary.Same (expr 67 (e.Name (codes "i"))) (expr 73 (e.Literal (primitive.Number (pos 3)))))) (stmt 76 s.Break) None) ∷ stmt 83 (s.Eval (expr 83 (e.Assign (expr 83 (e.Name (codes "x"))) None (expr 87 (e.Binary binary.Add (expr 87 (e.Name (codes "x"))) (expr 91 (e.Name (codes "i")))))))) ∷ [])))) ∷ []) []

-- var x = 1; for (;;) { x = 2; break; }
abbrev pub for_without_parts : Script
for_without_parts = script (stmt 0 (s.Var (declarator 4 (codes "x") (Some (expr 8 (e.Literal (primitive.Number (pos 1))))) ∷ [])) ∷ stmt 11 (s.For start.Nothing None None (stmt 20 (s.Block (stmt 22 (s.Eval (expr 22 (e.Assign (expr 22 (e.Name (codes "x"))) None (expr 26 (e.Literal (primitive.Number (pos 2))))))) ∷ stmt 29 s.Break ∷ [])))) ∷ []) []

-- for (var i = 0, x = 1; i < 2; i++) x = x * 3;
abbrev pub for_with_var : Script
for_with_var = script (stmt 0 (s.For (start.Var (declarator 9 (codes "i") (Some (expr 13 (e.Literal (primitive.Number (pos 0))))) ∷ declarator 16 (codes "x") (Some (expr 20 (e.Literal (primitive.Number (pos 1))))) ∷ [])) (Some (expr 23 (e.Binary binary.Less (expr 23 (e.Name (codes "i"))) (expr 27 (e.Literal (primitive.Number (pos 2))))))) (Some (expr 30 (e.Step stepping.PostUp (expr 30 (e.Name (codes "i")))))) (stmt 35 (s.Eval (expr 35 (e.Assign (expr 35 (e.Name (codes "x"))) None (expr 39 (e.Binary binary.Mul (expr 39 (e.Name (codes "x"))) (expr 43 (e.Literal (primitive.Number (pos 3))))))))))) ∷ []) []

-- var x = ""; for (var k in {a: 1, b: 2}) x = x + k;
abbrev pub for_in : Script
for_in = script (stmt 0 (s.Var (declarator 4 (codes "x") (Some (expr 8 (e.Literal (primitive.Text [])))) ∷ [])) ∷ stmt 12 (s.ForIn (target.Var (place 21) (codes "k")) (expr 26 (e.ObjectLit (field.Value (place 27) (codes "a") (expr 30 (e.Literal (primitive.Number (pos 1)))) ∷ field.Value (place 33) (codes "b") (expr 36 (e.Literal (primitive.Number (pos 2)))) ∷ []))) (stmt 40 (s.Eval (expr 40 (e.Assign (expr 40 (e.Name (codes "x"))) None (expr 44 (e.Binary binary.Add (expr 44 (e.Name (codes "x"))) (expr 48 (e.Name (codes "k")))))))))) ∷ []) []

-- function F() { this.b = 3; } F.prototype = {a: 1, b: 2}; var x = ""; for (var k in new F) x += k;
abbrev pub for_in_inherited : Script
for_in_inherited = script (stmt 0 (s.FuncDecl (no 0)) ∷ stmt 29 (s.Eval (expr 29 (e.Assign (expr 29 (e.Member (expr 29 (e.Name (codes "F"))) (codes "prototype"))) None (expr 43 (e.ObjectLit (field.Value (place 44) (codes "a") (expr 47 (e.Literal (primitive.Number (pos 1)))) ∷ field.Value (place 50) (codes "b") (expr 53 (e.Literal (primitive.Number (pos 2)))) ∷ [])))))) ∷ stmt 57 (s.Var (declarator 61 (codes "x") (Some (expr 65 (e.Literal (primitive.Text [])))) ∷ [])) ∷ stmt 69 (s.ForIn (target.Var (place 78) (codes "k")) (expr 83 (e.New (expr 87 (e.Name (codes "F"))) [])) (stmt 90 (s.Eval (expr 90 (e.Assign (expr 90 (e.Name (codes "x"))) (Some binary.Add) (expr 95 (e.Name (codes "k")))))))) ∷ []) (func 0 (Some (declared 9 (codes "F"))) [] (stmt 15 (s.Eval (expr 15 (e.Assign (expr 15 (e.Member (expr 15 e.This) (codes "b"))) None (expr 24 (e.Literal (primitive.Number (pos 3))))))) ∷ []) ∷ [])

-- var o = Object.create({a: 1}), x = 0; Object.defineProperty(o, "a", {}); for (var k in o) x = 1;
abbrev pub for_in_shadowed : Script
for_in_shadowed = script (stmt 0 (s.Var (declarator 4 (codes "o") (Some (expr 8 (e.Call (expr 8 (e.Member (expr 8 (e.Name (codes "Object"))) (codes "create"))) (expr 22 (e.ObjectLit (field.Value (place 23) (codes "a") (expr 26 (e.Literal (primitive.Number (pos 1)))) ∷ [])) ∷ [])))) ∷ declarator 31 (codes "x") (Some (expr 35 (e.Literal (primitive.Number (pos 0))))) ∷ [])) ∷ stmt 38 (s.Eval (expr 38 (e.Call (expr 38 (e.Member (expr 38 (e.Name (codes "Object"))) (codes "defineProperty"))) (expr 60 (e.Name (codes "o")) ∷ expr 63 (e.Literal (primitive.Text (codes "a"))) ∷ expr 68 (e.ObjectLit []) ∷ [])))) ∷ stmt 73 (s.ForIn (target.Var (place 82) (codes "k")) (expr 87 (e.Name (codes "o"))) (stmt 90 (s.Eval (expr 90 (e.Assign (expr 90 (e.Name (codes "x"))) None (expr 94 (e.Literal (primitive.Number (pos 1))))))))) ∷ []) []

-- var o = {a: 1, b: 2, c: 3}, x = ""; for (var k in o) { x += k; delete o.b; }
abbrev pub for_in_deleted : Script
for_in_deleted = script (stmt 0 (s.Var (declarator 4 (codes "o") (Some (expr 8 (e.ObjectLit (field.Value (place 9) (codes "a") (expr 12 (e.Literal (primitive.Number (pos 1)))) ∷ field.Value (place 15) (codes "b") (expr 18 (e.Literal (primitive.Number (pos 2)))) ∷ field.Value (place 21) (codes "c") (expr 24 (e.Literal (primitive.Number (pos 3)))) ∷ [])))) ∷ declarator 28 (codes "x") (Some (expr 32 (e.Literal (primitive.Text [])))) ∷ [])) ∷ stmt 36 (s.ForIn (target.Var (place 45) (codes "k")) (expr 50 (e.Name (codes "o"))) (stmt 53 (s.Block (stmt 55 (s.Eval (expr 55 (e.Assign (expr 55 (e.Name (codes "x"))) (Some binary.Add) (expr 60 (e.Name (codes "k")))))) ∷ stmt 63 (s.Eval (expr 63 (e.Unary unary.Delete (expr 70 (e.Member (expr 70 (e.Name (codes "o"))) (codes "b")))))) ∷ [])))) ∷ []) []

-- var o = {a: 1}, x = ""; for (var k in o) { x += k; o.z = 1; }
abbrev pub for_in_added : Script
for_in_added = script (stmt 0 (s.Var (declarator 4 (codes "o") (Some (expr 8 (e.ObjectLit (field.Value (place 9) (codes "a") (expr 12 (e.Literal (primitive.Number (pos 1)))) ∷ [])))) ∷ declarator 16 (codes "x") (Some (expr 20 (e.Literal (primitive.Text [])))) ∷ [])) ∷ stmt 24 (s.ForIn (target.Var (place 33) (codes "k")) (expr 38 (e.Name (codes "o"))) (stmt 41 (s.Block (stmt 43 (s.Eval (expr 43 (e.Assign (expr 43 (e.Name (codes "x"))) (Some binary.Add) (expr 48 (e.Name (codes "k")))))) ∷ stmt 51 (s.Eval (expr 51 (e.Assign (expr 51 (e.Member (expr 51 (e.Name (codes "o"))) (codes "z"))) None (expr 57 (e.Literal (primitive.Number (pos 1))))))) ∷ [])))) ∷ []) []

-- var x = 1; for (var k in null) x = 2; for (k in undefined) x = 3;
abbrev pub for_in_nothing : Script
for_in_nothing = script (stmt 0 (s.Var (declarator 4 (codes "x") (Some (expr 8 (e.Literal (primitive.Number (pos 1))))) ∷ [])) ∷ stmt 11 (s.ForIn (target.Var (place 20) (codes "k")) (expr 25 (e.Literal primitive.Null)) (stmt 31 (s.Eval (expr 31 (e.Assign (expr 31 (e.Name (codes "x"))) None (expr 35 (e.Literal (primitive.Number (pos 2))))))))) ∷ stmt 38 (s.ForIn (target.Expr (expr 43 (e.Name (codes "k")))) (expr 48 (e.Name (codes "undefined"))) (stmt 59 (s.Eval (expr 59 (e.Assign (expr 59 (e.Name (codes "x"))) None (expr 63 (e.Literal (primitive.Number (pos 3))))))))) ∷ []) []

-- for (var k in 5) ;
abbrev pub for_in_number : Script
for_in_number = script (stmt 0 (s.ForIn (target.Var (place 9) (codes "k")) (expr 14 (e.Literal (primitive.Number (pos 5)))) (stmt 17 s.Empty)) ∷ []) []

-- var o = {}; for (o.k in {a: 1, b: 2}) if (o.k) break; var x = o.k;
abbrev pub for_in_member : Script
for_in_member = script (stmt 0 (s.Var (declarator 4 (codes "o") (Some (expr 8 (e.ObjectLit []))) ∷ [])) ∷ stmt 12 (s.ForIn (target.Expr (expr 17 (e.Member (expr 17 (e.Name (codes "o"))) (codes "k")))) (expr 24 (e.ObjectLit (field.Value (place 25) (codes "a") (expr 28 (e.Literal (primitive.Number (pos 1)))) ∷ field.Value (place 31) (codes "b") (expr 34 (e.Literal (primitive.Number (pos 2)))) ∷ []))) (stmt 38 (s.If (expr 42 (e.Member (expr 42 (e.Name (codes "o"))) (codes "k"))) (stmt 47 s.Break) None))) ∷ stmt 54 (s.Var (declarator 58 (codes "x") (Some (expr 62 (e.Member (expr 62 (e.Name (codes "o"))) (codes "k")))) ∷ [])) ∷ []) []

-- var x = 0; for (var k in {a: 1, b: 2}) { if (k === "a") continue; x++; }
abbrev pub for_in_continue : Script
for_in_continue = script (stmt 0 (s.Var (declarator 4 (codes "x") (Some (expr 8 (e.Literal (primitive.Number (pos 0))))) ∷ [])) ∷ stmt 11 (s.ForIn (target.Var (place 20) (codes "k")) (expr 25 (e.ObjectLit (field.Value (place 26) (codes "a") (expr 29 (e.Literal (primitive.Number (pos 1)))) ∷ field.Value (place 32) (codes "b") (expr 35 (e.Literal (primitive.Number (pos 2)))) ∷ []))) (stmt 39 (s.Block (stmt 41 (s.If (expr 45 (e.Binary binary.Same (expr 45 (e.Name (codes "k"))) (expr 51 (e.Literal (primitive.Text (codes "a")))))) (stmt 56 s.Continue) None) ∷ stmt 66 (s.Eval (expr 66 (e.Step stepping.PostUp (expr 66 (e.Name (codes "x")))))) ∷ [])))) ∷ []) []

-- var x = ""; switch (2) { case 1: x += "a"; case 2: x += "b"; case 3: x += "c"; break; default: x += "d"; }
abbrev pub switch_through : Script
switch_through = script (stmt 0 (s.Var (declarator 4 (codes "x") (Some (expr 8 (e.Literal (primitive.Text [])))) ∷ [])) ∷ stmt 12 (s.Switch (expr 20 (e.Literal (primitive.Number (pos 2)))) (clause (Some (expr 30 (e.Literal (primitive.Number (pos 1))))) (stmt 33 (s.Eval (expr 33 (e.Assign (expr 33 (e.Name (codes "x"))) (Some binary.Add) (expr 38 (e.Literal (primitive.Text (codes "a"))))))) ∷ []) ∷ clause (Some (expr 48 (e.Literal (primitive.Number (pos 2))))) (stmt 51 (s.Eval (expr 51 (e.Assign (expr 51 (e.Name (codes "x"))) (Some binary.Add) (expr 56 (e.Literal (primitive.Text (codes "b"))))))) ∷ []) ∷ clause (Some (expr 66 (e.Literal (primitive.Number (pos 3))))) (stmt 69 (s.Eval (expr 69 (e.Assign (expr 69 (e.Name (codes "x"))) (Some binary.Add) (expr 74 (e.Literal (primitive.Text (codes "c"))))))) ∷ stmt 79 s.Break ∷ []) ∷ clause None (stmt 95 (s.Eval (expr 95 (e.Assign (expr 95 (e.Name (codes "x"))) (Some binary.Add) (expr 100 (e.Literal (primitive.Text (codes "d"))))))) ∷ []) ∷ [])) ∷ []) []

-- var x = ""; switch (9) { case 1: x += "a"; default: x += "b"; case 2: x += "c"; }
abbrev pub switch_default : Script
switch_default = script (stmt 0 (s.Var (declarator 4 (codes "x") (Some (expr 8 (e.Literal (primitive.Text [])))) ∷ [])) ∷ stmt 12 (s.Switch (expr 20 (e.Literal (primitive.Number (pos 9)))) (clause (Some (expr 30 (e.Literal (primitive.Number (pos 1))))) (stmt 33 (s.Eval (expr 33 (e.Assign (expr 33 (e.Name (codes "x"))) (Some binary.Add) (expr 38 (e.Literal (primitive.Text (codes "a"))))))) ∷ []) ∷ clause None (stmt 52 (s.Eval (expr 52 (e.Assign (expr 52 (e.Name (codes "x"))) (Some binary.Add) (expr 57 (e.Literal (primitive.Text (codes "b"))))))) ∷ []) ∷ clause (Some (expr 67 (e.Literal (primitive.Number (pos 2))))) (stmt 70 (s.Eval (expr 70 (e.Assign (expr 70 (e.Name (codes "x"))) (Some binary.Add) (expr 75 (e.Literal (primitive.Text (codes "c"))))))) ∷ []) ∷ [])) ∷ []) []

-- var x = ""; switch (2) { default: x += "b"; case 2: x += "c"; }
abbrev pub switch_behind_default : Script
switch_behind_default = script (stmt 0 (s.Var (declarator 4 (codes "x") (Some (expr 8 (e.Literal (primitive.Text [])))) ∷ [])) ∷ stmt 12 (s.Switch (expr 20 (e.Literal (primitive.Number (pos 2)))) (clause None (stmt 34 (s.Eval (expr 34 (e.Assign (expr 34 (e.Name (codes "x"))) (Some binary.Add) (expr 39 (e.Literal (primitive.Text (codes "b"))))))) ∷ []) ∷ clause (Some (expr 49 (e.Literal (primitive.Number (pos 2))))) (stmt 52 (s.Eval (expr 52 (e.Assign (expr 52 (e.Name (codes "x"))) (Some binary.Add) (expr 57 (e.Literal (primitive.Text (codes "c"))))))) ∷ []) ∷ [])) ∷ []) []

-- var x = 0; switch ("1") { case 1: x = 1; } switch ({}) { case {}: x = 2; }
abbrev pub switch_strict : Script
switch_strict = script (stmt 0 (s.Var (declarator 4 (codes "x") (Some (expr 8 (e.Literal (primitive.Number (pos 0))))) ∷ [])) ∷ stmt 11 (s.Switch (expr 19 (e.Literal (primitive.Text (codes "1")))) (clause (Some (expr 31 (e.Literal (primitive.Number (pos 1))))) (stmt 34 (s.Eval (expr 34 (e.Assign (expr 34 (e.Name (codes "x"))) None (expr 38 (e.Literal (primitive.Number (pos 1))))))) ∷ []) ∷ [])) ∷ stmt 43 (s.Switch (expr 51 (e.ObjectLit [])) (clause (Some (expr 62 (e.ObjectLit []))) (stmt 66 (s.Eval (expr 66 (e.Assign (expr 66 (e.Name (codes "x"))) None (expr 70 (e.Literal (primitive.Number (pos 2))))))) ∷ []) ∷ [])) ∷ []) []

-- var x; switch (1) { case 1: x = 1; break; case f(): x = 2; }
abbrev pub switch_first : Script
switch_first = script (stmt 0 (s.Var (declarator 4 (codes "x") None ∷ [])) ∷ stmt 7 (s.Switch (expr 15 (e.Literal (primitive.Number (pos 1)))) (clause (Some (expr 25 (e.Literal (primitive.Number (pos 1))))) (stmt 28 (s.Eval (expr 28 (e.Assign (expr 28 (e.Name (codes "x"))) None (expr 32 (e.Literal (primitive.Number (pos 1))))))) ∷ stmt 35 s.Break ∷ []) ∷ clause (Some (expr 47 (e.Call (expr 47 (e.Name (codes "f"))) []))) (stmt 52 (s.Eval (expr 52 (e.Assign (expr 52 (e.Name (codes "x"))) None (expr 56 (e.Literal (primitive.Number (pos 2))))))) ∷ []) ∷ [])) ∷ []) []

-- var x = 0; while (x < 2) { switch (x) { case 0: x++; continue; } x = 5; }
abbrev pub switch_in_loop : Script
switch_in_loop = script (stmt 0 (s.Var (declarator 4 (codes "x") (Some (expr 8 (e.Literal (primitive.Number (pos 0))))) ∷ [])) ∷ stmt 11 (s.While (expr 18 (e.Binary binary.Less (expr 18 (e.Name (codes "x"))) (expr 22 (e.Literal (primitive.Number (pos 2)))))) (stmt 25 (s.Block (stmt 27 (s.Switch (expr 35 (e.Name (codes "x"))) (clause (Some (expr 45 (e.Literal (primitive.Number (pos 0))))) (stmt 48 (s.Eval (expr 48 (e.Step stepping.PostUp (expr 48 (e.Name (codes "x")))))) ∷ stmt 53 s.Continue ∷ []) ∷ [])) ∷ stmt 65 (s.Eval (expr 65 (e.Assign (expr 65 (e.Name (codes "x"))) None (expr 69 (e.Literal (primitive.Number (pos 5))))))) ∷ [])))) ∷ []) []

-- throw 5;
abbrev pub thrown_number : Script
thrown_number = script (stmt 0 (s.Throw (expr 6 (e.Literal (primitive.Number (pos 5))))) ∷ []) []

-- var x; try { throw 1; x = 2; } catch (e) { x = e; }
abbrev pub caught : Script
caught = script (stmt 0 (s.Var (declarator 4 (codes "x") None ∷ [])) ∷ stmt 7 (s.Try (stmt 13 (s.Throw (expr 19 (e.Literal (primitive.Number (pos 1))))) ∷ stmt 22 (s.Eval (expr 22 (e.Assign (expr 22 (e.Name (codes "x"))) None (expr 26 (e.Literal (primitive.Number (pos 2))))))) ∷ []) (Some (handler 38 (codes "e") (stmt 43 (s.Eval (expr 43 (e.Assign (expr 43 (e.Name (codes "x"))) None (expr 47 (e.Name (codes "e")))))) ∷ []))) None) ∷ []) []

-- var e = 9, x; try { throw 1; } catch (e) { var e = 2; x = e; }
abbrev pub catch_scope : Script
catch_scope = script (stmt 0 (s.Var (declarator 4 (codes "e") (Some (expr 8 (e.Literal (primitive.Number (pos 9))))) ∷ declarator 11 (codes "x") None ∷ [])) ∷ stmt 14 (s.Try (stmt 20 (s.Throw (expr 26 (e.Literal (primitive.Number (pos 1))))) ∷ []) (Some (handler 38 (codes "e") (stmt 43 (s.Var (declarator 47 (codes "e") (Some (expr 51 (e.Literal (primitive.Number (pos 2))))) ∷ [])) ∷ stmt 54 (s.Eval (expr 54 (e.Assign (expr 54 (e.Name (codes "x"))) None (expr 58 (e.Name (codes "e")))))) ∷ []))) None) ∷ []) []

-- var x = 0; try { x = 1; } finally { x = x + 10; }
abbrev pub final_part : Script
final_part = script (stmt 0 (s.Var (declarator 4 (codes "x") (Some (expr 8 (e.Literal (primitive.Number (pos 0))))) ∷ [])) ∷ stmt 11 (s.Try (stmt 17 (s.Eval (expr 17 (e.Assign (expr 17 (e.Name (codes "x"))) None (expr 21 (e.Literal (primitive.Number (pos 1))))))) ∷ []) None (Some (final (stmt 36 (s.Eval (expr 36 (e.Assign (expr 36 (e.Name (codes "x"))) None (expr 40 (e.Binary binary.Add (expr 40 (e.Name (codes "x"))) (expr 44 (e.Literal (primitive.Number (pos 10))))))))) ∷ [])))) ∷ []) []

-- function f() { try { return 1; } finally { return 2; } } function g() { try { throw 1; } finally { return 3; } } var x = f(), y = g();
abbrev pub final_return : Script
final_return = script (stmt 0 (s.FuncDecl (no 0)) ∷ stmt 57 (s.FuncDecl (no 1)) ∷ stmt 113 (s.Var (declarator 117 (codes "x") (Some (expr 121 (e.Call (expr 121 (e.Name (codes "f"))) []))) ∷ declarator 126 (codes "y") (Some (expr 130 (e.Call (expr 130 (e.Name (codes "g"))) []))) ∷ [])) ∷ []) (func 0 (Some (declared 9 (codes "f"))) [] (stmt 15 (s.Try (stmt 21 (s.Return (Some (expr 28 (e.Literal (primitive.Number (pos 1)))))) ∷ []) None (Some (final (stmt 43 (s.Return (Some (expr 50 (e.Literal (primitive.Number (pos 2)))))) ∷ [])))) ∷ []) ∷ func 57 (Some (declared 66 (codes "g"))) [] (stmt 72 (s.Try (stmt 78 (s.Throw (expr 84 (e.Literal (primitive.Number (pos 1))))) ∷ []) None (Some (final (stmt 99 (s.Return (Some (expr 106 (e.Literal (primitive.Number (pos 3)))))) ∷ [])))) ∷ []) ∷ [])

-- var x = 0; function f() { try { return x; } finally { x = 5; } } var y = f();
abbrev pub final_after_return : Script
final_after_return = script (stmt 0 (s.Var (declarator 4 (codes "x") (Some (expr 8 (e.Literal (primitive.Number (pos 0))))) ∷ [])) ∷ stmt 11 (s.FuncDecl (no 0)) ∷ stmt 65 (s.Var (declarator 69 (codes "y") (Some (expr 73 (e.Call (expr 73 (e.Name (codes "f"))) []))) ∷ [])) ∷ []) (func 11 (Some (declared 20 (codes "f"))) [] (stmt 26 (s.Try (stmt 32 (s.Return (Some (expr 39 (e.Name (codes "x"))))) ∷ []) None (Some (final (stmt 54 (s.Eval (expr 54 (e.Assign (expr 54 (e.Name (codes "x"))) None (expr 58 (e.Literal (primitive.Number (pos 5))))))) ∷ [])))) ∷ []) ∷ [])

-- var x = ""; try { x += "a"; throw 1; } catch (e) { x += "b"; } finally { x += "c"; }
abbrev pub all_parts : Script
all_parts = script (stmt 0 (s.Var (declarator 4 (codes "x") (Some (expr 8 (e.Literal (primitive.Text [])))) ∷ [])) ∷ stmt 12 (s.Try (stmt 18 (s.Eval (expr 18 (e.Assign (expr 18 (e.Name (codes "x"))) (Some binary.Add) (expr 23 (e.Literal (primitive.Text (codes "a"))))))) ∷ stmt 28 (s.Throw (expr 34 (e.Literal (primitive.Number (pos 1))))) ∷ []) (Some (handler 46 (codes "e") (stmt 51 (s.Eval (expr 51 (e.Assign (expr 51 (e.Name (codes "x"))) (Some binary.Add) (expr 56 (e.Literal (primitive.Text (codes "b"))))))) ∷ []))) (Some (final (stmt 73 (s.Eval (expr 73 (e.Assign (expr 73 (e.Name (codes "x"))) (Some binary.Add) (expr 78 (e.Literal (primitive.Text (codes "c"))))))) ∷ [])))) ∷ []) []

-- var x; try { try { throw 1; } catch (e) { throw 2; } finally { x = 5; } } catch (e) { var y = e; }
abbrev pub thrown_again : Script
thrown_again = script (stmt 0 (s.Var (declarator 4 (codes "x") None ∷ [])) ∷ stmt 7 (s.Try (stmt 13 (s.Try (stmt 19 (s.Throw (expr 25 (e.Literal (primitive.Number (pos 1))))) ∷ []) (Some (handler 37 (codes "e") (stmt 42 (s.Throw (expr 48 (e.Literal (primitive.Number (pos 2))))) ∷ []))) (Some (final (stmt 63 (s.Eval (expr 63 (e.Assign (expr 63 (e.Name (codes "x"))) None (expr 67 (e.Literal (primitive.Number (pos 5))))))) ∷ [])))) ∷ []) (Some (handler 81 (codes "e") (stmt 86 (s.Var (declarator 90 (codes "y") (Some (expr 94 (e.Name (codes "e")))) ∷ [])) ∷ []))) None) ∷ []) []

-- var x = 0; while (1) { try { throw 1; } finally { break; } } x = 3;
abbrev pub final_break : Script
final_break = script (stmt 0 (s.Var (declarator 4 (codes "x") (Some (expr 8 (e.Literal (primitive.Number (pos 0))))) ∷ [])) ∷ stmt 11 (s.While (expr 18 (e.Literal (primitive.Number (pos 1)))) (stmt 21 (s.Block (stmt 23 (s.Try (stmt 29 (s.Throw (expr 35 (e.Literal (primitive.Number (pos 1))))) ∷ []) None (Some (final (stmt 50 s.Break ∷ [])))) ∷ [])))) ∷ stmt 61 (s.Eval (expr 61 (e.Assign (expr 61 (e.Name (codes "x"))) None (expr 65 (e.Literal (primitive.Number (pos 3))))))) ∷ []) []

-- var x, y; try { null.a; } catch (e) { x = e instanceof TypeError; y = e.hasOwnProperty("message"); }
abbrev pub caught_error : Script
caught_error = script (stmt 0 (s.Var (declarator 4 (codes "x") None ∷ declarator 7 (codes "y") None ∷ [])) ∷ stmt 10 (s.Try (stmt 16 (s.Eval (expr 16 (e.Member (expr 16 (e.Literal primitive.Null)) (codes "a")))) ∷ []) (Some (handler 33 (codes "e") (stmt 38 (s.Eval (expr 38 (e.Assign (expr 38 (e.Name (codes "x"))) None (expr 42 (e.Binary binary.InstanceOf (expr 42 (e.Name (codes "e"))) (expr 55 (e.Name (codes "TypeError")))))))) ∷ stmt 66 (s.Eval (expr 66 (e.Assign (expr 66 (e.Name (codes "y"))) None (expr 70 (e.Call (expr 70 (e.Member (expr 70 (e.Name (codes "e"))) (codes "hasOwnProperty"))) (expr 87 (e.Literal (primitive.Text (codes "message"))) ∷ [])))))) ∷ []))) None) ∷ []) []

-- function f() { return; } function g() { } var x = f(), y = g();
abbrev pub returned_nothing : Script
returned_nothing = script (stmt 0 (s.FuncDecl (no 0)) ∷ stmt 25 (s.FuncDecl (no 1)) ∷ stmt 42 (s.Var (declarator 46 (codes "x") (Some (expr 50 (e.Call (expr 50 (e.Name (codes "f"))) []))) ∷ declarator 55 (codes "y") (Some (expr 59 (e.Call (expr 59 (e.Name (codes "g"))) []))) ∷ [])) ∷ []) (func 0 (Some (declared 9 (codes "f"))) [] (stmt 15 (s.Return None) ∷ []) ∷ func 25 (Some (declared 34 (codes "g"))) [] [] ∷ [])

-- var x = f(); function f() { return 4; }
abbrev pub function_statement : Script
function_statement = script (stmt 0 (s.Var (declarator 4 (codes "x") (Some (expr 8 (e.Call (expr 8 (e.Name (codes "f"))) []))) ∷ [])) ∷ stmt 13 (s.FuncDecl (no 0)) ∷ []) (func 13 (Some (declared 22 (codes "f"))) [] (stmt 28 (s.Return (Some (expr 35 (e.Literal (primitive.Number (pos 4)))))) ∷ []) ∷ [])

pub record StatementRuns : Type 0 where
  pub hoisted_var_run : (d : ℕ) → seen bare (codes "x" ∷ codes "y" ∷ []) (deep d) no_world hoisted_var 200 ≡ Values (Some (text (codes "undefined")) ∷ Some (number 1) ∷ [])
  pub var_twice_run : (d : ℕ) → seen bare (codes "x" ∷ []) (deep d) no_world var_twice 200 ≡ Values (Some (number 1) ∷ [])
  pub blocks_run : (d : ℕ) → seen bare (codes "x" ∷ []) (deep d) no_world blocks 200 ≡ Values (Some (number 1) ∷ [])
  pub if_else_run : (d : ℕ) → seen bare (codes "x" ∷ codes "y" ∷ []) (deep d) no_world if_else 200 ≡ Values (Some (number 1) ∷ Some (number 2) ∷ [])
  pub do_while_run : (d : ℕ) → seen bare (codes "x" ∷ []) (deep d) no_world do_while 200 ≡ Values (Some (number 3) ∷ [])
  pub do_while_once_run : (d : ℕ) → seen bare (codes "x" ∷ []) (deep d) no_world do_while_once 200 ≡ Values (Some (number 1) ∷ [])
  pub while_loop_run : (d : ℕ) → seen bare (codes "x" ∷ []) (deep d) no_world while_loop 200 ≡ Values (Some (number 3) ∷ [])
  pub while_endless_run : (d : ℕ) → seen bare [] (deep d) no_world while_endless 20 ≡ StepsSpent
  pub for_loop_run : (d : ℕ) → seen bare (codes "x" ∷ codes "i" ∷ []) (deep d) no_world for_loop 400 ≡ Values (Some (number 2) ∷ Some (number 3) ∷ [])
  pub for_without_parts_run : (d : ℕ) → seen bare (codes "x" ∷ []) (deep d) no_world for_without_parts 200 ≡ Values (Some (number 2) ∷ [])
  pub for_with_var_run : (d : ℕ) → seen bare (codes "i" ∷ codes "x" ∷ []) (deep d) no_world for_with_var 200 ≡ Values (Some (number 2) ∷ Some (number 9) ∷ [])
  pub for_in_run : (d : ℕ) → seen bare (codes "x" ∷ codes "k" ∷ []) (deep d) no_world for_in 200 ≡ Values (Some (text (codes "ab")) ∷ Some (text (codes "b")) ∷ [])
  pub for_in_inherited_run : (d : ℕ) → seen bare (codes "x" ∷ []) (deep d) no_world for_in_inherited 200 ≡ Values (Some (text (codes "ba")) ∷ [])
  pub for_in_shadowed_run : (d : ℕ) → seen realm (codes "x" ∷ []) (deep d) no_world for_in_shadowed 200 ≡ Values (Some (number 0) ∷ [])
  pub for_in_deleted_run : (d : ℕ) → seen bare (codes "x" ∷ []) (deep d) no_world for_in_deleted 200 ≡ Values (Some (text (codes "ac")) ∷ [])
  pub for_in_added_run : (d : ℕ) → seen bare (codes "x" ∷ []) (deep d) no_world for_in_added 200 ≡ Values (Some (text (codes "a")) ∷ [])
  pub for_in_nothing_run : (d : ℕ) → seen realm (codes "x" ∷ codes "k" ∷ []) (deep d) no_world for_in_nothing 200 ≡ Values (Some (number 1) ∷ Some undefined ∷ [])
  pub for_in_number_run : (d : ℕ) → seen bare [] (deep d) no_world for_in_number 200 ≡ LeavesAt PrimitiveProperty 0
  pub for_in_member_run : (d : ℕ) → seen bare (codes "x" ∷ []) (deep d) no_world for_in_member 200 ≡ Values (Some (text (codes "a")) ∷ [])
  pub for_in_continue_run : (d : ℕ) → seen bare (codes "x" ∷ []) (deep d) no_world for_in_continue 200 ≡ Values (Some (number 1) ∷ [])
  pub switch_through_run : (d : ℕ) → seen bare (codes "x" ∷ []) (deep d) no_world switch_through 200 ≡ Values (Some (text (codes "bc")) ∷ [])
  pub switch_default_run : (d : ℕ) → seen bare (codes "x" ∷ []) (deep d) no_world switch_default 200 ≡ Values (Some (text (codes "bc")) ∷ [])
  pub switch_behind_default_run : (d : ℕ) → seen bare (codes "x" ∷ []) (deep d) no_world switch_behind_default 200 ≡ Values (Some (text (codes "c")) ∷ [])
  pub switch_strict_run : (d : ℕ) → seen bare (codes "x" ∷ []) (deep d) no_world switch_strict 200 ≡ Values (Some (number 0) ∷ [])
  pub switch_first_run : (d : ℕ) → seen bare (codes "x" ∷ []) (deep d) no_world switch_first 200 ≡ Values (Some (number 1) ∷ [])
  pub switch_in_loop_run : (d : ℕ) → seen bare (codes "x" ∷ []) (deep d) no_world switch_in_loop 200 ≡ Values (Some (number 5) ∷ [])
  pub thrown_number_run : (d : ℕ) → seen bare [] (deep d) no_world thrown_number 200 ≡ Threw (number 5)
  pub caught_run : (d : ℕ) → seen bare (codes "x" ∷ codes "e" ∷ []) (deep d) no_world caught 200 ≡ Values (Some (number 1) ∷ None ∷ [])
  pub catch_scope_run : (d : ℕ) → seen bare (codes "x" ∷ codes "e" ∷ []) (deep d) no_world catch_scope 200 ≡ Values (Some (number 2) ∷ Some (number 9) ∷ [])
  pub final_part_run : (d : ℕ) → seen bare (codes "x" ∷ []) (deep d) no_world final_part 200 ≡ Values (Some (number 11) ∷ [])
  pub final_return_run : (d : ℕ) → seen bare (codes "x" ∷ codes "y" ∷ []) (deep d) no_world final_return 200 ≡ Values (Some (number 2) ∷ Some (number 3) ∷ [])
  pub final_after_return_run : (d : ℕ) → seen bare (codes "x" ∷ codes "y" ∷ []) (deep d) no_world final_after_return 200 ≡ Values (Some (number 5) ∷ Some (number 0) ∷ [])
  pub all_parts_run : (d : ℕ) → seen bare (codes "x" ∷ []) (deep d) no_world all_parts 200 ≡ Values (Some (text (codes "abc")) ∷ [])
  pub thrown_again_run : (d : ℕ) → seen bare (codes "x" ∷ codes "y" ∷ []) (deep d) no_world thrown_again 200 ≡ Values (Some (number 5) ∷ Some (number 2) ∷ [])
  pub final_break_run : (d : ℕ) → seen bare (codes "x" ∷ []) (deep d) no_world final_break 200 ≡ Values (Some (number 3) ∷ [])
  pub caught_error_run : (d : ℕ) → seen realm (codes "x" ∷ codes "y" ∷ []) (deep d) no_world caught_error 200 ≡ Values (Some (truth true) ∷ Some (truth false) ∷ [])
  pub returned_nothing_run : (d : ℕ) → seen bare (codes "x" ∷ codes "y" ∷ []) (deep d) no_world returned_nothing 200 ≡ Values (Some undefined ∷ Some undefined ∷ [])
  pub function_statement_run : (d : ℕ) → seen bare (codes "x" ∷ []) (deep d) no_world function_statement 200 ≡ Values (Some (number 4) ∷ [])
