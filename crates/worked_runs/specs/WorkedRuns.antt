-- Whole texts of runs on the realm, worked out by hand.
use Rattle.std.specs.Prelude.{◌≡◌, ℕ, pos, true, List, [], ◌∷◌, ◌++◌, codes, Some, None}
use Rattle.js_value.specs.declared.operator.BinaryOp.TheVariants as binary
use Rattle.js_value.specs.declared.operator.UnaryOp.TheVariants as unary
use Rattle.js_value.specs.declared.primitive.Primitive.TheVariants as primitive
use Rattle.js_value.specs.declared.why.Why.TheVariants.{MinusZero}
use Rattle.js_tree.specs.Refusals.{place}
use Rattle.js_tree.specs.Trees.{expr, name, stmt, no, declared, declarator, func, script}
use Rattle.js_tree.specs.declared.expression.ExprForm.TheVariants as e
use Rattle.js_tree.specs.declared.expression.Field.TheVariants as field
use Rattle.js_tree.specs.declared.statement.Func.{Func}
use Rattle.js_tree.specs.declared.statement.Script.{Script}
use Rattle.js_tree.specs.declared.statement.StmtForm.TheVariants as s
use Rattle.js_machine.specs.Machine.RunText.{line, outcome_text}
use Rattle.js_machine.specs.Machine.Walks.{Left, plain}
use Rattle.machine_cases.specs.RunCases.{no_world}
use Rattle.machine_cases.specs.TextCases.{a_number_text, a_cycle_text, a_function_text, realm_changes_text, function_script}

-- no text
abbrev pub nothing : Script
nothing =
    script [] []

-- var x = 1 + 2;
abbrev pub sum_script : Script
sum_script =
    script (stmt 0 (s.Var (declarator 4 (codes "x") (Some (expr 8 (e.Binary binary.Add (expr 8 (e.Literal (primitive.Number (pos 1)))) (expr 12 (e.Literal (primitive.Number (pos 2))))))) ∷ []))
    ∷ []) []

-- var z = 0 * -1;
abbrev pub minus_zero_script : Script
minus_zero_script =
    script (stmt 0 (s.Var (declarator 4 (codes "z") (Some (expr 8 (e.Binary binary.Mul (expr 8 (e.Literal (primitive.Number (pos 0)))) (expr 12 (e.Unary unary.Minus (expr 13 (e.Literal (primitive.Number (pos 1))))))))) ∷ []))
    ∷ []) []

-- var a = {}; a.self = a;
abbrev pub cycle_script : Script
cycle_script =
    script (stmt 0 (s.Var (declarator 4 (codes "a") (Some (expr 8 (e.ObjectLit []))) ∷ []))
    ∷ stmt 12 (s.Eval (expr 12 (e.Assign (expr 12 (e.Member (name 12 (codes "a")) (codes "self"))) None (name 21 (codes "a")))))
    ∷ []) []

-- var a = Object.create(null); a.k = 1; Object.defineProperty = 1; delete Array.prototype.push;
abbrev pub changes_script : Script
changes_script =
    script (stmt 0 (s.Var (declarator 4 (codes "a") (Some (expr 8 (e.Call (expr 8 (e.Member (name 8 (codes "Object")) (codes "create"))) (expr 22 (e.Literal primitive.Null) ∷ [])))) ∷ []))
    ∷ stmt 29 (s.Eval (expr 29 (e.Assign (expr 29 (e.Member (name 29 (codes "a")) (codes "k"))) None (expr 35 (e.Literal (primitive.Number (pos 1)))))))
    ∷ stmt 38 (s.Eval (expr 38 (e.Assign (expr 38 (e.Member (name 38 (codes "Object")) (codes "defineProperty"))) None (expr 62 (e.Literal (primitive.Number (pos 1)))))))
    ∷ stmt 65 (s.Eval (expr 65 (e.Unary unary.Delete (expr 72 (e.Member (expr 72 (e.Member (name 72 (codes "Array")) (codes "prototype"))) (codes "push"))))))
    ∷ []) []

-- the functions of the counter, in the order of their numbers

abbrev pub make_function : Func
make_function =
    func 0 (Some (declared 9 (codes "make"))) [] (stmt 18 (s.Var (declarator 22 (codes "n") (Some (expr 26 (e.Literal (primitive.Number (pos 0))))) ∷ [])) ∷ stmt 29 (s.Return (Some (expr 36 (e.ObjectLit (field.Value (place 38) (codes "inc") (expr 43 (e.Func (no 1))) ∷ field.Value (place 81) (codes "get") (expr 86 (e.Func (no 2))) ∷ []))))) ∷ [])

abbrev pub inc_function : Func
inc_function =
    func 43 None [] (stmt 57 (s.Eval (expr 57 (e.Assign (name 57 (codes "n")) None (expr 61 (e.Binary binary.Add (name 61 (codes "n")) (expr 65 (e.Literal (primitive.Number (pos 1))))))))) ∷ stmt 68 (s.Return (Some (name 75 (codes "n")))) ∷ [])

abbrev pub get_function : Func
get_function =
    func 86 None [] (stmt 100 (s.Return (Some (name 107 (codes "n")))) ∷ [])

-- function make() { var n = 0; return { inc: function () { n = n + 1; return n; }, get: function () { return n; } }; } var c = make(); c.inc(); c.inc();
abbrev pub counter_script : Script
counter_script =
    script (stmt 0 (s.FuncDecl (no 0))
    ∷ stmt 117 (s.Var (declarator 121 (codes "c") (Some (expr 125 (e.Call (name 125 (codes "make")) []))) ∷ []))
    ∷ stmt 133 (s.Eval (expr 133 (e.Call (expr 133 (e.Member (name 133 (codes "c")) (codes "inc"))) [])))
    ∷ stmt 142 (s.Eval (expr 142 (e.Call (expr 142 (e.Member (name 142 (codes "c")) (codes "inc"))) [])))
    ∷ []) (make_function ∷ inc_function ∷ get_function ∷ [])

abbrev pub counter_text : List ℕ
counter_text =
    line (codes "normal")
    ++ line (codes "global")
    ++ line (codes "  \"make\" = #1 we-")
    ++ line (codes "  \"c\" = #2 we-")
    ++ line (codes "#1 function Function.prototype")
    ++ line (codes "  code function ( ) { var n = 0 ; return { inc : function ( ) { n = n + 1 ; return n ; } , get : function ( ) { return n ; } } ; }")
    ++ line (codes "  \"length\" = 0 ---")
    ++ line (codes "  \"prototype\" = #3 w--")
    ++ line (codes "#2 object Object.prototype")
    ++ line (codes "  \"inc\" = #4 wec")
    ++ line (codes "  \"get\" = #5 wec")
    ++ line (codes "#3 object Object.prototype")
    ++ line (codes "  \"constructor\" = #1 w-c")
    ++ line (codes "#4 function Function.prototype")
    ++ line (codes "  code function ( ) { %1 = %1 + 1 ; return %1 ; }")
    ++ line (codes "  cells @1")
    ++ line (codes "  \"length\" = 0 ---")
    ++ line (codes "  \"prototype\" = #6 w--")
    ++ line (codes "#5 function Function.prototype")
    ++ line (codes "  code function ( ) { return %1 ; }")
    ++ line (codes "  cells @1")
    ++ line (codes "  \"length\" = 0 ---")
    ++ line (codes "  \"prototype\" = #7 w--")
    ++ line (codes "#6 object Object.prototype")
    ++ line (codes "  \"constructor\" = #4 w-c")
    ++ line (codes "@1 = 2")
    ++ line (codes "#7 object Object.prototype")
    ++ line (codes "  \"constructor\" = #5 w-c")

-- function make(n) { return function () { return n; }; } var a = make(1), b = make(2), c = make(3);
abbrev pub makers_script : Script
makers_script =
    script (stmt 0 (s.FuncDecl (no 0))
    ∷ stmt 55 (s.Var (declarator 59 (codes "a") (Some (expr 63 (e.Call (name 63 (codes "make")) (expr 68 (e.Literal (primitive.Number (pos 1))) ∷ [])))) ∷ declarator 72 (codes "b") (Some (expr 76 (e.Call (name 76 (codes "make")) (expr 81 (e.Literal (primitive.Number (pos 2))) ∷ [])))) ∷ declarator 85 (codes "c") (Some (expr 89 (e.Call (name 89 (codes "make")) (expr 94 (e.Literal (primitive.Number (pos 3))) ∷ [])))) ∷ []))
    ∷ []) (func 0 (Some (declared 9 (codes "make"))) (declared 14 (codes "n") ∷ []) (stmt 19 (s.Return (Some (expr 26 (e.Func (no 1))))) ∷ [])
    ∷ func 26 None [] (stmt 40 (s.Return (Some (name 47 (codes "n")))) ∷ [])
    ∷ [])

abbrev pub makers_text : List ℕ
makers_text =
    line (codes "normal")
    ++ line (codes "global")
    ++ line (codes "  \"make\" = #1 we-")
    ++ line (codes "  \"a\" = #2 we-")
    ++ line (codes "  \"b\" = #3 we-")
    ++ line (codes "  \"c\" = #4 we-")
    ++ line (codes "#1 function Function.prototype")
    ++ line (codes "  code function ( n ) { return function ( ) { return n ; } ; }")
    ++ line (codes "  \"length\" = 1 ---")
    ++ line (codes "  \"prototype\" = #5 w--")
    ++ line (codes "#2 function Function.prototype")
    ++ line (codes "  code function ( ) { return %1 ; }")
    ++ line (codes "  cells @1")
    ++ line (codes "  \"length\" = 0 ---")
    ++ line (codes "  \"prototype\" = #6 w--")
    ++ line (codes "#3 function Function.prototype")
    ++ line (codes "  code function ( ) { return %1 ; }")
    ++ line (codes "  cells @2")
    ++ line (codes "  \"length\" = 0 ---")
    ++ line (codes "  \"prototype\" = #7 w--")
    ++ line (codes "#4 function Function.prototype")
    ++ line (codes "  code function ( ) { return %1 ; }")
    ++ line (codes "  cells @3")
    ++ line (codes "  \"length\" = 0 ---")
    ++ line (codes "  \"prototype\" = #8 w--")
    ++ line (codes "#5 object Object.prototype")
    ++ line (codes "  \"constructor\" = #1 w-c")
    ++ line (codes "#6 object Object.prototype")
    ++ line (codes "  \"constructor\" = #2 w-c")
    ++ line (codes "@1 = 1")
    ++ line (codes "#7 object Object.prototype")
    ++ line (codes "  \"constructor\" = #3 w-c")
    ++ line (codes "@2 = 2")
    ++ line (codes "#8 object Object.prototype")
    ++ line (codes "  \"constructor\" = #4 w-c")
    ++ line (codes "@3 = 3")

-- var p = {}; Object.defineProperty(p, "v", {set: function (x) { hits = hits + 1; }}); var o = Object.create(p); Object.defineProperty(o, "v", {value: 1, writable: true}); var hits = 0;
abbrev pub inherited_setter_script : Script
inherited_setter_script =
    script (stmt 0 (s.Var (declarator 4 (codes "p") (Some (expr 8 (e.ObjectLit []))) ∷ []))
    ∷ stmt 12 (s.Eval (expr 12 (e.Call (expr 12 (e.Member (name 12 (codes "Object")) (codes "defineProperty"))) (name 34 (codes "p") ∷ expr 37 (e.Literal (primitive.Text (codes "v"))) ∷ expr 42 (e.ObjectLit (field.Value (place 43) (codes "set") (expr 48 (e.Func (no 0))) ∷ [])) ∷ []))))
    ∷ stmt 85 (s.Var (declarator 89 (codes "o") (Some (expr 93 (e.Call (expr 93 (e.Member (name 93 (codes "Object")) (codes "create"))) (name 107 (codes "p") ∷ [])))) ∷ []))
    ∷ stmt 111 (s.Eval (expr 111 (e.Call (expr 111 (e.Member (name 111 (codes "Object")) (codes "defineProperty"))) (name 133 (codes "o") ∷ expr 136 (e.Literal (primitive.Text (codes "v"))) ∷ expr 141 (e.ObjectLit (field.Value (place 142) (codes "value") (expr 149 (e.Literal (primitive.Number (pos 1)))) ∷ field.Value (place 152) (codes "writable") (expr 162 (e.Literal (primitive.Boolean true))) ∷ [])) ∷ []))))
    ∷ stmt 170 (s.Var (declarator 174 (codes "hits") (Some (expr 181 (e.Literal (primitive.Number (pos 0))))) ∷ []))
    ∷ []) (func 48 None (declared 58 (codes "x") ∷ []) (stmt 63 (s.Eval (expr 63 (e.Assign (name 63 (codes "hits")) None (expr 70 (e.Binary binary.Add (name 70 (codes "hits")) (expr 77 (e.Literal (primitive.Number (pos 1))))))))) ∷ [])
    ∷ [])

abbrev pub inherited_setter_text : List ℕ
inherited_setter_text =
    line (codes "normal")
    ++ line (codes "global")
    ++ line (codes "  \"p\" = #1 we-")
    ++ line (codes "  \"o\" = #2 we-")
    ++ line (codes "  \"hits\" = 0 we-")
    ++ line (codes "#1 object Object.prototype")
    ++ line (codes "  \"v\" get undefined set #3 --")
    ++ line (codes "#2 object #1")
    ++ line (codes "  \"v\" = 1 w--")
    ++ line (codes "#3 function Function.prototype")
    ++ line (codes "  code function ( x ) { hits = hits + 1 ; }")
    ++ line (codes "  \"length\" = 1 ---")
    ++ line (codes "  \"prototype\" = #4 w--")
    ++ line (codes "#4 object Object.prototype")
    ++ line (codes "  \"constructor\" = #3 w-c")

-- var o = {v: 1}; Object.defineProperty(Object.prototype, "v", {set: function () { throw 1; }, configurable: true});
abbrev pub throwing_setter_script : Script
throwing_setter_script =
    script (stmt 0 (s.Var (declarator 4 (codes "o") (Some (expr 8 (e.ObjectLit (field.Value (place 9) (codes "v") (expr 12 (e.Literal (primitive.Number (pos 1)))) ∷ [])))) ∷ []))
    ∷ stmt 16 (s.Eval (expr 16 (e.Call (expr 16 (e.Member (name 16 (codes "Object")) (codes "defineProperty"))) (expr 38 (e.Member (name 38 (codes "Object")) (codes "prototype")) ∷ expr 56 (e.Literal (primitive.Text (codes "v"))) ∷ expr 61 (e.ObjectLit (field.Value (place 62) (codes "set") (expr 67 (e.Func (no 0))) ∷ field.Value (place 93) (codes "configurable") (expr 107 (e.Literal (primitive.Boolean true))) ∷ [])) ∷ []))))
    ∷ []) (func 67 None [] (stmt 81 (s.Throw (expr 87 (e.Literal (primitive.Number (pos 1))))) ∷ [])
    ∷ [])

abbrev pub throwing_setter_text : List ℕ
throwing_setter_text =
    line (codes "normal")
    ++ line (codes "global")
    ++ line (codes "  \"o\" = #1 we-")
    ++ line (codes "Object.prototype")
    ++ line (codes "  \"v\" get undefined set #2 -c")
    ++ line (codes "#1 object Object.prototype")
    ++ line (codes "  \"v\" = 1 wec")
    ++ line (codes "#2 function Function.prototype")
    ++ line (codes "  code function ( ) { throw 1 ; }")
    ++ line (codes "  \"length\" = 0 ---")
    ++ line (codes "  \"prototype\" = #3 w--")
    ++ line (codes "#3 object Object.prototype")
    ++ line (codes "  \"constructor\" = #2 w-c")

-- each run may take 200 steps, and ends or leaves within them
pub record WorkedRuns : Type 0 where
  pub nothing_run : outcome_text nothing.funcs (plain nothing no_world 200) ≡ Some (line (codes "normal"))
  pub sum_run : outcome_text sum_script.funcs (plain sum_script no_world 200) ≡ Some a_number_text
  pub minus_zero_run : plain minus_zero_script no_world 200 ≡ Left MinusZero (place 8)
  pub cycle_run : outcome_text cycle_script.funcs (plain cycle_script no_world 200) ≡ Some a_cycle_text
  pub function_run : outcome_text function_script.funcs (plain function_script no_world 200) ≡ Some a_function_text
  pub changes_run : outcome_text changes_script.funcs (plain changes_script no_world 200) ≡ Some realm_changes_text
  pub counter_run : outcome_text counter_script.funcs (plain counter_script no_world 200) ≡ Some counter_text
  pub makers_run : outcome_text makers_script.funcs (plain makers_script no_world 200) ≡ Some makers_text
  pub inherited_setter_run : outcome_text inherited_setter_script.funcs (plain inherited_setter_script no_world 200) ≡ Some inherited_setter_text
  pub throwing_setter_run : outcome_text throwing_setter_script.funcs (plain throwing_setter_script no_world 200) ≡ Some throwing_setter_text
