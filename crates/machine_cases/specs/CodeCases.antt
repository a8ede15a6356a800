-- Codes of functions in listings, worked out by hand: the k-th free name that a scope binds is written `%k` wherever it stands.
use Rattle.std.specs.Prelude.{true, false, ◌≡◌, ℕ, pos, List, [], ◌∷◌, ◌++◌, codes, Some, None}
use Rattle.js_value.specs.declared.operator.BinaryOp.TheVariants as binary
use Rattle.js_value.specs.declared.primitive.Primitive.TheVariants as primitive
use Rattle.js_tree.specs.Mentions.{Names}
use Rattle.js_tree.specs.Trees.{expr, stmt, no, declared, declarator, func, handler, script}
use Rattle.js_tree.specs.declared.statement.Func.{Func}
use Rattle.js_machine.specs.Machine.Codes.{code}
use Rattle.js_tree.specs.declared.expression.ExprForm.TheVariants as e
use Rattle.js_tree.specs.declared.statement.Script.{Script}
use Rattle.js_tree.specs.declared.statement.StmtForm.TheVariants as s
use Rattle.plain_heap.specs.Heap.{Heap, add_object, new_cell}
use Rattle.plain_heap.specs.Values.{number}
use Rattle.machine_cases.specs.ListingCases.{holding}
use Rattle.js_machine.specs.Machine.Listed.{CellRow, DataLine, FunctionObject, Listed, listing_by, NewObject, NewRow, PlainObject, RealmObject, RealmRow, Row}
use Rattle.js_machine.specs.Machine.Realm.{realm}
use Rattle.js_machine.specs.Machine.RealmObjects.{global, function_prototype, object_prototype}
use Rattle.js_machine.specs.Machine.RunText.{code_line}
use Rattle.js_machine.specs.Machine.Walks.{Normally}
use Rattle.script_text.specs.CodeLine.{code_text}
use Rattle.js_machine.specs.Machine.Creating.{function_state, prototype_state}

-- var f = (function (a, b) { return function () { return b + a + b; }; })(1, 2);
abbrev pub two_names : Script
two_names =
    script (stmt 0 (s.Var (declarator 4 (codes "f") (Some (expr 9 (e.Call (expr 9 (e.Func (no 0))) (expr 72 (e.Literal (primitive.Number (pos 1))) ∷ expr 75 (e.Literal (primitive.Number (pos 2))) ∷ [])))) ∷ [])) ∷ []) (func 9 None (declared 19 (codes "a") ∷ declared 22 (codes "b") ∷ []) (stmt 27 (s.Return (Some (expr 34 (e.Func (no 1))))) ∷ []) ∷ func 34 None [] (stmt 48 (s.Return (Some (expr 55 (e.Binary binary.Add (expr 55 (e.Binary binary.Add (expr 55 (e.Name (codes "b"))) (expr 59 (e.Name (codes "a"))))) (expr 63 (e.Name (codes "b"))))))) ∷ []) ∷ [])

-- var f = function g() { return g; };
abbrev pub own_name : Script
own_name =
    script (stmt 0 (s.Var (declarator 4 (codes "f") (Some (expr 8 (e.Func (no 0)))) ∷ [])) ∷ []) (func 8 (Some (declared 17 (codes "g"))) [] (stmt 23 (s.Return (Some (expr 30 (e.Name (codes "g"))))) ∷ []) ∷ [])

-- ---- after the run of the first script, whose outer function nothing leads to

abbrev pub after_two_names : Heap
after_two_names =
    new_cell (number 2) (new_cell (number 1)
    (add_object (prototype_state 43) (add_object (function_state (no 1) ((codes "a", 0) ∷ (codes "b", 1) ∷ []) false 0 44) (add_object (prototype_state 41) (add_object (function_state (no 0) [] false 2 42) (holding (codes "f") 43 realm))))))

-- ---- trees

-- (function () { return B + A + B; }), for two names
abbrev pub inner_tree : List ℕ → List ℕ → Script
inner_tree b a =
    script (stmt 0 (s.Eval (expr 0 (e.Func (no 0)))) ∷ []) (func 0 None [] (stmt 0 (s.Return (Some (expr 0 (e.Binary binary.Add (expr 0 (e.Binary binary.Add (expr 0 (e.Name b)) (expr 0 (e.Name a)))) (expr 0 (e.Name b)))))) ∷ []) ∷ [])

-- (function (n) { try { n(m, e); } catch (e) { return function f() { return f(e, n, m); }; } })
abbrev pub nested_code : List Func
nested_code =
    func 0 (Some (declared 9 (codes "g"))) (declared 11 (codes "n") ∷ [])
    (stmt 14 (s.Try (stmt 16 (s.Eval (expr 18 (e.Call (expr 18 (e.Name (codes "n"))) (expr 20 (e.Name (codes "m")) ∷ expr 23 (e.Name (codes "e")) ∷ [])))) ∷ [])
    (Some (handler 30 (codes "e") (stmt 40 (s.Return (Some (expr 47 (e.Func (no 1))))) ∷ []))) None) ∷ [])
    ∷ func 47 (Some (declared 56 (codes "f"))) []
    (stmt 62 (s.Return (Some (expr 69 (e.Call (expr 69 (e.Name (codes "f"))) (expr 71 (e.Name (codes "e")) ∷ expr 74 (e.Name (codes "n")) ∷ expr 77 (e.Name (codes "m")) ∷ []))))) ∷ [])
    ∷ []

-- the handler's name, the parameter and the own name are bound by the code; the handler's name is free before it
abbrev pub nested_tree : Script
nested_tree =
    script (stmt 0 (s.Eval (expr 0 (e.Func (no 0)))) ∷ [])
    (func 0 None (declared 0 (codes "n") ∷ [])
    (stmt 0 (s.Try (stmt 0 (s.Eval (expr 0 (e.Call (expr 0 (e.Name (codes "n"))) (expr 0 (e.Name (codes "%1")) ∷ expr 0 (e.Name (codes "%2")) ∷ [])))) ∷ [])
    (Some (handler 0 (codes "e") (stmt 0 (s.Return (Some (expr 0 (e.Func (no 1))))) ∷ []))) None) ∷ [])
    ∷ func 0 (Some (declared 0 (codes "f"))) []
    (stmt 0 (s.Return (Some (expr 0 (e.Call (expr 0 (e.Name (codes "f"))) (expr 0 (e.Name (codes "e")) ∷ expr 0 (e.Name (codes "n")) ∷ expr 0 (e.Name (codes "%1")) ∷ []))))) ∷ [])
    ∷ [])

abbrev pub two_names_rows : List Row
two_names_rows =
    RealmRow global false [] [] (DataLine (codes "f") (NewObject 1) true true false ∷ [])
    ∷ NewRow 1 (FunctionObject (inner_tree (codes "%1") (codes "%2")) false (1 ∷ 2 ∷ [])) (RealmObject function_prototype) false
    (DataLine (codes "length") (Listed (number 0)) false false false ∷ DataLine (codes "prototype") (NewObject 2) true false false ∷ [])
    ∷ NewRow 2 PlainObject (RealmObject object_prototype) false (DataLine (codes "constructor") (NewObject 1) true false true ∷ [])
    ∷ CellRow 1 (Listed (number 2))
    ∷ CellRow 2 (Listed (number 1))
    ∷ []

pub record CodeCases : Type 0 where
  pub both_bound : code_text two_names (no 1) (codes "b" ∷ codes "a" ∷ []) ≡ codes "function ( ) { return %1 + %2 + %1 ; }"
  -- where no scope binds `b`
  pub one_bound : code_text two_names (no 1) (codes "a" ∷ []) ≡ codes "function ( ) { return b + %1 + b ; }"
  -- the outer function's parameters are bound by its own code
  pub parameters : code_text two_names (no 0) [] ≡ codes "function ( a , b ) { return function ( ) { return b + a + b ; } ; }"
  -- the own name of a named expression is free in it, and isn't shown where it is declared
  pub own_bound : code_text own_name (no 0) (codes "g" ∷ []) ≡ codes "function ( ) { return %1 ; }"
  -- the trees that listings hold
  pub both_tree : code two_names.funcs (no 1) (codes "b" ∷ codes "a" ∷ []) ≡ inner_tree (codes "%1") (codes "%2")
  pub one_tree : code two_names.funcs (no 1) (codes "a" ∷ []) ≡ inner_tree (codes "b") (codes "%1")
  pub nested_tree_is : code nested_code (no 0) (codes "m" ∷ codes "e" ∷ []) ≡ nested_tree
  -- the cells stand in the order of the names
  pub listed : listing_by (code two_names.funcs) (λ f. codes "b" ∷ codes "a" ∷ []) after_two_names Normally ≡ two_names_rows
  -- and their line in the text of a run
  pub line_of_tree : code_line (inner_tree (codes "%1") (codes "%2")) ≡ codes "function ( ) { return %1 + %2 + %1 ; }"
