-- Runs in worlds whose answers are thrown, worked out by hand.
use Rattle.std.specs.Prelude.{◌≡◌, ℕ, pos, true, false, [], ◌∷◌, codes, Some, None}
use Rattle.js_value.specs.declared.operator.BinaryOp.TheVariants as binary
use Rattle.js_value.specs.declared.operator.UnaryOp.TheVariants as unary
use Rattle.js_value.specs.declared.primitive.Kind.TheVariants as kind
use Rattle.js_value.specs.declared.primitive.Primitive.TheVariants as primitive
use Rattle.js_value.specs.declared.why.Why.TheVariants.{PrimitiveThis, AnswerKind}
use Rattle.js_tree.specs.declared.expression.ExprForm.TheVariants as e
use Rattle.js_tree.specs.declared.expression.Field.TheVariants as field
use Rattle.js_tree.specs.declared.statement.Script.{Script}
use Rattle.js_tree.specs.declared.statement.StmtForm.TheVariants as s
use Rattle.js_tree.specs.Refusals.{place}
use Rattle.js_tree.specs.Trees.{expr, stmt, no, declared, declarator, func, handler, final, script}
use Rattle.plain_heap.specs.Values.{number, text, truth, undefined}
use Rattle.js_machine.specs.Machine.RealmObjects.{TypeError, ReferenceError}
use Rattle.js_machine.specs.Machine.Realm.{realm}
use Rattle.machine_cases.specs.RunCases.{Values, Threw, ThrewError, LeavesAt, no_world, answering, given, thrown_answer, deep, bare, seen}

-- __residual("number", "a"); var z = 1;
abbrev pub thrown : Script
thrown = script (stmt 0 (s.Eval (expr 0 (e.HostCall kind.Number (codes "a") []))) ∷ stmt 27 (s.Var (declarator 31 (codes "z") (Some (expr 35 (e.Literal (primitive.Number (pos 1))))) ∷ [])) ∷ []) []

-- var r; try { r = __residual("string", "load"); } catch (e) { r = "no " + e; }
abbrev pub caught : Script
caught = script (stmt 0 (s.Var (declarator 4 (codes "r") None ∷ [])) ∷ stmt 7 (s.Try (stmt 13 (s.Eval (expr 13 (e.Assign (expr 13 (e.Name (codes "r"))) None (expr 17 (e.HostCall kind.Text (codes "load") []))))) ∷ []) (Some (handler 56 (codes "e") (stmt 61 (s.Eval (expr 61 (e.Assign (expr 61 (e.Name (codes "r"))) None (expr 65 (e.Binary binary.Add (expr 65 (e.Literal (primitive.Text (codes "no ")))) (expr 73 (e.Name (codes "e")))))))) ∷ []))) None) ∷ []) []

-- var r; try { r = __residual("string", "load"); } catch (e) { r = "no " + e; }
abbrev pub given_in_try : Script
given_in_try = script (stmt 0 (s.Var (declarator 4 (codes "r") None ∷ [])) ∷ stmt 7 (s.Try (stmt 13 (s.Eval (expr 13 (e.Assign (expr 13 (e.Name (codes "r"))) None (expr 17 (e.HostCall kind.Text (codes "load") []))))) ∷ []) (Some (handler 56 (codes "e") (stmt 61 (s.Eval (expr 61 (e.Assign (expr 61 (e.Name (codes "r"))) None (expr 65 (e.Binary binary.Add (expr 65 (e.Literal (primitive.Text (codes "no ")))) (expr 73 (e.Name (codes "e")))))))) ∷ []))) None) ∷ []) []

-- var x = 0; try { try { __residual("number", "a"); } finally { x = 1; } } catch (e) { x = x + e; }
abbrev pub through_finally : Script
through_finally = script (stmt 0 (s.Var (declarator 4 (codes "x") (Some (expr 8 (e.Literal (primitive.Number (pos 0))))) ∷ [])) ∷ stmt 11 (s.Try (stmt 17 (s.Try (stmt 23 (s.Eval (expr 23 (e.HostCall kind.Number (codes "a") []))) ∷ []) None (Some (final (stmt 62 (s.Eval (expr 62 (e.Assign (expr 62 (e.Name (codes "x"))) None (expr 66 (e.Literal (primitive.Number (pos 1))))))) ∷ [])))) ∷ []) (Some (handler 80 (codes "e") (stmt 85 (s.Eval (expr 85 (e.Assign (expr 85 (e.Name (codes "x"))) None (expr 89 (e.Binary binary.Add (expr 89 (e.Name (codes "x"))) (expr 93 (e.Name (codes "e")))))))) ∷ []))) None) ∷ []) []

-- function f() { try { __residual("number", "a"); } finally { return 2; } } var x = f();
abbrev pub ended_by_finally : Script
ended_by_finally = script (stmt 0 (s.FuncDecl (no 0)) ∷ stmt 74 (s.Var (declarator 78 (codes "x") (Some (expr 82 (e.Call (expr 82 (e.Name (codes "f"))) []))) ∷ [])) ∷ []) (func 0 (Some (declared 9 (codes "f"))) [] (stmt 15 (s.Try (stmt 21 (s.Eval (expr 21 (e.HostCall kind.Number (codes "a") []))) ∷ []) None (Some (final (stmt 60 (s.Return (Some (expr 67 (e.Literal (primitive.Number (pos 2)))))) ∷ [])))) ∷ []) ∷ [])

-- var o = {get a() { return __residual("number", "a"); }}; var x; try { o.a; } catch (e) { x = e; }
abbrev pub in_getter : Script
in_getter = script (stmt 0 (s.Var (declarator 4 (codes "o") (Some (expr 8 (e.ObjectLit (field.Getter (place 13) (codes "a") (no 0) ∷ [])))) ∷ [])) ∷ stmt 57 (s.Var (declarator 61 (codes "x") None ∷ [])) ∷ stmt 64 (s.Try (stmt 70 (s.Eval (expr 70 (e.Member (expr 70 (e.Name (codes "o"))) (codes "a")))) ∷ []) (Some (handler 84 (codes "e") (stmt 89 (s.Eval (expr 89 (e.Assign (expr 89 (e.Name (codes "x"))) None (expr 93 (e.Name (codes "e")))))) ∷ []))) None) ∷ []) (func 14 None [] (stmt 19 (s.Return (Some (expr 26 (e.HostCall kind.Number (codes "a") [])))) ∷ []) ∷ [])

-- function f(a) { return 1; } var x; try { x = f(__residual("number", "a")); } catch (e) { x = e; }
abbrev pub in_argument : Script
in_argument = script (stmt 0 (s.FuncDecl (no 0)) ∷ stmt 28 (s.Var (declarator 32 (codes "x") None ∷ [])) ∷ stmt 35 (s.Try (stmt 41 (s.Eval (expr 41 (e.Assign (expr 41 (e.Name (codes "x"))) None (expr 45 (e.Call (expr 45 (e.Name (codes "f"))) (expr 47 (e.HostCall kind.Number (codes "a") []) ∷ [])))))) ∷ []) (Some (handler 84 (codes "e") (stmt 89 (s.Eval (expr 89 (e.Assign (expr 89 (e.Name (codes "x"))) None (expr 93 (e.Name (codes "e")))))) ∷ []))) None) ∷ []) (func 0 (Some (declared 9 (codes "f"))) (declared 11 (codes "a") ∷ []) (stmt 16 (s.Return (Some (expr 23 (e.Literal (primitive.Number (pos 1)))))) ∷ []) ∷ [])

-- __residual("string", "load");
abbrev pub of_another_kind : Script
of_another_kind = script (stmt 0 (s.Eval (expr 0 (e.HostCall kind.Text (codes "load") []))) ∷ []) []

-- var x, y; try { x = __residual("number", "a"); } catch (e) { x = e; } y = __residual("number", "b");
abbrev pub two_answers : Script
two_answers = script (stmt 0 (s.Var (declarator 4 (codes "x") None ∷ declarator 7 (codes "y") None ∷ [])) ∷ stmt 10 (s.Try (stmt 16 (s.Eval (expr 16 (e.Assign (expr 16 (e.Name (codes "x"))) None (expr 20 (e.HostCall kind.Number (codes "a") []))))) ∷ []) (Some (handler 56 (codes "e") (stmt 61 (s.Eval (expr 61 (e.Assign (expr 61 (e.Name (codes "x"))) None (expr 65 (e.Name (codes "e")))))) ∷ []))) None) ∷ stmt 70 (s.Eval (expr 70 (e.Assign (expr 70 (e.Name (codes "y"))) None (expr 74 (e.HostCall kind.Number (codes "b") []))))) ∷ []) []

-- var x = 0; function f() { x = 1; return 1; } try { __residual("number", "a") + f(); } catch (e) { }
abbrev pub before_the_right_operand : Script
before_the_right_operand = script (stmt 0 (s.Var (declarator 4 (codes "x") (Some (expr 8 (e.Literal (primitive.Number (pos 0))))) ∷ [])) ∷ stmt 11 (s.FuncDecl (no 0)) ∷ stmt 45 (s.Try (stmt 51 (s.Eval (expr 51 (e.Binary binary.Add (expr 51 (e.HostCall kind.Number (codes "a") [])) (expr 79 (e.Call (expr 79 (e.Name (codes "f"))) []))))) ∷ []) (Some (handler 93 (codes "e") [])) None) ∷ []) (func 11 (Some (declared 20 (codes "f"))) [] (stmt 26 (s.Eval (expr 26 (e.Assign (expr 26 (e.Name (codes "x"))) None (expr 30 (e.Literal (primitive.Number (pos 1))))))) ∷ stmt 33 (s.Return (Some (expr 40 (e.Literal (primitive.Number (pos 1)))))) ∷ []) ∷ [])

-- var x; try { __residual("boolean", "b"); } catch (e) { x = e ? 1 : 2; }
abbrev pub thrown_truth : Script
thrown_truth = script (stmt 0 (s.Var (declarator 4 (codes "x") None ∷ [])) ∷ stmt 7 (s.Try (stmt 13 (s.Eval (expr 13 (e.HostCall kind.Boolean (codes "b") []))) ∷ []) (Some (handler 50 (codes "e") (stmt 55 (s.Eval (expr 55 (e.Assign (expr 55 (e.Name (codes "x"))) None (expr 59 (e.Conditional (expr 59 (e.Name (codes "e"))) (expr 63 (e.Literal (primitive.Number (pos 1)))) (expr 67 (e.Literal (primitive.Number (pos 2))))))))) ∷ []))) None) ∷ []) []

pub record ThrownRuns : Type 0 where
  pub thrown_run : (d : ℕ) → seen bare [] (deep d) (answering (thrown_answer (primitive.Number (pos 7)) ∷ [])) thrown 200 ≡ Threw (number 7)
  pub caught_run : (d : ℕ) → seen bare (codes "r" ∷ []) (deep d) (answering (thrown_answer (primitive.Text (codes "gone")) ∷ [])) caught 200 ≡ Values (Some (text (codes "no gone")) ∷ [])
  pub given_in_try_run : (d : ℕ) → seen bare (codes "r" ∷ []) (deep d) (answering (given (primitive.Text (codes "ok")) ∷ [])) given_in_try 200 ≡ Values (Some (text (codes "ok")) ∷ [])
  pub through_finally_run : (d : ℕ) → seen bare (codes "x" ∷ []) (deep d) (answering (thrown_answer (primitive.Number (pos 7)) ∷ [])) through_finally 200 ≡ Values (Some (number 8) ∷ [])
  pub ended_by_finally_run : (d : ℕ) → seen bare (codes "x" ∷ []) (deep d) (answering (thrown_answer (primitive.Number (pos 7)) ∷ [])) ended_by_finally 200 ≡ Values (Some (number 2) ∷ [])
  pub in_getter_run : (d : ℕ) → seen bare (codes "x" ∷ []) (deep d) (answering (thrown_answer (primitive.Number (pos 7)) ∷ [])) in_getter 200 ≡ Values (Some (number 7) ∷ [])
  pub in_argument_run : (d : ℕ) → seen bare (codes "x" ∷ []) (deep d) (answering (thrown_answer (primitive.Number (pos 7)) ∷ [])) in_argument 200 ≡ Values (Some (number 7) ∷ [])
  pub of_another_kind_run : (d : ℕ) → seen bare [] (deep d) (answering (thrown_answer (primitive.Number (pos 7)) ∷ [])) of_another_kind 200 ≡ LeavesAt AnswerKind 0
  pub two_answers_run : (d : ℕ) → seen bare (codes "x" ∷ codes "y" ∷ []) (deep d) (answering (thrown_answer (primitive.Number (pos 7)) ∷ given (primitive.Number (pos 8)) ∷ [])) two_answers 200 ≡ Values (Some (number 7) ∷ Some (number 8) ∷ [])
  pub before_the_right_operand_run : (d : ℕ) → seen bare (codes "x" ∷ []) (deep d) (answering (thrown_answer (primitive.Number (pos 7)) ∷ [])) before_the_right_operand 200 ≡ Values (Some (number 0) ∷ [])
  pub thrown_truth_run : (d : ℕ) → seen bare (codes "x" ∷ []) (deep d) (answering (thrown_answer (primitive.Boolean true) ∷ [])) thrown_truth 200 ≡ Values (Some (number 1) ∷ [])
