-- Runs in worlds, worked out by hand.
use Rattle.std.specs.Prelude.{◌≡◌, ℕ, pos, true, [], ◌∷◌, codes, Some}
use Rattle.js_value.specs.declared.operator.BinaryOp.TheVariants as binary
use Rattle.js_value.specs.declared.primitive.Kind.TheVariants as kind
use Rattle.js_value.specs.declared.primitive.Primitive.TheVariants as primitive
use Rattle.js_value.specs.declared.why.Why.TheVariants.{HostArgument, NoAnswer, AnswerKind, NoInput, InputKind}
use Rattle.js_tree.specs.declared.expression.ExprForm.TheVariants as e
use Rattle.js_tree.specs.declared.statement.Script.{Script}
use Rattle.js_tree.specs.declared.statement.StmtForm.TheVariants as s
use Rattle.js_tree.specs.Trees.{expr, stmt, declarator, script}
use Rattle.plain_heap.specs.Values.{number, text}
use Rattle.js_machine.specs.Machine.RealmObjects.{ReferenceError}
use Rattle.machine_cases.specs.RunCases.{Values, ThrewError, LeavesAt, no_world, deep, bare, seen, given}

-- var x = __abstract("number", "n") + 1;
abbrev pub input : Script
input = script (stmt 0 (s.Var (declarator 4 (codes "x") (Some (expr 8 (e.Binary binary.Add (expr 8 (e.Input kind.Number (codes "n"))) (expr 36 (e.Literal (primitive.Number (pos 1))))))) ∷ [])) ∷ []) []

-- var x = __abstract("number", "n");
abbrev pub no_input : Script
no_input = script (stmt 0 (s.Var (declarator 4 (codes "x") (Some (expr 8 (e.Input kind.Number (codes "n")))) ∷ [])) ∷ []) []

-- var x = __abstract("number", "n");
abbrev pub input_kind : Script
input_kind = script (stmt 0 (s.Var (declarator 4 (codes "x") (Some (expr 8 (e.Input kind.Number (codes "n")))) ∷ [])) ∷ []) []

-- var x = __residual("number", "now", 1), y = __residual("string", "b");
abbrev pub host_call : Script
host_call = script (stmt 0 (s.Var (declarator 4 (codes "x") (Some (expr 8 (e.HostCall kind.Number (codes "now") (expr 36 (e.Literal (primitive.Number (pos 1))) ∷ [])))) ∷ declarator 40 (codes "y") (Some (expr 44 (e.HostCall kind.Text (codes "b") []))) ∷ [])) ∷ []) []

-- var x = __residual("number", "a"), y = __residual("number", "b");
abbrev pub no_answer : Script
no_answer = script (stmt 0 (s.Var (declarator 4 (codes "x") (Some (expr 8 (e.HostCall kind.Number (codes "a") []))) ∷ declarator 35 (codes "y") (Some (expr 39 (e.HostCall kind.Number (codes "b") []))) ∷ [])) ∷ []) []

-- var x = __residual("number", "a");
abbrev pub answer_kind : Script
answer_kind = script (stmt 0 (s.Var (declarator 4 (codes "x") (Some (expr 8 (e.HostCall kind.Number (codes "a") []))) ∷ [])) ∷ []) []

-- __residual("number", "a", {});
abbrev pub host_argument : Script
host_argument = script (stmt 0 (s.Eval (expr 0 (e.HostCall kind.Number (codes "a") (expr 26 (e.ObjectLit []) ∷ [])))) ∷ []) []

-- __residual("number", "a", {}, f());
abbrev pub host_arguments_first : Script
host_arguments_first = script (stmt 0 (s.Eval (expr 0 (e.HostCall kind.Number (codes "a") (expr 26 (e.ObjectLit []) ∷ expr 30 (e.Call (expr 30 (e.Name (codes "f"))) []) ∷ [])))) ∷ []) []

pub record WorldRuns : Type 0 where
  pub input_run : (d : ℕ) → seen bare (codes "x" ∷ []) (deep d) (record { inputs = (codes "n", primitive.Number (pos 4)) ∷ []; answers = [] }) input 200 ≡ Values (Some (number 5) ∷ [])
  pub no_input_run : (d : ℕ) → seen bare [] (deep d) (record { inputs = (codes "m", primitive.Number (pos 4)) ∷ []; answers = [] }) no_input 200 ≡ LeavesAt NoInput 8
  pub input_kind_run : (d : ℕ) → seen bare [] (deep d) (record { inputs = (codes "n", primitive.Text (codes "a")) ∷ []; answers = [] }) input_kind 200 ≡ LeavesAt InputKind 8
  pub host_call_run : (d : ℕ) → seen bare (codes "x" ∷ codes "y" ∷ []) (deep d) (record { inputs = []; answers = given (primitive.Number (pos 7)) ∷ given (primitive.Text (codes "c")) ∷ [] }) host_call 200 ≡ Values (Some (number 7) ∷ Some (text (codes "c")) ∷ [])
  pub no_answer_run : (d : ℕ) → seen bare [] (deep d) (record { inputs = []; answers = given (primitive.Number (pos 7)) ∷ [] }) no_answer 200 ≡ LeavesAt NoAnswer 39
  pub answer_kind_run : (d : ℕ) → seen bare [] (deep d) (record { inputs = []; answers = given (primitive.Boolean true) ∷ [] }) answer_kind 200 ≡ LeavesAt AnswerKind 8
  pub host_argument_run : (d : ℕ) → seen bare [] (deep d) no_world host_argument 200 ≡ LeavesAt HostArgument 0
  pub host_arguments_first_run : (d : ℕ) → seen bare [] (deep d) no_world host_arguments_first 200 ≡ ThrewError ReferenceError
