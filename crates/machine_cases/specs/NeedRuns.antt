-- Where and why runs along choices stop at a symbol, worked out by hand: as a key, as a base, as a length, as a number that a built-in
-- takes, and where any primitive would leave.
use Rattle.std.specs.Prelude.{List, false, Bool, true, false, ◌≡◌, ℕ, pos, [], ◌∷◌, codes, Some, None}
use Rattle.js_value.specs.declared.operator.BinaryOp.TheVariants as binary
use Rattle.js_value.specs.declared.operator.UnaryOp.TheVariants as unary
use Rattle.js_value.specs.declared.primitive.Kind.TheVariants as kind
use Rattle.js_value.specs.declared.primitive.Primitive.TheVariants as primitive
use Rattle.js_value.specs.declared.why.Why.{Why}
use Rattle.js_value.specs.declared.why.Why.TheVariants.{BuiltinArgument, ObjectToPrimitive, PrimitiveThis}
use Rattle.js_tree.specs.Refusals.{place}
use Rattle.js_tree.specs.Trees.{expr, stmt, script}
use Rattle.js_tree.specs.declared.expression.ExprForm.TheVariants as e
use Rattle.js_tree.specs.declared.expression.Field.TheVariants as field
use Rattle.js_tree.specs.declared.statement.Script.{Script}
use Rattle.js_tree.specs.declared.statement.StmtForm.TheVariants as s
use Rattle.machine_cases.specs.ChoiceRuns.{came}
use Rattle.js_machine.specs.Machine.Choices.{Opened, OpenEnded, OpenRun, Stopped, open_walk}
use Rattle.js_machine.specs.Machine.Levels.{script_tree_within}
use Rattle.js_machine.specs.Machine.Realm.{realm}
use Rattle.js_machine.specs.Machine.Events.{Argument, Base, Key, Length, Need, Lacks, Leaves}
use Rattle.machine_cases.specs.RunCases.{deep}

-- the run of a script on the realm along choices, and along none
abbrev pub opened_along : List Bool → ℕ → Script → OpenRun
opened_along choices d script = open_walk 200 [] [] choices (script_tree_within (deep d) (deep d) script realm)

abbrev pub opened : ℕ → Script → OpenRun
opened = opened_along []

-- the code ended or threw
abbrev pub ended_so : Opened → Bool
ended_so (OpenEnded calls ending h) = true
ended_so _ = false

abbrev pub is_ended : OpenRun → Bool
is_ended r = ended_so r.came_to

-- a symbol stands where a known value must stand
abbrev pub lacks : Need → ℕ → OpenRun
lacks what at = came (Stopped (Lacks what) (place at)) []

-- the run leaves the profile as it would with any value of the symbol's type
abbrev pub leaves : Why → ℕ → OpenRun
leaves why at = came (Stopped (Leaves why) (place at)) []

-- 1 + "abc"[__abstract("string", "k")];
abbrev pub of_text : Script
of_text = script (stmt 0 (s.Eval (expr 0 (e.Binary binary.Add (expr 0 (e.Literal (primitive.Number (pos 1)))) (expr 4 (e.Index (expr 4 (e.Literal (primitive.Text (codes "abc")))) (expr 10 (e.Input kind.Text (codes "k")))))))) ∷ []) []

-- !([][__abstract("string", "k")] = 1);
abbrev pub written : Script
written = script (stmt 0 (s.Eval (expr 0 (e.Unary unary.Not (expr 2 (e.Assign (expr 2 (e.Index (expr 2 (e.ArrayLit [])) (expr 5 (e.Input kind.Text (codes "k"))))) None (expr 34 (e.Literal (primitive.Number (pos 1))))))))) ∷ []) []

-- delete [][__abstract("string", "k")];
abbrev pub deleted : Script
deleted = script (stmt 0 (s.Eval (expr 0 (e.Unary unary.Delete (expr 7 (e.Index (expr 7 (e.ArrayLit [])) (expr 10 (e.Input kind.Text (codes "k")))))))) ∷ []) []

-- !(__abstract("string", "k") in []);
abbrev pub tested : Script
tested = script (stmt 0 (s.Eval (expr 0 (e.Unary unary.Not (expr 2 (e.Binary binary.In (expr 2 (e.Input kind.Text (codes "k"))) (expr 31 (e.ArrayLit []))))))) ∷ []) []

-- 1 + [].hasOwnProperty(__abstract("string", "k"));
abbrev pub own : Script
own = script (stmt 0 (s.Eval (expr 0 (e.Binary binary.Add (expr 0 (e.Literal (primitive.Number (pos 1)))) (expr 4 (e.Call (expr 4 (e.Member (expr 4 (e.ArrayLit [])) (codes "hasOwnProperty"))) (expr 22 (e.Input kind.Text (codes "k")) ∷ [])))))) ∷ []) []

-- !Object.defineProperty({}, __abstract("string", "k"), {});
abbrev pub defined : Script
defined = script (stmt 0 (s.Eval (expr 0 (e.Unary unary.Not (expr 1 (e.Call (expr 1 (e.Member (expr 1 (e.Name (codes "Object"))) (codes "defineProperty"))) (expr 23 (e.ObjectLit []) ∷ expr 27 (e.Input kind.Text (codes "k")) ∷ expr 54 (e.ObjectLit []) ∷ [])))))) ∷ []) []

-- null[__abstract("string", "k")];
abbrev pub behind_null : Script
behind_null = script (stmt 0 (s.Eval (expr 0 (e.Index (expr 0 (e.Literal primitive.Null)) (expr 5 (e.Input kind.Text (codes "k")))))) ∷ []) []

-- 1 + __abstract("string", "s").length;
abbrev pub base_of_member : Script
base_of_member = script (stmt 0 (s.Eval (expr 0 (e.Binary binary.Add (expr 0 (e.Literal (primitive.Number (pos 1)))) (expr 4 (e.Member (expr 4 (e.Input kind.Text (codes "s"))) (codes "length")))))) ∷ []) []

-- 1 + __residual("string", "s")[0];
abbrev pub base_of_index : Script
base_of_index = script (stmt 0 (s.Eval (expr 0 (e.Binary binary.Add (expr 0 (e.Literal (primitive.Number (pos 1)))) (expr 4 (e.Index (expr 4 (e.HostCall kind.Text (codes "s") [])) (expr 30 (e.Literal (primitive.Number (pos 0))))))))) ∷ []) []

-- 1 + __abstract("string", "s")[__abstract("string", "k")];
abbrev pub base_and_key : Script
base_and_key = script (stmt 0 (s.Eval (expr 0 (e.Binary binary.Add (expr 0 (e.Literal (primitive.Number (pos 1)))) (expr 4 (e.Index (expr 4 (e.Input kind.Text (codes "s"))) (expr 30 (e.Input kind.Text (codes "k")))))))) ∷ []) []

-- __abstract("string", "s").a = f();
abbrev pub base_of_target : Script
base_of_target = script (stmt 0 (s.Eval (expr 0 (e.Assign (expr 0 (e.Member (expr 0 (e.Input kind.Text (codes "s"))) (codes "a"))) None (expr 30 (e.Call (expr 30 (e.Name (codes "f"))) []))))) ∷ []) []

-- delete __abstract("string", "s").a;
abbrev pub base_deleted : Script
base_deleted = script (stmt 0 (s.Eval (expr 0 (e.Unary unary.Delete (expr 7 (e.Member (expr 7 (e.Input kind.Text (codes "s"))) (codes "a")))))) ∷ []) []

-- !([].length = __abstract("number", "n"));
abbrev pub length_set : Script
length_set = script (stmt 0 (s.Eval (expr 0 (e.Unary unary.Not (expr 2 (e.Assign (expr 2 (e.Member (expr 2 (e.ArrayLit [])) (codes "length"))) None (expr 14 (e.Input kind.Number (codes "n")))))))) ∷ []) []

-- !Object.defineProperty([], "length", {value: __abstract("number", "n")});
abbrev pub length_defined : Script
length_defined = script (stmt 0 (s.Eval (expr 0 (e.Unary unary.Not (expr 1 (e.Call (expr 1 (e.Member (expr 1 (e.Name (codes "Object"))) (codes "defineProperty"))) (expr 23 (e.ArrayLit []) ∷ expr 27 (e.Literal (primitive.Text (codes "length"))) ∷ expr 37 (e.ObjectLit (field.Value (place 38) (codes "value") (expr 45 (e.Input kind.Number (codes "n"))) ∷ [])) ∷ [])))))) ∷ []) []

-- ![].push.call({length: __abstract("number", "n")});
abbrev pub length_pushed : Script
length_pushed = script (stmt 0 (s.Eval (expr 0 (e.Unary unary.Not (expr 1 (e.Call (expr 1 (e.Member (expr 1 (e.Member (expr 1 (e.ArrayLit [])) (codes "push"))) (codes "call"))) (expr 14 (e.ObjectLit (field.Value (place 15) (codes "length") (expr 23 (e.Input kind.Number (codes "n"))) ∷ [])) ∷ [])))))) ∷ []) []

-- !Function.prototype.apply(null, {length: __abstract("number", "n")});
abbrev pub length_applied : Script
length_applied = script (stmt 0 (s.Eval (expr 0 (e.Unary unary.Not (expr 1 (e.Call (expr 1 (e.Member (expr 1 (e.Member (expr 1 (e.Name (codes "Function"))) (codes "prototype"))) (codes "apply"))) (expr 26 (e.Literal primitive.Null) ∷ expr 32 (e.ObjectLit (field.Value (place 33) (codes "length") (expr 41 (e.Input kind.Number (codes "n"))) ∷ [])) ∷ [])))))) ∷ []) []

-- ![1].slice(__abstract("number", "n"));
abbrev pub start : Script
start = script (stmt 0 (s.Eval (expr 0 (e.Unary unary.Not (expr 1 (e.Call (expr 1 (e.Member (expr 1 (e.ArrayLit (Some (expr 2 (e.Literal (primitive.Number (pos 1)))) ∷ []))) (codes "slice"))) (expr 11 (e.Input kind.Number (codes "n")) ∷ [])))))) ∷ []) []

-- ![1].slice(0, __abstract("number", "n"));
abbrev pub end : Script
end = script (stmt 0 (s.Eval (expr 0 (e.Unary unary.Not (expr 1 (e.Call (expr 1 (e.Member (expr 1 (e.ArrayLit (Some (expr 2 (e.Literal (primitive.Number (pos 1)))) ∷ []))) (codes "slice"))) (expr 11 (e.Literal (primitive.Number (pos 0))) ∷ expr 14 (e.Input kind.Number (codes "n")) ∷ [])))))) ∷ []) []

-- ![1].indexOf(1, __abstract("number", "n"));
abbrev pub from : Script
from = script (stmt 0 (s.Eval (expr 0 (e.Unary unary.Not (expr 1 (e.Call (expr 1 (e.Member (expr 1 (e.ArrayLit (Some (expr 2 (e.Literal (primitive.Number (pos 1)))) ∷ []))) (codes "indexOf"))) (expr 13 (e.Literal (primitive.Number (pos 1))) ∷ expr 16 (e.Input kind.Number (codes "n")) ∷ [])))))) ∷ []) []

-- [].indexOf(1, __abstract("number", "n"));
abbrev pub from_in_nothing : Script
from_in_nothing = script (stmt 0 (s.Eval (expr 0 (e.Call (expr 0 (e.Member (expr 0 (e.ArrayLit [])) (codes "indexOf"))) (expr 11 (e.Literal (primitive.Number (pos 1))) ∷ expr 14 (e.Input kind.Number (codes "n")) ∷ [])))) ∷ []) []

-- ![].push.call(__abstract("string", "s"));
abbrev pub symbol_as_this : Script
symbol_as_this = script (stmt 0 (s.Eval (expr 0 (e.Unary unary.Not (expr 1 (e.Call (expr 1 (e.Member (expr 1 (e.Member (expr 1 (e.ArrayLit [])) (codes "push"))) (codes "call"))) (expr 14 (e.Input kind.Text (codes "s")) ∷ [])))))) ∷ []) []

-- !Object.create(null, __abstract("number", "n"));
abbrev pub symbol_as_argument : Script
symbol_as_argument = script (stmt 0 (s.Eval (expr 0 (e.Unary unary.Not (expr 1 (e.Call (expr 1 (e.Member (expr 1 (e.Name (codes "Object"))) (codes "create"))) (expr 15 (e.Literal primitive.Null) ∷ expr 21 (e.Input kind.Number (codes "n")) ∷ [])))))) ∷ []) []

-- !({} == __abstract("number", "n"));
abbrev pub symbol_and_object : Script
symbol_and_object = script (stmt 0 (s.Eval (expr 0 (e.Unary unary.Not (expr 2 (e.Binary binary.Equal (expr 2 (e.ObjectLit [])) (expr 8 (e.Input kind.Number (codes "n")))))))) ∷ []) []

-- __abstract("number", "n")();
abbrev pub symbol_called : Script
symbol_called = script (stmt 0 (s.Eval (expr 0 (e.Call (expr 0 (e.Input kind.Number (codes "n"))) []))) ∷ []) []

pub record NeedRuns : Type 0 where
  pub of_text_run : (d : ℕ) → opened d of_text ≡ lacks Key 4
  pub written_run : (d : ℕ) → opened d written ≡ lacks Key 2
  pub deleted_run : (d : ℕ) → opened d deleted ≡ lacks Key 7
  pub tested_run : (d : ℕ) → opened d tested ≡ lacks Key 2
  pub own_run : (d : ℕ) → opened d own ≡ lacks Key 4
  pub defined_run : (d : ℕ) → opened d defined ≡ lacks Key 1
  pub behind_null_run : (d : ℕ) → is_ended (opened d behind_null) ≡ true
  pub base_of_member_run : (d : ℕ) → opened d base_of_member ≡ lacks Base 4
  pub base_of_index_run : (d : ℕ) → opened_along (false ∷ []) d base_of_index ≡ lacks Base 4
  pub base_and_key_run : (d : ℕ) → opened d base_and_key ≡ lacks Base 4
  pub base_of_target_run : (d : ℕ) → opened d base_of_target ≡ lacks Base 0
  pub base_deleted_run : (d : ℕ) → opened d base_deleted ≡ lacks Base 7
  pub length_set_run : (d : ℕ) → opened d length_set ≡ lacks Length 2
  pub length_defined_run : (d : ℕ) → opened d length_defined ≡ lacks Length 1
  pub length_pushed_run : (d : ℕ) → opened d length_pushed ≡ lacks Length 1
  pub length_applied_run : (d : ℕ) → opened d length_applied ≡ lacks Length 1
  pub start_run : (d : ℕ) → opened d start ≡ lacks Argument 1
  pub end_run : (d : ℕ) → opened d end ≡ lacks Argument 1
  pub from_run : (d : ℕ) → opened d from ≡ lacks Argument 1
  pub from_in_nothing_run : (d : ℕ) → is_ended (opened d from_in_nothing) ≡ true
  pub symbol_as_this_run : (d : ℕ) → opened d symbol_as_this ≡ leaves PrimitiveThis 1
  pub symbol_as_argument_run : (d : ℕ) → opened d symbol_as_argument ≡ leaves BuiltinArgument 1
  pub symbol_and_object_run : (d : ℕ) → opened d symbol_and_object ≡ leaves ObjectToPrimitive 2
  pub symbol_called_run : (d : ℕ) → is_ended (opened d symbol_called) ≡ true
