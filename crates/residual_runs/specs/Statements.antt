-- What the statements of a residual's body do, wherever their nodes stand: by what a tree says, and not by its places.
use Rattle.std.specs.Prelude.{◌≡◌, ◌⊎◌, ℕ, ℤ, suc, ◌+◌, ◌&&◌, true, false, List, [], ◌∷◌, length, slice_get, Ok, Option, Some, None}
use Rattle.std.specs.List.{list_any}
use Rattle.std.specs.Option.{option_and_then}
use Rattle.js_value.specs.Conversions.{is_same_text}
use Rattle.js_value.specs.declared.place.FuncNo.{FuncNo}
use Rattle.js_value.specs.Numbers.{negated}
use Rattle.js_value.specs.declared.operator.UnaryOp.TheVariants as unary
use Rattle.js_value.specs.declared.primitive.Kind.{Kind}
use Rattle.js_value.specs.declared.primitive.Primitive.{Primitive}
use Rattle.js_value.specs.declared.primitive.Primitive.TheVariants as primitive
use Rattle.js_tree.specs.declared.expression.Expr.{Expr}
use Rattle.js_tree.specs.declared.expression.Field.{Field}
use Rattle.js_tree.specs.declared.expression.ExprForm.{ExprForm, out-ExprForm}
use Rattle.js_tree.specs.declared.expression.ExprForm.TheOpen.{ExprForm-F}
use Rattle.js_tree.specs.declared.statement.Case.{Case}
use Rattle.js_tree.specs.declared.statement.Catch.{Catch}
use Rattle.js_tree.specs.declared.statement.Finally.{Finally}
use Rattle.js_tree.specs.declared.statement.Stmt.{Stmt}
use Rattle.js_tree.specs.declared.statement.StmtForm.{StmtForm, out-StmtForm}
use Rattle.js_tree.specs.declared.statement.StmtForm.TheOpen.{StmtForm-F}
use Rattle.plain_heap.specs.Heap.{Key, Heap, ObjectState, Plain, Builtin, is_function, cell, lookup, make_object, object_at, resolve, set_cell, set_object}
use Rattle.plain_heap.specs.Methods.{Descriptor, Define, Defined, GotValue, checked_key, define, delete, get, length_key, put}
use Rattle.plain_heap.specs.Valid.{is_absent}
use Rattle.plain_heap.specs.Values.{Value, Prim, Object, ObjNo, CellNo, truth, undefined}
use Rattle.js_machine.specs.Machine.Creating.{function_expression}
use Rattle.js_machine.specs.Machine.Events.{Run, each}
use Rattle.js_machine.specs.Machine.Expressions.{Completion, Normal}
use Rattle.js_machine.specs.Machine.Levels.{Setting, within, class_of}
use Rattle.js_machine.specs.Machine.Objects.{is_array_state, Site}
use Rattle.js_machine.specs.Machine.References.{Context}
use Rattle.js_machine.specs.Machine.Statements.{statements}
use Rattle.js_machine.specs.Machine.RealmObjects.{object_prototype}
use Rattle.js_machine.specs.Machine.ObjectBuiltins.{Rule}
use Rattle.js_machine.specs.Machine.Operators.{is_object}
use Rattle.js_machine.specs.Machine.Realm.{builtin_rule}
use Rattle.js_machine.specs.Machine.Walks.{World, Answer, called, is_of_kind}
use Rattle.residual_runs.specs.Runs.{State, Runs, Throws}

-- what a node is, whatever its place
abbrev pub IsExpr : Expr → ExprForm-F ExprForm Field Expr → Type 0
IsExpr e form = out-ExprForm e.form ≡ form

abbrev pub IsStmt : Stmt → StmtForm-F StmtForm Case Catch Finally Stmt → Type 0
IsStmt t form = out-StmtForm t.form ≡ form

-- what is to be the length of an array is a number, if it is there
abbrev pub IsLengthField : Option Value → Type 0
IsLengthField None = Unit {0}
IsLengthField (Some (Prim (primitive.Number n))) = Unit {0}
IsLengthField _ = ⊥

-- [[DefineOwnProperty]] with this descriptor makes this of the object
pub record Defines (h : Heap) (o : ObjNo) (key : Key) (descriptor : Descriptor) (after : ObjectState) : Type 0 where
  pub named : checked_key key ≡ Ok key
  pub before : ObjectState
  pub there : object_at h o ≡ Some before
  pub length : ((is_array_state (Some before) && is_same_text key length_key) ≡ false) ⊎ IsLengthField descriptor.value
  pub defined : define key descriptor before ≡ Defined after

-- [[Put]] of a property makes this of the object: it meets no setter, and nothing refuses it
pub record Puts (h : Heap) (o : ObjNo) (key : Key) (v : Value) (after : ObjectState) : Type 0 where
  pub descriptor : Descriptor
  pub put : put h o key v ≡ Define descriptor
  pub defines : Defines h o key descriptor after

-- T = E;
pub record AssignsName (t : Stmt) (name : List ℕ) (value : Expr) : Type 0 where
  pub assignment : Expr
  pub target : Expr
  pub is_statement : IsStmt t (StmtForm-F.Eval assignment)
  pub is_assignment : IsExpr assignment (ExprForm-F.Assign target None value)
  pub is_target : IsExpr target (ExprForm-F.Name name)

-- E.k = E;
pub record AssignsMember (t : Stmt) (base : Expr) (key : Key) (value : Expr) : Type 0 where
  pub assignment : Expr
  pub target : Expr
  pub is_statement : IsStmt t (StmtForm-F.Eval assignment)
  pub is_assignment : IsExpr assignment (ExprForm-F.Assign target None value)
  pub is_target : IsExpr target (ExprForm-F.Member base key)

-- E["k"] = E;
pub record AssignsIndex (t : Stmt) (base : Expr) (key : Key) (value : Expr) : Type 0 where
  pub assignment : Expr
  pub target : Expr
  pub index : Expr
  pub is_statement : IsStmt t (StmtForm-F.Eval assignment)
  pub is_assignment : IsExpr assignment (ExprForm-F.Assign target None value)
  pub is_target : IsExpr target (ExprForm-F.Index base index)
  pub is_index : IsExpr index (ExprForm-F.Literal (primitive.Text key))

-- delete E.k;
pub record Deletes (t : Stmt) (base : Expr) (key : Key) : Type 0 where
  pub deletion : Expr
  pub target : Expr
  pub is_statement : IsStmt t (StmtForm-F.Eval deletion)
  pub is_deletion : IsExpr deletion (ExprForm-F.Unary unary.Delete target)
  pub is_target : IsExpr target (ExprForm-F.Member base key)

-- in one context, where so many calls of built-ins may be active
module _ (set : Setting) (calls : ℕ) (context : Context) where
  -- so many nodes may be active
  abbrev pub evaluate : ℕ → Expr → Run Value
  evaluate depth e = (within set depth calls).expr context e

  abbrev pub execute : ℕ → Stmt → Run Completion
  execute depth t = (within set depth calls).stmt context t

  module _ (w : World) (d : ℕ) where
    pub record OperandsRun : Type 0 where
      pub this : (e : Expr) (s : State) → IsExpr e ExprForm-F.This → Runs w (evaluate (suc d) e) s 1 context.this s
      pub literal : (e : Expr) (p : Primitive) (s : State) → IsExpr e (ExprForm-F.Literal p) → Runs w (evaluate (suc d) e) s 1 (Prim p) s
      pub temporary : (e : Expr) (name : List ℕ) (c : CellNo) (v : Value) (s : State) → IsExpr e (ExprForm-F.Name name) → resolve context.environment name ≡ Some c → cell s.heap c ≡ Some v
          → Runs w (evaluate (suc d) e) s 1 v s

    -- values that are put together
    pub record ValuesRun : Type 0 where
      pub negative : (e a : Expr) (n : ℤ) (m : ℤ) (s : State) → IsExpr e (ExprForm-F.Unary unary.Minus a) → IsExpr a (ExprForm-F.Literal (primitive.Number n)) → negated n ≡ Ok m
          → Runs w (evaluate (suc (suc d)) e) s 2 (Prim (primitive.Number m)) s
      pub member : (e base : Expr) (key : Key) (o : ObjNo) (v : Value) (before after : State) (i : ℕ) → IsExpr e (ExprForm-F.Member base key) → Runs w (evaluate d base) before i (Object o) after
          → checked_key key ≡ Ok key → get after.heap o key ≡ GotValue v → is_absent v ≡ false → Runs w (evaluate (suc d) e) before (1 + i) v after
      pub when_true : (e test a b : Expr) (before mid after : State) (i j : ℕ) (v : Value) → IsExpr e (ExprForm-F.Conditional test a b) → Runs w (evaluate d test) before i (truth true) mid
          → Runs w (evaluate d a) mid j v after → Runs w (evaluate (suc d) e) before (1 + (i + j)) v after
      pub when_false : (e test a b : Expr) (before mid after : State) (i j : ℕ) (v : Value) → IsExpr e (ExprForm-F.Conditional test a b) → Runs w (evaluate d test) before i (truth false) mid
          → Runs w (evaluate d b) mid j v after → Runs w (evaluate (suc d) e) before (1 + (i + j)) v after
      pub empty : (e : Expr) (s : State) → IsExpr e (ExprForm-F.ObjectLit []) → let made = make_object Plain (Some object_prototype) s.heap in
          Runs w (evaluate (suc d) e) s 1 (Object made.0) (record s { heap = made.1 })

    -- inputs and host calls, by the world
    pub record HostRuns : Type 0 where
      pub input : (e : Expr) (kind : Kind) (name : List ℕ) (p : Primitive) (s : State) → IsExpr e (ExprForm-F.Input kind name) → lookup name w.inputs ≡ Some p → is_of_kind kind p ≡ true
          → Runs w (evaluate (suc d) e) s 1 (Prim p) s
      -- the arguments run, none of them is an object, and the world has an answer for the next call, which isn't thrown
      pub call : (e : Expr) (kind : Kind) (name : List ℕ) (arguments : List Expr) (values : List Value) (answer : Answer) (before after : State) (i : ℕ) → IsExpr e (ExprForm-F.HostCall kind name arguments)
          → Runs w (each (evaluate d) arguments) before i values after → list_any is_object values ≡ false → slice_get w.answers (length after.calls) ≡ Some answer → is_of_kind kind answer.value ≡ true → answer.threw ≡ false
          → Runs w (evaluate (suc d) e) before (1 + i) (Prim answer.value) (record after { calls = called after.calls name values kind (Prim answer.value) (truth false) })
      pub no_arguments : (s : State) → Runs w (each (evaluate d) []) s 0 [] s
      pub argument : (e : Expr) (es : List Expr) (before mid after : State) (i j : ℕ) (v : Value) (vs : List Value) → Runs w (evaluate d e) before i v mid → Runs w (each (evaluate d) es) mid j vs after
          → Runs w (each (evaluate d) (e ∷ es)) before (i + j) (v ∷ vs) after

    -- what is made gets its number and is in the heap
    pub record FunctionsRun : Type 0 where
      pub function : (e : Expr) (f : FuncNo) (s : State) → IsExpr e (ExprForm-F.Func f)
          → let made = function_expression set.functions f context.environment context.strict s.heap in
          Runs w (evaluate (suc d) e) s 1 (Object made.0) (record s { heap = made.1 })

    pub record StatementsRun : Type 0 where
      pub evaluated : (t : Stmt) (e : Expr) (before after : State) (i : ℕ) (v : Value) → IsStmt t (StmtForm-F.Eval e) → Runs w (evaluate d e) before i v after
          → Runs w (execute (suc d) t) before (1 + i) Normal after
      pub temporary : (t : Stmt) (name : List ℕ) (value : Expr) (c : CellNo) (before after : State) (i : ℕ) (v : Value) → AssignsName t name value → resolve context.environment name ≡ Some c
          → Runs w (evaluate (suc d) value) before i v after
          → Runs w (execute (suc (suc (suc d))) t) before (3 + i) Normal (record after { heap = set_cell c v after.heap })
      pub member : (t : Stmt) (base value : Expr) (key : Key) (before mid after : State) (i j : ℕ) (o : ObjNo) (v : Value) (state : ObjectState) → AssignsMember t base key value
          → Runs w (evaluate d base) before i (Object o) mid → Runs w (evaluate (suc d) value) mid j v after → context.strict ≡ false → Puts after.heap o key v state
          → Runs w (execute (suc (suc (suc d))) t) before (3 + (i + j)) Normal (record after { heap = set_object o state after.heap })
      pub index : (t : Stmt) (base value : Expr) (key : Key) (before mid after : State) (i j : ℕ) (o : ObjNo) (v : Value) (state : ObjectState) → AssignsIndex t base key value
          → Runs w (evaluate (suc d) base) before i (Object o) mid → Runs w (evaluate (suc (suc d)) value) mid j v after → context.strict ≡ false → Puts after.heap o key v state
          → Runs w (execute (suc (suc (suc (suc d)))) t) before (4 + (i + j)) Normal (record after { heap = set_object o state after.heap })
      pub deleted : (t : Stmt) (base : Expr) (key : Key) (before mid : State) (i : ℕ) (o : ObjNo) (state : ObjectState) → Deletes t base key → Runs w (evaluate d base) before i (Object o) mid
          → checked_key key ≡ Ok key → option_and_then (delete key) (object_at mid.heap o) ≡ Some state
          → Runs w (execute (suc (suc (suc d))) t) before (3 + i) Normal (record mid { heap = set_object o state mid.heap })
      pub thrown : (t : Stmt) (e : Expr) (before after : State) (i : ℕ) (v : Value) → IsStmt t (StmtForm-F.Throw e) → Runs w (evaluate d e) before i v after
          → Throws w (execute (suc d) t) before (1 + i) v after
      pub if_true : (t : Stmt) (e : Expr) (a : Stmt) (b : Option Stmt) (before mid after : State) (i j : ℕ) (completion : Completion) → IsStmt t (StmtForm-F.If e a b) → Runs w (evaluate d e) before i (truth true) mid
          → Runs w (execute d a) mid j completion after → Runs w (execute (suc d) t) before (1 + (i + j)) completion after
      pub if_false : (t : Stmt) (e : Expr) (a b : Stmt) (before mid after : State) (i j : ℕ) (completion : Completion) → IsStmt t (StmtForm-F.If e a (Some b)) → Runs w (evaluate d e) before i (truth false) mid
          → Runs w (execute d b) mid j completion after → Runs w (execute (suc d) t) before (1 + (i + j)) completion after
      pub if_nothing : (t : Stmt) (e : Expr) (a : Stmt) (before after : State) (i : ℕ) → IsStmt t (StmtForm-F.If e a None) → Runs w (evaluate d e) before i (truth false) after
          → Runs w (execute (suc d) t) before (1 + i) Normal after
      pub block : (t : Stmt) (body : List Stmt) (before after : State) (i : ℕ) (completion : Completion) → IsStmt t (StmtForm-F.Block body) → Runs w (statements (execute d) body) before i completion after
          → Runs w (execute (suc d) t) before (1 + i) completion after
      pub if_throws : (t : Stmt) (e : Expr) (a : Stmt) (b : Option Stmt) (before mid after : State) (i j : ℕ) (v : Value) → IsStmt t (StmtForm-F.If e a b) → Runs w (evaluate d e) before i (truth true) mid
          → Throws w (execute d a) mid j v after → Throws w (execute (suc d) t) before (1 + (i + j)) v after
      pub block_throws : (t : Stmt) (body : List Stmt) (before after : State) (i : ℕ) (v : Value) → IsStmt t (StmtForm-F.Block body) → Throws w (statements (execute d) body) before i v after
          → Throws w (execute (suc d) t) before (1 + i) v after
      pub none : (s : State) → Runs w (statements (execute d) []) s 0 Normal s
      pub next : (t : Stmt) (ts : List Stmt) (before mid after : State) (i j : ℕ) → Runs w (execute d t) before i Normal mid → Runs w (statements (execute d) ts) mid j Normal after
          → Runs w (statements (execute d) (t ∷ ts)) before (i + j) Normal after
      pub throws_first : (t : Stmt) (ts : List Stmt) (before after : State) (i : ℕ) (v : Value) → Throws w (execute d t) before i v after → Throws w (statements (execute d) (t ∷ ts)) before i v after
      pub throws_next : (t : Stmt) (ts : List Stmt) (before mid after : State) (i j : ℕ) (v : Value) → Runs w (execute d t) before i Normal mid → Throws w (statements (execute d) ts) mid j v after
          → Throws w (statements (execute d) (t ∷ ts)) before (i + j) v after

-- A call of a built-in that a temporary holds does what its rule does, at whatever site.
pub record CallsRun : Type 0 where
  pub builtin : (set : Setting) (calls : ℕ) (context : Context) (w : World) (d : ℕ) (e callee : Expr) (arguments : List Expr) (values : List Value) (name : List ℕ) (c : CellNo) (o : ObjNo) (n : ℕ) (rule : Rule) (before mid after : State) (i j : ℕ) (v : Value)
      → IsExpr e (ExprForm-F.Call callee arguments) → IsExpr callee (ExprForm-F.Name name) → resolve context.environment name ≡ Some c → cell before.heap c ≡ Some (Object o)
      → Runs w (each (evaluate set (suc calls) context (suc d)) arguments) before i values mid → is_function mid.heap o ≡ true → class_of o mid.heap ≡ Builtin n → builtin_rule n ≡ Some rule
      → ((site : Site) → Runs w (rule site undefined values) mid j v after)
      → Runs w (evaluate set (suc calls) context (suc (suc d)) e) before (2 + (i + j)) v after

-- for every setting, depth, context and world
pub record BodiesRun : Type 0 where
  pub operands : (set : Setting) (calls : ℕ) (context : Context) (w : World) (d : ℕ) → OperandsRun set calls context w d
  pub values : (set : Setting) (calls : ℕ) (context : Context) (w : World) (d : ℕ) → ValuesRun set calls context w d
  pub host : (set : Setting) (calls : ℕ) (context : Context) (w : World) (d : ℕ) → HostRuns set calls context w d
  pub functions : (set : Setting) (calls : ℕ) (context : Context) (w : World) (d : ℕ) → FunctionsRun set calls context w d
  pub statements : (set : Setting) (calls : ℕ) (context : Context) (w : World) (d : ℕ) → StatementsRun set calls context w d
  pub calls : CallsRun
