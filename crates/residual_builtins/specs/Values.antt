-- What else gives a value in a residual: literals that aren't empty, operators, names on the global object; and `delete A[K]`.
use Rattle.std.specs.Prelude.{◌≡◌, ℕ, suc, ◌+◌, Bool, true, false, List, [], ◌∷◌, codes, Result, Ok, Option, Some, None}
use Rattle.std.specs.Fmt.{decimal}
use Rattle.std.specs.Option.{option_and_then}
use Rattle.js_value.specs.Operators.{binary_row, unary_row}
use Rattle.js_value.specs.declared.operator.BinaryOp.{BinaryOp}
use Rattle.js_value.specs.declared.operator.UnaryOp.{UnaryOp}
use Rattle.js_value.specs.declared.operator.UnaryOp.TheVariants as unary
use Rattle.js_value.specs.declared.place.Place.{Place}
use Rattle.js_value.specs.declared.primitive.Primitive.{Primitive}
use Rattle.js_value.specs.declared.primitive.Primitive.TheVariants as primitive
use Rattle.js_value.specs.declared.why.Why.{Why}
use Rattle.js_tree.specs.declared.expression.Expr.{Expr}
use Rattle.js_tree.specs.declared.expression.Field.{Field, out-Field}
use Rattle.js_tree.specs.declared.expression.ExprForm.{out-ExprForm}
use Rattle.js_tree.specs.declared.expression.ExprForm.TheOpen.{ExprForm-F, Field-F}
use Rattle.js_tree.specs.declared.statement.Stmt.{Stmt}
use Rattle.js_tree.specs.declared.statement.StmtForm.TheOpen.{StmtForm-F}
use Rattle.plain_heap.specs.Heap.{Key, ObjectState, Plain, Array, cell, data_property, is_function, make_object, object_at, resolve, set_object}
use Rattle.plain_heap.specs.Methods.{GotValue, checked_key, data_fields, delete, get, has_property, length_key, own_property, value_field}
use Rattle.plain_heap.specs.Valid.{is_absent}
use Rattle.plain_heap.specs.Values.{Value, Object, ObjNo, CellNo, number, undefined}
use Rattle.js_machine.specs.Machine.Events.{Run, in_turn}
use Rattle.js_machine.specs.Machine.Expressions.{Ev, Normal, elements, field_rule, is_name}
use Rattle.js_machine.specs.Machine.Levels.{Setting, ev_of, within}
use Rattle.js_machine.specs.Machine.Operators.{operated, operated_one}
use Rattle.js_machine.specs.Machine.RealmObjects.{array_prototype, global, object_prototype}
use Rattle.js_machine.specs.Machine.References.{Context}
use Rattle.js_machine.specs.Machine.Walks.{World}
use Rattle.residual_runs.specs.Runs.{State, Runs}
use Rattle.residual_runs.specs.Statements.{IsExpr, IsStmt, Defines, evaluate, execute}

-- an object is changed, and nothing else
abbrev pub changed : ObjNo → ObjectState → State → State
changed o state s = record s { heap = set_object o state s.heap }

-- delete E["k"];
pub record DeletesIndex (t : Stmt) (base : Expr) (key : Key) : Type 0 where
  pub deletion : Expr
  pub target : Expr
  pub index : Expr
  pub is_statement : IsStmt t (StmtForm-F.Eval deletion)
  pub is_deletion : IsExpr deletion (ExprForm-F.Unary unary.Delete target)
  pub is_target : IsExpr target (ExprForm-F.Index base index)
  pub is_index : IsExpr index (ExprForm-F.Literal (primitive.Text key))

-- 11.4: the operand is evaluated to a value
abbrev pub takes_value : UnaryOp → Bool
takes_value unary.Delete = false
takes_value unary.TypeOf = false
takes_value op = true

module _ (set : Setting) (calls : ℕ) (context : Context) (w : World) (d : ℕ) where
  -- the parts of a node whose own parts may be so deep
  abbrev pub parts : Ev
  parts = ev_of set (within set d) calls

  -- ---- 11.1.5: object literals

  -- the fields of a literal that makes this object, one after another
  abbrev pub fields : Place → ObjNo → List Field → Run (Unit {0})
  fields at o fs = in_turn (λ f. field_rule parts context at o (out-Field f)) fs

  -- a value becomes a property with all attributes
  pub record FieldMade (f : Field) (o : ObjNo) (before : State) (i : ℕ) (after : State) : Type 0 where
    pub key_at : Place
    pub key : Key
    pub value : Expr
    pub is_field : out-Field f ≡ Field-F.Value key_at key value
    pub v : Value
    pub mid : State
    pub run : Runs w (evaluate set calls context d value) before i v mid
    pub state : ObjectState
    pub defines : Defines mid.heap o key (data_fields v true true true) state
    pub is : changed o state mid ≡ after

  pub record ObjectLiterals : Type 0 where
    pub none : (at : Place) (o : ObjNo) (s : State) → Runs w (fields at o []) s 0 tt s
    pub field : (at : Place) (o : ObjNo) (f : Field) (fs : List Field) (before mid after : State) (i j : ℕ)
        → FieldMade f o before i mid → Runs w (fields at o fs) mid j tt after → Runs w (fields at o (f ∷ fs)) before (i + j) tt after
    pub object : (e : Expr) (fs : List Field) (s after : State) (i : ℕ) → IsExpr e (ExprForm-F.ObjectLit fs) → let made = make_object Plain (Some object_prototype) s.heap in
        Runs w (fields e.at made.0 fs) (record s { heap = made.1 }) i tt after → Runs w (evaluate set calls context (suc d) e) s (1 + i) (Object made.0) after

  -- ---- 11.1.4: array literals

  -- the elements from a position on
  abbrev pub elements_from : Place → ObjNo → ℕ → List (Option Expr) → Run (Unit {0})
  elements_from at o n es = elements parts context at o n es

  pub record ElementMade (value : Expr) (o : ObjNo) (n : ℕ) (before : State) (i : ℕ) (after : State) : Type 0 where
    pub v : Value
    pub mid : State
    pub run : Runs w (evaluate set calls context d value) before i v mid
    pub state : ObjectState
    pub defines : Defines mid.heap o (decimal n) (data_fields v true true true) state
    pub is : changed o state mid ≡ after

  pub record ArrayLiterals : Type 0 where
    -- the array gets its length
    pub none : (at : Place) (o : ObjNo) (n : ℕ) (s : State) (state : ObjectState) → Defines s.heap o length_key (value_field (number n)) state
        → Runs w (elements_from at o n []) s 0 tt (changed o state s)
    pub hole : (at : Place) (o : ObjNo) (n : ℕ) (es : List (Option Expr)) (before after : State) (i : ℕ)
        → Runs w (elements_from at o (n + 1) es) before i tt after → Runs w (elements_from at o n (None ∷ es)) before i tt after
    pub element : (at : Place) (o : ObjNo) (n : ℕ) (e : Expr) (es : List (Option Expr)) (before mid after : State) (i j : ℕ)
        → ElementMade e o n before i mid → Runs w (elements_from at o (n + 1) es) mid j tt after → Runs w (elements_from at o n (Some e ∷ es)) before (i + j) tt after
    pub array : (e : Expr) (es : List (Option Expr)) (s after : State) (i : ℕ) → IsExpr e (ExprForm-F.ArrayLit es) → let made = make_object Array (Some array_prototype) s.heap in
        Runs w (elements_from e.at made.0 0 es) (record s { heap = made.1 }) i tt after → Runs w (evaluate set calls context (suc d) e) s (1 + i) (Object made.0) after
    -- []
    pub empty : (e : Expr) (s : State) → IsExpr e (ExprForm-F.ArrayLit []) → let made = make_object Array (Some array_prototype) s.heap in
        Runs w (evaluate set calls context (suc d) e) s 1 (Object made.0) (record s { heap = made.1 })

  -- ---- 11.4 to 11.10: what an operator gives of values, where it gives one

  pub record OperatorsRun : Type 0 where
    pub of_one : (e a : Expr) (op : UnaryOp) (row : Primitive → Result Primitive Why) (before after : State) (i : ℕ) (x v : Value)
        → IsExpr e (ExprForm-F.Unary op a) → takes_value op ≡ true → Runs w (evaluate set calls context d a) before i x after
        → unary_row op ≡ Some row → operated_one (is_function after.heap) op row x ≡ Ok v → Runs w (evaluate set calls context (suc d) e) before (1 + i) v after
    pub of_two : (e a b : Expr) (op : BinaryOp) (row : Primitive → Primitive → Result Primitive Why) (before mid after : State) (i j : ℕ) (x y v : Value)
        → IsExpr e (ExprForm-F.Binary op a b) → Runs w (evaluate set calls context d a) before i x mid → Runs w (evaluate set calls context d b) mid j y after
        → binary_row op ≡ Some row → operated op row x y ≡ Ok v → Runs w (evaluate set calls context (suc d) e) before (1 + (i + j)) v after
    -- typeof T, and typeof of what is no name
    pub typeof_temporary : (e a : Expr) (name : List ℕ) (c : CellNo) (row : Primitive → Result Primitive Why) (s : State) (x v : Value)
        → IsExpr e (ExprForm-F.Unary unary.TypeOf a) → IsExpr a (ExprForm-F.Name name) → resolve context.environment name ≡ Some c → cell s.heap c ≡ Some x
        → unary_row unary.TypeOf ≡ Some row → operated_one (is_function s.heap) unary.TypeOf row x ≡ Ok v → Runs w (evaluate set calls context (suc (suc d)) e) s 2 v s
    pub typeof_value : (e a : Expr) (row : Primitive → Result Primitive Why) (before after : State) (i : ℕ) (x v : Value)
        → IsExpr e (ExprForm-F.Unary unary.TypeOf a) → is_name (out-ExprForm a.form) ≡ false → Runs w (evaluate set calls context d a) before i x after
        → unary_row unary.TypeOf ≡ Some row → operated_one (is_function after.heap) unary.TypeOf row x ≡ Ok v → Runs w (evaluate set calls context (suc d) e) before (1 + i) v after

  -- ---- 10.2.2.1: names on the global object; and 11.4.1

  pub record NamesRun : Type 0 where
    pub global_name : (e : Expr) (name : Key) (s : State) (v : Value) → IsExpr e (ExprForm-F.Name name) → resolve context.environment name ≡ None → checked_key name ≡ Ok name
        → has_property s.heap global name ≡ true → get s.heap global name ≡ GotValue v → is_absent v ≡ false → Runs w (evaluate set calls context (suc d) e) s 1 v s
    -- the name `undefined`, while the global object has its property, which nothing changes
    pub undefined_name : (e : Expr) (s : State) (state : ObjectState) → IsExpr e (ExprForm-F.Name (codes "undefined")) → resolve context.environment (codes "undefined") ≡ None
        → object_at s.heap global ≡ Some state → own_property (codes "undefined") state ≡ Some (data_property undefined false false false) → Runs w (evaluate set calls context (suc d) e) s 1 undefined s
    pub deleted_index : (t : Stmt) (base : Expr) (key : Key) (before mid : State) (i : ℕ) (o : ObjNo) (state : ObjectState) → DeletesIndex t base key
        → Runs w (evaluate set calls context (suc d) base) before i (Object o) mid → checked_key key ≡ Ok key → option_and_then (delete key) (object_at mid.heap o) ≡ Some state
        → Runs w (execute set calls context (suc (suc (suc (suc d)))) t) before (4 + i) Normal (changed o state mid)

-- for every setting, context, world and depth
pub record ValuesRun : Type 0 where
  pub objects : (set : Setting) (calls : ℕ) (context : Context) (w : World) (d : ℕ) → ObjectLiterals set calls context w d
  pub arrays : (set : Setting) (calls : ℕ) (context : Context) (w : World) (d : ℕ) → ArrayLiterals set calls context w d
  pub operators : (set : Setting) (calls : ℕ) (context : Context) (w : World) (d : ℕ) → OperatorsRun set calls context w d
  pub names : (set : Setting) (calls : ℕ) (context : Context) (w : World) (d : ℕ) → NamesRun set calls context w d
