-- What the calls of built-ins do that a residual makes (15.2.3.5, 15.2.3.6, 15.2.3.10), whatever the places of their nodes.
use Rattle.std.specs.Prelude.{◌≡◌, ℕ, suc, ◌+◌, ◌&&◌, true, false, List, [], ◌∷◌, codes, Option, Some, None}
use Rattle.std.specs.Option.{option_map}
use Rattle.js_tree.specs.declared.expression.Expr.{Expr}
use Rattle.js_tree.specs.declared.expression.ExprForm.TheOpen.{ExprForm-F}
use Rattle.plain_heap.specs.Heap.{Key, Property, Data, Heap, Environment, ObjectState, Plain, Builtin, cell, is_function, lookup, make_object, object_at, resolve, set_object}
use Rattle.plain_heap.specs.Methods.{Descriptor, GotValue, get, has_property, is_accessor, is_data}
use Rattle.plain_heap.specs.Valid.{is_absent}
use Rattle.plain_heap.specs.Values.{Value, Object, ObjNo, CellNo, text, truth, object_or_null, object_or_undefined}
use Rattle.js_machine.specs.Machine.Events.{each}
use Rattle.js_machine.specs.Machine.Levels.{Setting}
use Rattle.js_machine.specs.Machine.ObjectBuiltins.{Rule, create, define_property, prevent_extensions}
use Rattle.js_machine.specs.Machine.Realm.{builtin_rule}
use Rattle.js_machine.specs.Machine.References.{Context}
use Rattle.js_machine.specs.Machine.Walks.{World}
use Rattle.residual_runs.specs.Runs.{State, Runs}
use Rattle.residual_runs.specs.Statements.{IsExpr, Defines, evaluate}

-- ---- 8.10.5: the descriptor that the fields of an object spell

-- a field is there with a value, or isn't there
abbrev pub FieldIs : Heap → ObjNo → Key → Option Value → Type 0
FieldIs h o key None = has_property h o key ≡ false
FieldIs h o key (Some v) = (has_property h o key ≡ true) × (get h o key ≡ GotValue v) × (is_absent v ≡ false)

-- a getter and a setter are functions, or undefined
abbrev pub IsFunctionField : Heap → Option (Option ObjNo) → Type 0
IsFunctionField h (Some (Some f)) = is_function h f ≡ true
IsFunctionField h f = Unit {0}

pub record Spells (h : Heap) (o : ObjNo) (d : Descriptor) : Type 0 where
  pub value : FieldIs h o (codes "value") d.value
  pub writable : FieldIs h o (codes "writable") (option_map truth d.writable)
  pub enumerable : FieldIs h o (codes "enumerable") (option_map truth d.enumerable)
  pub configurable : FieldIs h o (codes "configurable") (option_map truth d.configurable)
  pub get : FieldIs h o (codes "get") (option_map object_or_undefined d.get)
  pub set : FieldIs h o (codes "set") (option_map object_or_undefined d.set)
  pub getter : IsFunctionField h d.get
  pub setter : IsFunctionField h d.set
  -- step 9
  pub sort : (is_accessor d && is_data d) ≡ false

-- an own data property with a value, or none of this name
abbrev pub OwnField : Option Property → Option Value → Type 0
OwnField None None = Unit {0}
OwnField (Some (Data p)) (Some v) = (p.value ≡ v) × (is_absent v ≡ false)
OwnField _ _ = ⊥

-- an object without a prototype whose own properties have this field, or haven't
pub record Alone (h : Heap) (o : ObjNo) (key : Key) (v : Option Value) : Type 0 where
  pub state : ObjectState
  pub there : object_at h o ≡ Some state
  pub no_prototype : state.prototype ≡ None
  pub field : OwnField (lookup key state.properties) v

-- ---- calls

-- a temporary that holds a built-in, which does this
pub record HoldsBuiltin (names : Environment) (h : Heap) (callee : Expr) (rule : Rule) : Type 0 where
  pub name : List ℕ
  pub is_name : IsExpr callee (ExprForm-F.Name name)
  pub in_cell : CellNo
  pub bound : resolve names name ≡ Some in_cell
  pub object : ObjNo
  pub held : cell h in_cell ≡ Some (Object object)
  pub state : ObjectState
  pub there : object_at h object ≡ Some state
  pub number : ℕ
  pub class : state.class ≡ Builtin number
  pub does : builtin_rule number ≡ Some rule

module _ (set : Setting) (calls : ℕ) (context : Context) (w : World) (d : ℕ) where
  -- a call of it, whose arguments have these values, take so many steps and change nothing
  pub record CallsBuiltin (e : Expr) (rule : Rule) (s : State) (values : List Value) (i : ℕ) : Type 0 where
    pub callee : Expr
    pub arguments : List Expr
    pub is_call : IsExpr e (ExprForm-F.Call callee arguments)
    pub holds : HoldsBuiltin context.environment s.heap callee rule
    pub run : Runs w (each (evaluate set (suc calls) context (suc d)) arguments) s i values s

  -- the call gives this and leaves this heap, whatever comes then
  abbrev pub Gives : Expr → State → ℕ → Value → Heap → Type 0
  Gives e s i v h = Runs w (evaluate set (suc calls) context (suc (suc d)) e) s (2 + i) v (record s { heap = h })

  pub record BuiltinsRun : Type 0 where
    -- Object.create(P)
    pub creates : (e : Expr) (s : State) (i : ℕ) (prototype : Option ObjNo) → CallsBuiltin e create s (object_or_null prototype ∷ []) i
        → let made = make_object Plain prototype s.heap in Gives e s i (Object made.0) made.1
    -- Object.defineProperty(O, "k", D)
    pub defines : (e : Expr) (s : State) (i : ℕ) (o attributes : ObjNo) (key : Key) (descriptor : Descriptor) (after : ObjectState)
        → CallsBuiltin e define_property s (Object o ∷ text key ∷ Object attributes ∷ []) i → Spells s.heap attributes descriptor → Defines s.heap o key descriptor after
        → Gives e s i (Object o) (set_object o after s.heap)
    -- Object.preventExtensions(O)
    pub fixes : (e : Expr) (s : State) (i : ℕ) (o : ObjNo) (before : ObjectState) → CallsBuiltin e prevent_extensions s (Object o ∷ []) i → object_at s.heap o ≡ Some before
        → Gives e s i (Object o) (set_object o (record before { extensible = false }) s.heap)

-- for every setting, context, world and depth
pub record CallsRun : Type 0 where
  pub builtins : (set : Setting) (calls : ℕ) (context : Context) (w : World) (d : ℕ) → BuiltinsRun set calls context w d
  -- the fields of an object without a prototype are its own
  pub alone : (h : Heap) (o : ObjNo) (key : Key) (v : Option Value) → Alone h o key v → FieldIs h o key v
