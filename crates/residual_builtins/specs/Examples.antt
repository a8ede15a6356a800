-- A heap and trees that meet what the laws ask, so that none of them speaks of nothing.
use Rattle.std.specs.Prelude.{ℕ, ◌++◌, false, true, [], ◌∷◌, codes, Some, None}
use Rattle.js_value.specs.declared.primitive.Primitive.TheVariants as primitive
use Rattle.js_tree.specs.Trees.{expr, name}
use Rattle.js_tree.specs.declared.expression.Expr.{Expr}
use Rattle.js_tree.specs.declared.expression.ExprForm.TheVariants as e
use Rattle.plain_heap.specs.Heap.{Environment, Heap, ObjectState, Plain, Array, new_state, data_property}
use Rattle.plain_heap.specs.Methods.{Descriptor, length_key, no_fields}
use Rattle.plain_heap.specs.Values.{Object, null, number, text, truth}
use Rattle.js_machine.specs.Machine.Levels.{Setting}
use Rattle.js_machine.specs.Machine.ObjectBuiltins.{create, define_property, prevent_extensions}
use Rattle.js_machine.specs.Machine.Realm.{realm}
use Rattle.js_machine.specs.Machine.RealmObjects.{array_prototype, global, object_prototype}
use Rattle.js_machine.specs.Machine.References.{Context}
use Rattle.js_machine.specs.Machine.Walks.{World}
use Rattle.residual_runs.specs.Runs.{State}
use Rattle.residual_runs.specs.Statements.{Defines, Puts}
use Rattle.residual_builtins.specs.Calls.{CallsBuiltin, Spells}

-- {}, [] and Object.create(null) with two fields, behind the objects of the realm, which are 41
abbrev pub plain : ObjectState
plain = new_state Plain (Some object_prototype) 1

abbrev pub array : ObjectState
array = new_state Array (Some array_prototype) 2

abbrev pub attributes : ObjectState
attributes = record (new_state Plain None 0) {
  properties = (codes "value", data_property (number 7) true true true) ∷ (codes "enumerable", data_property (truth true) true true true) ∷ [];
}

-- with temporaries that hold three built-ins and two of these objects
abbrev pub example : Heap
example = record {
  objects = realm.objects ++ plain ∷ array ∷ attributes ∷ [];
  cells = Object 18 ∷ Object 21 ∷ Object 23 ∷ Object 41 ∷ Object 43 ∷ [];
}

abbrev pub temporaries : Environment
temporaries = (codes "create", 0) ∷ (codes "define", 1) ∷ (codes "fix", 2) ∷ (codes "a", 3) ∷ (codes "d", 4) ∷ []

abbrev pub context : Context
context = record { environment = temporaries; this = Object global; strict = true }

abbrev pub before : State
before = record { calls = []; heap = example }

-- value: 7, enumerable: true
abbrev pub descriptor : Descriptor
descriptor = record no_fields { value = Some (number 7); enumerable = Some true }

-- create(null), define(a, "x", d) and fix(a)
abbrev pub create_call : Expr
create_call = expr 0 (e.Call (name 0 (codes "create")) (expr 0 (e.Literal primitive.Null) ∷ []))

abbrev pub define_call : Expr
define_call = expr 0 (e.Call (name 0 (codes "define")) (name 0 (codes "a") ∷ expr 0 (e.Literal (primitive.Text (codes "x"))) ∷ name 0 (codes "d") ∷ []))

abbrev pub fix_call : Expr
fix_call = expr 0 (e.Call (name 0 (codes "fix")) (name 0 (codes "a") ∷ []))

pub record Examples : Type 0 where
  -- a.x = 7; on {}
  pub puts : Puts example 41 (codes "x") (number 7) (record plain { properties = (codes "x", data_property (number 7) true true true) ∷ [] })
  -- .length = 2; on []
  pub raises : Puts example 42 length_key (number 2) (record array { properties = (length_key, data_property (number 2) true false false) ∷ [] })
  pub spells : Spells example 43 descriptor
  pub defines : Defines example 41 (codes "x") descriptor (record plain { properties = (codes "x", data_property (number 7) false true false) ∷ [] })
  pub creating : (set : Setting) (calls : ℕ) (w : World) (d : ℕ) → CallsBuiltin set calls context w d create_call create before (null ∷ []) 1
  pub defining : (set : Setting) (calls : ℕ) (w : World) (d : ℕ) → CallsBuiltin set calls context w d define_call define_property before (Object 41 ∷ text (codes "x") ∷ Object 43 ∷ []) 3
  pub fixing : (set : Setting) (calls : ℕ) (w : World) (d : ℕ) → CallsBuiltin set calls context w d fix_call prevent_extensions before (Object 41 ∷ []) 1
