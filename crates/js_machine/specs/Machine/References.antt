-- Execution contexts (10.3), and what names and references stand for (8.7, 10.2.2).
use Rattle.std.specs.Prelude.{[], ℕ, Bool, false, List, Option, Some, None, if◌then◌else◌, unwrap_or}
use Rattle.plain_heap.specs.Values.{Value, Object, CellNo, undefined}
use Rattle.plain_heap.specs.Heap.{Key, cell, set_cell, resolve, Environment}
use Rattle.js_machine.specs.Machine.RealmObjects.{ReferenceError, global}
use Rattle.js_machine.specs.Machine.Objects.{Site, throw_error, get, put, has_property, get_of, put_of}
use Rattle.js_machine.specs.Machine.Events.{◌>>=◌, Run, give, change, look, choose}

-- 10.3: what the code binds and the code around it, its `this`, and whether it is strict (10.1.1)
pub record Context : Type 0 where
  pub environment : Environment
  pub this : Value
  pub strict : Bool

-- 10.4.1
abbrev pub global_context : Bool → Context
global_context strict = record { environment = []; this = Object global; strict = strict }

-- what a name is bound to: a cell, a property of the global object, or nothing
pub data Binding : Type 0 where
  InCell : CellNo → Binding
  OnGlobal : Binding
  Nowhere : Binding

-- 8.7, with the strict reference flag
pub data Reference : Type 0 where
  NameReference : List ℕ → Binding → Bool → Reference
  PropertyReference : Value → Key → Bool → Reference

abbrev pub global_binding : Bool → Binding
global_binding bound = if bound then OnGlobal else Nowhere

abbrev pub binding : Site → List ℕ → Option CellNo → Run Binding
binding site name (Some c) = give (InCell c)
binding site name None = do
  bound ← has_property site global name
  give (global_binding bound)

-- 10.2.2.1: by the environment, and then on the global object
unfoldable pub resolve_name : Site → Context → List ℕ → Run Reference
resolve_name site context name = do
  b ← binding site name (resolve context.environment name)
  give (NameReference name b context.strict)

-- 8.7.1: GetValue
unfoldable pub get_value : Site → Reference → Run Value
get_value site (NameReference name (InCell c) strict) = look (λ h. unwrap_or (cell h c) undefined)
get_value site (NameReference name OnGlobal strict) = get site global name
get_value site (NameReference name Nowhere strict) = throw_error ReferenceError
get_value site (PropertyReference base key strict) = get_of site base key

-- 8.7.2: PutValue; what a name that isn't bound is given goes to the global object, but in strict code it throws
unfoldable pub put_value : Site → Reference → Value → Run (Unit {0})
put_value site (NameReference name (InCell c) strict) v = change (set_cell c v)
put_value site (NameReference name OnGlobal strict) v = put site global name v strict
put_value site (NameReference name Nowhere strict) v = choose strict (throw_error ReferenceError) (put site global name v false)
put_value site (PropertyReference base key strict) v = put_of site base key v strict
