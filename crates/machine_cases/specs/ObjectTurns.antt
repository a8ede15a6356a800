-- How many steps the built-ins of objects and functions take (15.2.3, 15.3.4), counted by hand: a step for each node, and one for each
-- own property or item.
use Rattle.std.specs.Prelude.{◌≡◌, ℕ, pos, [], ◌∷◌, codes, Some}
use Rattle.js_value.specs.declared.primitive.Primitive.TheVariants as primitive
use Rattle.js_tree.specs.Refusals.{place}
use Rattle.js_tree.specs.Trees.{expr, stmt, script}
use Rattle.js_tree.specs.declared.expression.ExprForm.TheVariants as e
use Rattle.js_tree.specs.declared.expression.Field.TheVariants as field
use Rattle.js_tree.specs.declared.statement.Script.{Script}
use Rattle.js_tree.specs.declared.statement.StmtForm.TheVariants as s
use Rattle.machine_cases.specs.Budgets.{by_budget, ended_and_spent}

-- Object.keys([1]);
-- six nodes, and the properties `length` and `0`
abbrev pub keys : Script
keys = script (stmt 0 (s.Eval (expr 0 (e.Call (expr 0 (e.Member (expr 0 (e.Name (codes "Object"))) (codes "keys"))) (expr 12 (e.ArrayLit (Some (expr 13 (e.Literal (primitive.Number (pos 1)))) ∷ [])) ∷ [])))) ∷ []) []

-- Object.keys({});
-- five nodes, and no property
abbrev pub keys_of_nothing : Script
keys_of_nothing = script (stmt 0 (s.Eval (expr 0 (e.Call (expr 0 (e.Member (expr 0 (e.Name (codes "Object"))) (codes "keys"))) (expr 12 (e.ObjectLit []) ∷ [])))) ∷ []) []

-- Object.seal({a: 1});
-- six nodes, and one property
abbrev pub sealed : Script
sealed = script (stmt 0 (s.Eval (expr 0 (e.Call (expr 0 (e.Member (expr 0 (e.Name (codes "Object"))) (codes "seal"))) (expr 12 (e.ObjectLit (field.Value (place 13) (codes "a") (expr 16 (e.Literal (primitive.Number (pos 1)))) ∷ [])) ∷ [])))) ∷ []) []

-- Object.freeze([1]);
-- six nodes, and the properties `length` and `0`
abbrev pub frozen : Script
frozen = script (stmt 0 (s.Eval (expr 0 (e.Call (expr 0 (e.Member (expr 0 (e.Name (codes "Object"))) (codes "freeze"))) (expr 14 (e.ArrayLit (Some (expr 15 (e.Literal (primitive.Number (pos 1)))) ∷ [])) ∷ [])))) ∷ []) []

-- Object.isSealed(Error);
-- five nodes, and the properties `length` and `prototype`, which both are so
abbrev pub is_sealed : Script
is_sealed = script (stmt 0 (s.Eval (expr 0 (e.Call (expr 0 (e.Member (expr 0 (e.Name (codes "Object"))) (codes "isSealed"))) (expr 16 (e.Name (codes "Error")) ∷ [])))) ∷ []) []

-- Object.isSealed({a: 1, b: 2});
-- seven nodes, and the property `a`, which isn't so
abbrev pub is_sealed_first : Script
is_sealed_first = script (stmt 0 (s.Eval (expr 0 (e.Call (expr 0 (e.Member (expr 0 (e.Name (codes "Object"))) (codes "isSealed"))) (expr 16 (e.ObjectLit (field.Value (place 17) (codes "a") (expr 20 (e.Literal (primitive.Number (pos 1)))) ∷ field.Value (place 23) (codes "b") (expr 26 (e.Literal (primitive.Number (pos 2)))) ∷ [])) ∷ [])))) ∷ []) []

-- Object.isFrozen(Error);
-- five nodes, and the properties `length` and `prototype`, which both are so
abbrev pub is_frozen : Script
is_frozen = script (stmt 0 (s.Eval (expr 0 (e.Call (expr 0 (e.Member (expr 0 (e.Name (codes "Object"))) (codes "isFrozen"))) (expr 16 (e.Name (codes "Error")) ∷ [])))) ∷ []) []

-- Object.isFrozen([1]);
-- six nodes, and the property `length`, which isn't so
abbrev pub is_frozen_first : Script
is_frozen_first = script (stmt 0 (s.Eval (expr 0 (e.Call (expr 0 (e.Member (expr 0 (e.Name (codes "Object"))) (codes "isFrozen"))) (expr 16 (e.ArrayLit (Some (expr 17 (e.Literal (primitive.Number (pos 1)))) ∷ [])) ∷ [])))) ∷ []) []

-- Object.preventExtensions([1]);
-- six nodes
abbrev pub fixed : Script
fixed = script (stmt 0 (s.Eval (expr 0 (e.Call (expr 0 (e.Member (expr 0 (e.Name (codes "Object"))) (codes "preventExtensions"))) (expr 25 (e.ArrayLit (Some (expr 26 (e.Literal (primitive.Number (pos 1)))) ∷ [])) ∷ [])))) ∷ []) []

-- Object.isExtensible([1]);
-- six nodes
abbrev pub is_extensible : Script
is_extensible = script (stmt 0 (s.Eval (expr 0 (e.Call (expr 0 (e.Member (expr 0 (e.Name (codes "Object"))) (codes "isExtensible"))) (expr 20 (e.ArrayLit (Some (expr 21 (e.Literal (primitive.Number (pos 1)))) ∷ [])) ∷ [])))) ∷ []) []

-- Object.getOwnPropertyDescriptor([1], "0");
-- seven nodes
abbrev pub descriptor : Script
descriptor = script (stmt 0 (s.Eval (expr 0 (e.Call (expr 0 (e.Member (expr 0 (e.Name (codes "Object"))) (codes "getOwnPropertyDescriptor"))) (expr 32 (e.ArrayLit (Some (expr 33 (e.Literal (primitive.Number (pos 1)))) ∷ [])) ∷ expr 37 (e.Literal (primitive.Text (codes "0"))) ∷ [])))) ∷ []) []

-- Object.defineProperty({}, "a", {value: 1});
-- eight nodes
abbrev pub defined : Script
defined = script (stmt 0 (s.Eval (expr 0 (e.Call (expr 0 (e.Member (expr 0 (e.Name (codes "Object"))) (codes "defineProperty"))) (expr 22 (e.ObjectLit []) ∷ expr 26 (e.Literal (primitive.Text (codes "a"))) ∷ expr 31 (e.ObjectLit (field.Value (place 32) (codes "value") (expr 39 (e.Literal (primitive.Number (pos 1)))) ∷ [])) ∷ [])))) ∷ []) []

-- Function.prototype.apply(null, [1, 2]);
-- nine nodes, and two items
abbrev pub applied : Script
applied = script (stmt 0 (s.Eval (expr 0 (e.Call (expr 0 (e.Member (expr 0 (e.Member (expr 0 (e.Name (codes "Function"))) (codes "prototype"))) (codes "apply"))) (expr 25 (e.Literal primitive.Null) ∷ expr 31 (e.ArrayLit (Some (expr 32 (e.Literal (primitive.Number (pos 1)))) ∷ Some (expr 35 (e.Literal (primitive.Number (pos 2)))) ∷ [])) ∷ [])))) ∷ []) []

-- Function.prototype.apply(null, {length: 2});
-- eight nodes, and two items that aren't there
abbrev pub applied_like : Script
applied_like = script (stmt 0 (s.Eval (expr 0 (e.Call (expr 0 (e.Member (expr 0 (e.Member (expr 0 (e.Name (codes "Function"))) (codes "prototype"))) (codes "apply"))) (expr 25 (e.Literal primitive.Null) ∷ expr 31 (e.ObjectLit (field.Value (place 32) (codes "length") (expr 40 (e.Literal (primitive.Number (pos 2)))) ∷ [])) ∷ [])))) ∷ []) []

-- Function.prototype.apply(null);
-- six nodes
abbrev pub applied_nothing : Script
applied_nothing = script (stmt 0 (s.Eval (expr 0 (e.Call (expr 0 (e.Member (expr 0 (e.Member (expr 0 (e.Name (codes "Function"))) (codes "prototype"))) (codes "apply"))) (expr 25 (e.Literal primitive.Null) ∷ [])))) ∷ []) []

-- Function.prototype.call(1, 2);
-- seven nodes
abbrev pub called : Script
called = script (stmt 0 (s.Eval (expr 0 (e.Call (expr 0 (e.Member (expr 0 (e.Member (expr 0 (e.Name (codes "Function"))) (codes "prototype"))) (codes "call"))) (expr 24 (e.Literal (primitive.Number (pos 1))) ∷ expr 27 (e.Literal (primitive.Number (pos 2))) ∷ [])))) ∷ []) []

pub record ObjectTurns : Type 0 where
  pub keys_run : (d : ℕ) → by_budget d keys (8 ∷ 7 ∷ []) ≡ ended_and_spent
  pub keys_of_nothing_run : (d : ℕ) → by_budget d keys_of_nothing (5 ∷ 4 ∷ []) ≡ ended_and_spent
  pub sealed_run : (d : ℕ) → by_budget d sealed (7 ∷ 6 ∷ []) ≡ ended_and_spent
  pub frozen_run : (d : ℕ) → by_budget d frozen (8 ∷ 7 ∷ []) ≡ ended_and_spent
  pub is_sealed_run : (d : ℕ) → by_budget d is_sealed (7 ∷ 6 ∷ []) ≡ ended_and_spent
  pub is_sealed_first_run : (d : ℕ) → by_budget d is_sealed_first (8 ∷ 7 ∷ []) ≡ ended_and_spent
  pub is_frozen_run : (d : ℕ) → by_budget d is_frozen (7 ∷ 6 ∷ []) ≡ ended_and_spent
  pub is_frozen_first_run : (d : ℕ) → by_budget d is_frozen_first (7 ∷ 6 ∷ []) ≡ ended_and_spent
  pub fixed_run : (d : ℕ) → by_budget d fixed (6 ∷ 5 ∷ []) ≡ ended_and_spent
  pub is_extensible_run : (d : ℕ) → by_budget d is_extensible (6 ∷ 5 ∷ []) ≡ ended_and_spent
  pub descriptor_run : (d : ℕ) → by_budget d descriptor (7 ∷ 6 ∷ []) ≡ ended_and_spent
  pub defined_run : (d : ℕ) → by_budget d defined (8 ∷ 7 ∷ []) ≡ ended_and_spent
  pub applied_run : (d : ℕ) → by_budget d applied (11 ∷ 10 ∷ []) ≡ ended_and_spent
  pub applied_like_run : (d : ℕ) → by_budget d applied_like (10 ∷ 9 ∷ []) ≡ ended_and_spent
  pub applied_nothing_run : (d : ℕ) → by_budget d applied_nothing (6 ∷ 5 ∷ []) ≡ ended_and_spent
  pub called_run : (d : ℕ) → by_budget d called (7 ∷ 6 ∷ []) ≡ ended_and_spent
