-- How many steps the built-ins of arrays take (15.4.3, 15.4.4), counted by hand: a step for each node, and one for each argument or
-- element.
use Rattle.std.specs.Prelude.{◌≡◌, ℕ, pos, [], ◌∷◌, codes, Some, None}
use Rattle.js_value.specs.declared.primitive.Primitive.TheVariants as primitive
use Rattle.js_tree.specs.Refusals.{place}
use Rattle.js_tree.specs.Trees.{expr, stmt, script}
use Rattle.js_tree.specs.declared.expression.ExprForm.TheVariants as e
use Rattle.js_tree.specs.declared.expression.Field.TheVariants as field
use Rattle.js_tree.specs.declared.statement.Script.{Script}
use Rattle.js_tree.specs.declared.statement.StmtForm.TheVariants as s
use Rattle.machine_cases.specs.Budgets.{by_budget, ended_and_spent}

-- Array.isArray([1]);
-- six nodes
abbrev pub is_array : Script
is_array = script (stmt 0 (s.Eval (expr 0 (e.Call (expr 0 (e.Member (expr 0 (e.Name (codes "Array"))) (codes "isArray"))) (expr 14 (e.ArrayLit (Some (expr 15 (e.Literal (primitive.Number (pos 1)))) ∷ [])) ∷ [])))) ∷ []) []

-- [1].pop();
-- five nodes
abbrev pub popped : Script
popped = script (stmt 0 (s.Eval (expr 0 (e.Call (expr 0 (e.Member (expr 0 (e.ArrayLit (Some (expr 1 (e.Literal (primitive.Number (pos 1)))) ∷ []))) (codes "pop"))) []))) ∷ []) []

-- [].push(1, 2);
-- six nodes, and two arguments
abbrev pub pushed : Script
pushed = script (stmt 0 (s.Eval (expr 0 (e.Call (expr 0 (e.Member (expr 0 (e.ArrayLit [])) (codes "push"))) (expr 8 (e.Literal (primitive.Number (pos 1))) ∷ expr 11 (e.Literal (primitive.Number (pos 2))) ∷ [])))) ∷ []) []

-- [].push();
-- four nodes
abbrev pub pushed_nothing : Script
pushed_nothing = script (stmt 0 (s.Eval (expr 0 (e.Call (expr 0 (e.Member (expr 0 (e.ArrayLit [])) (codes "push"))) []))) ∷ []) []

-- [,].concat(3);
-- five nodes, the hole of the first array, and an item that is no array
abbrev pub concatenated : Script
concatenated = script (stmt 0 (s.Eval (expr 0 (e.Call (expr 0 (e.Member (expr 0 (e.ArrayLit (None ∷ []))) (codes "concat"))) (expr 11 (e.Literal (primitive.Number (pos 3))) ∷ [])))) ∷ []) []

-- [].concat([1, 2]);
-- seven nodes, and two elements of the second array
abbrev pub concatenated_array : Script
concatenated_array = script (stmt 0 (s.Eval (expr 0 (e.Call (expr 0 (e.Member (expr 0 (e.ArrayLit [])) (codes "concat"))) (expr 10 (e.ArrayLit (Some (expr 11 (e.Literal (primitive.Number (pos 1)))) ∷ Some (expr 14 (e.Literal (primitive.Number (pos 2)))) ∷ [])) ∷ [])))) ∷ []) []

-- [].concat({length: 2});
-- six nodes, and one item that is no array
abbrev pub concatenated_like : Script
concatenated_like = script (stmt 0 (s.Eval (expr 0 (e.Call (expr 0 (e.Member (expr 0 (e.ArrayLit [])) (codes "concat"))) (expr 10 (e.ObjectLit (field.Value (place 11) (codes "length") (expr 19 (e.Literal (primitive.Number (pos 2)))) ∷ [])) ∷ [])))) ∷ []) []

-- [1, , 2].slice(1);
-- seven nodes, a hole and an element
abbrev pub sliced : Script
sliced = script (stmt 0 (s.Eval (expr 0 (e.Call (expr 0 (e.Member (expr 0 (e.ArrayLit (Some (expr 1 (e.Literal (primitive.Number (pos 1)))) ∷ None ∷ Some (expr 6 (e.Literal (primitive.Number (pos 2)))) ∷ []))) (codes "slice"))) (expr 15 (e.Literal (primitive.Number (pos 1))) ∷ [])))) ∷ []) []

-- [1].slice(1);
-- six nodes
abbrev pub sliced_nothing : Script
sliced_nothing = script (stmt 0 (s.Eval (expr 0 (e.Call (expr 0 (e.Member (expr 0 (e.ArrayLit (Some (expr 1 (e.Literal (primitive.Number (pos 1)))) ∷ []))) (codes "slice"))) (expr 10 (e.Literal (primitive.Number (pos 1))) ∷ [])))) ∷ []) []

-- [1, , 2].join();
-- six nodes, two elements and a hole
abbrev pub joined : Script
joined = script (stmt 0 (s.Eval (expr 0 (e.Call (expr 0 (e.Member (expr 0 (e.ArrayLit (Some (expr 1 (e.Literal (primitive.Number (pos 1)))) ∷ None ∷ Some (expr 6 (e.Literal (primitive.Number (pos 2)))) ∷ []))) (codes "join"))) []))) ∷ []) []

-- [].join();
-- four nodes
abbrev pub joined_nothing : Script
joined_nothing = script (stmt 0 (s.Eval (expr 0 (e.Call (expr 0 (e.Member (expr 0 (e.ArrayLit [])) (codes "join"))) []))) ∷ []) []

-- [1, 2, 3].indexOf(2);
-- eight nodes, and the elements up to the one that is found
abbrev pub found : Script
found = script (stmt 0 (s.Eval (expr 0 (e.Call (expr 0 (e.Member (expr 0 (e.ArrayLit (Some (expr 1 (e.Literal (primitive.Number (pos 1)))) ∷ Some (expr 4 (e.Literal (primitive.Number (pos 2)))) ∷ Some (expr 7 (e.Literal (primitive.Number (pos 3)))) ∷ []))) (codes "indexOf"))) (expr 18 (e.Literal (primitive.Number (pos 2))) ∷ [])))) ∷ []) []

-- [, 1].indexOf(2);
-- six nodes, a hole and an element
abbrev pub not_found : Script
not_found = script (stmt 0 (s.Eval (expr 0 (e.Call (expr 0 (e.Member (expr 0 (e.ArrayLit (None ∷ Some (expr 3 (e.Literal (primitive.Number (pos 1)))) ∷ []))) (codes "indexOf"))) (expr 14 (e.Literal (primitive.Number (pos 2))) ∷ [])))) ∷ []) []

-- [1, , 2].forEach(Function.prototype);
-- eight nodes, two elements and a hole
abbrev pub visited : Script
visited = script (stmt 0 (s.Eval (expr 0 (e.Call (expr 0 (e.Member (expr 0 (e.ArrayLit (Some (expr 1 (e.Literal (primitive.Number (pos 1)))) ∷ None ∷ Some (expr 6 (e.Literal (primitive.Number (pos 2)))) ∷ []))) (codes "forEach"))) (expr 17 (e.Member (expr 17 (e.Name (codes "Function"))) (codes "prototype")) ∷ [])))) ∷ []) []

-- [, 1].map(Function.prototype);
-- seven nodes, a hole and an element
abbrev pub mapped : Script
mapped = script (stmt 0 (s.Eval (expr 0 (e.Call (expr 0 (e.Member (expr 0 (e.ArrayLit (None ∷ Some (expr 3 (e.Literal (primitive.Number (pos 1)))) ∷ []))) (codes "map"))) (expr 10 (e.Member (expr 10 (e.Name (codes "Function"))) (codes "prototype")) ∷ [])))) ∷ []) []

-- [, 1].filter(Function.prototype);
-- seven nodes, a hole and an element
abbrev pub filtered : Script
filtered = script (stmt 0 (s.Eval (expr 0 (e.Call (expr 0 (e.Member (expr 0 (e.ArrayLit (None ∷ Some (expr 3 (e.Literal (primitive.Number (pos 1)))) ∷ []))) (codes "filter"))) (expr 13 (e.Member (expr 13 (e.Name (codes "Function"))) (codes "prototype")) ∷ [])))) ∷ []) []

pub record ArrayTurns : Type 0 where
  pub is_array_run : (d : ℕ) → by_budget d is_array (6 ∷ 5 ∷ []) ≡ ended_and_spent
  pub popped_run : (d : ℕ) → by_budget d popped (5 ∷ 4 ∷ []) ≡ ended_and_spent
  pub pushed_run : (d : ℕ) → by_budget d pushed (8 ∷ 7 ∷ []) ≡ ended_and_spent
  pub pushed_nothing_run : (d : ℕ) → by_budget d pushed_nothing (4 ∷ 3 ∷ []) ≡ ended_and_spent
  pub concatenated_run : (d : ℕ) → by_budget d concatenated (7 ∷ 6 ∷ []) ≡ ended_and_spent
  pub concatenated_array_run : (d : ℕ) → by_budget d concatenated_array (9 ∷ 8 ∷ []) ≡ ended_and_spent
  pub concatenated_like_run : (d : ℕ) → by_budget d concatenated_like (7 ∷ 6 ∷ []) ≡ ended_and_spent
  pub sliced_run : (d : ℕ) → by_budget d sliced (9 ∷ 8 ∷ []) ≡ ended_and_spent
  pub sliced_nothing_run : (d : ℕ) → by_budget d sliced_nothing (6 ∷ 5 ∷ []) ≡ ended_and_spent
  pub joined_run : (d : ℕ) → by_budget d joined (9 ∷ 8 ∷ []) ≡ ended_and_spent
  pub joined_nothing_run : (d : ℕ) → by_budget d joined_nothing (4 ∷ 3 ∷ []) ≡ ended_and_spent
  pub found_run : (d : ℕ) → by_budget d found (10 ∷ 9 ∷ []) ≡ ended_and_spent
  pub not_found_run : (d : ℕ) → by_budget d not_found (8 ∷ 7 ∷ []) ≡ ended_and_spent
  pub visited_run : (d : ℕ) → by_budget d visited (11 ∷ 10 ∷ []) ≡ ended_and_spent
  pub mapped_run : (d : ℕ) → by_budget d mapped (9 ∷ 8 ∷ []) ≡ ended_and_spent
  pub filtered_run : (d : ℕ) → by_budget d filtered (9 ∷ 8 ∷ []) ≡ ended_and_spent
