-- The paths by which realm objects are named: chains of names from `this`.
use Rattle.std.specs.Prelude.{ℕ, ◌&&◌, Bool, true, false, List, [], ◌∷◌, map}
use Rattle.std.specs.List.{list_any}
use Rattle.std.specs.Str.{bytes_eq}
use Rattle.js_tree.specs.declared.expression.Expr.{Expr}
use Rattle.js_tree.specs.declared.expression.Field.{Field}
use Rattle.js_tree.specs.declared.expression.ExprForm.{ExprForm, out-ExprForm}
use Rattle.js_tree.specs.declared.expression.ExprForm.TheOpen.{ExprForm-F}
use Rattle.residual_form.specs.declared.paths.TheConstants.{PATHS}

abbrev pub Form : Type 0
Form = ExprForm-F ExprForm Field Expr

abbrev pub is_this : Form → Bool
is_this ExprForm-F.This = true
is_this _ = false

-- a member of what leads on
abbrev pub is_member : List ℕ → (Expr → Bool) → Form → Bool
is_member name leads (ExprForm-F.Member object key) = bytes_eq name key && leads object
is_member name leads _ = false

-- the chain of these names from `this`, the last one first
abbrev pub leads : List (List ℕ) → Expr → Bool
leads [] e = is_this (out-ExprForm e.form)
leads (name ∷ names) e = is_member name (leads names) (out-ExprForm e.form)

-- it leads to an object of the realm by the table of paths
unfoldable pub is_path : Expr → Bool
is_path e = list_any (λ path. leads (map (λ name. name.now) path.now) e) PATHS
