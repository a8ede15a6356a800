-- The free names of the functions of a script, by what the inside of each mentions, each form opened once.
use Rattle.std.proofs.Common.{◌≡◌, ℕ, ◌+◌, List, [], ◌∷◌, ◌++◌, ap, refl, ◌∙◌, None, Some, map}
use Rattle.std.specs.Prelude.{codes, pos}
use Rattle.std.specs.List.{flat_map}
use Rattle.js_value.specs.declared.operator.BinaryOp.TheVariants as binary
use Rattle.js_value.specs.declared.place.FuncNo.{FuncNo}
use Rattle.js_value.specs.declared.place.Place.{Place}
use Rattle.js_value.specs.declared.primitive.Primitive.TheVariants as primitive
use Rattle.js_tree.specs.Mentions.{Mention, Reads, Assigns, Mentioned, FieldMentions, Valued, Inside, insides, insides_from, nth, own_name, names_of as names_of_functions, as_expression, unbound, body_mentions, distinct, mentioned_name, both, repeated, form_mentions, field_mentions, expr_mentions, stmt_mentions, declarator_mentions, declared_in, vars_in, free_names, hoisted_vars, hoisted_functions}
use Rattle.js_tree.specs.Refusals.{place}
use Rattle.js_tree.specs.Trees.{expr, name, stmt, declarator}
use Rattle.js_tree.specs.declared.expression.Expr.{Expr}
use Rattle.js_tree.specs.declared.expression.ExprForm.{ExprForm, out-ExprForm}
use Rattle.js_tree.specs.declared.expression.ExprForm.TheFolds.{map-ExprForm, fold-ExprForm, fold-Field, fold_out-ExprForm, fold_out-Field, fold_out-Expr}
use Rattle.js_tree.specs.declared.expression.ExprForm.TheVariants as e
use Rattle.js_tree.specs.declared.expression.Field.{Field}
use Rattle.js_tree.specs.declared.expression.Field.TheVariants as field
use Rattle.js_tree.specs.declared.statement.Declarator.{Declarator}
use Rattle.js_tree.specs.declared.statement.Func.{Func}
use Rattle.js_tree.specs.declared.statement.Name.{Name}
use Rattle.js_tree.specs.declared.statement.StmtForm.TheFolds.{fold_out-Stmt, fold_out-StmtForm}
use Rattle.js_tree.specs.declared.statement.StmtForm.TheVariants as s
use Rattle.js_machine.specs.Machine.Codes.{of_functions}
use Rattle.js_machine.specs.Machine.Listed.{FreeNames, free_in}
use Rattle.worked_runs.specs.WorkedRuns.{make_function, inc_function, get_function, counter_script, makers_script, inherited_setter_script, throwing_setter_script}

-- the free names of each function, where this is what the insides of the functions mention
abbrev pub names_by : List Inside → FreeNames
names_by all f = distinct (flat_map mentioned_name (nth 0 all f).1)

pub names_of : (functions : List Func) (all : List Inside) → insides (of_functions functions) ≡ all → free_in functions ≡ names_by all
unfolding free_names
names_of functions all is = ap names_by is

-- what the inside of a function mentions, where these functions are behind it, with these insides
abbrev inside_of : ℕ → List Func → List Inside → Func → Inside
inside_of n behind insides f = (
  own_name f.name,
  unbound (map (λ (p : Name). p.text) f.params ++ hoisted_vars f.body ++ names_of_functions (n + 1) behind (hoisted_functions f.body))
      (body_mentions (λ g. as_expression (nth (n + 1) insides g)) (λ g. (nth (n + 1) insides g).1) f.body),
)

-- of three functions, from the last to the first
of_three : (f g h : Func) (i j k : Inside) → inside_of 2 [] [] h ≡ k → inside_of 1 (h ∷ []) (k ∷ []) g ≡ j → inside_of 0 (g ∷ h ∷ []) (j ∷ k ∷ []) f ≡ i
    → insides_from 0 (f ∷ g ∷ h ∷ []) ≡ i ∷ j ∷ k ∷ []
of_three f g h i j k last second first =
    ap (λ (k : Inside). inside_of 0 (g ∷ h ∷ []) (inside_of 1 (h ∷ []) (k ∷ []) g ∷ k ∷ []) f ∷ inside_of 1 (h ∷ []) (k ∷ []) g ∷ k ∷ []) last
    ∙ ap (λ (j : Inside). inside_of 0 (g ∷ h ∷ []) (j ∷ k ∷ []) f ∷ j ∷ k ∷ []) second
    ∙ ap (λ (i : Inside). i ∷ j ∷ k ∷ []) first

-- ---- expressions: what a declaration mentions doesn't matter there

abbrev number : ℕ → ℕ → Expr
number at k = expr at (e.Literal (primitive.Number (pos k)))

-- `t + k`
abbrev more : ℕ → List ℕ → ℕ → ℕ → Expr
more at t behind k = expr at (e.Binary binary.Add (name at t) (number behind k))

-- `key: function ..`
abbrev method : Place → List ℕ → ℕ → FuncNo → Field
method at key behind f = field.Value at key (expr behind (e.Func f))

abbrev none_declared : FuncNo → List Mention
none_declared f = []

module _ (inside : FuncNo → List Mention) where
  abbrev in_form : ExprForm → Place → Mentioned
  in_form = fold-ExprForm (Place → Mentioned) FieldMentions Mentioned (form_mentions inside none_declared) (field_mentions inside none_declared) (λ e. e.form e.at)

  abbrev in_field : Field → FieldMentions
  in_field = fold-Field (Place → Mentioned) FieldMentions Mentioned (form_mentions inside none_declared) (field_mentions inside none_declared) (λ e. e.form e.at)

  abbrev in_expr : Expr → Mentioned
  in_expr = expr_mentions inside none_declared

  opened : (e : Expr) → in_expr e
      ≡ form_mentions inside none_declared (map-ExprForm ExprForm Field Expr (Place → Mentioned) FieldMentions Mentioned in_form in_field in_expr (out-ExprForm e.form)) e.at
  opened e =
      fold_out-Expr (Place → Mentioned) FieldMentions Mentioned (form_mentions inside none_declared) (field_mentions inside none_declared) (λ e. e.form e.at) e
      ∙ ap (λ g. g e.at) (fold_out-ExprForm (Place → Mentioned) FieldMentions Mentioned (form_mentions inside none_declared) (field_mentions inside none_declared) (λ e. e.form e.at) e.form)

  in_number : (at k : ℕ) → in_expr (number at k) ≡ both []
  in_number at k = opened (number at k) ∙ rw (e.outs-Literal (primitive.Number (pos k))) refl

  in_name : (at : ℕ) (t : List ℕ) → in_expr (name at t) ≡ (Reads (place at) t ∷ [], Assigns (place at) t ∷ [])
  in_name at t = opened (name at t) ∙ rw (e.outs-Name t) refl

  in_sum : (at : ℕ) (a b : Expr) → in_expr (expr at (e.Binary binary.Add a b)) ≡ both ((in_expr a).0 ++ (in_expr b).0)
  in_sum at a b = opened (expr at (e.Binary binary.Add a b)) ∙ rw (e.outs-Binary binary.Add a b) refl

  in_assigned : (at : ℕ) (a b : Expr) → in_expr (expr at (e.Assign a None b)) ≡ both ((in_expr a).1 ++ (in_expr b).0)
  in_assigned at a b = opened (expr at (e.Assign a None b)) ∙ rw (e.outs-Assign a None b) refl

  in_function : (at : ℕ) (f : FuncNo) → in_expr (expr at (e.Func f)) ≡ both (inside f)
  in_function at f = opened (expr at (e.Func f)) ∙ rw (e.outs-Func f) refl

  in_object : (at : ℕ) (fields : List Field) → in_expr (expr at (e.ObjectLit fields))
      ≡ both (flat_map (λ (f : FieldMentions). f.1) (map in_field fields) ++ repeated [] (map (λ (f : FieldMentions). f.0) (map in_field fields)))
  in_object at fields = opened (expr at (e.ObjectLit fields)) ∙ rw (e.outs-ObjectLit fields) refl

  in_value : (at : Place) (key : List ℕ) (x : Expr) → in_field (field.Value at key x) ≡ ((at, key, Valued), (in_expr x).0)
  in_value at key x =
      fold_out-Field (Place → Mentioned) FieldMentions Mentioned (form_mentions inside none_declared) (field_mentions inside none_declared) (λ e. e.form e.at) (field.Value at key x)
      ∙ rw (field.outs-Value at key x) refl

  in_more : (at : ℕ) (t : List ℕ) (behind k : ℕ) → in_expr (more at t behind k) ≡ both (Reads (place at) t ∷ [])
  in_more at t behind k =
      in_sum at (name at t) (number behind k)
      ∙ ap (λ (m : Mentioned). both (m.0 ++ (in_expr (number behind k)).0)) (in_name at t)
      ∙ ap (λ (m : Mentioned). both (Reads (place at) t ∷ m.0)) (in_number behind k)

  -- `t = t + k`
  in_raised : (at behind last : ℕ) (t : List ℕ) (k : ℕ) → in_expr (expr at (e.Assign (name at t) None (more behind t last k))) ≡ both (Assigns (place at) t ∷ Reads (place behind) t ∷ [])
  in_raised at behind last t k =
      in_assigned at (name at t) (more behind t last k)
      ∙ ap (λ (m : Mentioned). both (m.1 ++ (in_expr (more behind t last k)).0)) (in_name at t)
      ∙ ap (λ (m : Mentioned). both (Assigns (place at) t ∷ m.0)) (in_more behind t last k)

  in_method : (at : Place) (key : List ℕ) (behind : ℕ) (f : FuncNo) → in_field (method at key behind f) ≡ ((at, key, Valued), inside f)
  in_method at key behind f = in_value at key (expr behind (e.Func f)) ∙ ap (λ (m : Mentioned). ((at, key, Valued), m.0)) (in_function behind f)

  abbrev object_of : List FieldMentions → Mentioned
  object_of fields = both (flat_map (λ (f : FieldMentions). f.1) fields ++ repeated [] (map (λ (f : FieldMentions). f.0) fields))

  in_methods : (at : ℕ) (first second : Place) (one other : List ℕ) (m n : ℕ) (f g : FuncNo)
      → in_expr (expr at (e.ObjectLit (method first one m f ∷ method second other n g ∷ []))) ≡ object_of (((first, one, Valued), inside f) ∷ ((second, other, Valued), inside g) ∷ [])
  in_methods at first second one other m n f g =
      in_object at (method first one m f ∷ method second other n g ∷ [])
      ∙ ap (λ (part : FieldMentions). object_of (part ∷ in_field (method second other n g) ∷ [])) (in_method first one m f)
      ∙ ap (λ (part : FieldMentions). object_of (((first, one, Valued), inside f) ∷ part ∷ [])) (in_method second other n g)

-- ---- statements

module _ (inside declared : FuncNo → List Mention) where
  in_throw : (at : ℕ) (x : Expr) → stmt_mentions inside declared (stmt at (s.Throw x)) ≡ (expr_mentions inside declared x).0
  in_throw at x = simp (fold_out-Stmt, fold_out-StmtForm, s.outs-Throw)

  in_evaluated : (at : ℕ) (x : Expr) → stmt_mentions inside declared (stmt at (s.Eval x)) ≡ (expr_mentions inside declared x).0
  in_evaluated at x = simp (fold_out-Stmt, fold_out-StmtForm, s.outs-Eval)

  in_return : (at : ℕ) (x : Expr) → stmt_mentions inside declared (stmt at (s.Return (Some x))) ≡ (expr_mentions inside declared x).0
  in_return at x = simp (fold_out-Stmt, fold_out-StmtForm, s.outs-Return)

  in_declarators : (at : ℕ) (ds : List Declarator) → stmt_mentions inside declared (stmt at (s.Var ds)) ≡ declarator_mentions inside declared ds
  in_declarators at ds = simp (fold_out-Stmt, fold_out-StmtForm, s.outs-Var)

  -- `var t = k;`
  in_started : (at on behind : ℕ) (t : List ℕ) (k : ℕ) → stmt_mentions inside declared (stmt at (s.Var (declarator on t (Some (number behind k)) ∷ []))) ≡ []
  in_started at on behind t k =
      in_declarators at (declarator on t (Some (number behind k)) ∷ []) ∙ ap (λ (m : Mentioned). m.0 ++ []) (in_number inside behind k)

no_vars_thrown : (at : ℕ) (x : Expr) → vars_in (stmt at (s.Throw x)) ≡ []
no_vars_thrown at x = simp (fold_out-Stmt, fold_out-StmtForm, s.outs-Throw)

no_vars_evaluated : (at : ℕ) (x : Expr) → vars_in (stmt at (s.Eval x)) ≡ []
no_vars_evaluated at x = simp (fold_out-Stmt, fold_out-StmtForm, s.outs-Eval)

no_vars_returned : (at : ℕ) (x : Expr) → vars_in (stmt at (s.Return (Some x))) ≡ []
no_vars_returned at x = simp (fold_out-Stmt, fold_out-StmtForm, s.outs-Return)

vars_declared : (at : ℕ) (ds : List Declarator) → vars_in (stmt at (s.Var ds)) ≡ declared_in ds
vars_declared at ds = simp (fold_out-Stmt, fold_out-StmtForm, s.outs-Var)

ruleset mentioning = (in_throw, in_evaluated, in_return, in_started, no_vars_thrown, no_vars_evaluated, no_vars_returned, vars_declared, in_number, in_name, in_function, in_raised, in_methods)

abbrev n : List ℕ
n = codes "n"

abbrev make_inside : Inside
make_inside = (codes "make" ∷ [], [])

abbrev inc_inside : Inside
inc_inside = ([], Assigns (place 57) n ∷ Reads (place 61) n ∷ Reads (place 75) n ∷ [])

abbrev get_inside : Inside
get_inside = ([], Reads (place 107) n ∷ [])

abbrev pub counter_insides : List Inside
counter_insides = make_inside ∷ inc_inside ∷ get_inside ∷ []

abbrev pub makers_insides : List Inside
makers_insides = (codes "make" ∷ [], []) ∷ ([], Reads (place 47) n ∷ []) ∷ []

abbrev pub inherited_insides : List Inside
inherited_insides = ([], Assigns (place 63) (codes "hits") ∷ Reads (place 70) (codes "hits") ∷ []) ∷ []

abbrev pub throwing_insides : List Inside
throwing_insides = ([], []) ∷ []

throwing_inside : insides (of_functions throwing_setter_script.funcs) ≡ throwing_insides
unfolding hoisted_vars hoisted_functions
throwing_inside = simp (mentioning, s.outs-Throw)

pub throwing_names : free_in throwing_setter_script.funcs ≡ names_by throwing_insides
throwing_names = names_of throwing_setter_script.funcs throwing_insides throwing_inside

inherited_inside : insides (of_functions inherited_setter_script.funcs) ≡ inherited_insides
unfolding hoisted_vars hoisted_functions
inherited_inside = simp (mentioning, s.outs-Eval)

pub inherited_names : free_in inherited_setter_script.funcs ≡ names_by inherited_insides
inherited_names = names_of inherited_setter_script.funcs inherited_insides inherited_inside

makers_inside : insides (of_functions makers_script.funcs) ≡ makers_insides
unfolding hoisted_vars hoisted_functions
makers_inside = simp (mentioning, s.outs-Return)

pub makers_names : free_in makers_script.funcs ≡ names_by makers_insides
makers_names = names_of makers_script.funcs makers_insides makers_inside

in_get : inside_of 2 [] [] get_function ≡ get_inside
unfolding hoisted_vars hoisted_functions
in_get = simp (mentioning, s.outs-Return)

in_inc : inside_of 1 (get_function ∷ []) (get_inside ∷ []) inc_function ≡ inc_inside
unfolding hoisted_vars hoisted_functions
in_inc = simp (mentioning, s.outs-Eval, s.outs-Return)

in_make : inside_of 0 (inc_function ∷ get_function ∷ []) (inc_inside ∷ get_inside ∷ []) make_function ≡ make_inside
unfolding hoisted_vars hoisted_functions
in_make = simp (mentioning, s.outs-Return, s.outs-Var)

pub counter_names : free_in counter_script.funcs ≡ names_by counter_insides
counter_names = names_of counter_script.funcs counter_insides (of_three make_function inc_function get_function make_inside inc_inside get_inside in_get in_inc in_make)
