-- Each expression that reading can give.
use Rattle.std.proofs.Common.{◌≡◌, ℕ, zero, suc, ◌+◌, ◌≤◌, Bool, true, not, ◌&&◌, List, [], ◌∷◌, map, refl, ap, sym, subst, ◌∙◌, arith}
use Rattle.std.specs.Prelude.{sum, slice_get, Option, Some, None, is_none}
use Rattle.std.specs.List.{list_all}
use Rattle.std.proofs.lemmas.Bool.{and_parts}
use Rattle.std.proofs.lemmas.List.Sums.{sum_by-cons}
use Rattle.js_value.specs.declared.place.FuncNo.{FuncNo}
use Rattle.js_tree.specs.Count as count
use Rattle.js_tree.specs.declared.expression.Expr.{Expr}
use Rattle.js_tree.specs.declared.expression.Field.{Field, out-Field}
use Rattle.js_tree.specs.declared.expression.ExprForm.{ExprForm, out-ExprForm}
use Rattle.js_tree.specs.declared.expression.ExprForm.TheOpen.{ExprForm-F, Field-F, Expr-F}
use Rattle.js_tree.specs.declared.expression.ExprForm.TheFolds.{map-ExprForm, map-Field, fold-ExprForm, fold-Field, fold-Expr, fold_out-Field}
use Rattle.js_tree.proofs.Folds.{fold-layer, fold-of_expr}
use Rattle.js_tree.specs.declared.statement.Func.{Func}
use Rattle.js_tree.specs.Lexing.{reserved_word}
use Rattle.js_grammar.specs.Marks.{barred, form_name}
use Rattle.js_grammar.specs.ReadableWords.{is_identifier, is_identifier_name, is_readable_text}
use Rattle.js_grammar.specs.ReadableExpressions as R
use Rattle.js_grammar.specs.ReadableExpressions.{ReadExpr, is_element, are_readable, is_compound}
use Rattle.script_text.specs.Pieces.{Piece}
use Rattle.script_text.specs.Expressions as P
use Rattle.script_text.specs.Expressions.{Printed}
use Rattle.lexing_back.proofs.Names.{IsName, is_name}
use Rattle.lexing_back.proofs.Spots.{Fielded, Begun, Runs}
use Rattle.lexing_back.proofs.Parts.{Each, MaybePrints, Prints, PartsRead, FunctionsRun, form-prints, field-runs}

-- ---- one layer of an expression

abbrev Layer : Type 0
Layer = ExprForm-F ExprForm Field Expr

module _ (A B C : Type 0) (form : ExprForm-F A B C → A) (field : Field-F A B C → B) (expr : Expr-F A B C → C) where
  abbrev at_layer : Layer → A
  at_layer l = form (map-ExprForm ExprForm Field Expr A B C (fold-ExprForm A B C form field expr) (fold-Field A B C form field expr) (fold-Expr A B C form field expr) l)

  by_layer : (e : Expr) (l : Layer) → out-ExprForm e.form ≡ l → fold-Expr A B C form field expr e ≡ expr (record { at = e.at; form = at_layer l })
  by_layer e l is = fold-of_expr A B C form field expr e ∙ ap (λ a. expr (record { at = e.at; form = a })) (fold-layer A B C form field expr e.form l is)

  abbrev at_field : Field-F ExprForm Field Expr → B
  at_field l = field (map-Field ExprForm Field Expr A B C (fold-ExprForm A B C form field expr) (fold-Field A B C form field expr) (fold-Expr A B C form field expr) l)

  by_field : (f : Field) → fold-Field A B C form field expr f ≡ at_field (out-Field f)
  by_field f = fold_out-Field A B C form field expr f

-- an identifier is an identifier name
pub is_name-identifier : (us : List ℕ) → is_identifier us ≡ true → IsName us
is_name-identifier us is =
    let a = and_parts (is_identifier_name us && is_none (reserved_word us) && is_none (barred us)) (is_none (form_name us)) is in
    let b = and_parts (is_identifier_name us && is_none (reserved_word us)) (is_none (barred us)) a.0 in
    is_name us (and_parts (is_identifier_name us) (is_none (reserved_word us)) b.0).0

pub sum-cons : (n : ℕ) (ns : List ℕ) → sum (n ∷ ns) ≡ n + sum ns
sum-cons n ns = sum_by-cons (λ x. x) n ns

module _ (function : Bool → FuncNo → List Piece) (functions : FunctionsRun function) (funcs : List Func) where
  abbrev printed_at : Layer → Printed
  printed_at = at_layer Printed (List Piece) Printed (P.of_form function) (P.of_field function) (λ e. e.form)

  abbrev readable_at : Layer → ReadExpr
  readable_at = at_layer ReadExpr Bool ReadExpr (R.of_form funcs) (R.of_field funcs) (λ e. e.form)

  abbrev nodes_at : Layer → ℕ
  nodes_at = at_layer ℕ ℕ ℕ count.of_form count.of_field count.of_expr

  -- those of so many nodes
  abbrev AllPrint : ℕ → Type 0
  AllPrint d = (e : Expr) → count.in_expr e ≤ d → R.is_expr funcs e ≡ true → Prints (P.printed function e)

  values : (d : ℕ) → AllPrint d → (es : List Expr) → sum (map count.in_expr es) ≤ d → are_readable (map (R.in_expr funcs) es) ≡ true → Each Prints (map (P.printed function) es)
  values d below [] few all = tt
  values d below (e ∷ es) few all =
      let p = and_parts (R.is_expr funcs e) (are_readable (map (R.in_expr funcs) es)) all in
      let n = sum-cons (count.in_expr e) (map count.in_expr es) in
      (below e (omega arith) p.0, values d below es (omega arith) p.1)

  -- the elements are mapped by functions of Rattle's own
  element : (d : ℕ) → AllPrint d → (p : Option Expr → Option Printed) (n : Option Expr → Option ℕ) (r : Option Expr → Option ReadExpr)
      → p None ≡ None → ((e : Expr) → p (Some e) ≡ Some (P.printed function e)) → ((e : Expr) → n (Some e) ≡ Some (count.in_expr e)) → ((e : Expr) → r (Some e) ≡ Some (R.in_expr funcs e))
      → (o : Option Expr) → count.or_zero (n o) ≤ d → is_element (r o) ≡ true → MaybePrints (p o)
  element d below p n r p0 p1 n1 r1 None few is = subst (λ o. MaybePrints o) (sym p0) tt
  element d below p n r p0 p1 n1 r1 (Some e) few is =
      let small : count.in_expr e ≤ d = subst (λ o. count.or_zero o ≤ d) (n1 e) few in
      subst (λ o. MaybePrints o) (sym (p1 e)) (below e small (subst (λ o. is_element o ≡ true) (r1 e) is))

  elements : (d : ℕ) → AllPrint d → (p : Option Expr → Option Printed) (n : Option Expr → Option ℕ) (r : Option Expr → Option ReadExpr)
      → p None ≡ None → ((e : Expr) → p (Some e) ≡ Some (P.printed function e)) → ((e : Expr) → n (Some e) ≡ Some (count.in_expr e)) → ((e : Expr) → r (Some e) ≡ Some (R.in_expr funcs e))
      → (os : List (Option Expr)) → sum (map count.or_zero (map n os)) ≤ d → list_all is_element (map r os) ≡ true → Each MaybePrints (map p os)
  elements d below p n r p0 p1 n1 r1 [] few all = tt
  elements d below p n r p0 p1 n1 r1 (o ∷ os) few all =
      let parts = and_parts (is_element (r o)) (list_all is_element (map r os)) all in
      let m = sum-cons (count.or_zero (n o)) (map count.or_zero (map n os)) in
      (element d below p n r p0 p1 n1 r1 o (omega arith) parts.0, elements d below p n r p0 p1 n1 r1 os (omega arith) parts.1)

  abbrev field_printed : Field-F ExprForm Field Expr → List Piece
  field_printed = at_field Printed (List Piece) Printed (P.of_form function) (P.of_field function) (λ e. e.form)

  abbrev field_readable : Field-F ExprForm Field Expr → Bool
  field_readable = at_field ReadExpr Bool ReadExpr (R.of_form funcs) (R.of_field funcs) (λ e. e.form)

  abbrev field_nodes : Field-F ExprForm Field Expr → ℕ
  field_nodes = at_field ℕ ℕ ℕ count.of_form count.of_field count.of_expr

  field_layer : (d : ℕ) → AllPrint d → (l : Field-F ExprForm Field Expr) → field_nodes l ≤ d → field_readable l ≡ true → Runs Fielded Begun (field_printed l)
  field_layer d below (Field-F.Value at key e) few is =
      let p = and_parts (is_readable_text key) (R.is_expr funcs e) is in
      field-runs function functions (Field-F.Value at key (P.printed function e)) (p.0, below e few p.1)
  field_layer d below (Field-F.Getter at key f) few is = field-runs function functions (Field-F.Getter at key f) (and_parts (is_readable_text key) (R.is_accessor 0 (slice_get funcs f.0)) is).0
  field_layer d below (Field-F.Setter at key f) few is = field-runs function functions (Field-F.Setter at key f) (and_parts (is_readable_text key) (R.is_accessor 1 (slice_get funcs f.0)) is).0

  fields : (d : ℕ) → AllPrint d → (fs : List Field) → sum (map count.in_field fs) ≤ d → list_all (λ b. b) (map (R.in_field funcs) fs) ≡ true → Each (λ ps. Runs Fielded Begun ps) (map (P.printed_field function) fs)
  fields d below [] few all = tt
  fields d below (f ∷ fs) few all =
      let parts = and_parts (R.in_field funcs f) (list_all (λ b. b) (map (R.in_field funcs) fs)) all in
      let m = sum-cons (count.in_field f) (map count.in_field fs) in
      let n = by_field ℕ ℕ ℕ count.of_form count.of_field count.of_expr f in
      let r = by_field ReadExpr Bool ReadExpr (R.of_form funcs) (R.of_field funcs) (λ e. e.form) f in
      let p = by_field Printed (List Piece) Printed (P.of_form function) (P.of_field function) (λ e. e.form) f in
      let small : field_nodes (out-Field f) ≤ d = omega (arith, n) in
      (subst (λ ps. Runs Fielded Begun ps) (sym p) (field_layer d below (out-Field f) small (sym r ∙ parts.0)), fields d below fs (omega arith) parts.1)

  -- ---- each form

  abbrev parts_at : Layer → ExprForm-F Printed (List Piece) Printed
  parts_at l = map-ExprForm ExprForm Field Expr Printed (List Piece) Printed (P.printed_form function) (P.printed_field function) (P.printed function) l

  parts : (d : ℕ) → AllPrint d → (l : Layer) → nodes_at l ≤ d → (readable_at l).readable ≡ true → PartsRead (parts_at l)
  parts d below ExprForm-F.This few is = tt
  parts d below (ExprForm-F.Name us) few is = is_name-identifier us is
  parts d below (ExprForm-F.Literal v) few is = is
  parts d below (ExprForm-F.ArrayLit items) few is = elements d below _ _ _ refl (λ e. refl) (λ e. refl) (λ e. refl) items few is
  parts d below (ExprForm-F.ObjectLit fs) few is = fields d below fs few is
  parts d below (ExprForm-F.Func f) few is = tt
  parts d below (ExprForm-F.Member o key) few is = let p = and_parts (R.is_expr funcs o) (is_identifier_name key) is in (below o few p.0, is_name key p.1)
  parts d below (ExprForm-F.Index o key) few is = let p = and_parts (R.is_expr funcs o) (R.is_expr funcs key) is in (below o (omega arith) p.0, below key (omega arith) p.1)
  parts d below (ExprForm-F.Call callee args) few is =
      let p = and_parts (R.is_expr funcs callee) (are_readable (map (R.in_expr funcs) args)) is in
      (below callee (omega arith) p.0, values d below args (omega arith) p.1)
  parts d below (ExprForm-F.New callee args) few is =
      let p = and_parts (R.is_expr funcs callee) (are_readable (map (R.in_expr funcs) args)) is in
      (below callee (omega arith) p.0, values d below args (omega arith) p.1)
  parts d below (ExprForm-F.Unary op a) few is = below a few (and_parts (R.is_expr funcs a) (not (R.is_delete op && (R.in_expr funcs a).is_name)) is).0
  parts d below (ExprForm-F.Binary op a b) few is = let p = and_parts (R.is_expr funcs a) (R.is_expr funcs b) is in (below a (omega arith) p.0, below b (omega arith) p.1)
  parts d below (ExprForm-F.Logic op a b) few is = let p = and_parts (R.is_expr funcs a) (R.is_expr funcs b) is in (below a (omega arith) p.0, below b (omega arith) p.1)
  parts d below (ExprForm-F.Conditional test a b) few is =
      let p = and_parts (R.is_expr funcs test && R.is_expr funcs a) (R.is_expr funcs b) is in
      let q = and_parts (R.is_expr funcs test) (R.is_expr funcs a) p.0 in
      (below test (omega arith) q.0, below a (omega arith) q.1, below b (omega arith) p.1)
  parts d below (ExprForm-F.Assign a op b) few is =
      let p = and_parts (R.is_expr funcs a && (R.in_expr funcs a).is_target && is_compound op) (R.is_expr funcs b) is in
      let q = and_parts (R.is_expr funcs a && (R.in_expr funcs a).is_target) (is_compound op) p.0 in
      (below a (omega arith) (and_parts (R.is_expr funcs a) ((R.in_expr funcs a).is_target) q.0).0, q.1, below b (omega arith) p.1)
  parts d below (ExprForm-F.Step op a) few is = below a few (and_parts (R.is_expr funcs a) ((R.in_expr funcs a).is_target) is).0
  parts d below (ExprForm-F.Comma a b) few is = let p = and_parts (R.is_expr funcs a) (R.is_expr funcs b) is in (below a (omega arith) p.0, below b (omega arith) p.1)
  parts d below (ExprForm-F.Input k us) few is = is
  parts d below (ExprForm-F.HostCall k us args) few is =
      let p = and_parts (is_readable_text us) (are_readable (map (R.in_expr funcs) args)) is in
      (p.0, values d below args (omega arith) p.1)

  all : (d : ℕ) → AllPrint d
  all zero e few is = let n = by_layer ℕ ℕ ℕ count.of_form count.of_field count.of_expr e (out-ExprForm e.form) refl in absurd (omega (arith, n, few))
  all (suc d) e few is =
      let l = out-ExprForm e.form in
      let n = by_layer ℕ ℕ ℕ count.of_form count.of_field count.of_expr e l refl in
      let r = by_layer ReadExpr Bool ReadExpr (R.of_form funcs) (R.of_field funcs) (λ x. x.form) e l refl in
      let p = by_layer Printed (List Piece) Printed (P.of_form function) (P.of_field function) (λ x. x.form) e l refl in
      subst (λ x. Prints x) (sym p) (form-prints function functions (parts_at l) (parts d (all d) l (omega (arith, n, few)) (ap (λ (x : ReadExpr). x.readable) (sym r) ∙ is)))

  -- an expression that reading can give
  pub expression-prints : (e : Expr) → R.is_expr funcs e ≡ true → Prints (P.printed function e)
  expression-prints e is = all (count.in_expr e) e (omega arith) is
