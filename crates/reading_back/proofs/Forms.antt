-- Every readable expression, as it is printed, reads back in every production that takes it.
use Rattle.std.proofs.Common.{◌≡◌, ◌≤◌, ℕ, ◌+◌, Bool, true, false, List, [], ◌∷◌, ◌++◌, map, refl, ap, sym, ◌∙◌, subst, arith, suc, max}
use Rattle.std.specs.Prelude.{◌&&◌, not, Option, Some, None}
use Rattle.std.specs.List.{list_all, flat_map}
use Rattle.std.specs.Option.{option_map}
use Rattle.js_value.specs.declared.operator.BinaryOp.{BinaryOp}
use Rattle.js_value.specs.declared.operator.UnaryOp.{UnaryOp}
use Rattle.js_value.specs.declared.place.FuncNo.{FuncNo}
use Rattle.js_value.specs.declared.place.Place.{Place}
use Rattle.js_value.specs.declared.primitive.Kind.{Kind}
use Rattle.js_value.specs.declared.primitive.Primitive.{Primitive}
use Rattle.js_value.specs.declared.primitive.Primitive.TheVariants as primitive
use Rattle.js_tree.specs.Mentions.{joined, of_none}
use Rattle.js_tree.specs.declared.expression.Expr.{Expr, roll-Expr}
use Rattle.js_tree.specs.declared.expression.Field.{Field, roll-Field, fold-Field, out-roll-Field}
use Rattle.js_tree.specs.declared.expression.ExprForm.{ExprForm, roll-ExprForm, out-ExprForm, fold-ExprForm, out-roll-ExprForm}
use Rattle.js_tree.specs.declared.expression.ExprForm.TheFolds.{map-ExprForm, map-Field, fold-roll-ExprForm, fold-roll-Field, fold_out-Expr, ind-Expr}
use Rattle.js_tree.specs.declared.expression.ExprForm.TheOpen.{ExprForm-F, Field-F, Expr-F}
use Rattle.js_tree.specs.declared.expression.LogicOp.{LogicOp}
use Rattle.js_tree.specs.declared.expression.StepOp.{StepOp}
use Rattle.js_tree.specs.declared.expression.StepOp.TheVariants as step
use Rattle.js_grammar.specs.Expressions as E
use Rattle.js_grammar.specs.FunctionOrder as order
use Rattle.js_grammar.specs.FunctionOrder.{Numbers}
use Rattle.js_grammar.specs.ReadableExpressions as readable
use Rattle.js_grammar.specs.ReadableExpressions.{ReadExpr}
use Rattle.script_text.specs.Expressions as text
use Rattle.script_text.specs.Expressions.{Printed, tokens, binary_level, logic_level, branch, index}
use Rattle.script_text.specs.Pieces.{Piece, separated, behind_commas}
use Rattle.reading_back.proofs.Claims.{World, Look, Low, Part, Whole, FieldPart, FunctionsRead}
use Rattle.reading_back.proofs.Arrays.{bound_items, deep_items, tree_items, printed_items, array_pieces, array_part}
use Rattle.reading_back.proofs.Calls.{Arg, deep_all, trees, printed_all, call_part, new_look, new_pieces, new_part}
use Rattle.reading_back.proofs.Objects.{Property, bounds, trees as field_trees, pieces_all, object_pieces, object_part}
use Rattle.reading_back.proofs.Fields.{value_part, getter_part, setter_part}
use Rattle.reading_back.proofs.Groups.{fit, fit_unless, callee_fit}
use Rattle.reading_back.proofs.HostForms.{input_part, host_call_part}
use Rattle.reading_back.proofs.LooseOperators.{conditional_part, assign_part, comma_part}
use Rattle.reading_back.proofs.Members.{member_part, index_part}
use Rattle.reading_back.proofs.OneOperand.{up, down, unary_part, prefix_part, postfix_part}
use Rattle.reading_back.proofs.Readability.{both, is_in_is, no_deleted_name, read_target, plain_name}
use Rattle.reading_back.proofs.Same.{Layer}
use Rattle.script_nesting.proofs.Equations.{high_form, high_field, heights, height_is}
use Rattle.script_nesting.specs.Height as height
use Rattle.script_nesting.specs.Highest.{highest, or_zero}
use Rattle.script_nesting.specs.Opened as depth
use Rattle.script_nesting.specs.Opened.{Deep}
use Rattle.script_nesting.proofs.Printed.{deep_form, deep_field, deep_layer, printed_is, printed_form_is, printed_field_is}
use Rattle.reading_back.proofs.TwoOperands.{binary_bounds, logic_bounds, binary_part, logic_part}
use Rattle.reading_back.proofs.Words.{word_look, this_part, name_part, literal_part, function_part}

two : 2 ≤ 17
two = omega arith

module _ (all : World) (function : Bool → FuncNo → List Piece) (inside : FuncNo → ℕ) (reads : FunctionsRead all function inside) where
  abbrev pub numbers_form : ExprForm → Numbers
  numbers_form = fold-ExprForm Numbers Numbers Numbers order.in_form order.in_field (λ x. x.form)

  abbrev pub numbers_field : Field → Numbers
  numbers_field = fold-Field Numbers Numbers Numbers order.in_form order.in_field (λ x. x.form)

  abbrev printed_layer : Layer → ExprForm-F Printed (List Piece) Printed
  printed_layer = map-ExprForm ExprForm Field Expr Printed (List Piece) Printed (text.printed_form function) (text.printed_field function) (text.printed function)

  abbrev numbers_layer : Layer → ExprForm-F Numbers Numbers Numbers
  numbers_layer = map-ExprForm ExprForm Field Expr Numbers Numbers Numbers numbers_form numbers_field order.in_expr

  abbrev readable_layer : Layer → ExprForm-F ReadExpr Bool ReadExpr
  readable_layer = map-ExprForm ExprForm Field Expr ReadExpr Bool ReadExpr (readable.in_form all.functions) (readable.in_field all.functions) (readable.in_expr all.functions)

  abbrev Both : Type 0
  Both = List Piece × ℕ

  -- how many parts are open inside, beside what is printed
  abbrev opened_form : ExprForm → Bool → ℕ
  opened_form form = (deep_form function inside form).opened

  abbrev pub opened : Expr → Bool → ℕ
  opened x = (depth.deep function inside x).opened

  abbrev beside_form : ExprForm → Deep
  beside_form form = record { printed = text.printed_form function form; opened = opened_form form }

  abbrev beside_field : Field → Both
  beside_field f = (text.printed_field function f, (deep_field function inside f).1)

  abbrev pub beside : Expr → Deep
  beside x = record { printed = text.printed function x; opened = opened x }

  abbrev beside_layer : Layer → ExprForm-F Deep Both Deep
  beside_layer = map-ExprForm ExprForm Field Expr Deep Both Deep beside_form beside_field beside

  abbrev beside_field_layer : Field-F ExprForm Field Expr → Field-F Deep Both Deep
  beside_field_layer = map-Field ExprForm Field Expr Deep Both Deep beside_form beside_field beside

  same_form : (form : ExprForm) → beside_form form ≡ deep_form function inside form
  same_form form = ap (λ (p : Printed). record { printed = p; opened = opened_form form }) (sym (printed_form_is function inside form))

  same_field : (x : Field) → beside_field x ≡ deep_field function inside x
  same_field x = ap (λ (ps : List Piece). (ps, (deep_field function inside x).1)) (sym (printed_field_is function inside x))

  pub same_expr : (x : Expr) → beside x ≡ depth.deep function inside x
  same_expr x = ap (λ (p : Printed). record { printed = p; opened = opened x }) (sym (printed_is function inside x))

  beside_is : (l : Layer) → beside_layer l ≡ deep_layer function inside l
  beside_is l = λ i. map-ExprForm ExprForm Field Expr Deep Both Deep (λ x. same_form x i) (λ x. same_field x i) (λ x. same_expr x i) l

  beside_field_is : (l : Field-F ExprForm Field Expr) → beside_field_layer l ≡ map-Field ExprForm Field Expr Deep Both Deep (deep_form function inside) (deep_field function inside) (depth.deep function inside) l
  beside_field_is l = λ i. map-Field ExprForm Field Expr Deep Both Deep (λ x. same_form x i) (λ x. same_field x i) (λ x. same_expr x i) l

  abbrev pub FormReads : ExprForm → Type 0
  FormReads form = (readable.in_form all.functions form).readable ≡ true → (at : Place) → Low all (record { at = at; form = form })
      → Whole all (text.printed_form function form) (opened_form form) (numbers_form form) (record { at = at; form = form })

  abbrev pub ExprReads : Expr → Type 0
  ExprReads x = (readable.in_expr all.functions x).readable ≡ true → Low all x → Whole all (text.printed function x) (opened x) (order.in_expr x) x

  abbrev pub FieldReads : Field → Type 0
  FieldReads f = readable.in_field all.functions f ≡ true → high_field all.tall f ≤ all.high → FieldPart all (deep_field function inside f).1 (text.printed_field function f) (numbers_field f) f

  -- what is to be proved of a layer
  abbrev LayerReads : Layer → Type 0
  LayerReads l = (readable.of_form all.functions (readable_layer l)).readable ≡ true → (at : Place) → Low all (record { at = at; form = roll-ExprForm l })
      → Whole all (text.of_form function (printed_layer l)) (depth.of_layer function inside (beside_layer l)) (order.in_form (numbers_layer l)) (record { at = at; form = roll-ExprForm l })

  from_layer : (l : Layer) → LayerReads l → FormReads (roll-ExprForm l)
  from_layer l h r at low =
      let opened_is = ap (depth.of_layer function inside) (beside_is l)
      ∙ sym (ap (λ (d : Deep). d.opened) (fold-roll-ExprForm Deep Both Deep (depth.of_form function inside) (depth.of_field function inside) (λ x. x.form) l)) in
      let printed_is = fold-roll-ExprForm Printed (List Piece) Printed (text.of_form function) (text.of_field function) (λ x. x.form) l in
      let numbers_is = fold-roll-ExprForm Numbers Numbers Numbers order.in_form order.in_field (λ x. x.form) l in
      let readable_is = fold-roll-ExprForm ReadExpr Bool ReadExpr (readable.of_form all.functions) (readable.of_field all.functions) (λ x. x.form) l in
      subst (λ p. Whole all p (opened_form (roll-ExprForm l)) (numbers_form (roll-ExprForm l)) (record { at = at; form = roll-ExprForm l })) (sym printed_is)
      (subst (λ o. Whole all (text.of_form function (printed_layer l)) o (numbers_form (roll-ExprForm l)) (record { at = at; form = roll-ExprForm l })) opened_is
      (subst (λ n. Whole all (text.of_form function (printed_layer l)) (depth.of_layer function inside (beside_layer l)) n (record { at = at; form = roll-ExprForm l })) (sym numbers_is)
      (h (ap (λ (x : ReadExpr). x.readable) (sym readable_is) ∙ r) at low)))

  -- what it says of the parts that a tree is low
  low_parts : (at : Place) (l : Layer) → Low all (record { at = at; form = roll-ExprForm l }) → suc (height.of_form all.tall (heights all.tall l)) ≤ all.high
  low_parts at l low =
      let e : Expr = record { at = at; form = roll-ExprForm l } in
      let is : height.of_form all.tall (heights all.tall (out-ExprForm (roll-ExprForm l))) ≡ height.of_form all.tall (heights all.tall l) = ap (λ (k : Layer). height.of_form all.tall (heights all.tall k)) (out-roll-ExprForm l) in
      omega (arith, low.within, height_is all.tall e, is)

  abbrev FieldLayerReads : Field-F ExprForm Field Expr → Type 0
  FieldLayerReads l = readable.of_field all.functions (map-Field ExprForm Field Expr ReadExpr Bool ReadExpr (readable.in_form all.functions) (readable.in_field all.functions) (readable.in_expr all.functions) l) ≡ true
      → height.of_field all.tall (map-Field ExprForm Field Expr ℕ ℕ ℕ (high_form all.tall) (high_field all.tall) (height.height all.tall) l) ≤ all.high
      → FieldPart all (depth.of_field function inside (beside_field_layer l)).1 (text.of_field function (map-Field ExprForm Field Expr Printed (List Piece) Printed (text.printed_form function) (text.printed_field function) (text.printed function) l))
      (order.in_field (map-Field ExprForm Field Expr Numbers Numbers Numbers numbers_form numbers_field order.in_expr l)) (roll-Field l)

  from_field_layer : (l : Field-F ExprForm Field Expr) → FieldLayerReads l → FieldReads (roll-Field l)
  from_field_layer l h r low =
      let opened_is = ap (λ (k : Field-F Deep Both Deep). (depth.of_field function inside k).1) (beside_field_is l)
      ∙ sym (ap (λ (b : Both). b.1) (fold-roll-Field Deep Both Deep (depth.of_form function inside) (depth.of_field function inside) (λ x. x.form) l)) in
      let high_is = fold-roll-Field ℕ ℕ ℕ (height.of_form all.tall) (height.of_field all.tall) (λ x. suc x.form) l in
      let printed_is = fold-roll-Field Printed (List Piece) Printed (text.of_form function) (text.of_field function) (λ x. x.form) l in
      let numbers_is = fold-roll-Field Numbers Numbers Numbers order.in_form order.in_field (λ x. x.form) l in
      let readable_is = fold-roll-Field ReadExpr Bool ReadExpr (readable.of_form all.functions) (readable.of_field all.functions) (λ x. x.form) l in
      subst (λ ps. FieldPart all (deep_field function inside (roll-Field l)).1 ps (numbers_field (roll-Field l)) (roll-Field l)) (sym printed_is)
      (subst (λ n. FieldPart all (deep_field function inside (roll-Field l)).1 (text.of_field function (map-Field ExprForm Field Expr Printed (List Piece) Printed (text.printed_form function) (text.printed_field function) (text.printed function) l)) n (roll-Field l)) (sym numbers_is)
      (subst (λ b. FieldPart all b (text.of_field function (map-Field ExprForm Field Expr Printed (List Piece) Printed (text.printed_form function) (text.printed_field function) (text.printed function) l))
      (order.in_field (map-Field ExprForm Field Expr Numbers Numbers Numbers numbers_form numbers_field order.in_expr l)) (roll-Field l)) opened_is
      (h (sym readable_is ∙ r) (subst (λ n. n ≤ all.high) high_is low))))

  -- expressions that are printed in a list
  record Args (es : List Expr) : Type 0 where
    xs : List (Arg all)
    trees_are : trees xs ≡ es
    printed_are : printed_all xs ≡ map (text.printed function) es
    deep_are : deep_all xs ≡ map beside es
    numbers_are : map (λ (x : Arg all). x.numbers) xs ≡ map order.in_expr es

  record Items (ps : List (Option Printed)) (ds : List (Option Deep)) (ns : List (Option Numbers)) (es : List (Option Expr)) : Type 0 where
    xs : List (Option (Arg all))
    trees_are : tree_items xs ≡ es
    printed_are : printed_items xs ≡ ps
    deep_are : deep_items xs ≡ ds
    numbers_are : map (option_map (λ (x : Arg all). x.numbers)) xs ≡ ns

  record Properties (fs : List Field) : Type 0 where
    xs : List (Property all)
    trees_are : field_trees xs ≡ fs
    pieces_are : pieces_all xs ≡ map (text.printed_field function) fs
    bounds_are : map (λ (x : Property all). x.bound) xs ≡ map (λ (b : Both). b.1) (map beside_field fs)
    numbers_are : map (λ (x : Property all). x.numbers) xs ≡ map numbers_field fs

  module _ {A B C : Type 0} (form_in : A → ExprForm) (field_in : B → Field) (expr_in : C → Expr) (fields : (b : B) → FieldReads (field_in b)) (exprs : (c : C) → ExprReads (expr_in c)) where
    abbrev of : ExprForm-F A B C → Layer
    of = map-ExprForm A B C ExprForm Field Expr form_in field_in expr_in

    -- ---- operators

    read_binary : (op : BinaryOp) (a b : C) → LayerReads (of (ExprForm-F.Binary op a b))
    unfolding tokens
    read_binary op a b r at low =
        let p = both _ _ r in
        let l : Layer = of (ExprForm-F.Binary op a b) in
        let h = low_parts at l low in
        let top = (binary_bounds op).1 in
        record {
          no_in = λ le. absurd (omega (arith, le, top));
          part = λ allows_in barred.
              binary_part at (roll-ExprForm l) low op (out-roll-ExprForm l) (ap (λ x. x && not allows_in) (sym (is_in_is op _ _)) ∙ barred) (fit (exprs a p.0 (record { within = omega (arith, h) })) (binary_level op) allows_in (omega (arith, top)))
              (fit (exprs b p.1 (record { within = omega (arith, h) })) (binary_level op + 1) allows_in (omega (arith, top)));
        }

    read_logic : (op : LogicOp) (a b : C) → LayerReads (of (ExprForm-F.Logic op a b))
    unfolding tokens
    read_logic op a b r at low =
        let p = both _ _ r in
        let l : Layer = of (ExprForm-F.Logic op a b) in
        let h = low_parts at l low in
        let top = (logic_bounds op).1 in
        record {
          no_in = λ le. refl;
          part = λ allows_in barred.
              logic_part at (roll-ExprForm l) low op (out-roll-ExprForm l) (fit (exprs a p.0 (record { within = omega (arith, h) })) (logic_level op) allows_in (omega (arith, top))) (fit (exprs b p.1 (record { within = omega (arith, h) })) (logic_level op + 1) allows_in (omega (arith, top)));
        }

    read_unary : (op : UnaryOp) (a : C) → LayerReads (of (ExprForm-F.Unary op a))
    unfolding tokens
    read_unary op a r at low =
        let p = both _ _ r in
        let l : Layer = of (ExprForm-F.Unary op a) in
        let h = low_parts at l low in
        record {
          no_in = λ le. refl;
          part = λ allows_in barred. unary_part at (roll-ExprForm l) low op (out-roll-ExprForm l) (no_deleted_name all.functions op (expr_in a) p.1) (fit (exprs a p.0 (record { within = omega (arith, h) })) 14 allows_in (omega arith));
        }

    target : (c : C) → (readable.in_expr all.functions (expr_in c)).is_target ≡ true → E.is_target (expr_in c) ≡ true
    target c e = sym (read_target all.functions (expr_in c)) ∙ e

    read_step : (op : StepOp) (a : C) → LayerReads (of (ExprForm-F.Step op a))
    unfolding tokens
    read_step step.PreUp a r at low =
        let p = both _ _ r in
        let l : Layer = of (ExprForm-F.Step step.PreUp a) in
        let h = low_parts at l low in
        record { no_in = λ le. refl; part = λ allows_in barred. prefix_part at (roll-ExprForm l) low up (out-roll-ExprForm l) (target a p.1) (fit (exprs a p.0 (record { within = omega (arith, h) })) 14 allows_in (omega arith)) }
    read_step step.PreDown a r at low =
        let p = both _ _ r in
        let l : Layer = of (ExprForm-F.Step step.PreDown a) in
        let h = low_parts at l low in
        record { no_in = λ le. refl; part = λ allows_in barred. prefix_part at (roll-ExprForm l) low down (out-roll-ExprForm l) (target a p.1) (fit (exprs a p.0 (record { within = omega (arith, h) })) 14 allows_in (omega arith)) }
    read_step step.PostUp a r at low =
        let p = both _ _ r in
        let l : Layer = of (ExprForm-F.Step step.PostUp a) in
        let h = low_parts at l low in
        record { no_in = λ le. refl; part = λ allows_in barred. postfix_part at (roll-ExprForm l) low up (out-roll-ExprForm l) (target a p.1) (fit (exprs a p.0 (record { within = omega (arith, h) })) 16 allows_in (omega arith)) }
    read_step step.PostDown a r at low =
        let p = both _ _ r in
        let l : Layer = of (ExprForm-F.Step step.PostDown a) in
        let h = low_parts at l low in
        record { no_in = λ le. refl; part = λ allows_in barred. postfix_part at (roll-ExprForm l) low down (out-roll-ExprForm l) (target a p.1) (fit (exprs a p.0 (record { within = omega (arith, h) })) 16 allows_in (omega arith)) }

    read_conditional : (t a b : C) → LayerReads (of (ExprForm-F.Conditional t a b))
    unfolding tokens branch
    read_conditional t a b r at low =
        let p = both _ _ r in
        let q = both _ _ p.0 in
        let l : Layer = of (ExprForm-F.Conditional t a b) in
        let h = low_parts at l low in
        record {
          no_in = λ le. refl;
          part = λ allows_in barred.
              conditional_part at (roll-ExprForm l) low (out-roll-ExprForm l) (fit (exprs t q.0 (record { within = omega (arith, h) })) 4 allows_in (omega arith)) (fit (exprs a q.1 (record { within = omega (arith, h) })) 2 true (omega arith)) (fit (exprs b p.1 (record { within = omega (arith, h) })) 2 allows_in (omega arith));
        }

    read_assign : (a : C) (op : Option BinaryOp) (b : C) → LayerReads (of (ExprForm-F.Assign a op b))
    unfolding tokens
    read_assign a op b r at low =
        let p = both _ _ r in
        let q = both _ _ p.0 in
        let s = both _ _ q.0 in
        let l : Layer = of (ExprForm-F.Assign a op b) in
        let h = low_parts at l low in
        record {
          no_in = λ le. refl;
          part = λ allows_in barred. assign_part at (roll-ExprForm l) low op (out-roll-ExprForm l) q.1 (target a s.1) (fit (exprs a s.0 (record { within = omega (arith, h) })) 16 allows_in (omega arith)) (fit (exprs b p.1 (record { within = omega (arith, h) })) 2 allows_in (omega arith));
        }

    read_comma : (a b : C) → LayerReads (of (ExprForm-F.Comma a b))
    unfolding tokens
    read_comma a b r at low =
        let p = both _ _ r in
        let l : Layer = of (ExprForm-F.Comma a b) in
        let h = low_parts at l low in
        record { no_in = λ le. refl; part = λ allows_in barred. comma_part at (roll-ExprForm l) low (out-roll-ExprForm l) (fit (exprs a p.0 (record { within = omega (arith, h) })) 1 allows_in (omega arith)) (fit (exprs b p.1 (record { within = omega (arith, h) })) 2 allows_in (omega arith)) }

    -- ---- members

    read_member : (a : C) (key : List ℕ) → LayerReads (of (ExprForm-F.Member a key))
    unfolding tokens
    read_member a key r at low =
        let p = both _ _ r in
        let l : Layer = of (ExprForm-F.Member a key) in
        let h = low_parts at l low in
        let base = text.printed function (expr_in a) in
        record {
          no_in = λ le. refl;
          part = λ allows_in barred.
              let f = fit_unless (exprs a p.0 (record { within = omega (arith, h) })) base.is_number allows_in in
              member_part at (roll-ExprForm l) low key (out-roll-ExprForm l) f.0 base.calls f.1;
        }

    read_index : (a b : C) → LayerReads (of (ExprForm-F.Index a b))
    unfolding tokens index
    read_index a b r at low =
        let p = both _ _ r in
        let l : Layer = of (ExprForm-F.Index a b) in
        let h = low_parts at l low in
        let base = text.printed function (expr_in a) in
        record {
          no_in = λ le. refl;
          part = λ allows_in barred.
              let f = fit_unless (exprs a p.0 (record { within = omega (arith, h) })) (base.is_in && not allows_in) allows_in in
              index_part at (roll-ExprForm l) low (out-roll-ExprForm l) f.0 (fit (exprs b p.1 (record { within = omega (arith, h) })) 1 true (omega arith)) base.calls f.1;
        }

    -- ---- primary expressions

    read_this : LayerReads (of ExprForm-F.This)
    unfolding tokens
    read_this r at low = record { no_in = λ le. refl; part = λ allows_in barred. this_part at _ low (out-roll-ExprForm (of ExprForm-F.This)) }

    read_name : (text : List ℕ) → LayerReads (of (ExprForm-F.Name text))
    unfolding tokens
    read_name text r at low = record { no_in = λ le. refl; part = λ allows_in barred. name_part at _ low text (out-roll-ExprForm (of (ExprForm-F.Name text))) (plain_name text r) }

    read_literal : (v : Primitive) → LayerReads (of (ExprForm-F.Literal v))
    unfolding tokens
    read_literal primitive.Undefined r at low = absurd (cc)
    read_literal primitive.Null r at low = record { no_in = λ le. refl; part = λ allows_in barred. literal_part at _ low primitive.Null (out-roll-ExprForm (of (ExprForm-F.Literal primitive.Null))) r }
    read_literal (primitive.Boolean b) r at low = record { no_in = λ le. refl; part = λ allows_in barred. literal_part at _ low (primitive.Boolean b) (out-roll-ExprForm (of (ExprForm-F.Literal (primitive.Boolean b)))) r }
    read_literal (primitive.Number n) r at low = record { no_in = λ le. refl; part = λ allows_in barred. literal_part at _ low (primitive.Number n) (out-roll-ExprForm (of (ExprForm-F.Literal (primitive.Number n)))) r }
    read_literal (primitive.Text u) r at low = record { no_in = λ le. refl; part = λ allows_in barred. literal_part at _ low (primitive.Text u) (out-roll-ExprForm (of (ExprForm-F.Literal (primitive.Text u)))) r }

    read_func : (f : FuncNo) → LayerReads (of (ExprForm-F.Func f))
    unfolding tokens
    read_func f r at low = record { no_in = λ le. refl; part = λ allows_in barred. function_part reads at _ low f (out-roll-ExprForm (of (ExprForm-F.Func f))) }

    read_input : (k : Kind) (text : List ℕ) → LayerReads (of (ExprForm-F.Input k text))
    unfolding tokens
    read_input k text r at low = record { no_in = λ le. refl; part = λ allows_in barred. input_part at _ low k text (out-roll-ExprForm (of (ExprForm-F.Input k text))) }

    -- ---- lists of expressions

    abbrev exprs_of : List C → List Expr
    exprs_of cs = map expr_in cs

    args : (cs : List C) → readable.are_readable (map (readable.in_expr all.functions) (exprs_of cs)) ≡ true → highest (map (height.height all.tall) (exprs_of cs)) ≤ all.high → Args (exprs_of cs)
    args [] r h = record { xs = []; trees_are = refl; printed_are = refl; deep_are = refl; numbers_are = refl }
    args (c ∷ cs) r h =
        let p = both _ _ r in
        let rest = args cs p.1 (omega (arith, h)) in
        let first : Arg all = record { printed = text.printed function (expr_in c); numbers = order.in_expr (expr_in c); tree = expr_in c; opened = opened (expr_in c); fit = fit (exprs c p.0 (record { within = omega (arith, h) })) 2 true (omega arith) } in
        record {
          xs = first ∷ rest.xs;
          trees_are = ap (λ zs. expr_in c ∷ zs) rest.trees_are;
          printed_are = ap (λ zs. text.printed function (expr_in c) ∷ zs) rest.printed_are;
          deep_are = ap (λ zs. beside (expr_in c) ∷ zs) rest.deep_are;
          numbers_are = ap (λ zs. order.in_expr (expr_in c) ∷ zs) rest.numbers_are;
        }

    read_call : (a : C) (cs : List C) → LayerReads (of (ExprForm-F.Call a cs))
    unfolding tokens
    read_call a cs r at low =
        let p = both _ _ r in
        let l : Layer = of (ExprForm-F.Call a cs) in
        let h = low_parts at l low in
        let e : Expr = record { at = at; form = roll-ExprForm l } in
        let base = text.printed function (expr_in a) in
        let look : Look = record { level = 16; calls = true; starts = text.starts_at 16 base } in
        let w = args cs p.1 (omega (arith, h)) in
        record {
          no_in = λ le. refl;
          part = λ allows_in barred.
              subst (λ ds. Part all (max (depth.at 16 allows_in (beside (expr_in a))) (suc (highest (map depth.value ds)))) look allows_in (text.at 16 allows_in base ++ text.in_parentheses (separated text.value (map (text.printed function) (exprs_of cs)))) (order.in_expr (expr_in a) ++ joined (map order.in_expr (exprs_of cs))) e) w.deep_are
              (subst (λ ps. Part all (max (depth.at 16 allows_in (beside (expr_in a))) (suc (highest (map depth.value (deep_all w.xs))))) look allows_in (text.at 16 allows_in base ++ text.in_parentheses (separated text.value ps)) (order.in_expr (expr_in a) ++ joined (map order.in_expr (exprs_of cs))) e) w.printed_are
              (subst (λ ns. Part all (max (depth.at 16 allows_in (beside (expr_in a))) (suc (highest (map depth.value (deep_all w.xs))))) look allows_in (text.at 16 allows_in base ++ text.in_parentheses (separated text.value (printed_all w.xs))) (order.in_expr (expr_in a) ++ joined ns) e) w.numbers_are
              (call_part at (roll-ExprForm l) low w.xs (out-roll-ExprForm l ∙ ap (λ es. ExprForm-F.Call (expr_in a) es) (sym w.trees_are)) (fit (exprs a p.0 (record { within = omega (arith, h) })) 16 allows_in (omega arith)))));
        }

    read_new : (a : C) (cs : List C) → LayerReads (of (ExprForm-F.New a cs))
    unfolding tokens
    read_new a cs r at low =
        let p = both _ _ r in
        let l : Layer = of (ExprForm-F.New a cs) in
        let h = low_parts at l low in
        let e : Expr = record { at = at; form = roll-ExprForm l } in
        let base = text.printed function (expr_in a) in
        let w = args cs p.1 (omega (arith, h)) in
        record {
          no_in = λ le. refl;
          part = λ allows_in barred.
              let f = callee_fit (exprs a p.0 (record { within = omega (arith, h) })) allows_in in
              subst (λ ds. Part all (max (depth.callee_of_new allows_in (beside (expr_in a))) (suc (highest (map depth.value ds)))) new_look allows_in (new_pieces (text.callee_of_new allows_in base) (separated text.value (map (text.printed function) (exprs_of cs)))) (order.in_expr (expr_in a) ++ joined (map order.in_expr (exprs_of cs))) e) w.deep_are
              (subst (λ ps. Part all (max (depth.callee_of_new allows_in (beside (expr_in a))) (suc (highest (map depth.value (deep_all w.xs))))) new_look allows_in (new_pieces (text.callee_of_new allows_in base) (separated text.value ps)) (order.in_expr (expr_in a) ++ joined (map order.in_expr (exprs_of cs))) e) w.printed_are
              (subst (λ ns. Part all (max (depth.callee_of_new allows_in (beside (expr_in a))) (suc (highest (map depth.value (deep_all w.xs))))) new_look allows_in (new_pieces (text.callee_of_new allows_in base) (separated text.value (printed_all w.xs))) (order.in_expr (expr_in a) ++ joined ns) e) w.numbers_are
              (new_part at (roll-ExprForm l) low w.xs (out-roll-ExprForm l ∙ ap (λ es. ExprForm-F.New (expr_in a) es) (sym w.trees_are)) f.0 f.1)));
        }

    read_host_call : (k : Kind) (name : List ℕ) (cs : List C) → LayerReads (of (ExprForm-F.HostCall k name cs))
    unfolding tokens
    read_host_call k name cs r at low =
        let p = both _ _ r in
        let l : Layer = of (ExprForm-F.HostCall k name cs) in
        let h = low_parts at l low in
        let e : Expr = record { at = at; form = roll-ExprForm l } in
        let w = args cs p.1 (omega (arith, h)) in
        record {
          no_in = λ le. refl;
          part = λ allows_in barred.
              subst (λ ds. Part all (suc (highest (map depth.value ds))) (word_look false) allows_in (text.host_call k name (behind_commas text.value (map (text.printed function) (exprs_of cs)))) (joined (map order.in_expr (exprs_of cs))) e) w.deep_are
              (subst (λ ps. Part all (suc (highest (map depth.value (deep_all w.xs)))) (word_look false) allows_in (text.host_call k name (behind_commas text.value ps)) (joined (map order.in_expr (exprs_of cs))) e) w.printed_are
              (subst (λ ns. Part all (suc (highest (map depth.value (deep_all w.xs)))) (word_look false) allows_in (text.host_call k name (behind_commas text.value (printed_all w.xs))) (joined ns) e) w.numbers_are
              (host_call_part at (roll-ExprForm l) low k name w.xs (out-roll-ExprForm l ∙ ap (λ es. ExprForm-F.HostCall k name es) (sym w.trees_are)))));
        }

    -- ---- array literals; options are mapped by functions of Rattle's own

    items : (gt : Option C → Option Expr) (gr : Option Expr → Option ReadExpr) (gp : Option Expr → Option Printed) (gn : Option Expr → Option Numbers) (gd : Option Expr → Option Deep) (gh : Option Expr → Option ℕ)
        → gt None ≡ None → ((c : C) → gt (Some c) ≡ Some (expr_in c)) → ((c : C) → gr (gt (Some c)) ≡ Some (readable.in_expr all.functions (expr_in c)))
        → gp (gt None) ≡ None → ((c : C) → gp (gt (Some c)) ≡ Some (text.printed function (expr_in c))) → gn (gt None) ≡ None → ((c : C) → gn (gt (Some c)) ≡ Some (order.in_expr (expr_in c)))
        → gd (gt None) ≡ None → ((c : C) → gd (gt (Some c)) ≡ Some (beside (expr_in c))) → ((c : C) → gh (gt (Some c)) ≡ Some (height.height all.tall (expr_in c)))
        → (cs : List (Option C)) → list_all readable.is_element (map gr (map gt cs)) ≡ true → highest (map or_zero (map gh (map gt cs))) ≤ all.high → Items (map gp (map gt cs)) (map gd (map gt cs)) (map gn (map gt cs)) (map gt cs)
    items gt gr gp gn gd gh tn ts rs pn ps nn ns dn ds hs [] r low = record { xs = []; trees_are = refl; printed_are = refl; deep_are = refl; numbers_are = refl }
    items gt gr gp gn gd gh tn ts rs pn ps nn ns dn ds hs (None ∷ cs) r low =
        let p = both _ _ r in
        let rest = items gt gr gp gn gd gh tn ts rs pn ps nn ns dn ds hs cs p.1 (omega (arith, low)) in
        record {
          xs = None ∷ rest.xs;
          trees_are = ap (λ z. z ∷ tree_items rest.xs) (sym tn) ∙ ap (λ zs. gt None ∷ zs) rest.trees_are;
          printed_are = ap (λ z. z ∷ printed_items rest.xs) (sym pn) ∙ ap (λ zs. gp (gt None) ∷ zs) rest.printed_are;
          deep_are = ap (λ z. z ∷ deep_items rest.xs) (sym dn) ∙ ap (λ zs. gd (gt None) ∷ zs) rest.deep_are;
          numbers_are = ap (λ z. z ∷ map (option_map (λ (x : Arg all). x.numbers)) rest.xs) (sym nn) ∙ ap (λ zs. gn (gt None) ∷ zs) rest.numbers_are;
        }
    items gt gr gp gn gd gh tn ts rs pn ps nn ns dn ds hs (Some c ∷ cs) r low =
        let p = both _ _ r in
        let rest = items gt gr gp gn gd gh tn ts rs pn ps nn ns dn ds hs cs p.1 (omega (arith, low)) in
        let readable_c : (readable.in_expr all.functions (expr_in c)).readable ≡ true = ap readable.is_element (sym (rs c)) ∙ p.0 in
        let high_c : or_zero (gh (gt (Some c))) ≡ height.height all.tall (expr_in c) = ap or_zero (hs c) in
        let first : Arg all = record { printed = text.printed function (expr_in c); numbers = order.in_expr (expr_in c); tree = expr_in c; opened = opened (expr_in c); fit = fit (exprs c readable_c (record { within = omega (arith, low, high_c) })) 2 true (omega arith) } in
        record {
          xs = Some first ∷ rest.xs;
          trees_are = ap (λ z. z ∷ tree_items rest.xs) (sym (ts c)) ∙ ap (λ zs. gt (Some c) ∷ zs) rest.trees_are;
          printed_are = ap (λ z. z ∷ printed_items rest.xs) (sym (ps c)) ∙ ap (λ zs. gp (gt (Some c)) ∷ zs) rest.printed_are;
          deep_are = ap (λ z. z ∷ deep_items rest.xs) (sym (ds c)) ∙ ap (λ zs. gd (gt (Some c)) ∷ zs) rest.deep_are;
          numbers_are = ap (λ z. z ∷ map (option_map (λ (x : Arg all). x.numbers)) rest.xs) (sym (ns c)) ∙ ap (λ zs. gn (gt (Some c)) ∷ zs) rest.numbers_are;
        }

    whole_array : (at : Place) (ps : List (Option Printed)) (ds : List (Option Deep)) (ns : List (Option Numbers)) (es : List (Option Expr)) → Items ps ds ns es → (form : ExprForm) → Low all (record { at = at; form = form })
        → out-ExprForm form ≡ ExprForm-F.ArrayLit es → (allows_in : Bool) → Part all (suc (highest (map depth.element ds))) (word_look false) allows_in (array_pieces ps) (flat_map of_none ns) (record { at = at; form = form })
    whole_array at ps ds ns es w form low is allows_in =
        let e : Expr = record { at = at; form = form } in
        subst (λ qs. Part all (suc (highest (map depth.element ds))) (word_look false) allows_in (array_pieces qs) (flat_map of_none ns) e) w.printed_are
        (subst (λ bs. Part all (suc (highest (map depth.element bs))) (word_look false) allows_in (array_pieces (printed_items w.xs)) (flat_map of_none ns) e) w.deep_are
        (subst (λ ms. Part all (suc (bound_items w.xs)) (word_look false) allows_in (array_pieces (printed_items w.xs)) (flat_map of_none ms) e) w.numbers_are
        (array_part at form low w.xs (is ∙ ap (λ es. ExprForm-F.ArrayLit es) (sym w.trees_are)))))

    read_array : (cs : List (Option C)) → LayerReads (of (ExprForm-F.ArrayLit cs))
    unfolding tokens
    read_array cs r at low =
        let l : Layer = of (ExprForm-F.ArrayLit cs) in
        let h = low_parts at l low in
        let k : height.of_form all.tall (heights all.tall l) ≤ all.high = omega (arith, h) in
        let w = items _ _ _ _ _ _ refl (λ c. refl) (λ c. refl) refl (λ c. refl) refl (λ c. refl) refl (λ c. refl) (λ c. refl) cs r k in
        record { no_in = λ le. refl; part = λ allows_in barred. whole_array at _ _ _ _ w (roll-ExprForm l) low (out-roll-ExprForm l) allows_in }

    -- ---- object literals

    properties : (bs : List B) → list_all (λ b. b) (map (readable.in_field all.functions) (map field_in bs)) ≡ true → highest (map (high_field all.tall) (map field_in bs)) ≤ all.high → Properties (map field_in bs)
    properties [] r low = record { xs = []; trees_are = refl; pieces_are = refl; bounds_are = refl; numbers_are = refl }
    properties (b ∷ bs) r low =
        let p = both _ _ r in
        let rest = properties bs p.1 (omega (arith, low)) in
        let first : Property all = record { pieces = text.printed_field function (field_in b); numbers = numbers_field (field_in b); tree = field_in b; bound = (deep_field function inside (field_in b)).1; part = fields b p.0 (omega (arith, low)) } in
        record {
          xs = first ∷ rest.xs;
          trees_are = ap (λ zs. field_in b ∷ zs) rest.trees_are;
          pieces_are = ap (λ zs. text.printed_field function (field_in b) ∷ zs) rest.pieces_are;
          bounds_are = ap (λ zs. (deep_field function inside (field_in b)).1 ∷ zs) rest.bounds_are;
          numbers_are = ap (λ zs. numbers_field (field_in b) ∷ zs) rest.numbers_are;
        }

    read_object : (bs : List B) → LayerReads (of (ExprForm-F.ObjectLit bs))
    unfolding tokens
    read_object bs r at low =
        let l : Layer = of (ExprForm-F.ObjectLit bs) in
        let h = low_parts at l low in
        let e : Expr = record { at = at; form = roll-ExprForm l } in
        let w = properties bs r (omega (arith, h)) in
        record {
          no_in = λ le. refl;
          part = λ allows_in barred.
              subst (λ ns. Part all (highest ns) (word_look true) allows_in (object_pieces (map (text.printed_field function) (map field_in bs))) (joined (map numbers_field (map field_in bs))) e) w.bounds_are
              (subst (λ ps. Part all (bounds w.xs) (word_look true) allows_in (object_pieces ps) (joined (map numbers_field (map field_in bs))) e) w.pieces_are
              (subst (λ ns. Part all (bounds w.xs) (word_look true) allows_in (object_pieces (pieces_all w.xs)) (joined ns) e) w.numbers_are
              (object_part at (roll-ExprForm l) low w.xs (out-roll-ExprForm l ∙ ap (λ fs. ExprForm-F.ObjectLit fs) (sym w.trees_are)))));
        }

    -- ---- every form

    layer_reads : (y : ExprForm-F A B C) → LayerReads (of y)
    layer_reads ExprForm-F.This = read_this
    layer_reads (ExprForm-F.Name text) = read_name text
    layer_reads (ExprForm-F.Literal v) = read_literal v
    layer_reads (ExprForm-F.ArrayLit cs) = read_array cs
    layer_reads (ExprForm-F.ObjectLit bs) = read_object bs
    layer_reads (ExprForm-F.Func f) = read_func f
    layer_reads (ExprForm-F.Member a key) = read_member a key
    layer_reads (ExprForm-F.Index a b) = read_index a b
    layer_reads (ExprForm-F.Call a cs) = read_call a cs
    layer_reads (ExprForm-F.New a cs) = read_new a cs
    layer_reads (ExprForm-F.Unary op a) = read_unary op a
    layer_reads (ExprForm-F.Binary op a b) = read_binary op a b
    layer_reads (ExprForm-F.Logic op a b) = read_logic op a b
    layer_reads (ExprForm-F.Conditional t a b) = read_conditional t a b
    layer_reads (ExprForm-F.Assign a op b) = read_assign a op b
    layer_reads (ExprForm-F.Step op a) = read_step op a
    layer_reads (ExprForm-F.Comma a b) = read_comma a b
    layer_reads (ExprForm-F.Input k text) = read_input k text
    layer_reads (ExprForm-F.HostCall k text cs) = read_host_call k text cs

    -- ---- properties

    abbrev of_field : Field-F A B C → Field-F ExprForm Field Expr
    of_field = map-Field A B C ExprForm Field Expr form_in field_in expr_in

    field_layer_reads : (y : Field-F A B C) → FieldLayerReads (of_field y)
    field_layer_reads (Field-F.Value at key x) r low =
        let p = both _ _ r in
        let l = of_field (Field-F.Value at key x) in
        value_part at (roll-Field l) key (out-roll-Field l) (fit (exprs x p.1 (record { within = low })) 2 true two)
    field_layer_reads (Field-F.Getter at key f) r low =
        let l = of_field (Field-F.Getter at key f) in
        getter_part reads at (roll-Field l) key f low (out-roll-Field l) (both _ _ r).1
    field_layer_reads (Field-F.Setter at key f) r low =
        let l = of_field (Field-F.Setter at key f) in
        setter_part reads at (roll-Field l) key f low (out-roll-Field l) (both _ _ r).1

  -- the places of expressions aside
  from_form : (x : Expr-F ExprForm Field Expr) → FormReads x.form → ExprReads (roll-Expr x)
  from_form x h r low =
      let e : Expr = roll-Expr x in
      let printed_is = fold_out-Expr Printed (List Piece) Printed (text.of_form function) (text.of_field function) (λ x. x.form) e in
      let numbers_is = fold_out-Expr Numbers Numbers Numbers order.in_form order.in_field (λ x. x.form) e in
      let readable_is = fold_out-Expr ReadExpr Bool ReadExpr (readable.of_form all.functions) (readable.of_field all.functions) (λ x. x.form) e in
      let opened_is = fold_out-Expr Deep Both Deep (depth.of_form function inside) (depth.of_field function inside) (λ x. x.form) e in
      subst (λ p. Whole all p (opened e) (order.in_expr e) e) (sym printed_is)
      (subst (λ n. Whole all (text.printed_form function x.form) (opened e) n e) (sym numbers_is)
      (subst (λ (d : Deep). Whole all (text.printed_form function x.form) d.opened (numbers_form x.form) e) (sym opened_is)
      (h (ap (λ (y : ReadExpr). y.readable) (sym readable_is) ∙ r) x.at low)))

  pub exprs_read : (x : Expr) → ExprReads x
  exprs_read = ind-Expr FormReads FieldReads ExprReads
      (λ x y is. subst (λ l. FormReads (roll-ExprForm l)) is (from_layer _ (layer_reads (λ e. e.0) (λ e. e.0) (λ e. e.0) (λ e. e.1) (λ e. e.1) y)))
      (λ x y is. subst (λ l. FieldReads (roll-Field l)) is (from_field_layer _ (field_layer_reads (λ e. e.0) (λ e. e.0) (λ e. e.0) (λ e. e.1) (λ e. e.1) y)))
      (λ x y is. subst (λ l. ExprReads (roll-Expr l)) is (from_form _ y.form.1))
