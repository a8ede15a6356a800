-- What is printed of each form of expressions.
use Rattle.std.proofs.Common.{◌≡◌, ℕ, ◌+◌, List, [], ◌∷◌, ◌++◌, refl, ap, ◌∙◌, Bool, true, map, length}
use Rattle.std.specs.Prelude.{◌-◌, ◌&&◌, codes, slice_get, Option, Some, None}
use Rattle.std.specs.Option.{option_map}
use Rattle.std.proofs.lemmas.List.Folds.{flat_map-map}
use Rattle.std.proofs.lemmas.List.{length-map}
use Rattle.std.proofs.lemmas.Option.{slice_get-map}
use Rattle.js_value.specs.declared.place.FuncNo.{FuncNo}
use Rattle.js_value.specs.declared.primitive.Kind.{Kind}
use Rattle.js_value.specs.declared.primitive.Primitive.{Primitive}
use Rattle.js_value.specs.declared.operator.BinaryOp.{BinaryOp}
use Rattle.js_value.specs.declared.operator.UnaryOp.{UnaryOp}
use Rattle.js_tree.specs.declared.expression.LogicOp.{LogicOp}
use Rattle.js_tree.specs.declared.expression.StepOp.{StepOp}
use Rattle.js_tree.specs.declared.expression.Expr.{Expr}
use Rattle.js_tree.specs.declared.expression.Field.{Field}
use Rattle.js_tree.specs.declared.expression.ExprForm.{ExprForm, out-ExprForm}
use Rattle.js_tree.specs.declared.expression.ExprForm.TheOpen.{ExprForm-F}
use Rattle.js_tree.specs.declared.expression.ExprForm.TheFolds.{map-ExprForm}
use Rattle.js_tree.specs.declared.expression.ExprForm.TheVariants as e
use Rattle.js_tree.proofs.Folds.{fold-layer}
use Rattle.script_text.specs.Pieces.{Piece, word, closing, opening, inner, separated, behind_commas}
use Rattle.token_sheets.specs.Sheets.{put_all}
use Rattle.token_sheets.specs.declared.sheet.Sheet.{Sheet}
use Rattle.script_text.specs.Expressions.{Printed, tokens, name, reference, literal, input, of_form, of_field, pieces, printed_form, printed_field, printed, at, object, callee_of_new, index, in_parentheses, argument, value}
use Rattle.script_text.specs.Expressions.{element, elements, ends_in_elision, is_elision, last_comma, starts_at, is_postfix, binary_level, logic_level, branch, stepped, host_call}
use Rattle.script_text.specs.Expressions.{operator, logic_operator, assignment_operator, unary_operator}
use Rattle.token_sheets.proofs.Putting.{put_all-append}

separated-along : {A B : Type 0} (f : B → List Piece) (v : A → B) (xs : List A) → separated f (map v xs) ≡ separated (λ x. f (v x)) xs
separated-along f v [] = refl
separated-along f v (x ∷ xs) = ap (λ ys. f (v x) ++ ys) (flat_map-map (λ y. closing (codes ",") ++ f y) v xs)

is_elision-along : {A B : Type 0} (v : A → B) (x : Option (Option A)) → is_elision (option_map (option_map v) x) ≡ is_elision x
is_elision-along v None = refl
is_elision-along v (Some None) = refl
is_elision-along v (Some (Some x)) = refl

ends_in_elision-along : {A B : Type 0} (v : A → B) (xs : List (Option A)) → ends_in_elision (map (option_map v) xs) ≡ ends_in_elision xs
ends_in_elision-along v xs = rw (slice_get-map (option_map v) xs, length-map xs (option_map v)) (is_elision-along v (slice_get xs (length xs - 1)))

same_option : {A B : Type 0} (g : Option A → Option B) (v : A → B) → g None ≡ None → ((x : A) → g (Some x) ≡ Some (v x)) → (o : Option A) → g o ≡ option_map v o
same_option g v n s None = n
same_option g v n s (Some x) = s x

-- the inside of an array
abbrev inside : Bool → List Piece → List Piece
inside ends items = opening (codes "[") ++ (items ++ last_comma ends) ++ closing (codes "]")

module _ (function : Bool → FuncNo → List Piece) where
  layer_is : (form : ExprForm) (layer : ExprForm-F ExprForm Field Expr) → out-ExprForm form ≡ layer
      → printed_form function form ≡ of_form function (map-ExprForm ExprForm Field Expr Printed (List Piece) Printed (printed_form function) (printed_field function) (printed function) layer)
  layer_is form layer e = fold-layer Printed (List Piece) Printed (of_form function) (of_field function) (λ e. e.form) form layer e

  tokens_are : (form : ExprForm) (layer : ExprForm-F ExprForm Field Expr) (allows_in : Bool) → out-ExprForm form ≡ layer
      → tokens (printed_form function form) allows_in
      ≡ pieces function (map-ExprForm ExprForm Field Expr Printed (List Piece) Printed (printed_form function) (printed_field function) (printed function) layer) allows_in
  unfolding tokens
  tokens_are form layer allows_in e = ap (λ (p : Printed). p.pieces allows_in) (layer_is form layer e)

  pub put-This : (allows_in : Bool) (p : Sheet) → put_all (tokens (printed_form function e.This) allows_in) p ≡ put_all (word (codes "this")) p
  put-This allows_in p = ap (λ ys. put_all ys p) (tokens_are _ _ allows_in e.outs-This)

  pub put-Name : (allows_in : Bool) (units : List ℕ) (p : Sheet) → put_all (tokens (printed_form function (e.Name units)) allows_in) p ≡ put_all (reference units) p
  put-Name allows_in units p = ap (λ ys. put_all ys p) (tokens_are _ _ allows_in (e.outs-Name units))

  pub put-Literal : (allows_in : Bool) (value : Primitive) (p : Sheet) → put_all (tokens (printed_form function (e.Literal value)) allows_in) p ≡ put_all (literal value) p
  put-Literal allows_in value p = ap (λ ys. put_all ys p) (tokens_are _ _ allows_in (e.outs-Literal value))

  pub put-Func : (allows_in : Bool) (f : FuncNo) (p : Sheet)
      → put_all (tokens (printed_form function (e.Func f)) allows_in) p ≡ put_all (function true f) (put_all (word (codes "function")) p)
  put-Func allows_in f p = ap (λ ys. put_all ys p) (tokens_are _ _ allows_in (e.outs-Func f))

  pub put-Input : (allows_in : Bool) (kind : Kind) (text : List ℕ) (p : Sheet)
      → put_all (tokens (printed_form function (e.Input kind text)) allows_in) p ≡ put_all (input kind text) p
  put-Input allows_in kind text p = ap (λ ys. put_all ys p) (tokens_are _ _ allows_in (e.outs-Input kind text))

  pub put-Member : (allows_in : Bool) (base : Expr) (key : List ℕ) (p : Sheet)
      → put_all (tokens (printed_form function (e.Member base key)) allows_in) p ≡ put_all (name key) (put_all (inner (codes ".")) (put_all (object allows_in (printed function base)) p))
  put-Member allows_in base key p =
      ap (λ ys. put_all ys p) (tokens_are _ _ allows_in (e.outs-Member base key))
      ∙ put_all-append (object allows_in (printed function base) ++ inner (codes ".")) (name key) p
      ∙ ap (put_all (name key)) (put_all-append (object allows_in (printed function base)) (inner (codes ".")) p)

  pub put-Index : (allows_in : Bool) (base : Expr) (key : Expr) (p : Sheet)
      → put_all (tokens (printed_form function (e.Index base key)) allows_in) p ≡ put_all (index (printed function key)) (put_all (at 16 allows_in (printed function base)) p)
  put-Index allows_in base key p =
      ap (λ ys. put_all ys p) (tokens_are _ _ allows_in (e.outs-Index base key))
      ∙ put_all-append (at 16 allows_in (printed function base)) (index (printed function key)) p

  pub put-Unary : (allows_in : Bool) (op : UnaryOp) (a : Expr) (p : Sheet)
      → put_all (tokens (printed_form function (e.Unary op a)) allows_in) p ≡ put_all (at 14 allows_in (printed function a)) (put_all (unary_operator op) p)
  put-Unary allows_in op a p =
      ap (λ ys. put_all ys p) (tokens_are _ _ allows_in (e.outs-Unary op a))
      ∙ put_all-append (unary_operator op) (at 14 allows_in (printed function a)) p

  pub put-Binary : (allows_in : Bool) (op : BinaryOp) (a : Expr) (b : Expr) (p : Sheet)
      → put_all (tokens (printed_form function (e.Binary op a b)) allows_in) p ≡ put_all (at (binary_level op + 1) allows_in (printed function b)) (put_all (word (operator op)) (put_all (at (binary_level op) allows_in (printed function a)) p))
  put-Binary allows_in op a b p =
      ap (λ ys. put_all ys p) (tokens_are _ _ allows_in (e.outs-Binary op a b))
      ∙ put_all-append (at (binary_level op) allows_in (printed function a) ++ word (operator op)) (at (binary_level op + 1) allows_in (printed function b)) p
      ∙ ap (put_all (at (binary_level op + 1) allows_in (printed function b))) (put_all-append (at (binary_level op) allows_in (printed function a)) (word (operator op)) p)

  pub put-Logic : (allows_in : Bool) (op : LogicOp) (a : Expr) (b : Expr) (p : Sheet)
      → put_all (tokens (printed_form function (e.Logic op a b)) allows_in) p ≡ put_all (at (logic_level op + 1) allows_in (printed function b)) (put_all (word (logic_operator op)) (put_all (at (logic_level op) allows_in (printed function a)) p))
  put-Logic allows_in op a b p =
      ap (λ ys. put_all ys p) (tokens_are _ _ allows_in (e.outs-Logic op a b))
      ∙ put_all-append (at (logic_level op) allows_in (printed function a) ++ word (logic_operator op)) (at (logic_level op + 1) allows_in (printed function b)) p
      ∙ ap (put_all (at (logic_level op + 1) allows_in (printed function b))) (put_all-append (at (logic_level op) allows_in (printed function a)) (word (logic_operator op)) p)

  pub put-Conditional : (allows_in : Bool) (test : Expr) (a : Expr) (b : Expr) (p : Sheet)
      → put_all (tokens (printed_form function (e.Conditional test a b)) allows_in) p ≡ put_all (branch (codes ":") allows_in (printed function b)) (put_all (branch (codes "?") true (printed function a)) (put_all (at 4 allows_in (printed function test)) p))
  put-Conditional allows_in test a b p =
      ap (λ ys. put_all ys p) (tokens_are _ _ allows_in (e.outs-Conditional test a b))
      ∙ put_all-append (at 4 allows_in (printed function test) ++ branch (codes "?") true (printed function a)) (branch (codes ":") allows_in (printed function b)) p
      ∙ ap (put_all (branch (codes ":") allows_in (printed function b))) (put_all-append (at 4 allows_in (printed function test)) (branch (codes "?") true (printed function a)) p)

  pub put-Assign : (allows_in : Bool) (a : Expr) (op : Option BinaryOp) (b : Expr) (p : Sheet)
      → put_all (tokens (printed_form function (e.Assign a op b)) allows_in) p ≡ put_all (at 2 allows_in (printed function b)) (put_all (word (assignment_operator op)) (put_all (at 16 allows_in (printed function a)) p))
  put-Assign allows_in a op b p =
      ap (λ ys. put_all ys p) (tokens_are _ _ allows_in (e.outs-Assign a op b))
      ∙ put_all-append (at 16 allows_in (printed function a) ++ word (assignment_operator op)) (at 2 allows_in (printed function b)) p
      ∙ ap (put_all (at 2 allows_in (printed function b))) (put_all-append (at 16 allows_in (printed function a)) (word (assignment_operator op)) p)

  pub put-Step : (allows_in : Bool) (op : StepOp) (a : Expr) (p : Sheet)
      → put_all (tokens (printed_form function (e.Step op a)) allows_in) p ≡ put_all (stepped op allows_in (printed function a)) p
  put-Step allows_in op a p =
      ap (λ ys. put_all ys p) (tokens_are _ _ allows_in (e.outs-Step op a))

  pub put-Comma : (allows_in : Bool) (a : Expr) (b : Expr) (p : Sheet)
      → put_all (tokens (printed_form function (e.Comma a b)) allows_in) p ≡ put_all (at 2 allows_in (printed function b)) (put_all (closing (codes ",")) (put_all (at 1 allows_in (printed function a)) p))
  put-Comma allows_in a b p =
      ap (λ ys. put_all ys p) (tokens_are _ _ allows_in (e.outs-Comma a b))
      ∙ put_all-append (at 1 allows_in (printed function a) ++ closing (codes ",")) (at 2 allows_in (printed function b)) p
      ∙ ap (put_all (at 2 allows_in (printed function b))) (put_all-append (at 1 allows_in (printed function a)) (closing (codes ",")) p)

  pub put-Call : (allows_in : Bool) (callee : Expr) (args : List Expr) (p : Sheet)
      → put_all (tokens (printed_form function (e.Call callee args)) allows_in) p ≡ put_all (in_parentheses (separated (argument function) args)) (put_all (at 16 allows_in (printed function callee)) p)
  put-Call allows_in callee args p =
      ap (λ ys. put_all ys p) (tokens_are _ _ allows_in (e.outs-Call callee args)
      ∙ ap (λ ys. at 16 allows_in (printed function callee) ++ in_parentheses ys) (separated-along value (printed function) args))
      ∙ put_all-append (at 16 allows_in (printed function callee)) (in_parentheses (separated (argument function) args)) p

  pub put-New : (allows_in : Bool) (callee : Expr) (args : List Expr) (p : Sheet)
      → put_all (tokens (printed_form function (e.New callee args)) allows_in) p ≡ put_all (in_parentheses (separated (argument function) args)) (put_all (callee_of_new allows_in (printed function callee)) (put_all (word (codes "new")) p))
  put-New allows_in callee args p =
      ap (λ ys. put_all ys p) (tokens_are _ _ allows_in (e.outs-New callee args)
      ∙ ap (λ ys. word (codes "new") ++ callee_of_new allows_in (printed function callee) ++ in_parentheses ys) (separated-along value (printed function) args))
      ∙ put_all-append (word (codes "new") ++ callee_of_new allows_in (printed function callee)) (in_parentheses (separated (argument function) args)) p
      ∙ ap (put_all (in_parentheses (separated (argument function) args))) (put_all-append (word (codes "new")) (callee_of_new allows_in (printed function callee)) p)

  pub put-HostCall : (allows_in : Bool) (kind : Kind) (text : List ℕ) (args : List Expr) (p : Sheet)
      → put_all (tokens (printed_form function (e.HostCall kind text args)) allows_in) p ≡ put_all (host_call kind text (behind_commas (argument function) args)) p
  put-HostCall allows_in kind text args p =
      ap (λ ys. put_all ys p) (tokens_are _ _ allows_in (e.outs-HostCall kind text args)
      ∙ ap (host_call kind text) (flat_map-map (λ y. closing (codes ",") ++ value y) (printed function) args))

  pub put-ObjectLit : (allows_in : Bool) (fields : List Field) (p : Sheet)
      → put_all (tokens (printed_form function (e.ObjectLit fields)) allows_in) p ≡ put_all (closing (codes "}")) (put_all (separated (printed_field function) fields) (put_all (opening (codes "{")) p))
  put-ObjectLit allows_in fields p =
      ap (λ ys. put_all ys p) (tokens_are _ _ allows_in (e.outs-ObjectLit fields)
      ∙ ap (λ ys. opening (codes "{") ++ ys ++ closing (codes "}")) (separated-along (λ f. f) (printed_field function) fields))
      ∙ put_all-append (opening (codes "{") ++ separated (printed_field function) fields) (closing (codes "}")) p
      ∙ ap (put_all (closing (codes "}"))) (put_all-append (opening (codes "{")) (separated (printed_field function) fields) p)

  -- the elements are mapped by a function of Rattle's own, here g
  array-along : (g : Option Expr → Option Printed) (v : Expr → Printed) → g None ≡ None → ((x : Expr) → g (Some x) ≡ Some (v x)) → (items : List (Option Expr))
      → inside (ends_in_elision (map g items)) (separated element (map g items)) ≡ inside (ends_in_elision items) (separated (λ e. element (option_map v e)) items)
  array-along g v n s items =
      let same : g ≡ option_map v = λ i o. same_option g v n s o i in
      ap (λ h. inside (ends_in_elision (map h items)) (separated element (map h items))) same
      ∙ ap (inside (ends_in_elision (map (option_map v) items))) (separated-along element (option_map v) items)
      ∙ ap (λ b. inside b (separated (λ e. element (option_map v e)) items)) (ends_in_elision-along v items)

  pub put-ArrayLit : (allows_in : Bool) (items : List (Option Expr)) (p : Sheet)
      → put_all (tokens (printed_form function (e.ArrayLit items)) allows_in) p ≡ put_all (closing (codes "]")) (put_all (elements function items) (put_all (opening (codes "[")) p))
  put-ArrayLit allows_in items p =
      ap (λ ys. put_all ys p) (tokens_are _ _ allows_in (e.outs-ArrayLit items) ∙ array-along _ (printed function) refl (λ x. refl) items)
      ∙ put_all-append (opening (codes "[") ++ elements function items) (closing (codes "]")) p
      ∙ ap (put_all (closing (codes "]"))) (put_all-append (opening (codes "[")) (elements function items) p)

  pub calls-Member : (base : Expr) (key : List ℕ) → (printed_form function (e.Member base key)).calls ≡ (printed function base).calls
  calls-Member base key = ap (λ (p : Printed). p.calls) (layer_is _ _ (e.outs-Member base key))

  pub calls-Index : (base key : Expr) → (printed_form function (e.Index base key)).calls ≡ (printed function base).calls
  calls-Index base key = ap (λ (p : Printed). p.calls) (layer_is _ _ (e.outs-Index base key))

  pub starts-Member : (base : Expr) (key : List ℕ) → (printed_form function (e.Member base key)).starts ≡ starts_at 16 (printed function base)
  starts-Member base key = ap (λ (p : Printed). p.starts) (layer_is _ _ (e.outs-Member base key))

  pub starts-Index : (base key : Expr) → (printed_form function (e.Index base key)).starts ≡ starts_at 16 (printed function base)
  starts-Index base key = ap (λ (p : Printed). p.starts) (layer_is _ _ (e.outs-Index base key))

  pub starts-Call : (callee : Expr) (args : List Expr) → (printed_form function (e.Call callee args)).starts ≡ starts_at 16 (printed function callee)
  starts-Call callee args = ap (λ (p : Printed). p.starts) (layer_is _ _ (e.outs-Call callee args))

  pub starts-Binary : (op : BinaryOp) (a b : Expr) → (printed_form function (e.Binary op a b)).starts ≡ starts_at (binary_level op) (printed function a)
  starts-Binary op a b = ap (λ (p : Printed). p.starts) (layer_is _ _ (e.outs-Binary op a b))

  pub starts-Logic : (op : LogicOp) (a b : Expr) → (printed_form function (e.Logic op a b)).starts ≡ starts_at (logic_level op) (printed function a)
  starts-Logic op a b = ap (λ (p : Printed). p.starts) (layer_is _ _ (e.outs-Logic op a b))

  pub starts-Conditional : (test a b : Expr) → (printed_form function (e.Conditional test a b)).starts ≡ starts_at 4 (printed function test)
  starts-Conditional test a b = ap (λ (p : Printed). p.starts) (layer_is _ _ (e.outs-Conditional test a b))

  pub starts-Assign : (a : Expr) (op : Option BinaryOp) (b : Expr) → (printed_form function (e.Assign a op b)).starts ≡ starts_at 16 (printed function a)
  starts-Assign a op b = ap (λ (p : Printed). p.starts) (layer_is _ _ (e.outs-Assign a op b))

  pub starts-Step : (op : StepOp) (a : Expr) → (printed_form function (e.Step op a)).starts ≡ (is_postfix op && starts_at 16 (printed function a))
  starts-Step op a = ap (λ (p : Printed). p.starts) (layer_is _ _ (e.outs-Step op a))

  pub starts-Comma : (a b : Expr) → (printed_form function (e.Comma a b)).starts ≡ starts_at 1 (printed function a)
  starts-Comma a b = ap (λ (p : Printed). p.starts) (layer_is _ _ (e.outs-Comma a b))

pub ruleset calling = (calls-Member, calls-Index)

pub ruleset starting = (starts-Member, starts-Index, starts-Call, starts-Binary, starts-Logic, starts-Conditional, starts-Assign, starts-Step, starts-Comma)

pub ruleset forms = (put-This, put-Name, put-Literal, put-Func, put-Input, put-Member, put-Index, put-Unary, put-Binary, put-Logic, put-Conditional, put-Assign, put-Step, put-Comma, put-Call, put-New, put-HostCall, put-ObjectLit, put-ArrayLit)
