-- Properties of object literals (11.1.5).
use Rattle.std.proofs.Common.{◌≡◌, ℕ, suc, Bool, true, false, cond, List, [], ◌∷◌, ◌++◌, refl, ap, sym, ◌∙◌, append_assoc, ◌≤◌, arith}
use Rattle.std.specs.Prelude.{◌&&◌, codes, slice_get, Some, None, is_some}
use Rattle.js_value.specs.declared.place.FuncNo.{FuncNo}
use Rattle.js_value.specs.declared.place.Place.{Place}
use Rattle.js_tree.specs.Lexing.{reserved_word}
use Rattle.js_tree.specs.declared.expression.Expr.{Expr}
use Rattle.js_tree.specs.declared.expression.ExprForm.{ExprForm, roll-ExprForm}
use Rattle.js_tree.specs.declared.expression.ExprForm.TheFolds.{map-Field, fold_out-Field}
use Rattle.js_tree.specs.declared.expression.ExprForm.TheOpen.{Field-F}
use Rattle.js_tree.specs.declared.expression.Field.{Field, out-Field}
use Rattle.js_tree.specs.declared.expression.Field.TheVariants as field
use Rattle.js_tree.specs.declared.token.TokenForm.{TokenForm}
use Rattle.js_tree.specs.declared.token.TokenForm.TheVariants as form
use Rattle.js_grammar.specs.FunctionOrder.{Numbers}
use Rattle.js_grammar.specs.Functions as F
use Rattle.js_grammar.specs.Marks
use Rattle.js_grammar.specs.Primary as P
use Rattle.js_grammar.specs.ReadableExpressions.{is_accessor}
use Rattle.js_grammar.specs.Reading.{grammar}
use Rattle.js_grammar.specs.Rest.{Rest, Reading, ◌>>=◌, ◌>>◌, give, expect, next}
use Rattle.script_text.specs.declared.gap.Gap.{Gap}
use Rattle.script_text.specs.declared.gap.Gap.TheVariants.{Tight, Loose}
use Rattle.script_text.specs.Expressions.{is_ascii_name, key_before}
use Rattle.script_text.specs.Pieces as piece
use Rattle.script_text.specs.Pieces.{Piece, word, closing}
use Rattle.script_text.specs.Tokens.{Shape, shape, form_of, name_form, tokens_from}
use Rattle.reading_back.proofs.Claims.{World, Frame, Spot, rest_of, Read, below, Flows, IsField, Fit, FieldPart, FunctionsRead}
use Rattle.reading_back.specs.Unplaced as unplaced
use Rattle.reading_back.proofs.Flowing.{flows_last}
use Rattle.reading_back.proofs.LooseOperators.{assignment_reads, colon_is}
use Rattle.reading_back.proofs.Names.{keyed_so}
use Rattle.reading_back.proofs.Steps.{exactly, after, from, on, stays, bind, expected}

-- ---- the same but for places

abbrev FieldLayer : Type 0
FieldLayer = Field-F ExprForm Field Expr

abbrev unplaced_layer : FieldLayer → FieldLayer
unplaced_layer = map-Field ExprForm Field Expr ExprForm Field Expr unplaced.form unplaced.field unplaced.expr

same_fields : (f model : Field) (layer mold : FieldLayer) → out-Field f ≡ layer → out-Field model ≡ mold → unplaced.of_field (unplaced_layer layer) ≡ unplaced.of_field (unplaced_layer mold) → IsField model f
same_fields f model layer mold e g same = record {
  same =
      fold_out-Field ExprForm Field Expr roll-ExprForm unplaced.of_field unplaced.of_expr f ∙ ap (λ l. unplaced.of_field (unplaced_layer l)) e ∙ same
      ∙ sym (fold_out-Field ExprForm Field Expr roll-ExprForm unplaced.of_field unplaced.of_expr model ∙ ap (λ l. unplaced.of_field (unplaced_layer l)) g);
}

-- ---- keys

key_form_by : Bool → List ℕ → TokenForm
key_form_by true key = name_form key
key_form_by false key = form.Str key

abbrev key_form : List ℕ → TokenForm
key_form key = key_form_by (is_ascii_name key) key

keys : (gap : Gap) (key : List ℕ) (line : Bool) (more : List Piece) → tokens_from line (key_before gap key ++ more) ≡ shape (key_form key) line ∷ tokens_from false more
unfolding key_form_by
keys gap key line more = by (is_ascii_name key)
  where
    by : (b : Bool) → tokens_from line (cond b (piece.Named key gap ∷ []) (piece.Quoted key gap ∷ []) ++ more) ≡ shape (key_form_by b key) line ∷ tokens_from false more
    by true = refl
    by false = refl

key_is : (key : List ℕ) → Marks.property_name (key_form key) ≡ Some key
unfolding key_form_by
key_is key = by (is_ascii_name key)
  where
    by : (b : Bool) → Marks.property_name (key_form_by b key) ≡ Some key
    by true = keyed_so key
    by false = refl

-- no key is a mark
key_no_mark : (t : TokenForm) (key : List ℕ) → Marks.property_name t ≡ Some key → Marks.right_brace t ≡ None
key_no_mark (form.Name text) key e = refl
key_no_mark (form.Number n) key e = refl
key_no_mark (form.Str text) key e = refl
key_no_mark (form.Reserved k) key e = refl
key_no_mark (form.Punctuator p) key e = absurd (cc)

flows_key : (gap : Gap) (key : List ℕ) → Flows (key_before gap key)
flows_key gap key = by (is_ascii_name key)
  where
    by : (b : Bool) → Flows (cond b (piece.Named key gap ∷ []) (piece.Quoted key gap ∷ []))
    by true = record { at = λ line more. refl }
    by false = record { at = λ line more. refl }

-- ---- values

both_false : {A : Type 0} (g s : Bool) (a b m : Reading A) (r : Rest) → cond (g && false) a (cond (s && false) b m) r ≡ m r
both_false true true a b m r = refl
both_false true false a b m r = refl
both_false false true a b m r = refl
both_false false false a b m r = refl

value_starts : {all : World} (w : Frame all) (c : Spot) (k : TokenForm) (line : Bool) (zs : List Shape)
    → P.property grammar (rest_of w c (shape k line ∷ shape (form_of (codes ":")) false ∷ zs)) ≡ P.valued grammar (rest_of w c (shape k line ∷ shape (form_of (codes ":")) false ∷ zs))
unfolding form_of reserved_word P.property
value_starts w c k line zs = both_false (is_some (Marks.accessor_word Marks.get_word k)) (is_some (Marks.accessor_word Marks.set_word k)) _ _ _ _

module _ {all : World} {bx : ℕ} {starts : Bool} {px : List Piece} {nx : Numbers} {x : Expr} (at : Place) (f : Field) (key : List ℕ) (is : out-Field f ≡ Field-F.Value at key x) (fx : Fit all bx 2 starts true px nx x) where
  abbrev pieces : List Piece
  pieces = (key_before Loose key ++ closing (codes ":")) ++ px

  split : (line : Bool) → tokens_from line pieces ≡ shape (key_form key) line ∷ shape (form_of (codes ":")) false ∷ tokens_from false px
  split line = ap (tokens_from line) (append_assoc (key_before Loose key) (closing (codes ":")) px) ∙ keys Loose key line (closing (codes ":") ++ px)

  value_reads : Read all bx pieces nx (IsField f) (below true 2) (P.property grammar) give
  value_reads = record {
    at = λ w c line rest nz ready fits.
        exactly (let k : Shape = shape (key_form key) line in
        let l : Shape = shape (form_of (codes ":")) false in
        let p = (c.supply 0).0 in
        on (ap (λ zs. zs ++ rest) (split line))
        (from {d = c} {other = k ∷ l ∷ (tokens_from false px ++ rest)} {n = P.valued grammar} (value_starts w c (key_form key) line (tokens_from false px ++ rest))
        (from {d = c} {other = k ∷ l ∷ (tokens_from false px ++ rest)} {n = expect Marks.property_name >>= λ key. expect Marks.colon >> (grammar.assignment true >>= λ x. give (field.Value p key x))} refl
        (expected {c = c} {s = k} Marks.property_name key (λ key. expect Marks.colon >> (grammar.assignment true >>= λ x. give (field.Value p key x))) (key_is key)
        (expected {c = after c k} {s = l} Marks.colon tt (λ _. grammar.assignment true >>= λ x. give (field.Value p key x)) colon_is
        (bind ((assignment_reads fx).at w (after (after c k) l) false rest nz ready fits) (λ y d isx done.
        stays {c = d} (field.Value p key y) give (same_fields (field.Value p key y) f _ _ (field.outs-Value p key y) is (ap (λ z. unplaced.of_field (Field-F.Value p key z)) isx.same)) done))))))) (omega arith);
  }

  pub value_part : FieldPart all bx pieces nx f
  value_part = record {
    flows = flows_last (key_before Loose key ++ closing (codes ":")) px fx.part.flows;
    form = key_form key;
    more = shape (form_of (codes ":")) false ∷ tokens_from false px;
    is = split;
    begins = key_no_mark (key_form key) key (key_is key);
    reads = value_reads;
  }

-- ---- accessors

getter_starts : {all : World} (w : Frame all) (c : Spot) (line : Bool) (t : TokenForm) (key : List ℕ) (zs : List Shape) → Marks.property_name t ≡ Some key
    → P.property grammar (rest_of w c (shape (form_of (codes "get")) line ∷ shape t false ∷ zs))
    ≡ (F.accessor grammar (c.supply 0).0 (F.no_parameter grammar) >>= λ f. give (field.Getter (c.supply (suc 0)).0 key f)) (rest_of w (after (after c (shape (form_of (codes "get")) line)) (shape t false)) zs)
unfolding form_of reserved_word P.property next
getter_starts w c line t key zs e = rw e (rw e refl)

setter_starts : {all : World} (w : Frame all) (c : Spot) (line : Bool) (t : TokenForm) (key : List ℕ) (zs : List Shape) → Marks.property_name t ≡ Some key
    → P.property grammar (rest_of w c (shape (form_of (codes "set")) line ∷ shape t false ∷ zs))
    ≡ (F.accessor grammar (c.supply 0).0 (F.one_parameter grammar) >>= λ f. give (field.Setter (c.supply (suc 0)).0 key f)) (rest_of w (after (after c (shape (form_of (codes "set")) line)) (shape t false)) zs)
unfolding form_of reserved_word P.property next
setter_starts w c line t key zs e = rw e (rw e refl)

get_no_mark : Marks.right_brace (form_of (codes "get")) ≡ None
unfolding form_of reserved_word
get_no_mark = refl

set_no_mark : Marks.right_brace (form_of (codes "set")) ≡ None
unfolding form_of reserved_word
set_no_mark = refl

abbrev pub accessor_pieces : List ℕ → List ℕ → List Piece → List Piece
accessor_pieces first key pf = (word first ++ key_before Tight key) ++ pf

split_accessor : (first key : List ℕ) (pf : List Piece) (line : Bool) → tokens_from line (accessor_pieces first key pf) ≡ shape (form_of first) line ∷ shape (key_form key) false ∷ tokens_from false pf
split_accessor first key pf line = ap (λ zs. shape (form_of first) line ∷ zs) (keys Tight key false pf)

module _ {all : World} {function : Bool → FuncNo → List Piece} {inside : FuncNo → ℕ} (reads : FunctionsRead all function inside) (at : Place) (f : Field) (key : List ℕ) (g : FuncNo) (short : all.tall g ≤ all.high) where
  getter_reads : out-Field f ≡ Field-F.Getter at key g → is_accessor 0 (slice_get all.functions g.0) ≡ true
      → Read all (inside g) (accessor_pieces (codes "get") key (function false g)) (g.0 ∷ []) (IsField f) (below true 2) (P.property grammar) give
  getter_reads is accessor = record {
    at = λ w c line rest nz ready fits.
        exactly (let s : Shape = shape (form_of (codes "get")) line in
        let k : Shape = shape (key_form key) false in
        let p = (c.supply (suc 0)).0 in
        on (ap (λ zs. zs ++ rest) (split_accessor (codes "get") key (function false g) line))
        (from {d = after (after c s) k} (getter_starts w c line (key_form key) key (tokens_from false (function false g) ++ rest) (key_is key))
        (bind ((reads.getter g (c.supply 0).0 short accessor).at w (after (after c s) k) false rest nz ready tt) (λ h d number done.
        stays {c = d} (field.Getter p key h) give (same_fields (field.Getter p key h) f _ _ (field.outs-Getter p key h) is (ap (λ z. unplaced.of_field (Field-F.Getter p key z)) number.same)) done)))) (omega arith);
  }

  setter_reads : out-Field f ≡ Field-F.Setter at key g → is_accessor 1 (slice_get all.functions g.0) ≡ true
      → Read all (inside g) (accessor_pieces (codes "set") key (function false g)) (g.0 ∷ []) (IsField f) (below true 2) (P.property grammar) give
  setter_reads is accessor = record {
    at = λ w c line rest nz ready fits.
        exactly (let s : Shape = shape (form_of (codes "set")) line in
        let k : Shape = shape (key_form key) false in
        let p = (c.supply (suc 0)).0 in
        on (ap (λ zs. zs ++ rest) (split_accessor (codes "set") key (function false g) line))
        (from {d = after (after c s) k} (setter_starts w c line (key_form key) key (tokens_from false (function false g) ++ rest) (key_is key))
        (bind ((reads.setter g (c.supply 0).0 short accessor).at w (after (after c s) k) false rest nz ready tt) (λ h d number done.
        stays {c = d} (field.Setter p key h) give (same_fields (field.Setter p key h) f _ _ (field.outs-Setter p key h) is (ap (λ z. unplaced.of_field (Field-F.Setter p key z)) number.same)) done)))) (omega arith);
  }

  pub getter_part : out-Field f ≡ Field-F.Getter at key g → is_accessor 0 (slice_get all.functions g.0) ≡ true → FieldPart all (inside g) (accessor_pieces (codes "get") key (function false g)) (g.0 ∷ []) f
  getter_part is accessor = record {
    flows = reads.ends false g (word (codes "get") ++ key_before Tight key) (flows_last (word (codes "get")) (key_before Tight key) (flows_key Tight key));
    form = form_of (codes "get");
    more = shape (key_form key) false ∷ tokens_from false (function false g);
    is = split_accessor (codes "get") key (function false g);
    begins = get_no_mark;
    reads = getter_reads is accessor;
  }

  pub setter_part : out-Field f ≡ Field-F.Setter at key g → is_accessor 1 (slice_get all.functions g.0) ≡ true → FieldPart all (inside g) (accessor_pieces (codes "set") key (function false g)) (g.0 ∷ []) f
  setter_part is accessor = record {
    flows = reads.ends false g (word (codes "set") ++ key_before Tight key) (flows_last (word (codes "set")) (key_before Tight key) (flows_key Tight key));
    form = form_of (codes "set");
    more = shape (key_form key) false ∷ tokens_from false (function false g);
    is = split_accessor (codes "set") key (function false g);
    begins = set_no_mark;
    reads = setter_reads is accessor;
  }
