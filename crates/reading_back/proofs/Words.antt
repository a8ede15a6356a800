-- Primary expressions of one token, and functions (11.1).
use Rattle.std.proofs.Common.{◌≡◌, ◌≤◌, ℕ, Bool, true, false, List, [], ◌∷◌, ◌++◌, refl, ap, sym, ◌∙◌, arith}
use Rattle.std.specs.Prelude.{codes, None}
use Rattle.js_value.specs.declared.place.FuncNo.{FuncNo}
use Rattle.js_value.specs.declared.place.Place.{Place}
use Rattle.js_value.specs.declared.primitive.Primitive.{Primitive}
use Rattle.js_value.specs.declared.primitive.Primitive.TheVariants as primitive
use Rattle.js_tree.specs.Lexing.{reserved_word}
use Rattle.js_tree.specs.declared.expression.ExprForm.{ExprForm, out-ExprForm}
use Rattle.js_tree.specs.declared.expression.ExprForm.TheOpen.{ExprForm-F}
use Rattle.js_tree.specs.declared.expression.ExprForm.TheVariants as e
use Rattle.js_tree.specs.declared.token.TokenForm.{TokenForm}
use Rattle.js_tree.specs.declared.token.TokenForm.TheVariants as form
use Rattle.js_grammar.specs.Functions as F
use Rattle.js_grammar.specs.Marks
use Rattle.js_grammar.specs.Primary as P
use Rattle.js_grammar.specs.ReadableWords.{is_readable_literal}
use Rattle.js_grammar.specs.Reading.{grammar}
use Rattle.js_grammar.specs.Rest.{◌>>=◌, give, finish, next}
use Rattle.script_text.specs.Expressions.{literal, reference}
use Rattle.script_text.specs.Pieces.{Piece, word}
use Rattle.script_text.specs.Tokens.{Shape, shape, form_of, tokens_from}
use Rattle.reading_back.proofs.Claims.{Low, World, Frame, Spot, rest_of, Read, anything, First, Look, IsExpr, Part, FunctionsRead}
use Rattle.reading_back.proofs.Marks.{begins_none, begins_unary, begins_statement, begins_other}
use Rattle.reading_back.proofs.Flowing.{flows_token}
use Rattle.reading_back.proofs.Ladder.{from_operand}
use Rattle.reading_back.proofs.Names.{identifier_form}
use Rattle.reading_back.proofs.Same.{same_layers}
use Rattle.script_nesting.specs.Height as height
use Rattle.script_nesting.proofs.Equations.{heights, height_is}
use Rattle.reading_back.proofs.Steps.{exactly, after, from, on, bind, finishes}

-- ---- pieces of one token

pub record Single (pieces : List Piece) (t : TokenForm) (starts : Bool) : Type 0 where
  pub tokens : (line : Bool) (more : List Piece) → tokens_from line (pieces ++ more) ≡ shape t line ∷ tokens_from false more
  pub alone : (line : Bool) → tokens_from line pieces ≡ shape t line ∷ []
  pub begins : begins_none t ≡ false
  pub no_statement : begins_statement t ≡ false
  pub no_sign : begins_unary t ≡ false
  pub plain : starts ≡ false → begins_other t ≡ false

abbrev pub word_look : Bool → Look
word_look starts = record { level = 17; calls = false; starts = starts }

module _ {all : World} {starts : Bool} {pieces : List Piece} {t : TokenForm} (at : Place) (form value : ExprForm) (low : Low all (record { at = at; form = form })) (single : Single pieces t starts)
    (reads : (w : Frame all) (c : Spot) (line : Bool) (zs : List Shape) → P.operand grammar (rest_of w c (shape t line ∷ zs)) ≡ finish (c.supply 0).0 value (rest_of w (after c (shape t line)) zs))
    (same : (other : Place) → IsExpr (record { at = at; form = form }) (record { at = other; form = value })) where
  word_reads : Read all 0 pieces [] (IsExpr (record { at = at; form = form })) anything (P.operand grammar) give
  word_reads = record {
    at = λ w c line rest nz ready fits.
        exactly (on (ap (λ zs. zs ++ rest) (single.alone line)) (from (reads w c line rest) (finishes {c = after c (shape t line)} (c.supply 0).0 value low (same (c.supply 0).0) ready))) (omega arith);
  }

  pub word_part : {allows_in : Bool} → Part all 0 (word_look starts) allows_in pieces [] (record { at = at; form = form })
  word_part = from_operand (record { at = λ line more. single.tokens line more ∙ sym (ap (λ zs. zs ++ tokens_from false more) (single.alone line)) })
      (record { form = t; more = []; is = λ line. single.alone line; begins = single.begins; no_statement = single.no_statement; no_sign = λ l. single.no_sign; plain = single.plain })
      0 (omega arith) word_reads

-- ---- names (11.1.2)

name_single : (text : List ℕ) → reserved_word text ≡ None → Single (reference text) (form.Name text) false
unfolding begins_none begins_unary begins_statement begins_other
name_single text e = record {
  tokens = λ line more. ap (λ t. shape t line ∷ tokens_from false more) (identifier_form text e);
  alone = λ line. ap (λ t. shape t line ∷ []) (identifier_form text e);
  begins = refl;
  no_statement = refl;
  no_sign = refl;
  plain = λ s. refl;
}

-- a name that isn't that of one of the two forms, nor barred
pub record IsPlain (text : List ℕ) : Type 0 where
  pub no_word : reserved_word text ≡ None
  pub no_input : Marks.is_abstract text ≡ false
  pub no_call : Marks.is_residual text ≡ false
  pub no_bar : Marks.barred text ≡ None

name_reads : {all : World} (text : List ℕ) → IsPlain text → (w : Frame all) (c : Spot) (line : Bool) (zs : List Shape)
    → P.operand grammar (rest_of w c (shape (form.Name text) line ∷ zs)) ≡ finish (c.supply 0).0 (e.Name text) (rest_of w (after c (shape (form.Name text) line)) zs)
unfolding next
name_reads text plain w c line zs = rw (plain.no_input, plain.no_call, plain.no_bar) refl

pub name_part : {all : World} {allows_in : Bool} (at : Place) (form : ExprForm) → Low all (record { at = at; form = form }) → (text : List ℕ) → out-ExprForm form ≡ ExprForm-F.Name text → IsPlain text
    → Part all 0 (word_look false) allows_in (reference text) [] (record { at = at; form = form })
name_part at form low text is plain = word_part at form (e.Name text) low (name_single text plain.no_word) (name_reads text plain) (λ other. same_layers other at (e.Name text) form _ _ (e.outs-Name text) is refl)

-- ---- `this` and literals

this_single : Single (word (codes "this")) (form_of (codes "this")) false
unfolding form_of reserved_word begins_none begins_unary begins_statement begins_other
this_single = record { tokens = λ line more. refl; alone = λ line. refl; begins = refl; no_statement = refl; no_sign = refl; plain = λ s. refl }

this_reads : {all : World} (w : Frame all) (c : Spot) (line : Bool) (zs : List Shape)
    → P.operand grammar (rest_of w c (shape (form_of (codes "this")) line ∷ zs)) ≡ finish (c.supply 0).0 e.This (rest_of w (after c (shape (form_of (codes "this")) line)) zs)
unfolding form_of reserved_word next
this_reads w c line zs = refl

pub this_part : {all : World} {allows_in : Bool} (at : Place) (form : ExprForm) → Low all (record { at = at; form = form }) → out-ExprForm form ≡ ExprForm-F.This
    → Part all 0 (word_look false) allows_in (word (codes "this")) [] (record { at = at; form = form })
this_part at form low is = word_part at form e.This low this_single this_reads (λ other. same_layers other at e.This form _ _ e.outs-This is refl)

-- the token of a literal
literal_form : Primitive → TokenForm
literal_form primitive.Undefined = form.Name []
literal_form primitive.Null = form_of (codes "null")
literal_form (primitive.Boolean true) = form_of (codes "true")
literal_form (primitive.Boolean false) = form_of (codes "false")
literal_form (primitive.Number n) = form.Number n
literal_form (primitive.Text units) = form.Str units

abbrev pub is_string : Primitive → Bool
is_string (primitive.Text units) = true
is_string v = false

literal_single : (v : Primitive) → is_readable_literal v ≡ true → Single (literal v) (literal_form v) (is_string v)
unfolding literal_form form_of reserved_word begins_none begins_unary begins_statement begins_other
literal_single primitive.Undefined readable = absurd (cc)
literal_single primitive.Null readable = record { tokens = λ line more. refl; alone = λ line. refl; begins = refl; no_statement = refl; no_sign = refl; plain = λ s. refl }
literal_single (primitive.Boolean true) readable = record { tokens = λ line more. refl; alone = λ line. refl; begins = refl; no_statement = refl; no_sign = refl; plain = λ s. refl }
literal_single (primitive.Boolean false) readable = record { tokens = λ line more. refl; alone = λ line. refl; begins = refl; no_statement = refl; no_sign = refl; plain = λ s. refl }
literal_single (primitive.Number n) readable = record { tokens = λ line more. refl; alone = λ line. refl; begins = refl; no_statement = refl; no_sign = refl; plain = λ s. refl }
literal_single (primitive.Text units) readable = record { tokens = λ line more. refl; alone = λ line. refl; begins = refl; no_statement = refl; no_sign = refl; plain = λ s. absurd (cc) }

literal_reads : {all : World} (v : Primitive) → is_readable_literal v ≡ true → (w : Frame all) (c : Spot) (line : Bool) (zs : List Shape)
    → P.operand grammar (rest_of w c (shape (literal_form v) line ∷ zs)) ≡ finish (c.supply 0).0 (e.Literal v) (rest_of w (after c (shape (literal_form v) line)) zs)
unfolding literal_form form_of reserved_word next
literal_reads primitive.Undefined readable w c line zs = absurd (cc)
literal_reads primitive.Null readable w c line zs = refl
literal_reads (primitive.Boolean true) readable w c line zs = refl
literal_reads (primitive.Boolean false) readable w c line zs = refl
literal_reads (primitive.Number n) readable w c line zs = refl
literal_reads (primitive.Text units) readable w c line zs = refl

pub literal_part : {all : World} {allows_in : Bool} (at : Place) (form : ExprForm) → Low all (record { at = at; form = form }) → (v : Primitive) → out-ExprForm form ≡ ExprForm-F.Literal v → is_readable_literal v ≡ true
    → Part all 0 (word_look (is_string v)) allows_in (literal v) [] (record { at = at; form = form })
literal_part at form low v is readable =
    word_part at form (e.Literal v) low (literal_single v readable) (literal_reads v readable) (λ other. same_layers other at (e.Literal v) form _ _ (e.outs-Literal v) is refl)

-- ---- functions (13)

function_here : {all : World} (w : Frame all) (c : Spot) (line : Bool) (zs : List Shape)
    → P.operand grammar (rest_of w c (shape (form_of (codes "function")) line ∷ zs))
    ≡ (F.function_expression grammar (c.supply 0).0 >>= λ f. finish (c.supply 0).0 (e.Func f)) (rest_of w c (shape (form_of (codes "function")) line ∷ zs))
unfolding form_of reserved_word
function_here w c line zs = refl

function_first : (pieces : List Piece) → First (word_look true) (word (codes "function") ++ pieces)
unfolding form_of reserved_word begins_none begins_unary begins_statement begins_other
function_first pieces = record {
  form = form_of (codes "function");
  more = tokens_from false pieces;
  is = λ line. refl;
  begins = refl;
  no_statement = refl;
  no_sign = λ l. refl;
  plain = λ s. absurd (cc);
}

module _ {all : World} {function : Bool → FuncNo → List Piece} {inside : FuncNo → ℕ} (reads : FunctionsRead all function inside) (at : Place) (form : ExprForm) (low : Low all (record { at = at; form = form })) (f : FuncNo) (is : out-ExprForm form ≡ ExprForm-F.Func f) where
  -- the body is lower than the function
  short : all.tall f ≤ all.high
  short =
      let same : height.of_form all.tall (heights all.tall (out-ExprForm form)) ≡ all.tall f = ap (λ l. height.of_form all.tall (heights all.tall l)) is in
      omega (arith, low.within, height_is all.tall (record { at = at; form = form }), same)

  function_reads : Read all (inside f) (word (codes "function") ++ function true f) (f.0 ∷ []) (IsExpr (record { at = at; form = form })) anything (P.operand grammar) give
  function_reads = record {
    at = λ w c line rest nz ready fits.
        exactly (from (function_here w c line (tokens_from false (function true f) ++ rest))
        (bind ((reads.expression f (c.supply 0).0 short).at w c line rest nz ready tt) (λ g d number done.
        finishes {c = d} (c.supply 0).0 (e.Func g) low (same_layers (c.supply 0).0 at (e.Func g) form _ _ (e.outs-Func g) is (ap (λ h. ExprForm-F.Func h) number.same)) done))) (omega arith);
  }

  pub function_part : {allows_in : Bool} → Part all (inside f) (word_look true) allows_in (word (codes "function") ++ function true f) (f.0 ∷ []) (record { at = at; form = form })
  function_part = from_operand (reads.ends true f (word (codes "function")) (flows_token (codes "function") false _)) (function_first (function true f)) (inside f) (omega arith) function_reads
