-- Operators before and behind their operand (11.3, 11.4).
use Rattle.std.proofs.Common.{◌≡◌, ℕ, Bool, true, false, cond, List, ◌∷◌, ◌++◌, refl, ap, ◌∙◌, arith, suc}
use Rattle.std.specs.Prelude.{◌&&◌, codes, Some, None}
use Rattle.js_value.specs.declared.operator.UnaryOp.{UnaryOp}
use Rattle.js_value.specs.declared.operator.UnaryOp.TheVariants as unary
use Rattle.js_value.specs.declared.place.Place.{Place}
use Rattle.js_tree.specs.Lexing.{reserved_word}
use Rattle.js_tree.specs.declared.expression.Expr.{Expr}
use Rattle.js_tree.specs.declared.expression.ExprForm.{ExprForm, out-ExprForm}
use Rattle.js_tree.specs.declared.expression.ExprForm.TheOpen.{ExprForm-F}
use Rattle.js_tree.specs.declared.expression.ExprForm.TheVariants as e
use Rattle.js_tree.specs.declared.expression.StepOp.{StepOp}
use Rattle.js_tree.specs.declared.expression.StepOp.TheVariants as step
use Rattle.js_tree.specs.declared.token.Keyword.TheVariants as keyword
use Rattle.js_tree.specs.declared.token.Punctuator.TheVariants as mark
use Rattle.js_tree.specs.declared.token.TokenForm.{TokenForm}
use Rattle.js_tree.specs.declared.token.TokenForm.TheVariants as form
use Rattle.js_grammar.specs.Expressions as E
use Rattle.js_grammar.specs.FunctionOrder.{Numbers}
use Rattle.js_grammar.specs.Operators
use Rattle.js_grammar.specs.Reading.{grammar}
use Rattle.js_grammar.specs.Rest.{Rest, Reading, give, finish, part}
use Rattle.js_grammar.proofs.Laws.{tied}
use Rattle.script_text.specs.Expressions.{unary_operator}
use Rattle.script_text.specs.Pieces.{Piece, closing, prefix}
use Rattle.script_text.specs.Tokens.{Shape, shape, form_of, tokens_from}
use Rattle.reading_back.proofs.Claims.{Low, World, Frame, Spot, rest_of, deeper, Read, below, First, IsExpr, Part, Fit}
use Rattle.reading_back.proofs.Marks.{joins, begins_none, begins_statement, begins_other}
use Rattle.reading_back.proofs.Flowing.{flows_last, flows_token, spread}
use Rattle.reading_back.proofs.Ladder.{behind_operand, left_hand_side_of, from_unary, from_postfix}
use Rattle.reading_back.proofs.Same.{same_layers, same_name, same_target}
use Rattle.reading_back.proofs.Steps.{exactly, after, from, on, bind, parted, opens, finishes, next_none, next_some}
use Rattle.reading_back.proofs.TwoOperands.{first_before}

-- ---- operands

module _ {all : World} {bound : ℕ} {allows_in starts : Bool} {pieces : List Piece} {numbers : Numbers} {e : Expr} where
  -- the operand of an operator before it
  unary_part_reads : (f : Fit all bound 14 starts allows_in pieces numbers e) → Read all (suc bound) pieces numbers (IsExpr e) (below allows_in 14) (part grammar.unary) give
  unary_part_reads f = record {
    at = λ w c line rest nz ready fits.
        exactly (parted (ap (λ zs. zs ++ rest) (f.part.first.is line))
        (from (tied.unary (rest_of (deeper w) c (tokens_from line pieces ++ rest))) ((f.part.unary f.enough).at (deeper w) c line rest nz (opens c.functions (numbers ++ nz) ready) fits))) (omega arith);
  }

pub if_target_is : {A : Type 0} (x : Expr) (m : Reading A) (s : Rest) → E.is_target x ≡ true → E.if_target x m s ≡ m s
if_target_is x m s e = rw e refl

-- ---- 11.4, but `++` and `--`

unary_mark : UnaryOp → TokenForm
unary_mark unary.Plus = form.Punctuator mark.Plus
unary_mark unary.Minus = form.Punctuator mark.Minus
unary_mark unary.Not = form.Punctuator mark.Not
unary_mark unary.BitNot = form.Punctuator mark.BitNot
unary_mark unary.TypeOf = form.Reserved keyword.TypeOf
unary_mark unary.Void = form.Reserved keyword.Void
unary_mark unary.Delete = form.Reserved keyword.Delete

signs : (op : UnaryOp) (more : List Piece) (line : Bool) → tokens_from line (unary_operator op ++ more) ≡ shape (unary_mark op) line ∷ tokens_from false more
unfolding unary_mark form_of reserved_word
signs unary.Plus more line = refl
signs unary.Minus more line = refl
signs unary.Not more line = refl
signs unary.BitNot more line = refl
signs unary.TypeOf more line = refl
signs unary.Void more line = refl
signs unary.Delete more line = refl

wanted : (op : UnaryOp) → Operators.unary_operator (unary_mark op) ≡ Some op
unfolding unary_mark
wanted unary.Plus = refl
wanted unary.Minus = refl
wanted unary.Not = refl
wanted unary.BitNot = refl
wanted unary.TypeOf = refl
wanted unary.Void = refl
wanted unary.Delete = refl

mark_begins_none : (op : UnaryOp) → begins_none (unary_mark op) ≡ false
unfolding unary_mark begins_none
mark_begins_none unary.Plus = refl
mark_begins_none unary.Minus = refl
mark_begins_none unary.Not = refl
mark_begins_none unary.BitNot = refl
mark_begins_none unary.TypeOf = refl
mark_begins_none unary.Void = refl
mark_begins_none unary.Delete = refl

mark_begins_statement : (op : UnaryOp) → begins_statement (unary_mark op) ≡ false
unfolding unary_mark begins_statement
mark_begins_statement unary.Plus = refl
mark_begins_statement unary.Minus = refl
mark_begins_statement unary.Not = refl
mark_begins_statement unary.BitNot = refl
mark_begins_statement unary.TypeOf = refl
mark_begins_statement unary.Void = refl
mark_begins_statement unary.Delete = refl

mark_begins_other : (op : UnaryOp) → begins_other (unary_mark op) ≡ false
unfolding unary_mark begins_other
mark_begins_other unary.Plus = refl
mark_begins_other unary.Minus = refl
mark_begins_other unary.Not = refl
mark_begins_other unary.BitNot = refl
mark_begins_other unary.TypeOf = refl
mark_begins_other unary.Void = refl
mark_begins_other unary.Delete = refl

unary_first : (op : UnaryOp) (pieces : List Piece) → First (record { level = 14; calls = false; starts = false }) (unary_operator op ++ pieces)
unary_first op pieces = record {
  form = unary_mark op;
  more = tokens_from false pieces;
  is = λ line. signs op pieces line;
  begins = mark_begins_none op;
  no_statement = mark_begins_statement op;
  no_sign = λ l. absurd (omega (arith, l));
  plain = λ s. mark_begins_other op;
}

unary_starts : {all : World} (op : UnaryOp) (w : Frame all) (c : Spot) (line : Bool) (zs : List Shape)
    → E.unary grammar (rest_of w c (shape (unary_mark op) line ∷ zs)) ≡ E.unary_behind grammar (c.supply 0).0 op (rest_of w (after c (shape (unary_mark op) line)) zs)
unfolding E.unary
unary_starts op w c line zs = next_some Operators.unary_operator op _ _ (rest_of w c (shape (unary_mark op) line ∷ zs)) (wanted op)

pub if_false : {A : Type 0} (b : Bool) (u m : Reading A) (s : Rest) → b ≡ false → cond b u m s ≡ m s
if_false b u m s e = rw e refl

module _ {all : World} {ba : ℕ} {allows_in sa : Bool} {pa : List Piece} {na : Numbers} {a : Expr} (at : Place) (form : ExprForm) (low : Low all (record { at = at; form = form })) where
  unary_reads : (op : UnaryOp) → out-ExprForm form ≡ ExprForm-F.Unary op a → (E.is_delete grammar op && E.is_name a) ≡ false → (fa : Fit all ba 14 sa allows_in pa na a)
      → Read all (suc ba) (unary_operator op ++ pa) na (IsExpr (record { at = at; form = form })) (below allows_in 14) (E.unary grammar) give
  unary_reads op is no_name fa = record {
    at = λ w c line rest nz ready fits.
        exactly (let d = after c (shape (unary_mark op) line) in
        on (ap (λ zs. zs ++ rest) (signs op pa line))
        (from (unary_starts op w c line (tokens_from false pa ++ rest))
        (bind ((unary_part_reads fa).at w d false rest nz ready fits) (λ x g isa done.
        from (if_false (E.is_delete grammar op && E.is_name x) _ _ (rest_of w g rest) (ap (λ b. E.is_delete grammar op && b) (same_name isa) ∙ no_name))
        (finishes (c.supply 0).0 (e.Unary op x) low (same_layers (c.supply 0).0 at (e.Unary op x) form _ _ (e.outs-Unary op x) is (ap (λ y. ExprForm-F.Unary op y) isa.same)) done))))) (omega arith);
  }

  pub unary_part : (op : UnaryOp) → out-ExprForm form ≡ ExprForm-F.Unary op a → (E.is_delete grammar op && E.is_name a) ≡ false → Fit all ba 14 sa allows_in pa na a
      → Part all (suc ba) (record { level = 14; calls = false; starts = false }) allows_in (unary_operator op ++ pa) na (record { at = at; form = form })
  unary_part op is no_name fa = from_unary (flows_last (unary_operator op) pa fa.part.flows) (unary_first op pa) (suc ba) refl (unary_reads op is no_name fa)

-- ---- `++` and `--` (11.3, 11.4.4, 11.4.5)

-- a text that is one of them before its operand, and that is one behind it
pub record Steps (text : List ℕ) (before behind : StepOp) : Type 0 where
  pub prefixes : Operators.prefix_step (form_of text) ≡ Some before
  pub no_unary : Operators.unary_operator (form_of text) ≡ None
  pub postfixes : Operators.postfix_operator (form_of text) ≡ Some behind
  pub joined : (allows_in : Bool) → joins allows_in (form_of text) ≡ 15
  pub begins : begins_none (form_of text) ≡ false
  pub no_statement : begins_statement (form_of text) ≡ false
  pub plain : begins_other (form_of text) ≡ false

pub up : Steps (codes "++") step.PreUp step.PostUp
unfolding form_of reserved_word joins begins_none begins_statement begins_other
up = record { prefixes = refl; no_unary = refl; postfixes = refl; joined = λ allows_in. refl; begins = refl; no_statement = refl; plain = refl }

pub down : Steps (codes "--") step.PreDown step.PostDown
unfolding form_of reserved_word joins begins_none begins_statement begins_other
down = record { prefixes = refl; no_unary = refl; postfixes = refl; joined = λ allows_in. refl; begins = refl; no_statement = refl; plain = refl }

prefix_starts : {all : World} {text : List ℕ} {before behind : StepOp} → Steps text before behind → (w : Frame all) (c : Spot) (line : Bool) (zs : List Shape)
    → E.unary grammar (rest_of w c (shape (form_of text) line ∷ zs)) ≡ E.step_behind grammar (c.supply 0).0 before (rest_of w (after c (shape (form_of text) line)) zs)
unfolding E.unary
prefix_starts {text = text} {before = before} st w c line zs =
    let s = rest_of w c (shape (form_of text) line ∷ zs) in
    next_none Operators.unary_operator _ _ s st.no_unary ∙ next_some Operators.prefix_step before _ _ s st.prefixes

postfix_ends : {all : World} {text : List ℕ} {before behind : StepOp} → Steps text before behind → (w : Frame all) (d : Spot) (x : Expr) (zs : List Shape) → E.is_target x ≡ true
    → behind_operand x (rest_of w d (shape (form_of text) false ∷ zs)) ≡ finish x.at (e.Step behind x) (rest_of w (after d (shape (form_of text) false)) zs)
postfix_ends {text = text} {behind = behind} st w d x zs target =
    next_some Operators.postfix_operator behind _ _ (rest_of w d (shape (form_of text) false ∷ zs)) st.postfixes
    ∙ if_target_is x (finish x.at (e.Step behind x)) (rest_of w (after d (shape (form_of text) false)) zs) target

module _ {all : World} {ba : ℕ} {allows_in sa : Bool} {pa : List Piece} {na : Numbers} {a : Expr} (at : Place) (form : ExprForm) (low : Low all (record { at = at; form = form })) {text : List ℕ} {before behind : StepOp} (st : Steps text before behind) where
  prefix_reads : out-ExprForm form ≡ ExprForm-F.Step before a → E.is_target a ≡ true → (fa : Fit all ba 14 sa allows_in pa na a)
      → Read all (suc ba) (prefix text ++ pa) na (IsExpr (record { at = at; form = form })) (below allows_in 14) (E.unary grammar) give
  prefix_reads is target fa = record {
    at = λ w c line rest nz ready fits.
        exactly (let d = after c (shape (form_of text) line) in
        from (prefix_starts st w c line (tokens_from false pa ++ rest))
        (bind ((unary_part_reads fa).at w d false rest nz ready fits) (λ x g isa done.
        from (if_target_is x (finish (c.supply 0).0 (e.Step before x)) (rest_of w g rest) (same_target isa ∙ target))
        (finishes (c.supply 0).0 (e.Step before x) low (same_layers (c.supply 0).0 at (e.Step before x) form _ _ (e.outs-Step before x) is (ap (λ y. ExprForm-F.Step before y) isa.same)) done)))) (omega arith);
  }

  pub prefix_part : out-ExprForm form ≡ ExprForm-F.Step before a → E.is_target a ≡ true → Fit all ba 14 sa allows_in pa na a
      → Part all (suc ba) (record { level = 14; calls = false; starts = false }) allows_in (prefix text ++ pa) na (record { at = at; form = form })
  prefix_part is target fa = from_unary (flows_last (prefix text) pa fa.part.flows)
      (record { form = form_of text; more = tokens_from false pa; is = λ line. refl; begins = st.begins; no_statement = st.no_statement; no_sign = λ l. absurd (omega (arith, l)); plain = λ s. st.plain })
      (suc ba) refl (prefix_reads is target fa)

  postfix_reads : out-ExprForm form ≡ ExprForm-F.Step behind a → E.is_target a ≡ true → (fa : Fit all ba 16 sa allows_in pa na a)
      → Read all ba (pa ++ closing text) na (IsExpr (record { at = at; form = form })) (below allows_in 14) (E.postfix grammar) give
  unfolding E.postfix
  postfix_reads is target fa = record {
    at = λ w c line rest nz ready fits.
        exactly (on (spread pa (closing text) fa.part.flows line rest)
        (bind ((left_hand_side_of allows_in 16 (omega arith) (fa.part.calls fa.enough)).at w c line (shape (form_of text) false ∷ rest) nz ready (omega (arith, st.joined allows_in))) (λ x g isa done.
        from (postfix_ends st w g x rest (same_target isa ∙ target))
        (finishes x.at (e.Step behind x) low (same_layers x.at at (e.Step behind x) form _ _ (e.outs-Step behind x) is (ap (λ y. ExprForm-F.Step behind y) isa.same)) done)))) (omega arith);
  }

  pub postfix_part : out-ExprForm form ≡ ExprForm-F.Step behind a → E.is_target a ≡ true → Fit all ba 16 sa allows_in pa na a
      → Part all ba (record { level = 15; calls = false; starts = sa }) allows_in (pa ++ closing text) na (record { at = at; form = form })
  postfix_part is target fa = from_postfix (flows_last pa (closing text) (flows_token text true _))
      (first_before pa (closing text) fa.part.flows (λ l. omega (arith, fa.enough)) fa.plain fa.part.first) ba refl (postfix_reads is target fa)
