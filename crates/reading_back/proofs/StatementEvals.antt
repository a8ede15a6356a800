-- Expression statements (12.4), and why none is taken for a label (12.12).
use Rattle.std.proofs.Common.{◌≡◌, ◌≤◌, ℕ, suc, ◌+◌, Bool, true, false, cond, List, [], ◌∷◌, ◌++◌, map, length, refl, ap, sym, ◌∙◌, arith}
use Rattle.std.specs.Prelude.{◌||◌, ◌==◌, codes, slice_index, Option, Some, None, is_some, Result, Ok, Err}
use Rattle.std.proofs.lemmas.List.{length-append}
use Rattle.js_value.specs.declared.place.Place.{Place}
use Rattle.js_grammar.specs.Operators
use Rattle.js_grammar.proofs.Climbing.{climbs}
use Rattle.js_tree.specs.Refusals.{place}
use Rattle.js_tree.specs.Lexing.{lookup, reserved_word}
use Rattle.js_tree.specs.declared.expression.Expr.{Expr}
use Rattle.js_tree.specs.declared.expression.ExprForm.{out-ExprForm}
use Rattle.js_tree.specs.declared.expression.ExprForm.TheVariants as e
use Rattle.js_tree.specs.declared.refusal.Feature.TheVariants as feature
use Rattle.js_tree.specs.declared.refusal.ReadRefused.{ReadRefused}
use Rattle.js_tree.specs.declared.refusal.ReadRefused.TheVariants.{Unsupported}
use Rattle.js_tree.specs.declared.statement.StmtForm.{StmtForm, out-StmtForm}
use Rattle.js_tree.specs.declared.statement.StmtForm.TheOpen.{StmtForm-F}
use Rattle.js_tree.specs.declared.statement.StmtForm.TheVariants as s
use Rattle.js_tree.specs.declared.token.Keyword.{Keyword}
use Rattle.js_tree.specs.declared.token.Punctuator.{Punctuator}
use Rattle.js_tree.specs.declared.token.Punctuator.TheVariants as mark
use Rattle.js_tree.specs.declared.token.TheConstants.{PUNCTUATORS}
use Rattle.js_tree.specs.declared.token.TokenForm.{TokenForm}
use Rattle.js_tree.specs.declared.token.TokenForm.TheVariants as form
use Rattle.js_grammar.specs.Ends.{continues_expression}
use Rattle.js_grammar.specs.Expressions as E
use Rattle.js_grammar.specs.FunctionOrder.{Numbers}
use Rattle.js_grammar.specs.Marks
use Rattle.js_grammar.specs.Primary as P
use Rattle.js_grammar.specs.Reading.{grammar}
use Rattle.js_grammar.specs.Rest.{Rest, Reading, behind, give, next, of_first, repeat, finish, finish_stmt}
use Rattle.js_grammar.specs.Statements as S
use Rattle.js_grammar.proofs.Laws.{repeated}
use Rattle.script_text.specs.Expressions.{reference}
use Rattle.script_text.specs.Pieces as pieces
use Rattle.script_text.specs.Pieces.{Piece, closing}
use Rattle.script_text.specs.Tokens.{Shape, shape, form_of, name_form, reserved_or_name, mark_or_else, tokens_from}
use Rattle.reading_back.proofs.Claims.{Low, World, Frame, Spot, Supply, placed, rest_of, Leads, Ready, Read, anything, below, Look, First, IsExpr, Part, Fit}
use Rattle.reading_back.proofs.Marks.{begins_none, begins_statement, begins_other}
use Rattle.reading_back.proofs.StatementClaims.{LowStmt, ends_list, StmtPart}
use Rattle.reading_back.proofs.Flowing.{flows_last, flows_token, spread}
use Rattle.reading_back.proofs.Joining.{begins, first_none}
use Rattle.reading_back.proofs.Ladder.{no_more_commas, calls_of, postfix_of, unary_of, climb_of, conditional_of, looser, assignment_of, commas_of}
use Rattle.reading_back.proofs.LooseOperators.{colon_joins}
use Rattle.reading_back.proofs.Same.{same_layers}
use Rattle.reading_back.proofs.Names.{identifier_form}
use Rattle.reading_back.proofs.Words.{IsPlain, word_look, name_part}
use Rattle.reading_back.proofs.StatementHeads.{semicolon_joins}
use Rattle.reading_back.proofs.StatementSteps.{same_stmts, semicolon, finishes_stmt, ended}
use Rattle.script_nesting.specs.Height as height
use Rattle.script_nesting.proofs.Equations.{heights, height_is, stmt_height_is}
use Rattle.reading_back.proofs.Steps.{exactly, with_limit, ready_with, after, first_of_shapes, first_is, from, on, stays, chain, bind, finishes, next_none}

-- ---- names among the tokens of pieces

-- where this token is a name of this text, the text is no reserved word
abbrev NoWord : TokenForm → List ℕ → Type 0
NoWord t text = t ≡ form.Name text → reserved_word text ≡ None

name_of : (o : Option Keyword) (spelled text : List ℕ) → reserved_word spelled ≡ o → NoWord (reserved_or_name spelled o) text
name_of (Some k) spelled text e is = absurd (cc)
name_of None spelled text e is = let same : spelled ≡ text = cc in ap reserved_word (sym same) ∙ e

string_or : (b : Bool) (spelled text inside : List ℕ) → NoWord (cond b (form.Str inside) (name_form spelled)) text
string_or true spelled text inside is = absurd (cc)
string_or false spelled text inside is = name_of (reserved_word spelled) spelled text refl is

mark_or : (o : Option Punctuator) (spelled text : List ℕ) → NoWord (mark_or_else spelled o) text
mark_or (Some m) spelled text is = absurd (cc)
mark_or None spelled text is = string_or (slice_index spelled 0 == 34) spelled text _ is

token_is : (spelled text : List ℕ) → NoWord (form_of spelled) text
unfolding form_of
token_is spelled text is = mark_or (lookup (map (λ row. (row.0.now, row.1)) PUNCTUATORS) spelled) spelled text is

abbrev first_form : List Shape → TokenForm
first_form [] = form.Str []
first_form (s ∷ ss) = s.form

-- 7.6.1: no reserved word
no_reserved : (line : Bool) (ps : List Piece) (text : List ℕ) → NoWord (first_form (tokens_from line ps)) text
no_reserved line [] text is = absurd (cc)
no_reserved line (pieces.Token spelled is_tight behind ∷ more) text is = token_is spelled text is
no_reserved line (pieces.LineEnd ∷ more) text is = no_reserved true more text is
no_reserved line (pieces.Open ∷ more) text is = no_reserved line more text is
no_reserved line (pieces.Close ∷ more) text is = no_reserved line more text is
no_reserved line (pieces.Reference name ∷ more) text is = name_of (reserved_word name) name text refl is
no_reserved line (pieces.Named name behind ∷ more) text is = name_of (reserved_word name) name text refl is
no_reserved line (pieces.Quoted units behind ∷ more) text is = absurd (cc)
no_reserved line (pieces.Number n ∷ more) text is = absurd (cc)
no_reserved line (pieces.Bind names ∷ more) text is = no_reserved line more text is
no_reserved line (pieces.Release ∷ more) text is = no_reserved line more text is

-- ---- a colon behind a name

colon_of : (m : Punctuator) → Marks.colon (form.Punctuator m) ≡ Some tt → form.Punctuator m ≡ form_of (codes ":")
unfolding form_of reserved_word
colon_of mark.LeftBrace e = absurd (cc)
colon_of mark.RightBrace e = absurd (cc)
colon_of mark.LeftParenthesis e = absurd (cc)
colon_of mark.RightParenthesis e = absurd (cc)
colon_of mark.LeftBracket e = absurd (cc)
colon_of mark.RightBracket e = absurd (cc)
colon_of mark.Dot e = absurd (cc)
colon_of mark.Semicolon e = absurd (cc)
colon_of mark.Comma e = absurd (cc)
colon_of mark.Less e = absurd (cc)
colon_of mark.Greater e = absurd (cc)
colon_of mark.LessEqual e = absurd (cc)
colon_of mark.GreaterEqual e = absurd (cc)
colon_of mark.Equal e = absurd (cc)
colon_of mark.NotEqual e = absurd (cc)
colon_of mark.Same e = absurd (cc)
colon_of mark.NotSame e = absurd (cc)
colon_of mark.Plus e = absurd (cc)
colon_of mark.Minus e = absurd (cc)
colon_of mark.Star e = absurd (cc)
colon_of mark.Slash e = absurd (cc)
colon_of mark.Percent e = absurd (cc)
colon_of mark.PlusPlus e = absurd (cc)
colon_of mark.MinusMinus e = absurd (cc)
colon_of mark.Shl e = absurd (cc)
colon_of mark.Sar e = absurd (cc)
colon_of mark.Shr e = absurd (cc)
colon_of mark.BitAnd e = absurd (cc)
colon_of mark.BitOr e = absurd (cc)
colon_of mark.BitXor e = absurd (cc)
colon_of mark.Not e = absurd (cc)
colon_of mark.BitNot e = absurd (cc)
colon_of mark.And e = absurd (cc)
colon_of mark.Or e = absurd (cc)
colon_of mark.Question e = absurd (cc)
colon_of mark.Colon e = refl
colon_of mark.Assign e = absurd (cc)
colon_of mark.PlusAssign e = absurd (cc)
colon_of mark.MinusAssign e = absurd (cc)
colon_of mark.StarAssign e = absurd (cc)
colon_of mark.SlashAssign e = absurd (cc)
colon_of mark.PercentAssign e = absurd (cc)
colon_of mark.ShlAssign e = absurd (cc)
colon_of mark.SarAssign e = absurd (cc)
colon_of mark.ShrAssign e = absurd (cc)
colon_of mark.BitAndAssign e = absurd (cc)
colon_of mark.BitOrAssign e = absurd (cc)
colon_of mark.BitXorAssign e = absurd (cc)

colon_form : (t : TokenForm) → Marks.colon t ≡ Some tt → t ≡ form_of (codes ":")
colon_form (form.Punctuator m) e = colon_of m e
colon_form (form.Reserved k) e = absurd (cc)
colon_form (form.Name text) e = absurd (cc)
colon_form (form.Number n) e = absurd (cc)
colon_form (form.Str text) e = absurd (cc)

-- an expression as a statement takes it
abbrev whole : Reading Expr
whole = P.expression_by grammar (E.assignment grammar true) true

module _ {all : World} {bound : ℕ} {ps : List Piece} {numbers : Numbers} {Is : Expr → Type 0} where
  closed_of : Read all bound ps numbers Is (below true 2) whole (repeat (P.more_commas grammar true)) → Read all bound ps numbers Is (below true 1) whole give
  closed_of h = record {
    at = λ w c line rest nz ready fits.
        exactly (chain (h.at w c line rest nz ready (omega (arith, fits))) (λ x d is done.
        from (repeated.commas true x (rest_of w d rest) ∙ no_more_commas true (repeat (P.more_commas grammar true)) x (rest_of w d rest)
        (first_is w Marks.comma d rest ∙ first_none Marks.comma true 1 rest (omega arith) (λ t q. q.comma (omega arith)) fits))
        (stays {c = d} x give is done))) (omega arith);
  }

-- ---- a name by itself reads up to what stands behind it

abbrev named : List ℕ → Expr
named text = record { at = place 0; form = e.Name text }

-- a name is as low as can be
low_name : (all : World) (text : List ℕ) → 1 ≤ all.high → Low all (named text)
low_name all text some =
    let is : height.of_form all.tall (heights all.tall (out-ExprForm (e.Name text))) ≡ 0 = ap (λ l. height.of_form all.tall (heights all.tall l)) (e.outs-Name text) in
    record { within = omega (arith, some, height_is all.tall (named text), is) }

name_operand : {all : World} → 1 ≤ all.high → (text : List ℕ) → IsPlain text → Read all 0 (reference text) [] (IsExpr (named text)) anything (P.operand grammar) give
unfolding next
name_operand {all = all} some text plain = record {
  at = λ w c line rest nz ready fits.
      exactly (on (ap (λ t. shape t line ∷ rest) (identifier_form text plain.no_word))
      (from {d = after c (shape (form.Name text) line)} {n = finish (c.supply 0).0 (e.Name text)} (rw (plain.no_input, plain.no_call, plain.no_bar) refl)
      (finishes (c.supply 0).0 (e.Name text) (low_name all text some) (same_layers (c.supply 0).0 (place 0) (e.Name text) (e.Name text) _ _ (e.outs-Name text) (e.outs-Name text) refl) ready))) (omega arith);
}

name_whole : {all : World} → 1 ≤ all.high → (text : List ℕ) → IsPlain text → Read all 0 (reference text) [] (IsExpr (named text)) (below true 1) whole give
name_whole {all = all} some text plain =
    let first : First (word_look false) (reference text) = (name_part {all = all} {allows_in = true} (place 0) (e.Name text) (low_name all text some) text (e.outs-Name text) plain).first in
    let u : Read all 0 (reference text) [] (IsExpr (named text)) (below true 14) (E.unary grammar) give = unary_of true first (omega arith) (postfix_of true (calls_of (name_operand some text plain))) in
    let d = looser true 2 (omega arith) (conditional_of true 17 (omega arith) (climb_of true 17 0 (omega arith) u)) in
    closed_of (commas_of true (assignment_of true d))

-- ---- a name that isn't supported

fails : {A B : Type 0} (m : Reading A) (f : A → Reading B) (s : Rest) (x : ReadRefused) → m s ≡ Err x → behind (m s) f ≡ Err x
fails m f s x h = ap (λ r. behind r f) h

left_fails : (s : Rest) (x : ReadRefused) → P.operand grammar s ≡ Err x → P.left_hand_side grammar s ≡ Err x
unfolding P.left_hand_side
left_fails s x h = fails (P.operand grammar) _ s x h

postfix_fails : (s : Rest) (x : ReadRefused) → P.operand grammar s ≡ Err x → E.postfix grammar s ≡ Err x
unfolding E.postfix
postfix_fails s x h = fails (P.left_hand_side grammar) _ s x (left_fails s x h)

unary_fails : (s : Rest) (x : ReadRefused) → of_first Operators.unary_operator s.tokens ≡ None → of_first Operators.prefix_step s.tokens ≡ None → P.operand grammar s ≡ Err x → E.unary grammar s ≡ Err x
unfolding E.unary
unary_fails s x u p h = next_none Operators.unary_operator _ _ s u ∙ next_none Operators.prefix_step _ _ s p ∙ postfix_fails s x h

or_fails : (s : Rest) (x : ReadRefused) → E.unary grammar s ≡ Err x → E.logical_or grammar true s ≡ Err x
or_fails s x h = climbs.begins true s ∙ fails (E.unary grammar) _ s x h

conditional_fails : (s : Rest) (x : ReadRefused) → E.unary grammar s ≡ Err x → E.conditional grammar true s ≡ Err x
unfolding E.conditional
conditional_fails s x h = fails (E.logical_or grammar true) _ s x (or_fails s x h)

assignment_fails : (s : Rest) (x : ReadRefused) → E.unary grammar s ≡ Err x → E.assignment grammar true s ≡ Err x
unfolding E.assignment
assignment_fails s x h = fails (E.conditional grammar true) _ s x (conditional_fails s x h)

whole_fails : (s : Rest) (x : ReadRefused) → of_first Operators.unary_operator s.tokens ≡ None → of_first Operators.prefix_step s.tokens ≡ None → P.operand grammar s ≡ Err x → whole s ≡ Err x
unfolding P.expression_by
whole_fails s x u p h = fails (E.assignment grammar true) _ s x (assignment_fails s x (unary_fails s x u p h))

-- what is left where reading succeeds
abbrev left_behind : Result (Expr × Rest) ReadRefused → Option ℕ
left_behind (Ok x) = Some (length x.1.tokens)
left_behind (Err f) = None

left_length : {all : World} (w : Frame all) (c : Spot) (zs : List Shape) → length (rest_of w c zs).tokens ≡ length zs
left_length w c zs = by c.supply zs
  where
    by : (supply : Supply) (zs : List Shape) → length (placed supply zs) ≡ length zs
    by supply [] = refl
    by supply (z ∷ zs) = ap suc (by (λ i. supply (suc i)) zs)

-- where reading succeeds, so many tokens are left
record Halts (r : Result (Expr × Rest) ReadRefused) (n : ℕ) : Type 0 where
  no_other : (m : ℕ) → left_behind r ≡ Some m → m ≡ n

halts_fault : (r : Result (Expr × Rest) ReadRefused) (n : ℕ) (x : ReadRefused) → r ≡ Err x → Halts r n
halts_fault r n x e = record { no_other = λ m is. absurd (none m (sym (ap left_behind e) ∙ is)) }
  where
    none : (m : ℕ) → None ≡ Some m → ⊥
    none m e = cc

module _ {all : World} (w : Frame all) (c : Spot) (line second : Bool) (zs : List Shape) (text : List ℕ) (some : 1 ≤ all.high) where
  abbrev colon_shape : Shape
  colon_shape = shape (form_of (codes ":")) second

  abbrev before_colon : Rest
  before_colon = rest_of w c (shape (form.Name text) line ∷ (colon_shape ∷ zs))

  no_input : Marks.is_abstract text ≡ true → Halts (whole before_colon) (suc (length zs))
  unfolding form_of reserved_word next P.abstract_behind
  no_input e = halts_fault _ _ _ (whole_fails before_colon (Unsupported (c.supply 0).0 feature.AbstractForm) refl refl (rw e refl))

  no_call : Marks.is_abstract text ≡ false → Marks.is_residual text ≡ true → Halts (whole before_colon) (suc (length zs))
  unfolding form_of reserved_word next P.residual_behind
  no_call a e = halts_fault _ _ _ (whole_fails before_colon (Unsupported (c.supply 0).0 feature.ResidualForm) refl refl (rw (a, e) refl))

  no_barred : Marks.is_abstract text ≡ false → Marks.is_residual text ≡ false → (o : _) → Marks.barred text ≡ Some o → Halts (whole before_colon) (suc (length zs))
  unfolding next
  no_barred a e o b = halts_fault _ _ _ (whole_fails before_colon (Unsupported (c.supply 0).0 o) refl refl (rw (a, e, b) refl))

  plain_halts : IsPlain text → (nz : Numbers) → w.opened ≤ w.limit → Ready w c.functions nz → Halts (whole before_colon) (suc (length zs))
  plain_halts plain nz room ready =
      let h = (name_whole some text plain).at w c line (colon_shape ∷ zs) nz ready (omega (arith, colon_joins true)) in
      let is : whole before_colon ≡ Ok (h.value, rest_of w h.spot (colon_shape ∷ zs)) = ap (λ t. whole (rest_of w c (shape t line ∷ (colon_shape ∷ zs)))) (sym (identifier_form text plain.no_word)) ∙ h.done (omega (arith, room)) in
      record { no_other = λ m e. some_is m (suc (length zs)) (sym e ∙ ap left_behind is ∙ ap Some (left_length w h.spot (colon_shape ∷ zs))) }
    where
      some_is : (m n : ℕ) → Some m ≡ Some n → m ≡ n
      some_is m n e = cc

  -- whatever the name is
  halts : reserved_word text ≡ None → (nz : Numbers) → w.opened ≤ w.limit → Ready w c.functions nz → Halts (whole before_colon) (suc (length zs))
  halts no_word nz room ready = by (Marks.is_abstract text) refl (Marks.is_residual text) refl (Marks.barred text) refl
    where
      by : (a : Bool) → Marks.is_abstract text ≡ a → (b : Bool) → Marks.is_residual text ≡ b → (o : _) → Marks.barred text ≡ o → Halts (whole before_colon) (suc (length zs))
      by true a b br o bo = no_input a
      by false a true br o bo = no_call a br
      by false a false br (Some o) bo = no_barred a br o bo
      by false a false br None bo = plain_halts (record { no_word = no_word; no_input = a; no_call = br; no_bar = bo }) nz room ready

-- ---- 12.4

semicolon_no_colon : Marks.colon (form_of (codes ";")) ≡ None
unfolding form_of reserved_word
semicolon_no_colon = refl

module _ {all : World} {bound : ℕ} {look : Look} {ps : List Piece} {numbers : Numbers} {e : Expr} (p : Part all bound look true ps numbers e) (w : Frame all) (c : Spot) (line : Bool) (rest : List Shape) (nz : Numbers)
    (ready : Ready w c.functions (numbers ++ nz)) where
  lead : Leads (w.opened + bound) w nz (IsExpr e) c (tokens_from line ps ++ (semicolon ∷ rest)) (semicolon ∷ rest) whole give
  lead = (closed_of p.commas).at w c line (semicolon ∷ rest) nz ready (omega (arith, semicolon_joins true))

  -- no colon stands behind a name at the front
  no_label : 1 ≤ all.high → w.opened + bound ≤ w.limit → (text : List ℕ) (more : List Shape) → tokens_from line ps ≡ shape (form.Name text) line ∷ more → first_of_shapes Marks.colon (more ++ (semicolon ∷ rest)) ≡ None
  no_label some room text [] is = semicolon_no_colon
  no_label some room text (s ∷ ss) is = by (Marks.colon s.form) refl
    where
      no_word : reserved_word text ≡ None
      no_word = no_reserved line ps text (ap first_form is)

      too_far : s.form ≡ form_of (codes ":") → ⊥
      too_far f =
          let zs = ss ++ (semicolon ∷ rest) in
          let fronts : tokens_from line ps ++ (semicolon ∷ rest) ≡ shape (form.Name text) line ∷ (shape (form_of (codes ":")) s.line_before ∷ zs) = ap (λ ys. ys ++ (semicolon ∷ rest)) is ∙ ap (λ t. shape (form.Name text) line ∷ (shape t s.line_before ∷ zs)) f in
          let left = ap left_behind (sym (ap (λ ys. whole (rest_of w c ys)) fronts) ∙ lead.done room) ∙ ap Some (left_length w lead.spot (semicolon ∷ rest)) in
          let same : suc (length rest) ≡ suc (length zs) = (halts w c line s.line_before zs text some no_word (numbers ++ nz) (omega (arith, room)) ready).no_other _ left in
          let longer : length zs ≡ length ss + suc (length rest) = length-append ss (semicolon ∷ rest) in
          omega (arith, same, longer)

      by : (o : Option (Unit {0})) → Marks.colon s.form ≡ o → Marks.colon s.form ≡ None
      by None f = f
      by (Some u) f = absurd (too_far (colon_form s.form f))

-- no statement that begins with a token of its own, and no label
expression_is : {all : World} (w : Frame all) (c : Spot) (t : TokenForm) (line : Bool) (more : List Shape) → S.beginning t ≡ None → ((text : List ℕ) → t ≡ form.Name text → first_of_shapes Marks.colon more ≡ None)
    → S.statement grammar (rest_of w c (shape t line ∷ more)) ≡ S.expression_statement grammar (rest_of w c (shape t line ∷ more))
unfolding S.statement S.expression_here
expression_is w c t line more none no_colon = next_none S.beginning _ _ (rest_of w c (shape t line ∷ more)) none ∙ by t no_colon
  where
    by : (t : TokenForm) → ((text : List ℕ) → t ≡ form.Name text → first_of_shapes Marks.colon more ≡ None) → S.expression_here grammar (rest_of w c (shape t line ∷ more)) ≡ S.expression_statement grammar (rest_of w c (shape t line ∷ more))
    by (form.Name text) h = rw (first_is w Marks.colon (after c (shape (form.Name text) line)) more, h text refl) refl
    by (form.Punctuator m) h = refl
    by (form.Reserved k) h = refl
    by (form.Number n) h = refl
    by (form.Str u) h = refl

-- ---- the token that an expression statement begins with

no_beginning : (t : TokenForm) → begins_statement t ≡ false → begins_other t ≡ false → S.beginning t ≡ None
unfolding begins_statement begins_other
no_beginning t a b = by (is_some (Marks.left_brace t)) (is_some (Marks.function_word t)) (is_some (Marks.string t)) (S.beginning t) a b
  where
    by : (x y z : Bool) (o : Option S.Beginning) → cond (x || y) false (is_some o) ≡ false → (x || y || z) ≡ false → o ≡ None
    by true y z o a b = absurd (cc)
    by false true z o a b = absurd (cc)
    by false false z None a b = refl
    by false false z (Some o) a b = absurd (cc)

no_list_end : (t : TokenForm) → begins_none t ≡ false → begins_other t ≡ false → ends_list t ≡ false
unfolding begins_other
no_list_end t a b =
    let n = begins t a in
    rw (n.right_brace, n.case_word, n.default_word, n.else_word, n.finally_word) (no_more _ (by (is_some (Marks.left_brace t)) (is_some (Marks.function_word t)) (is_some (Marks.string t)) b))
  where
    no_more : (z : Bool) → z ≡ false → (z || false) ≡ false
    no_more true e = absurd (cc)
    no_more false e = refl

    by : (x y z : Bool) → (x || y || z) ≡ false → z ≡ false
    by true y z b = absurd (cc)
    by false true z b = absurd (cc)
    by false false z b = b

module _ {all : World} {be : ℕ} {pe : List Piece} {ne : Numbers} {e : Expr} (at : Place) (form : StmtForm) (low : LowStmt all (record { at = at; form = form })) where
  pub eval_part : out-StmtForm form ≡ StmtForm-F.Eval e → Fit all be 0 false true pe ne e → StmtPart all be false (pe ++ closing (codes ";")) ne (record { at = at; form = form })
  eval_part is f =
      let some : 1 ≤ all.high = omega (arith, low.within, stmt_height_is all.tall (record { at = at; form = form })) in
      let first = f.part.first in
      record {
        flows = flows_last pe (closing (codes ";")) (flows_token (codes ";") true _);
        first = record {
          form = first.form;
          more = first.more ++ (semicolon ∷ []);
          is = λ line. f.part.flows.at line (closing (codes ";")) ∙ ap (λ zs. zs ++ (semicolon ∷ [])) (first.is line);
          begins = no_list_end first.form first.begins (first.plain (f.plain refl));
        };
        reads = record {
          at = λ w c line rest nz ready fits.
              exactly (let opened = ap (λ zs. zs ++ (semicolon ∷ rest)) (first.is line) in
              on (spread pe (closing (codes ";")) f.part.flows line rest)
              (from {d = c} {other = tokens_from line pe ++ (semicolon ∷ rest)} {n = S.expression_statement grammar}
              (ap (λ zs. S.statement grammar (rest_of w c zs)) opened
              ∙ expression_is w c first.form line (first.more ++ (semicolon ∷ rest)) (no_beginning first.form first.no_statement (first.plain (f.plain refl)))
              (λ text named. no_label f.part (with_limit (w.opened + be) w) c line rest nz (ready_with (w.opened + be) c.functions (ne ++ nz) ready) some (omega arith) text first.more (first.is line ∙ ap (λ t. shape t line ∷ first.more) named))
              ∙ ap (λ zs. S.expression_statement grammar (rest_of w c zs)) (sym opened))
              (bind (lead f.part w c line rest nz ready) (λ x d isx readyx.
              ended {c = d} continues_expression (λ _. finish_stmt x.at (s.Eval x))
              (finishes_stmt x.at (s.Eval x) low (same_stmts x.at at (s.Eval x) form _ _ (s.outs-Eval x) is (ap (λ v. StmtForm-F.Eval v) isx.same)) readyx))))) (omega arith);
        };
      }
