-- Inputs and host calls, the two forms of this project's own.
use Rattle.std.proofs.Common.{◌≡◌, ℕ, ◌+◌, Bool, true, false, cond, List, [], ◌∷◌, ◌++◌, map, refl, ap, sym, ◌∙◌, subst, arith, append_assoc, append-nil, suc}
use Rattle.std.specs.Prelude.{codes, Option, Some}
use Rattle.js_value.specs.declared.place.Place.{Place}
use Rattle.js_value.specs.declared.primitive.Kind.{Kind}
use Rattle.js_value.specs.declared.primitive.Kind.TheVariants as kind
use Rattle.js_tree.specs.Lexing.{reserved_word}
use Rattle.js_tree.specs.declared.expression.Expr.{Expr}
use Rattle.js_tree.specs.declared.expression.ExprForm.{ExprForm, out-ExprForm}
use Rattle.js_tree.specs.declared.expression.ExprForm.TheOpen.{ExprForm-F}
use Rattle.js_tree.specs.declared.expression.ExprForm.TheVariants as e
use Rattle.js_tree.specs.declared.refusal.Feature.{Feature}
use Rattle.js_tree.specs.declared.refusal.Feature.TheVariants as feature
use Rattle.js_tree.specs.declared.token.TokenForm.{TokenForm}
use Rattle.js_tree.specs.declared.token.TokenForm.TheVariants as form
use Rattle.js_grammar.specs.FunctionOrder.{Numbers}
use Rattle.js_grammar.specs.Marks
use Rattle.js_grammar.specs.Primary as P
use Rattle.js_grammar.specs.Reading.{grammar}
use Rattle.js_grammar.specs.Rest.{Reading, behind, ◌>>=◌, give, next, repeat, unsupported}
use Rattle.js_grammar.proofs.Laws.{repeated}
use Rattle.script_text.specs.Expressions.{value, input, host_call, two_literals, kind_text}
use Rattle.script_text.specs.Pieces.{Piece, word, closing, inner, behind_commas}
use Rattle.script_text.specs.Tokens.{Shape, shape, form_of, tokens_from}
use Rattle.reading_back.proofs.Claims.{Low, World, Frame, Spot, rest_of, deeper, Leads, Ready, Read, anything, below, Flows, First, IsExpr, Part}
use Rattle.reading_back.proofs.Marks.{begins_none, begins_unary, begins_statement, begins_other}
use Rattle.reading_back.specs.Unplaced as unplaced
use Rattle.reading_back.proofs.Calls.{Arg, AreExprs, are_more, bounds, printed_all, numbers_all, trees}
use Rattle.reading_back.proofs.Flowing.{flows_last, flows_token, spread}
use Rattle.reading_back.proofs.Ladder.{from_operand}
use Rattle.reading_back.proofs.LooseOperators.{assignment_reads, comma_is, comma_joins}
use Rattle.reading_back.proofs.Groups.{right_parenthesis_joins, right_parenthesis_is}
use Rattle.reading_back.proofs.Members.{parenthesis_mark}
use Rattle.reading_back.proofs.Same.{same_layers}
use Rattle.reading_back.proofs.Steps.{exactly, after, from, on, become, stays, bind, parted, opens, finishes, next_some}
use Rattle.reading_back.proofs.TwoOperands.{ready_behind}
use Rattle.reading_back.proofs.Words.{word_look}

-- what stands in such a form
shaped : {all : World} {w : Frame all} {A B C : Type 0} {nb : Numbers} {Is : C → Type 0} {c : Spot} {s : Shape} {front rest : List Shape} (at : Place) (what : Feature) (want : TokenForm → Option A) (a : A) (f : A → Reading B) {k : C → Reading B} {l : ℕ}
    → want s.form ≡ Some a → Leads l w nb Is (after c s) front rest (f a) k → Leads l w nb Is c (s ∷ front) rest (P.in_shape at what want >>= f) k
shaped {w = w} {c = c} {s = s} {front = front} at what want a f e h = from (ap (λ r. behind r f) (next_some want a give (unsupported at what) (rest_of w c (s ∷ front)) e)) h

kind_is : (k : Kind) → Marks.kind_string (form_of (kind_text k)) ≡ Some k
unfolding form_of reserved_word
kind_is kind.Number = refl
kind_is kind.Boolean = refl
kind_is kind.Text = refl

-- ---- inputs

abbrev after_name : Kind → List ℕ → List Shape → List Shape
after_name k text more =
    shape (form_of (codes "(")) false ∷ shape (form_of (kind_text k)) false ∷ shape (form_of (codes ",")) false ∷ shape (form.Str text) false ∷ more

input_starts : {all : World} (w : Frame all) (c : Spot) (line : Bool) (zs : List Shape)
    → P.operand grammar (rest_of w c (shape (form_of (codes "__abstract")) line ∷ zs)) ≡ P.abstract_behind (c.supply 0).0 (rest_of w (after c (shape (form_of (codes "__abstract")) line)) zs)
unfolding form_of reserved_word next
input_starts w c line zs = refl

input_first : (k : Kind) (text : List ℕ) → First (word_look false) (input k text)
unfolding form_of reserved_word begins_none begins_unary begins_statement begins_other two_literals
input_first k text = record {
  form = form_of (codes "__abstract");
  more = after_name k text (shape (form_of (codes ")")) false ∷ []);
  is = λ line. refl;
  begins = refl;
  no_statement = refl;
  no_sign = λ l. refl;
  plain = λ s. refl;
}

module _ {all : World} (at : Place) (form : ExprForm) (low : Low all (record { at = at; form = form })) (k : Kind) (text : List ℕ) where
  input_reads : out-ExprForm form ≡ ExprForm-F.Input k text → Read all 1 (input k text) [] (IsExpr (record { at = at; form = form })) anything (P.operand grammar) give
  unfolding P.abstract_behind two_literals
  input_reads is = record {
    at = λ w c line rest nz ready fits.
        exactly (let p = (c.supply 0).0 in
        let d = after c (shape (form_of (codes "__abstract")) line) in
        from {d = d} (input_starts w c line (after_name k text (shape (form_of (codes ")")) false ∷ rest)))
        (shaped p feature.AbstractForm Marks.left_parenthesis tt _ parenthesis_mark.parenthesis_is
        (parted refl
        (shaped p feature.AbstractForm Marks.kind_string k _ (kind_is k)
        (shaped p feature.AbstractForm Marks.comma tt _ comma_is
        (shaped p feature.AbstractForm Marks.string text _ refl
        (shaped p feature.AbstractForm Marks.right_parenthesis tt _ right_parenthesis_is
        (finishes p (e.Input k text) low (same_layers p at (e.Input k text) form _ _ (e.outs-Input k text) is refl) (opens c.functions nz ready))))))))) (omega arith);
  }

  pub input_part : {allows_in : Bool} → out-ExprForm form ≡ ExprForm-F.Input k text → Part all 1 (word_look false) allows_in (input k text) [] (record { at = at; form = form })
  input_part is = from_operand (flows_last ((word (codes "__abstract") ++ inner (codes "(")) ++ two_literals k text) (closing (codes ")")) (flows_token (codes ")") true _))
      (input_first k text) 1 (omega arith) (input_reads is)

-- ---- host calls

comma_follows : P.comma_or_end (form_of (codes ",")) ≡ Some true
unfolding form_of reserved_word
comma_follows = refl

end_follows : P.comma_or_end (form_of (codes ")")) ≡ Some false
unfolding form_of reserved_word
end_follows = refl

call_starts : {all : World} (w : Frame all) (c : Spot) (line : Bool) (zs : List Shape)
    → P.operand grammar (rest_of w c (shape (form_of (codes "__residual")) line ∷ zs)) ≡ P.residual_behind grammar (c.supply 0).0 (rest_of w (after c (shape (form_of (codes "__residual")) line)) zs)
unfolding form_of reserved_word next
call_starts w c line zs = refl

module _ {all : World} where
  abbrev tail : List (Arg all) → List Piece
  tail xs = behind_commas value (printed_all xs) ++ closing (codes ")")

  first_is_end : (xs : List (Arg all)) (rest : List Shape) → (s : Shape) × (more : List Shape) × (tokens_from false (tail xs) ++ rest ≡ s ∷ more) × (below true 2 (s ∷ more))
  first_is_end [] rest = (shape (form_of (codes ")")) false, rest, refl, omega (arith, right_parenthesis_joins true))
  first_is_end (y ∷ xs) rest = (shape (form_of (codes ",")) false, tokens_from false ((value y.printed ++ behind_commas value (printed_all xs)) ++ closing (codes ")")) ++ rest, refl, omega (arith, comma_joins true))

abbrev goes_on : Place → List Expr → Bool → Reading (List Expr)
goes_on p so_far follows = cond follows (grammar.assignment true >>= λ x. repeat (P.more_host_arguments grammar p) (so_far ++ (x ∷ []))) (give so_far)

module _ {all : World} (p : Place) where
  lead : (xs : List (Arg all)) (model so_far : List Expr) (w : Frame all) (c : Spot) (rest : List Shape) (nz : Numbers) → AreExprs model so_far
      → Ready w c.functions (numbers_all xs ++ nz) → Leads (w.opened + bounds xs) w nz (AreExprs (model ++ trees xs)) c (tokens_from false (tail xs) ++ rest) rest (repeat (P.more_host_arguments grammar p) so_far) give
  lead [] model so_far w c rest nz same ready =
      exactly (from (repeated.host_arguments p so_far (rest_of w c (tokens_from false (tail {all = all} []) ++ rest)))
      (shaped {c = c} {s = shape (form_of (codes ")")) false} p feature.ResidualForm P.comma_or_end false (goes_on p so_far) end_follows
      (become {Is = AreExprs model} (λ b h. record { same = h.same ∙ ap (map unplaced.expr) (sym (append-nil model)) }) (stays so_far give same ready)))) (omega arith)
  lead (x ∷ xs) model so_far w c rest nz same ready =
      exactly (let f = first_is_end xs rest in
      let there : tokens_from false ((value x.printed ++ behind_commas value (printed_all xs)) ++ closing (codes ")")) ++ rest ≡ tokens_from false (value x.printed) ++ (f.0 ∷ f.1) =
      ap (λ ps. tokens_from false ps ++ rest) (append_assoc (value x.printed) (behind_commas value (printed_all xs)) (closing (codes ")")))
      ∙ spread (value x.printed) (tail xs) x.fit.part.flows false rest ∙ ap (λ zs. tokens_from false (value x.printed) ++ zs) f.2 in
      let s : Shape = shape (form_of (codes ",")) false in
      from (repeated.host_arguments p so_far (rest_of w c (tokens_from false (tail (x ∷ xs)) ++ rest)))
      (shaped {c = c} {s = s} p feature.ResidualForm P.comma_or_end true (goes_on p so_far) comma_follows
      (on there
      (bind ((assignment_reads x.fit).at w (after c s) false (f.0 ∷ f.1) (numbers_all xs ++ nz) (ready_behind c.functions x.numbers (numbers_all xs) nz ready) f.3) (λ y d is done.
      on (sym f.2)
      (become (λ b h. subst (λ es. AreExprs es b) (append_assoc model (x.tree ∷ []) (trees xs)) h)
      (lead xs (model ++ (x.tree ∷ [])) (so_far ++ (y ∷ [])) w d rest nz (are_more model so_far x.tree y same is) done))))))) (omega arith)

call_first : (k : Kind) (text : List ℕ) (args : List Piece) → First (word_look false) (host_call k text args)
unfolding form_of reserved_word begins_none begins_unary begins_statement begins_other two_literals host_call
call_first k text args = record {
  form = form_of (codes "__residual");
  more = after_name k text (tokens_from false (args ++ closing (codes ")")));
  is = λ line. refl;
  begins = refl;
  no_statement = refl;
  no_sign = λ l. refl;
  plain = λ s. refl;
}

call_flows : (k : Kind) (text : List ℕ) (args : List Piece) → Flows (host_call k text args)
unfolding host_call two_literals
call_flows k text args = flows_last (((word (codes "__residual") ++ inner (codes "(")) ++ two_literals k text) ++ args) (closing (codes ")")) (flows_token (codes ")") true _)

module _ {all : World} (at : Place) (form : ExprForm) (low : Low all (record { at = at; form = form })) (k : Kind) (text : List ℕ) (xs : List (Arg all)) where
  call_reads : out-ExprForm form ≡ ExprForm-F.HostCall k text (trees xs)
      → Read all (suc (bounds xs)) (host_call k text (behind_commas value (printed_all xs))) (numbers_all xs) (IsExpr (record { at = at; form = form })) anything (P.operand grammar) give
  unfolding P.residual_behind two_literals host_call
  call_reads is = record {
    at = λ w c line rest nz ready fits.
        exactly (let p = (c.supply 0).0 in
        let d = after c (shape (form_of (codes "__residual")) line) in
        from {d = d} (call_starts w c line (after_name k text (tokens_from false (tail xs) ++ rest)))
        (shaped p feature.ResidualForm Marks.left_parenthesis tt _ parenthesis_mark.parenthesis_is
        (parted refl
        (shaped p feature.ResidualForm Marks.kind_string k _ (kind_is k)
        (shaped p feature.ResidualForm Marks.comma tt _ comma_is
        (shaped p feature.ResidualForm Marks.string text _ refl
        (bind (lead p xs [] [] (deeper w) _ rest nz (record { same = refl }) (opens c.functions (numbers_all xs ++ nz) ready)) (λ ys g are done.
        finishes p (e.HostCall k text ys) low (same_layers p at (e.HostCall k text ys) form _ _ (e.outs-HostCall k text ys) is (ap (λ zs. ExprForm-F.HostCall k text zs) are.same)) done)))))))) (omega arith);
  }

  pub host_call_part : {allows_in : Bool} → out-ExprForm form ≡ ExprForm-F.HostCall k text (trees xs)
      → Part all (suc (bounds xs)) (word_look false) allows_in (host_call k text (behind_commas value (printed_all xs))) (numbers_all xs) (record { at = at; form = form })
  host_call_part is = from_operand (call_flows k text (behind_commas value (printed_all xs))) (call_first k text (behind_commas value (printed_all xs))) (suc (bounds xs)) (omega arith) (call_reads is)
