-- Statements and function declarations as elements of a script or body (14).
use Rattle.std.proofs.Common.{◌≡◌, Bool, true, false, List, [], ◌∷◌, ◌++◌, refl, ap, sym, ◌∙◌, ℕ, ◌≤◌, arith, ◌+◌}
use Rattle.std.specs.Prelude.{codes, slice_get, Option, Some, None, Ok, Err}
use Rattle.js_value.specs.declared.place.FuncNo.{FuncNo}
use Rattle.js_value.specs.declared.place.Place.{Place}
use Rattle.js_tree.specs.Lexing.{reserved_word}
use Rattle.js_tree.specs.declared.refusal.Feature.TheVariants as feature
use Rattle.js_tree.specs.declared.refusal.ReadRefused.{ReadRefused}
use Rattle.js_tree.specs.declared.refusal.ReadRefused.TheVariants.{Unsupported}
use Rattle.js_tree.specs.declared.statement.Stmt.{Stmt}
use Rattle.js_tree.specs.declared.statement.StmtForm.{StmtForm, out-StmtForm}
use Rattle.js_tree.specs.declared.statement.StmtForm.TheOpen.{StmtForm-F}
use Rattle.js_tree.specs.declared.statement.StmtForm.TheVariants as s
use Rattle.js_tree.specs.declared.token.Keyword.TheVariants as keyword
use Rattle.js_tree.specs.declared.token.TokenForm.{TokenForm}
use Rattle.js_tree.specs.declared.token.TokenForm.TheVariants as form
use Rattle.js_grammar.specs.FunctionOrder.{Numbers}
use Rattle.js_grammar.specs.Functions as F
use Rattle.js_grammar.specs.Marks
use Rattle.js_grammar.specs.Readable.{has_name}
use Rattle.js_grammar.specs.Reading.{grammar}
use Rattle.js_grammar.specs.Rest.{Rest, ◌>>=◌, finish_stmt}
use Rattle.js_grammar.specs.Statements as S
use Rattle.script_text.specs.Pieces.{Piece, word}
use Rattle.script_text.specs.Tokens.{Shape, shape, form_of, tokens_from}
use Rattle.reading_back.proofs.Claims.{World, Frame, Spot, rest_of, FunctionsRead}
use Rattle.reading_back.proofs.StatementClaims.{LowStmt, ends_list, StmtPart, ElementPart}
use Rattle.reading_back.proofs.Flowing.{flows_token}
use Rattle.reading_back.proofs.StatementSteps.{same_stmts, token_first, finishes_stmt}
use Rattle.script_nesting.specs.Height as height
use Rattle.script_nesting.proofs.Equations.{stmt_heights, stmt_height_is}
use Rattle.reading_back.proofs.Steps.{exactly, with_limit, ready_with, from, bind, next_some}

-- ---- a statement that reads is no function declaration

function_begins : (t : TokenForm) → Marks.function_word t ≡ Some tt → S.beginning t ≡ Some S.Function
function_begins (form.Reserved keyword.Break) e = absurd (cc)
function_begins (form.Reserved keyword.Case) e = absurd (cc)
function_begins (form.Reserved keyword.Catch) e = absurd (cc)
function_begins (form.Reserved keyword.Continue) e = absurd (cc)
function_begins (form.Reserved keyword.Debugger) e = absurd (cc)
function_begins (form.Reserved keyword.Default) e = absurd (cc)
function_begins (form.Reserved keyword.Delete) e = absurd (cc)
function_begins (form.Reserved keyword.Do) e = absurd (cc)
function_begins (form.Reserved keyword.Else) e = absurd (cc)
function_begins (form.Reserved keyword.Finally) e = absurd (cc)
function_begins (form.Reserved keyword.For) e = absurd (cc)
function_begins (form.Reserved keyword.Function) e = refl
function_begins (form.Reserved keyword.If) e = absurd (cc)
function_begins (form.Reserved keyword.In) e = absurd (cc)
function_begins (form.Reserved keyword.InstanceOf) e = absurd (cc)
function_begins (form.Reserved keyword.New) e = absurd (cc)
function_begins (form.Reserved keyword.Return) e = absurd (cc)
function_begins (form.Reserved keyword.Switch) e = absurd (cc)
function_begins (form.Reserved keyword.This) e = absurd (cc)
function_begins (form.Reserved keyword.Throw) e = absurd (cc)
function_begins (form.Reserved keyword.Try) e = absurd (cc)
function_begins (form.Reserved keyword.TypeOf) e = absurd (cc)
function_begins (form.Reserved keyword.Var) e = absurd (cc)
function_begins (form.Reserved keyword.Void) e = absurd (cc)
function_begins (form.Reserved keyword.While) e = absurd (cc)
function_begins (form.Reserved keyword.With) e = absurd (cc)
function_begins (form.Reserved keyword.Class) e = absurd (cc)
function_begins (form.Reserved keyword.Const) e = absurd (cc)
function_begins (form.Reserved keyword.Enum) e = absurd (cc)
function_begins (form.Reserved keyword.Export) e = absurd (cc)
function_begins (form.Reserved keyword.Extends) e = absurd (cc)
function_begins (form.Reserved keyword.Import) e = absurd (cc)
function_begins (form.Reserved keyword.Super) e = absurd (cc)
function_begins (form.Reserved keyword.Null) e = absurd (cc)
function_begins (form.Reserved keyword.True) e = absurd (cc)
function_begins (form.Reserved keyword.False) e = absurd (cc)
function_begins (form.Punctuator m) e = absurd (cc)
function_begins (form.Name text) e = absurd (cc)
function_begins (form.Number n) e = absurd (cc)
function_begins (form.Str text) e = absurd (cc)

no_function : {all : World} (w : Frame all) (c : Spot) (t : TokenForm) (line : Bool) (zs : List Shape) → Marks.function_word t ≡ Some tt
    → S.statement grammar (rest_of w c (shape t line ∷ zs)) ≡ Err (Unsupported (c.supply 0).0 feature.FunctionInBlock)
unfolding S.statement
no_function w c t line zs e = next_some S.beginning S.Function (λ b. S.begun grammar (c.supply 0).0 b) (S.expression_here grammar) (rest_of w c (shape t line ∷ zs)) (function_begins t e)

element_none : {all : World} (w : Frame all) (c : Spot) (t : TokenForm) (line : Bool) (zs : List Shape) → Marks.function_word t ≡ None
    → S.element grammar (rest_of w c (shape t line ∷ zs)) ≡ S.statement grammar (rest_of w c (shape t line ∷ zs))
unfolding S.element
element_none w c t line zs e = rw e refl

no_function_first : {all : World} (w : Frame all) (c : Spot) (t : TokenForm) (line : Bool) (zs : List Shape) (x : Stmt × Rest) → S.statement grammar (rest_of w c (shape t line ∷ zs)) ≡ Ok x → Marks.function_word t ≡ None
no_function_first w c t line zs x done = by (Marks.function_word t) refl
  where
    two : (e : ReadRefused) → Err e ≡ Ok x → ⊥
    two e h = cc

    by : (o : Option (Unit {0})) → Marks.function_word t ≡ o → Marks.function_word t ≡ None
    by None e = e
    by (Some tt) e = absurd (two _ (sym (no_function w c t line zs e) ∙ done))

pub element_of : {all : World} {bound : ℕ} {ends : Bool} {pieces : List Piece} {numbers : Numbers} {t : Stmt} → StmtPart all bound ends pieces numbers t → ElementPart all bound ends pieces numbers t
element_of {bound = bound} {pieces = pieces} {numbers = numbers} p = record {
  flows = p.flows;
  first = p.first;
  reads = record {
    at = λ w c line rest nz ready fits.
        let v = with_limit (w.opened + bound) w in
        let opened = ap (λ zs. zs ++ rest) (p.first.is line) in
        let none : Marks.function_word p.first.form ≡ None =
        no_function_first v c p.first.form line (p.first.more ++ rest) _ (ap (λ zs. S.statement grammar (rest_of v c zs)) (sym opened) ∙ (p.reads.at v c line rest nz (ready_with (w.opened + bound) c.functions (numbers ++ nz) ready) fits).done (omega arith)) in
        from {d = c} {other = tokens_from line pieces ++ rest} {n = S.statement grammar}
        (ap (λ zs. S.element grammar (rest_of w c zs)) opened
        ∙ element_none w c p.first.form line (p.first.more ++ rest) none
        ∙ ap (λ zs. S.statement grammar (rest_of w c zs)) (sym opened)) (p.reads.at w c line rest nz ready fits);
  };
}

-- ---- function declarations (13)

function_first : ends_list (form_of (codes "function")) ≡ false
unfolding form_of reserved_word
function_first = refl

declares : {all : World} (w : Frame all) (c : Spot) (line : Bool) (zs : List Shape)
    → S.element grammar (rest_of w c (shape (form_of (codes "function")) line ∷ zs))
    ≡ (F.function_declaration grammar (c.supply 0).0 >>= λ f. finish_stmt (c.supply 0).0 (s.FuncDecl f)) (rest_of w c (shape (form_of (codes "function")) line ∷ zs))
unfolding S.element form_of reserved_word
declares w c line zs = refl

module _ {all : World} {function : Bool → FuncNo → List Piece} {inside : FuncNo → ℕ} (reads : FunctionsRead all function inside) (at : Place) (form : StmtForm) (low : LowStmt all (record { at = at; form = form })) (f : FuncNo) where
  short : out-StmtForm form ≡ StmtForm-F.FuncDecl f → all.tall f ≤ all.high
  short is =
      let same : height.of_stmt_form all.tall (stmt_heights all.tall (out-StmtForm form)) ≡ all.tall f = ap (λ l. height.of_stmt_form all.tall (stmt_heights all.tall l)) is in
      omega (arith, low.within, stmt_height_is all.tall (record { at = at; form = form }), same)

  pub declaration_part : out-StmtForm form ≡ StmtForm-F.FuncDecl f → has_name (slice_get all.functions f.0) ≡ true
      → ElementPart all (inside f) false (word (codes "function") ++ function true f) (f.0 ∷ []) (record { at = at; form = form })
  declaration_part is named = record {
    flows = reads.ends true f (word (codes "function")) (flows_token (codes "function") false _);
    first = token_first (codes "function") false _ _ function_first;
    reads = record {
      at = λ w c line rest nz ready fits.
          exactly (let p = (c.supply 0).0 in
          from {d = c} (declares w c line (tokens_from false (function true f) ++ rest))
          (bind ((reads.declaration f p (short is) named).at w c line rest nz ready tt) (λ g d number done.
          finishes_stmt p (s.FuncDecl g) low (same_stmts p at (s.FuncDecl g) form _ _ (s.outs-FuncDecl g) is (ap (λ h. StmtForm-F.FuncDecl h) number.same)) done))) (omega arith);
    };
  }
