-- `for` and `for`-`in` (12.6.3, 12.6.4).
use Rattle.std.proofs.Common.{◌≡◌, ℕ, ◌+◌, Bool, true, false, cond, List, [], ◌∷◌, ◌++◌, refl, ap, sym, ◌∙◌, subst, arith, append_assoc, suc, max}
use Rattle.std.specs.Prelude.{codes, Option, Some, None, is_some}
use Rattle.std.specs.Option.{option_map}
use Rattle.js_value.specs.declared.place.Place.{Place}
use Rattle.js_tree.specs.Lexing.{reserved_word}
use Rattle.js_tree.specs.Refusals.{place}
use Rattle.js_tree.specs.declared.expression.Expr.{Expr}
use Rattle.js_tree.specs.declared.statement.ForStart.{ForStart}
use Rattle.js_tree.specs.declared.statement.ForStart.TheVariants as start
use Rattle.js_tree.specs.declared.statement.Name.{Name}
use Rattle.js_tree.specs.declared.statement.Stmt.{Stmt}
use Rattle.js_tree.specs.declared.statement.StmtForm.{StmtForm, out-StmtForm}
use Rattle.js_tree.specs.declared.statement.StmtForm.TheOpen.{StmtForm-F}
use Rattle.js_tree.specs.declared.statement.StmtForm.TheVariants as s
use Rattle.js_tree.specs.declared.token.Keyword.TheVariants as keyword
use Rattle.js_tree.specs.declared.token.TokenForm.{TokenForm}
use Rattle.js_tree.specs.declared.token.TokenForm.TheVariants as form
use Rattle.js_grammar.specs.FunctionOrder.{Numbers}
use Rattle.js_grammar.specs.Marks
use Rattle.js_grammar.specs.Primary as P
use Rattle.js_grammar.specs.Reading.{grammar}
use Rattle.js_grammar.specs.Rest.{Reading, ◌>>=◌, give, next, sees}
use Rattle.js_grammar.specs.Statements as S
use Rattle.script_text.specs.Pieces.{Piece, word, opening, closing, separated, behind_commas}
use Rattle.script_text.specs.Tokens.{Shape, shape, form_of, name_form, tokens_from}
use Rattle.reading_back.proofs.Claims.{World, Frame, Spot, rest_of, deeper, Leads, Ready, Read, Fit}
use Rattle.reading_back.proofs.Marks.{joins, begins_statement}
use Rattle.reading_back.proofs.StatementClaims.{LowStmt, IsStmt, ends_list, NoElse, StmtPart}
use Rattle.reading_back.specs.Unplaced as unplaced
use Rattle.reading_back.proofs.Flowing.{flows_last, spread}
use Rattle.reading_back.proofs.FunctionNames.{name_lead}
use Rattle.reading_back.proofs.Groups.{expression_reads, right_parenthesis_is, right_parenthesis_joins}
use Rattle.reading_back.proofs.Joining.{Begins, begins}
use Rattle.reading_back.proofs.Members.{parenthesis_mark}
use Rattle.reading_back.proofs.StatementHeads.{semicolon_joins}
use Rattle.reading_back.proofs.StatementSteps.{StmtLayer, same_stmts, semicolon, semicolon_is, left_parenthesis, right_parenthesis, begins_with, token_first, finishes_stmt, stmt_reads}
use Rattle.reading_back.proofs.StatementVars.{Init, semicolon_no_in, Decl, spread_behind, decl_pieces, decls_bound, decls_numbers, decls_trees, init_pieces, init_numbers, behind_decl, spread_init, stops, init_lead, is_declarator, declarators_lead}
use Rattle.reading_back.proofs.Steps.{exactly, raise, after, first_of_shapes, first_is, from, on, stays, bind, take, miss, expected, parted, opens}
use Rattle.reading_back.proofs.TwoOperands.{ready_behind}

-- ---- an expression that may be absent

pub record Opt (all : World) : Type 0 where
  pub starts : Bool
  pub pieces : List Piece
  pub numbers : Numbers
  pub tree : Expr
  pub bound : ℕ
  pub fit : Fit all bound 1 starts true pieces numbers tree

-- what reads as nothing or as an expression that is the same but for places
pub record IsMaybe (o v : Option Expr) : Type 0 where
  pub same : option_map unplaced.expr v ≡ option_map unplaced.expr o

module _ {all : World} where
  abbrev pub opt_bound : Option (Opt all) → ℕ
  opt_bound None = 0
  opt_bound (Some x) = x.bound

  abbrev pub opt_pieces : Option (Opt all) → List Piece
  opt_pieces None = []
  opt_pieces (Some x) = x.pieces

  abbrev pub opt_numbers : Option (Opt all) → Numbers
  opt_numbers None = []
  opt_numbers (Some x) = x.numbers

  abbrev pub opt_tree : Option (Opt all) → Option Expr
  opt_tree o = option_map (λ (x : Opt all). x.tree) o

  pub spread_opt : (o : Option (Opt all)) (more : List Piece) (rest : List Shape) → tokens_from false (opt_pieces o ++ more) ++ rest ≡ tokens_from false (opt_pieces o) ++ (tokens_from false more ++ rest)
  spread_opt None more rest = refl
  spread_opt (Some x) more rest = spread x.pieces more x.fit.part.flows false rest

  seen : {A : Type 0} (close : TokenForm → Option A) (w : Frame all) (c : Spot) (zs : List Shape) (o : Option A) (again : Bool → Reading (Option Expr)) → first_of_shapes close zs ≡ o
      → (sees close >>= again) (rest_of w c zs) ≡ again (is_some o) (rest_of w c zs)
  seen close w c zs o again e = ap (λ z. again (is_some z) (rest_of w c zs)) (first_is w close c zs ∙ e)

  opt_lead : (close : TokenForm → Option (Unit {0})) (z : Shape) → close z.form ≡ Some tt → joins true z.form ≡ 0 → ((t : TokenForm) → Begins t → close t ≡ None)
      → (o : Option (Opt all)) (w : Frame all) (c : Spot) (rest : List Shape) (nz : Numbers) → Ready w c.functions (opt_numbers o ++ nz)
      → Leads (w.opened + opt_bound o) w nz (IsMaybe (opt_tree o)) c (tokens_from false (opt_pieces o) ++ (z ∷ rest)) (z ∷ rest) (S.expression_unless grammar close) give
  opt_lead close z closes quiet others None w c rest nz ready =
      exactly (from {d = c} {n = give None} (seen close w c (z ∷ rest) (Some tt) (λ closed. cond closed (give None) (P.expression grammar >>= λ x. give (Some x))) closes) (stays {c = c} None give (record { same = refl }) ready)) (omega arith)
  opt_lead close z closes quiet others (Some x) w c rest nz ready =
      exactly (let f = x.fit.part.first in
      from {d = c} {n = P.expression grammar >>= λ y. give (Some y)}
      (seen close w c (tokens_from false x.pieces ++ (z ∷ rest)) None (λ closed. cond closed (give None) (P.expression grammar >>= λ x. give (Some x)))
      (ap (λ zs. first_of_shapes close (zs ++ (z ∷ rest))) (f.is false) ∙ others f.form (begins f.form f.begins)))
      (bind ((expression_reads x.fit.part).at w c false (z ∷ rest) nz ready (omega (arith, quiet))) (λ y d is done. stays {c = d} (Some y) give (record { same = ap Some is.same }) done))) (omega arith)

-- ---- headers

-- what makes a statement of its body
pub record IsHeader (mold : Stmt → StmtLayer) (whole : Stmt → StmtForm) : Type 0 where
  pub same : (body x : Stmt) → IsStmt body x → (at other : Place) (form : StmtForm) → out-StmtForm form ≡ mold body → IsStmt (record { at = at; form = form }) (record { at = other; form = whole x })

-- the tokens of a header and of the body behind it
module _ {all : World} (test step : Option (Opt all)) where
  abbrev pub rest_pieces : List Piece
  rest_pieces = (((closing (codes ";") ++ opt_pieces test) ++ closing (codes ";")) ++ opt_pieces step) ++ closing (codes ")")

  abbrev pub for_pieces : List Piece → List Piece
  for_pieces pf = ((word (codes "for") ++ opening (codes "(")) ++ pf) ++ rest_pieces

module _ {all : World} (pb : List Piece) (test step : Option (Opt all)) where
  -- behind the first semicolon
  abbrev rest_shapes : List Shape → List Shape
  rest_shapes rest = tokens_from false (opt_pieces test) ++ (semicolon ∷ (tokens_from false (opt_pieces step) ++ (right_parenthesis ∷ (tokens_from false pb ++ rest))))

  spread_rest : (rest : List Shape) → tokens_from false (rest_pieces test step ++ pb) ++ rest ≡ semicolon ∷ rest_shapes rest
  spread_rest rest =
      let pt = opt_pieces test in
      let ps = opt_pieces step in
      let cl = closing (codes ";") in
      let cp = closing (codes ")") in
      ap (λ zs. semicolon ∷ zs)
      (ap (λ xs. tokens_from false xs ++ rest) (append_assoc ((pt ++ cl) ++ ps) cp pb ∙ append_assoc (pt ++ cl) ps (cp ++ pb) ∙ append_assoc pt cl (ps ++ (cp ++ pb)))
      ∙ spread_opt test (cl ++ (ps ++ (cp ++ pb))) rest
      ∙ ap (λ zs. tokens_from false pt ++ (semicolon ∷ zs)) (spread_opt step (cp ++ pb) rest))

  spread_for : (pf : List Piece) → ((more : List Piece) (rest : List Shape) → tokens_from false (pf ++ more) ++ rest ≡ tokens_from false pf ++ (tokens_from false more ++ rest)) → (line : Bool) (rest : List Shape)
      → tokens_from line (for_pieces test step pf ++ pb) ++ rest ≡ shape (form_of (codes "for")) line ∷ (left_parenthesis ∷ (tokens_from false pf ++ (semicolon ∷ rest_shapes rest)))
  spread_for pf spreads line rest =
      ap (λ zs. shape (form_of (codes "for")) line ∷ (left_parenthesis ∷ zs))
      (ap (λ xs. tokens_from false xs ++ rest) (append_assoc pf (rest_pieces test step) pb) ∙ spreads (rest_pieces test step ++ pb) rest ∙ ap (λ zs. tokens_from false pf ++ zs) (spread_rest rest))

right_parenthesis_begins_none : (t : TokenForm) → Begins t → Marks.right_parenthesis t ≡ None
right_parenthesis_begins_none t b = b.right_parenthesis

module _ {all : World} (test step : Option (Opt all)) (f model : ForStart) (f_is : unplaced.for_start f ≡ unplaced.for_start model) where
  for_same : (t u : Option Expr) → IsMaybe (opt_tree test) t → IsMaybe (opt_tree step) u → IsHeader (λ body. StmtForm-F.For model (opt_tree test) (opt_tree step) body) (λ body. s.For f t u body)
  for_same t u ist isu = record {
    same = λ body x isx at other form is.
        same_stmts other at (s.For f t u x) form _ _ (s.outs-For f t u x) is
        (ap (λ v. StmtForm-F.For v (option_map unplaced.expr t) (option_map unplaced.expr u) (unplaced.stmt x)) f_is
        ∙ ap (λ v. StmtForm-F.For (unplaced.for_start model) v (option_map unplaced.expr u) (unplaced.stmt x)) ist.same
        ∙ ap (λ v. StmtForm-F.For (unplaced.for_start model) (option_map unplaced.expr (opt_tree test)) v (unplaced.stmt x)) isu.same
        ∙ ap (λ v. StmtForm-F.For (unplaced.for_start model) (option_map unplaced.expr (opt_tree test)) (option_map unplaced.expr (opt_tree step)) v) isx.same);
  }

  parts_lead : (w : Frame all) (c : Spot) (rest : List Shape) (nz : Numbers) → Ready w c.functions (opt_numbers test ++ (opt_numbers step ++ nz))
      → Leads (w.opened + max (opt_bound test) (opt_bound step)) w nz (IsHeader (λ body. StmtForm-F.For model (opt_tree test) (opt_tree step) body)) c (semicolon ∷ (tokens_from false (opt_pieces test) ++ (semicolon ∷ (tokens_from false (opt_pieces step) ++ (right_parenthesis ∷ rest))))) rest (S.for_parts grammar f) give
  unfolding S.for_parts
  parts_lead w c rest nz ready =
      exactly (expected {c = c} {s = semicolon} Marks.semicolon tt _ semicolon_is
      (bind (opt_lead Marks.semicolon semicolon semicolon_is (semicolon_joins true) (λ t b. b.semicolon) test w (after c semicolon) (tokens_from false (opt_pieces step) ++ (right_parenthesis ∷ rest)) (opt_numbers step ++ nz) ready) (λ t d ist readyt.
      expected {c = d} {s = semicolon} Marks.semicolon tt _ semicolon_is
      (bind (opt_lead Marks.right_parenthesis right_parenthesis right_parenthesis_is (right_parenthesis_joins true) right_parenthesis_begins_none step w (after d semicolon) rest nz readyt) (λ u g isu readyu.
      expected {c = g} {s = right_parenthesis} Marks.right_parenthesis tt _ right_parenthesis_is
      (stays {c = after g right_parenthesis} (λ body. s.For f t u body) give (for_same t u ist isu) readyu)))))) (omega arith)

-- ---- the first part (12.6.3)

semicolon_no_var : Marks.var_word (form_of (codes ";")) ≡ None
unfolding form_of reserved_word
semicolon_no_var = refl

pub var_is : Marks.var_word (form_of (codes "var")) ≡ Some tt
unfolding form_of reserved_word
var_is = refl

no_var : (t : TokenForm) → begins_statement t ≡ false → Marks.var_word t ≡ None
unfolding begins_statement
no_var (form.Reserved keyword.Break) e = refl
no_var (form.Reserved keyword.Case) e = refl
no_var (form.Reserved keyword.Catch) e = refl
no_var (form.Reserved keyword.Continue) e = refl
no_var (form.Reserved keyword.Debugger) e = refl
no_var (form.Reserved keyword.Default) e = refl
no_var (form.Reserved keyword.Delete) e = refl
no_var (form.Reserved keyword.Do) e = refl
no_var (form.Reserved keyword.Else) e = refl
no_var (form.Reserved keyword.Finally) e = refl
no_var (form.Reserved keyword.For) e = refl
no_var (form.Reserved keyword.Function) e = refl
no_var (form.Reserved keyword.If) e = refl
no_var (form.Reserved keyword.In) e = refl
no_var (form.Reserved keyword.InstanceOf) e = refl
no_var (form.Reserved keyword.New) e = refl
no_var (form.Reserved keyword.Return) e = refl
no_var (form.Reserved keyword.Switch) e = refl
no_var (form.Reserved keyword.This) e = refl
no_var (form.Reserved keyword.Throw) e = refl
no_var (form.Reserved keyword.Try) e = refl
no_var (form.Reserved keyword.TypeOf) e = refl
no_var (form.Reserved keyword.Var) e = absurd (cc)
no_var (form.Reserved keyword.Void) e = refl
no_var (form.Reserved keyword.While) e = refl
no_var (form.Reserved keyword.With) e = refl
no_var (form.Reserved keyword.Class) e = refl
no_var (form.Reserved keyword.Const) e = refl
no_var (form.Reserved keyword.Enum) e = refl
no_var (form.Reserved keyword.Export) e = refl
no_var (form.Reserved keyword.Extends) e = refl
no_var (form.Reserved keyword.Import) e = refl
no_var (form.Reserved keyword.Super) e = refl
no_var (form.Reserved keyword.Null) e = refl
no_var (form.Reserved keyword.True) e = refl
no_var (form.Reserved keyword.False) e = refl
no_var (form.Punctuator m) e = refl
no_var (form.Name text) e = refl
no_var (form.Number n) e = refl
no_var (form.Str text) e = refl

-- a first part up to its semicolon
pub record StartPart (all : World) (bound : ℕ) (pf : List Piece) (numbers : Numbers) (from : ForStart) : Type 0 where
  pub spreads : (more : List Piece) (rest : List Shape) → tokens_from false (pf ++ more) ++ rest ≡ tokens_from false pf ++ (tokens_from false more ++ rest)
  pub reads : (mold : Stmt → StmtLayer) (w : Frame all) (c : Spot) (zs rest : List Shape) (nz nr : Numbers) (l : ℕ) → Ready w c.functions (numbers ++ nz)
      → ((f : ForStart) (d : Spot) → unplaced.for_start f ≡ unplaced.for_start from → Ready w d.functions nz → Leads l w nr (IsHeader mold) d (semicolon ∷ zs) rest (S.for_parts grammar f) give)
      → Leads (max (w.opened + bound) l) w nr (IsHeader mold) c (tokens_from false pf ++ (semicolon ∷ zs)) rest (S.for_header grammar) give

abbrev pub behind_sees : Bool → Reading (Stmt → StmtForm)
behind_sees without = next Marks.var_word (λ _. S.for_var grammar) (cond without (S.for_parts grammar start.Nothing) (S.for_expression grammar))

pub header_is : {all : World} (w : Frame all) (c : Spot) (zs : List Shape) (o : Option (Unit {0})) → first_of_shapes Marks.semicolon zs ≡ o → S.for_header grammar (rest_of w c zs) ≡ behind_sees (is_some o) (rest_of w c zs)
header_is w c zs o e = ap (λ z. behind_sees (is_some z) (rest_of w c zs)) (first_is w Marks.semicolon c zs ∙ e)

pub nothing_part : {all : World} → StartPart all 0 [] [] start.Nothing
nothing_part = record {
  spreads = λ more rest. refl;
  reads = λ mold w c zs rest nz nr l ready go.
      exactly (raise (from {d = c} {n = behind_sees true} (header_is w c (semicolon ∷ zs) (Some tt) semicolon_is)
      (miss Marks.var_word _ _ semicolon_no_var (go start.Nothing c refl ready)))) (omega arith);
}

module _ {all : World} {be : ℕ} {starts : Bool} {pe : List Piece} {ne : Numbers} {e : Expr} (f : Fit all be 1 starts false pe ne e) where
  pub no_semicolon : (zs : List Shape) → first_of_shapes Marks.semicolon (tokens_from false pe ++ zs) ≡ None
  no_semicolon zs = ap (λ ys. first_of_shapes Marks.semicolon (ys ++ zs)) (f.part.first.is false) ∙ (begins f.part.first.form f.part.first.begins).semicolon

  pub no_var_first : (zs : List Shape) → first_of_shapes Marks.var_word (tokens_from false pe ++ zs) ≡ None
  no_var_first zs = ap (λ ys. first_of_shapes Marks.var_word (ys ++ zs)) (f.part.first.is false) ∙ no_var f.part.first.form f.part.first.no_statement

  pub expression_start : StartPart all be pe ne (start.Expr e)
  unfolding S.for_expression
  expression_start = record {
    spreads = λ more rest. spread pe more f.part.flows false rest;
    reads = λ mold w c zs rest nz nr l ready go.
        exactly (from {d = c} {n = behind_sees false} (header_is w c (tokens_from false pe ++ (semicolon ∷ zs)) None (no_semicolon (semicolon ∷ zs)))
        (miss Marks.var_word _ _ (no_var_first (semicolon ∷ zs))
        (bind ((expression_reads f.part).at w c false (semicolon ∷ zs) nz ready (omega (arith, semicolon_joins false))) (λ x d is done.
        miss Marks.in_word _ _ semicolon_no_in (go (start.Expr x) d (ap (λ v. start.Expr v) is.same) done))))) (omega arith);
  }

pub var_no_semicolon : Marks.semicolon (form_of (codes "var")) ≡ None
unfolding form_of reserved_word
var_no_semicolon = refl

equals_no_in : Marks.in_word (form_of (codes "=")) ≡ None
unfolding form_of reserved_word
equals_no_in = refl

no_in_behind : {all : World} (o : Option (Init all false)) (ds : List (Decl all false)) (zs : List Shape) → first_of_shapes Marks.in_word (tokens_from false (init_pieces o) ++ behind_decl ds zs) ≡ None
no_in_behind None ds zs = (stops ds zs).no_in
no_in_behind (Some i) ds zs = equals_no_in

module _ {all : World} (d : Decl all false) (ds : List (Decl all false)) where
  pub var_start : StartPart all (decls_bound (d ∷ ds)) (word (codes "var") ++ separated decl_pieces (d ∷ ds)) (decls_numbers (d ∷ ds)) (start.Var (decls_trees (d ∷ ds)))
  unfolding S.for_var
  var_start = record {
    spreads = λ more rest.
        let behind = behind_commas decl_pieces ds in
        ap (λ ys. shape (form_of (codes "var")) false ∷ (shape (name_form d.tree.name) false ∷ ys))
        (ap (λ ps. tokens_from false ps ++ rest) (append_assoc (init_pieces d.init) behind more)
        ∙ spread_init d.init (behind ++ more) rest ∙ ap (λ ys. tokens_from false (init_pieces d.init) ++ ys) (spread_behind ds more rest) ∙ sym (spread_init d.init behind (tokens_from false more ++ rest)));
    reads = λ mold w c zs rest nz nr l ready go.
        let v = shape (form_of (codes "var")) false in
        let n : Name = record { at = place 0; text = d.tree.name } in
        let behind_name = tokens_from false (init_pieces d.init) ++ behind_decl ds zs in
        exactly (on (ap (λ ys. v ∷ (shape (name_form d.tree.name) false ∷ ys)) (spread_init d.init (behind_commas decl_pieces ds) (semicolon ∷ zs)))
        (from {d = c} {n = behind_sees false} (header_is w c (v ∷ (shape (name_form d.tree.name) false ∷ behind_name)) None var_no_semicolon)
        (take {c = c} {s = v} Marks.var_word tt _ _ var_is
        (bind (name_lead n d.declared w (after c v) false behind_name (init_numbers d.init ++ (decls_numbers ds ++ nz)) (ready_behind c.functions (init_numbers d.init) (decls_numbers ds) nz ready)) (λ x f isn readyn.
        miss Marks.in_word _ _ (no_in_behind d.init ds zs)
        (bind (init_lead x d.init w f (behind_decl ds zs) (decls_numbers ds ++ nz) readyn (stops ds zs)) (λ u g isu readyu.
        miss Marks.in_word _ _ (stops ds zs).no_in
        (bind (declarators_lead d ds u.0 (is_declarator d x u isn isu) w g zs nz readyu) (λ us h are done.
        go (start.Var us) h (ap (λ v. start.Var v) are.same) done))))))))) (omega arith);
  }

-- ---- the statement (12.6.3)

for_begins : S.beginning (form_of (codes "for")) ≡ Some S.For
unfolding form_of reserved_word
for_begins = refl

pub for_first : ends_list (form_of (codes "for")) ≡ false
unfolding form_of reserved_word
for_first = refl

-- there is a first token
pub record Opened (zs : List Shape) : Type 0 where
  pub s : Shape
  pub more : List Shape
  pub is : zs ≡ s ∷ more

pub opened_before : (xs : List Shape) (z : Shape) (zs : List Shape) → Opened (xs ++ (z ∷ zs))
opened_before [] z zs = record { s = z; more = zs; is = refl }
opened_before (x ∷ xs) z zs = record { s = x; more = xs ++ (z ∷ zs); is = refl }

-- a header and a body
module _ {all : World} {bb : ℕ} {ends : Bool} {pb : List Piece} {nb : Numbers} {body : Stmt} (p : StmtPart all bb ends pb nb body) (at : Place) (form : StmtForm) (low : LowStmt all (record { at = at; form = form })) (mold : Stmt → StmtLayer) where
  pub header_lead : out-StmtForm form ≡ mold body → (bound : ℕ) (w : Frame all) (c : Spot) (line : Bool) (shapes rest : List Shape) (nz : Numbers) → Opened shapes → NoElse ends rest
      → ((d : Spot) → d ≡ after (after c (shape (form_of (codes "for")) line)) left_parenthesis → Leads (w.opened + 1 + bound) (deeper w) (nb ++ nz) (IsHeader mold) d shapes (tokens_from false pb ++ rest) (S.for_header grammar) give)
      → Leads (w.opened + max (suc bound) (suc bb)) w nz (IsStmt (record { at = at; form = form })) c (shape (form_of (codes "for")) line ∷ (left_parenthesis ∷ shapes)) rest (S.statement grammar) give
  unfolding S.for_behind
  header_lead is bound w c line shapes rest nz o fits header =
      exactly (let f = shape (form_of (codes "for")) line in
      begins_with {c = c} (codes "for") S.For for_begins
      (expected {c = after c f} {s = left_parenthesis} Marks.left_parenthesis tt _ parenthesis_mark.parenthesis_is
      (bind (parted o.is (header (after (after c f) left_parenthesis) refl)) (λ whole d isw readyw.
      bind ((stmt_reads p).at w d false rest nz readyw fits) (λ y g isy readyy.
      finishes_stmt (c.supply 0).0 (whole y) low (isw.same body y isy at (c.supply 0).0 form is) readyy))))) (omega arith)

module _ {all : World} {bf bb : ℕ} {ends : Bool} {pf pb : List Piece} {nf nb : Numbers} {from : ForStart} {body : Stmt} (at : Place) (form : StmtForm) (low : LowStmt all (record { at = at; form = form })) (test step : Option (Opt all)) where
  for_reads : out-StmtForm form ≡ StmtForm-F.For from (opt_tree test) (opt_tree step) body → (f : StartPart all bf pf nf from) (p : StmtPart all bb ends pb nb body)
      → Read all (max (suc (max (max bf (opt_bound test)) (opt_bound step))) (suc bb)) (for_pieces test step pf ++ pb) (((nf ++ opt_numbers test) ++ opt_numbers step) ++ nb) (IsStmt (record { at = at; form = form })) (NoElse ends) (S.statement grammar) give
  for_reads is f p = record {
    at = λ w c line rest nz ready fits.
        exactly (let nt = opt_numbers test in
        let ns = opt_numbers step in
        let shapes = rest_shapes pb test step rest in
        let bound : ℕ = max (max bf (opt_bound test)) (opt_bound step) in
        on (spread_for pb test step pf f.spreads line rest)
        (header_lead p at form low (λ body. StmtForm-F.For from (opt_tree test) (opt_tree step) body) is bound w c line (tokens_from false pf ++ (semicolon ∷ shapes)) rest nz (opened_before (tokens_from false pf) semicolon shapes) fits (λ d there.
        exactly (f.reads (λ body. StmtForm-F.For from (opt_tree test) (opt_tree step) body) (deeper w) d shapes (tokens_from false pb ++ rest) (nt ++ (ns ++ (nb ++ nz))) (nb ++ nz) _ (subst (λ (e : Spot). Ready (deeper w) e.functions (nf ++ (nt ++ (ns ++ (nb ++ nz))))) (sym there)
        (opens c.functions _ (ready_behind c.functions nf nt (ns ++ (nb ++ nz)) (ready_behind c.functions (nf ++ nt) ns (nb ++ nz) (ready_behind c.functions ((nf ++ nt) ++ ns) nb nz ready))))) (λ g h g_is readyh.
        parts_lead test step g from g_is (deeper w) h (tokens_from false pb ++ rest) (nb ++ nz) readyh)) (omega arith)))) (omega arith);
  }

  pub for_part : out-StmtForm form ≡ StmtForm-F.For from (opt_tree test) (opt_tree step) body → StartPart all bf pf nf from → StmtPart all bb ends pb nb body
      → StmtPart all (max (suc (max (max bf (opt_bound test)) (opt_bound step))) (suc bb)) ends (for_pieces test step pf ++ pb) (((nf ++ opt_numbers test) ++ opt_numbers step) ++ nb) (record { at = at; form = form })
  for_part is f p = record {
    flows = flows_last (for_pieces test step pf) pb p.flows;
    first = token_first (codes "for") false _ _ for_first;
    reads = for_reads is f p;
  }
