-- Declarators and `var` (12.2).
use Rattle.std.proofs.Common.{◌≡◌, ℕ, ◌+◌, Bool, true, false, List, [], ◌∷◌, ◌++◌, map, refl, ap, sym, ◌∙◌, subst, arith, append_assoc, append-nil}
use Rattle.std.specs.Prelude.{codes, Option, Some, None}
use Rattle.std.specs.Option.{option_map}
use Rattle.std.proofs.lemmas.List.{map-append}
use Rattle.js_value.specs.declared.place.Place.{Place}
use Rattle.js_tree.specs.Lexing.{reserved_word}
use Rattle.js_tree.specs.Refusals.{place}
use Rattle.js_tree.specs.declared.expression.Expr.{Expr}
use Rattle.js_tree.specs.declared.statement.Declarator.{Declarator}
use Rattle.js_tree.specs.declared.statement.Name.{Name}
use Rattle.js_tree.specs.declared.statement.StmtForm.{StmtForm, out-StmtForm}
use Rattle.js_tree.specs.declared.statement.StmtForm.TheOpen.{StmtForm-F}
use Rattle.js_tree.specs.declared.statement.StmtForm.TheVariants as s
use Rattle.js_grammar.specs.Declarators as D
use Rattle.js_grammar.specs.FunctionOrder.{Numbers}
use Rattle.js_grammar.specs.Marks
use Rattle.js_grammar.specs.Reading.{grammar}
use Rattle.js_grammar.specs.Rest.{Reading, ◌>>=◌, give, here, repeat, finish_stmt}
use Rattle.js_grammar.specs.Statements as S
use Rattle.js_grammar.proofs.Laws.{repeated}
use Rattle.script_text.specs.Expressions.{name}
use Rattle.script_text.specs.Pieces.{Piece, word, closing, separated, behind_commas}
use Rattle.script_text.specs.Tokens.{Shape, shape, form_of, name_form, tokens_from}
use Rattle.reading_back.proofs.Claims.{World, Frame, Spot, rest_of, Leads, Ready, below, Fit}
use Rattle.reading_back.proofs.StatementClaims.{LowStmt, ends_list, StmtPart}
use Rattle.reading_back.specs.Unplaced as unplaced
use Rattle.reading_back.proofs.Flowing.{flows_last, flows_token, spread}
use Rattle.reading_back.proofs.FunctionNames.{IsName, IsDeclared, name_lead}
use Rattle.reading_back.proofs.LooseOperators.{assignment_reads, comma_is, comma_joins}
use Rattle.reading_back.proofs.StatementHeads.{semicolon_joins}
use Rattle.reading_back.proofs.StatementSteps.{same_stmts, semicolon, begins_with, token_first, finishes_stmt, ended}
use Rattle.script_nesting.specs.Highest.{highest}
use Rattle.reading_back.proofs.Steps.{exactly, after, first_of_shapes, from, on, become, stays, bind, take, miss}
use Rattle.reading_back.proofs.TwoOperands.{ready_behind}

-- ---- declarators as they are printed

-- an initialiser
pub record Init (all : World) (allows_in : Bool) : Type 0 where
  pub starts : Bool
  pub pieces : List Piece
  pub numbers : Numbers
  pub tree : Expr
  pub bound : ℕ
  pub fit : Fit all bound 2 starts allows_in pieces numbers tree

pub record Decl (all : World) (allows_in : Bool) : Type 0 where
  pub tree : Declarator
  pub declared : IsDeclared tree.name
  pub init : Option (Init all allows_in)
  pub init_is : option_map (λ (i : Init all allows_in). i.tree) init ≡ tree.init

pub record IsDeclarator (d x : Declarator) : Type 0 where
  pub same : unplaced.declarator x ≡ unplaced.declarator d

pub record AreDeclarators (ds xs : List Declarator) : Type 0 where
  pub same : map unplaced.declarator xs ≡ map unplaced.declarator ds

one_more : (model so_far : List Declarator) (d x : Declarator) → AreDeclarators model so_far → IsDeclarator d x → AreDeclarators (model ++ (d ∷ [])) (so_far ++ (x ∷ []))
one_more model so_far d x h is = record {
  same =
      map-append unplaced.declarator so_far (x ∷ []) ∙ ap (λ zs. zs ++ (unplaced.declarator x ∷ [])) h.same ∙ ap (λ z. map unplaced.declarator model ++ (z ∷ [])) is.same
      ∙ sym (map-append unplaced.declarator model (d ∷ []));
}

module _ {all : World} {allows_in : Bool} where
  abbrev pub init_bound : Option (Init all allows_in) → ℕ
  init_bound None = 0
  init_bound (Some i) = i.bound

  abbrev pub init_pieces : Option (Init all allows_in) → List Piece
  init_pieces None = []
  init_pieces (Some i) = word (codes "=") ++ i.pieces

  abbrev pub init_numbers : Option (Init all allows_in) → Numbers
  init_numbers None = []
  init_numbers (Some i) = i.numbers

  abbrev pub decl_pieces : Decl all allows_in → List Piece
  decl_pieces d = name d.tree.name ++ init_pieces d.init

  abbrev pub decls_bound : List (Decl all allows_in) → ℕ
  decls_bound ds = highest (map (λ (d : Decl all allows_in). init_bound d.init) ds)

  abbrev pub decls_numbers : List (Decl all allows_in) → Numbers
  decls_numbers [] = []
  decls_numbers (d ∷ ds) = init_numbers d.init ++ decls_numbers ds

  abbrev pub decls_trees : List (Decl all allows_in) → List Declarator
  decls_trees ds = map (λ (d : Decl all allows_in). d.tree) ds

  -- the tokens of an initialiser and those behind
  pub spread_init : (o : Option (Init all allows_in)) (more : List Piece) (rest : List Shape) → tokens_from false (init_pieces o ++ more) ++ rest ≡ tokens_from false (init_pieces o) ++ (tokens_from false more ++ rest)
  spread_init None more rest = refl
  spread_init (Some i) more rest = spread (word (codes "=") ++ i.pieces) more (flows_last (word (codes "=")) i.pieces i.fit.part.flows) false rest

-- ---- what stands behind a declarator

equals_is : Marks.equals (form_of (codes "=")) ≡ Some tt
unfolding form_of reserved_word
equals_is = refl

comma_no_equals : Marks.equals (form_of (codes ",")) ≡ None
unfolding form_of reserved_word
comma_no_equals = refl

semicolon_no_equals : Marks.equals (form_of (codes ";")) ≡ None
unfolding form_of reserved_word
semicolon_no_equals = refl

comma_no_in : Marks.in_word (form_of (codes ",")) ≡ None
unfolding form_of reserved_word
comma_no_in = refl

pub semicolon_no_in : Marks.in_word (form_of (codes ";")) ≡ None
unfolding form_of reserved_word
semicolon_no_in = refl

semicolon_no_comma : Marks.comma (form_of (codes ";")) ≡ None
unfolding form_of reserved_word
semicolon_no_comma = refl

pub record Stops (allows_in : Bool) (rest : List Shape) : Type 0 where
  pub no_equals : first_of_shapes Marks.equals rest ≡ None
  pub no_in : first_of_shapes Marks.in_word rest ≡ None
  pub loose : below allows_in 2 rest

module _ {all : World} {allows_in : Bool} where
  abbrev pub behind_decl : List (Decl all allows_in) → List Shape → List Shape
  behind_decl ds rest = tokens_from false (behind_commas decl_pieces ds) ++ (semicolon ∷ rest)

  pub stops : (ds : List (Decl all allows_in)) (rest : List Shape) → Stops allows_in (behind_decl ds rest)
  stops [] rest = record { no_equals = semicolon_no_equals; no_in = semicolon_no_in; loose = omega (arith, semicolon_joins allows_in) }
  stops (d ∷ ds) rest = record { no_equals = comma_no_equals; no_in = comma_no_in; loose = omega (arith, comma_joins allows_in) }

  -- ---- an initialiser

  pub record IsInit (n : Name) (o : Option (Init all allows_in)) (v : Declarator × Place) : Type 0 where
    pub name_is : v.0.name ≡ n.text
    pub init_is : option_map unplaced.expr v.0.init ≡ option_map unplaced.expr (option_map (λ (i : Init all allows_in). i.tree) o)

  pub init_lead : (n : Name) (o : Option (Init all allows_in)) (w : Frame all) (c : Spot) (rest : List Shape) (nz : Numbers) → Ready w c.functions (init_numbers o ++ nz) → Stops allows_in rest
      → Leads (w.opened + init_bound o) w nz (IsInit n o) c (tokens_from false (init_pieces o) ++ rest) rest (D.initialiser grammar allows_in n) give
  init_lead n None w c rest nz ready stops =
      exactly (miss Marks.equals _ _ stops.no_equals (stays {c = c} (record { at = n.at; name = n.text; init = None }, n.at) give (record { name_is = refl; init_is = refl }) ready)) (omega arith)
  init_lead n (Some i) w c rest nz ready stops =
      exactly (let e : Shape = shape (form_of (codes "=")) false in
      let at = (c.supply 1).0 in
      let opened = ap (λ zs. zs ++ rest) (i.fit.part.first.is false) in
      take {c = c} {s = e} Marks.equals tt _ _ equals_is
      (from {d = after c e} {other = tokens_from false i.pieces ++ rest} {n = behind_equals n at}
      (ap (λ zs. behind_place n (rest_of w (after c e) zs)) opened ∙ ap (λ zs. behind_equals n at (rest_of w (after c e) zs)) (sym opened))
      (bind ((assignment_reads i.fit).at w (after c e) false rest nz ready stops.loose) (λ x d is done.
      stays {c = d} (record { at = n.at; name = n.text; init = Some x }, at) give (record { name_is = refl; init_is = ap Some is.same }) done)))) (omega arith)
    where
      behind_equals : Name → Place → Reading (Declarator × Place)
      behind_equals n at = grammar.assignment allows_in >>= λ x. give (record { at = n.at; name = n.text; init = Some x }, at)

      behind_place : Name → Reading (Declarator × Place)
      behind_place n = here >>= λ at. grammar.assignment allows_in >>= λ x. give (record { at = n.at; name = n.text; init = Some x }, at)

  -- what was read is the declarator
  pub is_declarator : (d : Decl all allows_in) (n : Name) (v : Declarator × Place) → IsName (record { at = place 0; text = d.tree.name }) n → IsInit n d.init v → IsDeclarator d.tree v.0
  is_declarator d n v is init = record {
    same = by (ap (λ (m : Name). m.text) is.same);
  }
    where
      by : n.text ≡ d.tree.name → unplaced.declarator v.0 ≡ unplaced.declarator d.tree
      by e = ap (λ t. record { at = place 0; name = t; init = option_map unplaced.expr v.0.init }) (init.name_is ∙ e) ∙ ap (λ o. record { at = place 0; name = d.tree.name; init = o }) (init.init_is ∙ ap (option_map unplaced.expr) d.init_is)

  -- ---- declarators behind the first one

  -- the tokens of a declarator behind a comma
  spread_more : (d : Decl all allows_in) (ds : List (Decl all allows_in)) (rest : List Shape)
      → behind_decl (d ∷ ds) rest ≡ shape (form_of (codes ",")) false ∷ (shape (name_form d.tree.name) false ∷ (tokens_from false (init_pieces d.init) ++ behind_decl ds rest))
  spread_more d ds rest =
      ap (λ zs. shape (form_of (codes ",")) false ∷ (shape (name_form d.tree.name) false ∷ zs)) (spread_init d.init (behind_commas decl_pieces ds) (semicolon ∷ rest))

  -- the tokens of declarators behind commas and those behind
  pub spread_behind : (ds : List (Decl all allows_in)) (more : List Piece) (rest : List Shape)
      → tokens_from false (behind_commas decl_pieces ds ++ more) ++ rest ≡ tokens_from false (behind_commas decl_pieces ds) ++ (tokens_from false more ++ rest)
  spread_behind [] more rest = refl
  spread_behind (d ∷ ds) more rest =
      let behind = behind_commas decl_pieces ds in
      ap (λ zs. shape (form_of (codes ",")) false ∷ (shape (name_form d.tree.name) false ∷ zs))
      (ap (λ ps. tokens_from false ps ++ rest) (append_assoc (init_pieces d.init) behind more)
      ∙ spread_init d.init (behind ++ more) rest ∙ ap (λ zs. tokens_from false (init_pieces d.init) ++ zs) (spread_behind ds more rest) ∙ sym (spread_init d.init behind (tokens_from false more ++ rest)))

  -- the tokens of declarators, with their word and with what stands behind their semicolon
  pub spread_var : (d : Decl all allows_in) (ds : List (Decl all allows_in)) (more : List Piece) (line : Bool) (rest : List Shape)
      → tokens_from line ((word (codes "var") ++ separated decl_pieces (d ∷ ds)) ++ (closing (codes ";") ++ more)) ++ rest
      ≡ shape (form_of (codes "var")) line ∷ (shape (name_form d.tree.name) false ∷ (tokens_from false (init_pieces d.init) ++ behind_decl ds (tokens_from false more ++ rest)))
  spread_var d ds more line rest =
      ap (λ zs. shape (form_of (codes "var")) line ∷ (shape (name_form d.tree.name) false ∷ zs))
      (ap (λ ps. tokens_from false ps ++ rest) (append_assoc (init_pieces d.init) (behind_commas decl_pieces ds) (closing (codes ";") ++ more))
      ∙ spread_init d.init (behind_commas decl_pieces ds ++ (closing (codes ";") ++ more)) rest
      ∙ ap (λ zs. tokens_from false (init_pieces d.init) ++ zs) (spread_behind ds (closing (codes ";") ++ more) rest))

  pub more_lead : (ds : List (Decl all allows_in)) (model so_far : List Declarator) (w : Frame all) (c : Spot) (rest : List Shape) (nz : Numbers) → AreDeclarators model so_far
      → Ready w c.functions (decls_numbers ds ++ nz)
      → Leads (w.opened + decls_bound ds) w nz (AreDeclarators (model ++ decls_trees ds)) c (behind_decl ds rest) (semicolon ∷ rest) (repeat (D.more_declarators grammar allows_in) so_far) give
  more_lead [] model so_far w c rest nz same ready =
      exactly (from {d = c} (repeated.declarators allows_in so_far (rest_of w c (semicolon ∷ rest)))
      (miss Marks.comma _ _ semicolon_no_comma (stays {c = c} so_far give (record { same = same.same ∙ ap (map unplaced.declarator) (sym (append-nil model)) }) ready))) (omega arith)
  more_lead (d ∷ ds) model so_far w c rest nz same ready =
      exactly (let m : Shape = shape (form_of (codes ",")) false in
      let n : Name = record { at = place 0; text = d.tree.name } in
      on (spread_more d ds rest)
      (from {d = c} (repeated.declarators allows_in so_far (rest_of w c (m ∷ (shape (name_form d.tree.name) false ∷ (tokens_from false (init_pieces d.init) ++ behind_decl ds rest)))))
      (take {c = c} {s = m} Marks.comma tt _ _ comma_is
      (bind (name_lead n d.declared w (after c m) false (tokens_from false (init_pieces d.init) ++ behind_decl ds rest) (init_numbers d.init ++ (decls_numbers ds ++ nz)) (ready_behind c.functions (init_numbers d.init) (decls_numbers ds) nz ready)) (λ x f isn readyn.
      bind (init_lead x d.init w f (behind_decl ds rest) (decls_numbers ds ++ nz) readyn (stops ds rest)) (λ v g isv readyv.
      become (λ b h. subst (λ es. AreDeclarators es b) (append_assoc model (d.tree ∷ []) (decls_trees ds)) h)
      (more_lead ds (model ++ (d.tree ∷ [])) (so_far ++ (v.0 ∷ [])) w g rest nz (one_more model so_far d.tree v.0 same (is_declarator d x v isn isv)) readyv))))))) (omega arith)

  pub declarators_lead : (d : Decl all allows_in) (ds : List (Decl all allows_in)) (first : Declarator) → IsDeclarator d.tree first → (w : Frame all) (c : Spot) (rest : List Shape) (nz : Numbers)
      → Ready w c.functions (decls_numbers ds ++ nz)
      → Leads (w.opened + decls_bound ds) w nz (AreDeclarators (decls_trees (d ∷ ds))) c (behind_decl ds rest) (semicolon ∷ rest) (D.declarators_behind grammar allows_in first) give
  unfolding D.declarators_behind
  declarators_lead d ds first is w c rest nz ready = exactly (more_lead ds (d.tree ∷ []) (first ∷ []) w c rest nz (one_more [] [] d.tree first (record { same = refl }) is) ready) (omega arith)

-- ---- 12.2

var_begins : S.beginning (form_of (codes "var")) ≡ Some S.Var
unfolding form_of reserved_word
var_begins = refl

var_first : ends_list (form_of (codes "var")) ≡ false
unfolding form_of reserved_word
var_first = refl

module _ {all : World} (at : Place) (form : StmtForm) (low : LowStmt all (record { at = at; form = form })) (d : Decl all true) (ds : List (Decl all true)) where
  -- the declarators with their word
  abbrev pub var_pieces : List Piece
  var_pieces = word (codes "var") ++ separated decl_pieces (d ∷ ds)

  pub var_part : out-StmtForm form ≡ StmtForm-F.Var (decls_trees (d ∷ ds)) → StmtPart all (decls_bound (d ∷ ds)) false (var_pieces ++ closing (codes ";")) (decls_numbers (d ∷ ds)) (record { at = at; form = form })
  unfolding S.var_behind
  var_part is = record {
    flows = flows_last var_pieces (closing (codes ";")) (flows_token (codes ";") true _);
    first = token_first (codes "var") false _ _ var_first;
    reads = record {
      at = λ w c line rest nz ready fits.
          exactly (let p = (c.supply 0).0 in
          let o = after c (shape (form_of (codes "var")) line) in
          let n : Name = record { at = place 0; text = d.tree.name } in
          on (spread_var d ds [] line rest)
          (begins_with {c = c} (codes "var") S.Var var_begins
          (bind (name_lead n d.declared w o false (tokens_from false (init_pieces d.init) ++ behind_decl ds rest) (init_numbers d.init ++ (decls_numbers ds ++ nz)) (ready_behind c.functions (init_numbers d.init) (decls_numbers ds) nz ready)) (λ x f isn readyn.
          bind (init_lead x d.init w f (behind_decl ds rest) (decls_numbers ds ++ nz) readyn (stops ds rest)) (λ v g isv readyv.
          bind (declarators_lead d ds v.0 (is_declarator d x v isn isv) w g rest nz readyv) (λ us h are done.
          ended {c = h} (S.continues_var grammar us) (λ _. finish_stmt p (s.Var us))
          (finishes_stmt p (s.Var us) low (same_stmts p at (s.Var us) form _ _ (s.outs-Var us) is (ap (λ v. StmtForm-F.Var v) are.same)) done))))))) (omega arith);
    };
  }
