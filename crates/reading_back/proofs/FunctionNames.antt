-- Names that are declared, and parameters (13).
use Rattle.std.proofs.Common.{◌≡◌, ℕ, Bool, true, false, List, [], ◌∷◌, ◌++◌, length, map, refl, ap, sym, ◌∙◌, subst, arith, append_assoc}
use Rattle.std.specs.Prelude.{codes, Option, Some, None}
use Rattle.std.specs.List.{list_all}
use Rattle.std.specs.Option.{option_or}
use Rattle.std.proofs.lemmas.List.{map-append}
use Rattle.js_tree.specs.Lexing.{reserved_word}
use Rattle.js_tree.specs.declared.refusal.Feature.{Feature}
use Rattle.js_tree.specs.declared.token.TokenForm.TheVariants as form
use Rattle.js_tree.specs.declared.statement.Name.{Name}
use Rattle.js_grammar.specs.FunctionOrder.{Numbers}
use Rattle.js_grammar.specs.Functions as F
use Rattle.js_grammar.specs.Marks
use Rattle.js_grammar.specs.ReadableWords.{is_identifier}
use Rattle.js_grammar.specs.Reading.{grammar}
use Rattle.js_grammar.specs.Rest.{Rest, Reading, ◌>>=◌, give, expect, repeat, unless}
use Rattle.js_grammar.proofs.Laws.{repeated}
use Rattle.script_text.specs.Pieces.{Piece, closing, separated, behind_commas}
use Rattle.script_text.specs.Statements.{parameter}
use Rattle.script_text.specs.Tokens.{Shape, shape, form_of, name_form, tokens_from}
use Rattle.reading_back.proofs.Claims.{World, Frame, Spot, rest_of, Leads, Ready}
use Rattle.reading_back.specs.Unplaced as unplaced
use Rattle.reading_back.proofs.Calls.{right_parenthesis_no_comma}
use Rattle.reading_back.proofs.Groups.{right_parenthesis_is}
use Rattle.reading_back.proofs.LooseOperators.{comma_is}
use Rattle.reading_back.proofs.Names.{identifier_form}
use Rattle.reading_back.proofs.Readability.{both, no_feature}
use Rattle.reading_back.proofs.Steps.{exactly, after, from, become, stays, bind, take, miss, expected}

-- ---- names

pub record IsName (n x : Name) : Type 0 where
  pub same : unplaced.name x ≡ unplaced.name n

-- a name that may be declared
pub record IsDeclared (text : List ℕ) : Type 0 where
  pub form : Marks.identifier (name_form text) ≡ Some text
  pub no_bar : option_or (Marks.barred text) (Marks.form_name text) ≡ None

neither : {A : Type 0} (a b : Option A) → a ≡ None → b ≡ None → option_or a b ≡ None
neither a b e f = rw (e, f) refl

pub is_declared : (text : List ℕ) → is_identifier text ≡ true → IsDeclared text
is_declared text e =
    let a = both _ _ e in
    let b = both _ _ a.0 in
    let c = both _ _ b.0 in
    record {
      form = ap Marks.identifier (identifier_form text (no_feature (reserved_word text) c.1));
      no_bar = neither (Marks.barred text) (Marks.form_name text) (no_feature (Marks.barred text) b.1) (no_feature (Marks.form_name text) a.1);
    }

unbarred : {A : Type 0} (at : _) (o : Option Feature) (m : Reading A) (s : Rest) → o ≡ None → unless at o m s ≡ m s
unbarred at o m s e = rw e refl

pub name_lead : {all : World} (n : Name) → IsDeclared n.text → (w : Frame all) (c : Spot) (line : Bool) (rest : List Shape) (nz : Numbers) → Ready w c.functions nz
    → Leads w.opened w nz (IsName n) c (shape (name_form n.text) line ∷ rest) rest F.declared_name give
unfolding F.declared_name
name_lead n d w c line rest nz ready =
    exactly (let p = (c.supply 0).0 in
    let s : Shape = shape (name_form n.text) line in
    let there : Name = record { at = p; text = n.text } in
    from {d = c} {other = s ∷ rest} {n = expect Marks.identifier >>= λ text. unless p (option_or (Marks.barred text) (Marks.form_name text)) (give (record { at = p; text = text }))} refl
    (expected {c = c} {s = s} Marks.identifier n.text (λ text. unless p (option_or (Marks.barred text) (Marks.form_name text)) (give (record { at = p; text = text }))) d.form
    (from (unbarred p (option_or (Marks.barred n.text) (Marks.form_name n.text)) (give there) (rest_of w (after c s) rest) d.no_bar) (stays {c = after c s} there give (record { same = refl }) ready)))) (omega arith)

-- ---- parameters

pub record AreNames (ns xs : List Name) : Type 0 where
  pub same : map unplaced.name xs ≡ map unplaced.name ns

one_more : (model so_far : List Name) (n x : Name) → AreNames model so_far → IsName n x → AreNames (model ++ (n ∷ [])) (so_far ++ (x ∷ []))
one_more model so_far n x h is = record {
  same =
      map-append unplaced.name so_far (x ∷ []) ∙ ap (λ zs. zs ++ (unplaced.name x ∷ [])) h.same ∙ ap (λ z. map unplaced.name model ++ (z ∷ [])) is.same
      ∙ sym (map-append unplaced.name model (n ∷ []));
}

abbrev AreDeclared : List Name → Type 0
AreDeclared ns = list_all (λ (p : Name). is_identifier p.text) ns ≡ true

-- what stands behind a parameter
abbrev tail : List Name → List Piece
tail ns = behind_commas parameter ns ++ closing (codes ")")

no_mark : (text : List ℕ) → IsDeclared text → Marks.right_parenthesis (name_form text) ≡ None
no_mark text d = by (name_form text) d.form
  where
    by : (t : _) → Marks.identifier t ≡ Some text → Marks.right_parenthesis t ≡ None
    by (form.Name x) e = refl
    by (form.Reserved k) e = absurd (cc)
    by (form.Number n) e = absurd (cc)
    by (form.Str x) e = absurd (cc)
    by (form.Punctuator p) e = absurd (cc)

module _ {all : World} where
  lead : (ns : List Name) (n : Name) (model so_far : List Name) (w : Frame all) (c : Spot) (rest : List Shape) (nz : Numbers) → AreDeclared (n ∷ ns) → AreNames model so_far → Ready w c.functions nz
      → Leads w.opened w nz (AreNames (model ++ (n ∷ ns))) c (shape (name_form n.text) false ∷ (tokens_from false (tail ns) ++ rest)) rest (repeat F.more_parameters so_far) give
  lead [] n model so_far w c rest nz named same ready =
      exactly (let p = both _ _ named in
      from (repeated.parameters so_far (rest_of w c (shape (name_form n.text) false ∷ shape (form_of (codes ")")) false ∷ rest)))
      (bind (name_lead n (is_declared n.text p.0) w c false (shape (form_of (codes ")")) false ∷ rest) nz ready) (λ x d is done.
      miss {c = d} Marks.comma _ _ right_parenthesis_no_comma (expected {c = d} {s = shape (form_of (codes ")")) false} Marks.right_parenthesis tt (λ _. give (so_far ++ (x ∷ []))) right_parenthesis_is
      (stays (so_far ++ (x ∷ [])) give (one_more model so_far n x same is) done))))) (omega arith)
  lead (next_n ∷ ns) n model so_far w c rest nz named same ready =
      exactly (let p = both _ _ named in
      let comma : Shape = shape (form_of (codes ",")) false in
      let more = shape (name_form next_n.text) false ∷ (tokens_from false (tail ns) ++ rest) in
      from (repeated.parameters so_far (rest_of w c (shape (name_form n.text) false ∷ comma ∷ more)))
      (bind (name_lead n (is_declared n.text p.0) w c false (comma ∷ more) nz ready) (λ x d is done.
      take {c = d} {s = comma} Marks.comma tt _ _ comma_is
      (become (λ b h. subst (λ ms. AreNames ms b) (append_assoc model (n ∷ []) (next_n ∷ ns)) h)
      (lead ns next_n (model ++ (n ∷ [])) (so_far ++ (x ∷ [])) w (after d comma) rest nz p.1 (one_more model so_far n x same is) done))))) (omega arith)

  -- 13: names with commas between, up to the parenthesis
  pub parameters_lead : (ns : List Name) (w : Frame all) (c : Spot) (rest : List Shape) (nz : Numbers) → AreDeclared ns → Ready w c.functions nz
      → Leads w.opened w nz (AreNames ns) c (tokens_from false (separated parameter ns ++ closing (codes ")")) ++ rest) rest F.parameters give
  unfolding F.parameters
  parameters_lead [] w c rest nz named ready = exactly (take {c = c} {s = shape (form_of (codes ")")) false} Marks.right_parenthesis tt _ _ right_parenthesis_is (stays [] give (record { same = refl }) ready)) (omega arith)
  parameters_lead (n ∷ ns) w c rest nz named ready =
      exactly (let p = both _ _ named in
      miss Marks.right_parenthesis _ _ (no_mark n.text (is_declared n.text p.0)) (lead ns n [] [] w c rest nz named (record { same = refl }) ready)) (omega arith)

  -- 11.1.5: those of accessors
  pub no_parameter_lead : (ns : List Name) (w : Frame all) (c : Spot) (rest : List Shape) (nz : Numbers) → length ns ≡ 0 → Ready w c.functions nz
      → Leads w.opened w nz (AreNames ns) c (tokens_from false (separated parameter ns ++ closing (codes ")")) ++ rest) rest (F.no_parameter grammar) give
  no_parameter_lead [] w c rest nz none ready =
      exactly (expected {c = c} {s = shape (form_of (codes ")")) false} Marks.right_parenthesis tt (λ _. give []) right_parenthesis_is (stays [] give (record { same = refl }) ready)) (omega arith)
  no_parameter_lead (n ∷ ns) w c rest nz none ready = absurd (omega (arith, none))

  pub one_parameter_lead : (ns : List Name) (w : Frame all) (c : Spot) (rest : List Shape) (nz : Numbers) → length ns ≡ 1 → AreDeclared ns → Ready w c.functions nz
      → Leads w.opened w nz (AreNames ns) c (tokens_from false (separated parameter ns ++ closing (codes ")")) ++ rest) rest (F.one_parameter grammar) give
  one_parameter_lead [] w c rest nz one named ready = absurd (omega (arith, one))
  one_parameter_lead (n ∷ []) w c rest nz one named ready =
      exactly (let p = both _ _ named in
      bind (name_lead n (is_declared n.text p.0) w c false (shape (form_of (codes ")")) false ∷ rest) nz ready) (λ x d is done.
      expected {c = d} {s = shape (form_of (codes ")")) false} Marks.right_parenthesis tt (λ _. give (x ∷ [])) right_parenthesis_is (stays (x ∷ []) give (record { same = ap (λ z. z ∷ []) is.same }) done))) (omega arith)
  one_parameter_lead (n ∷ m ∷ ns) w c rest nz one named ready = absurd (omega (arith, one))
