-- Operators with two operands (11.5 to 11.11).
use Rattle.std.proofs.Common.{◌≡◌, ◌≤◌, ℕ, suc, ◌+◌, ◌-◌, min, Bool, false, List, [], ◌∷◌, ◌++◌, drop, ap, sym, ◌∙◌, subst, arith, append_assoc, max}
use Rattle.std.specs.Prelude.{◌&&◌, not, Some}
use Rattle.js_value.specs.declared.operator.BinaryOp.{BinaryOp}
use Rattle.js_value.specs.declared.operator.BinaryOp.TheVariants as binary
use Rattle.js_value.specs.declared.place.Place.{Place}
use Rattle.js_tree.specs.declared.expression.Expr.{Expr}
use Rattle.js_tree.specs.declared.expression.ExprForm.{ExprForm, out-ExprForm}
use Rattle.js_tree.specs.declared.expression.ExprForm.TheOpen.{ExprForm-F}
use Rattle.js_tree.specs.declared.expression.ExprForm.TheVariants as e
use Rattle.js_tree.specs.declared.expression.LogicOp.{LogicOp}
use Rattle.js_tree.specs.declared.expression.LogicOp.TheVariants as logic
use Rattle.js_tree.specs.declared.statement.Func.{Func}
use Rattle.js_grammar.specs.Climbing.{Found, levels, tight, rest as climb_rest}
use Rattle.js_grammar.specs.Expressions as E
use Rattle.js_grammar.specs.FunctionOrder.{Numbers}
use Rattle.js_grammar.specs.Reading.{grammar}
use Rattle.js_grammar.specs.Rest.{◌>>=◌, give, finish}
use Rattle.js_grammar.proofs.Climbing.{climbs, assoc}
use Rattle.script_text.specs.Expressions.{operator, logic_operator, binary_level, logic_level}
use Rattle.script_text.specs.Pieces as piece
use Rattle.script_text.specs.Pieces.{Piece, word}
use Rattle.script_text.specs.Tokens.{Shape, shape, form_of, tokens_from}
use Rattle.reading_back.proofs.Claims.{Low, World, Frame, rest_of, Ready, Read, below, Flows, First, Look, IsExpr, Part, Fit}
use Rattle.reading_back.proofs.Marks.{joins}
use Rattle.reading_back.proofs.Flowing.{flows_last, flows_token, spread}
use Rattle.reading_back.proofs.Joining.{no_operator, binary_is_found, logic_is_found, binary_joins, logic_joins, is_in_op}
use Rattle.reading_back.proofs.Ladder.{from_climb}
use Rattle.reading_back.proofs.Same.{same_layers}
use Rattle.reading_back.proofs.Steps.{exactly, after, from, on, stays, chain, bind, finished, first_is}
use Rattle.reading_back.specs.Unplaced as unplaced

-- numbers of functions in two parts
pub ready_behind : {all : World} {w : Frame all} (functions : List Func) (na nb nz : Numbers) → Ready w functions ((na ++ nb) ++ nz) → Ready w functions (na ++ (nb ++ nz))
ready_behind {w = w} functions na nb nz r = subst (Ready w functions) (append_assoc na nb nz) r

-- parts with a token between them
pub between : (xs ys : List Piece) (text : List ℕ) (tight : Bool) (gap : _) → Flows xs → (line : Bool) (rest : List Shape)
    → tokens_from line ((xs ++ (piece.Token text tight gap ∷ [])) ++ ys) ++ rest ≡ tokens_from line xs ++ (shape (form_of text) false ∷ (tokens_from false ys ++ rest))
between xs ys text tight gap h line rest =
    spread (xs ++ (piece.Token text tight gap ∷ [])) ys (flows_last xs (piece.Token text tight gap ∷ []) (flows_token text tight gap)) line rest
    ∙ spread xs (piece.Token text tight gap ∷ []) h line (tokens_from false ys ++ rest)

-- what pieces begin with, those that stand before others
pub first_before : {look other : Look} (xs ys : List Piece) → Flows xs → (15 ≤ other.level → 15 ≤ look.level) → (other.starts ≡ false → look.starts ≡ false) → First look xs → First other (xs ++ ys)
first_before xs ys h le plain f = record {
  form = f.form;
  more = f.more ++ tokens_from false ys;
  is = λ line. h.at line ys ∙ ap (λ zs. zs ++ tokens_from false ys) (f.is line);
  begins = f.begins;
  no_statement = f.no_statement;
  no_sign = λ l. f.no_sign (le l);
  plain = λ s. f.plain (plain s);
}

-- an operator by its text: what is found of it, and what it makes of its operands
pub record Operates (allows_in : Bool) (a b e : Expr) (text : List ℕ) (level : ℕ) (f : Found) : Type 0 where
  pub loose : 4 ≤ level
  pub tightest : level ≤ 13
  pub rest_level : f.level + 3 ≡ level
  pub found : (n : ℕ) → n + 4 ≤ level → tight n (drop n (levels allows_in)) (form_of text) ≡ Some f
  pub joined : joins allows_in (form_of text) ≡ level
  pub makes : (xa xb : Expr) → IsExpr a xa → IsExpr b xb → IsExpr e (record { at = xa.at; form = f.form xa xb })

module _ {all : World} {ba bb : ℕ} {allows_in sa sb : Bool} {pa pb : List Piece} {na nb : Numbers} {a b e : Expr} {text : List ℕ} {level : ℕ} {f : Found} where
  module _ (low : Low all e) (o : Operates allows_in a b e text level f) (fa : Fit all ba level sa allows_in pa na a) (fb : Fit all bb (level + 1) sb allows_in pb nb b) where
    -- the operand on the right, with all tighter operators
    right_reads : Read all bb pb nb (IsExpr b) (below allows_in (suc level)) (E.unary grammar >>= climb_rest (E.unary grammar) (drop f.level (levels allows_in))) give
    right_reads =
        let inner : f.level + 4 ≤ fb.look.level = omega (arith, o.rest_level, fb.enough) in
        record {
          at = λ w c line rest nz ready fits.
              exactly (chain ((fb.part.climb f.level inner).at w c line rest nz ready (omega (arith, fits, fb.enough, o.tightest))) (λ x d is done.
              from (climbs.ends allows_in f.level x (rest_of w d rest) (first_is w _ d rest ∙ no_operator allows_in f.level (suc level) rest (omega (arith, o.tightest)) (omega (arith, o.rest_level)) fits))
              (stays {c = d} x give is done))) (omega arith);
        }

    climbs_so : (n : ℕ) → n + 4 ≤ level → Read all (max ba bb) ((pa ++ word text) ++ pb) (na ++ nb) (IsExpr e) (below allows_in (suc (min 13 level)))
        (E.unary grammar >>= climb_rest (E.unary grammar) (drop n (levels allows_in))) (climb_rest (E.unary grammar) (drop n (levels allows_in)))
    climbs_so n le = record {
      at = λ w c line rest nz ready fits.
          exactly (let ls = drop n (levels allows_in) in
          let all_levels = levels allows_in in
          let sign : Shape = shape (form_of text) false in
          let behind = tokens_from false pb ++ rest in
          on (between pa pb text false _ fa.part.flows line rest)
          (chain ((fa.part.climb n (omega (arith, le, fa.enough))).at w c line (sign ∷ behind) (nb ++ nz) (ready_behind c.functions na nb nz ready) (omega (arith, o.joined, fa.enough, o.tightest)))
          (λ xa d isa donea.
          let s = rest_of w d (sign ∷ behind) in
          let u = rest_of w (after d sign) behind in
          from (climbs.goes_on allows_in n xa s f (o.found n le)
          ∙ sym (assoc (E.unary grammar) (climb_rest (E.unary grammar) (drop f.level all_levels)) (λ right. finish xa.at (f.form xa right) >>= λ both. climb_rest (E.unary grammar) ls both) u))
          (bind (right_reads.at w (after d sign) false rest nz donea (omega (arith, fits))) (λ xb g isb doneb.
          finished xa.at (f.form xa xb) (climb_rest (E.unary grammar) ls) low (o.makes xa xb isa isb) doneb (stays {c = g} (record { at = xa.at; form = f.form xa xb }) (climb_rest (E.unary grammar) ls) (o.makes xa xb isa isb) doneb)))))) (omega arith);
    }

    pub two_operands : Part all (max ba bb) (record { level = level; calls = false; starts = sa }) allows_in ((pa ++ word text) ++ pb) (na ++ nb) e
    two_operands = from_climb (flows_last (pa ++ word text) pb fb.part.flows)
        (first_before (pa ++ word text) pb (flows_last pa (word text) (flows_token text false _)) (λ l. l) (λ s. s) (first_before {other = record { level = level; calls = false; starts = sa }} pa (word text) fa.part.flows (λ l. absurd (omega (arith, l, o.tightest))) fa.plain fa.part.first))
        (max ba bb) o.tightest o.loose climbs_so

-- ---- the operators of the language

pub binary_bounds : (op : BinaryOp) → (4 ≤ binary_level op) × (binary_level op ≤ 13)
binary_bounds binary.Add = (omega arith, omega arith)
binary_bounds binary.Sub = (omega arith, omega arith)
binary_bounds binary.Mul = (omega arith, omega arith)
binary_bounds binary.Div = (omega arith, omega arith)
binary_bounds binary.Rem = (omega arith, omega arith)
binary_bounds binary.Shl = (omega arith, omega arith)
binary_bounds binary.Sar = (omega arith, omega arith)
binary_bounds binary.Shr = (omega arith, omega arith)
binary_bounds binary.BitAnd = (omega arith, omega arith)
binary_bounds binary.BitOr = (omega arith, omega arith)
binary_bounds binary.BitXor = (omega arith, omega arith)
binary_bounds binary.Less = (omega arith, omega arith)
binary_bounds binary.Greater = (omega arith, omega arith)
binary_bounds binary.LessEqual = (omega arith, omega arith)
binary_bounds binary.GreaterEqual = (omega arith, omega arith)
binary_bounds binary.Equal = (omega arith, omega arith)
binary_bounds binary.NotEqual = (omega arith, omega arith)
binary_bounds binary.Same = (omega arith, omega arith)
binary_bounds binary.NotSame = (omega arith, omega arith)
binary_bounds binary.In = (omega arith, omega arith)
binary_bounds binary.InstanceOf = (omega arith, omega arith)

pub logic_bounds : (op : LogicOp) → (4 ≤ logic_level op) × (logic_level op ≤ 13)
logic_bounds logic.And = (omega arith, omega arith)
logic_bounds logic.Or = (omega arith, omega arith)

lower : (n : ℕ) → 4 ≤ n → n - 3 + 3 ≡ n
lower n le = omega (arith, le)

module _ {all : World} {ba bb : ℕ} {allows_in sa sb : Bool} {pa pb : List Piece} {na nb : Numbers} {a b : Expr} (at : Place) (form : ExprForm) (low : Low all (record { at = at; form = form })) where
  -- 11.5 to 11.10
  pub binary_part : (op : BinaryOp) → out-ExprForm form ≡ ExprForm-F.Binary op a b → (is_in_op op && not allows_in) ≡ false
      → Fit all ba (binary_level op) sa allows_in pa na a → Fit all bb (binary_level op + 1) sb allows_in pb nb b
      → Part all (max ba bb) (record { level = binary_level op; calls = false; starts = sa }) allows_in ((pa ++ word (operator op)) ++ pb) (na ++ nb) (record { at = at; form = form })
  binary_part op is barred fa fb = two_operands low (record {
    loose = (binary_bounds op).0;
    tightest = (binary_bounds op).1;
    rest_level = lower (binary_level op) (binary_bounds op).0;
    found = λ n le. binary_is_found op allows_in n barred le;
    joined = binary_joins op allows_in barred;
    makes = λ xa xb isa isb. same_layers xa.at at (e.Binary op xa xb) form _ _ (e.outs-Binary op xa xb) is
        (ap (λ y. ExprForm-F.Binary op y (unplaced.expr xb)) isa.same ∙ ap (λ y. ExprForm-F.Binary op (unplaced.expr a) y) isb.same);
  }) fa fb

  -- 11.11
  pub logic_part : (op : LogicOp) → out-ExprForm form ≡ ExprForm-F.Logic op a b
      → Fit all ba (logic_level op) sa allows_in pa na a → Fit all bb (logic_level op + 1) sb allows_in pb nb b
      → Part all (max ba bb) (record { level = logic_level op; calls = false; starts = sa }) allows_in ((pa ++ word (logic_operator op)) ++ pb) (na ++ nb) (record { at = at; form = form })
  logic_part op is fa fb = two_operands low (record {
    loose = (logic_bounds op).0;
    tightest = (logic_bounds op).1;
    rest_level = lower (logic_level op) (logic_bounds op).0;
    found = λ n le. logic_is_found op allows_in n le;
    joined = logic_joins op allows_in;
    makes = λ xa xb isa isb. same_layers xa.at at (e.Logic op xa xb) form _ _ (e.outs-Logic op xa xb) is
        (ap (λ y. ExprForm-F.Logic op y (unplaced.expr xb)) isa.same ∙ ap (λ y. ExprForm-F.Logic op (unplaced.expr a) y) isb.same);
  }) fa fb
