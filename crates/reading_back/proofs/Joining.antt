-- Which tokens go on with an expression of a level, production by production.
use Rattle.std.proofs.Common.{◌≡◌, ◌≤◌, ◌<◌, ℕ, zero, suc, ◌+◌, ◌-◌, Bool, true, false, cond, List, [], ◌∷◌, drop, refl, ap, sym, ◌∙◌, subst, arith}
use Rattle.std.proofs.lemmas.List.{drop-drop}
use Rattle.std.specs.Prelude.{◌&&◌, ◌||◌, not, Option, Some, None, is_some}
use Rattle.js_value.specs.declared.operator.BinaryOp.{BinaryOp}
use Rattle.js_value.specs.declared.operator.BinaryOp.TheVariants as binary
use Rattle.js_tree.specs.Lexing.{reserved_word}
use Rattle.js_tree.specs.declared.expression.ExprForm.TheVariants as e
use Rattle.js_tree.specs.declared.expression.LogicOp.{LogicOp}
use Rattle.js_tree.specs.declared.expression.LogicOp.TheVariants as logic
use Rattle.js_tree.specs.declared.token.TokenForm.{TokenForm}
use Rattle.js_grammar.specs.Climbing.{Level, Found, levels, tight}
use Rattle.js_grammar.specs.Expressions as E
use Rattle.js_grammar.specs.Marks
use Rattle.js_grammar.specs.Operators
use Rattle.js_grammar.specs.Reading.{grammar}
use Rattle.script_text.specs.Expressions.{operator, logic_operator, binary_level, logic_level}
use Rattle.script_text.specs.Tokens.{Shape, form_of}
use Rattle.reading_back.proofs.Claims.{below}
use Rattle.reading_back.proofs.Marks.{joins, begins_none}
use Rattle.reading_back.proofs.Steps.{first_of_shapes}

abbrev pub is_in_op : BinaryOp → Bool
is_in_op binary.In = true
is_in_op op = false

pub none : {A : Type 0} (o : Option A) → is_some o ≡ false → o ≡ None
none None e = refl
none (Some a) e = absurd (cc)

-- a test that would put the level too high fails
less : {A : Type 0} (o : Option A) (n m w : ℕ) → w ≤ n → cond (is_some o) n m < w → (o ≡ None) × (m < w)
less None n m w le h = (refl, h)
less (Some a) n m w le h = absurd (omega (arith, le, h))

-- the productions that don't go on with this token, of those as tight as a level
pub record Quiet (allows_in : Bool) (w : ℕ) (t : TokenForm) : Type 0 where
  pub dot : Marks.dot t ≡ None
  pub left_bracket : Marks.left_bracket t ≡ None
  pub left_parenthesis : Marks.left_parenthesis t ≡ None
  pub postfix : w ≤ 15 → Operators.postfix_operator t ≡ None
  pub multiplicative : w ≤ 13 → Operators.multiplicative_operator t ≡ None
  pub additive : w ≤ 12 → Operators.additive_operator t ≡ None
  pub shift : w ≤ 11 → Operators.shift_operator t ≡ None
  pub relational : w ≤ 10 → E.relational_operator grammar allows_in t ≡ None
  pub equality : w ≤ 9 → Operators.equality_operator t ≡ None
  pub bit_and : w ≤ 8 → Operators.bit_and_operator t ≡ None
  pub bit_xor : w ≤ 7 → Operators.bit_xor_operator t ≡ None
  pub bit_or : w ≤ 6 → Operators.bit_or_operator t ≡ None
  pub and : w ≤ 5 → Operators.and_operator t ≡ None
  pub or : w ≤ 4 → Operators.or_operator t ≡ None
  pub question : w ≤ 3 → Marks.question t ≡ None
  pub assignment : w ≤ 2 → Operators.assignment_operator t ≡ None
  pub comma : w ≤ 1 → Marks.comma t ≡ None

pub quiet : (allows_in : Bool) (w : ℕ) (t : TokenForm) → w ≤ 16 → joins allows_in t < w → Quiet allows_in w t
unfolding joins
quiet allows_in w t le h =
    let a = less (Marks.dot t) 16 _ w le h in
    let b = less (Marks.left_bracket t) 16 _ w le a.1 in
    let c = less (Marks.left_parenthesis t) 16 _ w le b.1 in
    let p = λ (l : w ≤ 15). less (Operators.postfix_operator t) 15 _ w l c.1 in
    let m = λ (l : w ≤ 13). less (Operators.multiplicative_operator t) 13 _ w l (p (omega (arith, l))).1 in
    let d = λ (l : w ≤ 12). less (Operators.additive_operator t) 12 _ w l (m (omega (arith, l))).1 in
    let s = λ (l : w ≤ 11). less (Operators.shift_operator t) 11 _ w l (d (omega (arith, l))).1 in
    let r = λ (l : w ≤ 10). less (E.relational_operator grammar allows_in t) 10 _ w l (s (omega (arith, l))).1 in
    let q = λ (l : w ≤ 9). less (Operators.equality_operator t) 9 _ w l (r (omega (arith, l))).1 in
    let ba = λ (l : w ≤ 8). less (Operators.bit_and_operator t) 8 _ w l (q (omega (arith, l))).1 in
    let bx = λ (l : w ≤ 7). less (Operators.bit_xor_operator t) 7 _ w l (ba (omega (arith, l))).1 in
    let bo = λ (l : w ≤ 6). less (Operators.bit_or_operator t) 6 _ w l (bx (omega (arith, l))).1 in
    let an = λ (l : w ≤ 5). less (Operators.and_operator t) 5 _ w l (bo (omega (arith, l))).1 in
    let ro = λ (l : w ≤ 4). less (Operators.or_operator t) 4 _ w l (an (omega (arith, l))).1 in
    let qu = λ (l : w ≤ 3). less (Marks.question t) 3 _ w l (ro (omega (arith, l))).1 in
    let gn = λ (l : w ≤ 2). less (Operators.assignment_operator t) 2 _ w l (qu (omega (arith, l))).1 in
    let co = λ (l : w ≤ 1). less (Marks.comma t) 1 _ w l (gn (omega (arith, l))).1 in
    record {
      dot = a.0;
      left_bracket = b.0;
      left_parenthesis = c.0;
      postfix = λ l. (p l).0;
      multiplicative = λ l. (m l).0;
      additive = λ l. (d l).0;
      shift = λ l. (s l).0;
      relational = λ l. (r l).0;
      equality = λ l. (q l).0;
      bit_and = λ l. (ba l).0;
      bit_xor = λ l. (bx l).0;
      bit_or = λ l. (bo l).0;
      and = λ l. (an l).0;
      or = λ l. (ro l).0;
      question = λ l. (qu l).0;
      assignment = λ l. (gn l).0;
      comma = λ l. (co l).0;
    }

-- what none of the productions as tight as a level wants, where it stands first
pub first_none : {A : Type 0} (want : TokenForm → Option A) (allows_in : Bool) (w : ℕ) (rest : List Shape) → w ≤ 16
    → ((t : TokenForm) → Quiet allows_in w t → want t ≡ None) → below allows_in w rest → first_of_shapes want rest ≡ None
first_none want allows_in w [] le h below = refl
first_none want allows_in w (s ∷ ss) le h below = h s.form (quiet allows_in w s.form le below)

-- ---- operators with two operands

AllQuiet : List Level → TokenForm → Type 0
AllQuiet [] t = Unit {0}
AllQuiet (l ∷ ls) t = (l.operator t ≡ None) × AllQuiet ls t

nothing : (n : ℕ) (t : TokenForm) → AllQuiet (drop n []) t
unfolding AllQuiet
nothing zero t = tt
nothing (suc n) t = tt

none_tight : (n : ℕ) (ls : List Level) (t : TokenForm) → AllQuiet ls t → tight n ls t ≡ None
unfolding AllQuiet
none_tight n [] t q = refl
none_tight n (l ∷ ls) t q = rw (none_tight (n + 1) ls t q.1, q.0) refl

module _ (allows_in : Bool) (w : ℕ) (t : TokenForm) (q : Quiet allows_in w t) where
  from_multiplicative : w ≤ 13 → AllQuiet (drop 9 (levels allows_in)) t
  unfolding AllQuiet
  from_multiplicative le = (q.multiplicative le, tt)

  from_additive : w ≤ 12 → AllQuiet (drop 8 (levels allows_in)) t
  unfolding AllQuiet
  from_additive le = (q.additive le, from_multiplicative (omega (arith, le)))

  from_shift : w ≤ 11 → AllQuiet (drop 7 (levels allows_in)) t
  unfolding AllQuiet
  from_shift le = (q.shift le, from_additive (omega (arith, le)))

  from_relational : w ≤ 10 → AllQuiet (drop 6 (levels allows_in)) t
  unfolding AllQuiet
  from_relational le = (q.relational le, from_shift (omega (arith, le)))

  from_equality : w ≤ 9 → AllQuiet (drop 5 (levels allows_in)) t
  unfolding AllQuiet
  from_equality le = (q.equality le, from_relational (omega (arith, le)))

  from_bit_and : w ≤ 8 → AllQuiet (drop 4 (levels allows_in)) t
  unfolding AllQuiet
  from_bit_and le = (q.bit_and le, from_equality (omega (arith, le)))

  from_bit_xor : w ≤ 7 → AllQuiet (drop 3 (levels allows_in)) t
  unfolding AllQuiet
  from_bit_xor le = (q.bit_xor le, from_bit_and (omega (arith, le)))

  from_bit_or : w ≤ 6 → AllQuiet (drop 2 (levels allows_in)) t
  unfolding AllQuiet
  from_bit_or le = (q.bit_or le, from_bit_xor (omega (arith, le)))

  from_and : w ≤ 5 → AllQuiet (drop 1 (levels allows_in)) t
  unfolding AllQuiet
  from_and le = (q.and le, from_bit_or (omega (arith, le)))

  from_or : w ≤ 4 → AllQuiet (drop 0 (levels allows_in)) t
  unfolding AllQuiet
  from_or le = (q.or le, from_and (omega (arith, le)))

  all_quiet : (n : ℕ) → w ≤ n + 4 → AllQuiet (drop n (levels allows_in)) t
  unfolding AllQuiet
  all_quiet zero le = from_or le
  all_quiet (suc zero) le = from_and le
  all_quiet (suc (suc zero)) le = from_bit_or le
  all_quiet (suc (suc (suc zero))) le = from_bit_xor le
  all_quiet (suc (suc (suc (suc zero)))) le = from_bit_and le
  all_quiet (suc (suc (suc (suc (suc zero))))) le = from_equality le
  all_quiet (suc (suc (suc (suc (suc (suc zero)))))) le = from_relational le
  all_quiet (suc (suc (suc (suc (suc (suc (suc zero))))))) le = from_shift le
  all_quiet (suc (suc (suc (suc (suc (suc (suc (suc zero)))))))) le = from_additive le
  all_quiet (suc (suc (suc (suc (suc (suc (suc (suc (suc zero))))))))) le = from_multiplicative le
  all_quiet (suc (suc (suc (suc (suc (suc (suc (suc (suc (suc n)))))))))) le = nothing n t

-- no operator of a level or a tighter one
pub no_operator : (allows_in : Bool) (n w : ℕ) (rest : List Shape) → w ≤ 16 → w ≤ n + 4 → below allows_in w rest
    → first_of_shapes (tight n (drop n (levels allows_in))) rest ≡ None
no_operator allows_in n w rest le at h = first_none _ allows_in w rest le (λ t q. none_tight n (drop n (levels allows_in)) t (all_quiet allows_in w t q n at)) h

-- an operator that a tighter level has is the one that is found
down : (t : TokenForm) (f : Found) (k n : ℕ) (ls : List Level) → tight (n + k) (drop k ls) t ≡ Some f → tight n ls t ≡ Some f
down t f zero n ls e = let same : n + 0 ≡ n = omega arith in subst (λ m. tight m ls t ≡ Some f) same e
down t f (suc k) n [] e = absurd (cc)
down t f (suc k) n (l ∷ ls) e =
    let same : n + suc k ≡ n + 1 + k = omega arith in
    rw (down t f k (n + 1) ls (subst (λ m. tight m (drop k ls) t ≡ Some f) same e)) refl

found_from : (allows_in : Bool) (t : TokenForm) (f : Found) (m n : ℕ) → n ≤ m → tight m (drop m (levels allows_in)) t ≡ Some f → tight n (drop n (levels allows_in)) t ≡ Some f
found_from allows_in t f m n le e =
    let same : n + (m - n) ≡ m = omega (arith, le) in
    down t f (m - n) n (drop n (levels allows_in))
    (subst (λ k. tight k (drop (m - n) (drop n (levels allows_in))) t ≡ Some f) (sym same)
    (subst (λ ls. tight m ls t ≡ Some f) (sym (drop-drop (m - n) n (levels allows_in) ∙ ap (λ k. drop k (levels allows_in)) same)) e))

-- ---- the operators that are written (11.5 to 11.11)

abbrev pub found_binary : BinaryOp → Found
found_binary op = record { form = λ a b. e.Binary op a b; level = binary_level op - 3 }

abbrev FindsBinary : BinaryOp → Bool → Type 0
FindsBinary op allows_in = tight (binary_level op - 4) (drop (binary_level op - 4) (levels allows_in)) (form_of (operator op)) ≡ Some (found_binary op)

binary_found : (op : BinaryOp) (allows_in : Bool) → (is_in_op op && not allows_in) ≡ false → FindsBinary op allows_in
unfolding form_of reserved_word
binary_found binary.Add allows_in e = refl
binary_found binary.Sub allows_in e = refl
binary_found binary.Mul allows_in e = refl
binary_found binary.Div allows_in e = refl
binary_found binary.Rem allows_in e = refl
binary_found binary.Shl allows_in e = refl
binary_found binary.Sar allows_in e = refl
binary_found binary.Shr allows_in e = refl
binary_found binary.BitAnd true e = refl
binary_found binary.BitAnd false e = refl
binary_found binary.BitOr true e = refl
binary_found binary.BitOr false e = refl
binary_found binary.BitXor true e = refl
binary_found binary.BitXor false e = refl
binary_found binary.Less allows_in e = refl
binary_found binary.Greater allows_in e = refl
binary_found binary.LessEqual allows_in e = refl
binary_found binary.GreaterEqual allows_in e = refl
binary_found binary.Equal true e = refl
binary_found binary.Equal false e = refl
binary_found binary.NotEqual true e = refl
binary_found binary.NotEqual false e = refl
binary_found binary.Same true e = refl
binary_found binary.Same false e = refl
binary_found binary.NotSame true e = refl
binary_found binary.NotSame false e = refl
binary_found binary.InstanceOf allows_in e = refl
binary_found binary.In true e = refl
binary_found binary.In false e = absurd (cc)

pub binary_joins : (op : BinaryOp) (allows_in : Bool) → (is_in_op op && not allows_in) ≡ false → joins allows_in (form_of (operator op)) ≡ binary_level op
unfolding form_of reserved_word joins
binary_joins binary.Add allows_in e = refl
binary_joins binary.Sub allows_in e = refl
binary_joins binary.Mul allows_in e = refl
binary_joins binary.Div allows_in e = refl
binary_joins binary.Rem allows_in e = refl
binary_joins binary.Shl allows_in e = refl
binary_joins binary.Sar allows_in e = refl
binary_joins binary.Shr allows_in e = refl
binary_joins binary.BitAnd true e = refl
binary_joins binary.BitAnd false e = refl
binary_joins binary.BitOr true e = refl
binary_joins binary.BitOr false e = refl
binary_joins binary.BitXor true e = refl
binary_joins binary.BitXor false e = refl
binary_joins binary.Less allows_in e = refl
binary_joins binary.Greater allows_in e = refl
binary_joins binary.LessEqual allows_in e = refl
binary_joins binary.GreaterEqual allows_in e = refl
binary_joins binary.Equal true e = refl
binary_joins binary.Equal false e = refl
binary_joins binary.NotEqual true e = refl
binary_joins binary.NotEqual false e = refl
binary_joins binary.Same true e = refl
binary_joins binary.Same false e = refl
binary_joins binary.NotSame true e = refl
binary_joins binary.NotSame false e = refl
binary_joins binary.InstanceOf allows_in e = refl
binary_joins binary.In true e = refl
binary_joins binary.In false e = absurd (cc)

logic_found : (op : LogicOp) (allows_in : Bool) → tight (logic_level op - 4) (drop (logic_level op - 4) (levels allows_in)) (form_of (logic_operator op)) ≡ Some (record { form = λ a b. e.Logic op a b; level = logic_level op - 3 })
unfolding form_of reserved_word
logic_found logic.And true = refl
logic_found logic.And false = refl
logic_found logic.Or true = refl
logic_found logic.Or false = refl

pub logic_joins : (op : LogicOp) (allows_in : Bool) → joins allows_in (form_of (logic_operator op)) ≡ logic_level op
unfolding form_of reserved_word joins
logic_joins logic.And true = refl
logic_joins logic.And false = refl
logic_joins logic.Or true = refl
logic_joins logic.Or false = refl

-- an operator is found from every looser level on
pub binary_is_found : (op : BinaryOp) (allows_in : Bool) (n : ℕ) → (is_in_op op && not allows_in) ≡ false → n + 4 ≤ binary_level op
    → tight n (drop n (levels allows_in)) (form_of (operator op)) ≡ Some (found_binary op)
binary_is_found op allows_in n e le = found_from allows_in _ (found_binary op) (binary_level op - 4) n (omega (arith, le)) (binary_found op allows_in e)

abbrev pub found_logic : LogicOp → Found
found_logic op = record { form = λ a b. e.Logic op a b; level = logic_level op - 3 }

pub logic_is_found : (op : LogicOp) (allows_in : Bool) (n : ℕ) → n + 4 ≤ logic_level op → tight n (drop n (levels allows_in)) (form_of (logic_operator op)) ≡ Some (found_logic op)
logic_is_found op allows_in n le = found_from allows_in _ (found_logic op) (logic_level op - 4) n (omega (arith, le)) (logic_found op allows_in)

-- ---- tokens that begin an expression

pub or_false : (a b : Bool) → (a || b) ≡ false → (a ≡ false) × (b ≡ false)
or_false true b e = absurd (cc)
or_false false b e = (refl, e)

pub record Begins (t : TokenForm) : Type 0 where
  pub right_parenthesis : Marks.right_parenthesis t ≡ None
  pub right_bracket : Marks.right_bracket t ≡ None
  pub right_brace : Marks.right_brace t ≡ None
  pub comma : Marks.comma t ≡ None
  pub semicolon : Marks.semicolon t ≡ None
  pub in_word : Marks.in_word t ≡ None
  pub case_word : Marks.case_word t ≡ None
  pub default_word : Marks.default_word t ≡ None
  pub else_word : Marks.else_word t ≡ None
  pub finally_word : Marks.finally_word t ≡ None

pub begins : (t : TokenForm) → begins_none t ≡ false → Begins t
unfolding begins_none
begins t e =
    let v = or_false _ _ e in
    let x = or_false _ _ v.0 in
    let y = or_false _ _ x.0 in
    let z = or_false _ _ y.0 in
    let a = or_false _ _ z.0 in
    let b = or_false _ _ a.0 in
    let c = or_false _ _ b.0 in
    let d = or_false _ _ c.0 in
    let f = or_false _ _ d.0 in
    record {
      right_parenthesis = none (Marks.right_parenthesis t) f.0;
      right_bracket = none (Marks.right_bracket t) f.1;
      right_brace = none (Marks.right_brace t) d.1;
      comma = none (Marks.comma t) c.1;
      semicolon = none (Marks.semicolon t) b.1;
      in_word = none (Marks.in_word t) a.1;
      case_word = none (Marks.case_word t) z.1;
      default_word = none (Marks.default_word t) y.1;
      else_word = none (Marks.else_word t) x.1;
      finally_word = none (Marks.finally_word t) v.1;
    }
