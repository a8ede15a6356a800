-- Behind an operand the tightest operator that its levels allow is taken, or none is.
use Rattle.std.proofs.Common.{◌≡◌, ℕ, zero, suc, ◌+◌, ◌<◌, ◌≤◌, Bool, true, false, cond, List, [], ◌∷◌, length, drop, refl, ap, sym, ◌∙◌, subst, arith}
use Rattle.std.specs.Prelude.{Option, Some, None, Result, Ok, Err, IfOk}
use Rattle.std.specs.Option.{option_map, option_or}
use Rattle.std.proofs.lemmas.List.{length-drop, drop-drop}
use Rattle.js_tree.specs.declared.expression.Expr.{Expr}
use Rattle.js_tree.specs.declared.expression.ExprForm.{ExprForm}
use Rattle.js_tree.specs.declared.refusal.ReadRefused.{ReadRefused}
use Rattle.js_tree.specs.declared.refusal.ReadRefused.TheVariants.{Nested}
use Rattle.js_tree.specs.declared.token.TokenForm.{TokenForm}
use Rattle.js_tree.specs.declared.token.Token.{Token}
use Rattle.js_grammar.specs.Rest.{Rest, Reading, ◌>>=◌, behind, give, next, of_first, passed, repeat, finish}
use Rattle.js_grammar.proofs.Alike.{Setting, Alike, RuleAlike, Corresponds, later, taking, bind, bind_behind, gives, takes, finishes, repeats}
use Rattle.js_grammar.specs.Expressions as E
use Rattle.js_grammar.specs.Reading.{grammar}
use Rattle.js_grammar.proofs.AlikeParts.{further}
use Rattle.js_grammar.proofs.AlikeExpressions.{unary_too}
use Rattle.js_grammar.proofs.Tied.{exact, grammar_too}
use Rattle.js_grammar.proofs.Unrolled.{unrolled}
use Rattle.js_grammar.specs.Climbing.{Level, Found, found_at, tight, rule, read_all, rest, behind_operator, levels, Climbs}

-- ---- putting readings together

bound_ok : {A B : Type 0} (m : Reading A) (f : A → Reading B) (s : Rest) (P : B × Rest → Type 0) → ((a : A) (t : Rest) → m s ≡ Ok (a, t) → IfOk (f a t) P) → IfOk ((m >>= f) s) P
bound_ok m f s P h = by (m s) refl
  where
    by : (r : Result _ ReadRefused) → m s ≡ r → IfOk (behind r f) P
    by (Ok x) e = h x.0 x.1 e
    by (Err d) e = tt

same_behind : {A B : Type 0} (m : Reading A) (f g : A → Reading B) (s : Rest) → ((a : A) (t : Rest) → m s ≡ Ok (a, t) → f a t ≡ g a t) → (m >>= f) s ≡ (m >>= g) s
same_behind m f g s h = by (m s) refl
  where
    by : (r : Result _ ReadRefused) → m s ≡ r → behind r f ≡ behind r g
    by (Ok x) e = h x.0 x.1 e
    by (Err d) e = refl

pub assoc : {A B C : Type 0} (m : Reading A) (f : A → Reading B) (g : B → Reading C) (s : Rest) → ((m >>= f) >>= g) s ≡ (m >>= λ a. f a >>= g) s
assoc m f g s = by (m s)
  where
    by : (r : Result _ ReadRefused) → behind (behind r f) g ≡ behind r (λ a. f a >>= g)
    by (Ok x) = refl
    by (Err d) = refl

finish_keeps : (x : Expr) (form : ExprForm) (s : Rest) (both : Expr) (t : Rest) → finish x.at form s ≡ Ok (both, t) → t ≡ s
unfolding finish
finish_keeps x form s both t e = by (s.allows_expr s.functions (record { at = x.at; form = form })) e
  where
    by : (b : Bool) → cond {A = Result (Expr × Rest) ReadRefused} b (Ok (record { at = x.at; form = form }, s)) (Err (Nested x.at)) ≡ Ok (both, t) → t ≡ s
    by true e = let p : (record { at = x.at; form = form }, s) ≡ (both, t) = cc in sym (ap (λ (r : Expr × Rest). r.1) p)
    by false e = absurd (cc)

pub assoc3 : {A B C D E : Type 0} (m : Reading A) (f : A → Reading B) (g : A → B → Reading C) (h : C → Reading D) (k : D → Reading E) (s : Rest)
    → ((m >>= λ a. f a >>= λ b. g a b >>= h) >>= k) s ≡ (m >>= λ a. f a >>= λ b. g a b >>= λ c. h c >>= k) s
assoc3 m f g h k s = one (m s)
  where
    three : (r : Result _ ReadRefused) → behind (behind r h) k ≡ behind r (λ c. h c >>= k)
    three (Ok x) = refl
    three (Err e) = refl

    two : (a : _) (r : Result _ ReadRefused) → behind (behind r (λ b. g a b >>= h)) k ≡ behind r (λ b. g a b >>= λ c. h c >>= k)
    two a (Ok x) = three (g a x.0 x.1)
    two a (Err e) = refl

    one : (r : Result _ ReadRefused) → behind (behind r (λ a. f a >>= λ b. g a b >>= h)) k ≡ behind r (λ a. f a >>= λ b. g a b >>= λ c. h c >>= k)
    one (Ok x) = two x.0 (f x.0 x.1)
    one (Err e) = refl

next_none : {A B : Type 0} (want : TokenForm → Option A) (f : A → Reading B) (m : Reading B) (s : Rest) → of_first want s.tokens ≡ None → next want f m s ≡ m s
unfolding next
next_none want f m s e = rw e refl

next_some : {A B : Type 0} (want : TokenForm → Option A) (f : A → Reading B) (m : Reading B) (s : Rest) (a : A) → of_first want s.tokens ≡ Some a → next want f m s ≡ f a (passed s)
unfolding next
next_some want f m s a e = rw e refl

-- ---- the token that comes next

none_first : {a b : Option Found} → option_or a b ≡ None → (a ≡ None) × (b ≡ None)
none_first {a = None} {b = b} e = (refl, e)
none_first {a = Some x} e = absurd (cc)

none_mapped : {A : Type 0} (f : A → Found) (o : Option A) → option_map f o ≡ None → o ≡ None
none_mapped f None e = refl
none_mapped f (Some a) e = absurd (cc)

quiet : (n : ℕ) (l : Level) (ls : List Level) (zs : List Token) → of_first (tight n (l ∷ ls)) zs ≡ None → (of_first (tight (n + 1) ls) zs ≡ None) × (of_first l.operator zs ≡ None)
quiet n l ls [] e = (refl, refl)
quiet n l ls (t ∷ ts) e = let p = none_first e in (p.0, none_mapped (found_at l n) (l.operator t.form) p.1)

-- where an operator was found: at a tighter level, or at this one
data Loud (n : ℕ) (l : Level) (ls : List Level) (zs : List Token) (f : Found) : Type 0 where
  tighter : of_first (tight (n + 1) ls) zs ≡ Some f → Loud n l ls zs f
  this : (op : l.Operator) → of_first (tight (n + 1) ls) zs ≡ None → of_first l.operator zs ≡ Some op → f ≡ found_at l n op → Loud n l ls zs f

loud : (n : ℕ) (l : Level) (ls : List Level) (zs : List Token) (f : Found) → of_first (tight n (l ∷ ls)) zs ≡ Some f → Loud n l ls zs f
loud n l ls [] f e = absurd (cc)
loud n l ls (t ∷ ts) f e = by (tight (n + 1) ls t.form) refl (l.operator t.form) refl e
  where
    by : (a : Option Found) → tight (n + 1) ls t.form ≡ a → (o : Option l.Operator) → l.operator t.form ≡ o → option_or a (option_map (found_at l n) o) ≡ Some f → Loud n l ls (t ∷ ts) f
    by (Some g) is o has e = tighter (is ∙ e)
    by None is (Some op) has e = this op is has (cc)
    by None is None has e = absurd (cc)

module _ (operand : Reading Expr) (alike : (w : Setting) → Alike w true 0 operand operand) where
  rule_too : (l : Level) (w : Setting) {i : ℕ} {m n : Reading Expr} → Alike w true i m n → RuleAlike w i (rule operand l m) (rule operand l n)
  rule_too l w t = record {
    at = λ k le m n again left. takes w l.operator (λ op. bind w (taking w (later w (omega (arith, le)) t)) (λ right.
        bind w (finishes w left.at (l.form op left right)) (λ both. again both))) (gives w left);
  }

  read_all_too : (ls : List Level) (w : Setting) → Alike w true 0 (read_all operand ls) (read_all operand ls)
  read_all_too [] w = alike w
  read_all_too (l ∷ ls) w = bind_behind w (read_all_too ls w) (λ x. repeats w (rule_too l w (later w (omega arith) (read_all_too ls w))) x)

  rest_too : (ls : List Level) (w : Setting) (x : Expr) → Alike w false 0 (rest operand ls x) (rest operand ls x)
  rest_too [] w x = gives w x
  rest_too (l ∷ ls) w x = bind w (rest_too ls w x) (λ y. repeats w (rule_too l w (read_all_too ls w)) y)

  -- ---- no operator comes next

  unroll : (l : Level) (ls : List Level) (x : Expr) (s : Rest) → repeat (rule operand l (read_all operand ls)) x s ≡ rule operand l (read_all operand ls) (repeat (rule operand l (read_all operand ls))) x s
  unroll l ls x s = unrolled (rule operand l (read_all operand ls)) (λ w. rule_too l w (read_all_too ls w)) x s

  pub reduce : (ls : List Level) (n : ℕ) (x : Expr) (s : Rest) → of_first (tight n ls) s.tokens ≡ None → rest operand ls x s ≡ Ok (x, s)
  reduce [] n x s e = refl
  reduce (l ∷ ls) n x s e =
      let q = quiet n l ls s.tokens e in
      ap (λ r. behind r (repeat (rule operand l (read_all operand ls)))) (reduce ls (n + 1) x s q.0) ∙ unroll l ls x s ∙ next_none l.operator _ _ s q.1

  read_rest : (ls : List Level) (s : Rest) → read_all operand ls s ≡ (operand >>= rest operand ls) s
  read_rest [] s = unit (operand s)
    where
      unit : (r : Result (Expr × Rest) ReadRefused) → r ≡ behind r give
      unit (Ok x) = refl
      unit (Err e) = refl
  read_rest (l ∷ ls) s = ap (λ r. behind r (repeat (rule operand l (read_all operand ls)))) (read_rest ls s) ∙ assoc operand (rest operand ls) (repeat (rule operand l (read_all operand ls))) s

  shorter : {A : Type 0} (m : Reading A) (s : Rest) (a : A) (t : Rest) → ((w : Setting) → Alike w false 0 m m) → m s ≡ Ok (a, t) → length t.tokens ≤ length s.tokens
  shorter {A = A} m s a t h e =
      let w = exact s.tokens s.limit s.allows_expr s.allows_stmt in
      by (m s) e ((h w).at 0 s (omega arith) (record { left = refl; within = omega arith; limit = refl; exprs = refl; stmts = refl }))
    where
      by : (r : Result (A × Rest) ReadRefused) → r ≡ Ok (a, t) → Corresponds (exact s.tokens s.limit s.allows_expr s.allows_stmt) 0 r (m s) → length t.tokens ≤ length s.tokens
      by (Ok x) e c = let same : x.1 ≡ t = cc in omega (arith, ap (λ u. length u.tokens) same, ap length c.here.left, length-drop c.place s.tokens)
      by (Err d) e c = absurd (cc)

  -- ---- an operator comes next

  module _ (all : List Level) where
    abbrev Shift : ℕ → List Level → Type 0
    Shift n ls = (x : Expr) (s : Rest) (f : Found) → of_first (tight n ls) s.tokens ≡ Some f → rest operand ls x s ≡ behind_operator operand all ls x f (passed s)

    abbrev Quiet : ℕ → List Level → Type 0
    Quiet n ls = (x : Expr) (s : Rest) → IfOk (rest operand ls x s) (λ r. of_first (tight n ls) r.1.tokens ≡ None)

    some_first : {A : Type 0} (want : TokenForm → Option A) (a : A) (zs : List Token) → of_first want zs ≡ Some a → length (drop 1 zs) < length zs
    some_first want a [] e = absurd (cc)
    some_first want a (t ∷ ts) e = omega arith

    quiet_step : (n : ℕ) (ls : List Level) → Shift n ls → (x : Expr) (s : Rest) → ((y : Expr) (u : Rest) → length u.tokens < length s.tokens → IfOk (rest operand ls y u) (λ r. of_first (tight n ls) r.1.tokens ≡ None))
        → (o : Option Found) → of_first (tight n ls) s.tokens ≡ o → IfOk (rest operand ls x s) (λ r. of_first (tight n ls) r.1.tokens ≡ None)
    quiet_step n ls shift x s again None e = rw (reduce ls n x s e) e
    quiet_step n ls shift x s again (Some f) e =
        rw (shift x s f e)
        (bound_ok operand _ (passed s) _ (λ z t e1. bound_ok (rest operand (drop f.level all) z) _ t _ (λ y v e2. bound_ok (finish x.at (f.form x y)) _ v _ (λ both u e3.
        again both u (omega (
          arith,
          some_first (tight n ls) f s.tokens e,
          shorter operand (passed s) z t (λ w. taking w (alike w)) e1,
          shorter (rest operand (drop f.level all) z) t y v (λ w. rest_too (drop f.level all) w z) e2,
          ap (λ r. length r.tokens) (finish_keeps x (f.form x y) v both u e3),
        ))))))

    quiet_for : (fuel n : ℕ) (ls : List Level) → Shift n ls → (x : Expr) (s : Rest) → length s.tokens < fuel → IfOk (rest operand ls x s) (λ r. of_first (tight n ls) r.1.tokens ≡ None)
    quiet_for zero n ls shift x s few = absurd (omega (arith, few))
    quiet_for (suc fuel) n ls shift x s few =
        quiet_step n ls shift x s (λ y u less. quiet_for fuel n ls shift y u (omega (arith, few, less))) (of_first (tight n ls) s.tokens) refl

    no_level : (n : ℕ) (zs : List Token) (f : Found) → of_first (tight n []) zs ≡ Some f → None ≡ Some f
    no_level n [] f e = e
    no_level n (t ∷ ts) f e = e

    at_this : (n : ℕ) (l : Level) (ls : List Level) → ls ≡ drop (n + 1) all → Shift (n + 1) ls → (x : Expr) (s : Rest) (op : l.Operator) → of_first (tight (n + 1) ls) s.tokens ≡ None
        → of_first l.operator s.tokens ≡ Some op → rest operand (l ∷ ls) x s ≡ behind_operator operand all (l ∷ ls) x (found_at l n op) (passed s)
    at_this n l ls is shift x s op no_tighter has =
        let again : Expr → Reading Expr = repeat (rule operand l (read_all operand ls)) in
        let join : Expr → Reading Expr = λ y. finish x.at (l.form op x y) in
        let u : Rest = passed s in
        ap (λ r. behind r again) (reduce ls (n + 1) x s no_tighter) ∙ unroll l ls x s ∙ next_some l.operator _ _ s op has
        ∙ ap (λ r. behind r (λ y. join y >>= again)) (read_rest ls u)
        ∙ assoc operand (rest operand ls) (λ y. join y >>= again) u
        ∙ same_behind operand (λ z. rest operand ls z >>= λ y. join y >>= again) (λ z. rest operand (drop (n + 1) all) z >>= λ y. join y >>= rest operand (l ∷ ls)) u (λ z t e1.
        rw (sym is) (same_behind (rest operand ls z) (λ y. join y >>= again) (λ y. join y >>= rest operand (l ∷ ls)) t (λ y v e2.
        same_behind (join y) again (rest operand (l ∷ ls)) v (λ both r e3.
        let still : r ≡ v = finish_keeps x (l.form op x y) v both r e3 in
        let q : IfOk (rest operand ls z t) (λ r. of_first (tight (n + 1) ls) r.1.tokens ≡ None) = quiet_for (suc (length t.tokens)) (n + 1) ls shift z t (omega arith) in
        let here : of_first (tight (n + 1) ls) v.tokens ≡ None = subst (λ a. IfOk a (λ r. of_first (tight (n + 1) ls) r.1.tokens ≡ None)) e2 q in
        sym (ap (λ a. behind a again) (reduce ls (n + 1) both r (subst (λ k. of_first (tight (n + 1) ls) k.tokens ≡ None) (sym still) here)))))))

    shift_by : (n : ℕ) (l : Level) (ls : List Level) → ls ≡ drop (n + 1) all → Shift (n + 1) ls → (x : Expr) (s : Rest) (f : Found) → Loud n l ls s.tokens f
        → rest operand (l ∷ ls) x s ≡ behind_operator operand all (l ∷ ls) x f (passed s)
    shift_by n l ls is shift x s f (tighter e) =
        ap (λ r. behind r (repeat (rule operand l (read_all operand ls)))) (shift x s f e)
        ∙ assoc3 operand (rest operand (drop f.level all)) (λ z y. finish x.at (f.form x y)) (rest operand ls) (repeat (rule operand l (read_all operand ls))) (passed s)
    shift_by n l ls is shift x s f (this op no_tighter has same) = rw same (at_this n l ls is shift x s op no_tighter has)

    pub shift : (ls : List Level) (n : ℕ) → ls ≡ drop n all → Shift n ls
    shift [] n is x s f e = let never : None ≡ Some f = no_level n s.tokens f e in absurd (cc)
    shift (l ∷ ls) n is x s f e =
        let tail : ls ≡ drop (n + 1) all = ap (drop 1) is ∙ drop-drop 1 n all in
        shift_by n l ls tail (shift ls (n + 1) tail) x s f (loud n l ls s.tokens f e)

-- ---- the operators of the language

unary_alike : (w : Setting) → Alike w true 0 (E.unary grammar) (E.unary grammar)
unary_alike w = unary_too w (further w (omega arith) (grammar_too w))

begins : (allows_in : Bool) (s : Rest) → E.logical_or grammar allows_in s ≡ (E.unary grammar >>= rest (E.unary grammar) (levels allows_in)) s
unfolding E.logical_or E.logical_and E.bit_or E.bit_xor E.bit_and E.equality E.relational E.shift E.additive E.multiplicative
begins allows_in s = read_rest (E.unary grammar) unary_alike (levels allows_in) s

pub climbs : Climbs
climbs = record {
  begins = begins;
  goes_on = λ allows_in n. shift (E.unary grammar) unary_alike (levels allows_in) (drop n (levels allows_in)) n refl;
  ends = λ allows_in n. reduce (E.unary grammar) unary_alike (drop n (levels allows_in)) n;
}
