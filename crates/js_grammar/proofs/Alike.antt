-- Readings that do alike: on what stands behind some of the tokens of a text, and where the right one may allow more.
use Rattle.std.proofs.Common.{◌≡◌, ℕ, zero, suc, ◌+◌, ◌-◌, ◌<◌, ◌≤◌, Bool, true, false, cond, List, [], ◌∷◌, ◌++◌, length, drop, refl, ap, sym, ◌∙◌, subst, arith}
use Rattle.std.proofs.lemmas.List.{length-drop, drop-drop}
use Rattle.std.specs.Prelude.{slice_set, nat_lt, Option, Some, None, Result, Ok, Err}
use Rattle.js_value.specs.declared.place.Place.{Place}
use Rattle.js_tree.specs.declared.expression.Expr.{Expr}
use Rattle.js_tree.specs.declared.expression.ExprForm.{ExprForm}
use Rattle.js_tree.specs.declared.refusal.Feature.{Feature}
use Rattle.js_tree.specs.declared.refusal.ReadRefused.{ReadRefused}
use Rattle.js_tree.specs.declared.refusal.ReadRefused.TheVariants.{Nested, Syntax, Unsupported}
use Rattle.js_tree.specs.declared.statement.Func.{Func}
use Rattle.js_tree.specs.declared.statement.Stmt.{Stmt}
use Rattle.js_tree.specs.declared.statement.StmtForm.{StmtForm}
use Rattle.js_tree.specs.declared.token.TokenForm.{TokenForm}
use Rattle.js_tree.specs.declared.token.Token.{Token}
use Rattle.js_grammar.specs.Rest.{Rest, Reading, give, behind, ◌>>=◌, refuse, unless}
use Rattle.js_grammar.specs.Rest.{unexpected, of_first, passed, go_on, next, expect, repeat, again, enter, leave, part, is_empty, place_of}
use Rattle.js_grammar.specs.Rest.{not_read_yet, begin, keep, numbered, finish, finish_stmt}

-- what the right reading allows where the left one tests
abbrev pub Tests : (ReadRefused → Type 0) → Place → Bool → Bool → Type 0
Tests excused at true c = c ≡ true
Tests excused at false true = excused (Nested at)
Tests excused at false false = Unit {0}

-- The tokens of a text, what may be open and what may be finished in two readings of it, and which refusals of the left one the
-- right one needn't have.
pub record Setting : Type 1 where
  pub tokens : List Token
  pub limit : ℕ
  pub greater : ℕ
  pub exprs : List Func → Expr → Bool
  pub more_exprs : List Func → Expr → Bool
  pub stmts : List Func → Stmt → Bool
  pub more_stmts : List Func → Stmt → Bool
  pub excused : ReadRefused → Type 0
  pub opens : (at : Place) (k : ℕ) → Tests excused at (nat_lt k limit) (nat_lt k greater)
  pub finishes : (functions : List Func) (x : Expr) → Tests excused x.at (exprs functions x) (more_exprs functions x)
  pub ends : (functions : List Func) (t : Stmt) → Tests excused t.at (stmts functions t) (more_stmts functions t)

-- tokens that are skipped are dropped
pub skipped : (j : ℕ) (ts : List Token) → j ≤ length ts → drop (length ts - length (drop j ts)) ts ≡ drop j ts
skipped j ts within = let e : length ts - length (drop j ts) ≡ j = omega (arith, length-drop j ts) in ap (λ n. drop n ts) e

module _ (w : Setting) where
  -- what is left of the text without so many tokens
  pub record At (k : ℕ) (s : Rest) : Type 0 where
    pub left : s.tokens ≡ drop k w.tokens
    pub within : k ≤ length w.tokens
    pub limit : s.limit ≡ w.limit
    pub exprs : s.allows_expr ≡ w.exprs
    pub stmts : s.allows_stmt ≡ w.stmts

  abbrev pub relaxed : Rest → Rest
  relaxed s = record s { limit = w.greater; allows_expr = w.more_exprs; allows_stmt = w.more_stmts }

  pub record Went {A : Type 0} (k : ℕ) (a : A) (t : Rest) (r : Result (A × Rest) ReadRefused) : Type 0 where
    pub place : ℕ
    pub from : k ≤ place
    pub here : At place t
    pub same : r ≡ Ok (a, relaxed t)

  pub data Failed {A : Type 0} (e : ReadRefused) (r : Result (A × Rest) ReadRefused) : Type 0 where
    too : r ≡ Err e → Failed e r
    only : w.excused e → Failed e r

  abbrev pub Corresponds : {A : Type 0} → ℕ → Result (A × Rest) ReadRefused → Result (A × Rest) ReadRefused → Type 0
  Corresponds k (Ok x) r = Went k x.0 x.1 r
  Corresponds k (Err e) r = Failed e r

  -- behind a token, where one was taken
  abbrev pub past : Bool → ℕ → ℕ
  past false k = k
  past true k = suc k

  -- both give the same from so many tokens on, and go on behind them, or behind one more
  pub record Alike {A : Type 0} (some : Bool) (i : ℕ) (m n : Reading A) : Type 0 where
    pub at : (k : ℕ) (s : Rest) → i ≤ k → At k s → Corresponds (past some k) (m s) (n (relaxed s))

  pub later : {A : Type 0} {some : Bool} {i j : ℕ} {m n : Reading A} → i ≤ j → Alike some i m n → Alike some j m n
  later le h = record { at = λ k s below is. h.at k s (omega (arith, le, below)) is }

  nearer : {A : Type 0} (j k : ℕ) (r q : Result (A × Rest) ReadRefused) → j ≤ k → Corresponds k r q → Corresponds j r q
  nearer j k (Ok x) q le h = record { place = h.place; from = omega (arith, le, h.from); here = h.here; same = h.same }
  nearer j k (Err e) q le h = h

  past_within : (some : Bool) (j k : ℕ) → j ≤ k → past some j ≤ past some k
  past_within false j k le = le
  past_within true j k le = omega (arith, le)

  past_more : (some : Bool) (k : ℕ) → past some k ≤ suc k
  past_more false k = omega arith
  past_more true k = omega arith

  -- what takes a token may as well take none
  pub taking : {A : Type 0} {i : ℕ} {m n : Reading A} → Alike true i m n → Alike false i m n
  taking h = record { at = λ k s le is. nearer k (suc k) _ _ (omega arith) (h.at k s le is) }

  -- ---- steps

  bound : {A B : Type 0} (first some : Bool) (i k : ℕ) (f g : A → Reading B) (r q : Result (A × Rest) ReadRefused) → i ≤ k → ((a : A) → Alike some (past first i) (f a) (g a))
      → Corresponds (past first k) r q → Corresponds (past some (past first k)) (behind r f) (behind q g)
  bound first some i k f g (Ok x) q le next h =
      rw h.same (nearer (past some (past first k)) (past some h.place) _ _ (past_within some _ _ h.from)
      ((next x.0).at h.place x.1 (omega (arith, past_within first i k le, h.from)) h.here))
  bound first some i k f g (Err e) q le next (too same) = rw same (too refl)
  bound first some i k f g (Err e) q le next (only x) = only x

  pub bind : {A B : Type 0} {some : Bool} {i : ℕ} {m n : Reading A} {f g : A → Reading B} → Alike false i m n → ((a : A) → Alike some i (f a) (g a))
      → Alike some i (m >>= f) (n >>= g)
  bind h next = record { at = λ k s le is. bound false _ _ k _ _ _ _ le next (h.at k s le is) }

  -- behind what takes a token
  pub bind_behind : {A B : Type 0} {i : ℕ} {m n : Reading A} {f g : A → Reading B} → Alike true i m n → ((a : A) → Alike false (suc i) (f a) (g a))
      → Alike true i (m >>= f) (n >>= g)
  bind_behind h next = record { at = λ k s le is. bound true false _ k _ _ _ _ le next (h.at k s le is) }

  past_least : (some : Bool) (i : ℕ) → i ≤ past some i
  past_least false i = omega arith
  past_least true i = omega arith

  -- where what takes a token or none comes first
  pub bind_first : {A B : Type 0} {some : Bool} {i : ℕ} {m n : Reading A} {f g : A → Reading B} → Alike some i m n → ((a : A) → Alike false i (f a) (g a))
      → Alike some i (m >>= f) (n >>= g)
  bind_first {some = some} {i = i} h next = record { at = λ k s le is. bound some false _ k _ _ _ _ le (λ a. later (past_least some i) (next a)) (h.at k s le is) }

  pub stays : {A : Type 0} (k : ℕ) (a : A) (s : Rest) → At k s → Went k a s (Ok (a, relaxed s))
  stays k a s is = record { place = k; from = omega arith; here = is; same = refl }

  pub gives : {A : Type 0} {i : ℕ} (a : A) → Alike false i (give a) (give a)
  gives a = record { at = λ k s le is. stays k a s is }

  -- a look at what is left
  pub looks : {A : Type 0} {i : ℕ} (f : Rest → A) → ((s : Rest) → f (relaxed s) ≡ f s) → Alike false i (λ s. Ok (f s, s)) (λ s. Ok (f s, s))
  looks f same = record { at = λ k s le is. rw (same s) (stays k (f s) s is) }

  pub refuses : {A : Type 0} {some : Bool} {i : ℕ} (e : ReadRefused) → Alike some i (refuse {A = A} e) (refuse e)
  refuses e = record { at = λ k s le is. too refl }

  pub misses : {A : Type 0} {some : Bool} {i : ℕ} → Alike some i (unexpected {A = A}) unexpected
  misses = record { at = λ k s le is. too refl }

  pub chooses : {A : Type 0} {some : Bool} {i : ℕ} (b : Bool) {m n p q : Reading A} → Alike some i m n → Alike some i p q → Alike some i (cond b m p) (cond b n q)
  chooses true h l = h
  chooses false h l = l

  pub bars : {A : Type 0} {some : Bool} {i : ℕ} (at : Place) (what : Option Feature) {m n : Reading A} → Alike some i m n → Alike some i (unless at what m) (unless at what n)
  bars at None h = h
  bars at (Some x) h = refuses (Unsupported at x)

  -- ---- tokens

  some_left : (k : ℕ) (zs : List Token) (t : Token) (ts : List Token) → zs ≡ t ∷ ts → zs ≡ drop k w.tokens → suc k ≤ length w.tokens
  some_left k zs t ts e left = omega (arith, length-drop k w.tokens, ap length (sym left ∙ e))

  more : (k : ℕ) → k + 1 ≡ suc k
  more k = omega arith

  behind_one : (k : ℕ) (s : Rest) (t : Token) (ts : List Token) → s.tokens ≡ t ∷ ts → At k s → At (suc k) (passed s)
  behind_one k s t ts e is = record {
    left = ap (drop 1) is.left ∙ drop-drop 1 k w.tokens ∙ ap (λ n. drop n w.tokens) (more k);
    within = some_left k s.tokens t ts e is.left;
    limit = is.limit;
    exprs = is.exprs;
    stmts = is.stmts;
  }

  went_on : {A B : Type 0} (some : Bool) (i k : ℕ) (want : TokenForm → Option A) {f g : A → Reading B} {m n : Reading B} → i ≤ k → ((a : A) → Alike false (suc i) (f a) (g a)) → Alike some i m n
      → (s : Rest) → At k s → (zs : List Token) → s.tokens ≡ zs → (o : Option A) → of_first want zs ≡ o → Corresponds (past some k) (go_on o f m s) (go_on o g n (relaxed s))
  went_on some i k want le found other s is zs e None first = other.at k s le is
  went_on some i k want le found other s is [] e (Some a) first = absurd (cc)
  went_on some i k want le found other s is (t ∷ ts) e (Some a) first =
      nearer (past some k) (suc k) _ _ (past_more some k) ((found a).at (suc k) (passed s) (omega (arith, le)) (behind_one k s t ts e is))

  pub takes : {A B : Type 0} {some : Bool} {i : ℕ} (want : TokenForm → Option A) {f g : A → Reading B} {m n : Reading B} → ((a : A) → Alike false (suc i) (f a) (g a))
      → Alike some i m n → Alike some i (next want f m) (next want g n)
  unfolding next
  takes want found other = record { at = λ k s le is. went_on _ _ k want le found other s is s.tokens refl (of_first want s.tokens) refl }

  pub expects : {A : Type 0} {i : ℕ} (want : TokenForm → Option A) → Alike true i (expect want) (expect want)
  expects want = takes want (λ a. gives a) misses

  -- ---- open and finished parts, functions

  tested : {A : Type 0} (k : ℕ) (at : Place) (b c : Bool) (r q : Result (A × Rest) ReadRefused) → Tests w.excused at b c → Corresponds k r q
      → Corresponds k (cond b r (Err (Nested at))) (cond c q (Err (Nested at)))
  tested k at true c r q allowed h = rw allowed h
  tested k at false false r q allowed h = too refl
  tested k at false true r q allowed h = only allowed

  tested_by : {A : Type 0} (k : ℕ) (at : Place) (b d c : Bool) (r q : Result (A × Rest) ReadRefused) → b ≡ d → Tests w.excused at d c → Corresponds k r q
      → Corresponds k (cond b r (Err (Nested at))) (cond c q (Err (Nested at)))
  tested_by k at b d c r q e allowed h = tested k at b c r q (subst (λ x. Tests w.excused at x c) (sym e) allowed) h

  -- what is open and which functions were begun may change
  pub changes : {A : Type 0} {i : ℕ} (f : Rest → A) (g : Rest → Rest) → ((s : Rest) → f (relaxed s) ≡ f s) → ((s : Rest) → g (relaxed s) ≡ relaxed (g s))
      → ((k : ℕ) (s : Rest) → At k s → At k (g s)) → Alike false i (λ s. Ok (f s, g s)) (λ s. Ok (f s, g s))
  changes f g same_f same_g still = record { at = λ k s le is. rw (same_f s, same_g s) (record { place = k; from = omega arith; here = still k s is; same = refl }) }

  unless_ended : {A : Type 0} (k : ℕ) (at : Place) (b : Bool) (r q : Result (A × Rest) ReadRefused) → Corresponds k r q → Corresponds k (cond b (Err (Syntax at)) r) (cond b (Err (Syntax at)) q)
  unless_ended k at true r q h = too refl
  unless_ended k at false r q h = h

  more_open : (k n : ℕ) (s : Rest) → At k s → At k (record s { opened = n })
  more_open k n s is = record { left = is.left; within = is.within; limit = is.limit; exprs = is.exprs; stmts = is.stmts }

  enters : {i : ℕ} → Alike false i enter enter
  unfolding enter
  enters = record {
    at = λ k s le is. unless_ended _ s.end (is_empty s.tokens) _ _
        (tested_by k (place_of s.tokens s.end) (nat_lt s.opened s.limit) (nat_lt s.opened w.limit) (nat_lt s.opened w.greater) _ _ (ap (nat_lt s.opened) is.limit) (w.opens (place_of s.tokens s.end) s.opened)
        (record { place = k; from = omega arith; here = more_open k (s.opened + 1) s is; same = refl }));
  }

  leaves : {i : ℕ} (n : ℕ) → Alike false i (leave n) (leave n)
  unfolding leave
  leaves n = changes (λ s. tt) (λ s. record s { opened = n }) (λ s. refl) (λ s. refl) (λ k s is. more_open k n s is)

  pub opens : {A : Type 0} {some : Bool} {i : ℕ} {m n : Reading A} → Alike some i m n → Alike some i (part m) (part n)
  unfolding part
  opens h = bind enters (λ opened. bind_first h (λ x. bind (leaves opened) (λ _. gives x)))

  begins : {i : ℕ} (at : Place) → Alike false i (begin at) (begin at)
  unfolding begin
  begins at = changes (λ s. length s.functions) (λ s. record s { functions = s.functions ++ (not_read_yet at ∷ []) }) (λ s. refl) (λ s. refl)
      (λ k s is. record { left = is.left; within = is.within; limit = is.limit; exprs = is.exprs; stmts = is.stmts })

  keeps : {i : ℕ} (n : ℕ) (f : Func) → Alike false i (keep n f) (keep n f)
  unfolding keep
  keeps n f = changes (λ s. record { 0 = n }) (λ s. record s { functions = slice_set s.functions n f }) (λ s. refl) (λ s. refl)
      (λ k s is. record { left = is.left; within = is.within; limit = is.limit; exprs = is.exprs; stmts = is.stmts })

  pub numbers : {some : Bool} {i : ℕ} (at : Place) {m n : Reading Func} → Alike some i m n → Alike some i (numbered at m) (numbered at n)
  unfolding numbered
  numbers at h = bind (begins at) (λ n. bind_first h (λ f. keeps n f))

  pub finishes : {i : ℕ} (at : Place) (form : ExprForm) → Alike false i (finish at form) (finish at form)
  unfolding finish
  finishes at form = record {
    at = λ k s le is.
        let x : Expr = record { at = at; form = form } in
        tested_by k at (s.allows_expr s.functions x) (w.exprs s.functions x) (w.more_exprs s.functions x) (Ok (x, s)) (Ok (x, relaxed s)) (ap (λ f. f s.functions x) is.exprs) (w.finishes s.functions x) (stays k x s is);
  }

  pub finishes_stmt : {i : ℕ} (at : Place) (form : StmtForm) → Alike false i (finish_stmt at form) (finish_stmt at form)
  unfolding finish_stmt
  finishes_stmt at form = record {
    at = λ k s le is.
        let t : Stmt = record { at = at; form = form } in
        tested_by k at (s.allows_stmt s.functions t) (w.stmts s.functions t) (w.more_stmts s.functions t) (Ok (t, s)) (Ok (t, relaxed s)) (ap (λ f. f s.functions t) is.stmts) (w.ends s.functions t) (stays k t s is);
  }

  -- ---- repetition

  -- the rule on what is left of these tokens behind the first
  abbrev behind_first : {A B : Type 0} → ((A → Reading B) → A → Reading B) → List Token → A → Reading B
  behind_first rule [] a = unexpected
  behind_first rule (t ∷ ts) a = λ s. again rule (length ts - length s.tokens) ts a s

  again_first : {A B : Type 0} (rule : (A → Reading B) → A → Reading B) (zs : List Token) → again rule 0 zs ≡ rule (behind_first rule zs)
  again_first rule [] = refl
  again_first rule (t ∷ ts) = refl

  again_skips : {A B : Type 0} (rule : (A → Reading B) → A → Reading B) (n : ℕ) (zs : List Token) → again rule n zs ≡ again rule 0 (drop n zs)
  again_skips rule zero zs = refl
  again_skips rule (suc n) [] = refl
  again_skips rule (suc n) (t ∷ ts) = again_skips rule n ts

  behind_first_is : {A B : Type 0} (rule : (A → Reading B) → A → Reading B) (zs : List Token) (a : A) (s : Rest) (j : ℕ) → s.tokens ≡ drop (suc j) zs → suc j ≤ length zs
      → behind_first rule zs a s ≡ repeat rule a s
  unfolding repeat
  behind_first_is rule [] a s j e within = absurd (omega (arith, within))
  behind_first_is rule (t ∷ ts) a s j e within =
      let same : drop (length ts - length s.tokens) ts ≡ s.tokens = ap (λ xs. drop (length ts - length xs) ts) e ∙ skipped j ts (omega (arith, within)) ∙ sym e in
      ap (λ f. f a s) (again_skips rule (length ts - length s.tokens) ts ∙ ap (again rule 0) same)

  -- rules that do alike wherever what they are used for again does
  pub record RuleAlike {A B : Type 0} (i : ℕ) (rule role : (A → Reading B) → A → Reading B) : Type 0 where
    pub at : (k : ℕ) → i ≤ k → (m n : A → Reading B) → ((a : A) → Alike false (suc k) (m a) (n a)) → (a : A) → Alike false k (rule m a) (role n a)

  pub over : (j k : ℕ) (s r : Rest) → suc k ≤ j → At k s → At j r → (r.tokens ≡ drop (suc (j - suc k)) s.tokens) × (suc (j - suc k) ≤ length s.tokens)
  over j k s r le is there =
      let past : k + suc (j - suc k) ≡ j = omega (arith, le) in (
        there.left ∙ ap (λ n. drop n w.tokens) (sym past) ∙ sym (drop-drop (suc (j - suc k)) k w.tokens) ∙ ap (drop (suc (j - suc k))) (sym is.left),
        omega (arith, le, length-drop k w.tokens, ap length is.left, there.within),
      )

  behind_alike : {A B : Type 0} (k : ℕ) (rule role : (A → Reading B) → A → Reading B) → ((a : A) → Alike false (suc k) (repeat rule a) (repeat role a)) → (s : Rest) → At k s
      → (a : A) → Alike false (suc k) (behind_first rule s.tokens a) (behind_first role s.tokens a)
  behind_alike k rule role h s is a = record {
    at = λ j r le there.
        let o = over j k s r le is there in
        rw (behind_first_is rule s.tokens a r (j - suc k) o.0 o.1, behind_first_is role s.tokens a (relaxed r) (j - suc k) o.0 o.1) ((h a).at j r le there);
  }

  -- as long as so many tokens at most are left
  repeats_for : {A B : Type 0} (n i k : ℕ) (rule role : (A → Reading B) → A → Reading B) → RuleAlike i rule role → i ≤ k → length w.tokens < k + n → (a : A) → Alike false k (repeat rule a) (repeat role a)
  unfolding repeat
  repeats_for zero i k rule role h le few a = record { at = λ j s from is. absurd (omega (arith, few, from, is.within)) }
  repeats_for (suc n) i k rule role h le few a = record {
    at = λ j s from is.
        let next = repeats_for n i (suc j) rule role h (omega (arith, le, from)) (omega (arith, few, from)) in
        rw (again_first rule s.tokens, again_first role s.tokens)
        ((h.at j (omega (arith, le, from)) (behind_first rule s.tokens) (behind_first role s.tokens) (behind_alike j rule role next s is) a).at j s (omega arith) is);
  }

  pub repeats : {A B : Type 0} {i : ℕ} {rule role : (A → Reading B) → A → Reading B} → RuleAlike i rule role → (a : A) → Alike false i (repeat rule a) (repeat role a)
  repeats h a = repeats_for (suc (length w.tokens)) _ _ _ _ h (omega arith) (omega arith) a

  -- once more, and then again
  pub unrolls : {A B : Type 0} {i : ℕ} (rule : (A → Reading B) → A → Reading B) → RuleAlike i rule rule → (a : A) → Alike false i (repeat rule a) (rule (repeat rule) a)
  unfolding repeat
  unrolls rule h a = record {
    at = λ k s le is.
        rw (again_first rule s.tokens)
        ((h.at k le (behind_first rule s.tokens) (repeat rule) (λ b. record {
          at = λ j r from there.
              let o = over j k s r from is there in
              rw (behind_first_is rule s.tokens b r (j - suc k) o.0 o.1) ((repeats h b).at j r (omega (arith, le, from)) there);
        }) a).at k s (omega arith) is);
  }

pub one_later : (w : Setting) {A : Type 0} {some : Bool} {i : ℕ} {m n : Reading A} → Alike w some i m n → Alike w some (suc i) m n
one_later w a = later w (omega arith) a

pub ruleset steps = (gives, refuses, misses, chooses, bars, takes, expects, opens, numbers, finishes, finishes_stmt, bind, bind_behind, taking)
