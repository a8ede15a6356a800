-- What holds of the trees that productions give, and of the tokens that they leave.
use Rattle.std.proofs.Common.{◌≡◌, ℕ, zero, suc, ◌+◌, ◌-◌, ◌≤◌, Bool, true, false, cond, List, [], ◌∷◌, length, drop, refl, ap, sym, ◌∙◌, subst, arith}
use Rattle.std.specs.Prelude.{nat_lt, is_some, Option, Some, None, Result, Ok, Err}
use Rattle.js_value.specs.declared.place.Place.{Place}
use Rattle.js_tree.specs.declared.expression.Expr.{Expr}
use Rattle.js_tree.specs.declared.expression.ExprForm.{ExprForm}
use Rattle.js_tree.specs.declared.refusal.Feature.{Feature}
use Rattle.js_tree.specs.declared.refusal.ReadRefused.{ReadRefused}
use Rattle.js_tree.specs.declared.refusal.ReadRefused.TheVariants.{Syntax, Nested}
use Rattle.js_tree.specs.declared.statement.Stmt.{Stmt}
use Rattle.js_tree.specs.declared.statement.StmtForm.{StmtForm}
use Rattle.js_tree.specs.declared.token.Keyword.TheVariants as keyword
use Rattle.js_tree.specs.declared.token.TokenForm.{TokenForm}
use Rattle.js_tree.specs.declared.token.TokenForm.TheVariants as form
use Rattle.js_tree.specs.declared.token.Token.{Token}
use Rattle.js_grammar.specs.Rest.{Rest, Reading, give, behind, ◌>>=◌, ◌>>◌, refuse, unless, unexpected, is_empty, place_of, of_first, passed, go_on, next, repeat, again, here, sees, enter, leave, part, finish, finish_stmt}

-- `var` takes three bytes and every other token at least one
abbrev pub token_weight : TokenForm → ℕ
token_weight (form.Reserved keyword.Var) = 3
token_weight _ = 1

abbrev pub weight : List Token → ℕ
weight [] = 0
weight (t ∷ ts) = token_weight t.form + weight ts

pub some_weight : (f : TokenForm) → 1 ≤ token_weight f
some_weight (form.Reserved keyword.Var) = omega arith
some_weight _ = omega arith

abbrev pub After : {A : Type 0} → Result (A × Rest) ReadRefused → (A → ℕ → Type 0) → Type 0
After (Ok x) Q = Q x.0 (weight x.1.tokens)
After (Err e) Q = Unit {0}

-- where tokens of this weight are left, this holds of what is read and of the weight of what is left behind it
pub record Ends {A : Type 0} (w : ℕ) (m : Reading A) (Q : A → ℕ → Type 0) : Type 0 where
  pub at : (s : Rest) → weight s.tokens ≡ w → After (m s) Q

-- ---- steps

after_bind : {A B : Type 0} (r : Result (A × Rest) ReadRefused) (f : A → Reading B) (P : A → ℕ → Type 0) (Q : B → ℕ → Type 0) → After r P → ((a : A) (v : ℕ) → P a v → Ends v (f a) Q) → After (behind r f) Q
after_bind (Ok x) f P Q h more = (more x.0 (weight x.1.tokens) h).at x.1 refl
after_bind (Err e) f P Q h more = tt

pub bind : {A B : Type 0} {w : ℕ} {m : Reading A} {f : A → Reading B} {Q : B → ℕ → Type 0} (P : A → ℕ → Type 0) → Ends w m P → ((a : A) (v : ℕ) → P a v → Ends v (f a) Q) → Ends w (m >>= f) Q
bind P h more = record { at = λ s e. after_bind _ _ P _ (h.at s e) more }

after_any : {A B : Type 0} (r : Result (A × Rest) ReadRefused) (f : A → Reading B) (Q : B → ℕ → Type 0) → ((a : A) (v : ℕ) → Ends v (f a) Q) → After (behind r f) Q
after_any (Ok x) f Q more = (more x.0 (weight x.1.tokens)).at x.1 refl
after_any (Err e) f Q more = tt

-- behind anything
pub any : {A B : Type 0} {w : ℕ} (m : Reading A) {f : A → Reading B} {Q : B → ℕ → Type 0} → ((a : A) (v : ℕ) → Ends v (f a) Q) → Ends w (m >>= f) Q
any m more = record { at = λ s e. after_any _ _ _ more }

-- the same, where what was read doesn't matter
pub past : {A B : Type 0} {w : ℕ} (m : Reading A) {n : Reading B} {Q : B → ℕ → Type 0} → ((v : ℕ) → Ends v n Q) → Ends w (m >> n) Q
past m more = record { at = λ s e. after_any _ _ _ (λ a v. more v) }

pub weaker : {A : Type 0} {w : ℕ} {m : Reading A} {Q : A → ℕ → Type 0} (P : A → ℕ → Type 0) → ((a : A) (v : ℕ) → P a v → Q a v) → Ends w m P → Ends w m Q
weaker P le h = record { at = λ s e. after_weaker _ P _ le (h.at s e) }
  where
    after_weaker : {A : Type 0} (r : Result (A × Rest) ReadRefused) (P Q : A → ℕ → Type 0) → ((a : A) (v : ℕ) → P a v → Q a v) → After r P → After r Q
    after_weaker (Ok x) P Q le h = le x.0 (weight x.1.tokens) h
    after_weaker (Err e) P Q le h = tt

pub gives : {A : Type 0} {w : ℕ} {Q : A → ℕ → Type 0} (a : A) → Q a w → Ends w (give a) Q
gives {Q = Q} a h = record { at = λ s e. subst (λ v. Q a v) (sym e) h }

pub refuses : {A : Type 0} {w : ℕ} {Q : A → ℕ → Type 0} (x : ReadRefused) → Ends w (refuse {A = A} x) Q
refuses x = record { at = λ s e. tt }

pub misses : {A : Type 0} {w : ℕ} {Q : A → ℕ → Type 0} → Ends w (unexpected {A = A}) Q
misses = record { at = λ s e. tt }

-- a look at what is left
pub record Still {A : Type 0} (m : Reading A) : Type 0 where
  pub at : (s : Rest) → After (m s) (λ a v. v ≡ weight s.tokens)

pub still : {A : Type 0} (f : Rest → A) → Still (λ s. Ok (f s, s))
still f = record { at = λ s. refl }

pub sees_still : {A : Type 0} (want : TokenForm → Option A) → Still (sees want)
sees_still want = still (λ s. is_some (of_first want s.tokens))

pub here_still : Still here
here_still = still (λ s. place_of s.tokens s.end)

pub moved : {A : Type 0} {v w : ℕ} {m : Reading A} {Q : A → ℕ → Type 0} → v ≡ w → Ends w m Q → Ends v m Q
moved e h = record { at = λ s is. h.at s (is ∙ e) }

-- behind a look at what is left
pub look : {A B : Type 0} {w : ℕ} {m : Reading A} {f : A → Reading B} {Q : B → ℕ → Type 0} → Still m → ((a : A) → Ends w (f a) Q) → Ends w (m >>= f) Q
look {w = w} stays more = bind (λ a v. v ≡ w) (record { at = λ s e. rw (sym e) (stays.at s) }) (λ a v e. moved e (more a))

pub chooses : {A : Type 0} {w : ℕ} {Q : A → ℕ → Type 0} (b : Bool) {m n : Reading A} → Ends w m Q → Ends w n Q → Ends w (cond b m n) Q
chooses true h l = h
chooses false h l = l

pub bars : {A : Type 0} {w : ℕ} {Q : A → ℕ → Type 0} (at : Place) (what : Option Feature) {m : Reading A} → Ends w m Q → Ends w (unless at what m) Q
bars at None h = h
bars at (Some x) h = record { at = λ s e. tt }

-- ---- tokens

went_on : {A B : Type 0} (w : ℕ) (want : TokenForm → Option A) (f : A → Reading B) (m : Reading B) (Q : B → ℕ → Type 0)
    → ((a : A) (t : TokenForm) (v : ℕ) → want t ≡ Some a → v + token_weight t ≡ w → Ends v (f a) Q) → Ends w m Q
    → (s : Rest) → weight s.tokens ≡ w → (zs : List Token) → s.tokens ≡ zs → (o : Option A) → of_first want zs ≡ o → After (go_on o f m s) Q
went_on w want f m Q found other s e zs is None first = other.at s e
went_on w want f m Q found other s e [] is (Some a) first = absurd (cc)
went_on w want f m Q found other s e (t ∷ ts) is (Some a) first =
    let left : drop 1 s.tokens ≡ ts = ap (drop 1) is in
    let heavy : weight ts + token_weight t.form ≡ w = omega (arith, e, ap weight is) in
    (found a t.form (weight ts) first heavy).at (passed s) (ap weight left)

pub takes_form : {A B : Type 0} {w : ℕ} {Q : B → ℕ → Type 0} (want : TokenForm → Option A) {f : A → Reading B} {m : Reading B}
    → ((a : A) (t : TokenForm) (v : ℕ) → want t ≡ Some a → v + token_weight t ≡ w → Ends v (f a) Q) → Ends w m Q → Ends w (next want f m) Q
unfolding next
takes_form want found other = record { at = λ s e. went_on _ want _ _ _ found other s e s.tokens refl (of_first want s.tokens) refl }

pub takes : {A B : Type 0} {w : ℕ} {Q : B → ℕ → Type 0} (want : TokenForm → Option A) {f : A → Reading B} {m : Reading B}
    → ((a : A) (v : ℕ) → v + 1 ≤ w → Ends v (f a) Q) → Ends w m Q → Ends w (next want f m) Q
takes want found other = takes_form want (λ a t v is e. found a v (omega (arith, e, some_weight t))) other

-- ---- open and finished parts

enters : {w : ℕ} → Ends w enter (λ _ v. v ≡ w)
unfolding enter
enters = record { at = λ s e. entering s _ e (is_empty s.tokens) (nat_lt s.opened s.limit) }
  where
    entering : (s : Rest) (w : ℕ) → weight s.tokens ≡ w → (ended fits : Bool)
        → After (cond ended (Err (Syntax s.end)) (cond fits (Ok (s.opened, record s { opened = s.opened + 1 })) (Err (Nested (place_of s.tokens s.end))))) (λ _ v. v ≡ w)
    entering s w e true fits = tt
    entering s w e false true = e
    entering s w e false false = tt

leaves : (n : ℕ) → Still (leave n)
unfolding leave
leaves n = record { at = λ s. refl }

pub opens : {A : Type 0} {w : ℕ} {Q : A → ℕ → Type 0} {m : Reading A} → Ends w m Q → Ends w (part m) Q
unfolding part
opens {w = w} {Q = Q} h = bind (λ _ v. v ≡ w) enters (λ opened v e. bind Q (moved e h) (λ x u q. look (leaves opened) (λ _. gives x q)))

pub allowed : {A : Type 0} {w : ℕ} (s : Rest) (a : A) (e : ReadRefused) (b : Bool) (Q : A → ℕ → Type 0) → weight s.tokens ≡ w → Q a w → After (cond b (Ok (a, s)) (Err e)) Q
allowed s a e true Q is h = subst (λ v. Q a v) (sym is) h
allowed s a e false Q is h = tt

pub finishes : {w : ℕ} {Q : Expr → ℕ → Type 0} (at : Place) (form : ExprForm) → Q (record { at = at; form = form }) w → Ends w (finish at form) Q
unfolding finish
finishes {Q = Q} at form h = record { at = λ s e. allowed s (record { at = at; form = form }) (Nested at) (s.allows_expr s.functions (record { at = at; form = form })) Q e h }

pub finishes_stmt : {w : ℕ} {Q : Stmt → ℕ → Type 0} (at : Place) (form : StmtForm) → Q (record { at = at; form = form }) w → Ends w (finish_stmt at form) Q
unfolding finish_stmt
finishes_stmt {Q = Q} at form h = record { at = λ s e. allowed s (record { at = at; form = form }) (Nested at) (s.allows_stmt s.functions (record { at = at; form = form })) Q e h }

-- ---- repetition

-- what holds of each use of a rule holds of all of them
again_keeps : {A B : Type 0} (rule : (A → Reading B) → A → Reading B) (Q : ℕ → A → B → ℕ → Type 0)
    → ((m : A → Reading B) → ((a : A) (w : ℕ) → Ends w (m a) (Q w a)) → (a : A) (w : ℕ) → Ends w (rule m a) (Q w a))
    → (ts : List Token) (skip : ℕ) (a : A) (w : ℕ) → Ends w (again rule skip ts a) (Q w a)
again_keeps rule Q keeps [] skip a w = keeps (λ _. unexpected) (λ _ _. misses) a w
again_keeps rule Q keeps (t ∷ ts) (suc skip) a w = again_keeps rule Q keeps ts skip a w
again_keeps rule Q keeps (t ∷ ts) zero a w =
    keeps (λ a s. again rule (length ts - length s.tokens) ts a s) (λ a w. record { at = λ s e. (again_keeps rule Q keeps ts (length ts - length s.tokens) a w).at s e }) a w

pub repeats : {A B : Type 0} {rule : (A → Reading B) → A → Reading B} (Q : ℕ → A → B → ℕ → Type 0)
    → ((m : A → Reading B) → ((a : A) (w : ℕ) → Ends w (m a) (Q w a)) → (a : A) (w : ℕ) → Ends w (rule m a) (Q w a))
    → (a : A) (w : ℕ) → Ends w (repeat rule a) (Q w a)
unfolding repeat
repeats {rule = rule} Q keeps a w = record { at = λ s e. (again_keeps rule Q keeps s.tokens 0 a w).at s e }
