-- Where statements are too high, something is nested too deep.
use Rattle.std.proofs.Common.{◌≡◌, ◌≤◌, ◌<◌, ℕ, zero, suc, Bool, true, false, cond, List, [], ◌∷◌, map, length, take, refl, ap, sym, ◌∙◌, subst, arith, append-nil}
use Rattle.std.specs.Prelude.{nat_lt, slice_get, Option, Some, None}
use Rattle.std.specs.List.{list_all}
use Rattle.std.specs.Option.{option_map}
use Rattle.std.proofs.lemmas.Bool.Decides.{nat_tests}
use Rattle.js_value.specs.declared.place.FuncNo.{FuncNo}
use Rattle.js_tree.specs.declared.expression.Expr.{Expr}
use Rattle.js_tree.specs.declared.expression.ExprForm.{out-ExprForm}
use Rattle.js_tree.specs.declared.statement.Func.{Func}
use Rattle.js_tree.specs.declared.statement.Stmt.{Stmt}
use Rattle.js_tree.specs.declared.statement.StmtForm.{out-StmtForm}
use Rattle.js_grammar.specs.FunctionOrder.{in_stmt, in_body}
use Rattle.js_grammar.specs.Heights as H
use Rattle.js_grammar.specs.Heights.{body_of, is_within, is_stmt_within}
use Rattle.script_nesting.specs.Height.{stmt_height, body_height}
use Rattle.script_nesting.proofs.Agree.{From, bodies_agree}
use Rattle.script_nesting.proofs.Consumed.{Below}
use Rattle.reading_back.proofs.Passing.{bodies_free}
use Rattle.reading_back.proofs.TestsBack.{stmt_no_higher}
use Rattle.reading_back.specs.Unplaced as unplaced

-- ---- functions whose bodies are the same but for places

module _ (fs gs : List Func) (bodies : (k : FuncNo) → map unplaced.stmt (body_of fs k) ≡ map unplaced.stmt (body_of gs k)) where
  mutual
    same : (n : ℕ) (x : Expr) → is_within fs n x ≡ is_within gs n x
    same zero x = refl
    same (suc n) x = λ i. H.parts_fit (λ y. same n y i) (λ k. inside_same n k i) (out-ExprForm x.form)

    stmt_same : (n : ℕ) (t : Stmt) → is_stmt_within fs n t ≡ is_stmt_within gs n t
    stmt_same zero t = refl
    stmt_same (suc n) t = λ i. H.stmt_parts_fit (λ y. same n y i) (λ u. stmt_same n u i) (λ k. inside_same n k i) (out-StmtForm t.form)

    inside_same : (n : ℕ) (k : FuncNo) → list_all (is_stmt_within fs n) (body_of fs k) ≡ list_all (is_stmt_within gs n) (body_of gs k)
    inside_same zero k = sym (bodies_free fs zero (body_of fs k)) ∙ ap (list_all (is_stmt_within fs zero)) (bodies k) ∙ bodies_free fs zero (body_of gs k)
    inside_same (suc n) k =
        sym (bodies_free fs (suc n) (body_of fs k)) ∙ ap (list_all (is_stmt_within fs (suc n))) (bodies k) ∙ bodies_free fs (suc n) (body_of gs k)
        ∙ (λ i. list_all (λ t. H.stmt_parts_fit (λ y. same n y i) (λ u. stmt_same n u i) (λ m. inside_same n m i) (out-StmtForm t.form)) (body_of gs k))

-- ---- the first functions of a script

abbrev body_in : Option Func → List Stmt
body_in o = elim o [ None ↦ [] | Some g ↦ g.body ]

less : (i n : ℕ) → nat_lt i n ≡ true → i < n
less i n e = grind (arith, nat_tests)

not_less : (i n : ℕ) → nat_lt i n ≡ false → n ≤ i
not_less i n e = grind (arith, nat_tests)

first : (n : ℕ) (fs : List Func) (i : ℕ) → i < n → slice_get (take n fs) i ≡ slice_get fs i
first zero fs i h = absurd (omega (arith, h))
first (suc n) [] i h = refl
first (suc n) (f ∷ fs) zero h = refl
first (suc n) (f ∷ fs) (suc i) h = first n fs i (omega (arith, h))

none_later : (n : ℕ) (fs : List Func) (i : ℕ) → n ≤ i → slice_get (take n fs) i ≡ None
none_later zero fs i h = refl
none_later (suc n) [] i h = refl
none_later (suc n) (f ∷ fs) zero h = absurd (omega (arith, h))
none_later (suc n) (f ∷ fs) (suc i) h = none_later n fs i (omega (arith, h))

module _ (fs : List Func) (tall : FuncNo → ℕ) (as_high : (f : FuncNo) → body_height tall (body_of fs f) ≡ tall f) (top : ℕ) (within : (i : ℕ) (g : Func) → i < top → slice_get fs i ≡ Some g → Below top (in_body g.body)) where
  -- those behind the first ones count nothing
  cut : FuncNo → ℕ
  cut f = cond (nat_lt f.0 top) (tall f) 0

  agrees : (f : FuncNo) → nat_lt f.0 top ≡ true → cut f ≡ tall f
  unfolding cut
  agrees f e = ap (λ b. cond b (tall f) 0) e

  body_within : (f : FuncNo) → nat_lt f.0 top ≡ true → (o : Option Func) → slice_get fs f.0 ≡ o → Below top (in_body (body_in o))
  body_within f e None is = refl
  body_within f e (Some g) is = within f.0 g (less f.0 top e) is

  low : (f : FuncNo) → cut f ≤ body_height cut (body_of (take top fs) f)
  unfolding cut
  low f = by (nat_lt f.0 top) refl
    where
      by : (b : Bool) → nat_lt f.0 top ≡ b → cond b (tall f) 0 ≤ body_height cut (body_of (take top fs) f)
      by false e = omega arith
      by true e =
          let there : body_height cut (body_of (take top fs) f) ≡ body_height cut (body_of fs f) = ap (λ o. body_height cut (body_in o)) (first top fs f.0 (less f.0 top e)) in
          let same_height : body_height cut (body_of fs f) ≡ body_height tall (body_of fs f) = bodies_agree (λ m. nat_lt m top) cut tall agrees (body_of fs f) (body_within f e (slice_get fs f.0) refl) in
          omega (arith, there, same_height, as_high f)

  -- a statement that passes the test while the first functions are there is no higher
  pub first_no_higher : (n : ℕ) (t : Stmt) → Below top (in_stmt t) → is_stmt_within (take top fs) n t ≡ true → stmt_height tall t ≤ n
  first_no_higher n t mentions passes =
      let own : body_height cut (t ∷ []) ≡ body_height tall (t ∷ []) = bodies_agree (λ m. nat_lt m top) cut tall agrees (t ∷ []) (subst (From (λ m. nat_lt m top)) (sym (append-nil (in_stmt t))) mentions) in
      let h : stmt_height cut t ≤ n = stmt_no_higher (take top fs) cut low n t passes in
      omega (arith, own, h)

  -- also where these functions are the same but for places
  pub read_no_higher : (gs : List Func) → length gs ≡ top → ((i : ℕ) → i < top → option_map unplaced.func (slice_get gs i) ≡ option_map unplaced.func (slice_get fs i))
      → (n : ℕ) (t : Stmt) → Below top (in_stmt t) → is_stmt_within gs n t ≡ true → stmt_height tall t ≤ n
  read_no_higher gs long alike n t mentions passes = first_no_higher n t mentions (sym (stmt_same gs (take top fs) bodies n t) ∙ passes)
    where
      none_there : (xs : List Func) (i : ℕ) → length xs ≤ i → slice_get xs i ≡ None
      none_there [] i le = refl
      none_there (x ∷ xs) zero le = absurd (omega (arith, le))
      none_there (x ∷ xs) (suc i) le = none_there xs i (omega (arith, le))

      same_bodies : (o p : Option Func) → option_map unplaced.func o ≡ option_map unplaced.func p → map unplaced.stmt (body_in o) ≡ map unplaced.stmt (body_in p)
      same_bodies None None e = refl
      same_bodies None (Some g) e = absurd (cc)
      same_bodies (Some f) None e = absurd (cc)
      same_bodies (Some f) (Some g) e = let is : unplaced.func f ≡ unplaced.func g = cc in ap (λ (h : Func). h.body) is

      bodies : (k : FuncNo) → map unplaced.stmt (body_of gs k) ≡ map unplaced.stmt (body_of (take top fs) k)
      bodies k = by (nat_lt k.0 top) refl
        where
          by : (b : Bool) → nat_lt k.0 top ≡ b → map unplaced.stmt (body_of gs k) ≡ map unplaced.stmt (body_of (take top fs) k)
          by true e = same_bodies (slice_get gs k.0) (slice_get fs k.0) (alike k.0 (less k.0 top e)) ∙ sym (ap (λ o. map unplaced.stmt (body_in o)) (first top fs k.0 (less k.0 top e)))
          by false e =
              ap (λ o. map unplaced.stmt (body_in o)) (none_there gs k.0 (omega (arith, long, not_less k.0 top e)))
              ∙ sym (ap (λ o. map unplaced.stmt (body_in o)) (none_later top fs k.0 (not_less k.0 top e)))
