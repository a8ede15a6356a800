-- The steps of a reader with a stack: what is still to be read stays the same.
use Rattle.std.proofs.Common.{◌≡◌, ℕ, Bool, true, false, List, [], ◌∷◌, ◌++◌, drop, refl, ap, sym, ◌∙◌}
use Rattle.std.specs.Prelude.{◌≢◌, Option, Some, None, is_some, Result, Ok, Err, IsErrAnd}
use Rattle.js_value.specs.declared.place.Place.{Place}
use Rattle.js_tree.specs.declared.expression.Expr.{Expr}
use Rattle.js_tree.specs.declared.expression.ExprForm.TheVariants as e
use Rattle.js_tree.specs.declared.expression.Field.{Field}
use Rattle.js_tree.specs.declared.expression.Field.TheVariants as field
use Rattle.js_tree.specs.declared.refusal.ReadRefused.{ReadRefused}
use Rattle.js_tree.specs.declared.refusal.ReadRefused.TheVariants.{NoMemory}
use Rattle.js_tree.specs.declared.token.TokenForm.{TokenForm}
use Rattle.js_grammar.specs.Rest as R
use Rattle.js_grammar.specs.Rest.{Rest, Reading, ◌>>=◌, ◌>>◌, behind, give, next, expect, passed, repeat, finish, unexpected}
use Rattle.js_grammar.specs.Climbing.{Found, levels, tight}
use Rattle.js_grammar.specs.Expressions as E
use Rattle.js_grammar.specs.Marks
use Rattle.js_grammar.specs.Primary as P
use Rattle.js_grammar.specs.Reading.{grammar}
use Rattle.js_grammar.proofs.Climbing.{assoc3, climbs}
use Rattle.js_grammar.proofs.Unrolled.{assignment_tied, fields_unroll, member_tied}
use Rattle.js_parse.specs.declared.frames.First.{First}
use Rattle.js_parse.specs.declared.frames.First.TheVariants as first
use Rattle.js_parse.specs.declared.frames.Frame.{Frame}
use Rattle.js_parse.specs.declared.frames.Frame.TheVariants as frame
use Rattle.js_parse.specs.declared.frames.Next.{Next}
use Rattle.js_parse.specs.declared.frames.Next.TheVariants as after
use Rattle.js_parse.specs.declared.frames.Reached.{Reached}
use Rattle.js_parse.specs.declared.frames.Reached.TheVariants as reached
use Rattle.js_parse.specs.declared.frames.Stage.{Stage}
use Rattle.js_parse.specs.declared.frames.Stage.TheVariants as stage
use Rattle.token_marks.specs.declared.operators.Level.{Level}
use Rattle.token_marks.specs.declared.operators.Operator.{Operator}
use Rattle.js_parse.specs.Frames.{IsFirst, IsNext, IsReached, IsStage, assigned, behind_all, behind_first, field_on, chosen, constructed, keyed_on, level_of}
use Rattle.js_parse.specs.Frames.{stage_of, literal_behind, literal_from, of_first, operand_on, read_on, tighter}
use Rattle.js_parse.proofs.Next.{absent, next_some, next_none, not_seen, there}
use Rattle.token_marks.specs.Levels.{number, found_of}
use Rattle.token_reader.specs.Parts.{stepped}
use Rattle.token_reader.specs.Reader.{taken, IsAnswer, IsTaken}

-- ---- an answer to one reading is one to a reading that is the same there

pub first_by : (m n : Reading Expr) (s t u : Rest) (r : Result First ReadRefused) → m s ≡ n t → IsFirst n t u r → IsFirst m s u r
first_by m n s t u (Ok (first.Whole x)) e h = e ∙ h
first_by m n s t u (Ok (first.New at)) e h = e ∙ h
first_by m n s t u (Ok (first.Object at)) e h = e ∙ h
first_by m n s t u (Err d) e h = λ memory. e ∙ h memory

pub answer_by : (m n : Reading Expr) (s t u : Rest) (r : Result Expr ReadRefused) → m s ≡ n t → IsAnswer n t u r → IsAnswer m s u r
answer_by m n s t u (Ok x) e h = e ∙ h
answer_by m n s t u (Err d) e h = λ memory. e ∙ h memory

-- a refusal that is passed on
pub first_refused : (m : Reading Expr) (s u : Rest) (r : Result First ReadRefused) (e : ReadRefused) → IsErrAnd r (λ d. d ≡ e) → (e ≢ NoMemory → m s ≡ Err e) → IsFirst m s u r
first_refused m s u (Ok x) e same h = absurd same
first_refused m s u (Err d) e same h = λ memory. h (λ p. memory (same ∙ p)) ∙ ap Err (sym same)

pub stage_refused : (m : Reading Expr) (s u : Rest) (fs : List Frame) (r : Result Stage ReadRefused) (e : ReadRefused) → IsErrAnd r (λ d. d ≡ e) → (e ≢ NoMemory → m s ≡ Err e) → IsStage m s fs u r
stage_refused m s u fs (Ok x) e same h = absurd same
stage_refused m s u fs (Err d) e same h = λ memory. h (λ p. memory (same ∙ p)) ∙ ap Err (sym same)

abbrev as_err : (A : Type 0) → ReadRefused → Result A ReadRefused
as_err A d = Err d

inside_err : (A : Type 0) {d e : ReadRefused} → as_err A d ≡ as_err A e → d ≡ e
inside_err A p = cc

pub unexpected_first : (s u : Rest) (r : Result First ReadRefused) → IsAnswer unexpected s s r → IsFirst unexpected s u r
unexpected_first s u (Ok x) h = absurd (cc)
unexpected_first s u (Err d) h = λ memory. ap Err (inside_err (First × Rest) (h memory))

module _ (want : TokenForm → Option (Unit {0})) (f : Unit {0} → Reading Expr) (m : Reading Expr) where
  pub first_there : (b : Bool) (s t u : Rest) (r : Result First ReadRefused) → IsTaken want s t (taken b) → b ≡ true → IsFirst (f tt) t u r → IsFirst (next want f m) s u r
  first_there b s t u r is sure h = first_by (next want f m) (f tt) s t u r (there want f m b s t is sure) h

  pub first_absent : (b : Bool) (s t u : Rest) (r : Result First ReadRefused) → IsTaken want s t (taken b) → b ≡ false → IsFirst m t u r → IsFirst (next want f m) s u r
  first_absent b s t u r is other h = first_by (next want f m) m s t u r (absent want f m b s t is other) h

  pub first_not_seen : (s u : Rest) (r : Result First ReadRefused) → is_some (R.of_first want s.tokens) ≡ false → IsFirst m s u r → IsFirst (next want f m) s u r
  first_not_seen s u r other h = first_by (next want f m) m s s u r (not_seen want f m s other) h

pub reached_by : (m n : Reading Expr) (s t u : Rest) (r : Result Reached ReadRefused) → m s ≡ n t → IsReached n t u r → IsReached m s u r
reached_by m n s t u (Ok (reached.Whole x)) e h = e ∙ h
reached_by m n s t u (Ok (reached.Fields at so_far)) e h = e ∙ h
reached_by m n s t u (Err d) e h = λ memory. e ∙ h memory

pub stage_by : (m n : Reading Expr) (s t u : Rest) (fs : List Frame) (r : Result Stage ReadRefused) → m s ≡ n t → IsStage n t fs u r → IsStage m s fs u r
stage_by m n s t u fs (Ok st) e h = e ∙ h
stage_by m n s t u fs (Err d) e h = λ memory. e ∙ h memory

pub next_by : (m n : Reading Expr) (s t u : Rest) (fs : List Frame) (r : Result Next ReadRefused) → m s ≡ n t → IsNext n t fs u r → IsNext m s fs u r
next_by m n s t u fs (Ok (after.Stage st)) e h = e ∙ h
next_by m n s t u fs (Ok (after.Done x)) e h = e ∙ h
next_by m n s t u fs (Err d) e h = λ memory. e ∙ h memory

-- ---- putting readings together

assoc2 : {A B C D : Type 0} (m : Reading A) (f : A → Reading B) (g : B → Reading C) (h : C → Reading D) (s : Rest) → (((m >>= f) >>= g) >>= h) s ≡ (m >>= λ a. (f a >>= g) >>= h) s
assoc2 m f g h s = by (m s)
  where
    by : (r : Result _ ReadRefused) → behind (behind (behind r f) g) h ≡ behind r (λ a. (f a >>= g) >>= h)
    by (Ok x) = refl
    by (Err d) = refl

unit : {A : Type 0} (r : Result (A × Rest) ReadRefused) → behind r give ≡ r
unit (Ok x) = refl
unit (Err d) = refl

-- ---- operands

pub begins_new : (fs gs : List Frame) (at : Place) (s t : Rest) → P.operand grammar s ≡ P.new_behind grammar at t → gs ≡ frame.Callee at ∷ fs → operand_on fs s ≡ read_on stage.Begin gs t
unfolding P.new_behind P.member
begins_new fs gs at s t same is = rw is (
    ap (λ r. behind r (behind_all fs).operand) same
    ∙ ap (λ r. behind (behind r (constructed at)) (behind_all fs).operand) (member_tied t)
    ∙ assoc2 (P.operand grammar) (repeat (P.more_members grammar false)) (constructed at) (behind_all fs).operand t)

pub begins_object : (fs : List Frame) (at : Place) (s t : Rest) → P.operand grammar s ≡ P.object_behind grammar at t → operand_on fs s ≡ read_on (stage.Fields at []) fs t
unfolding P.object_behind
begins_object fs at s t same = ap (λ r. behind r (behind_all fs).operand) same

-- an operand with no prefix operator
unprefixed : (k : Expr → Reading Expr) (s : Rest) → (E.postfix grammar >>= k) s ≡ (P.operand grammar >>= λ x. (repeat (P.more_members grammar true) x >>= stepped) >>= k) s
unfolding E.postfix P.left_hand_side
unprefixed k s = assoc2 (P.operand grammar) (repeat (P.more_members grammar true)) stepped k s

pub begins_operand : (fs : List Frame) (s : Rest) → is_some (of_first level_of fs) ≡ true → E.unary grammar s ≡ E.postfix grammar s → read_on stage.Begin fs s ≡ operand_on fs s
begins_operand [] s some same = absurd (cc)
begins_operand (frame.Postfix ∷ fs) s some same = absurd (cc)
begins_operand (frame.Callee at ∷ fs) s some same = absurd (cc)
begins_operand (frame.Operation allows_in ∷ fs) s some same = ap (λ r. behind r (behind_all (frame.Operation allows_in ∷ fs)).unary) same ∙ unprefixed (behind_all (frame.Operation allows_in ∷ fs)).unary s
begins_operand (frame.Right o ∷ fs) s some same = ap (λ r. behind r (behind_all (frame.Right o ∷ fs)).unary) same ∙ unprefixed (behind_all (frame.Right o ∷ fs)).unary s
begins_operand (frame.Value l ∷ fs) s some same = ap (λ r. behind r (behind_all (frame.Value l ∷ fs)).unary) same ∙ unprefixed (behind_all (frame.Value l ∷ fs)).unary s

-- ---- operators with two operands

abbrev Comes : Level × Bool → Rest → Option Found → Type 0
Comes l s found = R.of_first (tight (number l.0) (drop (number l.0) (levels l.1))) s.tokens ≡ found

-- behind an operand the operators that a frame waits for, and then what waits
abbrev waiting : (Expr → Reading Expr) → Level × Bool → Expr → Reading Expr
waiting k l x = tighter l.1 (number l.0) x >>= k

inside_some : {A : Type 0} {a b : A} → Some a ≡ Some b → a ≡ b
inside_some e = cc

known : (fs : List Frame) (l : Level × Bool) → of_first level_of fs ≡ Some l → (behind_all fs).unary ≡ (λ x. tighter l.1 (number l.0) x >>= behind_first fs)
known [] l e = absurd (cc)
known (frame.Postfix ∷ fs) l e = absurd (cc)
known (frame.Callee at ∷ fs) l e = absurd (cc)
known (frame.Operation allows_in ∷ fs) l e = ap (waiting (behind_first (frame.Operation allows_in ∷ fs))) (inside_some e)
known (frame.Right o ∷ fs) l e = ap (waiting (behind_first (frame.Right o ∷ fs))) (inside_some e)
known (frame.Value v ∷ fs) l e = ap (waiting (behind_first (frame.Value v ∷ fs))) (inside_some e)

pub rests : (fs : List Frame) (x : Expr) (s : Rest) (l : Level × Bool) → of_first level_of fs ≡ Some l → Comes l s None → read_on (stage.Unary x) fs s ≡ behind_first fs x s
rests fs x s l waits none = ap (λ k. k x s) (known fs l waits) ∙ ap (λ r. behind r (behind_first fs)) (climbs.ends l.1 (number l.0) x s none)

pub shifts : (fs gs : List Frame) (x : Expr) (s t : Rest) (l : Level × Bool) (op : Operator) (least : Level) → of_first level_of fs ≡ Some l → Comes l s (Some (found_of (op, least)))
    → gs ≡ frame.Right (record { left = x; op = op; level = least; allows_in = l.1 }) ∷ fs → t ≡ passed s → read_on (stage.Unary x) fs s ≡ read_on stage.Begin gs t
shifts fs gs x s t l op least waits comes is passes = rw is (rw passes (
    ap (λ k. k x s) (known fs l waits)
    ∙ ap (λ r. behind r (behind_first fs)) (climbs.goes_on l.1 (number l.0) x s (found_of (op, least)) comes)
    ∙ assoc3 (E.unary grammar) (tighter l.1 (number least)) (λ z right. finish x.at ((found_of (op, least)).form x right)) (tighter l.1 (number l.0)) (behind_first fs) (passed s)
    ∙ ap (λ (k : Expr → Reading Expr). (E.unary grammar >>= λ z. tighter l.1 (number least) z >>= λ right. finish x.at ((found_of (op, least)).form x right) >>= k) (passed s)) (sym (known fs l waits))))

-- ---- object literals

literal_ends : (at : Place) (so_far : List Field) (s : Rest) → R.of_first Marks.right_brace s.tokens ≡ Some tt → literal_from at so_far s ≡ finish at (e.ObjectLit so_far) (passed s)
literal_ends at so_far s h = ap (λ r. behind r (λ fields. finish at (e.ObjectLit fields))) (fields_unroll so_far s ∙ next_some Marks.right_brace _ _ s tt h)

abbrev whole : Place → List Field → Reading Expr
whole at fields = finish at (e.ObjectLit fields)

abbrev follows : List Field → Reading (List Field)
follows fields = next Marks.comma (λ _. repeat (P.more_fields grammar) fields) (expect Marks.right_brace >> give fields)

ending : (at : Place) (fields : List Field) (r : Result (Unit {0} × Rest) ReadRefused) → behind (behind r (λ _. give fields)) (whole at) ≡ behind r (λ _. whole at fields)
ending at fields (Ok x) = refl
ending at fields (Err d) = refl

followed : (at : Place) (fields : List Field) (t : Rest) (o : Option (Unit {0})) → R.of_first Marks.comma t.tokens ≡ o → (follows fields >>= whole at) t ≡ literal_behind at fields t
followed at fields t (Some tt) c = ap (λ r. behind r (whole at)) (next_some Marks.comma _ _ t tt c) ∙ sym (next_some Marks.comma _ _ t tt c)
followed at fields t None c = ap (λ r. behind r (whole at)) (next_none Marks.comma _ _ t c) ∙ ending at fields (expect Marks.right_brace t) ∙ sym (next_none Marks.comma _ _ t c)

literal_goes_on : (at : Place) (so_far : List Field) (s : Rest) → R.of_first Marks.right_brace s.tokens ≡ None
    → literal_from at so_far s ≡ (P.property grammar >>= λ x. literal_behind at (so_far ++ (x ∷ []))) s
literal_goes_on at so_far s h =
    ap (λ r. behind r (whole at)) (fields_unroll so_far s ∙ next_none Marks.right_brace _ _ s h) ∙ by (P.property grammar s)
  where
    by : (r : Result (Field × Rest) ReadRefused) → behind (behind r (λ x. follows (so_far ++ (x ∷ [])))) (whole at) ≡ behind r (λ x. literal_behind at (so_far ++ (x ∷ [])))
    by (Ok x) = followed at (so_far ++ (x.0 ∷ [])) x.1 (R.of_first Marks.comma x.1.tokens) refl
    by (Err d) = refl

pub fields_end : (fs : List Frame) (at : Place) (so_far : List Field) (s t : Rest) (b : Bool) → IsTaken Marks.right_brace s t (taken b) → b ≡ true
    → read_on (stage.Fields at so_far) fs s ≡ (whole at so_far >>= (behind_all fs).operand) t
fields_end fs at so_far s t true is sure = rw (is.1) (ap (λ r. behind r (behind_all fs).operand) (literal_ends at so_far s is.0))
fields_end fs at so_far s t false is sure = absurd (cc)

pub fields_go_on : (fs : List Frame) (at : Place) (so_far : List Field) (s t : Rest) (b : Bool) → IsTaken Marks.right_brace s t (taken b) → b ≡ false → read_on (stage.Fields at so_far) fs s ≡ field_on at so_far fs t
fields_go_on fs at so_far s t true is other = absurd (cc)
fields_go_on fs at so_far s t false is other = rw (is.1) (ap (λ r. behind r (behind_all fs).operand) (literal_goes_on at so_far s is.0))

-- an assignment by its parts
assignment_parts : (k : Expr → Reading Expr) (s : Rest)
    → (grammar.assignment true >>= k) s ≡ (E.unary grammar >>= λ x. tighter true 0 x >>= λ y. chosen true y >>= λ z. assigned true z >>= k) s
unfolding E.assignment E.conditional
assignment_parts k s =
    ap (λ r. behind r k) (assignment_tied true s)
    ∙ ap (λ r. behind (behind (behind r (chosen true)) (assigned true)) k) (climbs.begins true s)
    ∙ by (E.unary grammar s)
  where
    three : (r : Result (Expr × Rest) ReadRefused) → behind (behind r (assigned true)) k ≡ behind r (λ z. assigned true z >>= k)
    three (Ok x) = refl
    three (Err d) = refl

    two : (r : Result (Expr × Rest) ReadRefused) → behind (behind (behind r (chosen true)) (assigned true)) k ≡ behind r (λ y. chosen true y >>= λ z. assigned true z >>= k)
    two (Ok x) = three (chosen true x.0 x.1)
    two (Err d) = refl

    by : (r : Result (Expr × Rest) ReadRefused)
        → behind (behind (behind (behind r (tighter true 0)) (chosen true)) (assigned true)) k ≡ behind r (λ x. tighter true 0 x >>= λ y. chosen true y >>= λ z. assigned true z >>= k)
    by (Ok x) = two (tighter true 0 x.0 x.1)
    by (Err d) = refl

valued_ends : (field_of : Expr → Field) (ends : Field → Reading Expr) (outer : Expr → Reading Expr) (r : Result (Expr × Rest) ReadRefused)
    → behind (behind (behind r (λ x. give (field_of x))) ends) outer ≡ behind r (λ v. ends (field_of v) >>= outer)
valued_ends field_of ends outer (Ok x) = refl
valued_ends field_of ends outer (Err d) = refl

module _ (ends : Expr → Reading Expr) (outer : Expr → Reading Expr) where
  four : (r : Result (Expr × Rest) ReadRefused) → behind r (λ v. ends v >>= outer) ≡ behind (behind r ends) outer
  four (Ok x) = refl
  four (Err d) = refl

  three : (r : Result (Expr × Rest) ReadRefused) → behind r (λ z. assigned true z >>= λ v. ends v >>= outer) ≡ behind (behind r (λ z. assigned true z >>= ends)) outer
  three (Ok x) = four (assigned true x.0 x.1)
  three (Err d) = refl

  two : (r : Result (Expr × Rest) ReadRefused) → behind r (λ y. chosen true y >>= λ z. assigned true z >>= λ v. ends v >>= outer) ≡ behind r (λ y. (chosen true y >>= λ z. assigned true z >>= ends) >>= outer)
  two (Ok x) = three (chosen true x.0 x.1)
  two (Err d) = refl

  value_ends : (r : Result (Expr × Rest) ReadRefused)
      → behind r (λ x. tighter true 0 x >>= λ y. chosen true y >>= λ z. assigned true z >>= λ v. ends v >>= outer)
      ≡ behind r (λ x. tighter true 0 x >>= λ y. (chosen true y >>= λ z. assigned true z >>= ends) >>= outer)
  value_ends (Ok x) = two (tighter true 0 x.0 x.1)
  value_ends (Err d) = refl

pub key_begins : (fs gs : List Frame) (at : Place) (so_far : List Field) (key_at : Place) (key : List ℕ) (s t u : Rest) → key_at ≡ R.place_of s.tokens s.end → expect Marks.property_name s ≡ Ok (key, t) → expect Marks.colon t ≡ Ok (tt, u)
    → gs ≡ frame.Value (record { at = at; so_far = so_far; key_at = key_at; key = key }) ∷ fs → keyed_on at so_far fs s ≡ read_on stage.Begin gs u
key_begins fs gs at so_far key_at key s t u here named colon is =
    let here_at = R.place_of s.tokens s.end in
    let outer = (behind_all fs).operand in
    let ends : Field → Reading Expr = λ x. literal_behind at (so_far ++ (x ∷ [])) in
    rw is (rw here (
    ap (λ r. behind (behind (behind r (λ k. expect Marks.colon >> (grammar.assignment true >>= λ x. give (field.Value here_at k x)))) ends) outer) named
    ∙ ap (λ r. behind (behind (behind r (λ _. grammar.assignment true >>= λ x. give (field.Value here_at key x))) ends) outer) colon
    ∙ valued_ends (λ v. field.Value here_at key v) ends outer (grammar.assignment true u)
    ∙ assignment_parts (λ v. ends (field.Value here_at key v) >>= outer) u
    ∙ value_ends (λ v. ends (field.Value here_at key v)) outer (E.unary grammar u)))

pub reached_on : (m : Reading Expr) (fs : List Frame) (s u : Rest) (r : Reached) → IsReached m s u (Ok r) → (m >>= (behind_all fs).operand) s ≡ read_on (stage_of r) fs u
reached_on m fs s u (reached.Whole x) h = ap (λ r. behind r (behind_all fs).operand) h
reached_on m fs s u (reached.Fields at so_far) h = ap (λ r. behind r (behind_all fs).operand) h

-- ---- the whole

pub operation_is : (allows_in : Bool) (s : Rest) → read_on stage.Begin (frame.Operation allows_in ∷ []) s ≡ E.logical_or grammar allows_in s
operation_is allows_in s = by (E.unary grammar s) ∙ sym (climbs.begins allows_in s)
  where
    by : (r : Result (Expr × Rest) ReadRefused) → behind r (λ x. tighter allows_in 0 x >>= give) ≡ behind r (tighter allows_in 0)
    by (Ok x) = unit (tighter allows_in 0 x.0 x.1)
    by (Err d) = refl

postfix_is : (s : Rest) → read_on stage.Begin (frame.Postfix ∷ []) s ≡ E.postfix grammar s
postfix_is s = sym (unprefixed give s) ∙ unit (E.postfix grammar s)

pub postfix_begins : (fs gs : List Frame) (s u : Rest) (r : Result Expr ReadRefused) → gs ≡ [] → fs ≡ frame.Postfix ∷ gs → IsAnswer (read_on stage.Begin fs) s u r → IsAnswer (E.postfix grammar) s u r
postfix_begins fs gs s u r none is h =
    answer_by (E.postfix grammar) (read_on stage.Begin fs) s s u r (sym (rw is (rw none (postfix_is s)))) h
