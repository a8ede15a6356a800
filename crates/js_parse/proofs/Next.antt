-- A production that goes by its next token.
use Rattle.std.proofs.Common.{◌≡◌, Bool, true, false, refl}
use Rattle.std.specs.Prelude.{Option, Some, None, is_some}
use Rattle.js_tree.specs.declared.token.TokenForm.{TokenForm}
use Rattle.js_grammar.specs.Rest.{Rest, Reading, next, of_first, passed}
use Rattle.token_reader.specs.Reader.{taken, IsTaken}

module _ {A B : Type 0} (want : TokenForm → Option A) (f : A → Reading B) (m : Reading B) where
  pub next_some : (s : Rest) (a : A) → of_first want s.tokens ≡ Some a → next want f m s ≡ f a (passed s)
  unfolding next
  next_some s a e = rw e refl

  pub next_none : (s : Rest) → of_first want s.tokens ≡ None → next want f m s ≡ m s
  unfolding next
  next_none s e = rw e refl

  none : (o : Option A) → is_some o ≡ false → o ≡ None
  none None e = refl
  none (Some x) e = absurd (cc)

  pub not_seen : (s : Rest) → is_some (of_first want s.tokens) ≡ false → next want f m s ≡ m s
  not_seen s other = next_none s (none (of_first want s.tokens) other)

module _ {B : Type 0} (want : TokenForm → Option (Unit {0})) (f : Unit {0} → Reading B) (m : Reading B) where
  pub there : (b : Bool) (s t : Rest) → IsTaken want s t (taken b) → b ≡ true → next want f m s ≡ f tt t
  there true s t is sure = rw (is.1) (next_some want f m s tt is.0)
  there false s t is sure = absurd (cc)

  pub absent : (b : Bool) (s t : Rest) → IsTaken want s t (taken b) → b ≡ false → next want f m s ≡ m t
  absent true s t is other = absurd (cc)
  absent false s t is other = rw (is.1) (next_none want f m s is.0)
