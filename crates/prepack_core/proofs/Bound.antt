-- Which names are bound.
use Rattle.std.proofs.Common.{◌≡◌, ℕ, Bool, true, false, cond, List, [], ◌∷◌, refl, ap, sym, ◌∙◌, subst}
use Rattle.std.specs.Prelude.{Option, Some, None, ◌&&◌, ◌||◌, is_some}
use Rattle.std.specs.List.{list_all}
use Rattle.std.specs.Str.{bytes_eq}
use Rattle.std.proofs.lemmas.Slice.Eq.{bytes_eq-Decides}
use Rattle.js_value.specs.declared.primitive.Primitive.TheVariants.{Undefined}
use Rattle.js_tree.specs.Parts.{is_among}
use Rattle.js_value.specs.declared.primitive.Primitive.{Primitive}
use Rattle.simple_runs.specs.Events.{Heap, lookup, put, put_unless, declare}
use Rattle.prepack_core.specs.Evaluates.{is_bound, are_bound, KeepsBound, declared_after}

-- a put keeps what is bound
put_keeps : (name other : List ℕ) (value : Primitive) (heap : Heap) → is_bound heap other ≡ true → is_bound (put name value heap) other ≡ true
put_keeps name other value [] h = cc
put_keeps name other value (p ∷ ps) h =
    elim (bytes_eq name p.0) as (λ b. is_bound (cond b ((p.0, value) ∷ ps) (p ∷ put name value ps)) other ≡ true) [
      | true ↦ either (bytes_eq other p.0) p.1 value (lookup other ps) (lookup other ps) (λ e. e) h
      | false ↦ either (bytes_eq other p.0) p.1 p.1 (lookup other ps) (lookup other (put name value ps)) (put_keeps name other value ps) h
    ]
  where
    either : (b : Bool) (v w : Primitive) (o q : Option Primitive) → (is_some o ≡ true → is_some q ≡ true) → is_some (cond b (Some v) o) ≡ true → is_some (cond b (Some w) q) ≡ true
    either true v w o q f h = refl
    either false v w o q f h = f h

pub keeps-put : (name : List ℕ) (value : Primitive) (heap : Heap) → KeepsBound heap (put name value heap)
keeps-put name value heap = record { keeps = λ other h. put_keeps name other value heap h }

pub keeps_same : (heap : Heap) → KeepsBound heap heap
keeps_same heap = record { keeps = λ other h. h }

pub keeps_both : (a b c : Heap) → KeepsBound a b → KeepsBound b c → KeepsBound a c
keeps_both a b c x y = record { keeps = λ other h. y.keeps other (x.keeps other h) }

pub are_bound-kept : (a b : Heap) (names : List (List ℕ)) → KeepsBound a b → are_bound a names ≡ true → are_bound b names ≡ true
are_bound-kept a b [] x h = refl
are_bound-kept a b (n ∷ ns) x h = both (is_bound a n) (is_bound b n) (are_bound a ns) (are_bound b ns) (x.keeps n) (are_bound-kept a b ns x) h
  where
    both : (p q r s : Bool) → (p ≡ true → q ≡ true) → (r ≡ true → s ≡ true) → (p && r) ≡ true → (q && s) ≡ true
    both true q r s f g h = ap (λ v. v && s) (f refl) ∙ g h
    both false q r s f g h = cc

-- ---- what is declared is bound

pub same_text : (xs ys : List ℕ) → bytes_eq xs ys ≡ true → xs ≡ ys
same_text xs ys h = (bytes_eq-Decides xs ys).0 h

text_itself : (xs : List ℕ) → bytes_eq xs xs ≡ true
text_itself xs = (bytes_eq-Decides xs xs).1 refl

put_binds : (name : List ℕ) (value : Primitive) (heap : Heap) → is_bound (put name value heap) name ≡ true
put_binds name value [] = ap (λ b. is_some (cond b (Some value) None)) (text_itself name)
put_binds name value (p ∷ ps) = found (bytes_eq name p.0) refl (put_binds name value ps)
  where
    found : (b : Bool) → bytes_eq name p.0 ≡ b → is_bound (put name value ps) name ≡ true → is_bound (cond b ((p.0, value) ∷ ps) (p ∷ put name value ps)) name ≡ true
    found true e rest = ap (λ c. is_some (cond c (Some value) (lookup name ps))) e
    found false e rest = ap (λ c. is_some (cond c (Some p.1) (lookup name (put name value ps)))) e ∙ rest

declare_binds : (name : List ℕ) (heap : Heap) → is_bound (declare name heap) name ≡ true
declare_binds name heap = by_case (lookup name heap) refl
  where
    by_case : (o : Option Primitive) → lookup name heap ≡ o → is_bound (put_unless o name heap) name ≡ true
    by_case None e = put_binds name Undefined heap
    by_case (Some v) e = ap is_some e

keeps-declare : (name : List ℕ) (heap : Heap) → KeepsBound heap (declare name heap)
keeps-declare name heap = by_case (lookup name heap)
  where
    by_case : (o : Option Primitive) → KeepsBound heap (put_unless o name heap)
    by_case None = keeps-put name Undefined heap
    by_case (Some v) = keeps_same heap

keeps-declared : (heap : Heap) (names : List (List ℕ)) → KeepsBound heap (declared_after heap names)
keeps-declared heap [] = keeps_same heap
keeps-declared heap (n ∷ ns) = keeps_both heap (declare n heap) (declared_after (declare n heap) ns) (keeps-declare n heap) (keeps-declared (declare n heap) ns)

declared_binds : (heap : Heap) (names : List (List ℕ)) (name : List ℕ) → is_among names name ≡ true → is_bound (declared_after heap names) name ≡ true
declared_binds heap [] name h = cc
declared_binds heap (n ∷ ns) name h = by_case (bytes_eq name n) refl h (declared_binds (declare n heap) ns name)
  where
    by_case : (b : Bool) → bytes_eq name n ≡ b → (b || is_among ns name) ≡ true → (is_among ns name ≡ true → is_bound (declared_after (declare n heap) ns) name ≡ true)
        → is_bound (declared_after (declare n heap) ns) name ≡ true
    by_case true e g rest =
        (keeps-declared (declare n heap) ns).keeps name (subst (λ (m : List ℕ). is_bound (declare n heap) m ≡ true) (sym (same_text name n e)) (declare_binds n heap))
    by_case false e g rest = rest g

pub all_declared_bound : (heap : Heap) (names others : List (List ℕ)) → list_all (is_among names) others ≡ true → are_bound (declared_after heap names) others ≡ true
all_declared_bound heap names [] h = refl
all_declared_bound heap names (x ∷ xs) h = both (is_among names x) (list_all (is_among names) xs) h (declared_binds heap names x) (all_declared_bound heap names xs)
  where
    both : {q s : Bool} (p r : Bool) → (p && r) ≡ true → (p ≡ true → q ≡ true) → (r ≡ true → s ≡ true) → (q && s) ≡ true
    both {q} {s} true r h f g = ap (λ v. v && s) (f refl) ∙ g h
    both false r h f g = cc
