-- Variables of simple scripts: which are bound, and that all of them have plain values.
use Rattle.std.proofs.Common.{◌≡◌, ℕ, Bool, true, false, List, [], ◌∷◌, refl, ap, ◌∙◌, arith}
use Rattle.std.specs.Prelude.{◌||◌, fold, Option, Some, None, is_some}
use Rattle.std.specs.List.{list_all, list_any}
use Rattle.std.specs.Str.{bytes_eq}
use Rattle.std.proofs.lemmas.Bool.{and_parts}
use Rattle.std.proofs.lemmas.Cmp.{nat_list_eq_equiv}
use Rattle.std.proofs.lemmas.Slice.Eq.{bytes_eq-Decides}
use Rattle.js_value.specs.declared.primitive.Primitive.{Primitive}
use Rattle.js_value.specs.declared.primitive.Primitive.TheVariants as primitive
use Rattle.js_tree.specs.Parts.{is_among}
use Rattle.simple_runs.specs.Events.{Heap, lookup, put, put_unless, declare}

abbrev pub is_bound : Heap → List ℕ → Bool
is_bound vs name = is_some (lookup name vs)

-- undefined or a number
abbrev pub is_plain : Primitive → Bool
is_plain primitive.Undefined = true
is_plain (primitive.Number n) = true
is_plain _ = false

abbrev pub are_plain : Heap → Bool
are_plain vs = list_all (λ (v : List ℕ × Primitive). is_plain v.1) vs

-- the heap with these names declared
abbrev pub declare_all : Heap → List (List ℕ) → Heap
declare_all vs names = fold (λ vs name. declare name vs) vs names

-- ---- what holds of all names of a list holds of one among them

pub among_all : (P : List ℕ → Bool) (names : List (List ℕ)) (name : List ℕ) → is_among names name ≡ true → list_all P names ≡ true → P name ≡ true
among_all P [] name among all = cc
among_all P (n ∷ ns) name among all = by_same (bytes_eq name n) refl among (λ among. among_all P ns name among parts.1)
  where
    parts : (P n ≡ true) × (list_all P ns ≡ true)
    parts = and_parts (P n) (list_all P ns) all

    by_same : (b : Bool) → bytes_eq name n ≡ b → (b || list_any (bytes_eq name) ns) ≡ true → (list_any (bytes_eq name) ns ≡ true → P name ≡ true) → P name ≡ true
    by_same true same among rest = ap P ((bytes_eq-Decides name n).0 same) ∙ parts.0
    by_same false other among rest = rest among

pub all_among : (P : List ℕ → Bool) (names read : List (List ℕ)) → list_all (is_among names) read ≡ true → list_all P names ≡ true → list_all P read ≡ true
all_among P names [] among all = refl
all_among P names (n ∷ ns) among all =
    let parts = and_parts (is_among names n) (list_all (is_among names) ns) among in
    rw (among_all P names n parts.0 all) (all_among P names ns parts.1 all)

pub all_more : (P Q : List ℕ → Bool) (names : List (List ℕ)) → ((name : List ℕ) → P name ≡ true → Q name ≡ true) → list_all P names ≡ true → list_all Q names ≡ true
all_more P Q [] more all = refl
all_more P Q (n ∷ ns) more all =
    let parts = and_parts (P n) (list_all P ns) all in
    rw (more n parts.0) (all_more P Q ns more parts.1)

-- ---- puts

pub bound_put : (m n : List ℕ) (q : Primitive) (vs : Heap) → is_bound vs m ≡ true → is_bound (put n q vs) m ≡ true
bound_put m n q [] bound = cc
bound_put m n q (v ∷ vs) bound = grind (arith, bound, bound_put m n q vs)

pub put_bound : (n : List ℕ) (q : Primitive) (vs : Heap) → is_bound (put n q vs) n ≡ true
put_bound n q [] = rw (nat_list_eq_equiv.refl n) refl
put_bound n q (v ∷ vs) = grind (arith, put_bound n q vs)

pub plain_put : (n : List ℕ) (q : Primitive) (vs : Heap) → is_plain q ≡ true → are_plain vs ≡ true → are_plain (put n q vs) ≡ true
plain_put n q [] is all = rw is refl
plain_put n q (v ∷ vs) is all = grind (arith, is, all, plain_put n q vs)

pub plain_found : (n : List ℕ) (p : Primitive) (vs : Heap) → are_plain vs ≡ true → lookup n vs ≡ Some p → is_plain p ≡ true
plain_found n p [] all found = grind (arith, found)
plain_found n p (v ∷ vs) all found = grind (arith, all, found, plain_found n p vs)

-- ---- declarations

pub bound_declare : (m n : List ℕ) (vs : Heap) → is_bound vs m ≡ true → is_bound (declare n vs) m ≡ true
bound_declare m n vs bound = by_found (lookup n vs)
  where
    by_found : (o : Option Primitive) → is_bound (put_unless o n vs) m ≡ true
    by_found None = bound_put m n primitive.Undefined vs bound
    by_found (Some p) = bound

pub declare_bound : (n : List ℕ) (vs : Heap) → is_bound (declare n vs) n ≡ true
declare_bound n vs = by_found (lookup n vs) refl
  where
    by_found : (o : Option Primitive) → lookup n vs ≡ o → is_bound (put_unless o n vs) n ≡ true
    by_found None found = put_bound n primitive.Undefined vs
    by_found (Some p) found = rw found refl

pub plain_declare : (n : List ℕ) (vs : Heap) → are_plain vs ≡ true → are_plain (declare n vs) ≡ true
plain_declare n vs all = by_found (lookup n vs)
  where
    by_found : (o : Option Primitive) → are_plain (put_unless o n vs) ≡ true
    by_found None = plain_put n primitive.Undefined vs refl all
    by_found (Some p) = all

pub plain_declare_all : (names : List (List ℕ)) (vs : Heap) → are_plain vs ≡ true → are_plain (declare_all vs names) ≡ true
plain_declare_all [] vs all = all
plain_declare_all (n ∷ ns) vs all = plain_declare_all ns (declare n vs) (plain_declare n vs all)

pub bound_declare_all : (m : List ℕ) (names : List (List ℕ)) (vs : Heap) → is_bound vs m ≡ true → is_bound (declare_all vs names) m ≡ true
bound_declare_all m [] vs bound = bound
bound_declare_all m (n ∷ ns) vs bound = bound_declare_all m ns (declare n vs) (bound_declare m n vs bound)

pub declare_all_bound : (names : List (List ℕ)) (vs : Heap) → list_all (is_bound (declare_all vs names)) names ≡ true
declare_all_bound [] vs = refl
declare_all_bound (n ∷ ns) vs = rw (bound_declare_all n ns (declare n vs) (declare_bound n vs)) (declare_all_bound ns (declare n vs))

-- a name that is bound is declared already
pub declare_again : (n : List ℕ) (vs : Heap) → is_bound vs n ≡ true → declare n vs ≡ vs
declare_again n vs bound = by_found (lookup n vs) bound
  where
    by_found : (o : Option Primitive) → is_some o ≡ true → put_unless o n vs ≡ vs
    by_found None bound = cc
    by_found (Some p) bound = refl
