-- Lists of pieces that are put one after another.
use Rattle.std.proofs.Common.{◌≡◌, ◌<◌, ◌≤◌, ◌-◌, drop, arith, ◌∙◌, ℕ, ◌+◌, List, [], ◌∷◌, ◌++◌, refl, ap, sym, take, get_or, length, append-nil}
use Rattle.std.specs.Prelude.{Result, Ok, Err, OnOk, codes}
use Rattle.std.proofs.lemmas.List.{take_more, take_all}
use Rattle.std.proofs.lemmas.Grind.{flat_map-append}
use Rattle.script_text.specs.Pieces.{Piece, closing, behind_commas, separated}
use Rattle.token_sheets.proofs.Putting.{put_all-append}
use Rattle.token_sheets.specs.Sheets.{put_all}
use Rattle.token_sheets.specs.declared.sheet.Sheet.{Sheet}

-- what a last call ensures, said of an equal page
pub on_ok_along : {T E A : Type 0} (r : Result T E) (x y z : A) → OnOk r (x ≡ y) → y ≡ z → OnOk r (x ≡ z)
on_ok_along (Ok v) x y z h e = h ∙ e
on_ok_along (Err v) x y z h e = h

-- one more part behind a comma
pub commas-push : {A : Type 0} (f : A → List Piece) (xs : List A) (i : ℕ) (x : A) → i < length xs → x ≡ get_or xs i x → (p : Sheet)
    → put_all (behind_commas f (take (i + 1) xs)) p ≡ put_all (f x) (put_all (closing (codes ",")) (put_all (behind_commas f (take i xs)) p))
commas-push {A = A} f xs i x below is p =
    let item : A → List Piece = λ y. closing (codes ",") ++ f y in
    ap (λ ys. put_all (behind_commas f ys) p) (take_more xs i x below)
    ∙ ap (λ z. put_all (behind_commas f (take i xs ++ z ∷ [])) p) (sym is)
    ∙ ap (λ ys. put_all ys p) (flat_map-append item (take i xs) (x ∷ []))
    ∙ put_all-append (behind_commas f (take i xs)) (item x ++ []) p
    ∙ ap (λ ys. put_all ys (put_all (behind_commas f (take i xs)) p)) (append-nil (item x))

-- the first part, and the others behind commas
pub separated-whole : {A : Type 0} (f : A → List Piece) (xs : List A) (i : ℕ) (x : A) → 1 ≤ length xs → length (take (length xs - 1) (drop 1 xs)) ≤ i
    → x ≡ get_or xs 0 x → (p : Sheet)
    → put_all (behind_commas f (take i (take (length xs - 1) (drop 1 xs)))) (put_all (f x) p) ≡ put_all (separated f xs) p
separated-whole f [] i x one all is p = absurd (omega (arith, one))
separated-whole f (y ∷ ys) i x one all is p =
    let same : take (length (y ∷ ys) - 1) ys ≡ ys = take_all (length (y ∷ ys) - 1) ys (omega arith) in
    let rest : take i (take (length (y ∷ ys) - 1) ys) ≡ ys = take_all i (take (length (y ∷ ys) - 1) ys) all ∙ same in
    ap (λ zs. put_all (behind_commas f zs) (put_all (f x) p)) rest
    ∙ ap (λ z. put_all (behind_commas f ys) (put_all (f z) p)) is
    ∙ sym (put_all-append (f y) (behind_commas f ys) p)

pub separated-none : {A : Type 0} (f : A → List Piece) (xs : List A) → length xs < 1 → (p : Sheet) → p ≡ put_all (separated f xs) p
separated-none f [] none p = refl
separated-none f (x ∷ xs) none p = absurd (omega (arith, none))
