-- Bytes that go from one list to another.
use Rattle.std.proofs.Common.{◌≡◌, ℕ, ◌+◌, List, ◌++◌, take, drop, sym, ◌∙◌, ap}
use Rattle.std.proofs.lemmas.List.{take-append-drop, drop-drop}

-- a front that was copied, and what is behind it
pub moved_front : (bs into left : List ℕ) (at n : ℕ) → left ≡ drop at bs → take n into ≡ take n (drop at bs) → left ≡ take n into ++ drop (at + n) bs
moved_front bs into left at n l t =
    l ∙ sym (ap (λ xs. xs ++ drop (at + n) bs) t ∙ (ap (λ xs. take n (drop at bs) ++ xs) (sym (drop-drop n at bs)) ∙ take-append-drop n (drop at bs)))
