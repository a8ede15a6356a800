-- Cases of heights: a leaf of height 1 is within the limit 1, and anything around it isn't; each part around it adds 1.
use Rattle.std.specs.Prelude.{◌≡◌, ℕ, codes, List, [], ◌∷◌, map, Option, Some, None}
use Rattle.js_tree.specs.declared.refusal.ReadRefused.{ReadRefused}
use Rattle.js_tree.specs.declared.refusal.ReadRefused.TheVariants.{Nested}
use Rattle.js_grammar.specs.Answers.{fault}
use Rattle.js_grammar.specs.Reading.{read}
use Rattle.js_tree.specs.Refusals.{place}
use Rattle.js_grammar.specs.Written.{tokens_of}

abbrev pub height_texts : List (List ℕ × ℕ × Option ReadRefused)
height_texts =
    (codes ";", 1, None)
    ∷ (codes "return", 1, None)
    ∷ (codes "; a", 1, Some (Nested (place 2)))
    ∷ (codes "; return a", 1, Some (Nested (place 2)))
    ∷ (codes "; a + b", 1, Some (Nested (place 2)))
    ∷ (codes "; a . b", 1, Some (Nested (place 2)))
    ∷ (codes "var x = 0 ;", 2, None)
    ∷ (codes "var x = 0 ;", 1, Some (Nested (place 0)))
    ∷ (codes "function a ( ) { b }", 3, None)
    ∷ []

-- `0` has height 1, `! 0` 2, `! ! 0` 3, the statement 4
abbrev pub higher_texts : List (List ℕ × ℕ × Option ReadRefused)
higher_texts =
    (codes "var x = ! ! 0 ;", 4, None)
    ∷ (codes "var x = ! ! 0 ;", 3, Some (Nested (place 0)))
    ∷ []

-- these texts are read with these limits, or have these faults
pub record HeightCases : Type 0 where
  pub heights : map (λ row. fault (read (tokens_of row.0) row.1)) height_texts ≡ map (λ row. row.2) height_texts
  pub higher : map (λ row. fault (read (tokens_of row.0) row.1)) higher_texts ≡ map (λ row. row.2) higher_texts
