-- Pieces that end in a token, and their tokens one after another.
use Rattle.std.proofs.Common.{◌≡◌, ℕ, Bool, true, false, List, [], ◌∷◌, ◌++◌, refl, ap, ◌∙◌, append_assoc}
use Rattle.script_text.specs.Pieces as pieces
use Rattle.script_text.specs.Pieces.{Piece}
use Rattle.js_tree.specs.declared.token.TokenForm.TheVariants as form
use Rattle.script_text.specs.Tokens.{Shape, shape, form_of, name_form, tokens_from}
use Rattle.reading_back.proofs.Claims.{Flows}

-- whatever stands before them
pub flows_last : (xs ys : List Piece) → Flows ys → Flows (xs ++ ys)
flows_last xs ys h = record { at = λ line more. along xs line more }
  where
    along : (xs : List Piece) (line : Bool) (more : List Piece) → tokens_from line ((xs ++ ys) ++ more) ≡ tokens_from line (xs ++ ys) ++ tokens_from false more
    along [] line more = h.at line more
    along (pieces.Token text is_tight behind ∷ xs) line more = ap (λ zs. shape (form_of text) line ∷ zs) (along xs false more)
    along (pieces.LineEnd ∷ xs) line more = along xs true more
    along (pieces.Open ∷ xs) line more = along xs line more
    along (pieces.Close ∷ xs) line more = along xs line more
    along (pieces.Reference name ∷ xs) line more = ap (λ zs. shape (name_form name) line ∷ zs) (along xs false more)
    along (pieces.Named name behind ∷ xs) line more = ap (λ zs. shape (name_form name) line ∷ zs) (along xs false more)
    along (pieces.Quoted text behind ∷ xs) line more = ap (λ zs. shape (form.Str text) line ∷ zs) (along xs false more)
    along (pieces.Number n ∷ xs) line more = ap (λ zs. shape (form.Number n) line ∷ zs) (along xs false more)
    along (pieces.Bind names ∷ xs) line more = along xs line more
    along (pieces.Release ∷ xs) line more = along xs line more

pub flows_token : (text : List ℕ) (is_tight : Bool) (behind : _) → Flows (pieces.Token text is_tight behind ∷ [])
flows_token text is_tight behind = record { at = λ line more. refl }

-- the tokens of pieces and those behind
pub spread : (xs ys : List Piece) → Flows xs → (line : Bool) (rest : List Shape) → tokens_from line (xs ++ ys) ++ rest ≡ tokens_from line xs ++ (tokens_from false ys ++ rest)
spread xs ys h line rest = ap (λ zs. zs ++ rest) (h.at line ys) ∙ append_assoc (tokens_from line xs) (tokens_from false ys) rest
