-- Pieces that are put one after another.
use Rattle.std.proofs.Common.{◌≡◌, ℕ, List, [], ◌∷◌, ◌++◌, refl}
use Rattle.std.specs.Prelude.{ℤ, false}
use Rattle.std.specs.Fmt.{signed_decimal}
use Rattle.js_value.specs.Texts.{quoted}
use Rattle.script_text.specs.CodeLine.{CodeLine, add, add_all}
use Rattle.script_text.specs.Pieces as pieces
use Rattle.script_text.specs.Pieces.{Piece, Page, Token, Named, Quoted, Number, utf8}
use Rattle.script_text.specs.declared.gap.Gap.{Gap}
use Rattle.script_text.specs.declared.gap.Gap.TheVariants.{Loose}
use Rattle.token_sheets.specs.Sheets.{put, put_all}
use Rattle.token_sheets.specs.declared.sheet.Sheet.{Sheet}
use Rattle.token_sheets.specs.declared.sheet.Sheet.TheVariants.{Lines, Code}

pub put_all-append : (xs ys : List Piece) (p : Sheet) → put_all (xs ++ ys) p ≡ put_all ys (put_all xs p)
put_all-append [] ys p = refl
put_all-append (x ∷ xs) ys p = put_all-append xs ys (put p x)

-- what is put on lines is on lines, and what is put on a line of code is on it
pub put_all-Lines : (xs : List Piece) (p : Page) → put_all xs (Lines p) ≡ Lines (pieces.put_all xs p)
unfolding put
put_all-Lines [] p = refl
put_all-Lines (x ∷ xs) p = put_all-Lines xs (pieces.put p x)

pub put_all-Code : (xs : List Piece) (c : CodeLine) → put_all xs (Code c) ≡ Code (add_all xs c)
unfolding put
put_all-Code [] c = refl
put_all-Code (x ∷ xs) c = put_all-Code xs (add c x)

-- names, strings and numbers are put as the tokens that they are

pub put-Named : (s : Sheet) (name : List ℕ) (behind : Gap) → put s (Named name behind) ≡ put s (Token (utf8 name) false behind)
unfolding put pieces.put add
put-Named (Lines p) name behind = refl
put-Named (Code c) name behind = refl

pub put-Quoted : (s : Sheet) (text : List ℕ) (behind : Gap) → put s (Quoted text behind) ≡ put s (Token (quoted text) false behind)
unfolding put pieces.put add
put-Quoted (Lines p) text behind = refl
put-Quoted (Code c) text behind = refl

pub put-Number : (s : Sheet) (n : ℤ) → put s (Number n) ≡ put s (Token (signed_decimal n) false Loose)
unfolding put pieces.put add
put-Number (Lines p) n = refl
put-Number (Code c) n = refl

pub ruleset as_tokens = (put-Named, put-Quoted, put-Number)

pub ruleset on_lines = (put_all-Lines)

pub ruleset on_code = (put_all-Code)

pub ruleset appended = (put_all-append)
