-- What tokens are put on: the lines of a text, or the line of a function's code.
use Rattle.std.specs.Prelude.{ℕ, List, [], ◌∷◌}
use Rattle.token_sheets.specs.declared.sheet.Sheet.{Sheet}
use Rattle.token_sheets.specs.declared.sheet.Sheet.TheVariants.{Lines, Code}
use Rattle.script_text.specs.Pieces as pieces
use Rattle.script_text.specs.Pieces.{Piece}
use Rattle.script_text.specs.CodeLine.{add}

unfoldable pub put : Sheet → Piece → Sheet
put (Lines p) piece = Lines (pieces.put p piece)
put (Code c) piece = Code (add c piece)

abbrev pub put_all : List Piece → Sheet → Sheet
put_all [] s = s
put_all (piece ∷ pieces) s = put_all pieces (put s piece)

abbrev pub bytes_of : Sheet → List ℕ
bytes_of (Lines p) = p.bytes
bytes_of (Code c) = c.bytes
