-- The code of a function on one line: its tokens with one space between them, and each name of some by its position where the
-- code around a token doesn't bind it.
use Rattle.std.specs.Prelude.{ℕ, ◌+◌, ◌-◌, Bool, if◌then◌else◌, false, List, [], ◌∷◌, ◌++◌, length, take, codes, Option, Some, None}
use Rattle.std.specs.Fmt.{decimal, signed_decimal}
use Rattle.std.specs.List.{list_any, position}
use Rattle.std.specs.Str.{bytes_eq}
use Rattle.js_value.specs.declared.place.FuncNo.{FuncNo}
use Rattle.js_value.specs.Texts.{quoted}
use Rattle.js_tree.specs.Mentions.{Names}
use Rattle.js_tree.specs.Parts.{is_among}
use Rattle.js_tree.specs.declared.statement.Script.{Script}
use Rattle.script_text.specs.Pieces.{Piece, Token, LineEnd, Open, Close, Reference, Named, Quoted, Number, Bind, Release, word, utf8}
use Rattle.script_text.specs.Printing.{function_to}

pub record CodeLine : Type 0 where
  pub bytes : List ℕ
  -- the names that are replaced
  pub names : Names
  -- what the code binds that was begun and hasn't ended, the outermost first
  pub bound : List Names

abbrev pub is_bound : List Names → List ℕ → Bool
is_bound bound name = list_any (λ names. is_among names name) bound

-- the first name is `%1`
abbrev pub replaced : Option ℕ → List ℕ → List ℕ
replaced None name = utf8 name
replaced (Some k) name = codes "%" ++ decimal (k + 1)

abbrev pub reference_text : CodeLine → List ℕ → List ℕ
reference_text c name = if is_bound c.bound name then utf8 name else replaced (position (bytes_eq name) c.names) name

abbrev pub space_behind : List ℕ → List ℕ
space_behind [] = []
space_behind (b ∷ bs) = codes " "

abbrev pub spaced : CodeLine → List ℕ → CodeLine
spaced c text = record c { bytes = c.bytes ++ space_behind c.bytes ++ text }

unfoldable pub add : CodeLine → Piece → CodeLine
add c (Token text is_tight behind) = spaced c text
add c (Reference name) = spaced c (reference_text c name)
add c (Named name behind) = spaced c (utf8 name)
add c (Quoted text behind) = spaced c (quoted text)
add c (Number n) = spaced c (signed_decimal n)
add c (Bind names) = record c { bound = c.bound ++ names ∷ [] }
add c Release = record c { bound = take (length c.bound - 1) c.bound }
add c LineEnd = c
add c Open = c
add c Close = c

abbrev pub add_all : List Piece → CodeLine → CodeLine
add_all [] c = c
add_all (piece ∷ pieces) c = add_all pieces (add c piece)

abbrev pub empty_line : Names → CodeLine
empty_line names = record { bytes = []; names = names; bound = [] }

-- a function without its own name
abbrev pub code_pieces : Script → FuncNo → List Piece
code_pieces s f = word (codes "function") ++ function_to (length s.funcs) s.funcs false f

-- the code of a function, in which these of its free names are replaced
unfoldable pub code_text : Script → FuncNo → Names → List ℕ
code_text s f names = (add_all (code_pieces s f) (empty_line names)).bytes
