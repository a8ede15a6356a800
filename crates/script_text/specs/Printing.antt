-- The text of a script.
use Rattle.std.specs.Prelude.{ℕ, zero, suc, Bool, true, false, List, [], ◌++◌, map, length, slice_get, Option, Some, None}
use Rattle.js_value.specs.declared.place.FuncNo.{FuncNo}
use Rattle.js_tree.specs.Mentions.{Names, own_name as own_names, names_of, hoisted_vars, hoisted_functions}
use Rattle.js_tree.specs.declared.statement.Func.{Func}
use Rattle.js_tree.specs.declared.statement.Name.{Name}
use Rattle.js_tree.specs.declared.statement.Script.{Script}
use Rattle.script_text.specs.Pieces.{Piece, text_of}
use Rattle.script_text.specs.Statements.{func, code}

-- 13: a function binds its own name where that is written
abbrev pub own_binding : Bool → Func → Names
own_binding named f = elim named [ true ↦ own_names f.name | false ↦ [] ]

-- 10.5: its parameters, and the names that its code declares
abbrev pub bound_names : Bool → List Func → Func → Names
bound_names named funcs f =
    own_binding named f ++ map (λ (p : Name). p.text) f.params ++ hoisted_vars f.body ++ names_of 0 funcs (hoisted_functions f.body)

abbrev pub found : (Func → List Piece) → Option Func → List Piece
found show None = []
found show (Some f) = show f

-- A function by its number, with functions inside it to a depth.
unfoldable pub function_to : ℕ → List Func → Bool → FuncNo → List Piece
function_to zero funcs named f = []
function_to (suc depth) funcs named f = found (λ g. func (function_to depth funcs) (bound_names named funcs g) named g) (slice_get funcs f.0)

-- A function stands inside one of a lower number, so that their count is deep enough.
abbrev pub script_pieces : Script → List Piece
script_pieces s = code (function_to (length s.funcs) s.funcs) s.directive s.body

unfoldable pub script_text : Script → List ℕ
script_text s = text_of (script_pieces s)
