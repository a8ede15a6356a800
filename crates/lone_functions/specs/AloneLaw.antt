-- A function of a script in source order is alone in source order too.
use Rattle.std.specs.Prelude.{◌≡◌, ◌<◌, true, length}
use Rattle.js_value.specs.declared.place.FuncNo.{FuncNo}
use Rattle.js_tree.specs.declared.statement.Script.{Script}
use Rattle.js_grammar.specs.FunctionOrder.{are_in_source_order}
use Rattle.lone_functions.specs.Alone.{alone}

-- Where each function is named once and in source order, so it is in what stands alone: no function of it is missing, and
-- none is there that isn't inside.
abbrev pub AloneLaw : Type 0
AloneLaw = (all : Script) (f : FuncNo) → f.0 < length all.funcs → are_in_source_order all ≡ true → are_in_source_order (alone all f) ≡ true
