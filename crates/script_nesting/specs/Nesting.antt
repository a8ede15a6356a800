-- The nesting of a script: the least limit with which its printed text is read.
use Rattle.std.specs.Prelude.{ℕ, max, length}
use Rattle.js_tree.specs.declared.statement.Script.{Script}
use Rattle.script_text.specs.Printing.{function_to}
use Rattle.script_nesting.specs.Height.{body_height, function_height}
use Rattle.script_nesting.specs.Opened.{of_body, in_function}

-- how many parts are open at once
abbrev pub opened : Script → ℕ
opened s = of_body (function_to (length s.funcs) s.funcs) (in_function (length s.funcs) s.funcs) s.body

-- how high its highest statement is
abbrev pub script_height : Script → ℕ
script_height s = body_height (function_height (length s.funcs) s.funcs) s.body

unfoldable pub nesting : Script → ℕ
nesting s = max (opened s) (script_height s)
