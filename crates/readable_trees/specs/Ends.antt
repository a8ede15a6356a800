-- The parts that a `try` ends with, where they are there (12.14).
use Rattle.std.specs.Prelude.{Bool, true, List, Option, Some, None}
use Rattle.js_tree.specs.declared.statement.Catch.{Catch}
use Rattle.js_tree.specs.declared.statement.Finally.{Finally}
use Rattle.js_tree.specs.declared.statement.Func.{Func}
use Rattle.js_grammar.specs.Readable.{in_catch, in_finally}

module _ (functions : List Func) where
  abbrev pub in_handler : Option Catch → Bool
  in_handler None = true
  in_handler (Some handler) = in_catch functions handler

  abbrev pub in_last : Option Finally → Bool
  in_last None = true
  in_last (Some last) = in_finally functions last
