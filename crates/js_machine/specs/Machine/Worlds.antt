-- What a world gives to a script.
use Rattle.std.specs.Prelude.{Bool, true, false, IsTrue, unwrap_or}
use Rattle.std.specs.List.{list_all}
use Rattle.std.specs.Option.{option_map}
use Rattle.js_tree.specs.Early.{is_closed}
use Rattle.js_tree.specs.Mentions.{Mention, Takes, mentions}
use Rattle.js_tree.specs.declared.statement.Script.{Script}
use Rattle.plain_heap.specs.Heap.{lookup}
use Rattle.js_machine.specs.Machine.Walks.{World, is_of_kind}

-- an input that is taken has a value of its kind
abbrev pub is_given : World → Mention → Bool
is_given w (Takes at k name) = unwrap_or (option_map (is_of_kind k) (lookup name w.inputs)) false
is_given w _ = true

-- each input of the script, of its functions too, has a value of its kind
abbrev pub IsTyped : World → Script → Type 0
IsTyped w s = IsTrue (list_all (is_given w) (mentions s))

-- the script has neither inputs nor host calls
abbrev pub IsClosed : Script → Type 0
IsClosed s = IsTrue (is_closed s)
