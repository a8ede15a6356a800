-- What a function mentions of names that it doesn't declare.
use Rattle.std.specs.Prelude.{ℕ, ◌++◌, List, map}
use Rattle.js_tree.specs.declared.statement.Func.{Func}
use Rattle.js_tree.specs.declared.statement.Name.{Name}
use Rattle.js_tree.specs.Mentions as M
use Rattle.js_tree.specs.Mentions.{Inside, Names}
use Rattle.js_scope.specs.Mentioning.{as_expression, as_declaration}

-- the names that a function declares, where those behind it begin with the number `first`
abbrev pub declared : ℕ → List Func → Func → Names
declared first fs f = map (λ (p : Name). p.text) f.params ++ M.hoisted_vars f.body ++ M.names_of first fs (M.hoisted_functions f.body)

abbrev pub inside : ℕ → List Func → List Inside → Func → Inside
inside first fs inner f =
    (M.own_name f.name, M.unbound (declared first fs f) (M.joined (map (M.stmt_mentions (as_expression first inner) (as_declaration first inner)) f.body)))
