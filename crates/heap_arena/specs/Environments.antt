-- The environments that scopes in an arena stand for.
use Rattle.std.specs.Prelude.{ℕ, List, [], ◌∷◌, ◌++◌, Option, Some, None, fold}
use Rattle.std.specs.List.{zip}
use Rattle.plain_heap.specs.Heap.{Environment}
use Rattle.heap_values.specs.Meaning.{environment_at}
use Rattle.heap_arena.specs.declared.environment.Scope.{Scope}

-- the names of the scope itself
abbrev pub own_names : Scope → Environment
own_names s = zip s.names s.cells

-- the environment around a scope, by those that were made before it
abbrev pub surrounding : List Environment → Option ℕ → Environment
surrounding made None = []
surrounding made (Some s) = environment_at made s

-- each scope's environment: its own names, and behind them those of the scope around it
abbrev pub with_scope : List Environment → Scope → List Environment
with_scope made s = made ++ (own_names s ++ surrounding made s.outer) ∷ []

unfoldable pub environments : List Scope → List Environment
environments scopes = fold with_scope [] scopes
