-- Lists of statements (12.1).
use Rattle.std.specs.Prelude.{Bool, if◌then◌else◌, List, [], ◌∷◌, ◌++◌}
use Rattle.js_tree.specs.declared.statement.Stmt.{Stmt}
use Rattle.js_grammar.specs.Rest.{Reading, ◌>>=◌, ◌>>◌, give, sees, expect, repeat, part}
use Rattle.js_grammar.specs.Marks
use Rattle.js_grammar.specs.Functions.{Grammar}

module _ (g : Grammar) where
  abbrev pub more_statements : Reading Bool → (List Stmt → Reading (List Stmt)) → List Stmt → Reading (List Stmt)
  more_statements closed again so_far = do
    done ← closed
    if done then give so_far else (do
      x ← part g.statement
      again (so_far ++ (x ∷ [])))

  -- statements up to where `closed` holds
  unfoldable pub statements : Reading Bool → Reading (List Stmt)
  statements closed = repeat (more_statements closed) []

  unfoldable pub statements_behind_brace : Reading (List Stmt)
  statements_behind_brace = do
    body ← statements (sees Marks.right_brace)
    expect Marks.right_brace
    give body

  abbrev pub braced : Reading (List Stmt)
  braced = expect Marks.left_brace >> statements_behind_brace
