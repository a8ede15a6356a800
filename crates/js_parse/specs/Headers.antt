-- Parts of statements as the reader keeps them.
use Rattle.std.specs.Prelude.{◌≡◌, ◌≢◌, ◌||◌, if◌then◌else◌, Option, Some, None, Result, Ok, Err}
use Rattle.js_tree.specs.declared.expression.Expr.{Expr}
use Rattle.js_tree.specs.declared.refusal.ReadRefused.{ReadRefused}
use Rattle.js_tree.specs.declared.refusal.ReadRefused.TheVariants.{NoMemory}
use Rattle.js_tree.specs.declared.statement.Stmt.{Stmt}
use Rattle.js_tree.specs.declared.statement.StmtForm.{StmtForm}
use Rattle.js_tree.specs.declared.statement.StmtForm.TheVariants as s
use Rattle.js_grammar.specs.Rest.{Rest, Reading, ◌>>=◌, give, sees}
use Rattle.js_grammar.specs.Marks
use Rattle.js_grammar.specs.Primary.{expression}
use Rattle.js_grammar.specs.Reading.{grammar}
use Rattle.js_parse.specs.declared.statements.Header.{Header}
use Rattle.js_parse.specs.declared.statements.Header.TheVariants as header

abbrev pub whole_of : Header → Stmt → StmtForm
whole_of (header.Parts from test step) = λ body. s.For from test step body
whole_of (header.In to object) = λ body. s.ForIn to object body

abbrev pub IsHeader : Reading (Stmt → StmtForm) → Rest → Rest → Result Header ReadRefused → Type 0
IsHeader m s t (Ok h) = m s ≡ Ok (whole_of h, t)
IsHeader m s t (Err e) = e ≢ NoMemory → m s ≡ Err e

-- what `return` gives, where its statement isn't ended by a line end
abbrev pub returned : Reading (Option Expr)
returned = do
  semicolon ← sees Marks.semicolon
  brace ← sees Marks.right_brace
  if semicolon || brace then give None else (expression grammar >>= λ x. give (Some x))
