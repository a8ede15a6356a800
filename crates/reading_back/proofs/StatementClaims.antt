-- What it is that the printed tokens of statements read back.
use Rattle.std.specs.Prelude.{◌≡◌, ◌≤◌, ◌||◌, ℕ, Bool, true, false, List, [], ◌∷◌, is_some}
use Rattle.js_tree.specs.declared.statement.Stmt.{Stmt}
use Rattle.js_tree.specs.declared.token.TokenForm.{TokenForm}
use Rattle.js_grammar.specs.FunctionOrder.{Numbers}
use Rattle.js_grammar.specs.Marks
use Rattle.js_grammar.specs.Reading.{grammar}
use Rattle.js_grammar.specs.Rest.{give}
use Rattle.js_grammar.specs.Statements as S
use Rattle.script_text.specs.Pieces.{Piece}
use Rattle.script_text.specs.Tokens.{Shape, shape, tokens_from}
use Rattle.reading_back.proofs.Claims.{World, Flows, Read}
use Rattle.reading_back.specs.Unplaced as unplaced
use Rattle.script_nesting.specs.Height.{stmt_height}

-- the same but for places
pub record IsStmt (t x : Stmt) : Type 0 where
  pub same : unplaced.stmt x ≡ unplaced.stmt t

-- a statement that is no higher than is allowed
pub record LowStmt (all : World) (t : Stmt) : Type 0 where
  pub within : stmt_height all.tall t ≤ all.high

-- a token that ends a list of statements or clauses, or goes on with a statement
abbrev pub ends_list : TokenForm → Bool
ends_list t =
    is_some (Marks.right_brace t) || is_some (Marks.case_word t) || is_some (Marks.default_word t) || is_some (Marks.else_word t)
    || is_some (Marks.string t) || is_some (Marks.finally_word t)

-- the token that these pieces begin with
pub record StmtFirst (pieces : List Piece) : Type 0 where
  pub form : TokenForm
  pub more : List Shape
  pub is : (line : Bool) → tokens_from line pieces ≡ shape form line ∷ more
  pub begins : ends_list form ≡ false

abbrev pub is_else : List Shape → Bool
is_else [] = false
is_else (s ∷ ss) = is_some (Marks.else_word s.form) || is_some (Marks.finally_word s.form)

abbrev pub is_finally : List Shape → Bool
is_finally [] = false
is_finally (s ∷ ss) = is_some (Marks.finally_word s.form)

-- `else` doesn't stand behind a statement that ends in an `if` without it (12.5), and `finally` behind none (12.14)
pub record NoElse (ends_in_if : Bool) (rest : List Shape) : Type 0 where
  pub holds : ends_in_if ≡ true → is_else rest ≡ false
  pub no_finally : is_finally rest ≡ false

-- a statement that is no function declaration (12)
pub record StmtPart (all : World) (bound : ℕ) (ends_in_if : Bool) (pieces : List Piece) (numbers : Numbers) (t : Stmt) : Type 0 where
  pub flows : Flows pieces
  pub first : StmtFirst pieces
  pub reads : Read all bound pieces numbers (IsStmt t) (NoElse ends_in_if) (S.statement grammar) give

-- a statement or a function declaration (14)
pub record ElementPart (all : World) (bound : ℕ) (ends_in_if : Bool) (pieces : List Piece) (numbers : Numbers) (t : Stmt) : Type 0 where
  pub flows : Flows pieces
  pub first : StmtFirst pieces
  pub reads : Read all bound pieces numbers (IsStmt t) (NoElse ends_in_if) (S.element grammar) give
