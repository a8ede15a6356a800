-- What a set of names has.
use Rattle.std.specs.Prelude.{ℕ, Bool, List}
use Rattle.std.specs.Borrow.{Bor}
use Rattle.std.specs.HashSet.{HashSet, contains_by}
use Rattle.std.specs.List.{list_all}
use Rattle.std.specs.Str.{bytes_eq}
use Rattle.js_tree.specs.declared.statement.Declarator.{Declarator}
use Rattle.js_tree.specs.declared.statement.Stmt.{Stmt}
use Rattle.js_tree.specs.declared.statement.StmtForm.{out-StmtForm}
use Rattle.js_tree.specs.Parts.{declarators_in}
use Rattle.simple_scripts.specs.Simple.{names_in_init}

abbrev pub of_statement : Stmt → List Declarator
of_statement s = declarators_in (out-StmtForm s.form)

module _ {S : Type 0} (names : HashSet (Bor (List ℕ)) S) where
  abbrev pub has : List ℕ → Bool
  has name = contains_by (λ k. bytes_eq name k.now) names

  abbrev pub has_all : List (List ℕ) → Bool
  has_all read = list_all has read

  -- whether it has each name that the declarator reads
  abbrev pub knows_declarator : Declarator → Bool
  knows_declarator d = has_all (names_in_init d.init)

  -- the same of a statement
  abbrev pub knows_statement : Stmt → Bool
  knows_statement s = list_all knows_declarator (of_statement s)
