-- The places of jumps that leave a statement, by the kind of the jump, and the least fault so far.
use Rattle.std.specs.Prelude.{List, map, fold, Option}
use Rattle.js_value.specs.declared.place.Place.{Place}
use Rattle.js_tree.specs.declared.refusal.ReadRefused.{ReadRefused}
use Rattle.js_tree.specs.declared.refusal.ReadRefused.TheVariants.{Syntax}
use Rattle.js_tree.specs.declared.statement.Case.{Case, fold-Case}
use Rattle.js_tree.specs.declared.statement.Catch.{Catch, fold-Catch}
use Rattle.js_tree.specs.declared.statement.Finally.{Finally, fold-Finally}
use Rattle.js_tree.specs.declared.statement.Stmt.{Stmt, fold-Stmt}
use Rattle.js_tree.specs.declared.statement.StmtForm.{StmtForm, fold-StmtForm}
use Rattle.js_tree.specs.declared.statement.StmtForm.TheOpen.{StmtForm-F}
use Rattle.js_tree.specs.Early.{Places, At, returns, breaks, continues, lesser}
use Rattle.js_tree.specs.Mentions.{joined}
use Rattle.js_scope.specs.declared.jumps.Jump.{Jump}
use Rattle.js_scope.specs.declared.jumps.Jump.TheVariants as jump

abbrev pub leaving : Jump → StmtForm-F At Places Places Places Places → At
leaving jump.Return = returns
leaving jump.Break = breaks
leaving jump.Continue = continues

module _ (j : Jump) where
  abbrev pub in_form : StmtForm → At
  in_form = fold-StmtForm At Places Places Places Places (leaving j) (λ c. joined c.body) (λ c. joined c.body) (λ f. joined f.body) (λ s. s.form s.at)

  abbrev pub in_case : Case → Places
  in_case = fold-Case At Places Places Places Places (leaving j) (λ c. joined c.body) (λ c. joined c.body) (λ f. joined f.body) (λ s. s.form s.at)

  abbrev pub in_catch : Catch → Places
  in_catch = fold-Catch At Places Places Places Places (leaving j) (λ c. joined c.body) (λ c. joined c.body) (λ f. joined f.body) (λ s. s.form s.at)

  abbrev pub in_finally : Finally → Places
  in_finally = fold-Finally At Places Places Places Places (leaving j) (λ c. joined c.body) (λ c. joined c.body) (λ f. joined f.body) (λ s. s.form s.at)

  abbrev pub in_stmt : Stmt → Places
  in_stmt = fold-Stmt At Places Places Places Places (leaving j) (λ c. joined c.body) (λ c. joined c.body) (λ f. joined f.body) (λ s. s.form s.at)

  abbrev pub in_stmts : List Stmt → Places
  in_stmts all = joined (map in_stmt all)

  abbrev pub in_cases : List Case → Places
  in_cases all = joined (map in_case all)

abbrev pub at_place : Option ReadRefused → Place → Option ReadRefused
at_place least at = lesser least (Syntax at)

-- the least fault, where there is a jump at each of these places too
abbrev pub with_jumps : Option ReadRefused → Places → Option ReadRefused
with_jumps least places = fold at_place least places

-- the least fault, where there are these too
abbrev pub with_faults : Option ReadRefused → List ReadRefused → Option ReadRefused
with_faults least faults = fold lesser least faults
