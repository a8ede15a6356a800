-- Two inputs with one name and two types are no fault where no place is before another.
use Rattle.std.proofs.Common.{◌≡◌, [], ◌∷◌, ◌++◌, None, ap, ◌∙◌, codes, fold, map}
use Rattle.js_tree.specs.declared.expression.ExprForm.TheVariants.{outs-Binary, outs-Input}
use Rattle.js_tree.specs.declared.statement.Case.{Case}
use Rattle.js_tree.specs.declared.statement.Catch.{Catch}
use Rattle.js_tree.specs.declared.statement.Finally.{Finally}
use Rattle.js_tree.specs.declared.statement.Stmt.{Stmt}
use Rattle.js_tree.specs.declared.statement.StmtForm.{StmtForm, out-StmtForm}
use Rattle.js_tree.specs.declared.statement.StmtForm.TheFolds.{map-StmtForm, fold-StmtForm, fold-Case, fold-Catch, fold-Finally, fold-Stmt, fold_out-StmtForm, fold_out-Stmt}
use Rattle.js_tree.specs.declared.statement.StmtForm.TheOpen.{StmtForm-F}
use Rattle.js_tree.specs.declared.statement.StmtForm.TheVariants.{outs-Eval}
use Rattle.js_value.specs.declared.place.Place.{Place}
use Rattle.js_value.specs.declared.primitive.Kind.TheVariants as kind
use Rattle.js_tree.specs.Early.{Places, At, early_fault, jump_faults, mention_faults, lesser}
use Rattle.js_tree.specs.Mentions.{Takes, joined, mentions, hoisted_vars, hoisted_functions}
use Rattle.js_tree.specs.Refusals.{place}
use Rattle.js_tree.specs.EarlyCases.{two_types}
use Rattle.js_tree.proofs.EarlyCases.{expr_first, form_first}
use Rattle.reading_back.specs.Unplaced as unplaced
use Rattle.early_back.specs.EarlyBack.{NoneBefore}
use Rattle.early_back.proofs.Forgotten.{forgotten}
use Rattle.early_back.proofs.Jumps.{forget_refusal, jump_faults_are}
use Rattle.early_back.proofs.MentionedScripts.{script_is}

-- a fold over jumps takes the place last
module _ (jumps : StmtForm-F At Places Places Places Places → At) where
  jumps_at : (f : StmtForm) (at : Place)
      → fold-StmtForm At Places Places Places Places jumps (λ c. joined c.body) (λ c. joined c.body) (λ f. joined f.body) (λ s. s.form s.at) f at
      ≡ jumps (map-StmtForm StmtForm Case Catch Finally Stmt At Places Places Places Places
      (fold-StmtForm At Places Places Places Places jumps (λ c. joined c.body) (λ c. joined c.body) (λ f. joined f.body) (λ s. s.form s.at))
      (fold-Case At Places Places Places Places jumps (λ c. joined c.body) (λ c. joined c.body) (λ f. joined f.body) (λ s. s.form s.at))
      (fold-Catch At Places Places Places Places jumps (λ c. joined c.body) (λ c. joined c.body) (λ f. joined f.body) (λ s. s.form s.at))
      (fold-Finally At Places Places Places Places jumps (λ c. joined c.body) (λ c. joined c.body) (λ f. joined f.body) (λ s. s.form s.at))
      (fold-Stmt At Places Places Places Places jumps (λ c. joined c.body) (λ c. joined c.body) (λ f. joined f.body) (λ s. s.form s.at)) (out-StmtForm f)) at
  jumps_at f at = ap (λ g. g at) (fold_out-StmtForm At Places Places Places Places jumps (λ c. joined c.body) (λ c. joined c.body) (λ f. joined f.body) (λ s. s.form s.at) f)

no_jump : jump_faults two_types ≡ []
no_jump = simp (fold_out-Stmt, jumps_at, outs-Eval)

two_inputs : mentions two_types ≡ Takes (place 0) kind.Number (codes "n") ∷ Takes (place 32) kind.Boolean (codes "n") ∷ []
unfolding mentions hoisted_vars hoisted_functions
two_inputs = simp (fold_out-Stmt, fold_out-StmtForm, outs-Eval, expr_first, form_first, outs-Binary, outs-Input)

pub none_before : NoneBefore
unfolding early_fault
none_before =
    ap (λ es. fold lesser None (es ++ mention_faults (mentions (unplaced.script two_types)))) (jump_faults_are two_types ∙ ap (map forget_refusal) no_jump)
    ∙ ap (λ ms. fold lesser None (mention_faults ms)) (script_is two_types ∙ ap forgotten two_inputs)
