-- The cases of whole residuals compute, each fold opened form by form.
use Rattle.std.proofs.Common.{◌≡◌, map, true, false}
use Rattle.js_tree.specs.declared.expression.ExprForm.TheVariants as e
use Rattle.js_tree.specs.declared.expression.Field.TheVariants.{outs-Value}
use Rattle.js_tree.specs.declared.statement.StmtForm.TheFolds.{fold-roll-Catch}
use Rattle.js_tree.specs.declared.statement.StmtForm.TheVariants as s
use Rattle.residual_form.specs.WholeCases.{WholeCases, scripts, no_scripts, ending, ends, no_ends, needed, unneeded, creation_rows, with_t, fresh_sources, stale_sources}
use Rattle.residual_form.specs.Creations.{creations}
use Rattle.residual_form.specs.Form.{is_residual, is_fresh, temporaries}
use Rattle.residual_form.specs.Names.{is_identifier}
use Rattle.residual_form.specs.Paths.{is_path}
use Rattle.residual_form.proofs.FormOpening.{opened}

forms : map is_residual scripts ≡ map (λ _. true) scripts
unfolding is_residual is_path
forms = simp (e.outs-This, e.outs-Name, e.outs-Literal, e.outs-Func, e.outs-Member, e.outs-Call, e.outs-Unary, s.outs-Var, s.outs-Eval)

no_forms : map is_residual no_scripts ≡ map (λ _. false) no_scripts
unfolding is_residual is_path
no_forms = simp (e.outs-This, e.outs-Name, e.outs-Literal, e.outs-Func, e.outs-Member, e.outs-Call, s.outs-Var, s.outs-Eval)

thrown_last : map (λ ss. is_residual (ending ss)) ends ≡ map (λ _. true) ends
unfolding is_residual is_path
thrown_last = simp (opened, e.outs-This, e.outs-Name, e.outs-Literal, e.outs-Func, e.outs-Member, e.outs-Call, e.outs-Assign, s.outs-Var, s.outs-Eval, s.outs-If, s.outs-Block, s.outs-Throw)

not_last : map (λ ss. is_residual (ending ss)) no_ends ≡ map (λ _. false) no_ends
unfolding is_residual is_path
not_last = simp (opened, e.outs-This, e.outs-Name, e.outs-Literal, e.outs-ArrayLit, e.outs-Func, e.outs-Member, e.outs-Call, e.outs-Assign, s.outs-Var, s.outs-Eval, s.outs-If, s.outs-Block, s.outs-Throw)

all_needed : map is_residual needed ≡ map (λ _. true) needed
unfolding is_residual is_path
all_needed = simp (opened, e.outs-This, e.outs-Name, e.outs-Literal, e.outs-Func, e.outs-Member, e.outs-Call, e.outs-Assign, e.outs-HostCall, s.outs-Var, s.outs-Eval, s.outs-If, s.outs-Block, s.outs-Return)

some_unneeded : map is_residual unneeded ≡ map (λ _. false) unneeded
unfolding is_residual is_path
some_unneeded = simp (opened, e.outs-This, e.outs-Name, e.outs-Literal, e.outs-Func, e.outs-Member, e.outs-Call, e.outs-Assign, s.outs-Var, s.outs-Eval, s.outs-Return)

made : map (λ row. creations row.0) creation_rows ≡ map (λ row. row.1) creation_rows
unfolding creations is_residual is_path
made = simp (opened, e.outs-This, e.outs-Name, e.outs-Literal, e.outs-ArrayLit, e.outs-ObjectLit, outs-Value, e.outs-Func, e.outs-Member, e.outs-Call, e.outs-Assign, e.outs-Conditional, s.outs-Var, s.outs-Eval, s.outs-If, s.outs-Block)

fresh : map (is_fresh with_t) fresh_sources ≡ map (λ _. true) fresh_sources
unfolding is_fresh temporaries is_identifier
fresh = simp (opened, e.outs-This, e.outs-Literal, e.outs-ObjectLit, outs-Value, e.outs-Func, e.outs-Member, e.outs-Call, e.outs-Assign, s.outs-Var, s.outs-Eval)

stale : map (is_fresh with_t) stale_sources ≡ map (λ _. false) stale_sources
unfolding is_fresh temporaries is_identifier
stale = simp (opened, fold-roll-Catch, e.outs-This, e.outs-Name, e.outs-Literal, e.outs-ArrayLit, e.outs-Func, e.outs-Member, e.outs-Call, e.outs-Assign, s.outs-Var, s.outs-FuncDecl, s.outs-Eval, s.outs-ForIn, s.outs-Try, s.outs-Return)

pub whole_cases : WholeCases
whole_cases = record { forms = forms; no_forms = no_forms; thrown_last = thrown_last; not_last = not_last; all_needed = all_needed; some_unneeded = some_unneeded; made = made; fresh = fresh; stale = stale }
