use Rattle.std.proofs.Common.{sym, ◌∙◌, length}
use Rattle.std.proofs.lemmas.Result.{err_from_is_err_and}
use Rattle.js_tree.specs.Count.{nodes}
use Rattle.prepack_core.proofs.Promising.{few_steps, refused_reason, taken-simple, taken-not_built, residual_of, finished_of, reason_of}
use Rattle.prepack_core.proofs.answer.answer.Goals as goal

pub returns-in_err-script-clause-err : goal.returns-in_err-script-clause-err
returns-in_err-script-clause-err c =
    let p = err_from_is_err_and c.from_residual.result c.from_residual.ensures.1 in
    rw p.1 (refused_reason c.args.steps c.args.source.now c.in_err-script.field-0.0 p.0 c.in_err-script.ensures p.2)

pub returns-then-not-branch-clause-err : goal.returns-then-not-branch-clause-err
returns-then-not-branch-clause-err c =
    taken-not_built c.args.source.now c.in_ok-script.script c.in_ok-is_simple.field-0 c.in_ok-script.ensures c.in_ok-is_simple.ensures c.if-not-branch.true

pub returns-in-Err-clause-err : goal.returns-in-Err-clause-err
returns-in-Err-clause-err c =
    let s = c.in_ok-script.script in
    let takes = taken-simple c.args.source.now s c.in_ok-is_simple.field-0 c.in_ok-script.ensures c.in_ok-is_simple.ensures c.if-not-branch.false in
    let few = c.few_nodes_law.ensures c.args.source.now 200 s c.in_ok-script.ensures (sym c.in_ok-is_simple.ensures ∙ c.if-not-branch.false) in
    reason_of c.args.steps c.args.source.now s c.in-Err.stop c.report_of.result c.simple_run_law.ensures (sym c.in_ok-is_simple.ensures ∙ c.if-not-branch.false) takes (few_steps (nodes s) (length c.args.source.now) c.args.steps few c.requires.short c.requires.enough)
    c.in-Err.ensures c.report_of.ensures

pub returns-clause-ok : goal.returns-clause-ok
returns-clause-ok c =
    let s = c.in_ok-script.script in
    let simple = sym c.in_ok-is_simple.ensures ∙ c.if-not-branch.false in
    let few = c.few_nodes_law.ensures c.args.source.now 200 s c.in_ok-script.ensures simple in
    residual_of c.args.steps c.args.source.now c.in_ok-residual_text-in-Ok.field-0.items s c.in-Ok.variables c.simple_run_law.ensures c.simple_listing_law.ensures simple c.in_ok-script.ensures
    (few_steps (nodes s) (length c.args.source.now) c.args.steps few c.requires.short c.requires.enough) c.in-Ok.ensures c.in_ok-residual_text-in-Ok.ensures

pub returns-clause-finished : goal.returns-clause-finished
returns-clause-finished c =
    let s = c.in_ok-script.script in
    let simple = sym c.in_ok-is_simple.ensures ∙ c.if-not-branch.false in
    let takes = taken-simple c.args.source.now s c.in_ok-is_simple.field-0 c.in_ok-script.ensures c.in_ok-is_simple.ensures c.if-not-branch.false in
    let few = c.few_nodes_law.ensures c.args.source.now 200 s c.in_ok-script.ensures simple in
    finished_of c.args.steps c.args.source.now s c.in-Ok.variables c.simple_run_law.ensures simple takes (few_steps (nodes s) (length c.args.source.now) c.args.steps few c.requires.short c.requires.enough) c.in-Ok.ensures
