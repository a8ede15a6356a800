use Rattle.std.proofs.Common.{ap, ◌∙◌, arith}
use Rattle.std.proofs.lemmas.Result.{err_from_is_err_and}
use Rattle.std.specs.List.{list_all}
use Rattle.js_tree.specs.Count.{in_stmt}
use Rattle.simple_scripts.specs.Simple.{names_in_init, declared_names}
use Rattle.js_tree.specs.Parts.{declarators_in}
use Rattle.simple_scripts.specs.SimpleScripts.{is_simple_statement}
use Rattle.js_tree.specs.declared.statement.StmtForm.{out-StmtForm}
use Rattle.simple_runs.specs.Simple.{statement, declared}
use Rattle.prepack_core.specs.Evaluates as spec
use Rattle.prepack_core.proofs.Turns.{remains_next, remains_stops, remains_none, list_all-at, all_in_parts}
use Rattle.prepack_core.proofs.Bound.{are_bound-kept, keeps_both}
use Rattle.prepack_core.proofs.Scripts.{simple_body, start_bound, script_ends, script_stops}
use Rattle.prepack_core.proofs.evaluate.evaluate.Goals as goal

pub declared_variables-requires : goal.declared_variables-requires
declared_variables-requires c = ap (list_all is_simple_statement) c.as_slice-body.ensures ∙ simple_body c.args.script.now c.requires

pub run_statement-requires-clause-simple : goal.run_statement-requires-clause-simple
run_statement-requires-clause-simple c =
    list_all-at is_simple_statement c.as_slice-body.result.now c.loop-statement.statement-index c.statement-item.result
    (ap (list_all is_simple_statement) c.as_slice-body.ensures ∙ simple_body c.args.script.now c.requires) c.loop-statement-test.true c.statement-item.is

pub run_statement-requires-clause-bound : goal.run_statement-requires-clause-bound
run_statement-requires-clause-bound c =
    are_bound-kept c.in_ok-variables.variables c.loop-statement.variables (spec.names_in_declarators (declarators_in (out-StmtForm c.statement-item.result.form))) c.loop-statement.invariant.bound
    (all_in_parts (spec.is_bound c.in_ok-variables.variables) (λ d. names_in_init d.init) (λ s. declarators_in (out-StmtForm s.form)) c.as_slice-body.result.now c.loop-statement.statement-index c.statement-item.result
    (rw (c.in_ok-variables.ensures, c.as_slice-body.ensures) (start_bound c.args.script.now c.requires)) c.loop-statement-test.true c.statement-item.is)

pub returns-in_err-run_statement : goal.returns-in_err-run_statement
returns-in_err-run_statement c =
    let p = err_from_is_err_and c.from_residual-in_err-run_statement.result c.from_residual-in_err-run_statement.ensures.1 in
    rw (p.1, p.2)
    (script_stops c.args.script.now c.in_err-run_statement.field-0.0 c.run_statement.new.variables c.as_slice-body.result.now c.in_ok-variables.variables c.as_slice-body.ensures (c.in_ok-variables.ensures ∙ ap (λ b. declared (declared_names b)) c.as_slice-body.ensures)
    (remains_stops statement in_stmt c.as_slice-body.result.now c.in_ok-variables.variables c.loop-statement.statement-index c.loop-statement.variables
    c.run_statement.new.variables c.run_statement.new.variables c.statement-item.result c.in_err-run_statement.field-0.0 c.loop-statement-test.true c.statement-item.is c.loop-statement.invariant.rest c.in_err-run_statement.ensures.runs))

pub loop-statement-preserved : goal.loop-statement-preserved
loop-statement-preserved c = record {
  rest = remains_next statement in_stmt c.as_slice-body.result.now c.in_ok-variables.variables c.loop-statement.statement-index c.loop-statement.variables
      c.run_statement.new.variables c.statement-item.result c.loop-statement-test.true c.statement-item.is c.loop-statement.invariant.rest c.in_ok-run_statement.ensures.runs;
  bound = keeps_both c.in_ok-variables.variables c.loop-statement.variables c.run_statement.new.variables c.loop-statement.invariant.bound c.in_ok-run_statement.ensures.bound;
}

pub returns : goal.returns
returns c =
    script_ends c.args.script.now c.loop-statement.variables
    (rw (← c.as_slice-body.ensures, ← c.in_ok-variables.ensures)
    (remains_none statement in_stmt c.as_slice-body.result.now c.in_ok-variables.variables c.loop-statement.variables c.loop-statement.statement-index
    (omega (arith, c.loop-statement-test.false)) c.loop-statement.invariant.rest))
