-- Runs of statements (12), worked out by hand. Each form is opened where it is reached.
use Rattle.std.specs.Fmt.{digits}
use Rattle.js_tree.specs.declared.expression.Field.TheVariants.{outs-Value}
use Rattle.js_tree.specs.declared.expression.ExprForm.TheVariants as e
use Rattle.js_tree.specs.declared.statement.StmtForm.TheVariants as s
use Rattle.js_tree.specs.declared.statement.Case.{out-roll-Case}
use Rattle.js_tree.specs.declared.statement.Catch.{out-roll-Catch}
use Rattle.js_tree.specs.declared.statement.Finally.{out-roll-Finally}
use Rattle.js_tree.specs.declared.statement.StmtForm.TheFolds.{fold-roll-Case, fold-roll-Catch, fold-roll-Finally}
use Rattle.machine_cases.specs.StatementRuns.{StatementRuns}
use Rattle.js_machine.proofs.Opening.{opening}
use Rattle.js_value.specs.Conversions as V
use Rattle.js_value.specs.Operators as W
use Rattle.plain_heap.specs.Heap as H
use Rattle.plain_heap.specs.Methods as M
use Rattle.js_tree.specs.Mentions as N
use Rattle.js_machine.specs.Machine.Operators as BB
use Rattle.js_machine.specs.Machine.Creating as AA
use Rattle.js_machine.specs.Machine.Objects as CC
use Rattle.js_machine.specs.Machine.References as DD
use Rattle.js_machine.specs.Machine.Expressions as EE
use Rattle.js_machine.specs.Machine.Statements as FF
use Rattle.js_machine.specs.Machine.Functions as GG
use Rattle.js_machine.specs.Machine.ObjectBuiltins as HH
use Rattle.js_machine.specs.Machine.ArrayBuiltins as II
use Rattle.js_machine.specs.Machine.Realm as JJ
use Rattle.js_machine.specs.Machine.Levels as KK
use Rattle.js_machine.specs.Machine.Walks as LL
use Rattle.js_machine.specs.Machine.Expressions.{Break, Continue, Return}

pub statement_runs : StatementRuns
unfolding digits V.to_boolean V.number_of_text V.to_number V.to_integer V.to_uint32 V.to_text V.is_same_value W.add W.loosely_equal W.binary_row W.type_of W.unary_row H.resolve M.get_property M.get M.can_put M.put M.has_property M.delete M.define_plain M.array_index M.define_array M.define N.hoisted_vars N.hoisted_functions BB.test_symbol BB.test BB.to_string BB.to_key BB.to_length BB.to_list_length BB.to_position BB.operate BB.plus BB.operate_one BB.same_value AA.make_function AA.function AA.function_expression AA.enter_function CC.get CC.define CC.put CC.get_own_property CC.has_property CC.delete CC.get_of_string CC.get_of CC.put_of CC.delete_of CC.to_object CC.is_prototype_of DD.resolve_name DD.get_value DD.put_value EE.function_rule EE.name_rule EE.array_rule EE.field_rule EE.object_rule EE.member_reference EE.index_reference EE.member_rule EE.index_rule EE.call_rule EE.new_rule EE.binary_rule EE.delete_rule EE.step_rule EE.typeof_rule EE.unary_rule EE.logic_rule EE.conditional_rule EE.assign_rule EE.compound_rule EE.comma_rule EE.host_rule EE.expr_rule EE.reference_rule FF.statements FF.declarator_rule FF.var_rule FF.eval_rule FF.if_rule FF.do_while_turn FF.while_turn FF.for_turn FF.for_rule FF.enumerated FF.for_in_turns FF.for_in_rule FF.return_rule FF.switch_rule FF.throw_rule FF.handle FF.try_rule FF.stmt_rule GG.function_call GG.call_function GG.construct_function GG.enter_global HH.has_own_property HH.is_prototype HH.property_is_enumerable HH.get_prototype_of HH.from_descriptor HH.get_own_property_descriptor HH.create HH.to_descriptor HH.define_property HH.seal HH.freeze HH.prevent_extensions HH.is_sealed HH.is_frozen HH.is_extensible HH.keys HH.nothing HH.call HH.apply HH.make_error II.is_array_rule II.concat II.join II.pop II.push II.slice II.index_of II.for_each II.map_rule II.filter_rule JJ.realm JJ.realm_names JJ.realm_name JJ.closed JJ.constructor_rule JJ.builtin_rule KK.script_tree LL.behind LL.plain_from
statement_runs = record {
  hoisted_var_run = λ d. simp (opening, e.outs-Literal, e.outs-Name, e.outs-Unary, s.outs-Var);
  var_twice_run = λ d. simp (opening, e.outs-Literal, s.outs-Var);
  blocks_run = λ d. simp (opening, e.outs-Literal, s.outs-Block, s.outs-Empty, s.outs-Var);
  if_else_run = λ d. simp (opening, e.outs-Assign, e.outs-Literal, e.outs-Name, s.outs-Eval, s.outs-If, s.outs-Var);
  do_while_run = λ d. simp (opening, e.outs-Binary, e.outs-Literal, e.outs-Name, e.outs-Step, s.outs-Block, s.outs-Break, s.outs-Continue, s.outs-DoWhile, s.outs-Eval, s.outs-If, s.outs-Var);
  do_while_once_run = λ d. simp (opening, e.outs-Literal, e.outs-Name, e.outs-Step, s.outs-DoWhile, s.outs-Eval, s.outs-Var);
  while_loop_run = λ d. simp (opening, e.outs-Binary, e.outs-Literal, e.outs-Name, e.outs-Step, s.outs-Eval, s.outs-Var, s.outs-While);
  while_endless_run = λ d. simp (opening, e.outs-Literal, s.outs-Empty, s.outs-While);
  for_loop_run = λ d. simp (opening, e.outs-Assign, e.outs-Binary, e.outs-Literal, e.outs-Name, e.outs-Step, s.outs-Block, s.outs-Break, s.outs-Continue, s.outs-Eval, s.outs-For, s.outs-If, s.outs-Var);
  for_without_parts_run = λ d. simp (opening, e.outs-Assign, e.outs-Literal, e.outs-Name, s.outs-Block, s.outs-Break, s.outs-Eval, s.outs-For, s.outs-Var);
  for_with_var_run = λ d. simp (opening, e.outs-Assign, e.outs-Binary, e.outs-Literal, e.outs-Name, e.outs-Step, s.outs-Eval, s.outs-For);
  for_in_run = λ d. simp (opening, e.outs-Assign, e.outs-Binary, e.outs-Literal, e.outs-Name, e.outs-ObjectLit, s.outs-Eval, s.outs-ForIn, s.outs-Var, outs-Value);
  for_in_inherited_run = λ d. simp (opening, e.outs-Assign, e.outs-Literal, e.outs-Member, e.outs-Name, e.outs-New, e.outs-ObjectLit, e.outs-This, s.outs-Eval, s.outs-ForIn, s.outs-FuncDecl, s.outs-Var, outs-Value);
  for_in_shadowed_run = λ d. simp (opening, e.outs-Assign, e.outs-Call, e.outs-Literal, e.outs-Member, e.outs-Name, e.outs-ObjectLit, s.outs-Eval, s.outs-ForIn, s.outs-Var, outs-Value);
  for_in_deleted_run = λ d. simp (opening, e.outs-Assign, e.outs-Literal, e.outs-Member, e.outs-Name, e.outs-ObjectLit, e.outs-Unary, s.outs-Block, s.outs-Eval, s.outs-ForIn, s.outs-Var, outs-Value);
  for_in_added_run = λ d. simp (opening, e.outs-Assign, e.outs-Literal, e.outs-Member, e.outs-Name, e.outs-ObjectLit, s.outs-Block, s.outs-Eval, s.outs-ForIn, s.outs-Var, outs-Value);
  for_in_nothing_run = λ d. simp (opening, e.outs-Assign, e.outs-Literal, e.outs-Name, s.outs-Eval, s.outs-ForIn, s.outs-Var);
  for_in_number_run = λ d. simp (opening, e.outs-Literal, s.outs-Empty, s.outs-ForIn);
  for_in_member_run = λ d. simp (opening, e.outs-Literal, e.outs-Member, e.outs-Name, e.outs-ObjectLit, s.outs-Break, s.outs-ForIn, s.outs-If, s.outs-Var, outs-Value);
  for_in_continue_run = λ d. simp (opening, e.outs-Binary, e.outs-Literal, e.outs-Name, e.outs-ObjectLit, e.outs-Step, s.outs-Block, s.outs-Continue, s.outs-Eval, s.outs-ForIn, s.outs-If, s.outs-Var, outs-Value);
  switch_through_run = λ d. simp (opening, e.outs-Assign, e.outs-Literal, e.outs-Name, s.outs-Break, s.outs-Eval, s.outs-Switch, s.outs-Var, out-roll-Case, fold-roll-Case);
  switch_default_run = λ d. simp (opening, e.outs-Assign, e.outs-Literal, e.outs-Name, s.outs-Eval, s.outs-Switch, s.outs-Var, out-roll-Case, fold-roll-Case);
  switch_behind_default_run = λ d. simp (opening, e.outs-Assign, e.outs-Literal, e.outs-Name, s.outs-Eval, s.outs-Switch, s.outs-Var, out-roll-Case, fold-roll-Case);
  switch_strict_run = λ d. simp (opening, e.outs-Assign, e.outs-Literal, e.outs-Name, e.outs-ObjectLit, s.outs-Eval, s.outs-Switch, s.outs-Var, out-roll-Case, fold-roll-Case);
  switch_first_run = λ d. simp (opening, e.outs-Assign, e.outs-Call, e.outs-Literal, e.outs-Name, s.outs-Break, s.outs-Eval, s.outs-Switch, s.outs-Var, out-roll-Case, fold-roll-Case);
  switch_in_loop_run = λ d. simp (opening, e.outs-Assign, e.outs-Binary, e.outs-Literal, e.outs-Name, e.outs-Step, s.outs-Block, s.outs-Continue, s.outs-Eval, s.outs-Switch, s.outs-Var, s.outs-While, out-roll-Case, fold-roll-Case);
  thrown_number_run = λ d. simp (opening, e.outs-Literal, s.outs-Throw);
  caught_run = λ d. simp (opening, e.outs-Assign, e.outs-Literal, e.outs-Name, s.outs-Eval, s.outs-Throw, s.outs-Try, s.outs-Var, out-roll-Catch, fold-roll-Catch);
  catch_scope_run = λ d. simp (opening, e.outs-Assign, e.outs-Literal, e.outs-Name, s.outs-Eval, s.outs-Throw, s.outs-Try, s.outs-Var, out-roll-Catch, fold-roll-Catch);
  final_part_run = λ d. simp (opening, e.outs-Assign, e.outs-Binary, e.outs-Literal, e.outs-Name, s.outs-Eval, s.outs-Try, s.outs-Var, out-roll-Finally, fold-roll-Finally);
  final_return_run = λ d. simp (opening, e.outs-Call, e.outs-Literal, e.outs-Name, s.outs-FuncDecl, s.outs-Return, s.outs-Throw, s.outs-Try, s.outs-Var, out-roll-Finally, fold-roll-Finally);
  final_after_return_run = λ d. simp (opening, e.outs-Assign, e.outs-Call, e.outs-Literal, e.outs-Name, s.outs-Eval, s.outs-FuncDecl, s.outs-Return, s.outs-Try, s.outs-Var, out-roll-Finally, fold-roll-Finally);
  all_parts_run = λ d. simp (opening, e.outs-Assign, e.outs-Literal, e.outs-Name, s.outs-Eval, s.outs-Throw, s.outs-Try, s.outs-Var, out-roll-Catch, fold-roll-Catch, out-roll-Finally, fold-roll-Finally);
  thrown_again_run = λ d. simp (opening, e.outs-Assign, e.outs-Literal, e.outs-Name, s.outs-Eval, s.outs-Throw, s.outs-Try, s.outs-Var, out-roll-Catch, fold-roll-Catch, out-roll-Finally, fold-roll-Finally);
  final_break_run = λ d. simp (opening, e.outs-Assign, e.outs-Literal, e.outs-Name, s.outs-Block, s.outs-Break, s.outs-Eval, s.outs-Throw, s.outs-Try, s.outs-Var, s.outs-While, out-roll-Finally, fold-roll-Finally);
  caught_error_run = λ d. simp (opening, e.outs-Assign, e.outs-Binary, e.outs-Call, e.outs-Literal, e.outs-Member, e.outs-Name, s.outs-Eval, s.outs-Try, s.outs-Var, out-roll-Catch, fold-roll-Catch);
  returned_nothing_run = λ d. simp (opening, e.outs-Call, e.outs-Name, s.outs-FuncDecl, s.outs-Return, s.outs-Var);
  function_statement_run = λ d. simp (opening, e.outs-Call, e.outs-Literal, e.outs-Name, s.outs-FuncDecl, s.outs-Return, s.outs-Var);
}
