-- The runs compute. Each form is opened where it is reached.
use Rattle.std.specs.Fmt.{digits}
use Rattle.js_tree.specs.declared.expression.Field.TheVariants.{outs-Value, outs-Getter, outs-Setter}
use Rattle.js_tree.specs.declared.expression.ExprForm.TheVariants as e
use Rattle.js_tree.specs.declared.statement.StmtForm.TheVariants as s
use Rattle.js_machine.proofs.Opening.{opening}
use Rattle.js_value.specs.Conversions as V
use Rattle.js_value.specs.Operators as W
use Rattle.plain_heap.specs.Heap as H
use Rattle.plain_heap.specs.Methods as M
use Rattle.js_tree.specs.Mentions as N
use Rattle.js_machine.specs.Machine.Operators as BB
use Rattle.js_machine.specs.Machine.Creating as AA
use Rattle.js_machine.specs.Machine.Objects as CC
use Rattle.js_machine.specs.Machine.References as DD
use Rattle.js_machine.specs.Machine.Expressions as EE
use Rattle.js_machine.specs.Machine.Statements as FF
use Rattle.js_machine.specs.Machine.Functions as GG
use Rattle.js_machine.specs.Machine.ObjectBuiltins as HH
use Rattle.js_machine.specs.Machine.ArrayBuiltins as II
use Rattle.js_machine.specs.Machine.Realm as JJ
use Rattle.js_machine.specs.Machine.Levels as KK
use Rattle.js_machine.specs.Machine.Walks as LL
use Rattle.js_tree.specs.declared.statement.Func.{Func}
use Rattle.js_machine.specs.Machine.Expressions.{Return}
use Rattle.js_tree.specs.declared.statement.Catch.{out-roll-Catch}
use Rattle.js_tree.specs.declared.statement.Finally.{out-roll-Finally}
use Rattle.js_tree.specs.declared.statement.StmtForm.TheFolds.{fold-roll-Catch, fold-roll-Finally}
use Rattle.machine_cases.specs.ThrownRuns.{ThrownRuns}

pub thrown_runs : ThrownRuns
unfolding digits V.to_boolean V.number_of_text V.to_number V.to_integer V.to_uint32 V.to_text V.is_same_value W.add W.loosely_equal W.binary_row W.type_of W.unary_row H.resolve M.get_property M.get M.can_put M.put M.has_property M.delete M.define_plain M.array_index M.define_array M.define N.hoisted_vars N.hoisted_functions BB.test_symbol BB.test BB.to_string BB.to_key BB.to_length BB.to_list_length BB.to_position BB.operate BB.plus BB.operate_one BB.same_value AA.make_function AA.function AA.function_expression AA.enter_function CC.get CC.define CC.put CC.get_own_property CC.has_property CC.delete CC.get_of_string CC.get_of CC.put_of CC.delete_of CC.to_object CC.is_prototype_of DD.resolve_name DD.get_value DD.put_value EE.function_rule EE.name_rule EE.array_rule EE.field_rule EE.object_rule EE.member_reference EE.index_reference EE.member_rule EE.index_rule EE.call_rule EE.new_rule EE.binary_rule EE.delete_rule EE.step_rule EE.typeof_rule EE.unary_rule EE.logic_rule EE.conditional_rule EE.assign_rule EE.compound_rule EE.comma_rule EE.host_rule EE.expr_rule EE.reference_rule FF.statements FF.declarator_rule FF.var_rule FF.eval_rule FF.if_rule FF.do_while_turn FF.while_turn FF.for_turn FF.for_rule FF.enumerated FF.for_in_turns FF.for_in_rule FF.return_rule FF.switch_rule FF.throw_rule FF.handle FF.try_rule FF.stmt_rule GG.function_call GG.call_function GG.construct_function GG.enter_global HH.has_own_property HH.is_prototype HH.property_is_enumerable HH.get_prototype_of HH.from_descriptor HH.get_own_property_descriptor HH.create HH.to_descriptor HH.define_property HH.seal HH.freeze HH.prevent_extensions HH.is_sealed HH.is_frozen HH.is_extensible HH.keys HH.nothing HH.call HH.apply HH.make_error II.is_array_rule II.concat II.join II.pop II.push II.slice II.index_of II.for_each II.map_rule II.filter_rule JJ.realm JJ.realm_names JJ.realm_name JJ.closed JJ.constructor_rule JJ.builtin_rule KK.script_tree LL.behind LL.plain_from
thrown_runs = record {
  thrown_run = λ d. simp (opening, e.outs-HostCall, e.outs-Literal, s.outs-Eval, s.outs-Var);
  caught_run = λ d. simp (opening, e.outs-Assign, e.outs-Binary, e.outs-HostCall, e.outs-Literal, e.outs-Name, s.outs-Eval, s.outs-Try, s.outs-Var, out-roll-Catch, fold-roll-Catch);
  given_in_try_run = λ d. simp (opening, e.outs-Assign, e.outs-Binary, e.outs-HostCall, e.outs-Literal, e.outs-Name, s.outs-Eval, s.outs-Try, s.outs-Var, out-roll-Catch, fold-roll-Catch);
  through_finally_run = λ d. simp (opening, e.outs-Assign, e.outs-Binary, e.outs-HostCall, e.outs-Literal, e.outs-Name, s.outs-Eval, s.outs-Try, s.outs-Var, out-roll-Catch, fold-roll-Catch, out-roll-Finally, fold-roll-Finally);
  ended_by_finally_run = λ d. simp (opening, e.outs-Call, e.outs-HostCall, e.outs-Literal, e.outs-Name, s.outs-Eval, s.outs-FuncDecl, s.outs-Return, s.outs-Try, s.outs-Var, out-roll-Finally, fold-roll-Finally);
  in_getter_run = λ d. simp (opening, e.outs-Assign, e.outs-HostCall, e.outs-Member, e.outs-Name, e.outs-ObjectLit, s.outs-Eval, s.outs-Return, s.outs-Try, s.outs-Var, outs-Getter, out-roll-Catch, fold-roll-Catch);
  in_argument_run = λ d. simp (opening, e.outs-Assign, e.outs-Call, e.outs-HostCall, e.outs-Literal, e.outs-Name, s.outs-Eval, s.outs-FuncDecl, s.outs-Return, s.outs-Try, s.outs-Var, out-roll-Catch, fold-roll-Catch);
  of_another_kind_run = λ d. simp (opening, e.outs-HostCall, s.outs-Eval);
  two_answers_run = λ d. simp (opening, e.outs-Assign, e.outs-HostCall, e.outs-Name, s.outs-Eval, s.outs-Try, s.outs-Var, out-roll-Catch, fold-roll-Catch);
  before_the_right_operand_run = λ d. simp (opening, e.outs-Assign, e.outs-Binary, e.outs-Call, e.outs-HostCall, e.outs-Literal, e.outs-Name, s.outs-Eval, s.outs-FuncDecl, s.outs-Return, s.outs-Try, s.outs-Var, out-roll-Catch, fold-roll-Catch);
  thrown_truth_run = λ d. simp (opening, e.outs-Assign, e.outs-Conditional, e.outs-HostCall, e.outs-Literal, e.outs-Name, s.outs-Eval, s.outs-Try, s.outs-Var, out-roll-Catch, fold-roll-Catch);
}
