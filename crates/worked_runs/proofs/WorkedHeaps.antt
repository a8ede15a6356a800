-- How each run ends, and the heap that it leaves. Each form is opened where it is reached.
use Rattle.std.proofs.Common.{◌≡◌, ℕ, [], refl}
use Rattle.std.specs.Fmt.{digits}
use Rattle.js_value.specs.declared.why.Why.TheVariants.{MinusZero}
use Rattle.js_tree.specs.Refusals.{place}
use Rattle.js_tree.specs.declared.expression.Field.TheVariants.{outs-Value}
use Rattle.js_tree.specs.declared.expression.ExprForm.TheVariants as e
use Rattle.js_tree.specs.declared.statement.Script.{Script}
use Rattle.js_tree.specs.declared.statement.StmtForm.TheVariants as s
use Rattle.plain_heap.specs.Heap.{Heap}
use Rattle.machine_cases.specs.ListingCases.{after_number, after_cycle, after_function, after_realm_changes}
use Rattle.js_machine.specs.Machine.Levels.{script_tree_within}
use Rattle.js_machine.specs.Machine.Realm.{realm}
use Rattle.js_machine.specs.Machine.Walks.{Outcome, Ended, Left, Normally, walk}
use Rattle.machine_cases.specs.RunCases.{deep, no_world}
use Rattle.machine_cases.specs.TextCases.{function_script}
use Rattle.js_machine.proofs.Opening.{opening}
use Rattle.worked_runs.proofs.Abstract.{counter_any, makers_any}
use Rattle.worked_runs.proofs.WorkedHeapStates.{after_counter, after_makers, after_inherited_setter, after_throwing_setter}
use Rattle.worked_runs.specs.WorkedRuns.{nothing, sum_script, minus_zero_script, cycle_script, changes_script, counter_script, makers_script, inherited_setter_script, throwing_setter_script}
use Rattle.js_value.specs.Conversions as V
use Rattle.js_value.specs.Operators as W
use Rattle.plain_heap.specs.Heap as H
use Rattle.plain_heap.specs.Methods as M
use Rattle.js_tree.specs.Mentions as N
use Rattle.js_machine.specs.Machine.Operators as BB
use Rattle.js_machine.specs.Machine.Creating as AA
use Rattle.js_machine.specs.Machine.Objects as CC
use Rattle.js_machine.specs.Machine.References as DD
use Rattle.js_machine.specs.Machine.Expressions as EE
use Rattle.js_machine.specs.Machine.Statements as FF
use Rattle.js_machine.specs.Machine.Functions as GG
use Rattle.js_machine.specs.Machine.ObjectBuiltins as HH
use Rattle.js_machine.specs.Machine.ArrayBuiltins as II
use Rattle.js_machine.specs.Machine.Realm as JJ
use Rattle.js_machine.specs.Machine.Levels as KK
use Rattle.js_machine.specs.Machine.Walks as LL

-- a run of 200 steps, where thirty nodes and more may be active at once
abbrev pub run : ℕ → ℕ → Script → Outcome
run d turns script = walk no_world 200 [] (script_tree_within (deep d) turns script realm)

abbrev pub leaving : Heap → Outcome
leaving h = Ended [] Normally h

pub record Heaps : Type 0 where
  pub nothing_ends : (d turns : ℕ) → run d turns nothing ≡ leaving realm
  pub sum_ends : (d turns : ℕ) → run d turns sum_script ≡ leaving after_number
  pub minus_zero_leaves : (d turns : ℕ) → run d turns minus_zero_script ≡ Left MinusZero (place 8)
  pub cycle_ends : (d turns : ℕ) → run d turns cycle_script ≡ leaving after_cycle
  pub function_ends : (d turns : ℕ) → run d turns function_script ≡ leaving after_function
  pub changes_ends : (d turns : ℕ) → run d turns changes_script ≡ leaving after_realm_changes
  pub counter_ends : (d turns : ℕ) → run d turns counter_script ≡ leaving after_counter
  pub makers_ends : (d turns : ℕ) → run d turns makers_script ≡ leaving after_makers
  pub inherited_setter_ends : (d turns : ℕ) → run d turns inherited_setter_script ≡ leaving after_inherited_setter
  pub throwing_setter_ends : (d turns : ℕ) → run d turns throwing_setter_script ≡ leaving after_throwing_setter

pub heaps : Heaps
unfolding digits V.to_boolean V.number_of_text V.to_number V.to_integer V.to_uint32 V.to_text V.is_same_value W.add W.loosely_equal W.binary_row W.type_of W.unary_row H.resolve M.get_property M.get M.can_put M.put M.has_property M.delete M.define_plain M.array_index M.define_array M.define N.hoisted_vars N.hoisted_functions BB.test_symbol BB.test BB.to_string BB.to_key BB.to_length BB.to_list_length BB.to_position BB.operate BB.plus BB.operate_one BB.same_value AA.make_function AA.function AA.function_expression AA.enter_function CC.get CC.define CC.put CC.get_own_property CC.has_property CC.delete CC.get_of_string CC.get_of CC.put_of CC.delete_of CC.to_object CC.is_prototype_of DD.resolve_name DD.get_value DD.put_value EE.function_rule EE.name_rule EE.array_rule EE.field_rule EE.object_rule EE.member_reference EE.index_reference EE.member_rule EE.index_rule EE.call_rule EE.new_rule EE.binary_rule EE.delete_rule EE.step_rule EE.typeof_rule EE.unary_rule EE.logic_rule EE.conditional_rule EE.assign_rule EE.compound_rule EE.comma_rule EE.host_rule EE.expr_rule EE.reference_rule FF.statements FF.declarator_rule FF.var_rule FF.eval_rule FF.if_rule FF.do_while_turn FF.while_turn FF.for_turn FF.for_rule FF.enumerated FF.for_in_turns FF.for_in_rule FF.return_rule FF.switch_rule FF.throw_rule FF.handle FF.try_rule FF.stmt_rule GG.function_call GG.call_function GG.construct_function GG.enter_global HH.has_own_property HH.is_prototype HH.property_is_enumerable HH.get_prototype_of HH.from_descriptor HH.get_own_property_descriptor HH.create HH.to_descriptor HH.define_property HH.seal HH.freeze HH.prevent_extensions HH.is_sealed HH.is_frozen HH.is_extensible HH.keys HH.nothing HH.call HH.apply HH.make_error II.is_array_rule II.concat II.join II.pop II.push II.slice II.index_of II.for_each II.map_rule II.filter_rule JJ.realm JJ.realm_names JJ.realm_name JJ.closed JJ.constructor_rule JJ.builtin_rule KK.script_tree LL.behind LL.plain_from
heaps = record {
  nothing_ends = λ d turns. refl;
  sum_ends = λ d turns. simp (opening, e.outs-Binary, e.outs-Literal, s.outs-Var);
  minus_zero_leaves = λ d turns. simp (opening, e.outs-Binary, e.outs-Literal, e.outs-Unary, s.outs-Var);
  cycle_ends = λ d turns. simp (opening, e.outs-Assign, e.outs-Member, e.outs-Name, e.outs-ObjectLit, s.outs-Eval, s.outs-Var);
  function_ends = λ d turns. simp (opening, e.outs-Assign, e.outs-Member, e.outs-Name, e.outs-ObjectLit, s.outs-Eval, s.outs-FuncDecl, s.outs-Var);
  changes_ends = λ d turns. simp (opening, e.outs-Assign, e.outs-Call, e.outs-Literal, e.outs-Member, e.outs-Name, e.outs-Unary, s.outs-Eval, s.outs-Var);
  counter_ends = λ d turns. counter_any _ _ _ _ _ _ _ _ _ _ _ _ _ _ _ _ _ _ _ _ _ _ _ _ _ _ _ _ _ _ _ _ _ _ _ _ _ _ _ _ d turns;
  makers_ends = λ d turns. makers_any _ _ _ _ _ _ _ _ _ _ _ _ _ _ _ _ _ _ _ _ _ _ _ _ _ _ _ _ _ _ _ _ _ _ _ _ _ _ _ _ d turns;
  inherited_setter_ends = λ d turns. simp (opening, e.outs-Call, e.outs-Func, e.outs-Literal, e.outs-Member, e.outs-Name, e.outs-ObjectLit, s.outs-Eval, s.outs-Var, outs-Value);
  throwing_setter_ends = λ d turns. simp (opening, e.outs-Call, e.outs-Func, e.outs-Literal, e.outs-Member, e.outs-Name, e.outs-ObjectLit, s.outs-Eval, s.outs-Var, outs-Value);
}
