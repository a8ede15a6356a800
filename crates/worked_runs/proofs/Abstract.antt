-- Runs that look at no object of the realm but the global one, from any heap whose other objects stand for those.
use Rattle.std.proofs.Common.{◌≡◌, ℕ, [], ◌∷◌}
use Rattle.std.specs.Prelude.{true, false, suc, List, length, codes, Some}
use Rattle.std.specs.Fmt.{digits}
use Rattle.js_tree.specs.declared.expression.Field.TheVariants.{outs-Value}
use Rattle.js_tree.specs.declared.expression.ExprForm.TheVariants as e
use Rattle.js_tree.specs.declared.statement.Script.{Script}
use Rattle.js_tree.specs.declared.statement.StmtForm.TheVariants as s
use Rattle.plain_heap.specs.Heap.{Environment, Heap, ObjectState, Plain}
use Rattle.js_machine.specs.Machine.Levels.{Setting, script_tree_within, within}
use Rattle.js_machine.specs.Machine.RealmObjects.{object_prototype}
use Rattle.js_value.specs.declared.place.Place.{Place}
use Rattle.js_tree.specs.Refusals.{place}
use Rattle.js_tree.specs.Trees.{no}
use Rattle.js_tree.specs.declared.statement.Stmt.{Stmt}
use Rattle.js_machine.specs.Machine.Events.{Run, Step, Tree}
use Rattle.js_machine.specs.Machine.Functions.{call_function}
use Rattle.js_machine.specs.Machine.References.{Context}
use Rattle.js_machine.specs.Machine.Realm.{usual, fixed, absent}
use Rattle.plain_heap.specs.Values.{Object, ObjNo, Value, Absent, number, undefined}
use Rattle.js_machine.specs.Machine.Walks.{Outcome, Ended, Normally, walk}
use Rattle.machine_cases.specs.RunCases.{deep, no_world}
use Rattle.js_tree.specs.declared.statement.StmtForm.TheFolds.{fold_out-Stmt, fold_out-StmtForm}
use Rattle.js_machine.proofs.Opening.{at_expr, at_reference, at_stmt, at_call}
use Rattle.worked_runs.proofs.WorkedHeapStates.{counter_from, made_by, makers_from, reader_by}
use Rattle.worked_runs.specs.WorkedRuns.{counter_script, makers_script}
use Rattle.js_value.specs.Conversions as V
use Rattle.js_value.specs.Operators as W
use Rattle.plain_heap.specs.Heap as H
use Rattle.plain_heap.specs.Methods as M
use Rattle.js_tree.specs.Mentions as N
use Rattle.js_machine.specs.Machine.Operators as BB
use Rattle.js_machine.specs.Machine.Creating as AA
use Rattle.js_machine.specs.Machine.Objects as CC
use Rattle.js_machine.specs.Machine.References as DD
use Rattle.js_machine.specs.Machine.Expressions as EE
use Rattle.js_machine.specs.Machine.Statements as FF
use Rattle.js_machine.specs.Machine.Functions as GG
use Rattle.js_machine.specs.Machine.ObjectBuiltins as HH
use Rattle.js_machine.specs.Machine.ArrayBuiltins as II
use Rattle.js_machine.specs.Machine.Realm as JJ
use Rattle.js_machine.specs.Machine.Levels as KK
use Rattle.js_machine.specs.Machine.Walks as LL
use Rattle.js_tree.specs.declared.statement.Func.{Func}
use Rattle.js_machine.specs.Machine.Expressions.{Completion, Return}

abbrev pub run_from : Heap → ℕ → ℕ → Script → Outcome
run_from h d turns script = walk no_world 200 [] (script_tree_within (deep d) turns script h)

-- the global object of the realm
abbrev pub global : ObjectState
global = record {
  class = Plain;
  prototype = Some object_prototype;
  depth = 1;
  extensible = true;
  properties =
      fixed (codes "undefined") undefined
      ∷ usual (codes "Object") (Object 2)
      ∷ usual (codes "Function") (Object 4)
      ∷ usual (codes "Array") (Object 6)
      ∷ usual (codes "Error") (Object 8)
      ∷ usual (codes "TypeError") (Object 10)
      ∷ usual (codes "RangeError") (Object 12)
      ∷ usual (codes "ReferenceError") (Object 14)
      ∷ fixed (codes "NaN") Absent
      ∷ fixed (codes "Infinity") Absent
      ∷ absent (codes "eval" ∷ codes "parseInt" ∷ codes "parseFloat" ∷ codes "isNaN" ∷ codes "isFinite" ∷ codes "decodeURI" ∷ codes "decodeURIComponent" ∷ codes "encodeURI" ∷ codes "encodeURIComponent" ∷ codes "String" ∷ codes "Boolean" ∷ codes "Number" ∷ codes "Date" ∷ codes "RegExp" ∷ codes "EvalError" ∷ codes "SyntaxError" ∷ codes "URIError" ∷ codes "Math" ∷ codes "JSON" ∷ codes "__abstract" ∷ codes "__residual" ∷ []);
}

-- ---- the calls in these runs, whatever the objects before them are: each is a run of its own, from a heap that it is given

abbrev setting : List Func → ℕ → Setting
setting functions turns = record { functions = functions; turns = turns }

-- where six nodes and more may be active
abbrev statements_of : List Func → ℕ → ℕ → ℕ → Context → Stmt → Run Completion
statements_of functions d turns calls = (within (setting functions turns) (suc (suc (suc (suc (suc (suc d)))))) calls).stmt

abbrev n_bound : Environment
n_bound = (codes "n", 0) ∷ []

module _ (d turns calls : ℕ) (at : Place) (k r : Value → Heap → Tree) where
  module _ (o0 o1 o2 o3 o4 o5 o6 o7 o8 o9 o10 o11 o12 o13 o14 o15 o16 o17 o18 o19 o20 o21 o22 o23 o24 o25 o26 o27 o28 o29 o30 o31 o32 o33 o34 o35 o36 o37 o38 o39 o40 o41 o42 : ObjectState) where
    -- no object before the literal is looked at
    make_call : call_function counter_script.funcs (statements_of counter_script.funcs d turns calls) at (no 0) [] false undefined [] (record { objects = o0 ∷ o1 ∷ o2 ∷ o3 ∷ o4 ∷ o5 ∷ o6 ∷ o7 ∷ o8 ∷ o9 ∷ o10 ∷ o11 ∷ o12 ∷ o13 ∷ o14 ∷ o15 ∷ o16 ∷ o17 ∷ o18 ∷ o19 ∷ o20 ∷ o21 ∷ o22 ∷ o23 ∷ o24 ∷ o25 ∷ o26 ∷ o27 ∷ o28 ∷ o29 ∷ o30 ∷ o31 ∷ o32 ∷ o33 ∷ o34 ∷ o35 ∷ o36 ∷ o37 ∷ o38 ∷ o39 ∷ o40 ∷ o41 ∷ o42 ∷ []; cells = [] }) k r
        ≡ Step (place 18) (Step (place 26) (Step (place 29) (Step (place 36) (Step (place 43) (Step (place 86) (k (Object 43) (made_by (record { objects = o0 ∷ o1 ∷ o2 ∷ o3 ∷ o4 ∷ o5 ∷ o6 ∷ o7 ∷ o8 ∷ o9 ∷ o10 ∷ o11 ∷ o12 ∷ o13 ∷ o14 ∷ o15 ∷ o16 ∷ o17 ∷ o18 ∷ o19 ∷ o20 ∷ o21 ∷ o22 ∷ o23 ∷ o24 ∷ o25 ∷ o26 ∷ o27 ∷ o28 ∷ o29 ∷ o30 ∷ o31 ∷ o32 ∷ o33 ∷ o34 ∷ o35 ∷ o36 ∷ o37 ∷ o38 ∷ o39 ∷ o40 ∷ o41 ∷ o42 ∷ []; cells = [] }))))))))
    unfolding digits V.to_boolean V.number_of_text V.to_number V.to_integer V.to_uint32 V.to_text V.is_same_value W.add W.loosely_equal W.binary_row W.type_of W.unary_row H.resolve M.get_property M.get M.can_put M.put M.has_property M.delete M.define_plain M.array_index M.define_array M.define N.hoisted_vars N.hoisted_functions BB.test_symbol BB.test BB.to_string BB.to_key BB.to_length BB.to_list_length BB.to_position BB.operate BB.plus BB.operate_one BB.same_value AA.make_function AA.function AA.function_expression AA.enter_function CC.get CC.define CC.put CC.get_own_property CC.has_property CC.delete CC.get_of_string CC.get_of CC.put_of CC.delete_of CC.to_object CC.is_prototype_of DD.resolve_name DD.get_value DD.put_value EE.function_rule EE.name_rule EE.array_rule EE.field_rule EE.object_rule EE.member_reference EE.index_reference EE.member_rule EE.index_rule EE.call_rule EE.new_rule EE.binary_rule EE.delete_rule EE.step_rule EE.typeof_rule EE.unary_rule EE.logic_rule EE.conditional_rule EE.assign_rule EE.compound_rule EE.comma_rule EE.host_rule EE.expr_rule EE.reference_rule FF.statements FF.declarator_rule FF.var_rule FF.eval_rule FF.if_rule FF.do_while_turn FF.while_turn FF.for_turn FF.for_rule FF.enumerated FF.for_in_turns FF.for_in_rule FF.return_rule FF.switch_rule FF.throw_rule FF.handle FF.try_rule FF.stmt_rule GG.function_call GG.call_function GG.construct_function GG.enter_global HH.has_own_property HH.is_prototype HH.property_is_enumerable HH.get_prototype_of HH.from_descriptor HH.get_own_property_descriptor HH.create HH.to_descriptor HH.define_property HH.seal HH.freeze HH.prevent_extensions HH.is_sealed HH.is_frozen HH.is_extensible HH.keys HH.nothing HH.call HH.apply HH.make_error II.is_array_rule II.concat II.join II.pop II.push II.slice II.index_of II.for_each II.map_rule II.filter_rule JJ.realm_names JJ.realm_name JJ.closed JJ.constructor_rule JJ.builtin_rule KK.script_tree LL.behind LL.plain_from
    make_call = simp (fold_out-Stmt, fold_out-StmtForm, at_expr, at_stmt, e.outs-Func, e.outs-Literal, e.outs-ObjectLit, s.outs-Return, s.outs-Var, outs-Value)

  module _ (o : ObjNo) (objects : List ObjectState) where
    -- the value of `n` before the call, and behind it
    abbrev raises : ℕ → ℕ → Type 0
    raises before behind =
        call_function counter_script.funcs (statements_of counter_script.funcs d turns calls) at (no 1) n_bound false (Object o) [] (record { objects = objects; cells = number before ∷ [] }) k r
        ≡ Step (place 57) (Step (place 57) (Step (place 57) (Step (place 61) (Step (place 61) (Step (place 65) (Step (place 68) (Step (place 75) (k (number behind) (record { objects = objects; cells = number behind ∷ [] })))))))))

    first_call : raises 0 1
    unfolding digits V.to_boolean V.number_of_text V.to_number V.to_integer V.to_uint32 V.to_text V.is_same_value W.add W.loosely_equal W.binary_row W.type_of W.unary_row H.resolve M.get_property M.get M.can_put M.put M.has_property M.delete M.define_plain M.array_index M.define_array M.define N.hoisted_vars N.hoisted_functions BB.test_symbol BB.test BB.to_string BB.to_key BB.to_length BB.to_list_length BB.to_position BB.operate BB.plus BB.operate_one BB.same_value AA.make_function AA.function AA.function_expression AA.enter_function CC.get CC.define CC.put CC.get_own_property CC.has_property CC.delete CC.get_of_string CC.get_of CC.put_of CC.delete_of CC.to_object CC.is_prototype_of DD.resolve_name DD.get_value DD.put_value EE.function_rule EE.name_rule EE.array_rule EE.field_rule EE.object_rule EE.member_reference EE.index_reference EE.member_rule EE.index_rule EE.call_rule EE.new_rule EE.binary_rule EE.delete_rule EE.step_rule EE.typeof_rule EE.unary_rule EE.logic_rule EE.conditional_rule EE.assign_rule EE.compound_rule EE.comma_rule EE.host_rule EE.expr_rule EE.reference_rule FF.statements FF.declarator_rule FF.var_rule FF.eval_rule FF.if_rule FF.do_while_turn FF.while_turn FF.for_turn FF.for_rule FF.enumerated FF.for_in_turns FF.for_in_rule FF.return_rule FF.switch_rule FF.throw_rule FF.handle FF.try_rule FF.stmt_rule GG.function_call GG.call_function GG.construct_function GG.enter_global HH.has_own_property HH.is_prototype HH.property_is_enumerable HH.get_prototype_of HH.from_descriptor HH.get_own_property_descriptor HH.create HH.to_descriptor HH.define_property HH.seal HH.freeze HH.prevent_extensions HH.is_sealed HH.is_frozen HH.is_extensible HH.keys HH.nothing HH.call HH.apply HH.make_error II.is_array_rule II.concat II.join II.pop II.push II.slice II.index_of II.for_each II.map_rule II.filter_rule JJ.realm_names JJ.realm_name JJ.closed JJ.constructor_rule JJ.builtin_rule KK.script_tree LL.behind LL.plain_from
    first_call = simp (fold_out-Stmt, fold_out-StmtForm, at_expr, at_reference, at_stmt, e.outs-Assign, e.outs-Binary, e.outs-Literal, e.outs-Name, s.outs-Eval, s.outs-Return)

    second_call : raises 1 2
    unfolding digits V.to_boolean V.number_of_text V.to_number V.to_integer V.to_uint32 V.to_text V.is_same_value W.add W.loosely_equal W.binary_row W.type_of W.unary_row H.resolve M.get_property M.get M.can_put M.put M.has_property M.delete M.define_plain M.array_index M.define_array M.define N.hoisted_vars N.hoisted_functions BB.test_symbol BB.test BB.to_string BB.to_key BB.to_length BB.to_list_length BB.to_position BB.operate BB.plus BB.operate_one BB.same_value AA.make_function AA.function AA.function_expression AA.enter_function CC.get CC.define CC.put CC.get_own_property CC.has_property CC.delete CC.get_of_string CC.get_of CC.put_of CC.delete_of CC.to_object CC.is_prototype_of DD.resolve_name DD.get_value DD.put_value EE.function_rule EE.name_rule EE.array_rule EE.field_rule EE.object_rule EE.member_reference EE.index_reference EE.member_rule EE.index_rule EE.call_rule EE.new_rule EE.binary_rule EE.delete_rule EE.step_rule EE.typeof_rule EE.unary_rule EE.logic_rule EE.conditional_rule EE.assign_rule EE.compound_rule EE.comma_rule EE.host_rule EE.expr_rule EE.reference_rule FF.statements FF.declarator_rule FF.var_rule FF.eval_rule FF.if_rule FF.do_while_turn FF.while_turn FF.for_turn FF.for_rule FF.enumerated FF.for_in_turns FF.for_in_rule FF.return_rule FF.switch_rule FF.throw_rule FF.handle FF.try_rule FF.stmt_rule GG.function_call GG.call_function GG.construct_function GG.enter_global HH.has_own_property HH.is_prototype HH.property_is_enumerable HH.get_prototype_of HH.from_descriptor HH.get_own_property_descriptor HH.create HH.to_descriptor HH.define_property HH.seal HH.freeze HH.prevent_extensions HH.is_sealed HH.is_frozen HH.is_extensible HH.keys HH.nothing HH.call HH.apply HH.make_error II.is_array_rule II.concat II.join II.pop II.push II.slice II.index_of II.for_each II.map_rule II.filter_rule JJ.realm_names JJ.realm_name JJ.closed JJ.constructor_rule JJ.builtin_rule KK.script_tree LL.behind LL.plain_from
    second_call = simp (fold_out-Stmt, fold_out-StmtForm, at_expr, at_reference, at_stmt, e.outs-Assign, e.outs-Binary, e.outs-Literal, e.outs-Name, s.outs-Eval, s.outs-Return)

  module _ (objects : List ObjectState) (v : Value) where
    -- a call of the maker with this argument, where these cells are
    abbrev makes : List Value → Type 0
    makes cells =
        call_function makers_script.funcs (statements_of makers_script.funcs d turns calls) at (no 0) [] false undefined (v ∷ []) (record { objects = objects; cells = cells }) k r
        ≡ Step (place 19) (Step (place 26) (k (Object (length objects)) (reader_by v (record { objects = objects; cells = cells }))))

    makes_first : makes []
    unfolding digits V.to_boolean V.number_of_text V.to_number V.to_integer V.to_uint32 V.to_text V.is_same_value W.add W.loosely_equal W.binary_row W.type_of W.unary_row H.resolve M.get_property M.get M.can_put M.put M.has_property M.delete M.define_plain M.array_index M.define_array M.define N.hoisted_vars N.hoisted_functions BB.test_symbol BB.test BB.to_string BB.to_key BB.to_length BB.to_list_length BB.to_position BB.operate BB.plus BB.operate_one BB.same_value AA.make_function AA.function AA.function_expression AA.enter_function CC.get CC.define CC.put CC.get_own_property CC.has_property CC.delete CC.get_of_string CC.get_of CC.put_of CC.delete_of CC.to_object CC.is_prototype_of DD.resolve_name DD.get_value DD.put_value EE.function_rule EE.name_rule EE.array_rule EE.field_rule EE.object_rule EE.member_reference EE.index_reference EE.member_rule EE.index_rule EE.call_rule EE.new_rule EE.binary_rule EE.delete_rule EE.step_rule EE.typeof_rule EE.unary_rule EE.logic_rule EE.conditional_rule EE.assign_rule EE.compound_rule EE.comma_rule EE.host_rule EE.expr_rule EE.reference_rule FF.statements FF.declarator_rule FF.var_rule FF.eval_rule FF.if_rule FF.do_while_turn FF.while_turn FF.for_turn FF.for_rule FF.enumerated FF.for_in_turns FF.for_in_rule FF.return_rule FF.switch_rule FF.throw_rule FF.handle FF.try_rule FF.stmt_rule GG.function_call GG.call_function GG.construct_function GG.enter_global HH.has_own_property HH.is_prototype HH.property_is_enumerable HH.get_prototype_of HH.from_descriptor HH.get_own_property_descriptor HH.create HH.to_descriptor HH.define_property HH.seal HH.freeze HH.prevent_extensions HH.is_sealed HH.is_frozen HH.is_extensible HH.keys HH.nothing HH.call HH.apply HH.make_error II.is_array_rule II.concat II.join II.pop II.push II.slice II.index_of II.for_each II.map_rule II.filter_rule JJ.realm_names JJ.realm_name JJ.closed JJ.constructor_rule JJ.builtin_rule KK.script_tree LL.behind LL.plain_from
    makes_first = simp (fold_out-Stmt, fold_out-StmtForm, at_expr, at_stmt, e.outs-Func, s.outs-Return)

    makes_second : (a : Value) → makes (a ∷ [])
    unfolding digits V.to_boolean V.number_of_text V.to_number V.to_integer V.to_uint32 V.to_text V.is_same_value W.add W.loosely_equal W.binary_row W.type_of W.unary_row H.resolve M.get_property M.get M.can_put M.put M.has_property M.delete M.define_plain M.array_index M.define_array M.define N.hoisted_vars N.hoisted_functions BB.test_symbol BB.test BB.to_string BB.to_key BB.to_length BB.to_list_length BB.to_position BB.operate BB.plus BB.operate_one BB.same_value AA.make_function AA.function AA.function_expression AA.enter_function CC.get CC.define CC.put CC.get_own_property CC.has_property CC.delete CC.get_of_string CC.get_of CC.put_of CC.delete_of CC.to_object CC.is_prototype_of DD.resolve_name DD.get_value DD.put_value EE.function_rule EE.name_rule EE.array_rule EE.field_rule EE.object_rule EE.member_reference EE.index_reference EE.member_rule EE.index_rule EE.call_rule EE.new_rule EE.binary_rule EE.delete_rule EE.step_rule EE.typeof_rule EE.unary_rule EE.logic_rule EE.conditional_rule EE.assign_rule EE.compound_rule EE.comma_rule EE.host_rule EE.expr_rule EE.reference_rule FF.statements FF.declarator_rule FF.var_rule FF.eval_rule FF.if_rule FF.do_while_turn FF.while_turn FF.for_turn FF.for_rule FF.enumerated FF.for_in_turns FF.for_in_rule FF.return_rule FF.switch_rule FF.throw_rule FF.handle FF.try_rule FF.stmt_rule GG.function_call GG.call_function GG.construct_function GG.enter_global HH.has_own_property HH.is_prototype HH.property_is_enumerable HH.get_prototype_of HH.from_descriptor HH.get_own_property_descriptor HH.create HH.to_descriptor HH.define_property HH.seal HH.freeze HH.prevent_extensions HH.is_sealed HH.is_frozen HH.is_extensible HH.keys HH.nothing HH.call HH.apply HH.make_error II.is_array_rule II.concat II.join II.pop II.push II.slice II.index_of II.for_each II.map_rule II.filter_rule JJ.realm_names JJ.realm_name JJ.closed JJ.constructor_rule JJ.builtin_rule KK.script_tree LL.behind LL.plain_from
    makes_second a = simp (fold_out-Stmt, fold_out-StmtForm, at_expr, at_stmt, e.outs-Func, s.outs-Return)

    makes_third : (a b : Value) → makes (a ∷ b ∷ [])
    unfolding digits V.to_boolean V.number_of_text V.to_number V.to_integer V.to_uint32 V.to_text V.is_same_value W.add W.loosely_equal W.binary_row W.type_of W.unary_row H.resolve M.get_property M.get M.can_put M.put M.has_property M.delete M.define_plain M.array_index M.define_array M.define N.hoisted_vars N.hoisted_functions BB.test_symbol BB.test BB.to_string BB.to_key BB.to_length BB.to_list_length BB.to_position BB.operate BB.plus BB.operate_one BB.same_value AA.make_function AA.function AA.function_expression AA.enter_function CC.get CC.define CC.put CC.get_own_property CC.has_property CC.delete CC.get_of_string CC.get_of CC.put_of CC.delete_of CC.to_object CC.is_prototype_of DD.resolve_name DD.get_value DD.put_value EE.function_rule EE.name_rule EE.array_rule EE.field_rule EE.object_rule EE.member_reference EE.index_reference EE.member_rule EE.index_rule EE.call_rule EE.new_rule EE.binary_rule EE.delete_rule EE.step_rule EE.typeof_rule EE.unary_rule EE.logic_rule EE.conditional_rule EE.assign_rule EE.compound_rule EE.comma_rule EE.host_rule EE.expr_rule EE.reference_rule FF.statements FF.declarator_rule FF.var_rule FF.eval_rule FF.if_rule FF.do_while_turn FF.while_turn FF.for_turn FF.for_rule FF.enumerated FF.for_in_turns FF.for_in_rule FF.return_rule FF.switch_rule FF.throw_rule FF.handle FF.try_rule FF.stmt_rule GG.function_call GG.call_function GG.construct_function GG.enter_global HH.has_own_property HH.is_prototype HH.property_is_enumerable HH.get_prototype_of HH.from_descriptor HH.get_own_property_descriptor HH.create HH.to_descriptor HH.define_property HH.seal HH.freeze HH.prevent_extensions HH.is_sealed HH.is_frozen HH.is_extensible HH.keys HH.nothing HH.call HH.apply HH.make_error II.is_array_rule II.concat II.join II.pop II.push II.slice II.index_of II.for_each II.map_rule II.filter_rule JJ.realm_names JJ.realm_name JJ.closed JJ.constructor_rule JJ.builtin_rule KK.script_tree LL.behind LL.plain_from
    makes_third a b = simp (fold_out-Stmt, fold_out-StmtForm, at_expr, at_stmt, e.outs-Func, s.outs-Return)

module _ (o1 o2 o3 o4 o5 o6 o7 o8 o9 o10 o11 o12 o13 o14 o15 o16 o17 o18 o19 o20 o21 o22 o23 o24 o25 o26 o27 o28 o29 o30 o31 o32 o33 o34 o35 o36 o37 o38 o39 o40 : ObjectState) where
  abbrev pub start : Heap
  start = record { objects = global ∷ o1 ∷ o2 ∷ o3 ∷ o4 ∷ o5 ∷ o6 ∷ o7 ∷ o8 ∷ o9 ∷ o10 ∷ o11 ∷ o12 ∷ o13 ∷ o14 ∷ o15 ∷ o16 ∷ o17 ∷ o18 ∷ o19 ∷ o20 ∷ o21 ∷ o22 ∷ o23 ∷ o24 ∷ o25 ∷ o26 ∷ o27 ∷ o28 ∷ o29 ∷ o30 ∷ o31 ∷ o32 ∷ o33 ∷ o34 ∷ o35 ∷ o36 ∷ o37 ∷ o38 ∷ o39 ∷ o40 ∷ []; cells = [] }

  pub counter_any : (d turns : ℕ) → run_from (start) d turns counter_script ≡ Ended [] Normally (counter_from (start))
  unfolding digits V.to_boolean V.number_of_text V.to_number V.to_integer V.to_uint32 V.to_text V.is_same_value W.add W.loosely_equal W.binary_row W.type_of W.unary_row H.resolve M.get_property M.get M.can_put M.put M.has_property M.delete M.define_plain M.array_index M.define_array M.define N.hoisted_vars N.hoisted_functions BB.test_symbol BB.test BB.to_string BB.to_key BB.to_length BB.to_list_length BB.to_position BB.operate BB.plus BB.operate_one BB.same_value AA.make_function AA.function AA.function_expression AA.enter_function CC.get CC.define CC.put CC.get_own_property CC.has_property CC.delete CC.get_of_string CC.get_of CC.put_of CC.delete_of CC.to_object CC.is_prototype_of DD.resolve_name DD.get_value DD.put_value EE.function_rule EE.name_rule EE.array_rule EE.field_rule EE.object_rule EE.member_reference EE.index_reference EE.member_rule EE.index_rule EE.call_rule EE.new_rule EE.binary_rule EE.delete_rule EE.step_rule EE.typeof_rule EE.unary_rule EE.logic_rule EE.conditional_rule EE.assign_rule EE.compound_rule EE.comma_rule EE.host_rule EE.expr_rule EE.reference_rule FF.statements FF.declarator_rule FF.var_rule FF.eval_rule FF.if_rule FF.do_while_turn FF.while_turn FF.for_turn FF.for_rule FF.enumerated FF.for_in_turns FF.for_in_rule FF.return_rule FF.switch_rule FF.throw_rule FF.handle FF.try_rule FF.stmt_rule GG.construct_function GG.enter_global HH.has_own_property HH.is_prototype HH.property_is_enumerable HH.get_prototype_of HH.from_descriptor HH.get_own_property_descriptor HH.create HH.to_descriptor HH.define_property HH.seal HH.freeze HH.prevent_extensions HH.is_sealed HH.is_frozen HH.is_extensible HH.keys HH.nothing HH.call HH.apply HH.make_error II.is_array_rule II.concat II.join II.pop II.push II.slice II.index_of II.for_each II.map_rule II.filter_rule JJ.realm_names JJ.realm_name JJ.closed JJ.constructor_rule JJ.builtin_rule KK.script_tree LL.behind LL.plain_from
  counter_any d turns = simp (fold_out-Stmt, fold_out-StmtForm, make_call, first_call, second_call, at_expr, at_stmt, at_reference, at_call, e.outs-Call, e.outs-Member, e.outs-Name, s.outs-Eval, s.outs-FuncDecl, s.outs-Var)

  pub makers_any : (d turns : ℕ) → run_from (start) d turns makers_script ≡ Ended [] Normally (makers_from (start))
  unfolding digits V.to_boolean V.number_of_text V.to_number V.to_integer V.to_uint32 V.to_text V.is_same_value W.add W.loosely_equal W.binary_row W.type_of W.unary_row H.resolve M.get_property M.get M.can_put M.put M.has_property M.delete M.define_plain M.array_index M.define_array M.define N.hoisted_vars N.hoisted_functions BB.test_symbol BB.test BB.to_string BB.to_key BB.to_length BB.to_list_length BB.to_position BB.operate BB.plus BB.operate_one BB.same_value AA.make_function AA.function AA.function_expression AA.enter_function CC.get CC.define CC.put CC.get_own_property CC.has_property CC.delete CC.get_of_string CC.get_of CC.put_of CC.delete_of CC.to_object CC.is_prototype_of DD.resolve_name DD.get_value DD.put_value EE.function_rule EE.name_rule EE.array_rule EE.field_rule EE.object_rule EE.member_reference EE.index_reference EE.member_rule EE.index_rule EE.call_rule EE.new_rule EE.binary_rule EE.delete_rule EE.step_rule EE.typeof_rule EE.unary_rule EE.logic_rule EE.conditional_rule EE.assign_rule EE.compound_rule EE.comma_rule EE.host_rule EE.expr_rule EE.reference_rule FF.statements FF.declarator_rule FF.var_rule FF.eval_rule FF.if_rule FF.do_while_turn FF.while_turn FF.for_turn FF.for_rule FF.enumerated FF.for_in_turns FF.for_in_rule FF.return_rule FF.switch_rule FF.throw_rule FF.handle FF.try_rule FF.stmt_rule GG.construct_function GG.enter_global HH.has_own_property HH.is_prototype HH.property_is_enumerable HH.get_prototype_of HH.from_descriptor HH.get_own_property_descriptor HH.create HH.to_descriptor HH.define_property HH.seal HH.freeze HH.prevent_extensions HH.is_sealed HH.is_frozen HH.is_extensible HH.keys HH.nothing HH.call HH.apply HH.make_error II.is_array_rule II.concat II.join II.pop II.push II.slice II.index_of II.for_each II.map_rule II.filter_rule JJ.realm_names JJ.realm_name JJ.closed JJ.constructor_rule JJ.builtin_rule KK.script_tree LL.behind LL.plain_from
  makers_any d turns = simp (fold_out-Stmt, fold_out-StmtForm, makes_first, makes_second, makes_third, at_expr, at_stmt, at_reference, at_call, e.outs-Call, e.outs-Literal, e.outs-Name, s.outs-FuncDecl, s.outs-Var)
