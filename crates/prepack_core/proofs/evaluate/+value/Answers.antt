use Rattle.std.proofs.Common.{sym, rules}
use Rattle.std.proofs.lemmas.Result.{err_from_is_err_and}
use Rattle.js_tree.specs.declared.expression.ExprForm.TheViews.{the_lemmas}
use Rattle.prepack_core.specs.Evaluates as spec
use Rattle.prepack_core.proofs.Evaluating.{value_step, minus_departs, minus_comes, name_comes, binary_departs_first, binary_departs_second, binary_comes}
use Rattle.prepack_core.proofs.Sums.{sum_parts, names_parts, minus_parts, names_of_minus}
use Rattle.prepack_core.proofs.evaluate.+value.Goals as goal

pub value_of-returns : goal.value_of-returns
value_of-returns t c = value_step c.args.e.now c.deref.result.now c.args.variables.now c.value_of_form.result c.deref.ensures c.value_of_form.ensures

pub value_of_form-returns-in-Some : goal.value_of_form-returns-in-Some
value_of_form-returns-in-Some t c = name_comes c.args.form.now c.in-Name.name c.args.at c.args.variables.now c.in-Some.value c.in-Name.is (sym c.in-Some.ensures)

pub value_of_form-value_of-requires : goal.value_of_form-value_of-requires
value_of_form-value_of-requires t c = (
  search (rules, the_lemmas),
  (
    (minus_parts c.args.form.now c.in-Unary.field-0 c.in-Unary.a c.in-Unary.is c.requires.sum).1,
    names_of_minus (spec.is_bound c.args.variables.now) c.args.form.now c.in-Unary.field-0 c.in-Unary.a c.in-Unary.is c.requires.bound,
  ),
)

pub value_of_form-returns-in_err-value_of-in-Unary : goal.value_of_form-returns-in_err-value_of-in-Unary
value_of_form-returns-in_err-value_of-in-Unary t c =
    let p = err_from_is_err_and c.from_residual.result c.from_residual.ensures.1 in
    let m = minus_parts c.args.form.now c.in-Unary.field-0 c.in-Unary.a c.in-Unary.is c.requires.sum in
    rw (p.1, p.2) (minus_departs c.args.form.now c.in-Unary.a c.args.at c.args.variables.now _ m.0 c.in_err-value_of-in-Unary.ensures)

pub value_of_form-returns-in_ok-value_of-in-Unary : goal.value_of_form-returns-in_ok-value_of-in-Unary
value_of_form-returns-in_ok-value_of-in-Unary t c =
    let m = minus_parts c.args.form.now c.in-Unary.field-0 c.in-Unary.a c.in-Unary.is c.requires.sum in
    minus_comes c.args.form.now c.in-Unary.a c.args.at c.args.variables.now c.in_ok-value_of-in-Unary.field-0 c.negation.result m.0
    c.in_ok-value_of-in-Unary.ensures (c.negation.ensures c.args.variables.now)

pub value_of_form-value_of-requires-in-Binary : goal.value_of_form-value_of-requires-in-Binary
value_of_form-value_of-requires-in-Binary t c = (
  search (rules, the_lemmas),
  (
    (sum_parts c.args.form.now c.in-Binary.op c.in-Binary.a c.in-Binary.b c.in-Binary.is c.requires.sum).1,
    (names_parts (spec.is_bound c.args.variables.now) c.args.form.now c.in-Binary.op c.in-Binary.a c.in-Binary.b c.in-Binary.is c.requires.bound).0,
  ),
)

pub value_of_form-value_of-requires-in-Binary-2 : goal.value_of_form-value_of-requires-in-Binary-2
value_of_form-value_of-requires-in-Binary-2 t c = (
  search (rules, the_lemmas),
  (
    (sum_parts c.args.form.now c.in-Binary.op c.in-Binary.a c.in-Binary.b c.in-Binary.is c.requires.sum).2,
    (names_parts (spec.is_bound c.args.variables.now) c.args.form.now c.in-Binary.op c.in-Binary.a c.in-Binary.b c.in-Binary.is c.requires.bound).1,
  ),
)

pub value_of_form-returns-in_err-x-in-Binary : goal.value_of_form-returns-in_err-x-in-Binary
value_of_form-returns-in_err-x-in-Binary t c =
    let p = err_from_is_err_and c.from_residual-in_err-x-in-Binary.result c.from_residual-in_err-x-in-Binary.ensures.1 in
    let s = sum_parts c.args.form.now c.in-Binary.op c.in-Binary.a c.in-Binary.b c.in-Binary.is c.requires.sum in
    rw (p.1, p.2) (binary_departs_first c.args.form.now c.in-Binary.op c.in-Binary.a c.in-Binary.b c.args.at c.args.variables.now c.in-Binary.is s.0 _ c.in_err-x-in-Binary.ensures)

pub value_of_form-returns-in_err-y-in-Binary : goal.value_of_form-returns-in_err-y-in-Binary
value_of_form-returns-in_err-y-in-Binary t c =
    let p = err_from_is_err_and c.from_residual-in_err-y-in-Binary.result c.from_residual-in_err-y-in-Binary.ensures.1 in
    let s = sum_parts c.args.form.now c.in-Binary.op c.in-Binary.a c.in-Binary.b c.in-Binary.is c.requires.sum in
    rw (p.1, p.2) (binary_departs_second c.args.form.now c.in-Binary.op c.in-Binary.a c.in-Binary.b c.args.at c.args.variables.now c.in-Binary.is s.0 c.in_ok-x-in-Binary.x _ c.in_ok-x-in-Binary.ensures c.in_err-y-in-Binary.ensures)

pub value_of_form-returns-in_ok-y-in-Binary : goal.value_of_form-returns-in_ok-y-in-Binary
value_of_form-returns-in_ok-y-in-Binary t c =
    let s = sum_parts c.args.form.now c.in-Binary.op c.in-Binary.a c.in-Binary.b c.in-Binary.is c.requires.sum in
    binary_comes c.args.form.now c.in-Binary.op c.in-Binary.a c.in-Binary.b c.args.at c.args.variables.now c.in-Binary.is s.0 c.in_ok-x-in-Binary.x c.in_ok-y-in-Binary.y c.operation.result
    c.in_ok-x-in-Binary.ensures c.in_ok-y-in-Binary.ensures (c.operation.ensures c.args.variables.now)
