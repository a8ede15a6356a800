use Rattle.std.proofs.Common.{ap, ◌∙◌, sym}
use Rattle.std.specs.Prelude.{◌&&◌}
use Rattle.std.specs.List.{list_all}
use Rattle.js_tree.specs.declared.statement.Case.{out-Case}
use Rattle.js_tree.specs.Called.{callable_behind}
use Rattle.js_tree.specs.Flat.{stmt_form_flat, case_flat, body_flat}
use Rattle.js_tree.proofs.Flatness.{flat-Block, flat-Switch, flat-Case}
use Rattle.js_tree.proofs.flat.Part.+stmt_flat.Goals as goal

pub case-returns-then-maybe : goal.case-returns-then-maybe
case-returns-then-maybe g t c =
    let k = callable_behind c.args.self.now.funcs.now c.args.self.now.first in
    let all = (out-Case c.args.c.now).body in
    c.body.ensures ∙ ap (body_flat k) c.as_slice.ensures
    ∙ sym (flat-Case k c.args.c.now ∙ ap (λ b. b && body_flat k all) (sym c.maybe.ensures ∙ c.if-maybe.true))

pub stmt_form-returns-in-Block : goal.stmt_form-returns-in-Block
stmt_form-returns-in-Block g t c =
    let k = callable_behind c.args.self.now.funcs.now c.args.self.now.first in
    let w = c.in-Block in
    c.body.ensures ∙ ap (body_flat k) c.as_slice-in-Block.ensures ∙ sym (ap (stmt_form_flat k) w.is ∙ flat-Block k w.body)

pub stmt_form-returns-then-is_flat-3 : goal.stmt_form-returns-then-is_flat-3
stmt_form-returns-then-is_flat-3 g t c =
    let k = callable_behind c.args.self.now.funcs.now c.args.self.now.first in
    let w = c.in-Switch in
    c.cases.ensures ∙ ap (list_all (case_flat k)) c.as_slice-then-is_flat-3.ensures
    ∙ sym (ap (stmt_form_flat k) w.is ∙ flat-Switch k w.e w.cases ∙ ap (λ b. b && list_all (case_flat k) w.cases) (sym c.is_flat-in-Switch.ensures ∙ c.if-is_flat-3.true))
