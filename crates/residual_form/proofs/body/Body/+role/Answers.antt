use Rattle.std.proofs.Common.{ap, ◌∙◌, sym}
use Rattle.std.specs.List.{list_all}
use Rattle.residual_form.specs.Bodies.{seen}
use Rattle.residual_form.specs.Statements.{in_stmt_form, is_statement}
use Rattle.residual_form.proofs.Listed.{block-Block}
use Rattle.residual_form.proofs.body.Body.+role.Goals as goal

pub is_block_form-returns-in-Block : goal.is_block_form-returns-in-Block
is_block_form-returns-in-Block t c =
    let b = seen c.args.self.now in
    let w = c.in-Block in
    c.are_all.ensures ∙ ap (list_all (is_statement b)) c.as_slice.ensures ∙ sym (ap (λ f. (in_stmt_form b f).block) w.is ∙ block-Block b w.body)
