use Rattle.std.proofs.Common.{sym, ◌∙◌, ap, ◌&&◌}
use Rattle.simple_scripts.specs.NameSet.{has}
use Rattle.simple_scripts.proofs.NameSets.{known_unary, known_binary, known_binary_none}
use Rattle.simple_scripts.proofs.names.+knows_names.Goals as goal

pub returns-in-Unary : goal.returns-in-Unary
returns-in-Unary t c =
    known_unary (has c.args.names.now) c.args.e.now c.in-Unary.a _ c.knows_names.result (sym c.deref.ensures ∙ c.in-Unary.is) c.knows_names.ensures

pub returns-then-knows_names : goal.returns-then-knows_names
returns-then-knows_names t c =
    sym (ap (λ x. x && c.knows_names-then-knows_names.result) c.if-knows_names.true)
    ∙ known_binary (has c.args.names.now) c.args.e.now c.in-Binary.a c.in-Binary.b _ c.knows_names-in-Binary.result c.knows_names-then-knows_names.result (sym c.deref.ensures ∙ c.in-Binary.is) c.knows_names-in-Binary.ensures c.knows_names-then-knows_names.ensures

pub returns-else-knows_names : goal.returns-else-knows_names
returns-else-knows_names t c =
    known_binary_none (has c.args.names.now) c.args.e.now c.in-Binary.a c.in-Binary.b _ c.knows_names-in-Binary.result (sym c.deref.ensures ∙ c.in-Binary.is) c.knows_names-in-Binary.ensures c.if-knows_names.false
