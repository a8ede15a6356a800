use Rattle.std.proofs.Common.{◌++◌, ap}
use Rattle.js_scope.specs.Mentioning.{told}
use Rattle.js_scope.proofs.Gathered.{unbound_alike, with_ending}
use Rattle.js_scope.proofs.mention.push_unbound.Goals as goal

pub returns : goal.returns
returns c =
    with_ending _ c.push_unbound_of-2.result _ _ (ap (λ ms. told c.args.mentions.now.items ++ ms) (unbound_alike c.in_ok-of.field-0 c.args.names.now (told c.args.inside.now) c.in_ok-of.ensures)) c.push_unbound_of-2.ensures
