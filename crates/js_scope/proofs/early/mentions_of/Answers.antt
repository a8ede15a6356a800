use Rattle.std.proofs.Common.{◌++◌, ap, ◌∙◌, map, subst}
use Rattle.std.specs.List.{AllZip}
use Rattle.js_tree.specs.Mentions as tree
use Rattle.js_scope.specs.FreeNames.{IsUnread, unread}
use Rattle.js_scope.specs.Mentioning as spec
use Rattle.js_scope.proofs.Standing.{joined_in}
use Rattle.js_scope.proofs.WithoutReads.{whole_unread}
use Rattle.js_scope.proofs.early.mentions_of.Goals as goal

pub returns : goal.returns
returns c =
    let js = map spec.inside_of c.in_ok-insides.insides.items in
    ap (λ ms. unread ms) (c.in_ok-in_stmts.ensures ∙ ap (λ ms. spec.told ms ++ joined_in 0 js c.as_slice-2.result.now) c.new-mentions.ensures.items)
    ∙ ap (λ body. unread (joined_in 0 js body)) c.as_slice-2.ensures
    ∙ whole_unread c.args.script.now js (subst (λ fs. AllZip IsUnread (tree.insides_from 0 fs) js) c.as_slice.ensures c.in_ok-insides.ensures)
