use Rattle.std.proofs.Common.{◌++◌, ap, ◌∙◌, sym, append_assoc, map, take, []}
use Rattle.js_tree.specs.Mentions as tree
use Rattle.js_scope.specs.Mentioning as spec
use Rattle.js_scope.specs.Properties.{property, repeat_with, with_one, seen_in}
use Rattle.js_scope.proofs.Repeated.{repeated_at, seen_at}
use Rattle.js_scope.proofs.properties.push_repeats.Goals as goal

pub loop-field-preserved : goal.loop-field-preserved
loop-field-preserved c =
    let fields = c.args.fields.now in
    let i = c.loop-field.field-index in
    let field = c.field-item.result in
    let before = map property (take i fields) in
    let old = spec.told c.args.mentions.now.items in
    record {
      told =
          c.in_ok-push_repeat.ensures
          ∙ ap (λ seen. spec.told c.loop-field.mentions.items ++ repeat_with seen (property field)) c.loop-field.invariant.seen
          ∙ ap (λ ms. ms ++ repeat_with (seen_in before) (property field)) c.loop-field.invariant.told
          ∙ append_assoc old (tree.repeated [] before) (repeat_with (seen_in before) (property field))
          ∙ ap (λ ms. old ++ ms) (sym (repeated_at fields i field c.loop-field-test.true ∙ ap (λ f. tree.repeated [] before ++ repeat_with (seen_in before) (property f)) (sym c.field-item.is)));
      seen =
          c.in_ok-add.ensures
          ∙ ap (λ seen. with_one seen (property field)) c.loop-field.invariant.seen
          ∙ sym (seen_at fields i field c.loop-field-test.true ∙ ap (λ f. with_one (seen_in before) (property f)) (sym c.field-item.is));
    }
