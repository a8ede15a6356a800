use Rattle.std.proofs.Common.{◌∙◌, sym, ap}
use Rattle.std.specs.Prelude.{is_some}
use Rattle.std.specs.List.{filter}
use Rattle.plain_heap.specs.Heap.{lookup, put_at}
use Rattle.plain_heap.specs.Methods.{length_key}
use Rattle.heap_values.specs.Meaning.{property_of}
use Rattle.own_properties.specs.Defining.{entries}
use Rattle.own_properties.specs.Lengths.{without_all}
use Rattle.own_properties.proofs.Entries.{put_in}
use Rattle.own_properties.proofs.Shortening.{all_removed, is_under, lookup_under, cut}
use Rattle.own_properties.proofs.array.cut.Goals as goal

pub set-requires : goal.set-requires
set-requires c =
    let old = c.args.properties.now in
    ap (λ ps. is_some (lookup c.args.length.now ps)) (c.remove_all.ensures ∙ ap (λ keys. without_all keys old) (c.as_slice.ensures.value ∙ c.in_ok-keys.ensures) ∙ all_removed c.args.stop old c.len-count.ensures.once)
    ∙ ap (λ key. is_some (lookup key (filter (is_under c.args.stop) old))) c.requires.named ∙ lookup_under c.args.stop old ∙ c.requires.there

pub returns-clause-ok : goal.returns-clause-ok
returns-clause-ok c =
    let old = c.args.properties.now in
    let left = filter (is_under c.args.stop) old in
    let removed = c.remove_all.ensures ∙ ap (λ keys. without_all keys old) (c.as_slice.ensures.value ∙ c.in_ok-keys.ensures) ∙ all_removed c.args.stop old c.len-count.ensures.once in
    ap entries (c.set.ensures ∙ ap (put_at c.args.length.now c.args.p) removed) ∙ sym (put_in c.args.length.now c.args.p left)
    ∙ ap (λ key. put_at key (property_of c.args.p) (entries left)) c.requires.named ∙ ap (put_at length_key (property_of c.args.p)) (sym (cut c.args.stop old))
