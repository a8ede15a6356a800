-- The laws on early checks and on readable scripts.
use Rattle.std.proofs.Common.{◌≡◌, ◌&&◌, Bool, true, ap, sym, ◌∙◌}
use Rattle.std.specs.Prelude.{is_none}
use Rattle.js_tree.specs.Early.{early_fault}
use Rattle.js_tree.specs.declared.statement.Script.{Script}
use Rattle.js_grammar.specs.FunctionOrder.{are_in_source_order}
use Rattle.js_grammar.specs.Readable.{are_parts_readable, are_inputs_alike, is_readable}
use Rattle.reading_back.specs.Unplaced as unplaced
use Rattle.early_back.specs.EarlyBack.{EarlyBack, ReadableBack}
use Rattle.early_back.proofs.Faults.{both, inputs_back, none_back}
use Rattle.early_back.proofs.ReadableParts.{parts_same}
use Rattle.early_back.proofs.SourceOrder.{order_same}

pub early_back : EarlyBack
unfolding is_readable
early_back s t same h =
    let p = both (are_parts_readable s && are_in_source_order s && are_inputs_alike s) (is_none (early_fault s)) h in
    let q = both (are_parts_readable s && are_in_source_order s) (are_inputs_alike s) p.0 in
    none_back s t same q.1 p.1

-- what is the same without places is so of both
back : (test : Script → Bool) → ((u : Script) → test (unplaced.script u) ≡ test u) → (s t : Script) → unplaced.script s ≡ unplaced.script t → test s ≡ true → test t ≡ true
back test free s t same h = sym (free t) ∙ ap test (sym same) ∙ free s ∙ h

all_four : (a b c d : Bool) → a ≡ true → b ≡ true → c ≡ true → d ≡ true → (a && b && c && d) ≡ true
all_four a b c d h k l m = ap (λ x. x && b && c && d) h ∙ ap (λ x. x && c && d) k ∙ ap (λ x. x && d) l ∙ m

pub readable_back : ReadableBack
unfolding is_readable
readable_back s t same h =
    let p = both (are_parts_readable s && are_in_source_order s && are_inputs_alike s) (is_none (early_fault s)) h in
    let q = both (are_parts_readable s && are_in_source_order s) (are_inputs_alike s) p.0 in
    let r = both (are_parts_readable s) (are_in_source_order s) q.0 in
    all_four (are_parts_readable t) (are_in_source_order t) (are_inputs_alike t) (is_none (early_fault t))
    (back are_parts_readable parts_same s t same r.0) (back are_in_source_order order_same s t same r.1) (inputs_back s t same q.1) (ap is_none (none_back s t same q.1 p.1))
