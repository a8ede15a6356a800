use Rattle.std.proofs.Common.{◌≡◌, ◌∙◌, List, map, string_bytes, Some, Global, false, []}
use Rattle.std.proofs.lemmas.Result.{IfErr-weaker, IfOk-weaker}
use Rattle.pp_words.specs.Words.{Word, command, asked}
use Rattle.pp_words.specs.Line.{form}
use Rattle.pp_words.proofs.Agreement.{of_parts}
use Rattle.pp_words.proofs.reading.words.Goals as goal

pub returns : goal.returns
returns c =
    let words : List Word = map (string_bytes {Z = Global}) c.args.words.now in
    let values : List Word = map (λ v. v.now) c.as_slice.result.now in
    let plain : List Word = map (λ w. w.now) c.as_slice-2.result.now in
    let parts : form false [] [] words ≡ Some (values, plain) = rw (c.as_slice.ensures.value, c.as_slice-2.ensures.value) c.in_ok-values.ensures.ok in
    let same : command words ≡ asked (values, plain) = of_parts words (values, plain) parts in
    record {
      ok = IfOk-weaker c.asked.result _ _ (λ r h. same ∙ h) c.asked.ensures.ok;
      err = IfErr-weaker c.asked.result _ _ (λ e h u. same ∙ h u) c.asked.ensures.err;
    }
