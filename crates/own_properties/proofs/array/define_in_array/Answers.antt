use Rattle.std.proofs.Common.{◌∙◌, sym, ap, subst}
use Rattle.std.specs.Prelude.{if◌then◌else◌}
use Rattle.std.proofs.lemmas.Result.{IfOk-weaker}
use Rattle.js_value.specs.Conversions.{is_same_text}
use Rattle.plain_heap.specs.Methods.{length_key, settled, set_length}
use Rattle.heap_values.specs.Meaning.{descriptor_of}
use Rattle.own_properties.specs.Defining.{with_table}
use Rattle.own_properties.specs.Lengths.{IsLength, defining_other}
use Rattle.own_properties.proofs.Entries.{looked_up}
use Rattle.own_properties.proofs.Lowering.{array_has, array_has_none}
use Rattle.own_properties.proofs.array.define_in_array.Goals as goal

pub returns-in_default-clause-answer : goal.returns-in_default-clause-answer
returns-in_default-clause-answer c =
    let old = c.args.properties.now in
    IfOk-weaker c.define.result _ _ (λ answer says o.
    ap (λ m. settled m) (array_has_none c.args.key.now (descriptor_of c.args.d.now) (with_table o c.args.extensible old)
    (λ p n is. c.in_default.ensures p n (subst (λ found. IsLength found p n) (looked_up length_key old) is)))
    ∙ says o) c.define.ensures.answer

pub returns-then-eq-clause-answer : goal.returns-then-eq-clause-answer
returns-then-eq-clause-answer c =
    let old = c.args.properties.now in
    let d = descriptor_of c.args.d.now in
    let has = c.in-Some.ensures in
    let same = ap (is_same_text c.args.key.now) (sym c.in_ok-length.ensures) ∙ sym c.if-eq.ensures in
    IfOk-weaker c.set_length.result _ _ (λ answer says o.
    let before = with_table o c.args.extensible old in
    ap (λ m. settled m) (array_has c.args.key.now d before has.0 c.in-Some.old (subst (λ found. IsLength found has.0 c.in-Some.old) (sym (looked_up length_key old)) has.2))
    ∙ ap (λ b. settled (if b then set_length d before has.0 c.in-Some.old d.value else defining_other c.args.key.now d before has.0 c.in-Some.old)) same
    ∙ says has.0 has.1 o) c.set_length.ensures.answer

pub returns-clause-answer : goal.returns-clause-answer
returns-clause-answer c =
    let old = c.args.properties.now in
    let d = descriptor_of c.args.d.now in
    let has = c.in-Some.ensures in
    let same = ap (is_same_text c.args.key.now) (sym c.in_ok-length.ensures) ∙ sym c.if-eq.ensures in
    IfOk-weaker c.define_other.result _ _ (λ answer says o.
    let before = with_table o c.args.extensible old in
    ap (λ m. settled m) (array_has c.args.key.now d before has.0 c.in-Some.old (subst (λ found. IsLength found has.0 c.in-Some.old) (sym (looked_up length_key old)) has.2))
    ∙ ap (λ b. settled (if b then set_length d before has.0 c.in-Some.old d.value else defining_other c.args.key.now d before has.0 c.in-Some.old)) same
    ∙ says has.0 has.1 o) c.define_other.ensures.answer
