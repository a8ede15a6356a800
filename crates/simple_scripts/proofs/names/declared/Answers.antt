use Rattle.std.proofs.Common.{◌+◌, ◌++◌, [], ◌∷◌, take, sym, ap, ◌∙◌}
use Rattle.std.specs.List.{list_any}
use Rattle.std.specs.Str.{bytes_eq}
use Rattle.std.proofs.lemmas.List.{take_all}
use Rattle.simple_scripts.specs.Simple.{declared_names}
use Rattle.js_tree.specs.declared.statement.Declarator.{Declarator}
use Rattle.simple_scripts.specs.NameSet.{of_statement}
use Rattle.simple_scripts.proofs.NameSets.{names_of, names_of_more, has_more, declared_more}
use Rattle.simple_scripts.proofs.names.declared.Goals as goal

pub loop-one-preserved : goal.loop-one-preserved
loop-one-preserved c =
    let before = declared_names (take c.loop-s.s-index c.args.statements.now) in
    let ones = c.declarators_of-one-items.result.now in
    let i = c.loop-one.one-index in
    let one = c.one-item.result in
    let longer = names_of_more before ones i one c.loop-one-test.true ∙ ap (λ (d : Declarator). (before ++ names_of (take i ones)) ++ d.name ∷ []) (sym c.one-item.is) in
    has_more c.loop-one.names c.insert.new.self c.as_slice.result one.name (before ++ names_of (take i ones)) (before ++ names_of (take (i + 1) ones)) c.as_slice.ensures longer
    (λ q. c.in_ok-insert.ensures.updates.0 (record { ref_ptr = (0, 0); now = q })) c.loop-one.invariant

pub loop-s-preserved : goal.loop-s-preserved
loop-s-preserved c = λ q.
    let statements = c.args.statements.now in
    let i = c.loop-s.s-index in
    let before = declared_names (take i statements) in
    let all = take_all c.loop-one.one-index c.declarators_of-one-items.result.now c.loop-one-test.false ∙ c.declarators_of-one-items.ensures ∙ ap of_statement c.s-item.is in
    c.loop-one.invariant q
    ∙ ap (list_any (bytes_eq q)) (ap (λ ds. before ++ names_of ds) all ∙ sym (declared_more statements i c.s-item.result c.loop-s-test.true))
