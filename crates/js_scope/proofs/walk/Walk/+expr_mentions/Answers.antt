use Rattle.std.proofs.Common.{◌++◌, ap, sym, ◌∙◌, append_assoc, map, []}
use Rattle.std.specs.List.{flat_map}
use Rattle.js_tree.specs.Mentions as tree
use Rattle.js_scope.specs.Mentioning as spec
use Rattle.js_scope.specs.Properties as properties
use Rattle.js_scope.proofs.Walks as W
use Rattle.js_scope.proofs.walk.Walk.+expr_mentions.Goals as goal

pub in_form-returns-in_ok-in_expr-in-Index : goal.in_form-returns-in_ok-in_expr-in-Index
in_form-returns-in_ok-in_expr-in-Index t c =
    let w = c.args.self.now in
    let at = c.args.at in
    let v = c.in-Index in
    W.behind c.in_expr-in-Index-2.result _ _ _ (spec.in_expr w v.object).0 (spec.in_expr w v.key).0 _ c.in_ok-in_expr-in-Index.ensures
    (ap (λ f. (spec.in_form w f at).0) v.is ∙ W.form-Index w v.object v.key at) c.in_expr-in-Index-2.ensures

pub in_form-returns-in_ok-in_expr-in-Binary : goal.in_form-returns-in_ok-in_expr-in-Binary
in_form-returns-in_ok-in_expr-in-Binary t c =
    let w = c.args.self.now in
    let at = c.args.at in
    let v = c.in-Binary in
    W.behind c.in_expr-in-Binary-2.result _ _ _ (spec.in_expr w v.a).0 (spec.in_expr w v.b).0 _ c.in_ok-in_expr-in-Binary.ensures
    (ap (λ f. (spec.in_form w f at).0) v.is ∙ W.form-Binary w v.field-0 v.a v.b at) c.in_expr-in-Binary-2.ensures

pub in_form-returns-in_ok-in_expr-in-Logic : goal.in_form-returns-in_ok-in_expr-in-Logic
in_form-returns-in_ok-in_expr-in-Logic t c =
    let w = c.args.self.now in
    let at = c.args.at in
    let v = c.in-Logic in
    W.behind c.in_expr-in-Logic-2.result _ _ _ (spec.in_expr w v.a).0 (spec.in_expr w v.b).0 _ c.in_ok-in_expr-in-Logic.ensures
    (ap (λ f. (spec.in_form w f at).0) v.is ∙ W.form-Logic w v.field-0 v.a v.b at) c.in_expr-in-Logic-2.ensures

pub in_form-returns-in_ok-in_expr-in-Comma : goal.in_form-returns-in_ok-in_expr-in-Comma
in_form-returns-in_ok-in_expr-in-Comma t c =
    let w = c.args.self.now in
    let at = c.args.at in
    let v = c.in-Comma in
    W.behind c.in_expr-in-Comma-2.result _ _ _ (spec.in_expr w v.a).0 (spec.in_expr w v.b).0 _ c.in_ok-in_expr-in-Comma.ensures
    (ap (λ f. (spec.in_form w f at).0) v.is ∙ W.form-Comma w v.a v.b at) c.in_expr-in-Comma-2.ensures

pub in_form-returns-in_ok-in_target-in-Assign : goal.in_form-returns-in_ok-in_target-in-Assign
in_form-returns-in_ok-in_target-in-Assign t c =
    let w = c.args.self.now in
    let at = c.args.at in
    let v = c.in-Assign in
    W.behind c.in_expr-in-Assign.result _ _ _ (spec.in_expr w v.a).1 (spec.in_expr w v.b).0 _ c.in_ok-in_target-in-Assign.ensures
    (ap (λ f. (spec.in_form w f at).0) v.is ∙ W.form-Assign w v.a v.field-1 v.b at) c.in_expr-in-Assign.ensures

pub in_form-returns-in_ok-in_fields-in-ObjectLit : goal.in_form-returns-in_ok-in_fields-in-ObjectLit
in_form-returns-in_ok-in_fields-in-ObjectLit t c =
    let w = c.args.self.now in
    let at = c.args.at in
    let v = c.in-ObjectLit in
    W.behind c.push_repeats.result _ _ _ (spec.in_fields w c.as_slice-in-ObjectLit.result.now) (tree.repeated [] (map properties.property c.as_slice-in-ObjectLit-2.result.now)) _ c.in_ok-in_fields-in-ObjectLit.ensures
    (ap (λ f. (spec.in_form w f at).0) v.is ∙ W.form-ObjectLit w v.fields at
    ∙ ap (λ fs. spec.in_fields w fs ++ tree.repeated [] (map properties.property v.fields)) (sym c.as_slice-in-ObjectLit.ensures)
    ∙ ap (λ fs. spec.in_fields w c.as_slice-in-ObjectLit.result.now ++ tree.repeated [] (map properties.property fs)) (sym c.as_slice-in-ObjectLit-2.ensures))
    c.push_repeats.ensures

pub in_form-returns-in-ArrayLit : goal.in_form-returns-in-ArrayLit
in_form-returns-in-ArrayLit t c =
    let w = c.args.self.now in
    let at = c.args.at in
    let v = c.in-ArrayLit in
    W.alone c.in_elements.result _ _ (flat_map (spec.in_maybe w) c.as_slice.result.now) _
    (ap (λ f. (spec.in_form w f at).0) v.is ∙ W.form-ArrayLit w v.items at ∙ ap (λ es. flat_map (spec.in_maybe w) es) (sym c.as_slice.ensures))
    c.in_elements.ensures

pub in_form-returns-in_ok-in_expr-in-Conditional-2 : goal.in_form-returns-in_ok-in_expr-in-Conditional-2
in_form-returns-in_ok-in_expr-in-Conditional-2 t c =
    let w = c.args.self.now in
    let at = c.args.at in
    let v = c.in-Conditional in
    let test = (spec.in_expr w v.test).0 in
    let a = (spec.in_expr w v.a).0 in
    let b = (spec.in_expr w v.b).0 in
    W.behind c.in_expr-in-Conditional-3.result _ _ _ (test ++ a) b _
    (c.in_ok-in_expr-in-Conditional-2.ensures ∙ ap (λ ms. ms ++ a) c.in_ok-in_expr-in-Conditional.ensures ∙ append_assoc _ test a)
    (ap (λ f. (spec.in_form w f at).0) v.is ∙ W.form-Conditional w v.test v.a v.b at)
    c.in_expr-in-Conditional-3.ensures

pub in_form-returns-in_ok-in_expr-in-Call : goal.in_form-returns-in_ok-in_expr-in-Call
in_form-returns-in_ok-in_expr-in-Call t c =
    let w = c.args.self.now in
    let at = c.args.at in
    let v = c.in-Call in
    let callee = (spec.in_expr w v.callee).0 in
    W.behind c.in_exprs.result _ _ _ callee (spec.in_exprs w c.as_slice-in-Call.result.now) _ c.in_ok-in_expr-in-Call.ensures
    (ap (λ f. (spec.in_form w f at).0) v.is ∙ W.form-Call w v.callee v.args at ∙ ap (λ es. callee ++ spec.in_exprs w es) (sym c.as_slice-in-Call.ensures))
    c.in_exprs.ensures

pub in_form-returns-in_ok-in_expr-in-New : goal.in_form-returns-in_ok-in_expr-in-New
in_form-returns-in_ok-in_expr-in-New t c =
    let w = c.args.self.now in
    let at = c.args.at in
    let v = c.in-New in
    let callee = (spec.in_expr w v.callee).0 in
    W.behind c.in_exprs-in-New.result _ _ _ callee (spec.in_exprs w c.as_slice-in-New.result.now) _ c.in_ok-in_expr-in-New.ensures
    (ap (λ f. (spec.in_form w f at).0) v.is ∙ W.form-New w v.callee v.args at ∙ ap (λ es. callee ++ spec.in_exprs w es) (sym c.as_slice-in-New.ensures))
    c.in_exprs-in-New.ensures
