use Rattle.std.proofs.Common.{◌≡◌, ◌<◌, [], ◌∷◌, ◌++◌, length, ap, sym, ◌∙◌, map, arith}
use Rattle.js_tree.specs.Trees.{stmt}
use Rattle.js_tree.specs.declared.statement.StmtForm.TheVariants.{Var}
use Rattle.residual_form.specs.Snapshot.{variable, snapshot}
use Rattle.prepack_core.proofs.Snapshots.{built, of_none, of_some}
use Rattle.prepack_core.proofs.residual.snapshot.Goals as goal

pub returns-then-len-eq0-clause-script : goal.returns-then-len-eq0-clause-script
returns-then-len-eq0-clause-script c =
    let vs = c.args.variables.now in
    built c.new-body.result [] c.new-funcs.result (snapshot vs) c.new-body.ensures c.new-funcs.ensures (of_none vs (sym c.len.ensures.count ∙ c.if-len-eq0.true))

pub returns-clause-script : goal.returns-clause-script
returns-clause-script c =
    let vs = c.args.variables.now in
    let some : 0 < length vs = omega arith in
    let body : c.push.new.self ≡ stmt 0 (Var (map variable vs)) ∷ [] =
    (c.in_ok-push.ensures {u = tt}).ok
    ∙ ap (λ ts. ts ++ stmt 0 c.in_ok-form.form ∷ []) c.new-body.ensures
    ∙ ap (λ f. stmt 0 f ∷ []) (c.in_ok-form.ensures {u = tt} ∙ ap (λ ds. Var ds) (c.in_ok-declarators.ensures {u = tt})) in
    built c.push.new.self (stmt 0 (Var (map variable vs)) ∷ []) c.new-funcs.result (snapshot vs) body c.new-funcs.ensures (of_some vs some)
