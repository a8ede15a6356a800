-- The residual of variables, as it is built.
use Rattle.std.proofs.Common.{◌≡◌, ℕ, ◌+◌, ◌<◌, List, [], ◌∷◌, ◌++◌, length, map, take, refl, ap, sym, ◌∙◌, arith}
use Rattle.std.specs.Prelude.{slice_get, Some}
use Rattle.std.proofs.lemmas.List.{map-append, take_more}
use Rattle.std.proofs.lemmas.Option.{get_or_from_slice_get, slice_get_within}
use Rattle.js_value.specs.declared.primitive.Primitive.{Primitive}
use Rattle.js_tree.specs.Trees.{stmt, script, one}
use Rattle.js_tree.specs.declared.statement.Func.{Func}
use Rattle.js_tree.specs.declared.statement.Script.{Script}
use Rattle.js_tree.specs.declared.statement.Stmt.{Stmt}
use Rattle.js_tree.specs.declared.statement.StmtForm.TheVariants as statement
use Rattle.residual_form.specs.Snapshot.{variable, snapshot}

-- one more declarator
pub one_more : (vs : List (List ℕ × Primitive)) (i : ℕ) (v : List ℕ × Primitive) → slice_get vs i ≡ Some v → map variable (take i vs) ++ variable v ∷ [] ≡ map variable (take (i + 1) vs)
one_more vs i v at =
    sym (map-append variable (take i vs) (v ∷ []))
    ∙ ap (λ w. map variable (take i vs ++ w ∷ [])) (sym (get_or_from_slice_get vs i v v at))
    ∙ ap (map variable) (sym (take_more vs i v (slice_get_within vs i v at)))

pub of_none : (vs : List (List ℕ × Primitive)) → length vs ≡ 0 → snapshot vs ≡ script [] []
unfolding snapshot
of_none [] none = refl
of_none (v ∷ vs) none = absurd (omega arith)

pub of_some : (vs : List (List ℕ × Primitive)) → 0 < length vs → snapshot vs ≡ one (stmt 0 (statement.Var (map variable vs)))
unfolding snapshot
of_some [] some = absurd (omega arith)
of_some (v ∷ vs) some = refl

pub built : (body ss : List Stmt) (funcs : List Func) (s : Script) → body ≡ ss → funcs ≡ [] → s ≡ script ss [] → script body funcs ≡ s
built body ss funcs s body_is none is = ap (λ ts. script ts funcs) body_is ∙ ap (script ss) none ∙ sym is
