-- The run of a whole simple script.
use Rattle.std.proofs.Common.{◌≡◌, ℕ, ◌+◌, ◌-◌, ◌≤◌, Bool, true, List, [], refl, ap, sym, ◌∙◌, arith}
use Rattle.std.specs.Prelude.{Ok, Err, not, false, ◌&&◌}
use Rattle.std.specs.List.{list_all}
use Rattle.js_tree.specs.Count.{in_stmts, nodes}
use Rattle.js_tree.specs.Parts.{has_functions}
use Rattle.simple_scripts.specs.Simple.{declared_names, read_names, reads_declared}
use Rattle.simple_scripts.specs.SimpleScripts.{is_simple, is_simple_statement}
use Rattle.js_tree.specs.declared.statement.Stmt.{Stmt}
use Rattle.js_tree.specs.declared.statement.Script.{Script}
use Rattle.simple_runs.specs.Events.{Heap, Tree, End}
use Rattle.simple_runs.specs.Simple.{in_turn, statement, declared, script_tree}
use Rattle.simple_runs.specs.Runs.{walk, plain}
use Rattle.prepack_core.specs.declared.evaluate.Stop.{Stop}
use Rattle.prepack_core.specs.declared.evaluate.Stop.TheVariants as stop
use Rattle.prepack_core.specs.Evaluates.{Gives, RunsTo, Evaluates, are_bound}
use Rattle.prepack_core.proofs.Bound.{all_declared_bound}

-- the parts of a simple script
pub simple_body : (s : Script) → is_simple s ≡ true → list_all is_simple_statement s.body ≡ true
unfolding is_simple
simple_body s h = third s.directive (has_functions s.funcs) (list_all is_simple_statement s.body) (reads_declared s.body) h
  where
    third : (a b c d : Bool) → (not a && not b && c && d) ≡ true → c ≡ true
    third false false true d h = refl
    third false false false d h = cc
    third true b c d h = cc
    third false true c d h = cc

simple_reads : (s : Script) → is_simple s ≡ true → reads_declared s.body ≡ true
unfolding is_simple
simple_reads s h = fourth s.directive (has_functions s.funcs) (list_all is_simple_statement s.body) (reads_declared s.body) h
  where
    fourth : (a b c d : Bool) → (not a && not b && c && d) ≡ true → d ≡ true
    fourth false false true d h = h
    fourth false false false d h = cc
    fourth true b c d h = cc
    fourth false true c d h = cc

-- at the start of a simple script each name that it reads is bound
pub start_bound : (s : Script) → is_simple s ≡ true → are_bound (declared (declared_names s.body)) (read_names s.body) ≡ true
unfolding reads_declared
start_bound s h = all_declared_bound [] (declared_names s.body) (read_names s.body) (simple_reads s h)

budget : (s : Script) (n : ℕ) → nodes s ≤ n → n ≡ in_stmts s.body + (n - in_stmts s.body)
budget s n h = omega arith

pub script_ends : (s : Script) (heap : Heap) → Gives (in_turn statement s.body) (declared (declared_names s.body)) (in_stmts s.body) tt heap → Evaluates s (Ok heap)
unfolding plain script_tree
script_ends s heap x = λ n h. ap (λ m. walk m (script_tree s)) (budget s n h) ∙ x.goes (λ _ g. End g) (n - in_stmts s.body)

pub script_stops : (s : Script) (r : Stop) (heap : Heap) (body : List Stmt) (start : Heap) → body ≡ s.body → start ≡ declared (declared_names s.body)
    → RunsTo (in_turn statement body) start (in_stmts body) (Err r) heap → Evaluates s (Err r)
unfolding plain script_tree
script_stops s (stop.Left d) heap body start same same_start x = λ n h.
    let rest = n - in_stmts s.body in
    let k : Unit {0} → Heap → Tree = λ _ g. End g in
    ap (λ m. walk m (script_tree s)) (budget s n h)
    ∙ (ap (λ b. walk (in_stmts b + rest) (in_turn statement b (declared (declared_names s.body)) k)) (sym same)
    ∙ (ap (λ h. walk (in_stmts body + rest) (in_turn statement body h k)) (sym same_start) ∙ x.leaves k rest))
script_stops s stop.NoMemory heap body start same same_start x = tt
