use Rattle.std.proofs.Common.{◌≡◌, take}
use Rattle.std.specs.List.{flat_map}
use Rattle.js_tree.specs.declared.statement.Stmt.{Stmt}
use Rattle.js_tree.specs.declared.statement.StmtForm.{out-StmtForm}
use Rattle.js_tree.specs.Mentions.{declares}
use Rattle.js_scope.proofs.hoisting.functions_in.Given as goal

abbrev pub invariant-loop-s : goal.invariant-loop-s
invariant-loop-s l = l.functions ≡ flat_map (λ (s : Stmt). declares (out-StmtForm s.form)) (take l.s-index l.body)
