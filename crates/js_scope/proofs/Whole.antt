-- What a script as a whole mentions, and its first fault.
use Rattle.std.proofs.Common.{◌≡◌, List, [], sym, map}
use Rattle.std.specs.Prelude.{None}
use Rattle.std.proofs.lemmas.List.Folds.{flat_map-map}
use Rattle.std.proofs.lemmas.Grind.{fold-append}
use Rattle.js_tree.specs.Early.{jump_faults, mention_faults, early_fault, lesser}
use Rattle.js_tree.specs.declared.statement.Script.{Script}
use Rattle.js_tree.specs.Mentions as M
use Rattle.js_tree.specs.Mentions.{Mention}
use Rattle.js_scope.specs.Jumps.{with_faults}
use Rattle.std.specs.List.{flat_map}
use Rattle.js_scope.specs.declared.mention.Mention as D
use Rattle.js_scope.specs.Hoisting.{add_all}
use Rattle.js_scope.specs.Mentioning.{as_expression, as_declaration, told}
use Rattle.js_scope.proofs.Gathered.{distinct_are}

pub whole : (s : Script) → M.mentions s ≡ M.joined (map (M.stmt_mentions (as_expression 0 (M.insides s)) (as_declaration 0 (M.insides s))) s.body)
unfolding M.mentions as_expression as_declaration
whole s = sym (flat_map-map (λ (x : List Mention). x) (M.stmt_mentions (as_expression 0 (M.insides s)) (as_declaration 0 (M.insides s))) s.body)

pub checks : (s : Script) → early_fault s ≡ with_faults (with_faults None (jump_faults s)) (mention_faults (M.mentions s))
unfolding early_fault
checks s = fold-append lesser None (jump_faults s) (mention_faults (M.mentions s))

pub mentioned : (ms : List D.Mention) → add_all [] (flat_map M.mentioned_name (told ms)) ≡ M.distinct (flat_map M.mentioned_name (told ms))
mentioned ms = distinct_are (flat_map M.mentioned_name (told ms))
