-- What the crates above ask about parts of a script.
use Rattle.std.specs.Prelude.{ℕ, Bool, true, false, List, [], ◌∷◌}
use Rattle.std.specs.List.{list_any}
use Rattle.std.specs.Str.{bytes_eq}
use Rattle.js_tree.specs.declared.statement.Declarator.{Declarator}
use Rattle.js_tree.specs.declared.statement.Func.{Func}
use Rattle.js_tree.specs.declared.statement.StmtForm.TheOpen.{StmtForm-F}

-- whether a name is one of these
abbrev pub is_among : List (List ℕ) → List ℕ → Bool
is_among names name = list_any (bytes_eq name) names

-- the declarators of a `var` statement
abbrev pub declarators_in : {A B C D E : Type 0} → StmtForm-F A B C D E → List Declarator
declarators_in (StmtForm-F.Var ds) = ds
declarators_in _ = []

abbrev pub has_functions : List Func → Bool
has_functions [] = false
has_functions (f ∷ fs) = true
