-- The paths of residuals are the names that listings give the objects of the realm.
use Rattle.std.specs.Prelude.{◌≡◌, ℕ, List, [], ◌∷◌, ◌++◌, map, drop, codes}
use Rattle.residual_form.specs.declared.paths.TheConstants.{PATHS}
use Rattle.js_machine.specs.Machine.Realm.{realm_names}

-- the names of a path, the last one first, with points between
abbrev pub dotted : List (List ℕ) → List ℕ
dotted [] = []
dotted (name ∷ []) = name
dotted (name ∷ names) = dotted names ++ codes "." ++ name

-- in the order of the objects' numbers, all but the global object
abbrev pub PathsAreNames : Type 0
PathsAreNames = map (λ path. dotted (map (λ name. name.now) path.now)) PATHS ≡ drop 1 realm_names
