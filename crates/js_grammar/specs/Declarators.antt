-- Declarators (12.2).
use Rattle.std.specs.Prelude.{Bool, List, [], ◌∷◌, ◌++◌, Some, None}
use Rattle.js_value.specs.declared.place.Place.{Place}
use Rattle.js_tree.specs.declared.statement.Declarator.{Declarator}
use Rattle.js_tree.specs.declared.statement.Name.{Name}
use Rattle.js_grammar.specs.Rest.{Reading, ◌>>=◌, give, here, next, repeat}
use Rattle.js_grammar.specs.Marks
use Rattle.js_grammar.specs.Functions.{Grammar, declared_name}

module _ (g : Grammar) where
  -- the initialiser behind a declared name, and its place
  abbrev pub initialiser : Bool → Name → Reading (Declarator × Place)
  initialiser allows_in name = next Marks.equals (λ _. do
    at ← here
    x ← g.assignment allows_in
    give (record { at = name.at; name = name.text; init = Some x }, at)) (give (record { at = name.at; name = name.text; init = None }, name.at))

  abbrev pub more_declarators : Bool → (List Declarator → Reading (List Declarator)) → List Declarator → Reading (List Declarator)
  more_declarators allows_in again so_far = next Marks.comma (λ _. do
    name ← declared_name
    d ← initialiser allows_in name
    again (so_far ++ (d.0 ∷ []))) (give so_far)

  -- declarators behind the first one
  unfoldable pub declarators_behind : Bool → Declarator → Reading (List Declarator)
  declarators_behind allows_in first = repeat (more_declarators allows_in) (first ∷ [])
