-- Which inputs have another type at an earlier place, by the least places of those of each type.
use Rattle.std.specs.Prelude.{◌≡◌, ℕ, ◌&&◌, ◌||◌, Bool, false, if◌then◌else◌, nat_lt, nat_le, List, [], ◌∷◌, Option, Some, None}
use Rattle.std.specs.Map.{lookup}
use Rattle.std.specs.Str.{bytes_eq}
use Rattle.js_value.specs.declared.place.Place.{Place}
use Rattle.js_value.specs.declared.primitive.Kind.{Kind}
use Rattle.js_value.specs.declared.primitive.Kind.TheVariants as kind
use Rattle.js_tree.specs.Early.{mention_fault}
use Rattle.js_tree.specs.Mentions as M
use Rattle.js_tree.specs.Mentions.{Mention}
use Rattle.js_tree.specs.declared.refusal.Feature.TheVariants as feature
use Rattle.js_tree.specs.declared.refusal.ReadRefused.{ReadRefused}
use Rattle.js_tree.specs.declared.refusal.ReadRefused.TheVariants.{Unsupported}
use Rattle.js_scope.specs.FirstPlaces.{FirstPlaces}
use Rattle.js_scope.specs.declared.inputs.Inputs.{Inputs}

abbrev pub no_places : FirstPlaces
no_places = []

abbrev pub first_of : FirstPlaces → List ℕ → Option ℕ
first_of firsts name = lookup (bytes_eq name) firsts

abbrev pub is_before : Option ℕ → ℕ → Bool
is_before None at = false
is_before (Some first) at = nat_lt first at

abbrev pub is_upto : Option ℕ → ℕ → Bool
is_upto None at = false
is_upto (Some first) at = nat_le first at

-- a name stands before a place
abbrev pub stands_before : FirstPlaces → List ℕ → Place → Bool
stands_before firsts name at = is_before (first_of firsts name) at.0

abbrev pub is_no_later : FirstPlaces → List ℕ → Place → Bool
is_no_later firsts name at = is_upto (first_of firsts name) at.0

-- a name stands at a place too
abbrev pub Notes : FirstPlaces → List ℕ → Place → FirstPlaces → Type 0
Notes old name at new = (p : Place) (q : List ℕ) → stands_before new q p ≡ (stands_before old q p || (nat_lt at.0 p.0 && bytes_eq q name))

abbrev pub no_inputs : Inputs
no_inputs = record { numbers = []; booleans = []; texts = [] }

-- an input has another type at an earlier place
abbrev pub is_retyped : Inputs → Place → Kind → List ℕ → Bool
is_retyped i at kind.Number name = stands_before i.booleans name at || stands_before i.texts name at
is_retyped i at kind.Boolean name = stands_before i.numbers name at || stands_before i.texts name at
is_retyped i at kind.Text name = stands_before i.numbers name at || stands_before i.booleans name at

-- what is refused of a mention, by these inputs
abbrev pub fault_by : Inputs → Mention → List ReadRefused
fault_by i (M.Takes at k name) = if is_retyped i at k name then Unsupported at feature.AbstractType ∷ [] else []
fault_by i m = mention_fault [] m
