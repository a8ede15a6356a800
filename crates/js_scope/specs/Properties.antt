-- The properties of an object literal, and which of them clash with earlier ones (11.1.5).
use Rattle.std.specs.Prelude.{◌&&◌, ◌||◌, fold, Bool, if◌then◌else◌, List, [], ◌∷◌}
use Rattle.std.specs.List.{list_any}
use Rattle.std.specs.Str.{bytes_eq}
use Rattle.js_tree.specs.declared.expression.Field.{Field, out-Field}
use Rattle.js_tree.specs.declared.expression.ExprForm.TheOpen.{Field-F}
use Rattle.js_tree.specs.Mentions as M
use Rattle.js_tree.specs.Mentions.{Mention, Property, clash}
use Rattle.js_tree.specs.Parts.{is_among}
use Rattle.js_scope.specs.Hoisting.{add}
use Rattle.js_scope.specs.declared.properties.Seen.{Seen}
use Rattle.js_scope.specs.declared.properties.Given.{Given}
use Rattle.js_scope.specs.declared.properties.Given.TheVariants as given

abbrev pub given_of : Given → M.Given
given_of given.Value = M.Valued
given_of given.Getter = M.Got
given_of given.Setter = M.Set

abbrev pub property_in : {A B C : Type 0} → Field-F A B C → Property
property_in (Field-F.Value at key e) = (at, key, M.Valued)
property_in (Field-F.Getter at key f) = (at, key, M.Got)
property_in (Field-F.Setter at key f) = (at, key, M.Set)

abbrev pub property : Field → Property
property f = property_in (out-Field f)

-- an earlier property clashes with this one
abbrev pub clashes_one : Property → Property → Bool
clashes_one p q = bytes_eq q.1 p.1 && clash q.2 p.2

abbrev pub clashes : List Property → Property → Bool
clashes before p = list_any (clashes_one p) before

-- a property behind these
abbrev pub repeat : List Property → Property → List Mention
repeat before p = if clashes before p then M.Repeats p.0 ∷ [] else []

-- ---- by the names of the properties so far

-- whether one of these clashes with a property
abbrev pub clashes_with : Seen → Property → Bool
clashes_with s (at, key, M.Valued) = is_among s.getters key || is_among s.setters key
clashes_with s (at, key, M.Got) = is_among s.values key || is_among s.getters key
clashes_with s (at, key, M.Set) = is_among s.values key || is_among s.setters key

abbrev pub repeat_with : Seen → Property → List Mention
repeat_with s p = if clashes_with s p then M.Repeats p.0 ∷ [] else []

abbrev pub with_one : Seen → Property → Seen
with_one s (at, key, M.Valued) = record s { values = add s.values key }
with_one s (at, key, M.Got) = record s { getters = add s.getters key }
with_one s (at, key, M.Set) = record s { setters = add s.setters key }

abbrev pub none_seen : Seen
none_seen = record { values = []; getters = []; setters = [] }

abbrev pub seen_in : List Property → Seen
seen_in ps = fold with_one none_seen ps
