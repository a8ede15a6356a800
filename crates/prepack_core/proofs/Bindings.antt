-- Variables in a map as the properties of the global object.
use Rattle.std.proofs.Common.{◌≡◌, ℕ, Bool, true, false, cond, List, [], ◌∷◌, refl, ap}
use Rattle.std.specs.Prelude.{Some, ◌&&◌}
use Rattle.std.specs.Option.{option_map}
use Rattle.std.specs.List.{list_all}
use Rattle.std.specs.Map.{lookup as entry_of, keys_of}
use Rattle.std.proofs.lemmas.Bool.{and_parts, and_from}
use Rattle.simple_scripts.specs.SimpleNames.{is_simple_name}
use Rattle.simple_runs.specs.PlainVariables.{is_plain_value, is_plain_variable, are_plain_variables}
use Rattle.std.specs.Str.{bytes_eq}
use Rattle.indexmap.specs.IndexMap.{insert_entry}
use Rattle.simple_runs.specs.Events.{lookup, put}
use Rattle.prepack_core.specs.declared.value.Value.{Value}
use Rattle.prepack_core.specs.declared.value.Value.TheVariants as value
use Rattle.prepack_core.specs.Values.{primitive_of, shown}

abbrev Entries : Type 0
Entries = List (List ℕ × Value)

pub shown-insert : (es : Entries) (name : List ℕ) (v : Value) → shown (insert_entry bytes_eq es name v) ≡ put name (primitive_of v) (shown es)
shown-insert [] name v = refl
shown-insert (e ∷ es) name v =
    elim (bytes_eq name e.0) as (λ b. shown (cond b ((e.0, v) ∷ es) (e ∷ insert_entry bytes_eq es name v)) ≡ cond b ((e.0, primitive_of v) ∷ shown es) ((e.0, primitive_of e.1) ∷ put name (primitive_of v) (shown es)))
    [ true ↦ refl | false ↦ ap (λ h. (e.0, primitive_of e.1) ∷ h) (shown-insert es name v) ]

pub shown-lookup : (es : Entries) (name : List ℕ) → option_map primitive_of (entry_of (bytes_eq name) es) ≡ lookup name (shown es)
shown-lookup [] name = refl
shown-lookup (e ∷ es) name =
    elim (bytes_eq name e.0) as (λ b. option_map primitive_of (cond b (Some e.1) (entry_of (bytes_eq name) es)) ≡ cond b (Some (primitive_of e.1)) (lookup name (shown es)))
    [ true ↦ refl | false ↦ shown-lookup es name ]

-- a test of the keys holds after an insert, where it holds of the new key
pub all-insert : (p : List ℕ → Bool) (es : Entries) (name : List ℕ) (v : Value) → p name ≡ true → list_all (λ e. p e.0) es ≡ true → list_all (λ e. p e.0) (insert_entry bytes_eq es name v) ≡ true
all-insert p [] name v n h = ap (λ b. b && true) n
all-insert p (e ∷ es) name v n h =
    elim (bytes_eq name e.0) as (λ b. list_all (λ e. p e.0) (cond b ((e.0, v) ∷ es) (e ∷ insert_entry bytes_eq es name v)) ≡ true)
    [ true ↦ h | false ↦ kept (p e.0) (list_all (λ e. p e.0) es) _ h (all-insert p es name v n) ]
  where
    kept : (a b c : Bool) → (a && b) ≡ true → (b ≡ true → c ≡ true) → (a && c) ≡ true
    kept true b c h f = f h
    kept false b c h f = h

plain_value : (v : Value) → is_plain_value (primitive_of v) ≡ true
plain_value value.Undefined = refl
plain_value (value.Number n) = n.in_range

-- variables with simple names can be written and read again
pub shown-plain : (es : Entries) → list_all (λ e. is_simple_name e.0) es ≡ true → are_plain_variables (shown es) ≡ true
shown-plain [] h = refl
shown-plain (e ∷ es) h =
    let parts = and_parts (is_simple_name e.0) (list_all (λ d. is_simple_name d.0) es) h in
    and_from (is_plain_variable (e.0, primitive_of e.1)) (are_plain_variables (shown es)) (and_from (is_simple_name e.0) (is_plain_value (primitive_of e.1)) parts.0 (plain_value e.1)) (shown-plain es parts.1)

pub keys-shown : (es : Entries) → keys_of (shown es) ≡ keys_of es
keys-shown [] = refl
keys-shown (e ∷ es) = ap (λ ks. e.0 ∷ ks) (keys-shown es)

-- what passes for all passes for the one at a place
