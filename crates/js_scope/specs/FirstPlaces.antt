-- The least places of names.
use Rattle.std.specs.Prelude.{ℕ, List}

-- names with their least places
abbrev pub FirstPlaces : Type 0
FirstPlaces = List (List ℕ × ℕ)
