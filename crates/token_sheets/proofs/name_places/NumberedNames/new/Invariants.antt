use Rattle.std.proofs.Common.{◌≡◌, ℕ, List, take}
use Rattle.token_sheets.specs.NamePlaces.{name_position, place_of}
use Rattle.token_sheets.proofs.name_places.NumberedNames.new.Given as goal

abbrev pub invariant-loop-n : goal.invariant-loop-n
invariant-loop-n l = (q : List ℕ) → place_of l.places.entries q ≡ name_position (take l.n l.fn.names) q
