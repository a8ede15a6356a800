-- The cases of ends compute.
use Rattle.std.proofs.Common.{refl}
use Rattle.js_grammar.specs.EndCases.{EndCases}

pub end_cases : EndCases
end_cases = record {
  first = refl;
  name = refl;
  parenthesis = refl;
  up = refl;
  down = refl;
  declared = refl;
  do_statement = refl;
  many = refl;
  fewer = refl;
}
