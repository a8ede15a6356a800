-- The cases of nesting compute.
use Rattle.std.proofs.Common.{refl}
use Rattle.js_grammar.proofs.Cases.{all_opened}
use Rattle.script_nesting.specs.NestingCases.{NestingCases}

pub nesting_cases : NestingCases
unfolding all_opened
nesting_cases = record { opened = refl; nesting = refl; are_read = refl; are_nested = refl }
