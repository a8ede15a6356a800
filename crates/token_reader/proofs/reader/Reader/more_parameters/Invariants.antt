use Rattle.std.proofs.Common.{◌≡◌, ◌≤◌, length}
use Rattle.js_grammar.specs.Functions.{more_parameters}
use Rattle.js_grammar.specs.Rest.{repeat}
use Rattle.token_reader.specs.Reader.{rest_of}
use Rattle.token_reader.proofs.reader.Reader.more_parameters.Given as goal

abbrev pub invariant-turn : goal.invariant-turn
invariant-turn l = record {
  same : repeat more_parameters l.fn.so_far (rest_of l.fn.self) ≡ repeat more_parameters l.so_far (rest_of l.self);
  within : length l.self.rest.now ≤ length l.fn.self.rest.now;
}

abbrev pub decreases-turn : goal.decreases-turn
decreases-turn l = length l.self.rest.now
