-- A text above the greatest length is no value.
use Rattle.std.proofs.Common.{refl}
use Rattle.js_value.specs.Conversions.{to_text}
use Rattle.js_value.specs.Operators.{add, binary_row}
use Rattle.worked_runs.specs.TooLong.{TooLong}

pub too_long : TooLong
unfolding binary_row add to_text
too_long = record { text_length = λ s t long. rw long refl }
