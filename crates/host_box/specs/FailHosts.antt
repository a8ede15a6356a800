-- What contracts see of a host whose calls fail at given numbers.
use Rattle.std.specs.Prelude.{◌≢◌, ℕ, List}
use Rattle.host_box.specs.Hosts.{IsFirst}
use Rattle.host_box.specs.declared.answer.Answer.{Answer}
use Rattle.host_box.specs.declared.answer.Reply.{Reply}
use Rattle.host_box.specs.declared.answer.Reply.TheVariants.{Failed}

-- the answers left, the numbers of the calls that fail, the calls so far, those that failed
pub record FailState : Type 0 where
  pub answers : List Answer
  pub fail : List ℕ
  pub calls : ℕ
  pub faults : ℕ

-- a call that doesn't fail replies as a queue does
abbrev pub FailReplies : FailState → Reply → Type 0
FailReplies old reply = reply ≢ Failed → IsFirst old.answers reply
