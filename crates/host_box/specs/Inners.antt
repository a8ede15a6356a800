-- What a recorder's inner host means: the members of the trait at a box, and those of a queue.
use Rattle.std.specs.Prelude.{ℕ, List, [], Some}
use Rattle.std.specs.Global.{Global}
use Rattle.std.specs.declared.dyn_box.DynBox.{DynBox}
use Rattle.std.specs.declared.option.Option.{Option}
use Rattle.host_box.specs.declared.answer.Answer.{Answer}
use Rattle.host_box.specs.declared.inner.Inner.{Inner}
use Rattle.host_box.specs.declared.inner.Inner.TheVariants.{Boxed, Queued}

-- the answers that are left, by what a box tells
abbrev pub answers_of : {X : Type 0} {T : X → Type 0} → (DynBox X Global T → Option (List Answer)) → Inner X T → Option (List Answer)
answers_of of_box (Boxed host) = of_box host
answers_of of_box (Queued answers) = Some answers

-- the numbers of later calls that fail
abbrev pub failing_of : {X : Type 0} {T : X → Type 0} → (DynBox X Global T → Option (List ℕ)) → Inner X T → Option (List ℕ)
failing_of of_box (Boxed host) = of_box host
failing_of of_box (Queued answers) = Some []

-- how often a call has failed
abbrev pub faults_of : {X : Type 0} {T : X → Type 0} → (DynBox X Global T → ℕ) → Inner X T → ℕ
faults_of of_box (Boxed host) = of_box host
faults_of of_box (Queued answers) = 0
