-- What many writes do together.
use Rattle.std.specs.Prelude.{◌≡◌, ℕ, ◌≤◌, List, take, ◌⊎◌}
use Rattle.std.specs.declared.option.Option.{Option}
use Rattle.pp_io.specs.Streams.{Rose, after_held}

-- a front of a text was appended, the whole where no write failed
pub record IsAppended (old now : Option (List ℕ)) (faults_old faults_now : ℕ) (text : List ℕ) : Type 0 where
  pub part : (k : ℕ) × (now ≡ after_held old (take k text))
  pub whole : Rose faults_old faults_now ⊎ (now ≡ after_held old text)
  pub faults : faults_old ≤ faults_now
