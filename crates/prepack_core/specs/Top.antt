-- What a run of the whole program comes to, by what the source told before and after.
use Rattle.std.specs.Prelude.{◌≡◌, ℕ, ◌-◌, ◌≤◌, List, [], length, take, None, Some, IsSome, ◌⊎◌, Bool, true, false}
use Rattle.std.specs.declared.option.Option.{Option}
use Rattle.pp_io.specs.Streams.{Rose, after_held, IsEmptied}
use Rattle.prepack_core.specs.Flow.{IsAppended}
use Rattle.js_value.specs.declared.place.Place.{Place}
use Rattle.js_value.specs.declared.why.Why.{Why}
use Rattle.prepack_core.specs.Promises.{IsResidualOf, IsFinished, IsStuck, IsReason}
use Rattle.prepack_core.specs.Report.{line_of, status_of}
use Rattle.prepack_core.specs.declared.words.Command.{Command}
use Rattle.prepack_core.specs.declared.words.Command.TheVariants.{Eval}
use Rattle.prepack_core.specs.declared.report.Status.{Status}
use Rattle.prepack_core.specs.declared.report.Status.TheVariants as status
use Rattle.prepack_core.specs.declared.report.Report.{Report}
use Rattle.prepack_core.specs.declared.report.Report.TheVariants as report

-- the bytes that a source gave between two moments, where it tells them
abbrev pub bytes_given : Option (List ℕ) → Option (List ℕ) → List ℕ
bytes_given None new = []
bytes_given (Some old) None = []
bytes_given (Some old) (Some new) = take (length old - length new) old

-- the text is what the command asks for
abbrev pub IsTextOf : Option Command → List ℕ → List ℕ → Type 0
IsTextOf None source text = ⊥
IsTextOf (Some (Eval n)) source text = IsResidualOf n source text

-- the source is one that the command can answer with a text
abbrev pub IsAnswered : Option Command → List ℕ → Type 0
IsAnswered None source = ⊥
IsAnswered (Some (Eval n)) source = IsFinished n source

-- the source leaves the profile at a place under the command
abbrev pub IsStopped : Option Command → Place → Why → List ℕ → Type 0
IsStopped None at why source = ⊥
IsStopped (Some (Eval n)) at why source = IsStuck n source at why []

-- The whole source was read, at most so many bytes, and this holds of them where it told them.
pub record IsRead (old new : Option (List ℕ)) (P : List ℕ → Type 0) : Type 0 where
  pub whole : IsEmptied new
  pub short : length (bytes_given old new) ≤ 1048576
  pub holds : IsSome old → P (bytes_given old new)

-- why the evaluation of a source, by what is left of it and by its faults, before and now, writes nothing
abbrev pub HasReason : ℕ → Option (List ℕ) → Option (List ℕ) → ℕ → ℕ → Report → Type 0
HasReason n left left_now faults faults_now report.TooLarge = IsSome left → length (bytes_given left left_now) ≡ 1048577
HasReason n left left_now faults faults_now report.ReadFault = (length (bytes_given left left_now) ≤ 1048576) × Rose faults faults_now
HasReason n left left_now faults faults_now report.NoMemory = Unit {0}
HasReason n left left_now faults faults_now (report.Syntax at) = IsRead left left_now (λ source. IsReason n source (report.Syntax at))
HasReason n left left_now faults faults_now (report.Nested at) = IsRead left left_now (λ source. IsReason n source (report.Nested at))
HasReason n left left_now faults faults_now (report.Unsupported at feature) = IsRead left left_now (λ source. IsReason n source (report.Unsupported at feature))
HasReason n left left_now faults faults_now (report.Stuck at why) = IsRead left left_now (λ source. IsReason n source (report.Stuck at why))
HasReason n left left_now faults faults_now report.Usage = ⊥
HasReason n left left_now faults faults_now report.WriteFault = ⊥

-- why a run writes nothing: the words ask for nothing, or what the command comes to
abbrev pub IsRefusal : Option Command → Option (List ℕ) → Option (List ℕ) → ℕ → ℕ → Report → Type 0
IsRefusal None left left_now faults faults_now r = r ≡ report.Usage
IsRefusal (Some (Eval n)) left left_now faults faults_now r = HasReason n left left_now faults faults_now r

-- the statuses under which the whole source was read
abbrev pub reads_whole : Status → Bool
reads_whole status.Done = true
reads_whole status.Differs = true
reads_whole status.Usage = false
reads_whole status.Syntax = true
reads_whole status.Unsupported = true
reads_whole status.Stuck = true
reads_whole status.StepsSpent = true
reads_whole status.TooLarge = false
reads_whole status.ReadFault = false
reads_whole status.WriteFault = true
reads_whole status.HostFault = true
reads_whole status.NoMemory = false
reads_whole status.Nested = true

-- the statuses under which something may be written
abbrev pub writes : Status → Bool
writes status.Done = true
writes status.WriteFault = true
writes _ = false

-- What went to the first sink: a whole text, or a front of one where a write failed, or nothing. No command compares texts, so none
-- ends with a difference.
abbrev pub IsDelivered : Option Command → Option (List ℕ) → Option (List ℕ) → Status → Option (List ℕ) → Option (List ℕ) → Type 0
IsDelivered c left left_now status.Done held held_now = (text : List ℕ) × IsRead left left_now (λ source. IsTextOf c source text) × (held_now ≡ after_held held text)
IsDelivered c left left_now status.Differs held held_now = ⊥
IsDelivered c left left_now status.WriteFault held held_now = (text : List ℕ) × (k : ℕ) × IsRead left left_now (λ source. IsTextOf c source text) × (held_now ≡ after_held held (take k text))
IsDelivered c left left_now _ held held_now = held_now ≡ held

-- the report of a status says why
abbrev pub IsReport : Option Command → Option (List ℕ) → Option (List ℕ) → ℕ → ℕ → Status → Report → Type 0
IsReport c left left_now faults faults_now status.WriteFault r = r ≡ report.WriteFault
IsReport c left left_now faults faults_now s r = (status_of r ≡ s) × IsRefusal c left left_now faults faults_now r

-- What went to the second sink: nothing where all is well, else the line of the status, the whole of it where no write there failed.
abbrev pub IsTold : Option Command → Option (List ℕ) → Option (List ℕ) → ℕ → ℕ → Status → Option (List ℕ) → Option (List ℕ) → ℕ → ℕ → Type 0
IsTold c left left_now faults faults_now status.Done held held_now write_faults write_faults_now = held_now ≡ held
IsTold c left left_now faults faults_now status.Differs held held_now write_faults write_faults_now = ⊥
IsTold c left left_now faults faults_now s held held_now write_faults write_faults_now =
    (r : Report) × IsReport c left left_now faults faults_now s r × IsAppended held held_now write_faults write_faults_now (line_of r)

-- Where the source tells bytes of which this holds, at most the limit, and its count of faults doesn't rise, the answer is this status, or
-- there was no memory.
abbrev pub Expects : (List ℕ → Type 0) → Status → Option (List ℕ) → ℕ → ℕ → Status → Type 0
Expects P answer left faults faults_now s =
    (source : List ℕ) → left ≡ Some source → length source ≤ 1048576 → P source → (Rose faults faults_now → ⊥) → (s ≡ answer) ⊎ (s ≡ status.NoMemory)
