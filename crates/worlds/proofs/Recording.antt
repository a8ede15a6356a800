-- What a recorder keeps is what a run tells.
use Rattle.std.proofs.lemmas.List.{length-map, map_push}
use Rattle.std.proofs.lemmas.Option.{slice_get-map}
use Rattle.std.specs.Prelude.{false, true}
use Rattle.host_box.specs.Recorders.{event}
use Rattle.worlds.specs.Laws.{GivesAnswers, RecordsCalls}
use Rattle.worlds.specs.Meaning.{answer_of, event_of}

pub records_calls : RecordsCalls
records_calls = record {
  given = λ calls name args kind v. map_push event_of calls (event name args kind v false);
  thrown = λ calls name args kind v. map_push event_of calls (event name args kind v true);
  count = λ calls. length-map calls event_of;
}

pub gives_answers : GivesAnswers
gives_answers = record { at = λ inputs answers n. slice_get-map answer_of answers n }
