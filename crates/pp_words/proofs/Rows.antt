-- What one more value does to the rows.
use Rattle.std.proofs.Common.{◌≡◌, true, false, List, [], ◌∷◌, ◌++◌, Option, refl, ap, ◌∙◌, unwrap_or}
use Rattle.std.specs.Str.{bytes_eq}
use Rattle.std.proofs.lemmas.Slice.Eq.{bytes_eq-Decides}
use Rattle.clap.specs.Walk.{Row, Text, with_values}
use Rattle.std.specs.Option.{option_map}
use Rattle.clap.specs.Matches.{raw_values, matched_of}
use Rattle.clap.specs.Walk.{rows_of}
use Rattle.clap.specs.declared.parser.matches.Found.{Found}
use Rattle.clap.proofs.WalkLemmas.{raw_values-rows}
use Rattle.pp_words.specs.Line.{values_at}
use Rattle.clap.specs.declared.builder.value_parser.Reading.{Reading}
use Rattle.clap.specs.declared.parser.matches.ValueSource.{ValueSource}

pub same_id : (id : Text) (how : Reading) (source : ValueSource) (v : Text) (rows : List Row) → bytes_eq id id ≡ true → values_at id (with_values id how source (v ∷ []) rows) ≡ values_at id rows ++ v ∷ []
same_id id how source v [] e = rw e refl
same_id id how source v (r ∷ rs) e =
    elim (bytes_eq r.id id) as (λ b. bytes_eq r.id id ≡ b → values_at id (with_values id how source (v ∷ []) (r ∷ rs)) ≡ values_at id (r ∷ rs) ++ v ∷ []) [
      | true ↦ λ k. rw (k, k) refl
      | false ↦ λ k. rw (k, k) (same_id id how source v rs e)
    ] refl

pub other_id : (id other : Text) (how : Reading) (source : ValueSource) (v : Text) (rows : List Row) → bytes_eq id other ≡ false → values_at other (with_values id how source (v ∷ []) rows) ≡ values_at other rows
other_id id other how source v [] e = rw e refl
other_id id other how source v (r ∷ rs) e =
    elim (bytes_eq r.id id) as (λ b. bytes_eq r.id id ≡ b → values_at other (with_values id how source (v ∷ []) (r ∷ rs)) ≡ values_at other (r ∷ rs)) [
      | true ↦ λ k. let same : r.id ≡ id = (bytes_eq-Decides r.id id).0 k in let apart : bytes_eq r.id other ≡ false = ap (λ (t : Text). bytes_eq t other) same ∙ e in rw (k, apart) refl
      | false ↦ λ k. elim (bytes_eq r.id other) as (λ b. bytes_eq r.id other ≡ b → values_at other (with_values id how source (v ∷ []) (r ∷ rs)) ≡ values_at other (r ∷ rs)) [
        | true ↦ λ m. rw (k, m) refl
        | false ↦ λ m. rw (k, m) (other_id id other how source v rs e)
      ] refl
    ] refl

-- what `get_raw` says, as values of the rows
pub shown_values : (f : Found) (id : Text) → unwrap_or (option_map raw_values (matched_of f id)) [] ≡ values_at id (rows_of f)
shown_values f id = ap (λ (o : Option (List Text)). unwrap_or o []) (raw_values-rows f id)
