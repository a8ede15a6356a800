-- Whether there is a fault doesn't depend on places, where inputs are alike.
use Rattle.std.proofs.Common.{◌≡◌, ℕ, ◌&&◌, ◌||◌, Bool, true, false, List, [], ◌∷◌, ◌++◌, map, refl, ap, sym, ◌∙◌, fold}
use Rattle.std.specs.Prelude.{if◌then◌else◌, not, nat_lt, Some, None, is_none}
use Rattle.std.specs.List.{flat_map, list_any, list_all}
use Rattle.std.specs.Str.{bytes_eq}
use Rattle.js_value.specs.declared.place.Place.{Place}
use Rattle.js_value.specs.declared.primitive.Kind.{Kind}
use Rattle.js_value.specs.contracts.primitive.KindPartialEq.TheImpl.{ghosts}
use Rattle.js_tree.specs.Early.{lesser, place_in, differs, mention_fault, mention_faults, jump_faults, early_fault}
use Rattle.js_tree.specs.Mentions as M
use Rattle.js_tree.specs.Mentions.{Mention, mentions}
use Rattle.js_tree.specs.declared.refusal.Feature.TheVariants as feature
use Rattle.js_tree.specs.declared.refusal.ReadRefused.{ReadRefused}
use Rattle.js_tree.specs.declared.refusal.ReadRefused.TheVariants.{Unsupported}
use Rattle.js_tree.specs.declared.statement.Script.{Script}
use Rattle.js_grammar.specs.Readable.{agrees, agrees_with, are_inputs_alike}
use Rattle.reading_back.specs.Unplaced as unplaced
use Rattle.early_back.proofs.Forgotten.{forget, forgotten}
use Rattle.early_back.proofs.Jumps.{forget_refusal, jump_faults_are}
use Rattle.early_back.proofs.MentionedScripts.{script_is}

pub both : (a b : Bool) → (a && b) ≡ true → (a ≡ true) × (b ≡ true)
both true b h = (refl, h)
both false b h = absurd (cc)

-- ---- the least fault

a_fault : (b : Bool) (e least : ReadRefused) (es : List ReadRefused) → ((d : ReadRefused) → is_none (fold lesser (Some d) es) ≡ false) → is_none (fold lesser (if b then Some e else Some least) es) ≡ false
a_fault true e least es h = h e
a_fault false e least es h = h least

some_stays : (e : ReadRefused) (es : List ReadRefused) → is_none (fold lesser (Some e) es) ≡ false
some_stays e [] = refl
some_stays e (d ∷ es) = a_fault (nat_lt (place_in d) (place_in e)) d e es (λ c. some_stays c es)

no_fault : (es : List ReadRefused) → is_none (fold lesser None es) ≡ true → es ≡ []
no_fault [] h = refl
no_fault (e ∷ es) h = absurd (cc (some_stays e es))

first_none : (xs ys : List ReadRefused) → xs ++ ys ≡ [] → xs ≡ []
first_none [] ys h = refl
first_none (x ∷ xs) ys h = absurd (cc)

rest_none : (xs ys : List ReadRefused) → xs ++ ys ≡ [] → ys ≡ []
rest_none [] ys h = h
rest_none (x ∷ xs) ys h = absurd (cc)

-- ---- mentions that are faults, wherever they stand

is_fault : Mention → Bool
is_fault (M.Repeats at) = true
is_fault (M.AssignsOwn at) = true
is_fault m = false

none_at_fault : (all ms : List Mention) → flat_map (mention_fault all) ms ≡ [] → list_any is_fault ms ≡ false
unfolding is_fault
none_at_fault all [] h = refl
none_at_fault all (M.Reads at name ∷ ms) h = none_at_fault all ms h
none_at_fault all (M.Assigns at name ∷ ms) h = none_at_fault all ms h
none_at_fault all (M.AssignsOwn at ∷ ms) h = absurd (cc)
none_at_fault all (M.Takes at k name ∷ ms) h =
    none_at_fault all ms (rest_none (if list_any (differs at k name) all then Unsupported at feature.AbstractType ∷ [] else []) (flat_map (mention_fault all) ms) h)
none_at_fault all (M.Repeats at ∷ ms) h = absurd (cc)

fault_same : (m : Mention) → is_fault (forget m) ≡ is_fault m
unfolding is_fault
fault_same (M.Reads at name) = refl
fault_same (M.Assigns at name) = refl
fault_same (M.AssignsOwn at) = refl
fault_same (M.Takes at k name) = refl
fault_same (M.Repeats at) = refl

faults_same : (ms : List Mention) → list_any is_fault (forgotten ms) ≡ list_any is_fault ms
faults_same [] = refl
faults_same (m ∷ ms) = ap (λ b. b || list_any is_fault (forgotten ms)) (fault_same m) ∙ ap (λ b. is_fault m || b) (faults_same ms)

-- ---- inputs

agrees_same : (k : Kind) (name : List ℕ) (m : Mention) → agrees k name (forget m) ≡ agrees k name m
agrees_same k name (M.Reads at text) = refl
agrees_same k name (M.Assigns at text) = refl
agrees_same k name (M.AssignsOwn at) = refl
agrees_same k name (M.Takes at other text) = refl
agrees_same k name (M.Repeats at) = refl

all_agree : (k : Kind) (name : List ℕ) (ms : List Mention) → list_all (agrees k name) (forgotten ms) ≡ list_all (agrees k name) ms
all_agree k name [] = refl
all_agree k name (m ∷ ms) = ap (λ b. b && list_all (agrees k name) (forgotten ms)) (agrees_same k name m) ∙ ap (λ b. agrees k name m && b) (all_agree k name ms)

agrees_with_same : (all : List Mention) (m : Mention) → agrees_with (forgotten all) (forget m) ≡ agrees_with all m
agrees_with_same all (M.Reads at text) = refl
agrees_with_same all (M.Assigns at text) = refl
agrees_with_same all (M.AssignsOwn at) = refl
agrees_with_same all (M.Takes at k name) = all_agree k name all
agrees_with_same all (M.Repeats at) = refl

inputs_same : (all ms : List Mention) → list_all (agrees_with (forgotten all)) (forgotten ms) ≡ list_all (agrees_with all) ms
inputs_same all [] = refl
inputs_same all (m ∷ ms) =
    ap (λ b. b && list_all (agrees_with (forgotten all)) (forgotten ms)) (agrees_with_same all m) ∙ ap (λ b. agrees_with all m && b) (inputs_same all ms)

pub alike_same : (s : Script) → are_inputs_alike (unplaced.script s) ≡ are_inputs_alike s
unfolding are_inputs_alike
alike_same s = ap (λ ms. list_all (agrees_with ms) ms) (script_is s) ∙ inputs_same (mentions s) (mentions s)

apart : (before same equal : Bool) → (not same || equal) ≡ true → (before && same && not equal) ≡ false
apart false same equal h = refl
apart true false equal h = refl
apart true true true h = refl
apart true true false h = absurd (cc)

none_differs : (at : Place) (k : Kind) (name : List ℕ) (ms : List Mention) → list_all (agrees k name) ms ≡ true → list_any (differs at k name) ms ≡ false
none_differs at k name [] h = refl
none_differs at k name (M.Reads before text ∷ ms) h = none_differs at k name ms h
none_differs at k name (M.Assigns before text ∷ ms) h = none_differs at k name ms h
none_differs at k name (M.AssignsOwn before ∷ ms) h = none_differs at k name ms h
none_differs at k name (M.Takes before other text ∷ ms) h =
    let p = both (not (bytes_eq name text) || ghosts.eq k other) (list_all (agrees k name) ms) h in
    ap (λ b. b || list_any (differs at k name) ms) (apart (nat_lt before.0 at.0) (bytes_eq name text) (ghosts.eq k other) p.0) ∙ none_differs at k name ms p.1
none_differs at k name (M.Repeats before ∷ ms) h = none_differs at k name ms h

no_mention_fault : (all ms : List Mention) → list_all (agrees_with all) ms ≡ true → list_any is_fault ms ≡ false → flat_map (mention_fault all) ms ≡ []
unfolding is_fault
no_mention_fault all [] h k = refl
no_mention_fault all (M.Reads at name ∷ ms) h k = no_mention_fault all ms h k
no_mention_fault all (M.Assigns at name ∷ ms) h k = no_mention_fault all ms h k
no_mention_fault all (M.AssignsOwn at ∷ ms) h k = absurd (cc)
no_mention_fault all (M.Takes at kind name ∷ ms) h k =
    let p = both (list_all (agrees kind name) all) (list_all (agrees_with all) ms) h in
    ap (λ (b : Bool). (if b then Unsupported at feature.AbstractType ∷ [] else []) ++ flat_map (mention_fault all) ms) (none_differs at kind name all p.0)
    ∙ no_mention_fault all ms p.1 k
no_mention_fault all (M.Repeats at ∷ ms) h k = absurd (cc)

-- ---- scripts

nothing_mapped : (es : List ReadRefused) → map forget_refusal es ≡ [] → es ≡ []
nothing_mapped [] h = refl
nothing_mapped (e ∷ es) h = absurd (cc)

module _ (s t : Script) (same : unplaced.script s ≡ unplaced.script t) where
  pub inputs_back : are_inputs_alike s ≡ true → are_inputs_alike t ≡ true
  inputs_back h = sym (alike_same t) ∙ ap are_inputs_alike (sym same) ∙ alike_same s ∙ h

  no_jump_fault : jump_faults s ≡ [] → jump_faults t ≡ []
  no_jump_fault h = nothing_mapped (jump_faults t) (sym (jump_faults_are t) ∙ ap jump_faults (sym same) ∙ jump_faults_are s ∙ ap (map forget_refusal) h)

  no_fault_mentioned : list_any is_fault (mentions s) ≡ false → list_any is_fault (mentions t) ≡ false
  no_fault_mentioned h =
      sym (faults_same (mentions t)) ∙ ap (list_any is_fault) (sym (script_is t) ∙ ap mentions (sym same) ∙ script_is s) ∙ faults_same (mentions s) ∙ h

  pub none_back : are_inputs_alike s ≡ true → is_none (early_fault s) ≡ true → early_fault t ≡ None
  unfolding early_fault are_inputs_alike
  none_back alike none =
      let all : jump_faults s ++ mention_faults (mentions s) ≡ [] = no_fault (jump_faults s ++ mention_faults (mentions s)) none in
      let jumps : jump_faults t ≡ [] = no_jump_fault (first_none (jump_faults s) (mention_faults (mentions s)) all) in
      let mentioned : list_any is_fault (mentions t) ≡ false =
      no_fault_mentioned (none_at_fault (mentions s) (mentions s) (rest_none (jump_faults s) (mention_faults (mentions s)) all)) in
      ap (λ es. fold lesser None (es ++ mention_faults (mentions t))) jumps
      ∙ ap (fold lesser None) (no_mention_fault (mentions t) (mentions t) (inputs_back alike) mentioned)
