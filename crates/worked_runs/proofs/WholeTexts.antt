-- The text of a heap that a run leaves, by the free names of the script's functions and the lines of code that it shows.
use Rattle.std.proofs.Common.{◌≡◌, List, ℕ, [], ◌∷◌, ◌++◌, ap, refl, ◌∙◌, None, Some, map}
use Rattle.std.specs.Prelude.{codes, slice_get, unwrap_or}
use Rattle.std.specs.Fmt.{decimal, digits}
use Rattle.std.specs.List.{flat_map}
use Rattle.std.specs.Option.{option_and_then}
use Rattle.js_value.specs.Conversions.{is_same_value, to_text}
use Rattle.js_value.specs.Texts.{quoted_unit}
use Rattle.js_value.specs.declared.place.FuncNo.{FuncNo}
use Rattle.js_tree.specs.Mentions.{Names, Inside}
use Rattle.js_tree.specs.Trees.{no, func, script}
use Rattle.js_tree.specs.declared.statement.Func.{Func}
use Rattle.js_tree.specs.declared.statement.Script.{Script}
use Rattle.plain_heap.specs.Heap.{Heap, resolve}
use Rattle.js_machine.specs.Machine.Codes.{code}
use Rattle.js_machine.specs.Machine.Listed.{Row, NewRow, FunctionObject, free_in, queue_of, listing_by}
use Rattle.js_machine.specs.Machine.Realm.{realm, realm_names, realm_name}
use Rattle.js_machine.specs.Machine.RunText.{cells_text, code_line, fixed_text, line, listed_text, outcome_text, property_text, row_text, run_text, strict_text}
use Rattle.js_machine.specs.Machine.Walks.{Ended, Normally}
use Rattle.worked_runs.specs.WorkedRuns.{counter_script, makers_script, inherited_setter_script, throwing_setter_script, counter_text, makers_text, inherited_setter_text, throwing_setter_text}
use Rattle.worked_runs.proofs.Codes.{throw_line, hits_line, make_line, inc_line, read_line, maker_line, make_code, inc_code, get_code, maker_code, made_code, inherited_code, throwing_code}
use Rattle.worked_runs.proofs.FreeNames.{names_by, counter_insides, makers_insides, inherited_insides, throwing_insides, counter_names, makers_names, inherited_names, throwing_names}
use Rattle.worked_runs.proofs.WorkedHeapStates.{after_counter, after_makers, after_inherited_setter, after_throwing_setter}

-- the code of each function, by the free names that it has captured
abbrev CodeOf : Type 0
CodeOf = FuncNo → Names → Script

-- In the place of its code a function has its number, as a place,
abbrev marked : CodeOf
marked f names = script [] (func f.0 None [] [] ∷ [])

-- and shows the line with that number.
abbrev line_in : List (List ℕ) → Script → List ℕ
line_in lines mark = unwrap_or (option_and_then (λ (f : Func). slice_get lines f.at.0) (slice_get mark.funcs 0)) []

abbrev row_with : List (List ℕ) → Row → List ℕ
row_with lines (NewRow n (FunctionObject mark strict cells) prototype fixed properties) =
    line (codes "#" ++ decimal n ++ codes " " ++ codes "function" ++ codes " " ++ listed_text prototype ++ strict_text strict ++ fixed_text fixed)
    ++ (line (codes "  code " ++ line_in lines mark) ++ cells_text cells)
    ++ flat_map property_text properties
row_with lines row = row_text row

-- A heap, what the insides of the functions mention, and the functions with the names that are bound where the heap has them.
module _ (h : Heap) (insides : List Inside) (shown : List (FuncNo × Names)) where
  abbrev rows : CodeOf → List Row
  rows code_of = listing_by code_of (names_by insides) h Normally

  abbrev text : CodeOf → List ℕ
  text code_of = run_text [] (queue_of (names_by insides) h Normally) Normally (rows code_of)

  abbrev text_with : List (List ℕ) → List ℕ
  text_with lines = line (codes "normal") ++ flat_map (row_with lines) (rows marked)

  abbrev lines_of : CodeOf → List (List ℕ)
  lines_of code_of = map (λ (f : FuncNo × Names). code_line (code_of f.0 f.1)) shown

  -- no other line is shown
  abbrev ShowsThese : Type 0
  ShowsThese = (code_of : CodeOf) → text code_of ≡ text_with (lines_of code_of)

  text_is : (functions : List Func) (lines : List (List ℕ)) (t : List ℕ) → free_in functions ≡ names_by insides → ShowsThese → lines_of (code functions) ≡ lines → text_with lines ≡ t
      → outcome_text functions (Ended [] Normally h) ≡ Some t
  text_is functions lines t names shows code_is is =
      ap Some (ap (λ free. run_text [] (queue_of free h Normally) Normally (listing_by (code functions) free h Normally)) names
      ∙ shows (code functions)
      ∙ ap text_with code_is
      ∙ is)

abbrev one_shown : List (FuncNo × Names)
one_shown = (no 0, []) ∷ []

throwing_shows : ShowsThese after_throwing_setter throwing_insides one_shown
unfolding digits is_same_value to_text quoted_unit resolve queue_of listing_by realm realm_names realm_name run_text
throwing_shows code_of = refl

throwing_listed : text_with after_throwing_setter throwing_insides one_shown (throw_line ∷ []) ≡ throwing_setter_text
unfolding digits is_same_value to_text quoted_unit resolve queue_of listing_by realm realm_names realm_name
throwing_listed = refl

pub throwing_setter_whole : outcome_text throwing_setter_script.funcs (Ended [] Normally after_throwing_setter) ≡ Some throwing_setter_text
throwing_setter_whole =
    text_is after_throwing_setter throwing_insides one_shown throwing_setter_script.funcs (throw_line ∷ []) throwing_setter_text throwing_names throwing_shows
    (ap (λ line. line ∷ []) throwing_code) throwing_listed

inherited_shows : ShowsThese after_inherited_setter inherited_insides one_shown
unfolding digits is_same_value to_text quoted_unit resolve queue_of listing_by realm realm_names realm_name run_text
inherited_shows code_of = refl

inherited_listed : text_with after_inherited_setter inherited_insides one_shown (hits_line ∷ []) ≡ inherited_setter_text
unfolding digits is_same_value to_text quoted_unit resolve queue_of listing_by realm realm_names realm_name
inherited_listed = refl

pub inherited_setter_whole : outcome_text inherited_setter_script.funcs (Ended [] Normally after_inherited_setter) ≡ Some inherited_setter_text
inherited_setter_whole =
    text_is after_inherited_setter inherited_insides one_shown inherited_setter_script.funcs (hits_line ∷ []) inherited_setter_text inherited_names inherited_shows
    (ap (λ line. line ∷ []) inherited_code) inherited_listed

abbrev makers_shown : List (FuncNo × Names)
makers_shown = (no 0, []) ∷ (no 1, codes "n" ∷ []) ∷ []

makers_show : ShowsThese after_makers makers_insides makers_shown
unfolding digits is_same_value to_text quoted_unit resolve queue_of listing_by realm realm_names realm_name run_text
makers_show code_of = refl

abbrev makers_lines : List (List ℕ)
makers_lines = maker_line ∷ read_line ∷ []

makers_listed : text_with after_makers makers_insides makers_shown makers_lines ≡ makers_text
unfolding digits is_same_value to_text quoted_unit resolve queue_of listing_by realm realm_names realm_name
makers_listed = refl

pub makers_whole : outcome_text makers_script.funcs (Ended [] Normally after_makers) ≡ Some makers_text
makers_whole =
    text_is after_makers makers_insides makers_shown makers_script.funcs makers_lines makers_text makers_names makers_show
    (ap (λ line. line ∷ code_line (code makers_script.funcs (no 1) (codes "n" ∷ [])) ∷ []) maker_code ∙ ap (λ line. maker_line ∷ line ∷ []) made_code) makers_listed

abbrev counter_shown : List (FuncNo × Names)
counter_shown = (no 0, []) ∷ (no 1, codes "n" ∷ []) ∷ (no 2, codes "n" ∷ []) ∷ []

counter_shows : ShowsThese after_counter counter_insides counter_shown
unfolding digits is_same_value to_text quoted_unit resolve queue_of listing_by realm realm_names realm_name run_text
counter_shows code_of = refl

abbrev counter_lines : List (List ℕ)
counter_lines = make_line ∷ inc_line ∷ read_line ∷ []

counter_listed : text_with after_counter counter_insides counter_shown counter_lines ≡ counter_text
unfolding digits is_same_value to_text quoted_unit resolve queue_of listing_by realm realm_names realm_name
counter_listed = refl

pub counter_whole : outcome_text counter_script.funcs (Ended [] Normally after_counter) ≡ Some counter_text
counter_whole =
    text_is after_counter counter_insides counter_shown counter_script.funcs counter_lines counter_text counter_names counter_shows
    (ap (λ line. line ∷ code_line (code counter_script.funcs (no 1) (codes "n" ∷ [])) ∷ code_line (code counter_script.funcs (no 2) (codes "n" ∷ [])) ∷ []) make_code
    ∙ ap (λ line. make_line ∷ line ∷ code_line (code counter_script.funcs (no 2) (codes "n" ∷ [])) ∷ []) inc_code
    ∙ ap (λ line. make_line ∷ inc_line ∷ line ∷ []) get_code)
    counter_listed
