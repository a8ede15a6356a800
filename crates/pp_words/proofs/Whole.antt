-- The whole walk.
use Rattle.std.proofs.Common.{◌≡◌, ℕ, Bool, true, false, List, [], ◌∷◌, ◌++◌, Option, None, Some, codes, refl, ap, sym, ◌∙◌, subst, is_some, ◌||◌, ◌≢◌, slice_get, append_assoc, append-nil, cond}
use Rattle.std.specs.List.{fold}
use Rattle.std.specs.Str.{bytes_eq, chars}
use Rattle.clap.specs.Lexer.{long_of, short_of}
use Rattle.clap.specs.Kinds.{Kinds, or_else}
use Rattle.clap.specs.Walk.{Text, Walk, Waiting, Row, idle, positional, option, walked, settled_rows, used, nothing_held, with_default, has_row}
use Rattle.clap.specs.Faults.{turn_fault, settle_fault, walk_fault, defaults_fault, level_fault, entered_fault, fault_of}
use Rattle.clap.specs.Simple.{entered, built, matches_of}
use Rattle.pp_words.specs.Line.{line, Kind, plain, dashes, alone, with, other, kind_of, kind_of_flag, kind_of_value, form, leads, Shows}
use Rattle.pp_words.proofs.Rows.{same_id, other_id}
use Rattle.pp_words.proofs.Steps.{top, at, settles, steps_built, words_built, IsFree, at_idle, at_positional, wanting, dashes_walked, dashes_fault, with_fault, with_walked, alone_fault, alone_walked, long_fault, short_fault, plain_fault, plain_walked, trailing_fault, trailing_walked, given_walked, given_fault, wanting_dashes, wanting_long}

-- what a word is, with the reason
data View (word : Text) : Kind → Type 0 where
  is_dashes : bytes_eq word (codes "--") ≡ true → View word dashes
  is_with : (name v : Text) → bytes_eq word (codes "--") ≡ false → long_of word ≡ Some (name, Some v) → bytes_eq (codes "steps") name ≡ true → View word (with v)
  is_alone : (name : Text) → bytes_eq word (codes "--") ≡ false → long_of word ≡ Some (name, None) → bytes_eq (codes "steps") name ≡ true → View word alone
  is_long : (name : Text) (v : Option Text) → bytes_eq word (codes "--") ≡ false → long_of word ≡ Some (name, v) → bytes_eq (codes "steps") name ≡ false → View word other
  is_short : (flags : Text) → bytes_eq word (codes "--") ≡ false → long_of word ≡ None → short_of word ≡ Some flags → View word other
  is_plain : bytes_eq word (codes "--") ≡ false → long_of word ≡ None → short_of word ≡ None → View word plain

view : (word : Text) → View word (kind_of word)
view word = elim (bytes_eq word (codes "--")) as (λ b. bytes_eq word (codes "--") ≡ b → View word (kind_of word)) [
  | true ↦ λ e. rw e (is_dashes e)
  | false ↦ λ e. rw e (elim (long_of word) as (λ o. long_of word ≡ o → View word (kind_of_flag o word)) [
    | None ↦ λ l. elim (short_of word) as (λ o. short_of word ≡ o → View word (kind_of_flag None word)) [ None ↦ λ n. rw n (is_plain e l n) | Some flags ↦ λ n. rw n (is_short flags e l n) ] refl
    | Some p ↦ λ l. elim (bytes_eq (codes "steps") p.0) as (λ b. bytes_eq (codes "steps") p.0 ≡ b → View word (kind_of_flag (Some p) word)) [
      | false ↦ λ n. rw n (is_long p.0 p.1 e l n)
      | true ↦ λ n. rw n (elim p.1 as (λ o. p.1 ≡ o → View word (kind_of_value o)) [
        | None ↦ λ m. is_alone p.0 e (l ∙ ap (λ (o : Option Text). Some (p.0, o)) m) n
        | Some v ↦ λ m. is_with p.0 v e (l ∙ ap (λ (o : Option Text). Some (p.0, o)) m) n
      ] refl)
    ] refl
  ] refl)
] refl

-- the kinds of error of the words, and of what waits at their end
abbrev pub total : Walk → List Text → Kinds
total w [] = settle_fault top.rules false w.held
total w (word ∷ rest) = or_else (turn_fault top [] w word) (total (walked top.rules [] w word) rest)

-- the rows in the end
abbrev pub last_rows : Walk → List Text → List Row
last_rows w [] = settled_rows top.rules w.held.pending w.held.rows
last_rows w (word ∷ rest) = last_rows (walked top.rules [] w word) rest

step_shown : (rows : List Row) (ss ws : List Text) (v : Text) → Shows rows ss ws → Shows (used steps_built (v ∷ []) rows) (ss ++ v ∷ []) ws
step_shown rows ss ws v h = record {
  steps = same_id (codes "steps") _ _ v rows refl ∙ ap (λ xs. xs ++ v ∷ []) h.steps;
  words = other_id (codes "steps") (codes "words") _ _ v rows refl ∙ h.words;
}

word_shown : (rows : List Row) (ss ws : List Text) (v : Text) → Shows rows ss ws → Shows (used words_built (v ∷ []) rows) ss (ws ++ v ∷ [])
word_shown rows ss ws v h = record {
  steps = other_id (codes "words") (codes "steps") _ _ v rows refl ∙ h.steps;
  words = same_id (codes "words") _ _ v rows refl ∙ ap (λ xs. xs ++ v ∷ []) h.words;
}

-- the error kinds and the rows are those of the form
abbrev pub Agrees : Kinds → List Row → Option (List Text × List Text) → Type 0
Agrees k rows None = k ≢ []
Agrees k rows (Some q) = (k ≡ []) × Shows rows q.0 q.1

-- a flag word has a first character
abbrev pub IsSpelled : Text → Type 0
IsSpelled word = (flags : Text) → short_of word ≡ Some flags → (x : ℕ) × (xs : Text) × (d : ℕ) × (flags ≡ x ∷ xs) × (slice_get (chars (x ∷ xs)) 0 ≡ Some d)

abbrev pub AllSpelled : List Text → Type 0
AllSpelled [] = Unit {0}
AllSpelled (word ∷ rest) = IsSpelled word × AllSpelled rest

fault_first : (a b : Kinds) → a ≢ [] → or_else a b ≢ []
fault_first [] b h = λ e. h refl
fault_first (k ∷ ks) b h = λ e. cc

fault_next : (a b : Kinds) → a ≡ [] → or_else a b ≡ b
fault_next a b e = rw e refl

trailing_run : (words : List Text) (r : List Row) (p : Option (Text × List Text)) (wt : Waiting) (ss ws : List Text) → settles r p ≡ [] → Shows (settled_rows top.rules p r) ss ws → (total (at r p wt true) words ≡ []) × Shows (last_rows (at r p wt true) words) ss (ws ++ words)
trailing_run [] r p wt ss ws s h = (s, rw append-nil h)
trailing_run (word ∷ rest) r p wt ss ws s h =
    let e = trailing_walked r p wt word in
    let f = trailing_fault r p wt word ∙ s in
    let next = trailing_run rest (settled_rows top.rules p r) (Some (codes "words", word ∷ [])) positional ss (ws ++ word ∷ []) refl (word_shown (settled_rows top.rules p r) ss ws word h) in
    (fault_next _ _ f ∙ (ap (λ (w : Walk). total w rest) e ∙ next.0), subst (λ (w : Walk). Shows (last_rows w rest) ss (ws ++ word ∷ rest)) (sym e) (rw append_assoc at next.1))

wanting_no_fault : (r : List Row) (word : Text) → bytes_eq word (codes "--") ≡ true → turn_fault top [] (wanting r false) word ≡ []
wanting_no_fault r word e = rw e refl

wanting_trailing : (words : List Text) (r : List Row) → total (wanting r true) words ≢ []
wanting_trailing [] r = λ e. cc
wanting_trailing (word ∷ rest) r =
    let f : turn_fault top [] (wanting r true) word ≢ [] = rw (trailing_fault r (Some (codes "steps", [])) (option (codes "steps")) word) (λ e. cc) in
    fault_first (turn_fault top [] (wanting r true) word) (total (walked top.rules [] (wanting r true) word) rest) f

-- one more word that has no fault
agrees_next : (w next : Walk) (word : Text) (rest : List Text) (q : Option (List Text × List Text)) → turn_fault top [] w word ≡ [] → walked top.rules [] w word ≡ next → Agrees (total next rest) (last_rows next rest) q → Agrees (total w (word ∷ rest)) (last_rows w (word ∷ rest)) q
agrees_next w next word rest q f e h =
    let k : total w (word ∷ rest) ≡ total next rest = fault_next _ _ f ∙ ap (λ (x : Walk). total x rest) e in
    let l : last_rows w (word ∷ rest) ≡ last_rows next rest = ap (λ (x : Walk). last_rows x rest) e in
    subst (λ (x : Kinds). Agrees x (last_rows w (word ∷ rest)) q) (sym k) (subst (λ (x : List Row). Agrees (total next rest) x q) (sym l) h)

first_char : (word flags : Text) (r : List Row) (p : Option (Text × List Text)) (wt : Waiting) → IsSpelled word → bytes_eq word (codes "--") ≡ false → long_of word ≡ None → short_of word ≡ Some flags → turn_fault top [] (at r p wt false) word ≢ []
first_char word flags r p wt spelled e l n =
    let c = spelled flags n in
    short_fault r p wt word c.1 c.0 c.2 e l (n ∙ ap (λ (t : Text). Some t) c.3) c.4

-- where a value is wanted, and where none is: the words that are left agree with the form of them
abbrev Runs : Bool → List Text → Type 0
Runs true words = (r : List Row) (ss ws : List Text) → Shows r ss ws → Agrees (total (wanting r false) words) (last_rows (wanting r false) words) (form true ss ws words)
Runs false words = (r : List Row) (p : Option (Text × List Text)) (wt : Waiting) (ss ws : List Text) → IsFree wt → settles r p ≡ [] → Shows (settled_rows top.rules p r) ss ws → Agrees (total (at r p wt false) words) (last_rows (at r p wt false) words) (form false ss ws words)

free_turn : (word : Text) (rest : List Text) (k : Kind) → View word k → IsSpelled word → Runs true rest → Runs false rest
    → (r : List Row) (p : Option (Text × List Text)) (wt : Waiting) (ss ws : List Text) → IsFree wt → settles r p ≡ [] → Shows (settled_rows top.rules p r) ss ws
    → Agrees (total (at r p wt false) (word ∷ rest)) (last_rows (at r p wt false) (word ∷ rest))
    (leads false k (form false (ss ++ word ∷ []) ws rest) (form false ss (ws ++ word ∷ []) rest) (Some (ss, ws ++ rest)) (form true ss ws rest) (λ v. form false (ss ++ v ∷ []) ws rest) None)
free_turn word rest _ (is_dashes e) spelled wants free r p wt ss ws i s h =
    agrees_next _ _ word rest (Some (ss, ws ++ rest)) (dashes_fault r p wt word i e) (dashes_walked r p wt word i e) (trailing_run rest r p wt ss ws s h)
free_turn word rest _ (is_with name v e l n) spelled wants free r p wt ss ws i s h =
    agrees_next _ _ word rest _ (with_fault r p wt word name v i e l n s) (with_walked r p wt word name v i e l n)
    (free (used steps_built (v ∷ []) (settled_rows top.rules p r)) None idle (ss ++ v ∷ []) ws at_idle refl (step_shown _ ss ws v h))
free_turn word rest _ (is_alone name e l n) spelled wants free r p wt ss ws i s h =
    agrees_next _ _ word rest _ (alone_fault r p wt word name i e l n s) (alone_walked r p wt word name i e l n)
    (wants (settled_rows top.rules p r) ss ws h)
free_turn word rest _ (is_long name v e l n) spelled wants free r p wt ss ws i s h = fault_first _ _ (long_fault r p wt word name v e l n)
free_turn word rest _ (is_short flags e l n) spelled wants free r p wt ss ws i s h = fault_first _ _ (first_char word flags r p wt spelled e l n)
free_turn word rest _ (is_plain e l n) spelled wants free r p wt ss ws i s h =
    agrees_next _ _ word rest _ (plain_fault r p wt word i e l n s) (plain_walked r p wt word i e l n)
    (free (settled_rows top.rules p r) (Some (codes "words", word ∷ [])) positional ss (ws ++ word ∷ []) at_positional refl (word_shown _ ss ws word h))

want_turn : (word : Text) (rest : List Text) (k : Kind) → View word k → IsSpelled word → Runs false rest
    → (r : List Row) (ss ws : List Text) → Shows r ss ws
    → Agrees (total (wanting r false) (word ∷ rest)) (last_rows (wanting r false) (word ∷ rest))
    (leads true k (form false (ss ++ word ∷ []) ws rest) (form false ss (ws ++ word ∷ []) rest) (Some (ss, ws ++ rest)) (form true ss ws rest) (λ v. form false (ss ++ v ∷ []) ws rest) None)
want_turn word rest _ (is_dashes e) spelled free r ss ws h =
    let k : total (wanting r false) (word ∷ rest) ≡ total (wanting r true) rest = fault_next _ _ (wanting_no_fault r word e) ∙ ap (λ (x : Walk). total x rest) (wanting_dashes r word e) in
    rw k (wanting_trailing rest r)
want_turn word rest _ (is_with name v e l n) spelled free r ss ws h = fault_first _ _ (wanting_long r word name (Some v) e l)
want_turn word rest _ (is_alone name e l n) spelled free r ss ws h = fault_first _ _ (wanting_long r word name None e l)
want_turn word rest _ (is_long name v e l n) spelled free r ss ws h = fault_first _ _ (wanting_long r word name v e l)
want_turn word rest _ (is_short flags e l n) spelled free r ss ws h = fault_first _ _ (first_char word flags r (Some (codes "steps", [])) (option (codes "steps")) spelled e l n)
want_turn word rest _ (is_plain e l n) spelled free r ss ws h =
    agrees_next _ _ word rest _ (given_fault r word e l n) (given_walked r word e l n)
    (free r (Some (codes "steps", word ∷ [])) idle (ss ++ word ∷ []) ws at_idle refl (step_shown r ss ws word h))

runs : (words : List Text) → AllSpelled words → Runs true words × Runs false words
runs [] spelled = (λ r ss ws h. (λ e. cc), λ r p wt ss ws i s h. (s, h))
runs (word ∷ rest) spelled =
    let next = runs rest spelled.1 in (
      λ r ss ws h. want_turn word rest (kind_of word) (view word) spelled.0 next.1 r ss ws h,
      λ r p wt ss ws i s h. free_turn word rest (kind_of word) (view word) spelled.0 next.0 next.1 r p wt ss ws i s h,
    )

or_else_assoc : (a b c : Kinds) → or_else (or_else a b) c ≡ or_else a (or_else b c)
or_else_assoc [] b c = refl
or_else_assoc (k ∷ ks) b c = refl

or_else_nil : (a : Kinds) → or_else a [] ≡ a
or_else_nil [] = refl
or_else_nil (k ∷ ks) = refl

or_true : (b : Bool) → (b || true) ≡ true
or_true true = refl
or_true false = refl

cond_same : {X : Type 0} (b : Bool) (x : X) → cond b x x ≡ x
cond_same true x = refl
cond_same false x = refl

total_is : (words : List Text) (w : Walk) → or_else (walk_fault top [] w words) (settle_fault top.rules false (fold (walked top.rules []) w words).held) ≡ total w words
unfolding walk_fault
total_is [] w = refl
total_is (word ∷ rest) w = or_else_assoc (turn_fault top [] w word) _ _ ∙ ap (or_else (turn_fault top [] w word)) (total_is rest (walked top.rules [] w word))

last_is : (words : List Text) (w : Walk) → settled_rows top.rules (fold (walked top.rules []) w words).held.pending (fold (walked top.rules []) w words).held.rows ≡ last_rows w words
last_is [] w = refl
last_is (word ∷ rest) w = last_is rest (walked top.rules [] w word)

no_defaults : (rows : List Row) → defaults_fault rows top.rules ≡ []
unfolding defaults_fault
no_defaults rows = rw (or_true, or_true) refl

abbrev start : Walk
start = at [] None idle false

flat : (words : List Text) → level_fault top [] nothing_held words false [] ≡ total start words
flat words =
    let end = (fold (walked top.rules []) start words).held in
    let settle = settle_fault top.rules false end in
    ap (or_else (walk_fault top [] start words)) (ap (or_else settle) (ap (λ (k : Kinds). or_else k []) (no_defaults (settled_rows top.rules end.pending end.rows))) ∙ or_else_nil settle) ∙ total_is words start

steps_default : (rows : List Row) → with_default rows steps_built ≡ rows
steps_default rows = cond_same (has_row (codes "steps") rows) rows

words_default : (rows : List Row) → with_default rows words_built ≡ rows
words_default rows = cond_same (has_row (codes "words") rows) rows

level : (words : List Text) (stop : Option (Text × List Text)) → level_fault top [] nothing_held words (is_some (entered (built line) stop)) (entered_fault (built line) stop) ≡ total start words
level words None = flat words
level words (Some p) = flat words

rows_are : (words : List Text) → matches_of line words ≡ last_rows start words
rows_are words =
    let end = (fold (walked top.rules []) start words).held in
    let rows = settled_rows top.rules end.pending end.rows in
    words_default (with_default rows steps_built) ∙ (steps_default rows ∙ last_is words start)

-- the whole parse agrees with the form of the words
pub whole : (words : List Text) → AllSpelled words → Agrees (fault_of line words) (matches_of line words) (form false [] [] words)
whole words spelled =
    let k : fault_of line words ≡ total start words = level words _ in
    rw (k, rows_are words) ((runs words spelled).1 [] None idle [] [] at_idle refl (record { steps = refl; words = refl }))
