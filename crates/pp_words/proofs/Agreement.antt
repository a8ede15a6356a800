-- What clap makes of the words asks for what the form of the words says.
use Rattle.std.proofs.Common.{◌≡◌, ◌&&◌, ◌==◌, ℕ, Bool, true, false, List, [], ◌∷◌, ◌++◌, Option, None, Some, refl, ap, sym, ◌∙◌, subst, append_assoc, append-nil, cond, codes}
use Rattle.std.specs.Str.{bytes_eq}
use Rattle.std.proofs.lemmas.Bool.Decides.{Decides-eqb}
use Rattle.clap.specs.Lexer.{name_and_value}
use Rattle.pp_words.specs.declared.command.Item.{Item}
use Rattle.pp_words.specs.declared.command.Command.{Command}
use Rattle.pp_words.specs.declared.command.Command.TheVariants.{Run, Check}
use Rattle.pp_words.specs.Words.{Word, ◌>>=◌, with_value, with_plain, option_given, divided, steps, more_items, items_behind, worlds_behind, named, eval, run, check, budget, asked, command}
use Rattle.pp_words.specs.Line.{Kind, plain, dashes, alone, with, other, kind_of, kind_of_value, leads, form}

abbrev Parts : Type 0
Parts = List Word × List Word

-- ---- a lone `-` is no command and no item

abbrev lone : Word
lone = 45 ∷ []

lone_item : (done : List Item) (ws r : List Word) → items_behind done (ws ++ lone ∷ r) ≡ None
lone_item done [] r = refl
lone_item done (w ∷ ws) r =
    elim (more_items done w) as (λ o. (o >>= (λ more. items_behind more (ws ++ lone ∷ r))) ≡ None) [ None ↦ refl | Some more ↦ lone_item more ws r ]

lone_world : (done : List (List Item)) (world : List Item) (ws r : List Word) → worlds_behind done world (ws ++ lone ∷ r) ≡ None
lone_world done world [] r = refl
lone_world done world (w ∷ ws) r =
    elim (bytes_eq w (codes "/"))
    as (λ b. cond b (worlds_behind (done ++ world ∷ []) [] (ws ++ lone ∷ r)) (more_items world w >>= (λ more. worlds_behind done more (ws ++ lone ∷ r))) ≡ None) [
      | true ↦ lone_world (done ++ world ∷ []) [] ws r
      | false ↦ elim (more_items world w) as (λ o. (o >>= (λ more. worlds_behind done more (ws ++ lone ∷ r))) ≡ None) [ None ↦ refl | Some more ↦ lone_world done more ws r ]
    ]

lone_eval : (n : ℕ) (ws r : List Word) → eval n (ws ++ lone ∷ r) ≡ None
lone_eval n [] r = refl
lone_eval n (w ∷ ws) r = refl

lone_run : (n : ℕ) (ws r : List Word) → run n (ws ++ lone ∷ r) ≡ None
lone_run n ws r = ap (λ (o : Option (List Item)). o >>= (λ all. Some (Run n all))) (lone_item [] ws r)

lone_check : (n : ℕ) (ws r : List Word) → check n (ws ++ lone ∷ r) ≡ None
lone_check n ws r = ap (λ (o : Option (List (List Item))). o >>= (λ all. Some (Check n all))) (lone_world [] [] ws r)

none_of : (a b c : Bool) (x y z : Option Command) → x ≡ None → y ≡ None → z ≡ None → cond a x (cond b y (cond c z None)) ≡ None
none_of true b c x y z e f g = e
none_of false true c x y z e f g = f
none_of false false true x y z e f g = g
none_of false false false x y z e f g = refl

lone_after : (n : ℕ) (name : Word) (ws r : List Word) → named n (name ∷ (ws ++ lone ∷ r)) ≡ None
lone_after n name ws r =
    none_of (bytes_eq name (codes "eval")) (bytes_eq name (codes "run")) (bytes_eq name (codes "check")) _ _ _ (lone_eval n ws r) (lone_run n ws r) (lone_check n ws r)

lone_named : (n : ℕ) (ws r : List Word) → named n (ws ++ lone ∷ r) ≡ None
lone_named n [] r = refl
lone_named n (name ∷ ws) r = lone_after n name ws r

lone_asked : (o : Option ℕ) (ws r : List Word) → (o >>= (λ n. named n (ws ++ lone ∷ r))) ≡ None
lone_asked None ws r = refl
lone_asked (Some n) ws r = lone_named n ws r

-- every way on asks for nothing
leads_none : (b : Bool) (k : Kind) (given pushed trailing waits : Option Parts) (taken : Word → Option Parts)
    → (given >>= asked) ≡ None → (pushed >>= asked) ≡ None → (trailing >>= asked) ≡ None → (waits >>= asked) ≡ None → ((v : Word) → (taken v >>= asked) ≡ None)
    → (leads b k given pushed trailing waits taken None >>= asked) ≡ None
leads_none true plain given pushed trailing waits taken g p t w v = g
leads_none true dashes given pushed trailing waits taken g p t w v = refl
leads_none true alone given pushed trailing waits taken g p t w v = refl
leads_none true (with x) given pushed trailing waits taken g p t w v = refl
leads_none true other given pushed trailing waits taken g p t w v = refl
leads_none false plain given pushed trailing waits taken g p t w v = p
leads_none false dashes given pushed trailing waits taken g p t w v = t
leads_none false alone given pushed trailing waits taken g p t w v = w
leads_none false (with x) given pushed trailing waits taken g p t w v = v x
leads_none false other given pushed trailing waits taken g p t w v = refl

lone_form : (rest : List Word) (b : Bool) (ss ws r : List Word) → (form b ss (ws ++ lone ∷ r) rest >>= asked) ≡ None
lone_form [] true ss ws r = refl
lone_form [] false ss ws r = lone_asked (steps ss) ws r
lone_form (word ∷ rest) b ss ws r =
    leads_none b (kind_of word) _ _ _ _ _ (lone_form rest false (ss ++ word ∷ []) ws r)
    (rw append_assoc (lone_form rest false ss ws (r ++ word ∷ [])))
    (rw append_assoc (lone_asked (steps ss) ws (r ++ rest)))
    (lone_form rest true ss ws r)
    (λ v. lone_form rest false (ss ++ v ∷ []) ws r)

and_false : (b : Bool) → (b && false) ≡ false
and_false true = refl
and_false false = refl

-- ---- a value that begins with `-` is no budget

dash_budget : (t : Word) → budget (45 ∷ t) ≡ None
dash_budget t = rw and_false refl

dash_steps : (ss r : List Word) (t : Word) → steps (ss ++ (45 ∷ t) ∷ r) ≡ None
dash_steps [] [] t = dash_budget t
dash_steps [] (x ∷ r) t = refl
dash_steps (s ∷ []) r t = refl
dash_steps (s ∷ (next ∷ ss)) r t = refl

abbrev behind : List Word → List Word → Parts → Option Command
behind ss ws q = asked (ss ++ q.0, ws ++ q.1)

dash_value : (o : Option Parts) (ss ws : List Word) (t : Word) → ((o >>= with_value (45 ∷ t)) >>= behind ss ws) ≡ None
dash_value None ss ws t = refl
dash_value (Some q) ss ws t = rw (dash_steps ss q.0 t) refl

-- ---- one word more

value_first : (o : Option Parts) (ss ws : List Word) (v : Word) → (o >>= behind (ss ++ v ∷ []) ws) ≡ ((o >>= with_value v) >>= behind ss ws)
value_first None ss ws v = refl
value_first (Some q) ss ws v = rw append_assoc refl

plain_first : (o : Option Parts) (ss ws : List Word) (w : Word) → (o >>= behind ss (ws ++ w ∷ [])) ≡ ((o >>= with_plain w) >>= behind ss ws)
plain_first None ss ws w = refl
plain_first (Some q) ss ws w = rw append_assoc refl

-- the words by their first two bytes
data Shape : Word → Type 0 where
  nothing : Shape []
  free : (c : ℕ) (cs : Word) → (c == 45) ≡ false → Shape (c ∷ cs)
  one_dash : Shape (45 ∷ [])
  short : (c : ℕ) (cs : Word) → (c == 45) ≡ false → Shape (45 ∷ (c ∷ cs))
  two_dashes : Shape (45 ∷ (45 ∷ []))
  long : (c : ℕ) (cs : Word) → Shape (45 ∷ (45 ∷ (c ∷ cs)))

shape_long : (cs : Word) → Shape (45 ∷ (45 ∷ cs))
shape_long [] = two_dashes
shape_long (c ∷ cs) = long c cs

shape_dash : (cs : Word) → Shape (45 ∷ cs)
shape_dash [] = one_dash
shape_dash (c ∷ cs) = elim (c == 45) as (λ b. (c == 45) ≡ b → Shape (45 ∷ (c ∷ cs))) [
  | true ↦ λ e. subst (λ (x : ℕ). Shape (45 ∷ (x ∷ cs))) (sym ((Decides-eqb c 45).0 e)) (shape_long cs)
  | false ↦ λ e. short c cs e
] refl

shape : (word : Word) → Shape word
shape [] = nothing
shape (c ∷ cs) = elim (c == 45) as (λ b. (c == 45) ≡ b → Shape (c ∷ cs)) [
  | true ↦ λ e. subst (λ (x : ℕ). Shape (x ∷ cs)) (sym ((Decides-eqb c 45).0 e)) (shape_dash cs)
  | false ↦ λ e. free c cs e
] refl

-- the rest of the words asks for the same
abbrev Agree : Bool → List Word → Type 0
Agree b rest = (ss ws : List Word) → (form b ss ws rest >>= asked) ≡ (divided b rest >>= behind ss ws)

given_next : (word : Word) (rest : List Word) → Agree false rest → (ss ws : List Word) → (form false (ss ++ word ∷ []) ws rest >>= asked) ≡ ((divided false rest >>= with_value word) >>= behind ss ws)
given_next word rest next ss ws = next (ss ++ word ∷ []) ws ∙ value_first (divided false rest) ss ws word

plain_next : (word : Word) (rest : List Word) → Agree false rest → (ss ws : List Word) → (form false ss (ws ++ word ∷ []) rest >>= asked) ≡ ((divided false rest >>= with_plain word) >>= behind ss ws)
plain_next word rest next ss ws = next ss (ws ++ word ∷ []) ∙ plain_first (divided false rest) ss ws word

-- a long option, by the test of its name and by what stands behind its `=`
long_wanted : (b : Bool) (v : Option Word) (given pushed trailing waits : Option Parts) (taken : Word → Option Parts)
    → (leads true (cond b (kind_of_value v) other) given pushed trailing waits taken None >>= asked) ≡ None
long_wanted false v given pushed trailing waits taken = refl
long_wanted true None given pushed trailing waits taken = refl
long_wanted true (Some x) given pushed trailing waits taken = refl

long_free : (b : Bool) (v : Option Word) (given pushed trailing : Option Parts) (rest ss ws : List Word) → Agree false rest → Agree true rest
    → (leads false (cond b (kind_of_value v) other) given pushed trailing (form true ss ws rest) (λ x. form false (ss ++ x ∷ []) ws rest) None >>= asked)
    ≡ (cond b (option_given v (divided false rest) (divided true rest)) None >>= behind ss ws)
long_free false v given pushed trailing rest ss ws next wants = refl
long_free true None given pushed trailing rest ss ws next wants = wants ss ws
long_free true (Some x) given pushed trailing rest ss ws next wants = given_next x rest next ss ws

-- what the form gives by the kind of a word
abbrev formed : Bool → List Word → List Word → Word → List Word → Kind → Option Command
formed b ss ws word rest k =
    leads b k (form false (ss ++ word ∷ []) ws rest) (form false ss (ws ++ word ∷ []) rest) (Some (ss, ws ++ rest)) (form true ss ws rest) (λ v. form false (ss ++ v ∷ []) ws rest) None >>= asked

free_kind : (c : ℕ) (cs : Word) → (c == 45) ≡ false → kind_of (c ∷ cs) ≡ plain
free_kind c cs e = rw (e, e) refl

short_kind : (c : ℕ) (cs : Word) → (c == 45) ≡ false → kind_of (45 ∷ (c ∷ cs)) ≡ other
short_kind c cs e = rw (e, e) refl

free_divided : (c : ℕ) (cs : Word) (rest : List Word) → (c == 45) ≡ false → divided false ((c ∷ cs) ∷ rest) ≡ (divided false rest >>= with_plain (c ∷ cs))
free_divided c cs rest e = rw e refl

short_divided : (c : ℕ) (cs : Word) (rest : List Word) → (c == 45) ≡ false → divided false ((45 ∷ (c ∷ cs)) ∷ rest) ≡ None
short_divided c cs rest e = rw e refl

wanted : (word : Word) (rest : List Word) → Shape word → Agree false rest → Agree true (word ∷ rest)
wanted _ rest nothing next ss ws = given_next [] rest next ss ws
wanted _ rest (free c cs e) next ss ws = ap (formed true ss ws (c ∷ cs) rest) (free_kind c cs e) ∙ given_next (c ∷ cs) rest next ss ws
wanted _ rest one_dash next ss ws = given_next lone rest next ss ws
wanted _ rest (short c cs e) next ss ws = ap (formed true ss ws (45 ∷ (c ∷ cs)) rest) (short_kind c cs e) ∙ sym (dash_value (divided false rest) ss ws (c ∷ cs))
wanted _ rest two_dashes next ss ws = sym (dash_value (divided false rest) ss ws (45 ∷ []))
wanted _ rest (long c cs) next ss ws =
    long_wanted (bytes_eq (codes "steps") (name_and_value (c ∷ cs)).0) (name_and_value (c ∷ cs)).1 _ _ _ _ _ ∙ sym (dash_value (divided false rest) ss ws (45 ∷ (c ∷ cs)))

freely : (word : Word) (rest : List Word) → Shape word → Agree false rest → Agree true rest → Agree false (word ∷ rest)
freely _ rest nothing next wants ss ws = plain_next [] rest next ss ws
freely _ rest (free c cs e) next wants ss ws =
    ap (formed false ss ws (c ∷ cs) rest) (free_kind c cs e)
    ∙ (plain_next (c ∷ cs) rest next ss ws ∙ ap (λ (o : Option Parts). o >>= behind ss ws) (sym (free_divided c cs rest e)))
freely _ rest one_dash next wants ss ws = lone_form rest false ss ws []
freely _ rest (short c cs e) next wants ss ws =
    ap (formed false ss ws (45 ∷ (c ∷ cs)) rest) (short_kind c cs e) ∙ ap (λ (o : Option Parts). o >>= behind ss ws) (sym (short_divided c cs rest e))
freely _ rest two_dashes next wants ss ws = rw append-nil refl
freely _ rest (long c cs) next wants ss ws =
    long_free (bytes_eq (codes "steps") (name_and_value (c ∷ cs)).0) (name_and_value (c ∷ cs)).1 _ _ _ rest ss ws next wants

agree : (words : List Word) → Agree true words × Agree false words
agree [] = (λ ss ws. refl, λ ss ws. rw (append-nil, append-nil) refl)
agree (word ∷ rest) = let next = agree rest in (wanted word rest (shape word) next.1, freely word rest (shape word) next.1 next.0)

-- the parts that clap gives ask for what the words ask for
pub agrees : (words : List Word) → (form false [] [] words >>= asked) ≡ command words
agrees words = (agree words).1 [] []

-- the command of these parts is that of the words
pub of_parts : (words : List Word) (p : Parts) → form false [] [] words ≡ Some p → command words ≡ asked p
of_parts words p f = sym (agrees words) ∙ ap (λ (o : Option Parts). o >>= asked) f

pub of_no_parts : (words : List Word) → form false [] [] words ≡ None → command words ≡ None
of_no_parts words f = sym (agrees words) ∙ ap (λ (o : Option Parts). o >>= asked) f
