-- What a script mentions is what that without its places mentions, but for places.
use Rattle.std.proofs.Common.{◌≡◌, ℕ, ◌+◌, ◌-◌, Bool, true, false, List, [], ◌∷◌, ◌++◌, map, refl, ap, ◌∙◌}
use Rattle.std.specs.Prelude.{if◌then◌else◌, nat_lt, slice_get, Option, Some, None}
use Rattle.std.specs.Option.{option_map}
use Rattle.std.proofs.lemmas.Option.{slice_get-map}
use Rattle.js_value.specs.declared.place.FuncNo.{FuncNo}
use Rattle.js_tree.specs.Mentions.{Mention, Names, Inside, none_inside, item_for, nth, as_expression, own_name, name_of, names_of, unbound, insides_from, insides, body_mentions, hoisted_vars, hoisted_functions, mentions}
use Rattle.js_tree.specs.declared.statement.Func.{Func}
use Rattle.js_tree.specs.declared.statement.Name.{Name}
use Rattle.js_tree.specs.declared.statement.Script.{Script}
use Rattle.reading_back.specs.Unplaced as unplaced
use Rattle.early_back.proofs.Forgotten.{forgotten, unbound_is, owned_is}
use Rattle.early_back.proofs.Hoisted.{hoisted_vars_same, hoisted_functions_same}
use Rattle.early_back.proofs.MentionedStatements.{body_is}

abbrev forget_inside : Inside → Inside
forget_inside i = (i.0, forgotten i.1)

-- ---- items of lists

none_or : {A B : Type 0} (b : Bool) (f : A → B) (o : Option A) → (if b then None else (option_map f o)) ≡ option_map f (if b then None else o)
none_or true f o = refl
none_or false f o = refl

item_is : {A B : Type 0} (f : A → B) (n : ℕ) (all : List A) (g : FuncNo) → item_for n (map f all) g ≡ option_map f (item_for n all g)
item_is f n all g = ap (λ o. if nat_lt g.0 n then None else o) (slice_get-map f all (g.0 - n)) ∙ none_or (nat_lt g.0 n) f (slice_get all (g.0 - n))

inside_of : (o : Option Inside) → none_inside (option_map forget_inside o) ≡ forget_inside (none_inside o)
inside_of None = refl
inside_of (Some i) = refl

nth_is : (n : ℕ) (all : List Inside) (g : FuncNo) → nth n (map forget_inside all) g ≡ forget_inside (nth n all g)
nth_is n all g = ap none_inside (item_is forget_inside n all g) ∙ inside_of (item_for n all g)

expression_is : (n : ℕ) (all : List Inside) (g : FuncNo) → as_expression (nth n (map forget_inside all) g) ≡ forgotten (as_expression (nth n all g))
expression_is n all g = ap as_expression (nth_is n all g) ∙ owned_is (nth n all g).0 (nth n all g).1

declaration_is : (n : ℕ) (all : List Inside) (g : FuncNo) → (nth n (map forget_inside all) g).1 ≡ forgotten (nth n all g).1
declaration_is n all g = ap (λ (i : Inside). i.1) (nth_is n all g)

-- ---- names

own_is : (o : Option Name) → own_name (option_map unplaced.name o) ≡ own_name o
own_is None = refl
own_is (Some n) = refl

named : (o : Option Func) → name_of (option_map unplaced.func o) ≡ name_of o
named None = refl
named (Some f) = own_is f.name

pub names_are : (n : ℕ) (fs : List Func) (numbers : List FuncNo) → names_of n (map unplaced.func fs) numbers ≡ names_of n fs numbers
names_are n fs [] = refl
names_are n fs (g ∷ gs) =
    ap (λ xs. xs ++ names_of n (map unplaced.func fs) gs) (ap name_of (item_is unplaced.func n fs g) ∙ named (item_for n fs g))
    ∙ ap (λ xs. name_of (item_for n fs g) ++ xs) (names_are n fs gs)

pub texts : (ps : List Name) → map (λ (p : Name). p.text) (map unplaced.name ps) ≡ map (λ (p : Name). p.text) ps
texts [] = refl
texts (p ∷ ps) = ap (λ xs. p.text ∷ xs) (texts ps)

-- ---- functions

-- what is inside a function, by what is inside those behind it
abbrev declared_in : ℕ → Func → List Func → Names
declared_in n f fs = map (λ (p : Name). p.text) f.params ++ hoisted_vars f.body ++ names_of (n + 1) fs (hoisted_functions f.body)

abbrev mentioned_in : ℕ → Func → List Inside → List Mention
mentioned_in n f inner = body_mentions (λ g. as_expression (nth (n + 1) inner g)) (λ g. (nth (n + 1) inner g).1) f.body

abbrev first_inside : ℕ → Func → List Func → List Inside → Inside
first_inside n f fs inner = (own_name f.name, unbound (declared_in n f fs) (mentioned_in n f inner))

declared_same : (n : ℕ) (f : Func) (fs : List Func) → declared_in n (unplaced.func f) (map unplaced.func fs) ≡ declared_in n f fs
declared_same n f fs =
    let gs : List Func = map unplaced.func fs in
    let functions : List FuncNo = hoisted_functions (map unplaced.stmt f.body) in
    ap (λ xs. xs ++ hoisted_vars (map unplaced.stmt f.body) ++ names_of (n + 1) gs functions) (texts f.params)
    ∙ ap (λ xs. map (λ (p : Name). p.text) f.params ++ xs ++ names_of (n + 1) gs functions) (hoisted_vars_same f.body)
    ∙ ap (λ xs. map (λ (p : Name). p.text) f.params ++ hoisted_vars f.body ++ xs) (ap (names_of (n + 1) gs) (hoisted_functions_same f.body) ∙ names_are (n + 1) fs (hoisted_functions f.body))

mentioned_same : (n : ℕ) (f : Func) (inner : List Inside) → mentioned_in n (unplaced.func f) (map forget_inside inner) ≡ forgotten (mentioned_in n f inner)
mentioned_same n f inner = body_is _ _ _ _ (expression_is (n + 1) inner) (declaration_is (n + 1) inner) f.body

first_is : (n : ℕ) (f : Func) (fs : List Func) (inner : List Inside)
    → first_inside n (unplaced.func f) (map unplaced.func fs) (map forget_inside inner) ≡ forget_inside (first_inside n f fs inner)
first_is n f fs inner =
    let g : Func = unplaced.func f in
    let rest : List Mention = unbound (declared_in n g (map unplaced.func fs)) (mentioned_in n g (map forget_inside inner)) in
    ap (λ (names : Names). (names, rest)) (own_is f.name)
    ∙ ap (λ (ms : List Mention). (own_name f.name, ms))
    (ap (λ names. unbound names (mentioned_in n g (map forget_inside inner))) (declared_same n f fs)
    ∙ ap (unbound (declared_in n f fs)) (mentioned_same n f inner)
    ∙ unbound_is (declared_in n f fs) (mentioned_in n f inner))

insides_are : (n : ℕ) (fs : List Func) → insides_from n (map unplaced.func fs) ≡ map forget_inside (insides_from n fs)
insides_are n [] = refl
insides_are n (f ∷ fs) =
    ap (λ inner. first_inside n (unplaced.func f) (map unplaced.func fs) inner ∷ inner) (insides_are (n + 1) fs)
    ∙ ap (λ (i : Inside). i ∷ map forget_inside (insides_from (n + 1) fs)) (first_is n f fs (insides_from (n + 1) fs))

-- ---- scripts

pub script_is : (s : Script) → mentions (unplaced.script s) ≡ forgotten (mentions s)
unfolding mentions
script_is s =
    ap (λ all. body_mentions (λ g. as_expression (nth 0 all g)) (λ g. (nth 0 all g).1) (map unplaced.stmt s.body)) (insides_are 0 s.funcs)
    ∙ body_is _ _ _ _ (expression_is 0 (insides s)) (declaration_is 0 (insides s)) s.body
