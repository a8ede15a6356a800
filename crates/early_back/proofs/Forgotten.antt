-- What is mentioned, without its places.
use Rattle.std.proofs.Common.{◌≡◌, ◌&&◌, ◌||◌, Bool, true, false, List, [], ◌∷◌, ◌++◌, map, refl, ap, sym, ◌∙◌}
use Rattle.std.specs.Prelude.{if◌then◌else◌}
use Rattle.std.specs.List.{flat_map, list_any}
use Rattle.std.specs.Str.{bytes_eq}
use Rattle.std.proofs.lemmas.List.{map-append}
use Rattle.js_tree.specs.Mentions as M
use Rattle.js_tree.specs.Mentions.{Mention, Names, Property, joined, unbound, unbound_one, owned_one, repeated, clash}
use Rattle.js_tree.specs.Refusals.{place}
use Rattle.js_tree.specs.Parts.{is_among}
use Rattle.early_back.proofs.RelatedExpressions.{Two}

abbrev pub forget : Mention → Mention
forget (M.Reads at name) = M.Reads (place 0) name
forget (M.Assigns at name) = M.Assigns (place 0) name
forget (M.AssignsOwn at) = M.AssignsOwn (place 0)
forget (M.Takes at kind name) = M.Takes (place 0) kind name
forget (M.Repeats at) = M.Repeats (place 0)

abbrev pub forgotten : List Mention → List Mention
forgotten ms = map forget ms

abbrev pub forget_property : Property → Property
forget_property p = (place 0, p.1, p.2)

-- ---- lists of parts

pub joins-map : {A B : Type 0} (f : A → B) (a b : List B) (c d : List A) → a ≡ map f c → b ≡ map f d → a ++ b ≡ map f (c ++ d)
joins-map f a b c d h k = ap (λ x. x ++ b) h ∙ ap (λ x. map f c ++ x) k ∙ sym (map-append f c d)

pub joined-map : {A B : Type 0} (f : A → B) (ps : List (Two (λ (a : List B) (b : List A). a ≡ map f b)))
    → joined (map (λ (p : Two (λ (a : List B) (b : List A). a ≡ map f b)). p.0) ps) ≡ map f (joined (map (λ (p : Two (λ (a : List B) (b : List A). a ≡ map f b)). p.1) ps))
joined-map f [] = refl
joined-map f (p ∷ ps) = joins-map f p.0 _ p.1 _ p.2 (joined-map f ps)

pub joins : (a b c d : List Mention) → a ≡ forgotten c → b ≡ forgotten d → a ++ b ≡ forgotten (c ++ d)
joins a b c d h k = joins-map forget a b c d h k

-- ---- names that are bound

none_or_one : (b : Bool) (m : Mention) → (if b then [] else (forget m ∷ [])) ≡ forgotten (if b then [] else (m ∷ []))
none_or_one true m = refl
none_or_one false m = refl

one_of : (b : Bool) (m n : Mention) → (if b then forget m ∷ [] else (forget n ∷ [])) ≡ forgotten (if b then m ∷ [] else (n ∷ []))
one_of true m n = refl
one_of false m n = refl

unbound_one_is : (names : Names) (m : Mention) → unbound_one names (forget m) ≡ forgotten (unbound_one names m)
unbound_one_is names (M.Reads at name) = none_or_one (is_among names name) (M.Reads at name)
unbound_one_is names (M.Assigns at name) = none_or_one (is_among names name) (M.Assigns at name)
unbound_one_is names (M.AssignsOwn at) = refl
unbound_one_is names (M.Takes at kind text) = refl
unbound_one_is names (M.Repeats at) = refl

owned_one_is : (names : Names) (m : Mention) → owned_one names (forget m) ≡ forgotten (owned_one names m)
owned_one_is names (M.Reads at name) = none_or_one (is_among names name) (M.Reads at name)
owned_one_is names (M.Assigns at name) = one_of (is_among names name) (M.AssignsOwn at) (M.Assigns at name)
owned_one_is names (M.AssignsOwn at) = refl
owned_one_is names (M.Takes at kind text) = refl
owned_one_is names (M.Repeats at) = refl

each_is : (f : Mention → List Mention) → ((m : Mention) → f (forget m) ≡ forgotten (f m)) → (ms : List Mention) → flat_map f (forgotten ms) ≡ forgotten (flat_map f ms)
each_is f h [] = refl
each_is f h (m ∷ ms) = joins (f (forget m)) (flat_map f (forgotten ms)) (f m) (flat_map f ms) (h m) (each_is f h ms)

pub unbound_is : (names : Names) (ms : List Mention) → unbound names (forgotten ms) ≡ forgotten (unbound names ms)
unbound_is names ms = each_is (unbound_one names) (unbound_one_is names) ms

pub owned_is : (names : Names) (ms : List Mention) → flat_map (owned_one names) (forgotten ms) ≡ forgotten (flat_map (owned_one names) ms)
owned_is names ms = each_is (owned_one names) (owned_one_is names) ms

-- ---- properties given twice

clashes : (p : Property) (before : List Property)
    → list_any (λ (q : Property). bytes_eq q.1 p.1 && clash q.2 p.2) (map forget_property before) ≡ list_any (λ (q : Property). bytes_eq q.1 p.1 && clash q.2 p.2) before
clashes p [] = refl
clashes p (q ∷ before) = ap (λ b. (bytes_eq q.1 p.1 && clash q.2 p.2) || b) (clashes p before)

one_or_none : (b : Bool) (m : Mention) → (if b then forget m ∷ [] else []) ≡ forgotten (if b then m ∷ [] else [])
one_or_none true m = refl
one_or_none false m = refl

pub repeated_is : (before ps : List Property) → repeated (map forget_property before) (map forget_property ps) ≡ forgotten (repeated before ps)
repeated_is before [] = refl
repeated_is before (p ∷ ps) =
    let b : Bool = list_any (λ (q : Property). bytes_eq q.1 p.1 && clash q.2 p.2) before in
    joins _ (repeated (map forget_property (p ∷ before)) (map forget_property ps)) (if b then M.Repeats p.0 ∷ [] else []) (repeated (p ∷ before) ps)
    (ap (λ c. if c then M.Repeats (place 0) ∷ [] else []) (clashes p before) ∙ one_or_none b (M.Repeats p.0)) (repeated_is (p ∷ before) ps)
