-- The names that are declared and read.
use Rattle.std.proofs.Common.{◌≡◌, ℕ, ◌+◌, ◌<◌, Bool, true, false, cond, ◌&&◌, ◌||◌, List, [], ◌∷◌, ◌++◌, length, take, get_or, Bor, refl, sym, ap, ◌∙◌, append_assoc, append-nil}
use Rattle.std.specs.HashSet.{HashSet}
use Rattle.std.specs.List.{list_all, flat_map}
use Rattle.std.specs.Str.{bytes_eq}
use Rattle.std.proofs.lemmas.Bool.Decides.{same_from_decides}
use Rattle.std.proofs.lemmas.List.{take_more}
use Rattle.std.proofs.lemmas.List.Concat.{flat_map-append}
use Rattle.std.proofs.lemmas.List.Folds.{list_all-append, list_any-append}
use Rattle.std.proofs.lemmas.Slice.Eq.{bytes_eq-Decides}
use Rattle.js_value.specs.declared.operator.BinaryOp.{BinaryOp}
use Rattle.js_value.specs.declared.operator.UnaryOp.{UnaryOp}
use Rattle.js_value.specs.declared.place.Place.{Place}
use Rattle.js_tree.specs.declared.expression.Expr.{Expr}
use Rattle.js_tree.specs.declared.expression.ExprForm.TheVariants as form
use Rattle.js_tree.specs.declared.statement.Declarator.{Declarator}
use Rattle.js_tree.specs.declared.statement.Stmt.{Stmt}
use Rattle.simple_scripts.specs.Simple.{expr, names_in, declared_names, declarators_of, names_in_form, names_in_init, read_names, reads_declared}
use Rattle.js_tree.specs.Parts.{is_among}
use Rattle.simple_scripts.specs.NameSet.{of_statement, has, knows_declarator, knows_statement}
use Rattle.simple_scripts.proofs.Folds.{fold_unary, fold_binary}

-- ---- the names that an expression reads

pub names_unary : (at : Place) (op : UnaryOp) (a : Expr) → names_in (expr at (form.Unary op a)) ≡ names_in a
names_unary = fold_unary (List (List ℕ)) (List (List ℕ)) (List (List ℕ)) names_in_form (λ f. []) (λ e. e.form)

pub names_binary : (at : Place) (op : BinaryOp) (a b : Expr) → names_in (expr at (form.Binary op a b)) ≡ names_in a ++ names_in b
names_binary = fold_binary (List (List ℕ)) (List (List ℕ)) (List (List ℕ)) names_in_form (λ f. []) (λ e. e.form)

pub known_unary : (p : List ℕ → Bool) (e a : Expr) (op : UnaryOp) (r : Bool) → e.form ≡ form.Unary op a → r ≡ list_all p (names_in a) → r ≡ list_all p (names_in e)
known_unary p e a op r is inner = inner ∙ sym (ap (λ f. list_all p (names_in (expr e.at f))) is ∙ ap (list_all p) (names_unary e.at op a))

pub known_binary : (p : List ℕ → Bool) (e a b : Expr) (op : BinaryOp) (r s : Bool) → e.form ≡ form.Binary op a b → r ≡ list_all p (names_in a) → s ≡ list_all p (names_in b)
    → (r && s) ≡ list_all p (names_in e)
known_binary p e a b op r s is left right =
    ap (λ x. x && s) left ∙ ap (λ x. list_all p (names_in a) && x) right ∙ sym (list_all-append p (names_in a) (names_in b))
    ∙ sym (ap (λ f. list_all p (names_in (expr e.at f))) is ∙ ap (list_all p) (names_binary e.at op a b))

pub known_binary_none : (p : List ℕ → Bool) (e a b : Expr) (op : BinaryOp) (r : Bool) → e.form ≡ form.Binary op a b → r ≡ list_all p (names_in a) → r ≡ false
    → r ≡ list_all p (names_in e)
known_binary_none p e a b op r is left none =
    none ∙ ap (λ x. x && list_all p (names_in b)) (sym none) ∙ known_binary p e a b op r (list_all p (names_in b)) is left refl

-- ---- the names that are declared

abbrev pub names_of : List Declarator → List (List ℕ)
names_of ds = flat_map (λ (d : Declarator). d.name ∷ []) ds

bytes_eq_sym : (xs ys : List ℕ) → bytes_eq xs ys ≡ bytes_eq ys xs
bytes_eq_sym xs ys =
    let d = bytes_eq-Decides ys xs in
    same_from_decides (bytes_eq xs ys) (bytes_eq ys xs) (bytes_eq-Decides xs ys) (λ e. sym (d.0 e), λ e. d.1 (sym e))

or_cond : (b c x : Bool) → b ≡ c → cond b true x ≡ (x || (c || false))
or_cond b true true e = rw e refl
or_cond b true false e = rw e refl
or_cond b false true e = rw e refl
or_cond b false false e = rw e refl

pub has_more : {S : Type 0} (names more : HashSet (Bor (List ℕ)) S) (key : Bor (List ℕ)) (name : List ℕ) (seen longer : List (List ℕ)) → key.now ≡ name → longer ≡ seen ++ name ∷ []
    → ((q : List ℕ) → has more q ≡ cond (bytes_eq key.now q) true (has names q)) → ((q : List ℕ) → has names q ≡ is_among seen q)
    → (q : List ℕ) → has more q ≡ is_among longer q
has_more names more key name seen longer same grows puts had q =
    puts q ∙ ap (λ b. cond (bytes_eq key.now q) true b) (had q)
    ∙ or_cond (bytes_eq key.now q) (bytes_eq q name) (is_among seen q) (ap (λ k. bytes_eq k q) same ∙ bytes_eq_sym name q)
    ∙ sym (ap (λ known. is_among known q) grows ∙ list_any-append (bytes_eq q) seen (name ∷ []))

-- one more declarator of a statement
pub names_of_more : (before : List (List ℕ)) (ds : List Declarator) (i : ℕ) (d : Declarator) → i < length ds
    → before ++ names_of (take (i + 1) ds) ≡ (before ++ names_of (take i ds)) ++ (get_or ds i d).name ∷ []
names_of_more before ds i d below =
    ap (λ xs. before ++ names_of xs) (take_more ds i d below)
    ∙ ap (λ xs. before ++ xs) (flat_map-append (λ (x : Declarator). x.name ∷ []) (take i ds) (get_or ds i d ∷ []))
    ∙ sym (append_assoc before (names_of (take i ds)) ((get_or ds i d).name ∷ []))

-- one more statement
pub declared_more : (ss : List Stmt) (i : ℕ) (d : Stmt) → i < length ss
    → declared_names (take (i + 1) ss) ≡ declared_names (take i ss) ++ names_of (of_statement (get_or ss i d))
declared_more ss i d below =
    ap declared_names (take_more ss i d below)
    ∙ ap names_of (flat_map-append of_statement (take i ss) (get_or ss i d ∷ []))
    ∙ flat_map-append (λ (x : Declarator). x.name ∷ []) (declarators_of (take i ss)) (of_statement (get_or ss i d) ++ [])
    ∙ ap (λ xs. declared_names (take i ss) ++ names_of xs) (append-nil (of_statement (get_or ss i d)))

-- ---- each name that is read is declared

list_all_flat : {X A : Type 0} (p : A → Bool) (f : X → List A) (xs : List X) → list_all p (flat_map f xs) ≡ list_all (λ x. list_all p (f x)) xs
list_all_flat p f [] = refl
list_all_flat p f (x ∷ xs) = list_all-append p (f x) (flat_map f xs) ∙ ap (λ b. list_all p (f x) && b) (list_all_flat p f xs)

pub known_all : {S : Type 0} (names : HashSet (Bor (List ℕ)) S) (ss : List Stmt) → ((q : List ℕ) → has names q ≡ is_among (declared_names ss) q)
    → list_all (knows_statement names) ss ≡ reads_declared ss
unfolding reads_declared
known_all names ss same =
    sym (list_all_flat (knows_declarator names) of_statement ss)
    ∙ sym (list_all_flat (has names) (λ (d : Declarator). names_in_init d.init) (declarators_of ss))
    ∙ ap (λ (f : List ℕ → Bool). list_all f (read_names ss)) (λ i q. same q i)
