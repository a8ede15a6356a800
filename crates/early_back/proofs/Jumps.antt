-- The jumps that leave a statement are those that leave it without its places.
use Rattle.std.proofs.Common.{◌≡◌, List, [], ◌∷◌, ◌++◌, map, refl, ap, ◌∙◌}
use Rattle.std.specs.Prelude.{Some, None}
use Rattle.std.specs.List.{flat_map}
use Rattle.js_value.specs.declared.place.Place.{Place}
use Rattle.js_tree.specs.Refusals.{place}
use Rattle.js_tree.specs.Early.{Places, At, parts, continues, breaks, returns, places_in, syntax_all, loose_jumps, jump_faults}
use Rattle.js_tree.specs.Mentions.{joined}
use Rattle.js_tree.specs.declared.refusal.ReadRefused.{ReadRefused}
use Rattle.js_tree.specs.declared.refusal.ReadRefused.TheVariants.{Syntax, Unsupported}
use Rattle.js_tree.specs.declared.statement.Func.{Func}
use Rattle.js_tree.specs.declared.statement.Script.{Script}
use Rattle.js_tree.specs.declared.statement.Stmt.{Stmt, fold-Stmt}
use Rattle.js_tree.specs.declared.statement.StmtForm.TheOpen.{StmtForm-F}
use Rattle.js_tree.specs.declared.statement.StmtForm.TheFolds.{map-StmtForm}
use Rattle.reading_back.specs.Unplaced as unplaced
use Rattle.early_back.proofs.Forgotten.{joins-map, joined-map}
use Rattle.early_back.proofs.RelatedExpressions.{Two}
use Rattle.early_back.proofs.RelatedStatements.{forget_form}
use Rattle.early_back.proofs.RelatedStatements as R

abbrev nowhere : Place → Place
nowhere at = place 0

abbrev SameAt : At → At → Type 0
SameAt m n = (at : Place) → m (place 0) ≡ map nowhere (n at)

abbrev SamePlaces : Places → Places → Type 0
SamePlaces m n = m ≡ map nowhere n

abbrev Pair : Type 0
Pair = Two SamePlaces

abbrev Layer : Type 0
Layer = StmtForm-F (Two SameAt) Pair Pair Pair Pair

abbrev left : Layer → StmtForm-F At Places Places Places Places
left = map-StmtForm (Two SameAt) Pair Pair Pair Pair At Places Places Places Places (λ p. p.0) (λ p. p.0) (λ p. p.0) (λ p. p.0) (λ p. p.0)

abbrev right : Layer → StmtForm-F At Places Places Places Places
right = map-StmtForm (Two SameAt) Pair Pair Pair Pair At Places Places Places Places (λ p. p.1) (λ p. p.1) (λ p. p.1) (λ p. p.1) (λ p. p.1)

abbrev lefts : List Pair → Places
lefts ps = joined (map (λ (p : Pair). p.0) ps)

abbrev rights : List Pair → Places
rights ps = joined (map (λ (p : Pair). p.1) ps)

bodies : (ps : List Pair) → lefts ps ≡ map nowhere (rights ps)
bodies ps = joined-map nowhere ps

joins : (a b c d : Places) → a ≡ map nowhere c → b ≡ map nowhere d → a ++ b ≡ map nowhere (c ++ d)
joins a b c d h k = joins-map nowhere a b c d h k

parts_are : (y : Layer) → parts (forget_form (left y)) ≡ map nowhere (parts (right y))
parts_are (StmtForm-F.Block ps) = bodies ps
parts_are (StmtForm-F.If x a None) = joins a.0 [] a.1 [] a.2 refl
parts_are (StmtForm-F.If x a (Some b)) = joins a.0 b.0 a.1 b.1 a.2 b.2
parts_are (StmtForm-F.DoWhile a x) = a.2
parts_are (StmtForm-F.While x a) = a.2
parts_are (StmtForm-F.For from test step a) = a.2
parts_are (StmtForm-F.ForIn to x a) = a.2
parts_are (StmtForm-F.Switch x ps) = bodies ps
parts_are (StmtForm-F.Try ps None None) = joins _ [] _ [] (joins (lefts ps) [] (rights ps) [] (bodies ps) refl) refl
parts_are (StmtForm-F.Try ps (Some c) None) = joins _ [] _ [] (joins (lefts ps) c.0 (rights ps) c.1 (bodies ps) c.2) refl
parts_are (StmtForm-F.Try ps None (Some f)) = joins _ f.0 _ f.1 (joins (lefts ps) [] (rights ps) [] (bodies ps) refl) f.2
parts_are (StmtForm-F.Try ps (Some c) (Some f)) = joins _ f.0 _ f.1 (joins (lefts ps) c.0 (rights ps) c.1 (bodies ps) c.2) f.2
parts_are y = refl

abbrev JumpsAre : (StmtForm-F At Places Places Places Places → At) → Type 0
JumpsAre jumps = (y : Layer) → SameAt (jumps (forget_form (left y))) (jumps (right y))

continues_are : JumpsAre continues
continues_are StmtForm-F.Continue at = refl
continues_are (StmtForm-F.DoWhile a x) at = refl
continues_are (StmtForm-F.While x a) at = refl
continues_are (StmtForm-F.For from test step a) at = refl
continues_are (StmtForm-F.ForIn to x a) at = refl
continues_are y at = parts_are y

breaks_are : JumpsAre breaks
breaks_are StmtForm-F.Break at = refl
breaks_are (StmtForm-F.Switch x ps) at = refl
breaks_are (StmtForm-F.DoWhile a x) at = refl
breaks_are (StmtForm-F.While x a) at = refl
breaks_are (StmtForm-F.For from test step a) at = refl
breaks_are (StmtForm-F.ForIn to x a) at = refl
breaks_are y at = parts_are y

returns_are : JumpsAre returns
returns_are (StmtForm-F.Return x) at = refl
returns_are y at = parts_are y

module _ (jumps : StmtForm-F At Places Places Places Places → At) (jumps_are : JumpsAre jumps) where
  each : R.EachForm
      jumps (λ c. joined c.body) (λ c. joined c.body) (λ f. joined f.body) (λ s. s.form s.at)
      jumps (λ c. joined c.body) (λ c. joined c.body) (λ f. joined f.body) (λ s. s.form s.at)
      SameAt SamePlaces SamePlaces SamePlaces SamePlaces
  each = record {
    forms = jumps_are;
    cases = λ y. bodies y.body;
    catches = λ y. bodies y.body;
    finals = λ y. bodies y.body;
    stmts = λ at p. p.2 at;
  }

  abbrev in_stmt : Stmt → Places
  in_stmt = fold-Stmt At Places Places Places Places jumps (λ c. joined c.body) (λ c. joined c.body) (λ f. joined f.body) (λ s. s.form s.at)

  stmt_is : (t : Stmt) → in_stmt (unplaced.stmt t) ≡ map nowhere (in_stmt t)
  stmt_is = R.related _ _ _ _ _ _ _ _ _ _ SameAt SamePlaces SamePlaces SamePlaces SamePlaces each

  places_are : (ts : List Stmt) → places_in jumps (map unplaced.stmt ts) ≡ map nowhere (places_in jumps ts)
  places_are [] = refl
  places_are (t ∷ ts) = joins (in_stmt (unplaced.stmt t)) (places_in jumps (map unplaced.stmt ts)) (in_stmt t) (places_in jumps ts) (stmt_is t) (places_are ts)

-- ---- faults

abbrev pub forget_refusal : ReadRefused → ReadRefused
forget_refusal (Syntax at) = Syntax (place 0)
forget_refusal (Unsupported at what) = Unsupported (place 0) what
forget_refusal e = e

abbrev Faults : Type 0
Faults = List ReadRefused

faults_join : (a b c d : Faults) → a ≡ map forget_refusal c → b ≡ map forget_refusal d → a ++ b ≡ map forget_refusal (c ++ d)
faults_join a b c d h k = joins-map forget_refusal a b c d h k

syntax_is : (ats : Places) → syntax_all (map nowhere ats) ≡ map forget_refusal (syntax_all ats)
syntax_is [] = refl
syntax_is (at ∷ ats) = ap (λ es. Syntax (place 0) ∷ es) (syntax_is ats)

loose_are : (body : List Stmt) → loose_jumps (map unplaced.stmt body) ≡ map forget_refusal (loose_jumps body)
loose_are body =
    ap syntax_all (joins _ _ _ _ (places_are breaks breaks_are body) (places_are continues continues_are body))
    ∙ syntax_is (places_in breaks body ++ places_in continues body)

functions_are : (fs : List Func) → flat_map (λ (f : Func). loose_jumps f.body) (map unplaced.func fs) ≡ map forget_refusal (flat_map (λ (f : Func). loose_jumps f.body) fs)
functions_are [] = refl
functions_are (f ∷ fs) = faults_join _ _ _ _ (loose_are f.body) (functions_are fs)

pub jump_faults_are : (s : Script) → jump_faults (unplaced.script s) ≡ map forget_refusal (jump_faults s)
jump_faults_are s =
    faults_join _ _ _ _
    (faults_join _ _ _ _ (ap syntax_all (places_are returns returns_are s.body) ∙ syntax_is (places_in returns s.body)) (loose_are s.body))
    (functions_are s.funcs)
