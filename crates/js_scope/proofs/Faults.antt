-- The faults of jumps are kept place by place.
use Rattle.std.proofs.Common.{◌≡◌, ◌++◌, ℕ, List, [], ◌∷◌, refl, ap, sym, ◌∙◌}
use Rattle.std.specs.Prelude.{Option, Bool, if◌then◌else◌}
use Rattle.std.specs.List.{list_any}
use Rattle.std.proofs.lemmas.Grind.{flat_map-append, fold-append}
use Rattle.std.proofs.lemmas.List.Folds.{flat_map-map}
use Rattle.js_value.specs.declared.place.Place.{Place}
use Rattle.js_tree.specs.declared.refusal.ReadRefused.{ReadRefused}
use Rattle.js_tree.specs.declared.statement.Stmt.{Stmt}
use Rattle.js_tree.specs.Early.{Places, syntax_all, places_in, loose_jumps, returns, differs, mention_fault}
use Rattle.js_value.specs.declared.primitive.Kind.{Kind}
use Rattle.js_tree.specs.declared.refusal.Feature.TheVariants as feature
use Rattle.js_tree.specs.declared.refusal.ReadRefused.TheVariants.{Unsupported}
use Rattle.js_tree.specs.Mentions.{Takes}
use Rattle.js_scope.specs.declared.mention.Mention as D
use Rattle.js_scope.specs.Mentioning.{mention_of, told}
use Rattle.js_scope.proofs.Repeated.{list_any-map}
use Rattle.js_scope.specs.declared.jumps.Jump.{Jump}
use Rattle.js_scope.specs.declared.jumps.Jump.TheVariants as jump
use Rattle.js_scope.specs.Jumps.{leaving, in_stmt, in_stmts, with_jumps, with_faults, at_place}

pub by_place : (least : Option ReadRefused) (places : Places) → with_faults least (syntax_all places) ≡ with_jumps least places
by_place least [] = refl
by_place least (at ∷ places) = by_place (at_place least at) places

pub places_are : (j : Jump) (body : List Stmt) → in_stmts j body ≡ places_in (leaving j) body
places_are j body = flat_map-map (λ x. x) (in_stmt j) body

pub loose_are : (least : Option ReadRefused) (body : List Stmt)
    → with_faults least (loose_jumps body) ≡ with_jumps (with_jumps least (in_stmts jump.Break body)) (in_stmts jump.Continue body)
loose_are least body =
    by_place least (places_in (leaving jump.Break) body ++ places_in (leaving jump.Continue) body)
    ∙ fold-append at_place least (places_in (leaving jump.Break) body) (places_in (leaving jump.Continue) body)
    ∙ ap (λ ps. with_jumps (with_jumps least ps) (places_in (leaving jump.Continue) body)) (sym (places_are jump.Break body))
    ∙ ap (λ ps. with_jumps (with_jumps least (in_stmts jump.Break body)) ps) (sym (places_are jump.Continue body))

pub returns_are : (least : Option ReadRefused) (body : List Stmt) → with_faults least (syntax_all (places_in returns body)) ≡ with_jumps least (in_stmts jump.Return body)
returns_are least body = by_place least (places_in returns body) ∙ ap (λ ps. with_jumps least ps) (sym (places_are jump.Return body))

pub ruleset faults = (loose_are, returns_are, fold-append, flat_map-append)

pub retyped : (all : List D.Mention) (at : Place) (k : Kind) (name : List ℕ) (b : Bool) → b ≡ list_any (λ m. differs at k name (mention_of m)) all
    → mention_fault (told all) (Takes at k name) ≡ (if b then Unsupported at feature.AbstractType ∷ [] else [])
retyped all at k name b h = ap (λ c. if c then Unsupported at feature.AbstractType ∷ [] else []) (list_any-map (differs at k name) mention_of all ∙ sym h)
