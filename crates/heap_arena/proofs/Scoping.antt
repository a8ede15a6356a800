-- The environments that scopes in an arena stand for.
use Rattle.std.proofs.Common.{zero-add, add-zero, zero-le, suc-le-suc, ◌≡◌, ◌∷◌, ◌++◌, ◌+◌, ◌<◌, ◌≤◌, ◌∙◌, [], ℕ, zero, suc, List, Some, None, arith, take, sym, fold, get_or, length, length-append, refl}
use Rattle.std.specs.Prelude.{slice_get}
use Rattle.std.proofs.Math.ListN.{get_or-append}
use Rattle.std.proofs.lemmas.List.{get_or_past}
use Rattle.std.proofs.Math.Seq.{get_or-append_seam}
use Rattle.std.proofs.lemmas.List.Sums.{fold-append}
use Rattle.plain_heap.specs.Heap.{Environment, or_else, resolve}
use Rattle.heap_values.specs.Meaning.{environment_at}
use Rattle.heap_arena.specs.declared.environment.Scope.{Scope}
use Rattle.heap_arena.proofs.Lookups.{lookup-append}
use Rattle.heap_arena.specs.Environments.{environments, own_names, surrounding, with_scope}

pub environments-none : environments [] ≡ []
unfolding environments
environments-none = refl

-- a scope that is made
pub environments-append : (scopes : List Scope) (s : Scope) → environments (scopes ++ s ∷ []) ≡ with_scope (environments scopes) s
unfolding environments
environments-append scopes s = fold-append with_scope [] scopes (s ∷ [])

length-behind : (made : List Environment) (scopes : List Scope) → length (fold with_scope made scopes) ≡ length made + length scopes
length-behind made [] = omega arith
length-behind made (s ∷ scopes) = length-behind (with_scope made s) scopes ∙ rw length-append (omega arith)

pub length-environments : (scopes : List Scope) → length (environments scopes) ≡ length scopes
unfolding environments
length-environments scopes = omega (arith, length-behind [] scopes)

past : {A : Type 0} (xs : List A) (i : ℕ) → slice_get xs i ≡ None → length xs ≤ i
past [] i none = zero-le
past (x ∷ xs) zero none = cc
past (x ∷ xs) (suc i) none = suc-le-suc (past xs i none)

-- a scope that was made before
kept : (made : List Environment) (scopes : List Scope) (s : ℕ) → s < length made → get_or (fold with_scope made scopes) s [] ≡ get_or made s []
kept made [] s h = refl
kept made (scope ∷ scopes) s h =
    kept (with_scope made scope) scopes s (rw length-append (omega arith)) ∙ get_or-append made _ [] s h

at-behind : (made : List Environment) (scopes : List Scope) (s : ℕ) (scope : Scope) → slice_get scopes s ≡ Some scope
    → get_or (fold with_scope made scopes) (length made + s) [] ≡ own_names scope ++ surrounding (fold with_scope made (take s scopes)) scope.outer
at-behind made [] s scope at = cc
at-behind made (x ∷ xs) zero scope at =
    let e : x ≡ scope = cc in
    let there : length made < length (with_scope made x) = rw length-append (omega arith) in
    rw add-zero (kept (with_scope made x) xs (length made) there ∙ rw (← e) (get_or-append_seam made (own_names x ++ surrounding made x.outer) [] []))
at-behind made (x ∷ xs) (suc s) scope at =
    let e : length made + suc s ≡ length (with_scope made x) + s = rw length-append (omega arith) in
    rw e (at-behind (with_scope made x) xs s scope at)

-- what a scope that is there stands for
pub environment-there : (scopes : List Scope) (s : ℕ) (scope : Scope) → slice_get scopes s ≡ Some scope
    → environment_at (environments scopes) s ≡ own_names scope ++ surrounding (environments (take s scopes)) scope.outer
unfolding environments
environment-there scopes s scope at = rw zero-add at (at-behind [] scopes s scope at)

-- a number of none
pub environment-past : (scopes : List Scope) (s : ℕ) → slice_get scopes s ≡ None → environment_at (environments scopes) s ≡ []
environment-past scopes s none = get_or_past _ s [] (rw length-environments (past scopes s none))

-- ---- names along the scopes around some code

module _ (older scopes : List Scope) (at s n : ℕ) (name : List ℕ) where
  module _ (so_far : resolve (environment_at (environments scopes) s) name ≡ resolve (environment_at (environments older) at) name) (scope : Scope)
      (there : Some scope ≡ slice_get older at) where
    found : resolve (environment_at (environments scopes) s) name ≡ or_else (resolve (own_names scope) name) (resolve (surrounding (environments (take at older)) scope.outer) name)
    unfolding resolve
    found = so_far ∙ rw (environment-there older at scope (sym there)) (lookup-append name (own_names scope) (surrounding (environments (take at older)) scope.outer))

    pub found_here : (c : ℕ) → Some c ≡ resolve (own_names scope) name → Some c ≡ resolve (environment_at (environments scopes) s) name
    found_here c own = sym (found ∙ rw (← own) refl)

    pub found_outside : None ≡ resolve (own_names scope) name → scope.outer ≡ Some n
        → resolve (environment_at (environments scopes) s) name ≡ resolve (environment_at (environments (take at older)) n) name
    found_outside own outer = found ∙ rw (← own, outer) refl

    pub found_nowhere : None ≡ resolve (own_names scope) name → scope.outer ≡ None → None ≡ resolve (environment_at (environments scopes) s) name
    unfolding resolve
    found_nowhere own outer = sym (found ∙ rw (← own, outer) refl)

  pub found_past : resolve (environment_at (environments scopes) s) name ≡ resolve (environment_at (environments older) at) name → None ≡ slice_get older at
      → None ≡ resolve (environment_at (environments scopes) s) name
  unfolding resolve
  found_past so_far past = sym (so_far ∙ rw (environment-past older at (sym past)) refl)
