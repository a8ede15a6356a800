-- The early checks: what is refused in a tree that was read, the least place first.
use Rattle.std.specs.Prelude.{ℕ, ◌&&◌, Bool, true, false, not, if◌then◌else◌, ◌==◌, nat_lt, List, [], ◌∷◌, ◌++◌, fold, Option, Some, None}
use Rattle.std.specs.List.{flat_map, list_any}
use Rattle.std.specs.Str.{bytes_eq}
use Rattle.js_value.specs.declared.place.Place.{Place}
use Rattle.js_value.specs.declared.primitive.Kind.{Kind}
use Rattle.js_value.specs.contracts.primitive.KindPartialEq.TheImpl.{ghosts}
use Rattle.js_tree.specs.declared.refusal.Feature.TheVariants as feature
use Rattle.js_tree.specs.declared.refusal.ReadRefused.{ReadRefused}
use Rattle.js_tree.specs.declared.refusal.ReadRefused.TheVariants.{Syntax, Unsupported}
use Rattle.js_tree.specs.declared.statement.Func.{Func}
use Rattle.js_tree.specs.declared.statement.Script.{Script}
use Rattle.js_tree.specs.declared.statement.Stmt.{Stmt, fold-Stmt}
use Rattle.js_tree.specs.declared.statement.StmtForm.TheOpen.{StmtForm-F}
use Rattle.js_tree.specs.Mentions.{Mention, AssignsOwn, Takes, Repeats, mentions, joined, of_none}
use Rattle.js_tree.specs.Weighed.{in_script}

-- ---- jumps (12.7 to 12.9): the places of those that leave a statement

abbrev pub Places : Type 0
Places = List Place

abbrev pub At : Type 0
At = Place → Places

-- what the parts of a statement have
abbrev pub parts : StmtForm-F At Places Places Places Places → Places
parts (StmtForm-F.Block body) = joined body
parts (StmtForm-F.If test a b) = a ++ of_none b
parts (StmtForm-F.DoWhile body test) = body
parts (StmtForm-F.While test body) = body
parts (StmtForm-F.For from test step body) = body
parts (StmtForm-F.ForIn to object body) = body
parts (StmtForm-F.Switch x cases) = joined cases
parts (StmtForm-F.Try body handler final) = joined body ++ of_none handler ++ of_none final
parts _ = []

abbrev pub is_loop : StmtForm-F At Places Places Places Places → Bool
is_loop (StmtForm-F.DoWhile body test) = true
is_loop (StmtForm-F.While test body) = true
is_loop (StmtForm-F.For from test step body) = true
is_loop (StmtForm-F.ForIn to object body) = true
is_loop _ = false

abbrev pub continues : StmtForm-F At Places Places Places Places → At
continues StmtForm-F.Continue at = at ∷ []
continues f at = if is_loop f then [] else parts f

abbrev pub breaks : StmtForm-F At Places Places Places Places → At
breaks StmtForm-F.Break at = at ∷ []
breaks (StmtForm-F.Switch x cases) at = []
breaks f at = if is_loop f then [] else parts f

abbrev pub returns : StmtForm-F At Places Places Places Places → At
returns (StmtForm-F.Return x) at = at ∷ []
returns f at = parts f

abbrev pub places_in : (StmtForm-F At Places Places Places Places → At) → List Stmt → Places
places_in jumps body =
    flat_map (fold-Stmt At Places Places Places Places jumps (λ c. joined c.body) (λ c. joined c.body) (λ f. joined f.body) (λ s. s.form s.at)) body

abbrev pub syntax_all : Places → List ReadRefused
syntax_all places = flat_map (λ at. Syntax at ∷ []) places

-- `break` outside loop and switch, `continue` outside a loop
abbrev pub loose_jumps : List Stmt → List ReadRefused
loose_jumps body = syntax_all (places_in breaks body ++ places_in continues body)

-- `return` outside a function
abbrev pub jump_faults : Script → List ReadRefused
jump_faults s = syntax_all (places_in returns s.body) ++ loose_jumps s.body ++ flat_map (λ (f : Func). loose_jumps f.body) s.funcs

-- ---- names, properties and inputs

-- the input has another type at an earlier place
abbrev pub differs : Place → Kind → List ℕ → Mention → Bool
differs at k name (Takes before other text) = nat_lt before.0 at.0 && bytes_eq name text && not (ghosts.eq k other)
differs at k name _ = false

abbrev pub mention_fault : List Mention → Mention → List ReadRefused
mention_fault all (Repeats at) = Syntax at ∷ []
mention_fault all (AssignsOwn at) = Unsupported at feature.OwnName ∷ []
mention_fault all (Takes at k name) = if list_any (differs at k name) all then Unsupported at feature.AbstractType ∷ [] else []
mention_fault all _ = []

abbrev pub mention_faults : List Mention → List ReadRefused
mention_faults all = flat_map (mention_fault all) all

-- ---- the least place answers

abbrev pub place_in : ReadRefused → ℕ
place_in (Syntax at) = at.0
place_in (Unsupported at what) = at.0
place_in _ = 0

abbrev pub lesser : Option ReadRefused → ReadRefused → Option ReadRefused
lesser None e = Some e
lesser (Some least) e = if nat_lt (place_in e) (place_in least) then Some e else Some least

unfoldable pub early_fault : Script → Option ReadRefused
early_fault s = fold lesser None (jump_faults s ++ mention_faults (mentions s))

-- ---- inputs and host calls, those in functions too

-- how many host calls a script has
unfoldable pub host_forms : Script → ℕ
host_forms s = in_script (record { node = 0; input = 0; host_call = 1 }) s

-- neither an input nor a host call
unfoldable pub is_closed : Script → Bool
is_closed s = in_script (record { node = 0; input = 1; host_call = 1 }) s == 0
