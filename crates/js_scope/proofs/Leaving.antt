-- Lists of parts, and what each form has that goes by the kind of the jump.
use Rattle.std.proofs.Common.{◌≡◌, ◌++◌, refl, List}
use Rattle.std.specs.Prelude.{Option}
use Rattle.std.proofs.lemmas.Grind.{flat_map-append, fold-append}
use Rattle.js_value.specs.declared.place.Place.{Place}
use Rattle.js_tree.specs.declared.expression.Expr.{Expr}
use Rattle.js_tree.specs.declared.statement.StmtForm.TheOpen.{StmtForm-F}
use Rattle.js_tree.specs.Early.{Places}
use Rattle.js_tree.specs.Mentions.{joined, of_none}
use Rattle.js_scope.specs.declared.jumps.Jump.{Jump}
use Rattle.js_scope.specs.declared.jumps.Jump.TheVariants as jump
use Rattle.js_scope.specs.Jumps.{leaving}

pub leaving-Block : (j : Jump) (body : List Places) (at : Place) → leaving j (StmtForm-F.Block body) at ≡ joined body
leaving-Block jump.Return body at = refl
leaving-Block jump.Break body at = refl
leaving-Block jump.Continue body at = refl

pub leaving-If : (j : Jump) (test : Expr) (a : Places) (b : Option Places) (at : Place) → leaving j (StmtForm-F.If test a b) at ≡ a ++ of_none b
leaving-If jump.Return test a b at = refl
leaving-If jump.Break test a b at = refl
leaving-If jump.Continue test a b at = refl

pub leaving-Try : (j : Jump) (body : List Places) (handler final : Option Places) (at : Place)
    → leaving j (StmtForm-F.Try body handler final) at ≡ joined body ++ of_none handler ++ of_none final
leaving-Try jump.Return body handler final at = refl
leaving-Try jump.Break body handler final at = refl
leaving-Try jump.Continue body handler final at = refl

pub ruleset leaves = (leaving-Block, leaving-If, leaving-Try)

pub ruleset lists = (flat_map-append, fold-append)
