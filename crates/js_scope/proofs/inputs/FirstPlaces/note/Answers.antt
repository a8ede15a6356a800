use Rattle.std.proofs.Common.{ap, sym, ◌∙◌, cond}
use Rattle.std.specs.Prelude.{Some}
use Rattle.std.specs.Str.{bytes_eq}
use Rattle.js_scope.specs.Inputs.{first_of}
use Rattle.js_scope.proofs.Typed.{put}
use Rattle.js_scope.proofs.inputs.FirstPlaces.note.Goals as goal

pub returns : goal.returns
returns c =
    let name = c.args.name.now in
    let at = c.args.at in
    put c.args.self.now c.insert.new.self.entries name at (sym c.is_no_later.ensures ∙ c.if-is_no_later.false)
    (λ q.
    c.in_ok-insert.ensures.updates.0 q
    ∙ ap (λ k. cond (bytes_eq k q) (Some at.0) (first_of c.self.inside.map.entries q)) c.in_ok-copy.ensures
    ∙ ap (λ es. cond (bytes_eq name q) (Some at.0) (first_of es q)) c.self.view_is)
