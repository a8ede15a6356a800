use Rattle.std.proofs.Common.{arith, ap, ◌∙◌, Ok, Err}
use Rattle.std.specs.Str.{chars}
use Rattle.js_tree.specs.Lexing.{width}
use Rattle.js_lex.proofs.Going.{lexed_fault, lexed_text, width-chars}
use Rattle.js_lex.proofs.Scanning.{gives_refused}
use Rattle.js_lex.proofs.tokens.lex.Goals as goal

pub returns-in-Err : goal.returns-in-Err
returns-in-Err c = λ _. lexed_fault c.args.bytes.now c.valid_up_to.result c.in-Err.ensures.cases.0 (c.valid_up_to.ensures ∙ c.in-Err.ensures.valid_len)

pub tokens_of-requires : goal.tokens_of-requires
tokens_of-requires c =
    omega (arith, c.requires, ap width (c.as_slice.ensures.value ∙ c.in_ok-characters.ensures ∙ ap chars c.in-Ok.ensures.cases.0), width-chars c.args.bytes.now c.in-Ok.ensures.cases.1)

pub returns-in_err-items : goal.returns-in_err-items
returns-in_err-items c =
    gives_refused _ c.from_residual-in_err-items.result c.in_err-items.field-0.0 c.from_residual-in_err-items.ensures.1
    (λ memory. lexed_text c.args.bytes.now c.as_slice.result.now (Err c.in_err-items.field-0.0) c.in-Ok.ensures.cases.1
    (c.as_slice.ensures.value ∙ c.in_ok-characters.ensures ∙ ap chars c.in-Ok.ensures.cases.0) (c.in_err-items.ensures memory))

pub returns : goal.returns
returns c =
    lexed_text c.args.bytes.now c.as_slice.result.now (Ok c.in_ok-items.items) c.in-Ok.ensures.cases.1
    (c.as_slice.ensures.value ∙ c.in_ok-characters.ensures ∙ ap chars c.in-Ok.ensures.cases.0) c.in_ok-items.ensures
