-- Statements by the token that they begin with, as the grammar finds them.
use Rattle.js_tree.specs.declared.statement.StmtForm.{StmtForm}
use Rattle.js_tree.specs.declared.statement.StmtForm.TheVariants as s
use Rattle.js_grammar.specs.Statements as S
use Rattle.token_marks.specs.declared.statements.Beginning.{Beginning}
use Rattle.token_marks.specs.declared.statements.Beginning.TheVariants as first
use Rattle.token_marks.specs.declared.statements.Jump.{Jump}
use Rattle.token_marks.specs.declared.statements.Jump.TheVariants as jump

abbrev pub form_of : Jump → StmtForm
form_of jump.Continue = s.Continue
form_of jump.Break = s.Break

abbrev pub named : Beginning → S.Beginning
named first.Block = S.Block
named first.Empty = S.Empty
named first.Var = S.Var
named first.If = S.If
named first.Do = S.Do
named first.While = S.While
named first.For = S.For
named first.Continue = S.Continue
named first.Break = S.Break
named first.Return = S.Return
named first.With = S.With
named first.Switch = S.Switch
named first.Throw = S.Throw
named first.Try = S.Try
named first.Debugger = S.Debugger
named first.Function = S.Function
