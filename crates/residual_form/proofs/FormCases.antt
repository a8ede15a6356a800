-- The cases of statements compute, each fold opened form by form.
use Rattle.std.proofs.Common.{◌≡◌, map, true, false, []}
use Rattle.js_tree.specs.declared.expression.ExprForm.TheVariants as e
use Rattle.js_tree.specs.declared.expression.Field.TheVariants.{outs-Value, outs-Getter}
use Rattle.js_tree.specs.declared.statement.StmtForm.TheVariants as s
use Rattle.residual_form.specs.FormCases.{StatementCases, body, statements, no_statements, ordered, disordered}
use Rattle.residual_form.specs.Paths.{is_path}
use Rattle.residual_form.specs.Statements.{is_statement, are_in_order}
use Rattle.residual_form.proofs.FormOpening.{opened}

kept : map (is_statement (body [])) statements ≡ map (λ _. true) statements
kept = simp (opened, e.outs-This, e.outs-Name, e.outs-Literal, e.outs-ArrayLit, e.outs-ObjectLit, e.outs-Member, e.outs-Index, e.outs-Unary, e.outs-Binary, e.outs-Conditional, e.outs-Assign, e.outs-Input, e.outs-HostCall, outs-Value, s.outs-Eval, s.outs-Block, s.outs-If)

broken : map (is_statement (body [])) no_statements ≡ map (λ _. false) no_statements
broken = simp (opened, e.outs-Name, e.outs-Literal, e.outs-ArrayLit, e.outs-ObjectLit, e.outs-Member, e.outs-Index, e.outs-Call, e.outs-New, e.outs-Unary, e.outs-Binary, e.outs-Logic, e.outs-Conditional, e.outs-Assign, e.outs-Input, e.outs-HostCall, outs-Getter, s.outs-Var, s.outs-Eval, s.outs-Block, s.outs-Empty, s.outs-If, s.outs-While, s.outs-Return)

paths : map (λ ss. are_in_order (body ss) ss) ordered ≡ map (λ _. true) ordered
unfolding is_path
paths = simp (opened, e.outs-This, e.outs-Name, e.outs-Literal, e.outs-Member, e.outs-Call, e.outs-Assign, s.outs-Eval)

no_paths : map (λ ss. are_in_order (body ss) ss) disordered ≡ map (λ _. false) disordered
unfolding is_path
no_paths = simp (opened, e.outs-This, e.outs-Name, e.outs-Literal, e.outs-ArrayLit, e.outs-Member, e.outs-Call, e.outs-Assign, s.outs-Eval, s.outs-Block, s.outs-If)

pub statement_cases : StatementCases
statement_cases = record { kept = kept; broken = broken; paths = paths; no_paths = no_paths }
