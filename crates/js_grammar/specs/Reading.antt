-- The script of tokens, or the first fault: the productions tied together (14).
use Rattle.std.specs.Prelude.{Bool, None, ℕ, zero, suc, ◌-◌, false, List, [], ◌∷◌, length, Result, Ok, Err}
use Rattle.js_tree.specs.declared.refusal.ReadRefused.{ReadRefused}
use Rattle.js_tree.specs.declared.expression.Expr.{Expr}
use Rattle.js_tree.specs.declared.statement.Func.{Func}
use Rattle.js_tree.specs.declared.statement.Script.{Script}
use Rattle.js_tree.specs.declared.statement.Stmt.{Stmt}
use Rattle.js_tree.specs.declared.token.Token.{Token}
use Rattle.js_tree.specs.declared.token.Tokens.{Tokens}
use Rattle.js_grammar.specs.Rest.{Rest, at_end, unexpected}
use Rattle.js_grammar.specs.Heights.{is_within, is_stmt_within}
use Rattle.js_grammar.specs.Functions.{Grammar, elements}
use Rattle.js_grammar.specs.Primary.{member}
use Rattle.js_grammar.specs.Expressions.{assignment, unary}
use Rattle.js_grammar.specs.Statements.{statement, element}

-- each production, where those that it refers to are given
unfoldable pub productions : Grammar → Grammar
productions g = record { assignment = assignment g; unary = unary g; member = member g; statement = statement g; element = element g }

-- productions that are chosen by what is left when they are used
abbrev pub chosen : (Rest → Grammar) → Grammar
chosen by = record {
  assignment = λ allows_in s. (by s).assignment allows_in s;
  unary = λ s. (by s).unary s;
  member = λ s. (by s).member s;
  statement = λ s. (by s).statement s;
  element = λ s. (by s).element s;
}

abbrev pub at_the_end : Grammar
at_the_end = record { assignment = λ _. unexpected; unary = unexpected; member = unexpected; statement = unexpected; element = unexpected }

-- The grammar on a list of tokens without so many at its front. What a production refers to is read behind its first token.
abbrev pub grammar_on : ℕ → List Token → Grammar
grammar_on skip [] = productions at_the_end
grammar_on (suc skip) (t ∷ ts) = grammar_on skip ts
grammar_on zero (t ∷ ts) = productions (chosen (λ s. grammar_on (length ts - length s.tokens) ts))

unfoldable pub grammar : Grammar
grammar = chosen (λ s. grammar_on 0 s.tokens)

abbrev pub script_of : Result (List Stmt × Rest) ReadRefused → Result Script ReadRefused
script_of (Ok x) = Ok (record { directive = false; body = x.0; funcs = x.1.functions })
script_of (Err e) = Err e

-- reading where finished parts have to meet these tests
module _ (allows_expr : List Func → Expr → Bool) (allows_stmt : List Func → Stmt → Bool) where
  abbrev pub beginning : Tokens → ℕ → Rest
  beginning tokens limit = record {
    tokens = tokens.items;
    end = tokens.end;
    last = None;
    limit = limit;
    opened = 0;
    allows_expr = allows_expr;
    allows_stmt = allows_stmt;
    functions = [];
  }

  unfoldable pub read_by : Tokens → ℕ → Result Script ReadRefused
  read_by tokens limit = script_of (elements grammar at_end (beginning tokens limit))

-- The script before its early checks, or the first fault. At most so many parts are open at once, and no tree is higher.
unfoldable pub read : Tokens → ℕ → Result Script ReadRefused
read tokens limit = read_by (λ functions x. is_within functions limit x) (λ functions t. is_stmt_within functions limit t) tokens limit
