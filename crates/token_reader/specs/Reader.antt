-- What a reader's state stands for, and how its answers stand to a production.
use Rattle.std.specs.Prelude.{◌≡◌, ◌≢◌, ℕ, Bool, true, false, List, Option, Some, None, Result, Ok, Err}
use Rattle.std.specs.Option.{option_map}
use Rattle.js_tree.specs.declared.refusal.ReadRefused.{ReadRefused}
use Rattle.js_tree.specs.declared.refusal.ReadRefused.TheVariants.{NoMemory}
use Rattle.js_tree.specs.declared.token.TokenForm.{TokenForm}
use Rattle.js_tree.specs.declared.token.Tokens.{Tokens}
use Rattle.js_grammar.specs.Heights.{is_within, is_stmt_within}
use Rattle.js_grammar.specs.Rest.{Rest, Reading, of_first, passed, at_end, sees}
use Rattle.js_tree.specs.declared.statement.Name.{Name}
use Rattle.js_grammar.specs.Functions.{parameters, no_parameter, one_parameter}
use Rattle.js_grammar.specs.Marks.{right_brace}
use Rattle.js_grammar.specs.Reading.{beginning, grammar}
use Rattle.js_grammar.specs.Statements.{starts_with_case_end}
use Rattle.token_reader.specs.declared.names.Params.{Params}
use Rattle.token_reader.specs.declared.names.Params.TheVariants as params
use Rattle.token_reader.specs.declared.statements.Closer.{Closer}
use Rattle.token_reader.specs.declared.statements.Closer.TheVariants as closer
use Rattle.token_reader.specs.declared.reader.Reader.{Reader}

abbrev pub rest_of : Reader → Rest
rest_of r = record {
  tokens = r.rest.now;
  end = r.end;
  last = option_map (λ t. t.now) r.last;
  limit = r.limit;
  opened = r.opened;
  allows_expr = λ functions x. is_within functions r.limit x;
  allows_stmt = λ functions t. is_stmt_within functions r.limit t;
  functions = r.functions.items;
}

-- all tokens of a text, with nothing read
abbrev pub all_of : Tokens → ℕ → Rest
all_of tokens limit = beginning (λ functions x. is_within functions limit x) (λ functions t. is_stmt_within functions limit t) tokens limit

abbrev pub IsAnswer : {A : Type 0} → Reading A → Rest → Rest → Result A ReadRefused → Type 0
IsAnswer m s t (Ok a) = m s ≡ Ok (a, t)
IsAnswer m s t (Err e) = e ≢ NoMemory → m s ≡ Err e

abbrev pub IsTaken : {A : Type 0} → (TokenForm → Option A) → Rest → Rest → Option A → Type 0
IsTaken want s t (Some a) = (of_first want s.tokens ≡ Some a) × (t ≡ passed s)
IsTaken want s t None = (of_first want s.tokens ≡ None) × (t ≡ s)

abbrev pub taken : Bool → Option (Unit {0})
taken true = Some tt
taken false = None

-- what ends a list of statements
abbrev pub closed_by : Closer → Reading Bool
closed_by closer.End = at_end
closed_by closer.Brace = sees right_brace
closed_by closer.Case = λ r. Ok (starts_with_case_end grammar r.tokens, r)

abbrev pub params_by : Params → Reading (List Name)
params_by params.Any = parameters
params_by params.No = no_parameter grammar
params_by params.One = one_parameter grammar
