-- Laws of the productions, for every text.
use Rattle.std.specs.Prelude.{◌≡◌, ◌≢◌, ◌≤◌, ℕ, Bool, List, drop, IfOk, Ok, Err}
use Rattle.js_value.specs.declared.place.Place.{Place}
use Rattle.js_tree.specs.declared.refusal.ReadRefused.TheVariants.{Nested}
use Rattle.js_tree.specs.declared.token.Token.{Token}
use Rattle.js_tree.specs.declared.token.Tokens.{Tokens}
use Rattle.js_grammar.specs.Rest.{Rest, Reading, at_end, sees, repeat}
use Rattle.js_grammar.specs.Marks
use Rattle.js_grammar.specs.Functions as F
use Rattle.js_grammar.specs.Primary as P
use Rattle.js_grammar.specs.Expressions as E
use Rattle.js_grammar.specs.Declarators as D
use Rattle.js_grammar.specs.Blocks as B
use Rattle.js_grammar.specs.Statements as S
use Rattle.js_grammar.specs.Reading.{grammar, read}

-- The grammar is what its productions are with itself in place of what they refer to.
pub record Tied : Type 0 where
  pub assignment : (allows_in : Bool) (s : Rest) → grammar.assignment allows_in s ≡ E.assignment grammar allows_in s
  pub unary : (s : Rest) → grammar.unary s ≡ E.unary grammar s
  pub member : (s : Rest) → grammar.member s ≡ P.member grammar s
  pub statement : (s : Rest) → grammar.statement s ≡ S.statement grammar s
  pub element : (s : Rest) → grammar.element s ≡ S.element grammar s

-- A rule that is repeated is used once, and then repeated.
abbrev pub Unrolls : {A B : Type 0} → ((A → Reading B) → A → Reading B) → Type 0
Unrolls {A = A} rule = (a : A) (s : Rest) → repeat rule a s ≡ rule (repeat rule) a s

-- ---- every rule that is repeated, but those of operators with two operands: of them `Climbs` speaks

pub record Repeated : Type 0 where
  pub parameters : Unrolls F.more_parameters
  pub elements_to_brace : Unrolls (F.more_elements grammar (sees Marks.right_brace))
  pub elements_to_end : Unrolls (F.more_elements grammar at_end)
  pub commas : (allows_in : Bool) → Unrolls (P.more_commas grammar allows_in)
  pub host_arguments : (at : Place) → Unrolls (P.more_host_arguments grammar at)
  pub items : Unrolls (P.more_elements grammar)
  pub fields : Unrolls (P.more_fields grammar)
  pub arguments : Unrolls (P.more_arguments grammar)
  pub members : (calls : Bool) → Unrolls (P.more_members grammar calls)
  pub declarators : (allows_in : Bool) → Unrolls (D.more_declarators grammar allows_in)
  pub statements : Unrolls (B.more_statements grammar (sees Marks.right_brace))
  pub case_statements : Unrolls (B.more_statements grammar (λ r. Ok (S.starts_with_case_end grammar r.tokens, r)))
  pub cases : Unrolls (S.more_cases grammar)

-- ---- what is left

-- the tokens that are left are those without some at the front, at least one
abbrev pub IsBehind : List Token → List Token → Type 0
IsBehind all left = (n : ℕ) × (1 ≤ n) × (left ≡ drop n all)

abbrev pub GoesOn : {A : Type 0} → Reading A → Type 0
GoesOn m = (s : Rest) → IfOk (m s) (λ x. IsBehind s.tokens x.1.tokens)

pub record GoOn : Type 0 where
  pub assignment : (allows_in : Bool) → GoesOn (grammar.assignment allows_in)
  pub unary : GoesOn grammar.unary
  pub member : GoesOn grammar.member
  pub statement : GoesOn grammar.statement
  pub element : GoesOn grammar.element

-- ---- limits

-- a greater limit changes only that something is nested too deep
abbrev pub LimitsNesting : Type 0
LimitsNesting =
    (tokens : Tokens) (limit greater : ℕ) → limit ≤ greater → ((at : Place) → read tokens limit ≢ Err (Nested at))
    → read tokens greater ≡ read tokens limit
