-- The tokens of statements as they are printed (12), with the ends of lines.
use Rattle.std.specs.Prelude.{ℕ, ◌&&◌, ◌==◌, Bool, true, false, not, List, [], ◌∷◌, ◌++◌, length, codes, Option, Some, None}
use Rattle.std.specs.List.{flat_map}
use Rattle.js_value.specs.declared.place.FuncNo.{FuncNo}
use Rattle.js_tree.specs.declared.expression.Expr.{Expr}
use Rattle.js_tree.specs.declared.statement.Declarator.{Declarator}
use Rattle.js_tree.specs.declared.statement.ForStart.{ForStart}
use Rattle.js_tree.specs.declared.statement.ForStart.TheVariants as start
use Rattle.js_tree.specs.declared.statement.ForTarget.{ForTarget}
use Rattle.js_tree.specs.declared.statement.ForTarget.TheVariants as target
use Rattle.js_tree.specs.declared.statement.Func.{Func}
use Rattle.js_tree.specs.declared.statement.Name.{Name}
use Rattle.js_tree.specs.declared.statement.Case.{Case, fold-Case}
use Rattle.js_tree.specs.declared.statement.Catch.{Catch, fold-Catch}
use Rattle.js_tree.specs.declared.statement.Finally.{Finally, fold-Finally}
use Rattle.js_tree.specs.declared.statement.Stmt.{Stmt, fold-Stmt}
use Rattle.js_tree.specs.declared.statement.StmtForm.{StmtForm, fold-StmtForm}
use Rattle.js_tree.specs.Mentions.{Names}
use Rattle.js_tree.specs.declared.statement.StmtForm.TheOpen.{StmtForm-F, Case-F, Catch-F, Finally-F}
use Rattle.script_text.specs.Pieces.{Piece, LineEnd, Open, Close, Bind, Release, word, closing, opening, separated}
use Rattle.script_text.specs.Expressions.{expr, maybe_expr, printed, if_grouped, name, called}

-- a statement without the end of its last line
pub record Shown : Type 0 where
  pub pieces : List Piece
  pub is_block : Bool
  -- its last token is `}`, and not `;`
  pub ends_in_brace : Bool

abbrev pub with_semicolon : List Piece → Shown
with_semicolon pieces = record { pieces = pieces ++ closing (codes ";"); is_block = false; ends_in_brace = false }

abbrev pub with_brace : List Piece → Shown
with_brace pieces = record { pieces = pieces; is_block = false; ends_in_brace = true }

-- ends as its last part does
abbrev pub ending : List Piece → Shown → Shown
ending before last = record { pieces = before ++ last.pieces; is_block = false; ends_in_brace = last.ends_in_brace }

abbrev pub line : Shown → List Piece
line s = s.pieces ++ LineEnd ∷ []

-- ---- blocks and bodies (12.1, 13)

abbrev pub begin_braces : List Piece
begin_braces = word (codes "{") ++ Open ∷ LineEnd ∷ []

abbrev pub end_braces : List Piece
end_braces = Close ∷ word (codes "}")

abbrev pub in_braces : Bool → List Piece → List Piece
in_braces is_empty inside =
    elim is_empty [ true ↦ opening (codes "{") ++ closing (codes "}") | false ↦ begin_braces ++ inside ++ end_braces ]

abbrev pub is_empty : {A : Type 0} → List A → Bool
is_empty xs = length xs == 0

abbrev pub lines : {A : Type 0} → (A → Shown) → List A → List Piece
lines show all = flat_map (λ s. line (show s)) all

abbrev pub block : {A : Type 0} → (A → Shown) → List A → List Piece
block show all = in_braces (is_empty all) (lines show all)

-- 14.1: a directive is the first line of its code
abbrev pub directive : Bool → List Piece
directive true = word (codes "\"use strict\"") ++ closing (codes ";") ++ LineEnd ∷ []
directive false = []

-- ---- lines inside a statement

-- the line ends here, unless this holds
abbrev pub line_end_unless : Bool → List Piece
line_end_unless holds = elim holds [ true ↦ [] | false ↦ LineEnd ∷ [] ]

-- `else` begins a line behind a first part that is no block (12.5)
unfoldable pub else_word : Bool → List Piece
else_word is_block = line_end_unless is_block ++ word (codes "else")

abbrev pub none_or : {A : Type 0} → Option (List A) → List A
none_or None = []
none_or (Some xs) = xs

-- 12.11: clauses are indented in their switch
abbrev pub in_switch : Bool → List Piece → List Piece
in_switch is_empty clauses =
    elim is_empty [ true ↦ word (codes "{") ++ word (codes "}") | false ↦ begin_braces ++ clauses ++ end_braces ]

abbrev pub clauses : {A : Type 0} → (A → List Piece) → List A → List Piece
clauses show all = in_switch (is_empty all) (flat_map show all)

abbrev pub clause_start : List Piece → List Piece
clause_start label = label ++ closing (codes ":") ++ Open ∷ LineEnd ∷ []

-- and statements in their clause
abbrev pub clause : List Piece → List Piece → List Piece
clause label statements = clause_start label ++ statements ++ Close ∷ []

abbrev pub for_word : List Piece
for_word = word (codes "for") ++ opening (codes "(")

-- code that binds these names
abbrev pub binding : Names → List Piece → List Piece
binding names inside = Bind names ∷ inside ++ Release ∷ []

-- 12.14
unfoldable pub catch_head : List ℕ → List Piece
catch_head text = word (codes "catch") ++ opening (codes "(") ++ name text ++ closing (codes ")")

abbrev pub parameter : Name → List Piece
parameter p = name p.text

-- 13
abbrev pub parameters : List Name → List Piece
parameters ps = opening (codes "(") ++ separated parameter ps ++ closing (codes ")")

-- the name is left out where it isn't wanted
abbrev pub own_name : Bool → Option Name → List Piece
own_name named None = []
own_name named (Some n) = elim named [ true ↦ called n.text | false ↦ [] ]

-- ---- the forms (12)

module _ (function : Bool → FuncNo → List Piece) where
  -- a word with an expression in parentheses
  unfoldable pub head : List ℕ → Expr → List Piece
  head first test = word first ++ opening (codes "(") ++ expr function 1 true test ++ closing (codes ")")

  abbrev pub initialiser : Bool → Option Expr → List Piece
  initialiser allows_in None = []
  initialiser allows_in (Some e) = word (codes "=") ++ expr function 2 allows_in e

  -- 12.2
  abbrev pub declarator : Bool → Declarator → List Piece
  declarator allows_in d = name d.name ++ initialiser allows_in d.init

  abbrev pub declarators : Bool → List Declarator → List Piece
  declarators allows_in ds = word (codes "var") ++ separated (declarator allows_in) ds

  -- 12.4: one whose first token would be `{`, `function` or a string is grouped
  abbrev pub evaluation : Expr → List Piece
  evaluation e = if_grouped (printed function e).starts true (printed function e)

  -- 12.6.3: in the first part of the header `in` is no operator
  abbrev pub for_start : ForStart → List Piece
  for_start start.Nothing = []
  for_start (start.Expr e) = expr function 1 false e
  for_start (start.Var ds) = declarators false ds

  -- 12.6.4
  abbrev pub for_target : ForTarget → List Piece
  for_target (target.Expr e) = expr function 16 false e
  for_target (target.Var at text) = word (codes "var") ++ name text

  unfoldable pub for_rest : Option Expr → Option Expr → List Piece
  for_rest test step = closing (codes ";") ++ maybe_expr function test ++ closing (codes ";") ++ maybe_expr function step ++ closing (codes ")")

  unfoldable pub for_head : ForStart → Option Expr → Option Expr → List Piece
  for_head from test step = for_word ++ for_start from ++ for_rest test step

  unfoldable pub in_rest : Expr → List Piece
  in_rest object = word (codes "in") ++ expr function 1 true object ++ closing (codes ")")

  unfoldable pub for_in_head : ForTarget → Expr → List Piece
  for_in_head to object = for_word ++ for_target to ++ in_rest object

  -- 12.6.1: the line ends behind the `;` of the body of a `do`, and not behind its `}`
  unfoldable pub end_of_do : Bool → Expr → List Piece
  end_of_do ends_in_brace test = line_end_unless ends_in_brace ++ head (codes "while") test

  abbrev pub of_form : StmtForm-F Shown (List Piece) (List Piece) (List Piece) Shown → Shown
  of_form (StmtForm-F.Var ds) = with_semicolon (declarators true ds)
  of_form (StmtForm-F.FuncDecl f) = with_brace (word (codes "function") ++ function true f)
  of_form (StmtForm-F.Eval e) = with_semicolon (evaluation e)
  of_form (StmtForm-F.Block body) = record { pieces = block (λ s. s) body; is_block = true; ends_in_brace = true }
  of_form StmtForm-F.Empty = with_semicolon []
  of_form (StmtForm-F.If test a None) = ending (head (codes "if") test) a
  of_form (StmtForm-F.If test a (Some b)) = record {
    pieces = head (codes "if") test ++ a.pieces ++ else_word a.is_block ++ b.pieces;
    is_block = false;
    ends_in_brace = b.ends_in_brace;
  }
  of_form (StmtForm-F.DoWhile body test) =
      with_semicolon (word (codes "do") ++ body.pieces ++ end_of_do body.ends_in_brace test)
  of_form (StmtForm-F.While test body) = ending (head (codes "while") test) body
  of_form (StmtForm-F.For from test step body) = ending (for_head from test step) body
  of_form (StmtForm-F.ForIn to object body) = ending (for_in_head to object) body
  of_form StmtForm-F.Continue = with_semicolon (word (codes "continue"))
  of_form StmtForm-F.Break = with_semicolon (word (codes "break"))
  of_form (StmtForm-F.Return e) = with_semicolon (word (codes "return") ++ maybe_expr function e)
  of_form (StmtForm-F.Switch e cases) =
      with_brace (head (codes "switch") e ++ clauses (λ c. c) cases)
  of_form (StmtForm-F.Throw e) = with_semicolon (word (codes "throw") ++ expr function 1 true e)
  of_form (StmtForm-F.Try body handler final) =
      with_brace (word (codes "try") ++ block (λ s. s) body ++ none_or handler ++ none_or final)

  -- 12.11: a clause without a test is the default
  abbrev pub label : Option Expr → List Piece
  label None = word (codes "default")
  label (Some e) = word (codes "case") ++ expr function 1 true e

  abbrev pub of_case : Case-F Shown (List Piece) (List Piece) (List Piece) Shown → List Piece
  of_case c = clause (label c.test) (lines (λ s. s) c.body)

  -- 12.14
  abbrev pub of_catch : Catch-F Shown (List Piece) (List Piece) (List Piece) Shown → List Piece
  of_catch c = catch_head c.name ++ binding (c.name ∷ []) (block (λ s. s) c.body)

  abbrev pub of_finally : Finally-F Shown (List Piece) (List Piece) (List Piece) Shown → List Piece
  of_finally f = word (codes "finally") ++ block (λ s. s) f.body

  abbrev pub shown_form : StmtForm → Shown
  shown_form = fold-StmtForm Shown (List Piece) (List Piece) (List Piece) Shown of_form of_case of_catch of_finally (λ s. s.form)

  abbrev pub shown_case : Case → List Piece
  shown_case = fold-Case Shown (List Piece) (List Piece) (List Piece) Shown of_form of_case of_catch of_finally (λ s. s.form)

  abbrev pub shown_catch : Catch → List Piece
  shown_catch = fold-Catch Shown (List Piece) (List Piece) (List Piece) Shown of_form of_case of_catch of_finally (λ s. s.form)

  abbrev pub shown_finally : Finally → List Piece
  shown_finally = fold-Finally Shown (List Piece) (List Piece) (List Piece) Shown of_form of_case of_catch of_finally (λ s. s.form)

  abbrev pub shown : Stmt → Shown
  shown = fold-Stmt Shown (List Piece) (List Piece) (List Piece) Shown of_form of_case of_catch of_finally (λ s. s.form)

  -- ---- functions (13)

  -- the statements of code, behind its directive
  abbrev pub code : Bool → List Stmt → List Piece
  code is_directive body = directive is_directive ++ lines shown body

  abbrev pub body : Func → List Piece
  body f = in_braces (is_empty f.body && not f.directive) (code f.directive f.body)

  -- a function behind the word that begins it, by the names that it binds
  abbrev pub func : Names → Bool → Func → List Piece
  func names named f = own_name named f.name ++ binding names (parameters f.params ++ body f)
