-- Statements, where their parts read.
use Rattle.std.proofs.Common.{◌≡◌, ℕ, Bool, true, false, List, [], ◌∷◌, refl}
use Rattle.std.specs.Prelude.{nat_lt, codes, Option, Some, None}
use Rattle.std.specs.List.{list_all, flat_map}
use Rattle.std.proofs.lemmas.Bool.{and_parts, both_ways}
use Rattle.js_value.specs.declared.place.FuncNo.{FuncNo}
use Rattle.js_tree.specs.declared.expression.Expr.{Expr}
use Rattle.js_tree.specs.declared.statement.Declarator.{Declarator}
use Rattle.js_tree.specs.declared.statement.ForStart.{ForStart}
use Rattle.js_tree.specs.declared.statement.ForStart.TheVariants as start
use Rattle.js_tree.specs.declared.statement.ForTarget.{ForTarget}
use Rattle.js_tree.specs.declared.statement.ForTarget.TheVariants as target
use Rattle.js_tree.specs.declared.statement.Func.{Func}
use Rattle.js_tree.specs.declared.statement.StmtForm.TheOpen.{StmtForm-F, Case-F, Catch-F, Finally-F}
use Rattle.js_grammar.specs.ReadableWords.{is_identifier}
use Rattle.js_grammar.specs.ReadableExpressions as R
use Rattle.js_grammar.specs.Readable as Q
use Rattle.script_text.specs.Pieces.{Piece, word, separated}
use Rattle.script_text.specs.Expressions.{expr, maybe_expr, printed}
use Rattle.script_text.specs.Statements as S
use Rattle.script_text.specs.Statements.{Shown, with_semicolon, line, lines, begin_braces, end_braces, in_braces, block, is_empty, directive, line_end_unless, else_word, none_or, in_switch, clause, for_word, binding, catch_head}
use Rattle.lexing_back.proofs.Spots.{Spot, Anything, Ended, Pointed, Begun, Fielded, implies, Runs, joined, implies-self, nothing, from, to}
use Rattle.lexing_back.proofs.Single as one
use Rattle.lexing_back.proofs.Parts.{Each, FunctionsRun, at-runs, if_grouped-runs, ended-edge, commas-run}
use Rattle.lexing_back.proofs.Expressions.{expression-prints, is_name-identifier}

-- A statement's pieces lead from a spot behind it to one behind any expression.
pub record Shows (s : Shown) : Type 0 where
  pub runs : Runs Ended Ended s.pieces

semicolon : {p : Spot} {ps : List Piece} → Runs Fielded p ps → implies p Ended ≡ true → Shows (with_semicolon ps)
semicolon is i = record { runs = from Ended refl (to Ended i (joined is refl one.semicolon-runs)) }

shows : {p q : Spot} {ps : List Piece} (is_block ends : Bool) → Runs p q ps → implies Ended p ≡ true → implies q Ended ≡ true → Shows (record { pieces = ps; is_block = is_block; ends_in_brace = ends })
shows is_block ends is i j = record { runs = from Ended i (to Ended j is) }

-- ---- lists of lines (12.1)

line-runs : (s : Shown) → Shows s → Runs Anything Ended (line s)
line-runs s is = joined is.runs refl one.LineEnd-runs

pub lines-run : {A : Type 0} (show : A → Shown) (all : List A) → Each (λ x. Shows (show x)) all → Runs Anything Anything (lines show all)
lines-run show [] each = nothing Anything refl
lines-run show (x ∷ xs) each = to Anything refl (joined (line-runs (show x) each.0) refl (lines-run show xs each.1))

begin_braces-run : Runs Anything Begun begin_braces
begin_braces-run = joined one.left_brace-runs refl (joined (one.Open-runs Ended) refl one.LineEnd-runs)

end_braces-run : Runs Anything Begun end_braces
end_braces-run = joined (one.Close-runs Begun) refl one.brace-runs

pub in_braces-run : (b : Bool) (inside : List Piece) → Runs Anything Anything inside → Runs Anything Begun (in_braces b inside)
in_braces-run true inside is = joined one.object-runs refl one.right_brace-runs
in_braces-run false inside is = joined (joined begin_braces-run refl is) refl end_braces-run

block-runs : {A : Type 0} (show : A → Shown) (all : List A) → Each (λ x. Shows (show x)) all → Runs Anything Begun (block show all)
block-runs show all each = in_braces-run (is_empty all) (lines show all) (lines-run show all each)

pub directive-runs : (b : Bool) → Runs Anything Anything (directive b)
directive-runs true = to Anything refl (joined one.strict-runs refl (joined one.semicolon-runs refl one.LineEnd-runs))
directive-runs false = nothing Anything refl

in_switch-runs : (b : Bool) (inside : List Piece) → Runs Anything Anything inside → Runs Anything Begun (in_switch b inside)
in_switch-runs true inside is = joined one.left_brace-runs refl one.brace-runs
in_switch-runs false inside is = joined (joined begin_braces-run refl is) refl end_braces-run

pub each-run : {A : Type 0} (show : A → List Piece) (all : List A) → Each (λ x. Runs Anything Anything (show x)) all → Runs Anything Anything (flat_map show all)
each-run show [] each = nothing Anything refl
each-run show (x ∷ xs) each = joined each.0 refl (each-run show xs each.1)

clause-runs : (label statements : List Piece) → Runs Fielded Begun label → Runs Anything Anything statements → Runs Anything Anything (clause label statements)
clause-runs label statements is all =
    to Anything refl (joined (joined (joined (joined is refl one.colon-runs) refl (joined (one.Open-runs Ended) refl one.LineEnd-runs)) refl all) refl (one.Close-runs Anything))

-- ---- words between parts

unless-runs : (b : Bool) → Runs Ended Ended (line_end_unless b)
unless-runs true = nothing Ended refl
unless-runs false = from Ended refl one.LineEnd-runs

else-runs : (b : Bool) → Runs Pointed Ended (else_word b)
unfolding else_word
else-runs b = joined (unless-runs b) refl (one.word-runs 101 (codes "lse") refl refl (λ d rest. refl))

catch_head-runs : (text : List ℕ) → is_identifier text ≡ true → Runs Anything Begun (catch_head text)
unfolding catch_head
catch_head-runs text is =
    joined (joined (joined (one.word-runs 99 (codes "atch") refl refl (λ d rest. refl)) refl one.group-runs) refl (one.name-runs text (is_name-identifier text is))) refl one.right_parenthesis-runs

pub binding-runs : {p q : Spot} (names : List (List ℕ)) (inside : List Piece) → Runs p q inside → Runs p q (binding names inside)
binding-runs {p = p} {q = q} names inside is = joined (one.Bind-runs q names) (implies-self q) (joined is (implies-self p) (one.Release-runs p))

module _ (function : Bool → FuncNo → List Piece) (functions : FunctionsRun function) (funcs : List Func) where
  abbrev Read : Expr → Type 0
  Read e = R.is_expr funcs e ≡ true

  abbrev MaybeRead : Option Expr → Type 0
  MaybeRead e = R.is_maybe funcs e ≡ true

  expr-runs : (wanted : ℕ) (allows_in : Bool) (e : Expr) → Read e → Runs Ended Begun (expr function wanted allows_in e)
  expr-runs wanted allows_in e is = at-runs wanted allows_in (printed function e) (expression-prints function functions funcs e is)

  maybe-runs : (e : Option Expr) → MaybeRead e → Runs Ended Ended (maybe_expr function e)
  maybe-runs None is = nothing Ended refl
  maybe-runs (Some e) is = to Ended refl (expr-runs 1 true e is)

  head-runs : (first : List ℕ) (test : Expr) → Runs Pointed Begun (word first) → Read test → Runs Anything Begun (S.head function first test)
  unfolding S.head
  head-runs first test mark is = joined (joined (joined mark refl one.group-runs) refl (expr-runs 1 true test is)) refl one.right_parenthesis-runs

  declarator-runs : (allows_in : Bool) (d : Declarator) → Q.is_declarator funcs d ≡ true → Runs Ended Begun (S.declarator function allows_in d)
  declarator-runs allows_in d is =
      let p = and_parts (is_identifier d.name) (R.is_maybe funcs d.init) is in
      joined (one.name-runs d.name (is_name-identifier d.name p.0)) refl (initialiser-runs allows_in d.init p.1)
    where
      initialiser-runs : (allows_in : Bool) (e : Option Expr) → MaybeRead e → Runs Ended Ended (S.initialiser function allows_in e)
      initialiser-runs allows_in None is = nothing Ended refl
      initialiser-runs allows_in (Some e) is = to Ended refl (joined one.equals-run refl (expr-runs 2 allows_in e is))

  each-declarator : (allows_in : Bool) (ds : List Declarator) → list_all (Q.is_declarator funcs) ds ≡ true → Each (λ d. Runs Ended Begun (S.declarator function allows_in d)) ds
  each-declarator allows_in [] all = tt
  each-declarator allows_in (d ∷ ds) all =
      let p = and_parts (Q.is_declarator funcs d) (list_all (Q.is_declarator funcs) ds) all in
      (declarator-runs allows_in d p.0, each-declarator allows_in ds p.1)

  declarators-run : (allows_in : Bool) (ds : List Declarator) → Q.are_declarators funcs ds ≡ true → Runs Ended Begun (S.declarators function allows_in ds)
  declarators-run allows_in [] is = absurd (both_ways false refl is)
  declarators-run allows_in (d ∷ ds) is =
      let each = each-declarator allows_in (d ∷ ds) is in
      joined (one.word-runs 118 (codes "ar") refl refl (λ d rest. refl)) refl (listed allows_in d ds each)
    where
      listed : (allows_in : Bool) (d : Declarator) (ds : List Declarator) → Each (λ d. Runs Ended Begun (S.declarator function allows_in d)) (d ∷ ds) → Runs Ended Begun (separated (S.declarator function allows_in) (d ∷ ds))
      listed allows_in d ds each = joined each.0 refl (commas-run (S.declarator function allows_in) Ended ds refl each.1)

  evaluation-runs : (e : Expr) → Read e → Runs Ended Begun (S.evaluation function e)
  evaluation-runs e is =
      let p = printed function e in
      if_grouped-runs Ended p.starts true p (expression-prints function functions funcs e is) (λ _. ended-edge (nat_lt p.level 16) p.is_number)

  for_word-runs : Runs Anything Begun for_word
  for_word-runs = joined (one.word-runs 102 (codes "or") refl refl (λ d rest. refl)) refl one.group-runs

  start-runs : (from_ : ForStart) → Q.is_start funcs from_ ≡ true → Runs Ended Anything (S.for_start function from_)
  start-runs start.Nothing is = nothing Anything refl
  start-runs (start.Expr e) is = to Anything refl (expr-runs 1 false e is)
  start-runs (start.Var ds) is = to Anything refl (declarators-run false ds is)

  rest-runs : (test step : Option Expr) → MaybeRead test → MaybeRead step → Runs Anything Fielded (S.for_rest function test step)
  unfolding S.for_rest
  rest-runs test step is also =
      joined (joined (joined (joined one.semicolon-runs refl (maybe-runs test is)) refl one.semicolon-runs) refl (maybe-runs step also)) refl one.right_parenthesis-runs

  for_head-runs : (from_ : ForStart) (test step : Option Expr) → Q.is_start funcs from_ ≡ true → MaybeRead test → MaybeRead step → Runs Anything Begun (S.for_head function from_ test step)
  unfolding S.for_head
  for_head-runs from_ test step begin is also = joined (joined for_word-runs refl (start-runs from_ begin)) refl (rest-runs test step is also)

  target-runs : (t : ForTarget) → Q.is_for_target funcs t ≡ true → Runs Ended Begun (S.for_target function t)
  target-runs (target.Expr e) is = expr-runs 16 false e (and_parts (R.is_expr funcs e) ((R.in_expr funcs e).is_target) is).0
  target-runs (target.Var at name) is = from Ended refl (joined (one.word-runs 118 (codes "ar") refl refl (λ d rest. refl)) refl (one.name-runs name (is_name-identifier name is)))

  in_rest-runs : (e : Expr) → Read e → Runs Anything Begun (S.in_rest function e)
  unfolding S.in_rest
  in_rest-runs e is = joined (joined (one.word-runs 105 (codes "n") refl refl (λ d rest. refl)) refl (expr-runs 1 true e is)) refl one.right_parenthesis-runs

  for_in_head-runs : (t : ForTarget) (e : Expr) → Q.is_for_target funcs t ≡ true → Read e → Runs Anything Begun (S.for_in_head function t e)
  unfolding S.for_in_head
  for_in_head-runs t e to_ is = joined (joined for_word-runs refl (target-runs t to_)) refl (in_rest-runs e is)

  end_of_do-runs : (b : Bool) (test : Expr) → Read test → Runs Anything Ended (S.end_of_do function b test)
  unfolding S.end_of_do
  end_of_do-runs b test is = joined (unless-runs b) refl (head-runs (codes "while") test (one.word-runs 119 (codes "hile") refl refl (λ d rest. refl)) is)

  -- ---- the forms (12)

  abbrev MaybePart : Option (List Piece) → Type 0
  MaybePart None = Unit {0}
  MaybePart (Some ps) = Runs Anything Anything ps

  part-runs : (o : Option (List Piece)) → MaybePart o → Runs Anything Anything (none_or o)
  part-runs None is = nothing Anything refl
  part-runs (Some ps) is = is

  abbrev pub PartsRead : StmtForm-F Shown (List Piece) (List Piece) (List Piece) Shown → Type 0
  PartsRead (StmtForm-F.Var ds) = Q.are_declarators funcs ds ≡ true
  PartsRead (StmtForm-F.Eval e) = Read e
  PartsRead (StmtForm-F.Block body) = Each Shows body
  PartsRead (StmtForm-F.If test a None) = Read test × Shows a
  PartsRead (StmtForm-F.If test a (Some b)) = Read test × Shows a × Shows b
  PartsRead (StmtForm-F.DoWhile body test) = Shows body × Read test
  PartsRead (StmtForm-F.While test body) = Read test × Shows body
  PartsRead (StmtForm-F.For from_ test step body) = (Q.is_start funcs from_ ≡ true) × MaybeRead test × MaybeRead step × Shows body
  PartsRead (StmtForm-F.ForIn to_ e body) = (Q.is_for_target funcs to_ ≡ true) × Read e × Shows body
  PartsRead (StmtForm-F.Return e) = MaybeRead e
  PartsRead (StmtForm-F.Switch e cases) = Read e × Each (λ ps. Runs Anything Anything ps) cases
  PartsRead (StmtForm-F.Throw e) = Read e
  PartsRead (StmtForm-F.Try body handler final) = Each Shows body × MaybePart handler × MaybePart final
  PartsRead _ = Unit {0}

  pub form-shows : (f : StmtForm-F Shown (List Piece) (List Piece) (List Piece) Shown) → PartsRead f → Shows (S.of_form function f)
  form-shows (StmtForm-F.Var ds) is = semicolon (from Fielded refl (declarators-run true ds is)) refl
  form-shows (StmtForm-F.FuncDecl f) is = shows false true (joined (one.word-runs 102 (codes "unction") refl refl (λ d rest. refl)) refl (functions.expression f)) refl refl
  form-shows (StmtForm-F.Eval e) is = semicolon (from Fielded refl (evaluation-runs e is)) refl
  form-shows (StmtForm-F.Block body) is = shows true true (block-runs (λ s. s) body is) refl refl
  form-shows StmtForm-F.Empty is = semicolon (nothing Fielded refl) refl
  form-shows (StmtForm-F.If test a None) is = shows false a.ends_in_brace (joined (head-runs (codes "if") test (one.word-runs 105 (codes "f") refl refl (λ d rest. refl)) is.0) refl is.1.runs) refl refl
  form-shows (StmtForm-F.If test a (Some b)) is =
      shows false b.ends_in_brace (joined (joined (joined (head-runs (codes "if") test (one.word-runs 105 (codes "f") refl refl (λ d rest. refl)) is.0) refl is.1.runs) refl (else-runs a.is_block)) refl is.2.runs) refl refl
  form-shows (StmtForm-F.DoWhile body test) is = semicolon (from Fielded refl (joined (joined (one.word-runs 100 (codes "o") refl refl (λ d rest. refl)) refl is.0.runs) refl (end_of_do-runs body.ends_in_brace test is.1))) refl
  form-shows (StmtForm-F.While test body) is = shows false body.ends_in_brace (joined (head-runs (codes "while") test (one.word-runs 119 (codes "hile") refl refl (λ d rest. refl)) is.0) refl is.1.runs) refl refl
  form-shows (StmtForm-F.For from_ test step body) is = shows false body.ends_in_brace (joined (for_head-runs from_ test step is.0 is.1 is.2) refl is.3.runs) refl refl
  form-shows (StmtForm-F.ForIn to_ e body) is = shows false body.ends_in_brace (joined (for_in_head-runs to_ e is.0 is.1) refl is.2.runs) refl refl
  form-shows StmtForm-F.Continue is = semicolon (from Fielded refl (one.word-runs 99 (codes "ontinue") refl refl (λ d rest. refl))) refl
  form-shows StmtForm-F.Break is = semicolon (from Fielded refl (one.word-runs 98 (codes "reak") refl refl (λ d rest. refl))) refl
  form-shows (StmtForm-F.Return e) is = semicolon (from Fielded refl (joined (one.word-runs 114 (codes "eturn") refl refl (λ d rest. refl)) refl (maybe-runs e is))) refl
  form-shows (StmtForm-F.Switch e cases) is =
      shows false true (joined (head-runs (codes "switch") e (one.word-runs 115 (codes "witch") refl refl (λ d rest. refl)) is.0) refl (in_switch-runs (is_empty cases) (flat_map (λ c. c) cases) (each-run (λ c. c) cases is.1))) refl refl
  form-shows (StmtForm-F.Throw e) is = semicolon (from Fielded refl (joined (one.word-runs 116 (codes "hrow") refl refl (λ d rest. refl)) refl (expr-runs 1 true e is))) refl
  form-shows (StmtForm-F.Try body handler final) is =
      shows false true (joined (joined (joined (one.word-runs 116 (codes "ry") refl refl (λ d rest. refl)) refl (block-runs (λ s. s) body is.0)) refl (part-runs handler is.1)) refl (part-runs final is.2)) refl refl

  label-runs : (test : Option Expr) → MaybeRead test → Runs Fielded Begun (S.label function test)
  label-runs None is = from Fielded refl (one.word-runs 100 (codes "efault") refl refl (λ d rest. refl))
  label-runs (Some e) is = from Fielded refl (joined (one.word-runs 99 (codes "ase") refl refl (λ d rest. refl)) refl (expr-runs 1 true e is))

  pub case-runs : (c : Case-F Shown (List Piece) (List Piece) (List Piece) Shown) → MaybeRead c.test → Each Shows c.body → Runs Anything Anything (S.of_case function c)
  case-runs c is body = clause-runs (S.label function c.test) (lines (λ s. s) c.body) (label-runs c.test is) (lines-run (λ s. s) c.body body)

  pub catch-runs : (c : Catch-F Shown (List Piece) (List Piece) (List Piece) Shown) → is_identifier c.name ≡ true → Each Shows c.body → Runs Anything Anything (S.of_catch function c)
  catch-runs c is body = to Anything refl (joined (catch_head-runs c.name is) refl (binding-runs (c.name ∷ []) (block (λ s. s) c.body) (block-runs (λ s. s) c.body body)))

  pub finally-runs : (f : Finally-F Shown (List Piece) (List Piece) (List Piece) Shown) → Each Shows f.body → Runs Anything Anything (S.of_finally function f)
  finally-runs f body = to Anything refl (joined (one.word-runs 102 (codes "inally") refl refl (λ d rest. refl)) refl (block-runs (λ s. s) f.body body))
