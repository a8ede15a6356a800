-- What is printed of each form of statements.
use Rattle.std.proofs.Common.{◌≡◌, ◌<◌, ℕ, ◌+◌, List, [], ◌∷◌, ◌++◌, ap, sym, ◌∙◌, Bool, true, map, length, take, get_or, append-nil}
use Rattle.std.specs.Prelude.{codes, Option, Some, None, ◌==◌}
use Rattle.std.specs.List.{flat_map}
use Rattle.std.proofs.lemmas.Grind.{flat_map-append}
use Rattle.std.proofs.lemmas.List.{take_more, length-map}
use Rattle.std.proofs.lemmas.List.Folds.{flat_map-map}
use Rattle.js_value.specs.declared.place.FuncNo.{FuncNo}
use Rattle.js_tree.specs.declared.expression.Expr.{Expr}
use Rattle.js_tree.specs.declared.statement.Case.{Case, out-Case}
use Rattle.js_tree.specs.declared.statement.Catch.{Catch, out-Catch}
use Rattle.js_tree.specs.declared.statement.Declarator.{Declarator}
use Rattle.js_tree.specs.declared.statement.Finally.{Finally, out-Finally}
use Rattle.js_tree.specs.declared.statement.ForStart.{ForStart}
use Rattle.js_tree.specs.declared.statement.ForTarget.{ForTarget}
use Rattle.js_tree.specs.declared.statement.Stmt.{Stmt}
use Rattle.js_tree.specs.declared.statement.StmtForm.{StmtForm, out-StmtForm}
use Rattle.js_tree.specs.declared.statement.StmtForm.TheOpen.{StmtForm-F}
use Rattle.js_tree.specs.declared.statement.StmtForm.TheFolds.{map-StmtForm, fold_out-StmtForm, fold_out-Case, fold_out-Catch, fold_out-Finally, fold_out-Stmt}
use Rattle.js_tree.specs.declared.statement.StmtForm.TheVariants as s
use Rattle.script_text.specs.Pieces.{Piece, LineEnd, Close, Bind, Release, word, closing}
use Rattle.token_sheets.specs.Sheets.{put, put_all}
use Rattle.token_sheets.specs.declared.sheet.Sheet.{Sheet}
use Rattle.script_text.specs.Expressions.{expr, maybe_expr}
use Rattle.script_text.specs.Statements.{Shown, of_form, of_case, of_catch, of_finally, shown, shown_form, shown_case, shown_catch, shown_finally}
use Rattle.script_text.specs.Statements.{declarators, evaluation, head, block, else_word, end_of_do, for_head, for_in_head, clauses, line, lines, label, clause_start, catch_head, binding, is_empty, in_braces, in_switch}
use Rattle.token_sheets.proofs.Putting.{put_all-append}

is_empty-along : {A B : Type 0} (v : A → B) (xs : List A) → is_empty (map v xs) ≡ is_empty xs
is_empty-along v xs = ap (λ n. n == 0) (length-map xs v)

pub lines-along : {A B : Type 0} (f : B → Shown) (v : A → B) (xs : List A) → lines f (map v xs) ≡ lines (λ x. f (v x)) xs
lines-along f v xs = flat_map-map (λ s. line (f s)) v xs

pub block-along : {A B : Type 0} (f : B → Shown) (v : A → B) (xs : List A) → block f (map v xs) ≡ block (λ x. f (v x)) xs
block-along f v xs = ap (λ b. in_braces b (lines f (map v xs))) (is_empty-along v xs) ∙ ap (in_braces (is_empty xs)) (lines-along f v xs)

clauses-along : {A B : Type 0} (f : B → List Piece) (v : A → B) (xs : List A) → clauses f (map v xs) ≡ clauses (λ x. f (v x)) xs
clauses-along f v xs = ap (λ b. in_switch b (flat_map f (map v xs))) (is_empty-along v xs) ∙ ap (in_switch (is_empty xs)) (flat_map-map f v xs)

-- one more line, and one more clause
pub lines-push : {A : Type 0} (f : A → Shown) (xs : List A) (i : ℕ) (x : A) → i < length xs → x ≡ get_or xs i x → (p : Sheet)
    → put_all (lines f (take (i + 1) xs)) p ≡ put (put_all (f x).pieces (put_all (lines f (take i xs)) p)) LineEnd
lines-push f xs i x below is p =
    ap (λ ys. put_all (lines f ys) p) (take_more xs i x below)
    ∙ ap (λ z. put_all (lines f (take i xs ++ z ∷ [])) p) (sym is)
    ∙ ap (λ ys. put_all ys p) (flat_map-append (λ s. line (f s)) (take i xs) (x ∷ []))
    ∙ put_all-append (lines f (take i xs)) (line (f x) ++ []) p
    ∙ ap (λ ys. put_all ys (put_all (lines f (take i xs)) p)) (append-nil (line (f x)))
    ∙ put_all-append (f x).pieces (LineEnd ∷ []) (put_all (lines f (take i xs)) p)

pub parts-push : {A : Type 0} (f : A → List Piece) (xs : List A) (i : ℕ) (x : A) → i < length xs → x ≡ get_or xs i x → (p : Sheet)
    → put_all (flat_map f (take (i + 1) xs)) p ≡ put_all (f x) (put_all (flat_map f (take i xs)) p)
parts-push f xs i x below is p =
    ap (λ ys. put_all (flat_map f ys) p) (take_more xs i x below)
    ∙ ap (λ z. put_all (flat_map f (take i xs ++ z ∷ [])) p) (sym is)
    ∙ ap (λ ys. put_all ys p) (flat_map-append f (take i xs) (x ∷ []))
    ∙ put_all-append (flat_map f (take i xs)) (f x ++ []) p
    ∙ ap (λ ys. put_all ys (put_all (flat_map f (take i xs)) p)) (append-nil (f x))

module _ (function : Bool → FuncNo → List Piece) where
  shown_is : (form : StmtForm) (layer : StmtForm-F StmtForm Case Catch Finally Stmt) → out-StmtForm form ≡ layer
      → shown_form function form
      ≡ of_form function (map-StmtForm StmtForm Case Catch Finally Stmt Shown (List Piece) (List Piece) (List Piece) Shown (shown_form function) (shown_case function) (shown_catch function) (shown_finally function) (shown function) layer)
  shown_is form layer e =
      fold_out-StmtForm Shown (List Piece) (List Piece) (List Piece) Shown (of_form function) (of_case function) (of_catch function) (of_finally function) (λ s. s.form) form
      ∙ ap (λ l. of_form function (map-StmtForm StmtForm Case Catch Finally Stmt Shown (List Piece) (List Piece) (List Piece) Shown (shown_form function) (shown_case function) (shown_catch function) (shown_finally function) (shown function) l)) e

  -- a statement goes by its form
  pub shown-form : (s : Stmt) → shown function s ≡ shown_form function s.form
  shown-form s = fold_out-Stmt Shown (List Piece) (List Piece) (List Piece) Shown (of_form function) (of_case function) (of_catch function) (of_finally function) (λ s. s.form) s

  puts : (form : StmtForm) (layer : StmtForm-F StmtForm Case Catch Finally Stmt) (p : Sheet) → out-StmtForm form ≡ layer
      → put_all (shown_form function form).pieces p
      ≡ put_all (of_form function (map-StmtForm StmtForm Case Catch Finally Stmt Shown (List Piece) (List Piece) (List Piece) Shown (shown_form function) (shown_case function) (shown_catch function) (shown_finally function) (shown function) layer)).pieces p
  puts form layer p e = ap (λ (x : Shown). put_all x.pieces p) (shown_is form layer e)

  pub put-Var : (ds : List Declarator) (p : Sheet) → put_all (shown_form function (s.Var ds)).pieces p ≡ put_all (closing (codes ";")) (put_all (declarators function true ds) p)
  put-Var ds p =
      puts (s.Var ds) _ p (s.outs-Var ds)
      ∙ put_all-append (declarators function true ds) (closing (codes ";")) p

  pub put-FuncDecl : (f : FuncNo) (p : Sheet) → put_all (shown_form function (s.FuncDecl f)).pieces p ≡ put_all (function true f) (put_all (word (codes "function")) p)
  put-FuncDecl f p =
      puts (s.FuncDecl f) _ p (s.outs-FuncDecl f)
      ∙ put_all-append (word (codes "function")) (function true f) p

  pub put-Eval : (e : Expr) (p : Sheet) → put_all (shown_form function (s.Eval e)).pieces p ≡ put_all (closing (codes ";")) (put_all (evaluation function e) p)
  put-Eval e p =
      puts (s.Eval e) _ p (s.outs-Eval e)
      ∙ put_all-append (evaluation function e) (closing (codes ";")) p

  pub put-Block : (body : List Stmt) (p : Sheet) → put_all (shown_form function (s.Block body)).pieces p ≡ put_all (block (shown function) body) p
  put-Block body p =
      puts (s.Block body) _ p (s.outs-Block body)
      ∙ ap (λ ys. put_all ys p) (block-along (λ s. s) (shown function) body)

  pub put-Empty : (p : Sheet) → put_all (shown_form function s.Empty).pieces p ≡ put_all (closing (codes ";")) p
  put-Empty p =
      puts s.Empty _ p s.outs-Empty

  pub put-If : (test : Expr) (a : Stmt) (p : Sheet) → put_all (shown_form function (s.If test a None)).pieces p ≡ put_all ((shown function a).pieces) (put_all (head function (codes "if") test) p)
  put-If test a p =
      puts (s.If test a None) _ p (s.outs-If test a None)
      ∙ put_all-append (head function (codes "if") test) ((shown function a).pieces) p

  pub put-Else : (test : Expr) (a : Stmt) (b : Stmt) (p : Sheet) → put_all (shown_form function (s.If test a (Some b))).pieces p ≡ put_all ((shown function b).pieces) (put_all (else_word (shown function a).is_block) (put_all ((shown function a).pieces) (put_all (head function (codes "if") test) p)))
  put-Else test a b p =
      puts (s.If test a (Some b)) _ p (s.outs-If test a (Some b))
      ∙ put_all-append (head function (codes "if") test ++ (shown function a).pieces ++ else_word (shown function a).is_block) ((shown function b).pieces) p
      ∙ ap (put_all ((shown function b).pieces)) (put_all-append (head function (codes "if") test ++ (shown function a).pieces) (else_word (shown function a).is_block) p ∙ ap (put_all (else_word (shown function a).is_block)) (put_all-append (head function (codes "if") test) ((shown function a).pieces) p))

  pub put-DoWhile : (body : Stmt) (test : Expr) (p : Sheet) → put_all (shown_form function (s.DoWhile body test)).pieces p ≡ put_all (closing (codes ";")) (put_all (end_of_do function (shown function body).ends_in_brace test) (put_all ((shown function body).pieces) (put_all (word (codes "do")) p)))
  put-DoWhile body test p =
      puts (s.DoWhile body test) _ p (s.outs-DoWhile body test)
      ∙ put_all-append (word (codes "do") ++ (shown function body).pieces ++ end_of_do function (shown function body).ends_in_brace test) (closing (codes ";")) p
      ∙ ap (put_all (closing (codes ";"))) (put_all-append (word (codes "do") ++ (shown function body).pieces) (end_of_do function (shown function body).ends_in_brace test) p ∙ ap (put_all (end_of_do function (shown function body).ends_in_brace test)) (put_all-append (word (codes "do")) ((shown function body).pieces) p))

  pub put-While : (test : Expr) (body : Stmt) (p : Sheet) → put_all (shown_form function (s.While test body)).pieces p ≡ put_all ((shown function body).pieces) (put_all (head function (codes "while") test) p)
  put-While test body p =
      puts (s.While test body) _ p (s.outs-While test body)
      ∙ put_all-append (head function (codes "while") test) ((shown function body).pieces) p

  pub put-For : (from : ForStart) (test : Option Expr) (step : Option Expr) (body : Stmt) (p : Sheet) → put_all (shown_form function (s.For from test step body)).pieces p ≡ put_all ((shown function body).pieces) (put_all (for_head function from test step) p)
  put-For from test step body p =
      puts (s.For from test step body) _ p (s.outs-For from test step body)
      ∙ put_all-append (for_head function from test step) ((shown function body).pieces) p

  pub put-ForIn : (to : ForTarget) (object : Expr) (body : Stmt) (p : Sheet) → put_all (shown_form function (s.ForIn to object body)).pieces p ≡ put_all ((shown function body).pieces) (put_all (for_in_head function to object) p)
  put-ForIn to object body p =
      puts (s.ForIn to object body) _ p (s.outs-ForIn to object body)
      ∙ put_all-append (for_in_head function to object) ((shown function body).pieces) p

  pub put-Continue : (p : Sheet) → put_all (shown_form function s.Continue).pieces p ≡ put_all (closing (codes ";")) (put_all (word (codes "continue")) p)
  put-Continue p =
      puts s.Continue _ p s.outs-Continue
      ∙ put_all-append (word (codes "continue")) (closing (codes ";")) p

  pub put-Break : (p : Sheet) → put_all (shown_form function s.Break).pieces p ≡ put_all (closing (codes ";")) (put_all (word (codes "break")) p)
  put-Break p =
      puts s.Break _ p s.outs-Break
      ∙ put_all-append (word (codes "break")) (closing (codes ";")) p

  pub put-Return : (e : Option Expr) (p : Sheet) → put_all (shown_form function (s.Return e)).pieces p ≡ put_all (closing (codes ";")) (put_all (maybe_expr function e) (put_all (word (codes "return")) p))
  put-Return e p =
      puts (s.Return e) _ p (s.outs-Return e)
      ∙ put_all-append (word (codes "return") ++ maybe_expr function e) (closing (codes ";")) p
      ∙ ap (put_all (closing (codes ";"))) (put_all-append (word (codes "return")) (maybe_expr function e) p)

  pub put-Throw : (e : Expr) (p : Sheet) → put_all (shown_form function (s.Throw e)).pieces p ≡ put_all (closing (codes ";")) (put_all (expr function 1 true e) (put_all (word (codes "throw")) p))
  put-Throw e p =
      puts (s.Throw e) _ p (s.outs-Throw e)
      ∙ put_all-append (word (codes "throw") ++ expr function 1 true e) (closing (codes ";")) p
      ∙ ap (put_all (closing (codes ";"))) (put_all-append (word (codes "throw")) (expr function 1 true e) p)

  pub put-Switch : (e : Expr) (cases : List Case) (p : Sheet) → put_all (shown_form function (s.Switch e cases)).pieces p ≡ put_all (clauses (shown_case function) cases) (put_all (head function (codes "switch") e) p)
  put-Switch e cases p =
      puts (s.Switch e cases) _ p (s.outs-Switch e cases)
      ∙ ap (λ ys. put_all (head function (codes "switch") e ++ ys) p) (clauses-along (λ c. c) (shown_case function) cases)
      ∙ put_all-append (head function (codes "switch") e) (clauses (shown_case function) cases) p

  -- an absent part at the end
  no_last : (xs : List Piece) (p : Sheet) → put_all (xs ++ []) p ≡ put_all xs p
  no_last xs p = ap (λ ys. put_all ys p) (append-nil xs)

  pub put-Try : (body : List Stmt) (p : Sheet) → put_all (shown_form function (s.Try body None None)).pieces p ≡ put_all (block (shown function) body) (put_all (word (codes "try")) p)
  put-Try body p =
      puts (s.Try body None None) _ p (s.outs-Try body None None)
      ∙ ap (λ ys. put_all (word (codes "try") ++ ys ++ [] ++ []) p) (block-along (λ s. s) (shown function) body)
      ∙ no_last (word (codes "try") ++ block (shown function) body ++ []) p ∙ no_last (word (codes "try") ++ block (shown function) body) p
      ∙ put_all-append (word (codes "try")) (block (shown function) body) p

  pub put-TryCatch : (body : List Stmt) (handler : Catch) (p : Sheet)
      → put_all (shown_form function (s.Try body (Some handler) None)).pieces p ≡ put_all (shown_catch function handler) (put_all (block (shown function) body) (put_all (word (codes "try")) p))
  put-TryCatch body handler p =
      puts (s.Try body (Some handler) None) _ p (s.outs-Try body (Some handler) None)
      ∙ ap (λ ys. put_all (word (codes "try") ++ ys ++ shown_catch function handler ++ []) p) (block-along (λ s. s) (shown function) body)
      ∙ no_last (word (codes "try") ++ block (shown function) body ++ shown_catch function handler) p
      ∙ put_all-append (word (codes "try") ++ block (shown function) body) (shown_catch function handler) p
      ∙ ap (put_all (shown_catch function handler)) (put_all-append (word (codes "try")) (block (shown function) body) p)

  pub put-TryFinally : (body : List Stmt) (last : Finally) (p : Sheet)
      → put_all (shown_form function (s.Try body None (Some last))).pieces p ≡ put_all (shown_finally function last) (put_all (block (shown function) body) (put_all (word (codes "try")) p))
  put-TryFinally body last p =
      puts (s.Try body None (Some last)) _ p (s.outs-Try body None (Some last))
      ∙ ap (λ ys. put_all (word (codes "try") ++ ys ++ [] ++ shown_finally function last) p) (block-along (λ s. s) (shown function) body)
      ∙ ap (λ ys. put_all (ys ++ shown_finally function last) p) (append-nil (word (codes "try") ++ block (shown function) body))
      ∙ put_all-append (word (codes "try") ++ block (shown function) body) (shown_finally function last) p
      ∙ ap (put_all (shown_finally function last)) (put_all-append (word (codes "try")) (block (shown function) body) p)

  pub put-TryBoth : (body : List Stmt) (handler : Catch) (last : Finally) (p : Sheet)
      → put_all (shown_form function (s.Try body (Some handler) (Some last))).pieces p ≡ put_all (shown_finally function last) (put_all (shown_catch function handler) (put_all (block (shown function) body) (put_all (word (codes "try")) p)))
  put-TryBoth body handler last p =
      puts (s.Try body (Some handler) (Some last)) _ p (s.outs-Try body (Some handler) (Some last))
      ∙ ap (λ ys. put_all (word (codes "try") ++ ys ++ shown_catch function handler ++ shown_finally function last) p) (block-along (λ s. s) (shown function) body)
      ∙ put_all-append (word (codes "try") ++ block (shown function) body ++ shown_catch function handler) (shown_finally function last) p
      ∙ ap (put_all (shown_finally function last)) (put_all-append (word (codes "try") ++ block (shown function) body) (shown_catch function handler) p ∙ ap (put_all (shown_catch function handler)) (put_all-append (word (codes "try")) (block (shown function) body) p))

  pub put-Case : (c : Case) (p : Sheet) → put_all (shown_case function c) p ≡ put_all (Close ∷ []) (put_all (lines (shown function) (out-Case c).body) (put_all (clause_start (label function (out-Case c).test)) p))
  put-Case c p =
      ap (λ ys. put_all ys p) (fold_out-Case Shown (List Piece) (List Piece) (List Piece) Shown (of_form function) (of_case function) (of_catch function) (of_finally function) (λ s. s.form) c)
      ∙ ap (λ ys. put_all (clause_start (label function (out-Case c).test) ++ ys ++ Close ∷ []) p) (lines-along (λ s. s) (shown function) (out-Case c).body)
      ∙ put_all-append (clause_start (label function (out-Case c).test) ++ lines (shown function) (out-Case c).body) (Close ∷ []) p
      ∙ ap (put_all (Close ∷ [])) (put_all-append (clause_start (label function (out-Case c).test)) (lines (shown function) (out-Case c).body) p)

  pub put-Catch : (c : Catch) (p : Sheet) → put_all (shown_catch function c) p ≡ put (put_all (block (shown function) (out-Catch c).body) (put (put_all (catch_head (out-Catch c).name) p) (Bind ((out-Catch c).name ∷ [])))) Release
  put-Catch c p =
      let name = (out-Catch c).name in
      let inside = block (shown function) (out-Catch c).body in
      ap (λ ys. put_all ys p) (fold_out-Catch Shown (List Piece) (List Piece) (List Piece) Shown (of_form function) (of_case function) (of_catch function) (of_finally function) (λ s. s.form) c)
      ∙ ap (λ ys. put_all (catch_head name ++ binding (name ∷ []) ys) p) (block-along (λ s. s) (shown function) (out-Catch c).body)
      ∙ put_all-append (catch_head name) (binding (name ∷ []) inside) p
      ∙ put_all-append inside (Release ∷ []) (put (put_all (catch_head name) p) (Bind (name ∷ [])))

  pub put-Finally : (f : Finally) (p : Sheet) → put_all (shown_finally function f) p ≡ put_all (block (shown function) (out-Finally f).body) (put_all (word (codes "finally")) p)
  put-Finally f p =
      ap (λ ys. put_all ys p) (fold_out-Finally Shown (List Piece) (List Piece) (List Piece) Shown (of_form function) (of_case function) (of_catch function) (of_finally function) (λ s. s.form) f)
      ∙ ap (λ ys. put_all (word (codes "finally") ++ ys) p) (block-along (λ s. s) (shown function) (out-Finally f).body)
      ∙ put_all-append (word (codes "finally")) (block (shown function) (out-Finally f).body) p

  pub ends-If : (test : Expr) (a : Stmt) → (shown_form function (s.If test a None)).ends_in_brace ≡ (shown function a).ends_in_brace
  ends-If test a = ap (λ (x : Shown). x.ends_in_brace) (shown_is (s.If test a None) _ (s.outs-If test a None))

  pub ends-Else : (test : Expr) (a : Stmt) (b : Stmt) → (shown_form function (s.If test a (Some b))).ends_in_brace ≡ (shown function b).ends_in_brace
  ends-Else test a b = ap (λ (x : Shown). x.ends_in_brace) (shown_is (s.If test a (Some b)) _ (s.outs-If test a (Some b)))

  pub ends-While : (test : Expr) (body : Stmt) → (shown_form function (s.While test body)).ends_in_brace ≡ (shown function body).ends_in_brace
  ends-While test body = ap (λ (x : Shown). x.ends_in_brace) (shown_is (s.While test body) _ (s.outs-While test body))

  pub ends-For : (from : ForStart) (test : Option Expr) (step : Option Expr) (body : Stmt) → (shown_form function (s.For from test step body)).ends_in_brace ≡ (shown function body).ends_in_brace
  ends-For from test step body = ap (λ (x : Shown). x.ends_in_brace) (shown_is (s.For from test step body) _ (s.outs-For from test step body))

  pub ends-ForIn : (to : ForTarget) (object : Expr) (body : Stmt) → (shown_form function (s.ForIn to object body)).ends_in_brace ≡ (shown function body).ends_in_brace
  ends-ForIn to object body = ap (λ (x : Shown). x.ends_in_brace) (shown_is (s.ForIn to object body) _ (s.outs-ForIn to object body))

pub ruleset ends = (ends-If, ends-Else, ends-While, ends-For, ends-ForIn)
