-- Each statement that reading can give.
use Rattle.std.proofs.Common.{◌≡◌, ℕ, zero, suc, ◌≤◌, Bool, true, not, ◌&&◌, List, [], ◌∷◌, map, ap, sym, subst, ◌∙◌, arith}
use Rattle.std.specs.Prelude.{sum, Some, None}
use Rattle.std.specs.List.{list_all}
use Rattle.std.proofs.lemmas.Bool.{and_parts}
use Rattle.js_value.specs.declared.place.FuncNo.{FuncNo}
use Rattle.js_tree.specs.Count as count
use Rattle.js_tree.specs.declared.statement.Func.{Func}
use Rattle.js_tree.specs.declared.statement.Stmt.{Stmt}
use Rattle.js_tree.specs.declared.statement.Case.{Case, out-Case}
use Rattle.js_tree.specs.declared.statement.Catch.{Catch, out-Catch}
use Rattle.js_tree.specs.declared.statement.Finally.{Finally, out-Finally}
use Rattle.js_tree.specs.declared.statement.StmtForm.{StmtForm, out-StmtForm}
use Rattle.js_tree.specs.declared.statement.StmtForm.TheOpen.{StmtForm-F, Case-F, Catch-F, Finally-F, Stmt-F}
use Rattle.js_tree.specs.declared.statement.StmtForm.TheFolds.{map-StmtForm, map-Case, map-Catch, map-Finally, fold-StmtForm, fold-Case, fold-Catch, fold-Finally, fold-Stmt, fold_out-StmtForm, fold_out-Case, fold_out-Catch, fold_out-Finally, fold_out-Stmt}
use Rattle.js_grammar.specs.ReadableWords.{is_identifier}
use Rattle.js_grammar.specs.ReadableExpressions as R
use Rattle.js_grammar.specs.Readable as Q
use Rattle.js_grammar.specs.Readable.{ReadStmt, ReadCase, is_part, are_parts, are_clauses}
use Rattle.script_text.specs.Pieces.{Piece}
use Rattle.script_text.specs.Statements as S
use Rattle.script_text.specs.Statements.{Shown}
use Rattle.lexing_back.proofs.Spots.{Anything, Runs}
use Rattle.lexing_back.proofs.Parts.{Each, FunctionsRun}
use Rattle.lexing_back.proofs.Expressions.{sum-cons}
use Rattle.lexing_back.proofs.StatementParts.{Shows, PartsRead, form-shows, case-runs, catch-runs, finally-runs}

-- ---- one layer of a statement

abbrev Layer : Type 0
Layer = StmtForm-F StmtForm Case Catch Finally Stmt

module _ (A B C D E : Type 0) (form : StmtForm-F A B C D E → A) (clause : Case-F A B C D E → B) (handler : Catch-F A B C D E → C) (final : Finally-F A B C D E → D) (stmt : Stmt-F A B C D E → E) where
  abbrev of_form : StmtForm → A
  of_form = fold-StmtForm A B C D E form clause handler final stmt

  abbrev of_clause : Case → B
  of_clause = fold-Case A B C D E form clause handler final stmt

  abbrev of_handler : Catch → C
  of_handler = fold-Catch A B C D E form clause handler final stmt

  abbrev of_final : Finally → D
  of_final = fold-Finally A B C D E form clause handler final stmt

  abbrev of_stmt : Stmt → E
  of_stmt = fold-Stmt A B C D E form clause handler final stmt

  abbrev at_layer : Layer → A
  at_layer l = form (map-StmtForm StmtForm Case Catch Finally Stmt A B C D E of_form of_clause of_handler of_final of_stmt l)

  by_layer : (t : Stmt) → of_stmt t ≡ stmt (record { at = t.at; form = at_layer (out-StmtForm t.form) })
  by_layer t = fold_out-Stmt A B C D E form clause handler final stmt t ∙ ap (λ a. stmt (record { at = t.at; form = a })) (fold_out-StmtForm A B C D E form clause handler final stmt t.form)

  by_clause : (c : Case) → of_clause c ≡ clause (map-Case StmtForm Case Catch Finally Stmt A B C D E of_form of_clause of_handler of_final of_stmt (out-Case c))
  by_clause c = fold_out-Case A B C D E form clause handler final stmt c

  by_handler : (c : Catch) → of_handler c ≡ handler (map-Catch StmtForm Case Catch Finally Stmt A B C D E of_form of_clause of_handler of_final of_stmt (out-Catch c))
  by_handler c = fold_out-Catch A B C D E form clause handler final stmt c

  by_final : (f : Finally) → of_final f ≡ final (map-Finally StmtForm Case Catch Finally Stmt A B C D E of_form of_clause of_handler of_final of_stmt (out-Finally f))
  by_final f = fold_out-Finally A B C D E form clause handler final stmt f

module _ (function : Bool → FuncNo → List Piece) (functions : FunctionsRun function) (funcs : List Func) where
  -- those of so many nodes
  abbrev AllShow : ℕ → Type 0
  AllShow d = (t : Stmt) → count.in_stmt t ≤ d → (Q.in_stmt funcs t).readable ≡ true → Shows (S.shown function t)

  one : (d : ℕ) → AllShow d → (t : Stmt) → count.in_stmt t ≤ d → is_part (Q.in_stmt funcs t) ≡ true → Shows (S.shown function t)
  one d below t few is = below t few (and_parts ((Q.in_stmt funcs t).readable) (not (Q.in_stmt funcs t).is_declaration) is).0

  bodies : (d : ℕ) → AllShow d → (ts : List Stmt) → sum (map count.in_stmt ts) ≤ d → are_parts (map (Q.in_stmt funcs) ts) ≡ true → Each Shows (map (S.shown function) ts)
  bodies d below [] few all = tt
  bodies d below (t ∷ ts) few all =
      let p = and_parts (is_part (Q.in_stmt funcs t)) (are_parts (map (Q.in_stmt funcs) ts)) all in
      let n = sum-cons (count.in_stmt t) (map count.in_stmt ts) in
      (one d below t (omega arith) p.0, bodies d below ts (omega arith) p.1)

  a_case : (d : ℕ) → AllShow d → (c : Case) → count.in_case c ≤ d → (Q.in_case funcs c).readable ≡ true → Runs Anything Anything (S.shown_case function c)
  a_case d below c few is =
      let l = out-Case c in
      let n = by_clause ℕ ℕ ℕ ℕ ℕ count.of_stmt_form count.of_case count.of_catch count.of_finally count.of_stmt c in
      let r = by_clause ReadStmt ReadCase Bool Bool ReadStmt (Q.of_stmt_form funcs) (Q.of_case funcs) (Q.of_catch funcs) (Q.of_finally funcs) (λ t. t.form) c in
      let p = by_clause Shown (List Piece) (List Piece) (List Piece) Shown (S.of_form function) (S.of_case function) (S.of_catch function) (S.of_finally function) (λ s. s.form) c in
      let q = and_parts (R.is_maybe funcs l.test) (are_parts (map (Q.in_stmt funcs) l.body)) (ap (λ (x : ReadCase). x.readable) (sym r) ∙ is) in
      let small : sum (map count.in_stmt l.body) ≤ d = omega (arith, n, few) in
      subst (λ ps. Runs Anything Anything ps) (sym p) (case-runs function functions funcs (record { test = l.test; body = map (S.shown function) l.body }) q.0 (bodies d below l.body small q.1))

  a_catch : (d : ℕ) → AllShow d → (c : Catch) → count.in_catch c ≤ d → Q.in_catch funcs c ≡ true → Runs Anything Anything (S.shown_catch function c)
  a_catch d below c few is =
      let l = out-Catch c in
      let n = by_handler ℕ ℕ ℕ ℕ ℕ count.of_stmt_form count.of_case count.of_catch count.of_finally count.of_stmt c in
      let r = by_handler ReadStmt ReadCase Bool Bool ReadStmt (Q.of_stmt_form funcs) (Q.of_case funcs) (Q.of_catch funcs) (Q.of_finally funcs) (λ t. t.form) c in
      let p = by_handler Shown (List Piece) (List Piece) (List Piece) Shown (S.of_form function) (S.of_case function) (S.of_catch function) (S.of_finally function) (λ s. s.form) c in
      let q = and_parts (is_identifier l.name) (are_parts (map (Q.in_stmt funcs) l.body)) (sym r ∙ is) in
      let small : sum (map count.in_stmt l.body) ≤ d = omega (arith, n, few) in
      subst (λ ps. Runs Anything Anything ps) (sym p) (catch-runs function functions funcs (record { at = l.at; name = l.name; body = map (S.shown function) l.body }) q.0 (bodies d below l.body small q.1))

  a_final : (d : ℕ) → AllShow d → (f : Finally) → count.in_finally f ≤ d → Q.in_finally funcs f ≡ true → Runs Anything Anything (S.shown_finally function f)
  a_final d below f few is =
      let l = out-Finally f in
      let n = by_final ℕ ℕ ℕ ℕ ℕ count.of_stmt_form count.of_case count.of_catch count.of_finally count.of_stmt f in
      let r = by_final ReadStmt ReadCase Bool Bool ReadStmt (Q.of_stmt_form funcs) (Q.of_case funcs) (Q.of_catch funcs) (Q.of_finally funcs) (λ t. t.form) f in
      let p = by_final Shown (List Piece) (List Piece) (List Piece) Shown (S.of_form function) (S.of_case function) (S.of_catch function) (S.of_finally function) (λ s. s.form) f in
      let small : sum (map count.in_stmt l.body) ≤ d = omega (arith, n, few) in
      subst (λ ps. Runs Anything Anything ps) (sym p) (finally-runs function functions funcs (record { body = map (S.shown function) l.body }) (bodies d below l.body small (sym r ∙ is)))

  cases : (d : ℕ) → AllShow d → (cs : List Case) → sum (map count.in_case cs) ≤ d → list_all (λ (c : ReadCase). c.readable) (map (Q.in_case funcs) cs) ≡ true
      → Each (λ ps. Runs Anything Anything ps) (map (S.shown_case function) cs)
  cases d below [] few all = tt
  cases d below (c ∷ cs) few all =
      let p = and_parts ((Q.in_case funcs c).readable) (list_all (λ (c : ReadCase). c.readable) (map (Q.in_case funcs) cs)) all in
      let n = sum-cons (count.in_case c) (map count.in_case cs) in
      (a_case d below c (omega arith) p.0, cases d below cs (omega arith) p.1)

  -- ---- each form

  abbrev printed_at : Layer → StmtForm-F Shown (List Piece) (List Piece) (List Piece) Shown
  printed_at l = map-StmtForm StmtForm Case Catch Finally Stmt Shown (List Piece) (List Piece) (List Piece) Shown (S.shown_form function) (S.shown_case function) (S.shown_catch function) (S.shown_finally function) (S.shown function) l

  abbrev read_at : Layer → StmtForm-F ReadStmt ReadCase Bool Bool ReadStmt
  read_at l = map-StmtForm StmtForm Case Catch Finally Stmt ReadStmt ReadCase Bool Bool ReadStmt (Q.in_stmt_form funcs) (Q.in_case funcs) (Q.in_catch funcs) (Q.in_finally funcs) (Q.in_stmt funcs) l

  abbrev readable_at : Layer → Bool
  readable_at l = (Q.of_stmt_form funcs (read_at l)).readable

  abbrev nodes_at : Layer → ℕ
  nodes_at = at_layer ℕ ℕ ℕ ℕ ℕ count.of_stmt_form count.of_case count.of_catch count.of_finally count.of_stmt

  abbrev Part : Stmt → Bool
  Part t = is_part (Q.in_stmt funcs t)

  -- the parts of a `try`, of which it has one at least behind the first
  tried : (a b c e : Bool) → (a && b && c && e) ≡ true → (a ≡ true) × (b ≡ true) × (c ≡ true)
  tried a b c e is =
      let p = and_parts (a && b && c) e is in
      let q = and_parts (a && b) c p.0 in
      let r = and_parts a b q.0 in
      (r.0, r.1, q.1)

  parts : (d : ℕ) → AllShow d → (l : Layer) → nodes_at l ≤ d → readable_at l ≡ true → PartsRead function functions funcs (printed_at l)
  parts d below (StmtForm-F.Var ds) few is = is
  parts d below (StmtForm-F.FuncDecl f) few is = tt
  parts d below (StmtForm-F.Eval e) few is = is
  parts d below (StmtForm-F.Block body) few is = bodies d below body few is
  parts d below StmtForm-F.Empty few is = tt
  parts d below (StmtForm-F.If test a None) few is =
      let p = and_parts (R.is_expr funcs test) (Part a) is in
      (p.0, one d below a (omega arith) p.1)
  parts d below (StmtForm-F.If test a (Some b)) few is =
      let p = and_parts (R.is_expr funcs test && Part a && not (Q.in_stmt funcs a).ends_in_if) (Part b) is in
      let q = and_parts (R.is_expr funcs test && Part a) (not (Q.in_stmt funcs a).ends_in_if) p.0 in
      let r = and_parts (R.is_expr funcs test) (Part a) q.0 in
      (r.0, one d below a (omega arith) r.1, one d below b (omega arith) p.1)
  parts d below (StmtForm-F.DoWhile body test) few is =
      let p = and_parts (Part body) (R.is_expr funcs test) is in
      (one d below body (omega arith) p.0, p.1)
  parts d below (StmtForm-F.While test body) few is =
      let p = and_parts (R.is_expr funcs test) (Part body) is in
      (p.0, one d below body (omega arith) p.1)
  parts d below (StmtForm-F.For from_ test step body) few is =
      let p = and_parts (Q.is_start funcs from_ && R.is_maybe funcs test && R.is_maybe funcs step) (Part body) is in
      let q = and_parts (Q.is_start funcs from_ && R.is_maybe funcs test) (R.is_maybe funcs step) p.0 in
      let r = and_parts (Q.is_start funcs from_) (R.is_maybe funcs test) q.0 in
      (r.0, r.1, q.1, one d below body (omega arith) p.1)
  parts d below (StmtForm-F.ForIn to_ e body) few is =
      let p = and_parts (Q.is_for_target funcs to_ && R.is_expr funcs e) (Part body) is in
      let q = and_parts (Q.is_for_target funcs to_) (R.is_expr funcs e) p.0 in
      (q.0, q.1, one d below body (omega arith) p.1)
  parts d below StmtForm-F.Continue few is = tt
  parts d below StmtForm-F.Break few is = tt
  parts d below (StmtForm-F.Return e) few is = is
  parts d below (StmtForm-F.Switch e cs) few is =
      let p = and_parts (R.is_expr funcs e) (are_clauses (map (Q.in_case funcs) cs)) is in
      let q = and_parts (list_all (λ (c : ReadCase). c.readable) (map (Q.in_case funcs) cs)) _ p.1 in
      (p.0, cases d below cs (omega arith) q.0)
  parts d below (StmtForm-F.Throw e) few is = is
  parts d below (StmtForm-F.Try body None None) few is = (bodies d below body (omega arith) (tried (are_parts (map (Q.in_stmt funcs) body)) true true _ is).0, tt, tt)
  parts d below (StmtForm-F.Try body (Some c) None) few is =
      let p = tried (are_parts (map (Q.in_stmt funcs) body)) (Q.in_catch funcs c) true _ is in
      (bodies d below body (omega arith) p.0, a_catch d below c (omega arith) p.1, tt)
  parts d below (StmtForm-F.Try body None (Some f)) few is =
      let p = tried (are_parts (map (Q.in_stmt funcs) body)) true (Q.in_finally funcs f) _ is in
      (bodies d below body (omega arith) p.0, tt, a_final d below f (omega arith) p.2)
  parts d below (StmtForm-F.Try body (Some c) (Some f)) few is =
      let p = tried (are_parts (map (Q.in_stmt funcs) body)) (Q.in_catch funcs c) (Q.in_finally funcs f) _ is in
      (bodies d below body (omega arith) p.0, a_catch d below c (omega arith) p.1, a_final d below f (omega arith) p.2)

  all : (d : ℕ) → AllShow d
  all zero t few is = let n = by_layer ℕ ℕ ℕ ℕ ℕ count.of_stmt_form count.of_case count.of_catch count.of_finally count.of_stmt t in absurd (omega (arith, n, few))
  all (suc d) t few is =
      let l = out-StmtForm t.form in
      let n = by_layer ℕ ℕ ℕ ℕ ℕ count.of_stmt_form count.of_case count.of_catch count.of_finally count.of_stmt t in
      let r = by_layer ReadStmt ReadCase Bool Bool ReadStmt (Q.of_stmt_form funcs) (Q.of_case funcs) (Q.of_catch funcs) (Q.of_finally funcs) (λ t. t.form) t in
      let p = by_layer Shown (List Piece) (List Piece) (List Piece) Shown (S.of_form function) (S.of_case function) (S.of_catch function) (S.of_finally function) (λ s. s.form) t in
      let small : nodes_at l ≤ d = omega (arith, n, few) in
      subst (λ x. Shows x) (sym p) (form-shows function functions funcs (printed_at l) (parts d (all d) l small (ap (λ (x : ReadStmt). x.readable) (sym r) ∙ is)))

  -- a statement that reading can give
  pub statement-shows : (t : Stmt) → (Q.in_stmt funcs t).readable ≡ true → Shows (S.shown function t)
  statement-shows t is = all (count.in_stmt t) t (omega arith) is
