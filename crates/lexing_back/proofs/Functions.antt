-- Functions by their numbers, and scripts.
use Rattle.std.proofs.Common.{◌≡◌, ℕ, zero, suc, Bool, true, false, not, ◌&&◌, List, [], ◌∷◌, ◌++◌, length, refl, ap, sym, subst, ◌∙◌, append-nil}
use Rattle.std.specs.Prelude.{slice_get, Option, Some, None}
use Rattle.std.specs.List.{list_all}
use Rattle.std.proofs.lemmas.Bool.{and_parts}
use Rattle.js_value.specs.declared.place.FuncNo.{FuncNo}
use Rattle.js_tree.specs.Mentions.{Names}
use Rattle.js_tree.specs.declared.statement.Func.{Func}
use Rattle.js_tree.specs.declared.statement.Name.{Name}
use Rattle.js_tree.specs.declared.statement.Script.{Script}
use Rattle.js_tree.specs.declared.statement.Stmt.{Stmt}
use Rattle.js_grammar.specs.ReadableWords.{is_identifier}
use Rattle.js_grammar.specs.Readable as Q
use Rattle.js_grammar.specs.Readable.{are_parts_readable}
use Rattle.script_text.specs.Pieces.{Piece}
use Rattle.script_text.specs.Statements as S
use Rattle.script_text.specs.Statements.{parameter, parameters, own_name, binding, is_empty, directive}
use Rattle.script_text.specs.Printing.{bound_names, found, function_to, script_pieces}
use Rattle.lexing_back.proofs.Written.{Reads, Reads-nil}
use Rattle.lexing_back.proofs.Spots.{Spot, Anything, Ended, Pointed, Begun, Fielded, Holds, Runs, joined, nothing, from, to}
use Rattle.lexing_back.proofs.Single as one
use Rattle.lexing_back.proofs.Parts.{Each, FunctionsRun, separated-run}
use Rattle.lexing_back.proofs.Expressions.{is_name-identifier}
use Rattle.lexing_back.proofs.StatementParts.{Shows, lines-run, in_braces-run, directive-runs, binding-runs}
use Rattle.lexing_back.proofs.Statements.{statement-shows}

each-name : (ps : List Name) → list_all (λ (p : Name). is_identifier p.text) ps ≡ true → Each (λ p. Runs Ended Begun (parameter p)) ps
each-name [] all = tt
each-name (p ∷ ps) all =
    let q = and_parts (is_identifier p.text) (list_all (λ (p : Name). is_identifier p.text) ps) all in
    (from Ended refl (one.name-runs p.text (is_name-identifier p.text q.0)), each-name ps q.1)

parameters-run : (ps : List Name) → list_all (λ (p : Name). is_identifier p.text) ps ≡ true → Runs Anything Fielded (parameters ps)
parameters-run ps all = joined (joined one.parameters-run refl (separated-run parameter Ended ps refl (each-name ps all))) refl one.right_parenthesis-runs

module _ (function : Bool → FuncNo → List Piece) (functions : FunctionsRun function) (funcs : List Func) where
  each-element : (ts : List Stmt) → Q.are_elements funcs ts ≡ true → Each (λ t. Shows (S.shown function t)) ts
  each-element [] all = tt
  each-element (t ∷ ts) all =
      let p = and_parts ((Q.in_stmt funcs t).readable) (Q.are_elements funcs ts) all in
      (statement-shows function functions funcs t p.0, each-element ts p.1)

  code-runs : (is_directive : Bool) (body : List Stmt) → Q.are_elements funcs body ≡ true → Runs Anything Anything (S.code function is_directive body)
  code-runs is_directive body all = joined (directive-runs is_directive) refl (lines-run (S.shown function) body (each-element body all))

  -- behind its name
  rest-runs : (names : Names) (f : Func) → Q.is_function funcs f ≡ true → Runs Anything Fielded (binding names (parameters f.params ++ S.body function f))
  rest-runs names f is =
      let p = and_parts (not f.directive && Q.is_name_or_none funcs f.name && list_all (λ (p : Name). is_identifier p.text) f.params) (Q.are_elements funcs f.body) is in
      let q = and_parts (not f.directive && Q.is_name_or_none funcs f.name) (list_all (λ (p : Name). is_identifier p.text) f.params) p.0 in
      binding-runs names (parameters f.params ++ S.body function f)
      (joined (parameters-run f.params q.1) refl (in_braces-run (is_empty f.body && not f.directive) (S.code function f.directive f.body) (code-runs f.directive f.body p.1)))

  named-runs : (name : Option Name) (rest : List Piece) → Q.is_name_or_none funcs name ≡ true → Runs Anything Fielded rest → Runs Pointed Pointed (own_name true name ++ rest)
  named-runs None rest is more = from Pointed refl (to Pointed refl more)
  named-runs (Some n) rest is more = from Pointed refl (to Pointed refl (joined (one.called-runs n.text (is_name-identifier n.text is)) refl more))

  nameless-runs : (name : Option Name) (rest : List Piece) → Runs Anything Fielded rest → Runs Fielded Fielded (own_name false name ++ rest)
  nameless-runs None rest more = from Fielded refl more
  nameless-runs (Some n) rest more = from Fielded refl more

  func-runs : (names : Names) (f : Func) → Q.is_function funcs f ≡ true → Runs Pointed Pointed (S.func function names true f)
  func-runs names f is =
      let p = and_parts (not f.directive && Q.is_name_or_none funcs f.name && list_all (λ (p : Name). is_identifier p.text) f.params) (Q.are_elements funcs f.body) is in
      let q = and_parts (not f.directive && Q.is_name_or_none funcs f.name) (list_all (λ (p : Name). is_identifier p.text) f.params) p.0 in
      named-runs f.name (binding names (parameters f.params ++ S.body function f)) (and_parts (not f.directive) (Q.is_name_or_none funcs f.name) q.0).1 (rest-runs names f is)

  accessor-runs : (names : Names) (f : Func) → Q.is_function funcs f ≡ true → Runs Fielded Fielded (S.func function names false f)
  accessor-runs names f is = nameless-runs f.name (binding names (parameters f.params ++ S.body function f)) (rest-runs names f is)

-- one of many
among : (p : Func → Bool) (fs : List Func) (n : ℕ) (f : Func) → list_all p fs ≡ true → slice_get fs n ≡ Some f → p f ≡ true
among p [] n f all is = cc
among p (g ∷ fs) zero f all is =
    let same : g ≡ f = cc in
    ap p (sym same) ∙ (and_parts (p g) (list_all p fs) all).0
among p (g ∷ fs) (suc n) f all is = among p fs n f (and_parts (p g) (list_all p fs) all).1 is

-- no function, or one that reads
found-runs : (s : Spot) (show : Func → List Piece) (o : Option Func) → Runs s s [] → ((f : Func) → o ≡ Some f → Runs s s (show f)) → Runs s s (found show o)
found-runs s show None none some = none
found-runs s show (Some f) none some = some f refl

functions-run : (funcs : List Func) → list_all (Q.is_function funcs) funcs ≡ true → (depth : ℕ) → FunctionsRun (function_to depth funcs)
unfolding function_to
functions-run funcs all zero = record { expression = λ f. nothing Pointed refl; accessor = λ f. nothing Fielded refl }
functions-run funcs all (suc depth) =
    let below = functions-run funcs all depth in
    let inside = function_to depth funcs in
    record {
      expression = λ f. found-runs Pointed _ (slice_get funcs f.0) (nothing Pointed refl) (λ g is. func-runs inside below funcs (bound_names true funcs g) g (among (Q.is_function funcs) funcs f.0 g all is));
      accessor = λ f. found-runs Fielded _ (slice_get funcs f.0) (nothing Fielded refl) (λ g is. accessor-runs inside below funcs (bound_names false funcs g) g (among (Q.is_function funcs) funcs f.0 g all is));
    }

pub script-reads : (s : Script) → are_parts_readable s ≡ true → Reads (script_pieces s)
unfolding are_parts_readable
script-reads s is =
    let p = and_parts (not s.directive && Q.are_elements s.funcs s.body) (list_all (Q.is_function s.funcs) s.funcs) is in
    let q = and_parts (not s.directive) (Q.are_elements s.funcs s.body) p.0 in
    let function = function_to (length s.funcs) s.funcs in
    let runs = code-runs function (functions-run s.funcs p.1 (length s.funcs)) s.funcs s.directive s.body q.1 in
    let end : Holds Anything [] = record { reads = Reads-nil; fit = λ d. refl } in
    subst (λ ps. Reads ps) (append-nil (script_pieces s)) (runs.runs [] end).reads
