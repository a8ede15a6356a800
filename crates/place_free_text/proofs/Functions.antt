-- The tokens of functions and of scripts don't depend on places.
use Rattle.std.proofs.Common.{◌≡◌, ℕ, zero, suc, Bool, true, false, List, [], ◌∷◌, ◌++◌, map, length, refl, ap, ◌∙◌}
use Rattle.std.specs.Prelude.{◌==◌, ◌&&◌, not, slice_get, codes, Option, Some, None}
use Rattle.std.specs.Option.{option_map}
use Rattle.std.proofs.lemmas.List.{length-map}
use Rattle.std.proofs.lemmas.Option.{slice_get-map}
use Rattle.js_value.specs.declared.place.FuncNo.{FuncNo}
use Rattle.js_tree.specs.Mentions.{Names, names_of, own_name, hoisted_vars, hoisted_functions}
use Rattle.js_tree.specs.declared.statement.Func.{Func}
use Rattle.js_tree.specs.declared.statement.Name.{Name}
use Rattle.js_tree.specs.declared.statement.Script.{Script}
use Rattle.js_tree.specs.declared.statement.Stmt.{Stmt}
use Rattle.script_text.specs.Pieces.{Piece, behind_commas, opening, closing}
use Rattle.script_text.specs.Printing.{own_binding, bound_names, found, function_to, script_pieces}
use Rattle.script_text.specs.Statements as S
use Rattle.reading_back.specs.Unplaced as unplaced
use Rattle.early_back.proofs.Hoisted.{hoisted_vars_same, hoisted_functions_same}
use Rattle.early_back.proofs.MentionedScripts.{names_are, texts}
use Rattle.place_free_text.proofs.Statements.{lines_same}

-- ---- names

own_name_same : (o : Option Name) → own_name (option_map unplaced.name o) ≡ own_name o
own_name_same None = refl
own_name_same (Some n) = refl

own_binding_same : (named : Bool) (f : Func) → own_binding named (unplaced.func f) ≡ own_binding named f
own_binding_same true f = own_name_same f.name
own_binding_same false f = refl

bound_same : (named : Bool) (funcs : List Func) (f : Func) → bound_names named (map unplaced.func funcs) (unplaced.func f) ≡ bound_names named funcs f
bound_same named funcs f =
    let gs : List Func = map unplaced.func funcs in
    let ts : List Stmt = map unplaced.stmt f.body in
    let ps : Names = map (λ (p : Name). p.text) f.params in
    ap (λ ns. ns ++ map (λ (p : Name). p.text) (map unplaced.name f.params) ++ hoisted_vars ts ++ names_of 0 gs (hoisted_functions ts)) (own_binding_same named f)
    ∙ ap (λ ns. own_binding named f ++ ns ++ hoisted_vars ts ++ names_of 0 gs (hoisted_functions ts)) (texts f.params)
    ∙ ap (λ ns. own_binding named f ++ ps ++ ns ++ names_of 0 gs (hoisted_functions ts)) (hoisted_vars_same f.body)
    ∙ ap (λ ns. own_binding named f ++ ps ++ hoisted_vars f.body ++ ns) (ap (names_of 0 gs) (hoisted_functions_same f.body) ∙ names_are 0 funcs (hoisted_functions f.body))

own_same : (named : Bool) (o : Option Name) → S.own_name named (option_map unplaced.name o) ≡ S.own_name named o
own_same named None = refl
own_same true (Some n) = refl
own_same false (Some n) = refl

parameters_behind : (ps : List Name) → behind_commas S.parameter (map unplaced.name ps) ≡ behind_commas S.parameter ps
parameters_behind [] = refl
parameters_behind (p ∷ ps) = ap (λ pieces. (closing (codes ",") ++ S.parameter p) ++ pieces) (parameters_behind ps)

parameters_same : (ps : List Name) → S.parameters (map unplaced.name ps) ≡ S.parameters ps
parameters_same [] = refl
parameters_same (p ∷ ps) = ap (λ pieces. opening (codes "(") ++ (S.parameter p ++ pieces) ++ closing (codes ")")) (parameters_behind ps)

-- ---- functions

empty_same : (body : List Stmt) → S.is_empty (map unplaced.stmt body) ≡ S.is_empty body
empty_same body = ap (λ n. n == 0) (length-map body unplaced.stmt)

module _ (function : Bool → FuncNo → List Piece) where
  code_same : (is_directive : Bool) (body : List Stmt) → S.code function is_directive (map unplaced.stmt body) ≡ S.code function is_directive body
  code_same is_directive body = ap (λ ps. S.directive is_directive ++ ps) (lines_same function body)

  body_same : (f : Func) → S.body function (unplaced.func f) ≡ S.body function f
  body_same f =
      ap (λ b. S.in_braces (b && not f.directive) (S.code function f.directive (map unplaced.stmt f.body))) (empty_same f.body)
      ∙ ap (λ ps. S.in_braces (S.is_empty f.body && not f.directive) ps) (code_same f.directive f.body)

  func_same : (names : Names) (named : Bool) (f : Func) → S.func function names named (unplaced.func f) ≡ S.func function names named f
  func_same names named f =
      ap (λ ps. ps ++ S.binding names (S.parameters (map unplaced.name f.params) ++ S.body function (unplaced.func f))) (own_same named f.name)
      ∙ ap (λ ps. S.own_name named f.name ++ S.binding names (ps ++ S.body function (unplaced.func f))) (parameters_same f.params)
      ∙ ap (λ ps. S.own_name named f.name ++ S.binding names (S.parameters f.params ++ ps)) (body_same f)

-- a function that is found, where functions inside it are written alike
abbrev shown_by : Bool → List Func → (Bool → FuncNo → List Piece) → Func → List Piece
shown_by named funcs function f = S.func function (bound_names named funcs f) named f

found_same : (funcs : List Func) (function inner : Bool → FuncNo → List Piece) → function ≡ inner → (named : Bool) (o : Option Func)
    → found (shown_by named (map unplaced.func funcs) function) (option_map unplaced.func o) ≡ found (shown_by named funcs inner) o
found_same funcs function inner same named None = refl
found_same funcs function inner same named (Some f) =
    ap (λ g. S.func g (bound_names named (map unplaced.func funcs) (unplaced.func f)) named (unplaced.func f)) same
    ∙ func_same inner (bound_names named (map unplaced.func funcs) (unplaced.func f)) named f
    ∙ ap (λ names. S.func inner names named f) (bound_same named funcs f)

-- a function by its number, with functions inside it to a depth
function_same : (depth : ℕ) (funcs : List Func) → function_to depth (map unplaced.func funcs) ≡ function_to depth funcs
unfolding function_to
function_same zero funcs = refl
function_same (suc depth) funcs =
    let function = function_to depth (map unplaced.func funcs) in
    let inner : function ≡ function_to depth funcs = function_same depth funcs in
    λ i named f. (ap (found (shown_by named (map unplaced.func funcs) function)) (slice_get-map unplaced.func funcs f.0) ∙ found_same funcs function (function_to depth funcs) inner named (slice_get funcs f.0)) i

pub pieces_same : (s : Script) → script_pieces (unplaced.script s) ≡ script_pieces s
pieces_same s =
    ap (λ n. S.code (function_to n (map unplaced.func s.funcs)) s.directive (map unplaced.stmt s.body)) (length-map s.funcs unplaced.func)
    ∙ ap (λ function. S.code function s.directive (map unplaced.stmt s.body)) (function_same (length s.funcs) s.funcs)
    ∙ code_same (function_to (length s.funcs) s.funcs) s.directive s.body
