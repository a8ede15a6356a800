-- Whether reading can give the parts of a script doesn't depend on their places.
use Rattle.std.proofs.Common.{◌≡◌, ℕ, ◌&&◌, Bool, true, false, List, [], ◌∷◌, map, refl, ap, ◌∙◌}
use Rattle.std.specs.Prelude.{◌==◌, not, slice_get, Option, Some, None, is_none, is_some}
use Rattle.std.specs.List.{list_all}
use Rattle.std.specs.Option.{option_map}
use Rattle.std.proofs.lemmas.List.{length-map}
use Rattle.std.proofs.lemmas.Option.{slice_get-map}
use Rattle.js_value.specs.declared.place.FuncNo.{FuncNo}
use Rattle.js_tree.specs.declared.expression.Expr.{Expr}
use Rattle.js_tree.specs.declared.expression.ExprForm.TheOpen.{Field-F}
use Rattle.js_tree.specs.declared.statement.Declarator.{Declarator}
use Rattle.js_tree.specs.declared.statement.ForStart.{ForStart}
use Rattle.js_tree.specs.declared.statement.ForStart.TheVariants as start
use Rattle.js_tree.specs.declared.statement.ForTarget.{ForTarget}
use Rattle.js_tree.specs.declared.statement.ForTarget.TheVariants as target
use Rattle.js_tree.specs.declared.statement.Func.{Func}
use Rattle.js_tree.specs.declared.statement.Name.{Name}
use Rattle.js_tree.specs.declared.statement.Script.{Script}
use Rattle.js_tree.specs.declared.statement.Stmt.{Stmt}
use Rattle.js_tree.specs.declared.statement.StmtForm.TheOpen.{StmtForm-F, Case-F}
use Rattle.js_grammar.specs.Readable as read
use Rattle.js_grammar.specs.Readable.{ReadStmt, ReadCase, closed, ending, is_part, are_parts, are_clauses, has_name, is_declarator, are_declarators, is_start, is_for_target, in_stmt, are_elements, is_name_or_none, is_function, are_parts_readable}
use Rattle.js_grammar.specs.ReadableExpressions as expressions
use Rattle.js_grammar.specs.ReadableExpressions.{ReadExpr, is_accessor, in_expr, is_expr, is_maybe}
use Rattle.js_grammar.specs.ReadableWords.{is_identifier, is_readable_text}
use Rattle.reading_back.specs.Unplaced as unplaced
use Rattle.early_back.proofs.PlaceFree.{expr_same, stmt_same}
use Rattle.early_back.proofs.RelatedExpressions.{forget_field}
use Rattle.early_back.proofs.RelatedStatements.{forget_form}

and : (a b c d : Bool) → a ≡ c → b ≡ d → (a && b) ≡ (c && d)
and a b c d h k = ap (λ x. x && b) h ∙ ap (λ x. c && x) k

all_same : {A B : Type 0} (p : B → Bool) (q : A → Bool) (f : A → B) → ((x : A) → p (f x) ≡ q x) → (xs : List A) → list_all p (map f xs) ≡ list_all q xs
all_same p q f h [] = refl
all_same p q f h (x ∷ xs) = and (p (f x)) (list_all p (map f xs)) (q x) (list_all q xs) (h x) (all_same p q f h xs)

none_same : {A B : Type 0} (f : A → B) (o : Option A) → is_none (option_map f o) ≡ is_none o
none_same f None = refl
none_same f (Some x) = refl

some_same : {A B : Type 0} (f : A → B) (o : Option A) → is_some (option_map f o) ≡ is_some o
some_same f None = refl
some_same f (Some x) = refl

abbrev one_statement : Bool → Bool → Bool → ReadStmt
one_statement readable ends declares = record { readable = readable; ends_in_if = ends; is_declaration = declares }

abbrev one_clause : Bool → Bool → ReadCase
one_clause readable default = record { readable = readable; is_default = default }

-- ---- the functions that an expression or a declaration names

accessor_same : (n : ℕ) (o : Option Func) → is_accessor n (option_map unplaced.func o) ≡ is_accessor n o
accessor_same n None = refl
accessor_same n (Some f) = and _ _ _ _ (none_same unplaced.name f.name) (ap (λ k. k == n) (length-map f.params unplaced.name))

name_same : (o : Option Func) → has_name (option_map unplaced.func o) ≡ has_name o
name_same None = refl
name_same (Some f) = some_same unplaced.name f.name

module _ (fs : List Func) where
  abbrev gs : List Func
  gs = map unplaced.func fs

  accessor_is : (n : ℕ) (f : FuncNo) → is_accessor n (slice_get gs f.0) ≡ is_accessor n (slice_get fs f.0)
  accessor_is n f = ap (is_accessor n) (slice_get-map unplaced.func fs f.0) ∙ accessor_same n (slice_get fs f.0)

  -- ---- expressions (11)

  field_is : (f : Field-F ReadExpr Bool ReadExpr) → expressions.of_field gs (forget_field f) ≡ expressions.of_field fs f
  field_is (Field-F.Value at key x) = refl
  field_is (Field-F.Getter at key f) = ap (λ b. is_readable_text key && b) (accessor_is 0 f)
  field_is (Field-F.Setter at key f) = ap (λ b. is_readable_text key && b) (accessor_is 1 f)

  read_is : (x : Expr) → in_expr gs (unplaced.expr x) ≡ in_expr fs x
  read_is =
      expr_same (expressions.of_form fs) (expressions.of_field fs) (λ x. x.form) (expressions.of_form gs) (expressions.of_field gs) (λ x. x.form) (λ l. refl) field_is (λ at f. refl)

  expr_is : (x : Expr) → is_expr gs (unplaced.expr x) ≡ is_expr fs x
  expr_is x = ap (λ (r : ReadExpr). r.readable) (read_is x)

  maybe_is : (o : Option Expr) → is_maybe gs (option_map unplaced.expr o) ≡ is_maybe fs o
  maybe_is None = refl
  maybe_is (Some x) = expr_is x

  -- ---- statements (12)

  declarator_is : (d : Declarator) → is_declarator gs (unplaced.declarator d) ≡ is_declarator fs d
  declarator_is d = ap (λ b. is_identifier d.name && b) (maybe_is d.init)

  declarators_are : (ds : List Declarator) → are_declarators gs (map unplaced.declarator ds) ≡ are_declarators fs ds
  declarators_are [] = refl
  declarators_are (d ∷ ds) = all_same (is_declarator gs) (is_declarator fs) unplaced.declarator declarator_is (d ∷ ds)

  start_is : (from : ForStart) → is_start gs (unplaced.for_start from) ≡ is_start fs from
  start_is start.Nothing = refl
  start_is (start.Expr x) = expr_is x
  start_is (start.Var ds) = declarators_are ds

  target_is : (to : ForTarget) → is_for_target gs (unplaced.for_target to) ≡ is_for_target fs to
  target_is (target.Expr x) = and _ _ _ _ (expr_is x) (ap (λ (r : ReadExpr). r.is_target) (read_is x))
  target_is (target.Var at name) = refl

  form_is : (l : StmtForm-F ReadStmt ReadCase Bool Bool ReadStmt) → read.of_stmt_form gs (forget_form l) ≡ read.of_stmt_form fs l
  form_is (StmtForm-F.Var ds) = ap closed (declarators_are ds)
  form_is (StmtForm-F.FuncDecl f) =
      ap (λ b. one_statement b false true) (ap has_name (slice_get-map unplaced.func fs f.0) ∙ name_same (slice_get fs f.0))
  form_is (StmtForm-F.Eval x) = ap closed (expr_is x)
  form_is (StmtForm-F.Block body) = refl
  form_is StmtForm-F.Empty = refl
  form_is (StmtForm-F.If x a None) = ap (λ b. one_statement (b && is_part a) true false) (expr_is x)
  form_is (StmtForm-F.If x a (Some c)) = ap (λ b. ending (b && is_part a && not a.ends_in_if && is_part c) c) (expr_is x)
  form_is (StmtForm-F.DoWhile a x) = ap (λ b. closed (is_part a && b)) (expr_is x)
  form_is (StmtForm-F.While x a) = ap (λ b. ending (b && is_part a) a) (expr_is x)
  form_is (StmtForm-F.For from test step a) =
      ap (λ b. ending (b && is_part a) a) (and _ _ _ _ (and _ _ _ _ (start_is from) (maybe_is test)) (maybe_is step))
  form_is (StmtForm-F.ForIn to x a) = ap (λ b. ending (b && is_part a) a) (and _ _ _ _ (target_is to) (expr_is x))
  form_is StmtForm-F.Continue = refl
  form_is StmtForm-F.Break = refl
  form_is (StmtForm-F.Return x) = ap closed (maybe_is x)
  form_is (StmtForm-F.Switch x cases) = ap (λ b. closed (b && are_clauses cases)) (expr_is x)
  form_is (StmtForm-F.Throw x) = ap closed (expr_is x)
  form_is (StmtForm-F.Try body handler final) = refl

  case_is : (c : Case-F ReadStmt ReadCase Bool Bool ReadStmt) → read.of_case gs (record { test = option_map unplaced.expr c.test; body = c.body }) ≡ read.of_case fs c
  case_is c =
      ap (λ b. one_clause (b && are_parts c.body) (is_none (option_map unplaced.expr c.test))) (maybe_is c.test)
      ∙ ap (λ b. one_clause (is_maybe fs c.test && are_parts c.body) b) (none_same unplaced.expr c.test)

  stmt_is : (t : Stmt) → in_stmt gs (unplaced.stmt t) ≡ in_stmt fs t
  stmt_is =
      stmt_same
      (read.of_stmt_form fs) (read.of_case fs) (read.of_catch fs) (read.of_finally fs) (λ t. t.form)
      (read.of_stmt_form gs) (read.of_case gs) (read.of_catch gs) (read.of_finally gs) (λ t. t.form)
      form_is case_is (λ c. refl) (λ f. refl) (λ at f. refl)

  elements_are : (ts : List Stmt) → are_elements gs (map unplaced.stmt ts) ≡ are_elements fs ts
  elements_are ts = all_same (λ t. (in_stmt gs t).readable) (λ t. (in_stmt fs t).readable) unplaced.stmt (λ t. ap (λ (r : ReadStmt). r.readable) (stmt_is t)) ts

  -- ---- functions (13)

  own_name_is : (o : Option Name) → is_name_or_none gs (option_map unplaced.name o) ≡ is_name_or_none fs o
  own_name_is None = refl
  own_name_is (Some n) = refl

  function_is : (f : Func) → is_function gs (unplaced.func f) ≡ is_function fs f
  function_is f =
      and _ _ _ _
      (and _ _ _ _ (ap (λ b. not f.directive && b) (own_name_is f.name))
      (all_same (λ (p : Name). is_identifier p.text) (λ (p : Name). is_identifier p.text) unplaced.name (λ p. refl) f.params))
      (elements_are f.body)

pub parts_same : (s : Script) → are_parts_readable (unplaced.script s) ≡ are_parts_readable s
unfolding are_parts_readable
parts_same s =
    and _ _ _ _ (ap (λ b. not s.directive && b) (elements_are s.funcs s.body))
    (all_same (is_function (map unplaced.func s.funcs)) (is_function s.funcs) unplaced.func (function_is s.funcs) s.funcs)
