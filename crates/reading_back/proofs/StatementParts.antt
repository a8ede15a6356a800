-- The expressions of readable statements, as the forms of statements take them.
use Rattle.std.proofs.Common.{◌≡◌, Bool, true, false, List, [], ◌∷◌, ◌++◌, refl, ap, sym, ◌∙◌, subst, arith, ◌≤◌, ℕ, max}
use Rattle.std.specs.Prelude.{◌&&◌, not, codes, Option, Some, None}
use Rattle.std.specs.List.{list_all}
use Rattle.std.specs.Option.{option_map}
use Rattle.js_value.specs.declared.place.FuncNo.{FuncNo}
use Rattle.js_tree.specs.declared.expression.Expr.{Expr}
use Rattle.js_tree.specs.declared.statement.Declarator.{Declarator}
use Rattle.js_tree.specs.declared.statement.ForStart.{ForStart}
use Rattle.js_tree.specs.declared.statement.ForStart.TheVariants as start
use Rattle.js_tree.specs.declared.statement.ForTarget.{ForTarget}
use Rattle.js_tree.specs.declared.statement.ForTarget.TheVariants as target
use Rattle.js_grammar.specs.FunctionOrder as order
use Rattle.js_grammar.specs.Readable as readable
use Rattle.js_grammar.specs.ReadableExpressions as readable_expression
use Rattle.script_text.specs.Expressions as text
use Rattle.script_text.specs.Expressions.{name}
use Rattle.script_text.specs.Pieces.{Piece, word, closing, separated, behind_commas}
use Rattle.script_text.specs.Statements as shown
use Rattle.reading_back.proofs.Claims.{World, Fit, FunctionsRead}
use Rattle.reading_back.proofs.Forms.{beside, same_expr, ExprReads, exprs_read}
use Rattle.script_nesting.specs.Height as height
use Rattle.script_nesting.specs.Opened as depth
use Rattle.script_nesting.specs.Opened.{Deep}
use Rattle.reading_back.proofs.FunctionNames.{is_declared}
use Rattle.reading_back.proofs.Groups.{fit, group_look, group}
use Rattle.reading_back.proofs.Readability.{both, read_target}
use Rattle.reading_back.proofs.StatementFors.{Opt, StartPart, nothing_part, expression_start, var_start}
use Rattle.reading_back.proofs.StatementForIns.{TargetPart, expression_target, var_target}
use Rattle.reading_back.proofs.StatementVars.{Init, Decl, init_bound, decls_bound, decl_pieces, decls_numbers, decls_trees, init_pieces, init_numbers}

no_bar : (b : Bool) → (b && not true) ≡ false
no_bar true = refl
no_bar false = refl

module _ (all : World) (function : Bool → FuncNo → List Piece) (inside : FuncNo → ℕ) (reads : FunctionsRead all function inside) where
  abbrev pub whole : (x : Expr) → ExprReads all function inside reads x
  whole x = exprs_read all function inside reads x

  -- where an expression of at least a level is taken
  taken : (wanted : ℕ) (allows_in : Bool) → wanted ≤ 17 → (x : Expr) → readable_expression.is_expr all.functions x ≡ true → height.height all.tall x ≤ all.high
      → Fit all (depth.expr function inside wanted allows_in x) wanted (text.starts_at wanted (text.printed function x)) allows_in (text.expr function wanted allows_in x) (order.in_expr x) x
  taken wanted allows_in le x r low =
      subst (λ (d : Deep). Fit all (depth.at wanted allows_in d) wanted (text.starts_at wanted (text.printed function x)) allows_in (text.expr function wanted allows_in x) (order.in_expr x) x) (same_expr all function inside reads x)
      (fit (whole x r (record { within = low })) wanted allows_in le)

  -- an expression of any level where `in` is an operator
  pub any : (x : Expr) → readable_expression.is_expr all.functions x ≡ true → height.height all.tall x ≤ all.high → Fit all (depth.expr function inside 1 true x) 1 (text.starts_at 1 (text.printed function x)) true (text.expr function 1 true x) (order.in_expr x) x
  any x r low = taken 1 true (omega arith) x r low

  abbrev pub opt : (x : Expr) → readable_expression.is_expr all.functions x ≡ true → height.height all.tall x ≤ all.high → Opt all
  opt x r low = record { bound = depth.expr function inside 1 true x; starts = text.starts_at 1 (text.printed function x); pieces = text.expr function 1 true x; numbers = order.in_expr x; tree = x; fit = any x r low }

  -- 12.4
  pub evaluated : (x : Expr) → readable_expression.is_expr all.functions x ≡ true → height.height all.tall x ≤ all.high
      → Fit all (depth.if_grouped (depth.deep function inside x).printed.starts true (depth.deep function inside x)) 0 false true (shown.evaluation function x) (order.in_expr x) x
  evaluated x r low =
      subst (λ (d : Deep). Fit all (depth.if_grouped d.printed.starts true d) 0 false true (shown.evaluation function x) (order.in_expr x) x) (same_expr all function inside reads x)
      (by (text.printed function x).starts refl)
    where
      by : (b : Bool) → (text.printed function x).starts ≡ b → Fit all (depth.if_grouped b true (beside all function inside reads x)) 0 false true (text.if_grouped b true (text.printed function x)) (order.in_expr x) x
      by true starts = record { look = group_look; enough = omega arith; plain = λ _. refl; part = group true ((whole x r (record { within = low })).part true (no_bar (text.printed function x).is_in)) }
      by false starts = record { look = record { level = (text.printed function x).level; calls = (text.printed function x).calls; starts = (text.printed function x).starts }; enough = omega arith; plain = λ _. starts; part = (whole x r (record { within = low })).part true (no_bar (text.printed function x).is_in) }

  -- ---- declarators

  pub record InitOf (allows_in : Bool) (o : Option Expr) : Type 0 where
    pub init : Option (Init all allows_in)
    pub is : option_map (λ (i : Init all allows_in). i.tree) init ≡ o
    pub pieces : init_pieces init ≡ shown.initialiser function allows_in o
    pub numbers : init_numbers init ≡ order.in_maybe o
    pub bound : init_bound init ≡ depth.maybe_expr function inside 2 allows_in o

  init_of : (allows_in : Bool) (o : Option Expr) → readable_expression.is_maybe all.functions o ≡ true → height.of_maybe all.tall o ≤ all.high → InitOf allows_in o
  init_of allows_in None r low = record { init = None; is = refl; pieces = refl; numbers = refl; bound = refl }
  init_of allows_in (Some x) r low =
      let i : Init all allows_in = record {
        starts = text.starts_at 2 (text.printed function x);
        pieces = text.expr function 2 allows_in x;
        numbers = order.in_expr x;
        tree = x;
        bound = depth.expr function inside 2 allows_in x;
        fit = taken 2 allows_in (omega arith) x r low;
      } in
      record { init = Some i; is = refl; pieces = refl; numbers = refl; bound = refl }

  pub record DeclsOf (allows_in : Bool) (ds : List Declarator) : Type 0 where
    pub xs : List (Decl all allows_in)
    pub trees : decls_trees xs ≡ ds
    pub pieces : behind_commas decl_pieces xs ≡ behind_commas (shown.declarator function allows_in) ds
    pub numbers : decls_numbers xs ≡ order.in_declarators ds
    pub bound : decls_bound xs ≡ depth.declarators function inside allows_in ds

  pub record VarsOf (allows_in : Bool) (ds : List Declarator) : Type 0 where
    pub x : Decl all allows_in
    pub xs : List (Decl all allows_in)
    pub trees : decls_trees (x ∷ xs) ≡ ds
    pub pieces : separated decl_pieces (x ∷ xs) ≡ separated (shown.declarator function allows_in) ds
    pub numbers : decls_numbers (x ∷ xs) ≡ order.in_declarators ds
    pub bound : decls_bound (x ∷ xs) ≡ depth.declarators function inside allows_in ds

  module _ (allows_in : Bool) (d : Declarator) (r : readable.is_declarator all.functions d ≡ true) (low : height.of_maybe all.tall d.init ≤ all.high) where
    the_init : InitOf allows_in d.init
    the_init = init_of allows_in d.init (both _ _ r).1 low

    decl : Decl all allows_in
    decl = record { tree = d; declared = is_declared d.name (both _ _ r).0; init = the_init.init; init_is = the_init.is }

    decl_pieces_are : decl_pieces decl ≡ shown.declarator function allows_in d
    unfolding decl
    decl_pieces_are = ap (λ ps. name d.name ++ ps) the_init.pieces

    decl_numbers_are : init_numbers decl.init ≡ order.in_maybe d.init
    unfolding decl
    decl_numbers_are = the_init.numbers

    decl_bound_is : init_bound decl.init ≡ depth.maybe_expr function inside 2 allows_in d.init
    unfolding decl
    decl_bound_is = the_init.bound

    decl_tree_is : decl.tree ≡ d
    unfolding decl
    decl_tree_is = refl

  decls_of : (allows_in : Bool) (ds : List Declarator) → list_all (readable.is_declarator all.functions) ds ≡ true → height.of_declarators all.tall ds ≤ all.high → DeclsOf allows_in ds
  decls_of allows_in [] r low = record { xs = []; trees = refl; pieces = refl; numbers = refl; bound = refl }
  decls_of allows_in (d ∷ ds) r low =
      let p = both _ _ r in
      let rest = decls_of allows_in ds p.1 (omega (arith, low)) in
      let own : height.of_maybe all.tall d.init ≤ all.high = omega (arith, low) in
      let x = decl allows_in d p.0 own in
      record {
        xs = x ∷ rest.xs;
        trees = ap (λ z. z ∷ decls_trees rest.xs) (decl_tree_is allows_in d p.0 own) ∙ ap (λ zs. d ∷ zs) rest.trees;
        pieces = ap (λ ps. (closing (codes ",") ++ ps) ++ behind_commas decl_pieces rest.xs) (decl_pieces_are allows_in d p.0 own) ∙ ap (λ ps. (closing (codes ",") ++ shown.declarator function allows_in d) ++ ps) rest.pieces;
        numbers = ap (λ ns. ns ++ decls_numbers rest.xs) (decl_numbers_are allows_in d p.0 own) ∙ ap (λ ns. order.in_maybe d.init ++ ns) rest.numbers;
        bound = ap (λ n. max n (decls_bound rest.xs)) (decl_bound_is allows_in d p.0 own) ∙ ap (λ n. max (depth.maybe_expr function inside 2 allows_in d.init) n) rest.bound;
      }

  pub vars_of : (allows_in : Bool) (ds : List Declarator) → readable.are_declarators all.functions ds ≡ true → height.of_declarators all.tall ds ≤ all.high → VarsOf allows_in ds
  vars_of allows_in [] r low = absurd (cc)
  vars_of allows_in (d ∷ ds) r low =
      let p = both _ _ r in
      let rest = decls_of allows_in ds p.1 (omega (arith, low)) in
      let own : height.of_maybe all.tall d.init ≤ all.high = omega (arith, low) in
      let x = decl allows_in d p.0 own in
      record {
        x = x;
        xs = rest.xs;
        trees = ap (λ z. z ∷ decls_trees rest.xs) (decl_tree_is allows_in d p.0 own) ∙ ap (λ zs. d ∷ zs) rest.trees;
        pieces = ap (λ ps. ps ++ behind_commas decl_pieces rest.xs) (decl_pieces_are allows_in d p.0 own) ∙ ap (λ ps. shown.declarator function allows_in d ++ ps) rest.pieces;
        numbers = ap (λ ns. ns ++ decls_numbers rest.xs) (decl_numbers_are allows_in d p.0 own) ∙ ap (λ ns. order.in_maybe d.init ++ ns) rest.numbers;
        bound = ap (λ n. max n (decls_bound rest.xs)) (decl_bound_is allows_in d p.0 own) ∙ ap (λ n. max (depth.maybe_expr function inside 2 allows_in d.init) n) rest.bound;
      }

  -- ---- headers of `for`

  pub start_of : (from : ForStart) → readable.is_start all.functions from ≡ true → height.of_start all.tall from ≤ all.high → StartPart all (depth.for_start function inside from) (shown.for_start function from) (order.in_start from) from
  start_of start.Nothing r low = nothing_part
  start_of (start.Expr x) r low = expression_start (taken 1 false (omega arith) x r low)
  start_of (start.Var ds) r low =
      let v = vars_of false ds r low in
      subst (λ b. StartPart all b (word (codes "var") ++ separated (shown.declarator function false) ds) (order.in_declarators ds) (start.Var ds)) v.bound
      (subst (λ ps. StartPart all (decls_bound (v.x ∷ v.xs)) (word (codes "var") ++ ps) (order.in_declarators ds) (start.Var ds)) v.pieces
      (subst (λ ns. StartPart all (decls_bound (v.x ∷ v.xs)) (word (codes "var") ++ separated decl_pieces (v.x ∷ v.xs)) ns (start.Var ds)) v.numbers
      (subst (λ es. StartPart all (decls_bound (v.x ∷ v.xs)) (word (codes "var") ++ separated decl_pieces (v.x ∷ v.xs)) (decls_numbers (v.x ∷ v.xs)) (start.Var es)) v.trees (var_start v.x v.xs))))

  pub target_of : (to : ForTarget) → readable.is_for_target all.functions to ≡ true → height.of_target all.tall to ≤ all.high → TargetPart all (depth.for_target function inside to) (shown.for_target function to) (order.in_target to) to
  target_of (target.Expr x) r low = let p = both _ _ r in expression_target (taken 16 false (omega arith) x p.0 low) (sym (read_target all.functions x) ∙ p.1)
  target_of (target.Var at text) r low = var_target at text (is_declared text r)
