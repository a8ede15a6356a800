-- The code of the functions on one line.
use Rattle.std.proofs.Common.{◌≡◌, ℕ, ◌<◌, List, [], ◌∷◌, ◌++◌, ap, refl, ◌∙◌, Bool, true, None, Some, map, arith}
use Rattle.std.specs.Prelude.{codes, pos}
use Rattle.std.specs.Int.{is_in_range}
use Rattle.std.proofs.lemmas.Bool.Decides.{nat_tests}
use Rattle.std.specs.Char.Utf16.{utf16_chars}
use Rattle.std.specs.Fmt.{digits}
use Rattle.unicode_ident.proofs.IdentLemmas.{is_xid_start-ascii, is_xid_continue-ascii}
use Rattle.js_value.specs.declared.place.FuncNo.{FuncNo}
use Rattle.js_value.specs.declared.primitive.Primitive.TheVariants as primitive
use Rattle.js_value.specs.declared.operator.BinaryOp.TheVariants as binary
use Rattle.js_value.specs.Texts.{quoted_unit}
use Rattle.js_tree.specs.Mentions.{Names, hoisted_vars, hoisted_functions}
use Rattle.js_tree.specs.declared.statement.Script.{Script}
use Rattle.js_tree.specs.Lexing.{is_name_start, is_name_part}
use Rattle.js_tree.specs.Refusals.{place}
use Rattle.js_tree.specs.declared.expression.Field.{Field}
use Rattle.js_tree.specs.declared.expression.Field.TheVariants as field
use Rattle.js_tree.specs.declared.expression.ExprForm.TheOpen.{ExprForm-F}
use Rattle.js_tree.specs.declared.expression.Expr.{Expr}
use Rattle.js_tree.specs.declared.expression.ExprForm.TheVariants as e
use Rattle.js_tree.specs.declared.expression.ExprForm.TheFolds.{fold_out-Expr, fold_out-ExprForm, fold_out-Field}
use Rattle.js_tree.specs.declared.statement.Stmt.{Stmt}
use Rattle.js_tree.specs.declared.statement.StmtForm.TheFolds.{fold_out-Stmt, fold_out-StmtForm}
use Rattle.js_tree.specs.declared.statement.StmtForm.TheVariants as s
use Rattle.js_tree.specs.Trees.{no, expr, name, stmt, declared, declarator, func, script}
use Rattle.script_text.specs.Pieces.{Piece, LineEnd, Bind, Release, word, opening, closing}
use Rattle.script_text.specs.Statements.{begin_braces, end_braces}
use Rattle.script_text.specs.Expressions.{tokens, literal, name as token_name, reference, key_before, value, of_form, printed, printed_field}
use Rattle.script_text.specs.declared.gap.Gap.TheVariants.{Loose}
use Rattle.script_text.specs.CodeLine.{add, code_pieces}
use Rattle.script_text.specs.Printing.{function_to}
use Rattle.lone_functions.specs.Alone.{alone}
use Rattle.js_machine.specs.Machine.Codes.{code}
use Rattle.js_machine.specs.Machine.RunText.{code_line}
use Rattle.machine_cases.proofs.CodeCases.{line_of, rolled}
use Rattle.worked_runs.proofs.Folds.{opened, field_opened}
use Rattle.worked_runs.specs.WorkedRuns.{throwing_setter_script, inherited_setter_script, makers_script, counter_script}
use Rattle.js_tree.specs.declared.statement.Func.{Func}

-- ---- the lines

abbrev pub throw_line : List ℕ
throw_line = codes "function ( ) { throw 1 ; }"

abbrev pub hits_line : List ℕ
hits_line = codes "function ( x ) { hits = hits + 1 ; }"

abbrev pub read_line : List ℕ
read_line = codes "function ( ) { return %1 ; }"

abbrev pub inc_line : List ℕ
inc_line = codes "function ( ) { %1 = %1 + 1 ; return %1 ; }"

abbrev pub maker_line : List ℕ
maker_line = codes "function ( n ) { return function ( ) { return n ; } ; }"

abbrev pub make_line : List ℕ
make_line = codes "function ( ) { var n = 0 ; return { inc : function ( ) { n = n + 1 ; return n ; } , get : function ( ) { return n ; } } ; }"

-- ---- how they come about

-- a function without a name, with its parameters and the lines of its body
abbrev pub function_pieces : Names → List Piece → List Piece → List Piece
function_pieces names parameters lines =
    word (codes "function") ++ Bind names ∷ (opening (codes "(") ++ parameters ++ closing (codes ")") ++ begin_braces ++ lines ++ end_braces) ++ Release ∷ []

abbrev pub number_piece : ℕ → List Piece
number_piece n = literal (primitive.Number (pos n))

abbrev pub statement_line : List Piece → List Piece
statement_line ps = ps ++ closing (codes ";") ++ LineEnd ∷ []

module _ (function : Bool → FuncNo → List Piece) (at : ℕ) where
  printed_number : (n : ℕ) → printed function (expr at (e.Literal (primitive.Number (pos n)))) ≡ of_form function (ExprForm-F.Literal (primitive.Number (pos n)))
  printed_number n = opened function (expr at (e.Literal (primitive.Number (pos n)))) ∙ rw (e.outs-Literal (primitive.Number (pos n))) refl

  printed_name : (t : List ℕ) → printed function (expr at (e.Name t)) ≡ of_form function (ExprForm-F.Name t)
  printed_name t = opened function (expr at (e.Name t)) ∙ rw (e.outs-Name t) refl

  printed_sum : (a b : Expr) → printed function (expr at (e.Binary binary.Add a b)) ≡ of_form function (ExprForm-F.Binary binary.Add (printed function a) (printed function b))
  printed_sum a b = opened function (expr at (e.Binary binary.Add a b)) ∙ rw (e.outs-Binary binary.Add a b) refl

  printed_assigned : (a b : Expr) → printed function (expr at (e.Assign a None b)) ≡ of_form function (ExprForm-F.Assign (printed function a) None (printed function b))
  printed_assigned a b = opened function (expr at (e.Assign a None b)) ∙ rw (e.outs-Assign a None b) refl

  printed_object : (fields : List Field) → printed function (expr at (e.ObjectLit fields)) ≡ of_form function (ExprForm-F.ObjectLit (map (printed_field function) fields))
  printed_object fields = opened function (expr at (e.ObjectLit fields)) ∙ rw (e.outs-ObjectLit fields) refl

  printed_value : (key : List ℕ) (x : Expr) → printed_field function (field.Value (place at) key x) ≡ key_before Loose key ++ closing (codes ":") ++ value (printed function x)
  printed_value key x = field_opened function (field.Value (place at) key x) ∙ rw (field.outs-Value (place at) key x) refl

  printed_function : (f : FuncNo) → printed function (expr at (e.Func f)) ≡ of_form function (ExprForm-F.Func f)
  printed_function f = opened function (expr at (e.Func f)) ∙ rw (e.outs-Func f) refl

-- small letters begin names, and go on in them

small_ascii : (c : ℕ) → is_in_range 97 122 c ≡ true → c < 128
small_ascii c small = grind (arith, nat_tests)

small_starts : (c : ℕ) → is_in_range 97 122 c ≡ true → is_name_start c ≡ true
unfolding is_name_start
small_starts c small = rw (is_xid_start-ascii c (small_ascii c small)) (grind (arith, nat_tests))

small_goes_on : (c : ℕ) → is_in_range 97 122 c ≡ true → is_name_part c ≡ true
unfolding is_name_part
small_goes_on c small = rw (is_xid_continue-ascii c (small_ascii c small)) (grind (arith, nat_tests))

-- where a function is copied, and the names that it has captured are numbered
ruleset copying =
    (fold_out-Expr, fold_out-ExprForm, fold_out-Stmt, fold_out-StmtForm, rolled, e.outs-Name, e.outs-Literal, e.outs-Binary, e.outs-Assign, e.outs-Func, e.rolls-Literal, e.rolls-Assign)

ruleset printing = (fold_out-Stmt, fold_out-StmtForm, printed_number, printed_name, printed_sum, printed_assigned, printed_function)

-- a tree whose code is a function that stands alone, with those inside it
abbrev alone_with : List Func → Script
alone_with functions = script (stmt 0 (s.Eval (expr 0 (e.Func (no 0)))) ∷ []) functions

abbrev digit : ℕ → Expr
digit n = expr 0 (e.Literal (primitive.Number (pos n)))

-- `return t;` and `t = t + 1;`
abbrev return_of : List ℕ → Stmt
return_of t = stmt 0 (s.Return (Some (name 0 t)))

abbrev raised : List ℕ → Stmt
raised t = stmt 0 (s.Eval (expr 0 (e.Assign (name 0 t) None (expr 0 (e.Binary binary.Add (name 0 t) (digit 1))))))

-- ---- throw 1;

abbrev throwing_tree : Script
throwing_tree = alone_with (func 0 None [] (stmt 0 (s.Throw (digit 1)) ∷ []) ∷ [])

throwing_alone : code throwing_setter_script.funcs (no 0) [] ≡ throwing_tree
unfolding code alone digits hoisted_vars hoisted_functions
throwing_alone = simp (copying, s.outs-Throw, s.rolls-Throw)

abbrev throwing_pieces : List Piece
throwing_pieces = function_pieces [] [] (statement_line (word (codes "throw") ++ number_piece 1))

throwing_pieced : code_pieces throwing_tree (no 0) ≡ throwing_pieces
unfolding tokens function_to hoisted_vars hoisted_functions
throwing_pieced = simp (printing, s.outs-Throw)

throwing_line : code_line throwing_tree ≡ throw_line
unfolding code_line add digits quoted_unit utf16_chars lib.Utf8.encode
throwing_line = line_of throwing_tree (no 0) [] throwing_pieced

pub throwing_code : code_line (code throwing_setter_script.funcs (no 0) []) ≡ throw_line
throwing_code = ap code_line throwing_alone ∙ throwing_line

-- ---- hits = hits + 1;

abbrev inherited_tree : Script
inherited_tree = alone_with (func 0 None (declared 0 (codes "x") ∷ []) (raised (codes "hits") ∷ []) ∷ [])

inherited_alone : code inherited_setter_script.funcs (no 0) [] ≡ inherited_tree
unfolding code alone digits hoisted_vars hoisted_functions
inherited_alone = simp (copying, s.outs-Eval)

-- `t = t + 1;`
abbrev raised_line : List ℕ → List Piece
raised_line t = statement_line (reference t ++ word (codes "=") ++ reference t ++ word (codes "+") ++ number_piece 1)

abbrev inherited_pieces : List Piece
inherited_pieces = function_pieces (codes "x" ∷ []) (token_name (codes "x")) (raised_line (codes "hits"))

inherited_pieced : code_pieces inherited_tree (no 0) ≡ inherited_pieces
unfolding tokens function_to hoisted_vars hoisted_functions
inherited_pieced = simp (printing, s.outs-Eval)

inherited_line : code_line inherited_tree ≡ hits_line
unfolding code_line add digits quoted_unit utf16_chars lib.Utf8.encode
inherited_line = line_of inherited_tree (no 0) [] inherited_pieced

pub inherited_code : code_line (code inherited_setter_script.funcs (no 0) []) ≡ hits_line
inherited_code = ap code_line inherited_alone ∙ inherited_line

-- ---- return n; of the maker's function and of `get`, where `n` is captured

abbrev bound : Names
bound = codes "n" ∷ []

-- the name that stands for it
abbrev first : List ℕ
first = codes "%1"

abbrev read_tree : Script
read_tree = alone_with (func 0 None [] (return_of first ∷ []) ∷ [])

made_alone : code makers_script.funcs (no 1) bound ≡ read_tree
unfolding code alone digits hoisted_vars hoisted_functions
made_alone = simp (copying, s.outs-Return)

get_alone : code counter_script.funcs (no 2) bound ≡ read_tree
unfolding code alone digits hoisted_vars hoisted_functions
get_alone = simp (copying, s.outs-Return)

abbrev return_name : List ℕ → List Piece
return_name t = statement_line (word (codes "return") ++ reference t)

abbrev read_pieces : List ℕ → List Piece
read_pieces t = function_pieces [] [] (return_name t)

read_pieced : code_pieces read_tree (no 0) ≡ read_pieces first
unfolding tokens function_to hoisted_vars hoisted_functions
read_pieced = simp (printing, s.outs-Return)

reading_line : code_line read_tree ≡ read_line
unfolding code_line add digits quoted_unit utf16_chars lib.Utf8.encode
reading_line = line_of read_tree (no 0) [] read_pieced

pub made_code : code_line (code makers_script.funcs (no 1) bound) ≡ read_line
made_code = ap code_line made_alone ∙ reading_line

pub get_code : code_line (code counter_script.funcs (no 2) bound) ≡ read_line
get_code = ap code_line get_alone ∙ reading_line

-- ---- n = n + 1; return n;

abbrev inc_tree : Script
inc_tree = alone_with (func 0 None [] (raised first ∷ return_of first ∷ []) ∷ [])

inc_alone : code counter_script.funcs (no 1) bound ≡ inc_tree
unfolding code alone digits hoisted_vars hoisted_functions
inc_alone = simp (copying, s.outs-Eval, s.outs-Return)

abbrev inc_pieces : List ℕ → List Piece
inc_pieces t = function_pieces [] [] (raised_line t ++ return_name t)

inc_pieced : code_pieces inc_tree (no 0) ≡ inc_pieces first
unfolding tokens function_to hoisted_vars hoisted_functions
inc_pieced = simp (printing, s.outs-Eval, s.outs-Return)

raising_line : code_line inc_tree ≡ inc_line
unfolding code_line add digits quoted_unit utf16_chars lib.Utf8.encode
raising_line = line_of inc_tree (no 0) [] inc_pieced

pub inc_code : code_line (code counter_script.funcs (no 1) bound) ≡ inc_line
inc_code = ap code_line inc_alone ∙ raising_line

-- ---- the functions around them, which bind `n`

abbrev maker_tree : Script
maker_tree = alone_with (func 0 None (declared 0 (codes "n") ∷ []) (stmt 0 (s.Return (Some (expr 0 (e.Func (no 1))))) ∷ []) ∷ func 0 None [] (return_of (codes "n") ∷ []) ∷ [])

maker_alone : code makers_script.funcs (no 0) [] ≡ maker_tree
unfolding code alone digits hoisted_vars hoisted_functions
maker_alone = simp (copying, s.outs-Return)

abbrev maker_pieces : List Piece
maker_pieces = function_pieces (codes "n" ∷ []) (token_name (codes "n")) (statement_line (word (codes "return") ++ read_pieces (codes "n")))

maker_pieced : code_pieces maker_tree (no 0) ≡ maker_pieces
unfolding tokens function_to hoisted_vars hoisted_functions
maker_pieced = simp (printing, s.outs-Return)

making_line : code_line maker_tree ≡ maker_line
unfolding code_line add digits quoted_unit utf16_chars lib.Utf8.encode
making_line = line_of maker_tree (no 0) [] maker_pieced

pub maker_code : code_line (code makers_script.funcs (no 0) []) ≡ maker_line
maker_code = ap code_line maker_alone ∙ making_line

abbrev make_tree : Script
make_tree =
    alone_with (func 0 None []
    (stmt 0 (s.Var (declarator 0 (codes "n") (Some (digit 0)) ∷ []))
    ∷ stmt 0 (s.Return (Some (expr 0 (e.ObjectLit (field.Value (place 0) (codes "inc") (expr 0 (e.Func (no 1))) ∷ field.Value (place 0) (codes "get") (expr 0 (e.Func (no 2))) ∷ [])))))
    ∷ [])
    ∷ func 0 None [] (raised (codes "n") ∷ return_of (codes "n") ∷ [])
    ∷ func 0 None [] (return_of (codes "n") ∷ [])
    ∷ [])

make_alone : code counter_script.funcs (no 0) [] ≡ make_tree
unfolding code alone digits hoisted_vars hoisted_functions
make_alone = simp (copying, fold_out-Field, field.outs-Value, field.rolls-Value, e.outs-ObjectLit, e.rolls-ObjectLit, s.outs-Eval, s.outs-Return, s.outs-Var, s.rolls-Var)

abbrev key : List ℕ → List Piece
key text = token_name text ++ closing (codes ":")

abbrev make_pieces : List Piece
make_pieces =
    function_pieces bound []
    (statement_line (word (codes "var") ++ token_name (codes "n") ++ word (codes "=") ++ number_piece 0)
    ++ statement_line (word (codes "return") ++ opening (codes "{") ++ key (codes "inc") ++ inc_pieces (codes "n") ++ closing (codes ",") ++ key (codes "get") ++ read_pieces (codes "n") ++ closing (codes "}")))

make_pieced : code_pieces make_tree (no 0) ≡ make_pieces
unfolding tokens function_to hoisted_vars hoisted_functions
make_pieced = simp (printing, printed_object, printed_value, small_starts, small_goes_on, s.outs-Eval, s.outs-Return, s.outs-Var)

counting_line : code_line make_tree ≡ make_line
unfolding code_line add digits quoted_unit utf16_chars lib.Utf8.encode
counting_line = line_of make_tree (no 0) [] make_pieced

pub make_code : code_line (code counter_script.funcs (no 0) []) ≡ make_line
make_code = ap code_line make_alone ∙ counting_line
