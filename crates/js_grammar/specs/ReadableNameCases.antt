-- Cases of names, keys and functions in trees that reading can give, worked out by hand, each tree behind its text.
use Rattle.std.specs.Prelude.{ℕ, true, false, codes, List, [], ◌∷◌, Some, None}
use Rattle.js_tree.specs.declared.expression.ExprForm.TheVariants as e
use Rattle.js_tree.specs.declared.expression.Field.{Field}
use Rattle.js_tree.specs.declared.expression.Field.TheVariants as field
use Rattle.js_tree.specs.declared.statement.ForStart.TheVariants as start
use Rattle.js_tree.specs.declared.statement.ForTarget.TheVariants as target
use Rattle.js_tree.specs.declared.statement.Func.{Func}
use Rattle.js_tree.specs.declared.statement.Name.{Name}
use Rattle.js_tree.specs.declared.statement.Script.{Script}
use Rattle.js_tree.specs.declared.statement.Stmt.{Stmt}
use Rattle.js_tree.specs.declared.statement.StmtForm.TheVariants as s
use Rattle.js_tree.specs.NameCases.{eval, declaring, block, named, nameless}
use Rattle.js_tree.specs.Refusals.{place}
use Rattle.js_tree.specs.Trees.{stmt, no, declared, func, declarator, clause, handler, script}
use Rattle.js_grammar.specs.ReadableCases.{Rows, only, does, low, empty, without_else, AreReadable}

-- ---- names (7.6)

-- a surrogate without its partner
abbrev pub surrogate : List ℕ
surrogate = 0xD800 ∷ []

-- names that are read
abbrev pub name_rows : Rows
name_rows =
    (only (e.Name (codes "_")), true)
    ∷ (only (e.Name (codes "$_")), true)
    ∷ (only (e.Name (codes "")), false)
    ∷ (only (e.Name surrogate), false)
    ∷ (only (e.Name (codes "if")), false)
    ∷ (only (e.Name (codes "class")), false)
    ∷ (only (e.Name (codes "eval")), false)
    ∷ (only (e.Name (codes "arguments")), false)
    ∷ (only (e.Name (codes "__abstract")), false)
    ∷ (only (e.Name (codes "__residual")), false)
    ∷ (only (e.Name (codes "__proto__")), false)
    ∷ []

-- a function expression with this name and these parameters
abbrev pub expression_of : Func → Script
expression_of f = script (eval (e.Func (no 0)) ∷ []) (f ∷ [])

-- names that are declared
abbrev pub declared_rows : Rows
declared_rows =
    (does (s.Var (declarator 0 (codes "$") None ∷ [])), true)
    ∷ (does (s.Var (declarator 0 (codes "if") None ∷ [])), false)
    ∷ (does (s.For (start.Var (declarator 0 (codes "$") None ∷ [])) None None empty), true)
    ∷ (does (s.For (start.Var (declarator 0 (codes "eval") None ∷ [])) None None empty), false)
    ∷ (does (s.ForIn (target.Var (place 0) (codes "$")) low empty), true)
    ∷ (does (s.ForIn (target.Var (place 0) (codes "arguments")) low empty), false)
    ∷ (does (s.Try [] (Some (handler 0 (codes "$") [])) None), true)
    ∷ (does (s.Try [] (Some (handler 0 (codes "__abstract") [])) None), false)
    ∷ (expression_of (func 0 (Some (declared 0 (codes "$"))) [] []), true)
    ∷ (expression_of (func 0 (Some (declared 0 (codes "__residual"))) [] []), false)
    ∷ (expression_of (func 0 None (declared 0 (codes "$") ∷ declared 0 (codes "_") ∷ []) []), true)
    ∷ (expression_of (func 0 None (declared 0 (codes "$") ∷ declared 0 (codes "") ∷ []) []), false)
    ∷ []

-- an object literal of these properties
abbrev pub object : List Field → Stmt
object fields = eval (e.ObjectLit fields)

-- 11.1.5, 11.2.1: any text but `__proto__` is a key of a property, and an identifier name that of a member
abbrev pub key_rows : Rows
key_rows =
    (only (e.Member low (codes "$_")), true)
    ∷ (only (e.Member low (codes "")), false)
    ∷ (only (e.Member low surrogate), false)
    ∷ (only (e.Member low (codes "__proto__")), false)
    ∷ (script (object (field.Value (place 0) (codes "a b") low ∷ field.Value (place 0) [] low ∷ []) ∷ []) [], true)
    ∷ (script (object (field.Value (place 0) (codes "__proto__") low ∷ []) ∷ []) [], false)
    ∷ (script (object (field.Value (place 0) (65536 ∷ []) low ∷ []) ∷ []) [], false)
    ∷ (script (object (field.Getter (place 0) (codes "if") (no 0) ∷ []) ∷ []) (nameless [] ∷ []), true)
    ∷ (script (object (field.Getter (place 0) (codes "__proto__") (no 0) ∷ []) ∷ []) (nameless [] ∷ []), false)
    ∷ []

abbrev pub setter_key_rows : Rows
setter_key_rows =
    (script (object (field.Setter (place 0) (codes "if") (no 0) ∷ []) ∷ []) (func 0 None (declared 0 (codes "_") ∷ []) [] ∷ []), true)
    ∷ (script (object (field.Setter (place 0) (codes "__proto__") (no 0) ∷ []) ∷ []) (func 0 None (declared 0 (codes "_") ∷ []) [] ∷ []), false)
    ∷ []

-- ---- functions (13)

-- each function is named once, in source order
abbrev pub order_rows : Rows
order_rows =
    (script (eval (e.Func (no 0)) ∷ eval (e.Func (no 1)) ∷ []) (nameless [] ∷ nameless [] ∷ []), true)
    ∷ (script (eval (e.Func (no 1)) ∷ eval (e.Func (no 0)) ∷ []) (nameless [] ∷ nameless [] ∷ []), false)
    ∷ (script (eval (e.Func (no 0)) ∷ eval (e.Func (no 0)) ∷ []) (nameless [] ∷ []), false)
    ∷ (script [] (nameless [] ∷ []), false)
    ∷ (script (eval (e.Func (no 0)) ∷ []) [], false)
    ∷ []

-- those inside a function come before those behind it
abbrev pub inner_rows : Rows
inner_rows =
    -- function _() { function $() {} } function $() {}
    (
      script (declaring 0 ∷ declaring 2 ∷ []) (named (codes "_") (declaring 1 ∷ []) ∷ named (codes "$") [] ∷ named (codes "$") [] ∷ []),
      true,
    )
    ∷ (
      script (declaring 0 ∷ declaring 1 ∷ []) (named (codes "_") (declaring 2 ∷ []) ∷ named (codes "$") [] ∷ named (codes "$") [] ∷ []),
      false,
    )
    ∷ []

abbrev pub with_parameters : List Name → Func
with_parameters params = func 0 None params []

abbrev pub getting : Func → Script
getting f = script (object (field.Getter (place 0) (codes "_") (no 0) ∷ []) ∷ []) (f ∷ [])

abbrev pub setting : Func → Script
setting f = script (object (field.Setter (place 0) (codes "_") (no 0) ∷ []) ∷ []) (f ∷ [])

abbrev pub parameter : Name
parameter = declared 0 (codes "_")

-- 11.1.5: an accessor's function has no name, and no parameter or one
abbrev pub accessor_rows : Rows
accessor_rows =
    (getting (with_parameters []), true)
    ∷ (getting (with_parameters (parameter ∷ [])), false)
    ∷ (getting (named (codes "$") []), false)
    ∷ (setting (with_parameters (parameter ∷ [])), true)
    ∷ (setting (with_parameters []), false)
    ∷ (setting (with_parameters (parameter ∷ parameter ∷ [])), false)
    ∷ (setting (func 0 (Some parameter) (parameter ∷ []) []), false)
    ∷ []

-- 11.1.5: no two getters of one key
abbrev pub repeated_rows : Rows
repeated_rows = (
  script
      (object (field.Getter (place 0) (codes "_") (no 0) ∷ field.Setter (place 0) (codes "_") (no 1) ∷ []) ∷ [])
      (nameless [] ∷ with_parameters (parameter ∷ []) ∷ []),
  true,
)
    ∷ (
      script
          (object (field.Getter (place 0) (codes "_") (no 0) ∷ field.Getter (place 0) (codes "_") (no 1) ∷ []) ∷ [])
          (nameless [] ∷ nameless [] ∷ []),
      false,
    )
    ∷ []

-- 13: a declaration has a name, and is an element of a script or of a function
abbrev pub declaration_rows : Rows
declaration_rows =
    (script (declaring 0 ∷ []) (named (codes "_") [] ∷ []), true)
    ∷ (script (declaring 0 ∷ []) (nameless [] ∷ []), false)
    ∷ (script (declaring 0 ∷ []) (named (codes "_") (declaring 1 ∷ []) ∷ named (codes "$") [] ∷ []), true)
    ∷ (script (block (declaring 0 ∷ []) ∷ []) (named (codes "_") [] ∷ []), false)
    ∷ (script (without_else (declaring 0) ∷ []) (named (codes "_") [] ∷ []), false)
    ∷ (script (stmt 0 (s.Switch low (clause None (declaring 0 ∷ []) ∷ [])) ∷ []) (named (codes "_") [] ∷ []), false)
    ∷ []

-- 14.1: no strict code
abbrev pub strict_rows : Rows
strict_rows =
    (script [] [], true)
    ∷ (record { directive = true; body = []; funcs = [] }, false)
    ∷ (expression_of (record { at = place 0; name = None; params = []; directive = true; body = [] }), false)
    ∷ []

pub record ReadableNameCases : Type 0 where
  pub names : AreReadable name_rows
  pub declared : AreReadable declared_rows
  pub keys : AreReadable key_rows
  pub setter_keys : AreReadable setter_key_rows
  pub order : AreReadable order_rows
  pub inner : AreReadable inner_rows
  pub accessors : AreReadable accessor_rows
  pub repeated : AreReadable repeated_rows
  pub declarations : AreReadable declaration_rows
  pub strict : AreReadable strict_rows
