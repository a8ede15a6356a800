-- The statements of a wrapper's body.
use Rattle.std.specs.Prelude.{ℕ, ◌&&◌, ◌||◌, Bool, true, false, if◌then◌else◌, List, [], ◌∷◌, map, Some, None, codes}
use Rattle.std.specs.List.{list_all}
use Rattle.std.specs.Str.{bytes_eq}
use Rattle.js_value.specs.declared.operator.BinaryOp.{BinaryOp}
use Rattle.js_value.specs.declared.operator.BinaryOp.TheVariants as binary
use Rattle.js_value.specs.declared.operator.UnaryOp.{UnaryOp}
use Rattle.js_value.specs.declared.operator.UnaryOp.TheVariants as unary
use Rattle.js_value.specs.declared.primitive.Primitive.TheVariants as primitive
use Rattle.js_tree.specs.declared.expression.Expr.{Expr}
use Rattle.js_tree.specs.declared.expression.ExprForm.{out-ExprForm}
use Rattle.js_tree.specs.declared.expression.ExprForm.TheOpen.{ExprForm-F}
use Rattle.js_tree.specs.declared.statement.Stmt.{Stmt, fold-Stmt}
use Rattle.js_tree.specs.declared.statement.StmtForm.{StmtForm, out-StmtForm, fold-StmtForm}
use Rattle.js_tree.specs.declared.statement.StmtForm.TheOpen.{StmtForm-F}
use Rattle.residual_form.specs.declared.paths.TheConstants.{DEFINE_PROPERTY, PREVENT_EXTENSIONS}
use Rattle.residual_form.specs.Paths.{Form, is_path}
use Rattle.residual_form.specs.Bodies.{Body, is_temporary, is_bound}
use Rattle.residual_form.specs.Values.{is_literal, is_operand, is_value}

-- all operators but `in` and `instanceof`, and `delete`
abbrev pub is_binary : BinaryOp → Bool
is_binary binary.In = false
is_binary binary.InstanceOf = false
is_binary _ = true

abbrev pub is_unary : UnaryOp → Bool
is_unary unary.Delete = false
is_unary _ = true

-- K: a string literal
abbrev pub is_key : Form → Bool
is_key (ExprForm-F.Literal (primitive.Text units)) = is_literal (primitive.Text units)
is_key _ = false

-- What a statement is: one of a wrapper's body, or a block of such statements.
pub record Role : Type 0 where
  pub statement : Bool
  pub block : Bool

abbrev pub statement_if : Bool → Role
statement_if b = record { statement = b; block = false }

module _ (b : Body) where
  abbrev pub are_operands : List Expr → Bool
  are_operands es = list_all (is_operand b) es

  -- E: an input form, a host call form over operands, or one operator over operands; or `A.prototype`
  abbrev pub is_computed : Form → Bool
  is_computed (ExprForm-F.Input kind name) = true
  is_computed (ExprForm-F.HostCall kind name args) = are_operands args
  is_computed (ExprForm-F.Unary op a) = is_unary op && is_operand b a
  is_computed (ExprForm-F.Binary op a c) = is_binary op && is_operand b a && is_operand b c
  is_computed (ExprForm-F.Member a key) = is_operand b a && bytes_eq key (codes "prototype")
  is_computed _ = false

  -- `A.k` and `A[K]`
  abbrev pub is_property : Form → Bool
  is_property (ExprForm-F.Member a key) = is_operand b a
  is_property (ExprForm-F.Index a key) = is_operand b a && is_key (out-ExprForm key.form)
  is_property _ = false

  -- `T = X;`, `T = E;`, `T = A.prototype;`, `A.k = X;` and `A[K] = X;`
  abbrev pub is_assignment : Form → Expr → Bool
  is_assignment (ExprForm-F.Name name) value = is_temporary b name && (is_value b value || is_computed (out-ExprForm value.form))
  is_assignment target value = is_property target && is_value b value

  -- `C(A, K, A);` with C bound to `Object.defineProperty`, and `C(A);` with C bound to `Object.preventExtensions`
  abbrev pub is_call_of : List ℕ → List Expr → Bool
  is_call_of name (a ∷ []) = is_bound b (map (λ n. n.now) PREVENT_EXTENSIONS) name && is_operand b a
  is_call_of name (a ∷ key ∷ d ∷ []) =
      is_bound b (map (λ n. n.now) DEFINE_PROPERTY) name && is_operand b a && is_key (out-ExprForm key.form) && is_operand b d
  is_call_of name _ = false

  abbrev pub is_call : Form → List Expr → Bool
  is_call (ExprForm-F.Name name) args = is_call_of name args
  is_call _ args = false

  abbrev pub is_action : Form → Bool
  is_action (ExprForm-F.Assign target None value) = is_assignment (out-ExprForm target.form) value
  is_action (ExprForm-F.HostCall kind name args) = are_operands args
  is_action (ExprForm-F.Unary unary.Delete a) = is_property (out-ExprForm a.form)
  is_action (ExprForm-F.Call callee args) = is_call (out-ExprForm callee.form) args
  is_action _ = false

  -- S, where `if` takes blocks of such statements
  abbrev pub of_stmt_form : StmtForm-F Role Bool Bool Bool Role → Role
  of_stmt_form (StmtForm-F.Eval e) = statement_if (is_action (out-ExprForm e.form))
  of_stmt_form (StmtForm-F.If test a None) = statement_if (is_operand b test && a.block)
  of_stmt_form (StmtForm-F.If test a (Some other)) = statement_if (is_operand b test && a.block && other.block)
  of_stmt_form (StmtForm-F.Block body) = record { statement = false; block = list_all (λ (r : Role). r.statement) body }
  of_stmt_form _ = statement_if false

  abbrev pub in_stmt_form : StmtForm → Role
  in_stmt_form = fold-StmtForm Role Bool Bool Bool Role of_stmt_form (λ c. false) (λ c. false) (λ f. false) (λ s. s.form)

  abbrev pub in_stmt : Stmt → Role
  in_stmt = fold-Stmt Role Bool Bool Bool Role of_stmt_form (λ c. false) (λ c. false) (λ f. false) (λ s. s.form)

  abbrev pub is_statement : Stmt → Bool
  is_statement s = (in_stmt s).statement

  -- `throw A;`
  abbrev pub is_throw : {A B C D E : Type 0} → StmtForm-F A B C D E → Bool
  is_throw (StmtForm-F.Throw a) = is_operand b a
  is_throw _ = false

  abbrev pub is_throw_alone : List Stmt → Bool
  is_throw_alone (s ∷ []) = is_throw (out-StmtForm s.form)
  is_throw_alone _ = false

  abbrev pub is_throw_block : {A B C D : Type 0} → StmtForm-F A B C D Stmt → Bool
  is_throw_block (StmtForm-F.Block body) = is_throw_alone body
  is_throw_block _ = false

  -- `throw A;`, or the same inside `if (A) { .. }`
  abbrev pub is_end : {A B C D : Type 0} → StmtForm-F A B C D Stmt → Bool
  is_end (StmtForm-F.If test a None) = is_operand b test && is_throw_block (out-StmtForm a.form)
  is_end s = is_throw s

  abbrev pub is_end_alone : List Stmt → Bool
  is_end_alone (s ∷ []) = is_end (out-StmtForm s.form)
  is_end_alone _ = false

  -- statements, then at most one end
  abbrev pub are_statements : List Stmt → Bool
  are_statements [] = true
  are_statements (s ∷ ss) = (is_statement s && are_statements ss) || is_end_alone (s ∷ ss)

  abbrev pub is_temporary_form : Form → Bool
  is_temporary_form (ExprForm-F.Name name) = is_temporary b name
  is_temporary_form _ = false

  abbrev pub is_path_assignment : Form → Bool
  is_path_assignment (ExprForm-F.Assign target None value) = is_temporary_form (out-ExprForm target.form) && is_path value
  is_path_assignment _ = false

  -- `T = PATH;`
  abbrev pub is_path_statement : {A B C D E : Type 0} → StmtForm-F A B C D E → Bool
  is_path_statement (StmtForm-F.Eval e) = is_path_assignment (out-ExprForm e.form)
  is_path_statement _ = false

  -- all PATH statements come first
  abbrev pub are_in_order : List Stmt → Bool
  are_in_order [] = true
  are_in_order (s ∷ ss) = if is_path_statement (out-StmtForm s.form) then are_in_order ss else are_statements (s ∷ ss)
