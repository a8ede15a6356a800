-- Code that is the same but for places, numbers of functions and captured names, by one layer of the tree at a time.
use Rattle.std.proofs.Common.{◌≡◌, ℕ, zero, suc, Bool, true, List, [], ◌∷◌}
use Rattle.std.specs.Prelude.{slice_get, Option, Some, None}
use Rattle.js_value.specs.declared.operator.BinaryOp.{BinaryOp}
use Rattle.js_value.specs.declared.operator.UnaryOp.{UnaryOp}
use Rattle.js_value.specs.declared.place.FuncNo.{FuncNo}
use Rattle.js_value.specs.declared.place.Place.{Place}
use Rattle.js_value.specs.declared.primitive.Kind.{Kind}
use Rattle.js_value.specs.declared.primitive.Primitive.{Primitive}
use Rattle.js_tree.specs.Mentions.{hoisted_functions}
use Rattle.js_tree.specs.declared.expression.Expr.{Expr}
use Rattle.js_tree.specs.declared.expression.Field.{Field, out-Field}
use Rattle.js_tree.specs.declared.expression.ExprForm.{ExprForm, out-ExprForm}
use Rattle.js_tree.specs.declared.expression.ExprForm.TheOpen.{ExprForm-F, Field-F}
use Rattle.js_tree.specs.declared.expression.LogicOp.{LogicOp}
use Rattle.js_tree.specs.declared.expression.StepOp.{StepOp}
use Rattle.js_tree.specs.declared.statement.Case.{Case}
use Rattle.js_tree.specs.declared.statement.Catch.{Catch, out-Catch}
use Rattle.js_tree.specs.declared.statement.Declarator.{Declarator}
use Rattle.js_tree.specs.declared.statement.Finally.{Finally, out-Finally}
use Rattle.js_tree.specs.declared.statement.ForStart.{ForStart}
use Rattle.js_tree.specs.declared.statement.ForStart.TheVariants as start
use Rattle.js_tree.specs.declared.statement.ForTarget.{ForTarget}
use Rattle.js_tree.specs.declared.statement.ForTarget.TheVariants as target
use Rattle.js_tree.specs.declared.statement.Func.{Func}
use Rattle.js_tree.specs.declared.statement.Name.{Name}
use Rattle.js_tree.specs.declared.statement.Stmt.{Stmt}
use Rattle.js_tree.specs.declared.statement.StmtForm.{StmtForm, out-StmtForm}
use Rattle.js_tree.specs.declared.statement.StmtForm.TheOpen.{StmtForm-F}
use Rattle.plain_heap.specs.Heap.{Key}
use Rattle.js_machine.specs.Machine.Creating as C
use Rattle.js_machine.specs.Machine.Statements as S
use Rattle.related_states.specs.Related.{Correspondence, Names, are_named, BothOption, BothEach}

-- names that both codes declare
abbrev pub inside : List (List ℕ) → Names → Names
inside [] ns = ns
inside (d ∷ ds) ns = (d, d) ∷ inside ds ns

-- ---- names of function expressions

abbrev pub own_scope : Option Name → Names → Names
own_scope None ns = ns
own_scope (Some n) ns = (n.text, n.text) ∷ ns

pub data SameOwn : Option Name → Option Name → Type 0 where
  no_own : SameOwn None None
  own : {n k : Name} → n.text ≡ k.text → SameOwn (Some n) (Some k)

abbrev pub AreNamed : Names → List ℕ → List ℕ → Type 0
AreNamed ns a b = are_named ns a b ≡ true

-- parameters whose names are bound alike
pub record SameParameter (ns : Names) (p q : Name) : Type 0 where
  pub named : AreNamed ns p.text q.text

-- ---- code

module _ (x : Correspondence) (functions others : List Func) where
  -- functions that stand in code: they are equally strict there (10.1.1)
  pub record SameInner (ns : Names) (f g : FuncNo) : Type 0 where
    pub function : x.Functions ns f g
    pub strict : (s : Bool) → C.is_strict_in s (slice_get functions f.0) ≡ C.is_strict_in s (slice_get others g.0)

  -- a function expression: its own name is around it
  pub record SameClosure (ns : Names) (f g : FuncNo) : Type 0 where
    pub own : SameOwn (C.name_of (slice_get functions f.0)) (C.name_of (slice_get others g.0))
    pub inner : SameInner (own_scope (C.name_of (slice_get functions f.0)) ns) f g

  module _ (X : Names → Expr → Expr → Type 0) (ns : Names) where
    pub data SameFieldOf : Field-F ExprForm Field Expr → Field-F ExprForm Field Expr → Type 0 where
      same_value_field : {at place : Place} (key : Key) {e f : Expr} → X ns e f → SameFieldOf (Field-F.Value at key e) (Field-F.Value place key f)
      same_getter_field : {at place : Place} (key : Key) {f g : FuncNo} → SameInner ns f g → SameFieldOf (Field-F.Getter at key f) (Field-F.Getter place key g)
      same_setter_field : {at place : Place} (key : Key) {f g : FuncNo} → SameInner ns f g → SameFieldOf (Field-F.Setter at key f) (Field-F.Setter place key g)

    pub record SameFields (f g : Field) : Type 0 where
      pub form : SameFieldOf (out-Field f) (out-Field g)

    pub data SameForm : ExprForm-F ExprForm Field Expr → ExprForm-F ExprForm Field Expr → Type 0 where
      both_this : SameForm ExprForm-F.This ExprForm-F.This
      both_name : {a b : List ℕ} → are_named ns a b ≡ true → SameForm (ExprForm-F.Name a) (ExprForm-F.Name b)
      both_literal : (p : Primitive) → SameForm (ExprForm-F.Literal p) (ExprForm-F.Literal p)
      both_array : {es fs : List (Option Expr)} → BothEach (BothOption (X ns)) es fs → SameForm (ExprForm-F.ArrayLit es) (ExprForm-F.ArrayLit fs)
      both_object : {es fs : List Field} → BothEach SameFields es fs → SameForm (ExprForm-F.ObjectLit es) (ExprForm-F.ObjectLit fs)
      both_function : {f g : FuncNo} → SameClosure ns f g → SameForm (ExprForm-F.Func f) (ExprForm-F.Func g)
      both_member : {e f : Expr} → X ns e f → (key : Key) → SameForm (ExprForm-F.Member e key) (ExprForm-F.Member f key)
      both_index : {e f i j : Expr} → X ns e f → X ns i j → SameForm (ExprForm-F.Index e i) (ExprForm-F.Index f j)
      both_call : {e f : Expr} {es fs : List Expr} → X ns e f → BothEach (X ns) es fs → SameForm (ExprForm-F.Call e es) (ExprForm-F.Call f fs)
      both_new : {e f : Expr} {es fs : List Expr} → X ns e f → BothEach (X ns) es fs → SameForm (ExprForm-F.New e es) (ExprForm-F.New f fs)
      both_unary : (op : UnaryOp) {e f : Expr} → X ns e f → SameForm (ExprForm-F.Unary op e) (ExprForm-F.Unary op f)
      both_binary : (op : BinaryOp) {e f i j : Expr} → X ns e f → X ns i j → SameForm (ExprForm-F.Binary op e i) (ExprForm-F.Binary op f j)
      both_logic : (op : LogicOp) {e f i j : Expr} → X ns e f → X ns i j → SameForm (ExprForm-F.Logic op e i) (ExprForm-F.Logic op f j)
      both_conditional : {e f i j k l : Expr} → X ns e f → X ns i j → X ns k l → SameForm (ExprForm-F.Conditional e i k) (ExprForm-F.Conditional f j l)
      both_assign : (op : Option BinaryOp) {e f i j : Expr} → X ns e f → X ns i j → SameForm (ExprForm-F.Assign e op i) (ExprForm-F.Assign f op j)
      both_step : (op : StepOp) {e f : Expr} → X ns e f → SameForm (ExprForm-F.Step op e) (ExprForm-F.Step op f)
      both_comma : {e f i j : Expr} → X ns e f → X ns i j → SameForm (ExprForm-F.Comma e i) (ExprForm-F.Comma f j)
      both_input : (kind : Kind) (name : List ℕ) → SameForm (ExprForm-F.Input kind name) (ExprForm-F.Input kind name)
      both_host : (kind : Kind) (name : List ℕ) {es fs : List Expr} → BothEach (X ns) es fs → SameForm (ExprForm-F.HostCall kind name es) (ExprForm-F.HostCall kind name fs)

  module _ (X : Names → Expr → Expr → Type 0) (Y : Names → Stmt → Stmt → Type 0) (ns : Names) where
    pub record SameDeclarator (d e : Declarator) : Type 0 where
      pub name : are_named ns d.name e.name ≡ true
      pub init : BothOption (X ns) d.init e.init

    pub data SameStart : ForStart → ForStart → Type 0 where
      start_nothing : SameStart start.Nothing start.Nothing
      start_expr : {e f : Expr} → X ns e f → SameStart (start.Expr e) (start.Expr f)
      start_var : {ds es : List Declarator} → BothEach SameDeclarator ds es → SameStart (start.Var ds) (start.Var es)

    pub data SameTarget : ForTarget → ForTarget → Type 0 where
      target_expr : {e f : Expr} → X ns e f → SameTarget (target.Expr e) (target.Expr f)
      target_var : {at place : Place} {a b : List ℕ} → are_named ns a b ≡ true → SameTarget (target.Var at a) (target.Var place b)

    pub data SameClause : S.Clause → S.Clause → Type 0 where
      same_clause : {t u : Option Expr} {ss ts : List Stmt} → BothOption (X ns) t u → BothEach (Y ns) ss ts → SameClause (t, ss) (u, ts)

    pub record SameCases (c d : Case) : Type 0 where
      pub clause : SameClause (S.clause_of c) (S.clause_of d)

    -- the handler's name is around its body
    pub record SameCatch (c d : Catch) : Type 0 where
      pub name : (out-Catch c).name ≡ (out-Catch d).name
      pub body : BothEach (Y (((out-Catch c).name, (out-Catch c).name) ∷ ns)) (out-Catch c).body (out-Catch d).body

    pub record SameFinally (c d : Finally) : Type 0 where
      pub body : BothEach (Y ns) (out-Finally c).body (out-Finally d).body

    pub data SameStmtForm : StmtForm-F StmtForm Case Catch Finally Stmt → StmtForm-F StmtForm Case Catch Finally Stmt → Type 0 where
      both_var : {ds es : List Declarator} → BothEach SameDeclarator ds es → SameStmtForm (StmtForm-F.Var ds) (StmtForm-F.Var es)
      both_declared : (f g : FuncNo) → SameStmtForm (StmtForm-F.FuncDecl f) (StmtForm-F.FuncDecl g)
      both_eval : {e f : Expr} → X ns e f → SameStmtForm (StmtForm-F.Eval e) (StmtForm-F.Eval f)
      both_block : {ss ts : List Stmt} → BothEach (Y ns) ss ts → SameStmtForm (StmtForm-F.Block ss) (StmtForm-F.Block ts)
      both_empty : SameStmtForm StmtForm-F.Empty StmtForm-F.Empty
      both_if : {e f : Expr} {s t : Stmt} {u v : Option Stmt} → X ns e f → Y ns s t → BothOption (Y ns) u v → SameStmtForm (StmtForm-F.If e s u) (StmtForm-F.If f t v)
      both_do : {e f : Expr} {s t : Stmt} → Y ns s t → X ns e f → SameStmtForm (StmtForm-F.DoWhile s e) (StmtForm-F.DoWhile t f)
      both_while : {e f : Expr} {s t : Stmt} → X ns e f → Y ns s t → SameStmtForm (StmtForm-F.While e s) (StmtForm-F.While f t)
      both_for : {a b : ForStart} {e f i j : Option Expr} {s t : Stmt} → SameStart a b → BothOption (X ns) e f → BothOption (X ns) i j → Y ns s t → SameStmtForm (StmtForm-F.For a e i s) (StmtForm-F.For b f j t)
      both_for_in : {a b : ForTarget} {e f : Expr} {s t : Stmt} → SameTarget a b → X ns e f → Y ns s t → SameStmtForm (StmtForm-F.ForIn a e s) (StmtForm-F.ForIn b f t)
      both_continue : SameStmtForm StmtForm-F.Continue StmtForm-F.Continue
      both_break : SameStmtForm StmtForm-F.Break StmtForm-F.Break
      both_return : {e f : Option Expr} → BothOption (X ns) e f → SameStmtForm (StmtForm-F.Return e) (StmtForm-F.Return f)
      both_switch : {e f : Expr} {cs ds : List Case} → X ns e f → BothEach SameCases cs ds → SameStmtForm (StmtForm-F.Switch e cs) (StmtForm-F.Switch f ds)
      both_throw : {e f : Expr} → X ns e f → SameStmtForm (StmtForm-F.Throw e) (StmtForm-F.Throw f)
      both_try : {ss ts : List Stmt} {c d : Option Catch} {k l : Option Finally} → BothEach (Y ns) ss ts → BothOption SameCatch c d → BothOption SameFinally k l → SameStmtForm (StmtForm-F.Try ss c k) (StmtForm-F.Try ts d l)

  -- functions of the two codes that are declared in one place
  pub record SameHoisted (ns : Names) (f g : FuncNo) : Type 0 where
    pub inner : SameInner ns f g
    pub named : BothEach (AreNamed ns) (C.function_name functions f) (C.function_name others g)

  pub record SameFunc (Y : Names → Stmt → Stmt → Type 0) (ns : Names) (f g : Func) : Type 0 where
    pub parameters : BothEach (SameParameter (inside (C.declared_names functions f) ns)) f.params g.params
    pub declared : C.declared_names functions f ≡ C.declared_names others g
    pub hoisted : BothEach (SameHoisted (inside (C.declared_names functions f) ns)) (hoisted_functions f.body) (hoisted_functions g.body)
    pub body : BothEach (Y (inside (C.declared_names functions f) ns)) f.body g.body

  -- A relation between the codes of two programs: each form has the same form, whose parts correspond.
  pub record Code : Type 1 where
    pub Exprs : Names → Expr → Expr → Type 0
    pub Stmts : Names → Stmt → Stmt → Type 0
    pub form : (ns : Names) (e f : Expr) → Exprs ns e f → SameForm Exprs ns (out-ExprForm e.form) (out-ExprForm f.form)
    pub stmt_form : (ns : Names) (s t : Stmt) → Stmts ns s t → SameStmtForm Exprs Stmts ns (out-StmtForm s.form) (out-StmtForm t.form)
    pub called : (ns : Names) (f g : FuncNo) → x.Functions ns f g → BothOption (SameFunc Stmts ns) (slice_get functions f.0) (slice_get others g.0)

-- ---- trees of which so many layers correspond, down to their leaves

module _ (x : Correspondence) (functions others : List Func) where
  abbrev pub SameExprTo : ℕ → Names → Expr → Expr → Type 0
  SameExprTo zero ns e f = ⊥
  SameExprTo (suc n) ns e f = SameForm x functions others (SameExprTo n) ns (out-ExprForm e.form) (out-ExprForm f.form)

  abbrev pub SameStmtTo : ℕ → Names → Stmt → Stmt → Type 0
  SameStmtTo zero ns s t = ⊥
  SameStmtTo (suc n) ns s t = SameStmtForm x functions others (SameExprTo n) (SameStmtTo n) ns (out-StmtForm s.form) (out-StmtForm t.form)

  pub record SameStmt (ns : Names) (s t : Stmt) : Type 0 where
    pub height : ℕ
    pub layers : SameStmtTo height ns s t
