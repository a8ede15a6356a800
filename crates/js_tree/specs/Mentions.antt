-- What a script mentions, in source order: names, inputs, and properties given twice.
use Rattle.std.specs.Prelude.{ℕ, ◌+◌, ◌-◌, ◌&&◌, Bool, true, false, if◌then◌else◌, nat_lt, List, [], ◌∷◌, ◌++◌, map, slice_get, Option, Some, None}
use Rattle.std.specs.List.{flat_map, list_any}
use Rattle.std.specs.Str.{bytes_eq}
use Rattle.js_value.specs.declared.place.Place.{Place}
use Rattle.js_value.specs.declared.place.FuncNo.{FuncNo}
use Rattle.js_value.specs.declared.primitive.Kind.{Kind}
use Rattle.js_tree.specs.declared.expression.Expr.{Expr, fold-Expr}
use Rattle.js_tree.specs.declared.expression.ExprForm.TheOpen.{ExprForm-F, Field-F}
use Rattle.js_tree.specs.declared.statement.Declarator.{Declarator}
use Rattle.js_tree.specs.declared.statement.ForStart.{ForStart}
use Rattle.js_tree.specs.declared.statement.ForStart.TheVariants as start
use Rattle.js_tree.specs.declared.statement.ForTarget.{ForTarget}
use Rattle.js_tree.specs.declared.statement.ForTarget.TheVariants as target
use Rattle.js_tree.specs.declared.statement.Func.{Func}
use Rattle.js_tree.specs.declared.statement.Name.{Name}
use Rattle.js_tree.specs.declared.statement.Script.{Script}
use Rattle.js_tree.specs.declared.statement.Stmt.{Stmt, fold-Stmt}
use Rattle.js_tree.specs.declared.statement.StmtForm.{out-StmtForm}
use Rattle.js_tree.specs.declared.statement.StmtForm.TheOpen.{StmtForm-F}
use Rattle.js_tree.specs.Parts.{is_among}

pub data Mention : Type 0 where
  -- a name that is read, and one that is assigned to
  Reads : Place → List ℕ → Mention
  Assigns : Place → List ℕ → Mention
  -- a function expression's own name that is assigned to
  AssignsOwn : Place → Mention
  -- an input
  Takes : Place → Kind → List ℕ → Mention
  -- a property given twice in a way that isn't allowed
  Repeats : Place → Mention

-- ---- properties (11.1.5)

pub data Given : Type 0 where
  Valued : Given
  Got : Given
  Set : Given

abbrev pub Property : Type 0
Property = Place × List ℕ × Given

-- not both as data and accessor, not two getters, not two setters
abbrev pub clash : Given → Given → Bool
clash Valued Valued = false
clash Got Set = false
clash Set Got = false
clash _ _ = true

-- the properties that clash with one before them
abbrev pub repeated : List Property → List Property → List Mention
repeated before [] = []
repeated before (p ∷ ps) =
    (if list_any (λ (q : Property). bytes_eq q.1 p.1 && clash q.2 p.2) before then Repeats p.0 ∷ [] else []) ++ repeated (p ∷ before) ps

-- ---- hoisted names (10.5)

abbrev pub declared_in : List Declarator → List (List ℕ)
declared_in ds = map (λ (d : Declarator). d.name) ds

abbrev pub Names : Type 0
Names = List (List ℕ)

abbrev pub of_none : {A : Type 0} → Option (List A) → List A
of_none None = []
of_none (Some xs) = xs

abbrev pub joined : {A : Type 0} → List (List A) → List A
joined xs = flat_map (λ x. x) xs

abbrev pub start_vars : ForStart → Names
start_vars start.Nothing = []
start_vars (start.Expr x) = []
start_vars (start.Var ds) = declared_in ds

abbrev pub target_vars : ForTarget → Names
target_vars (target.Expr x) = []
target_vars (target.Var at name) = name ∷ []

abbrev pub form_vars : StmtForm-F Names Names Names Names Names → Names
form_vars (StmtForm-F.Var ds) = declared_in ds
form_vars (StmtForm-F.Block body) = joined body
form_vars (StmtForm-F.If test a b) = a ++ of_none b
form_vars (StmtForm-F.DoWhile body test) = body
form_vars (StmtForm-F.While test body) = body
form_vars (StmtForm-F.For from test step body) = start_vars from ++ body
form_vars (StmtForm-F.ForIn to object body) = target_vars to ++ body
form_vars (StmtForm-F.Switch x cases) = joined cases
form_vars (StmtForm-F.Try body handler final) = joined body ++ of_none handler ++ of_none final
form_vars _ = []

-- the names that `var` declares in a statement
abbrev pub vars_in : Stmt → Names
vars_in = fold-Stmt Names Names Names Names Names form_vars (λ c. joined c.body) (λ c. joined c.body) (λ f. joined f.body) (λ s. s.form)

abbrev pub distinct_behind : Names → Names → Names
distinct_behind seen [] = []
distinct_behind seen (n ∷ ns) = if is_among seen n then distinct_behind seen ns else (n ∷ distinct_behind (n ∷ seen) ns)

-- each name once, in the order in which they come first
abbrev pub distinct : Names → Names
distinct names = distinct_behind [] names

unfoldable pub hoisted_vars : List Stmt → Names
hoisted_vars body = distinct (flat_map vars_in body)

abbrev pub declares : {A B C D E : Type 0} → StmtForm-F A B C D E → List FuncNo
declares (StmtForm-F.FuncDecl f) = f ∷ []
declares _ = []

-- function declarations stand among the elements of the code alone
unfoldable pub hoisted_functions : List Stmt → List FuncNo
hoisted_functions body = flat_map (λ (s : Stmt). declares (out-StmtForm s.form)) body

-- ---- mentions

-- what an expression mentions, and what it mentions where it is a target
abbrev pub Mentioned : Type 0
Mentioned = List Mention × List Mention

abbrev pub both : List Mention → Mentioned
both ms = (ms, ms)

abbrev pub all_of : List Mentioned → List Mention
all_of es = flat_map (λ (e : Mentioned). e.0) es

abbrev pub maybe_of : Option Mentioned → List Mention
maybe_of None = []
maybe_of (Some e) = e.0

-- without what is said of these names
abbrev pub unbound_one : Names → Mention → List Mention
unbound_one names (Reads at name) = if is_among names name then [] else (Reads at name ∷ [])
unbound_one names (Assigns at name) = if is_among names name then [] else (Assigns at name ∷ [])
unbound_one names m = m ∷ []

abbrev pub unbound : Names → List Mention → List Mention
unbound names ms = flat_map (unbound_one names) ms

-- 13: a function expression has its own name bound inside, and an assignment to that is one to its own name.
abbrev pub owned_one : Names → Mention → List Mention
owned_one names (Assigns at name) = if is_among names name then AssignsOwn at ∷ [] else (Assigns at name ∷ [])
owned_one names m = unbound_one names m

abbrev pub FieldMentions : Type 0
FieldMentions = Property × List Mention

-- By what the inside of a function mentions, where it is an expression and where it is a declaration.
module _ (inside : FuncNo → List Mention) (declared : FuncNo → List Mention) where
  abbrev pub form_mentions : ExprForm-F (Place → Mentioned) FieldMentions Mentioned → Place → Mentioned
  form_mentions ExprForm-F.This at = both []
  form_mentions (ExprForm-F.Name text) at = (Reads at text ∷ [], Assigns at text ∷ [])
  form_mentions (ExprForm-F.Literal value) at = both []
  form_mentions (ExprForm-F.ArrayLit items) at = both (flat_map maybe_of items)
  form_mentions (ExprForm-F.ObjectLit fields) at =
      both (flat_map (λ (f : FieldMentions). f.1) fields ++ repeated [] (map (λ (f : FieldMentions). f.0) fields))
  form_mentions (ExprForm-F.Func f) at = both (inside f)
  form_mentions (ExprForm-F.Member object key) at = both object.0
  form_mentions (ExprForm-F.Index object key) at = both (object.0 ++ key.0)
  form_mentions (ExprForm-F.Call callee args) at = both (callee.0 ++ all_of args)
  form_mentions (ExprForm-F.New callee args) at = both (callee.0 ++ all_of args)
  form_mentions (ExprForm-F.Unary op a) at = both a.0
  form_mentions (ExprForm-F.Binary op a b) at = both (a.0 ++ b.0)
  form_mentions (ExprForm-F.Logic op a b) at = both (a.0 ++ b.0)
  form_mentions (ExprForm-F.Conditional test a b) at = both (test.0 ++ a.0 ++ b.0)
  form_mentions (ExprForm-F.Assign a op b) at = both (a.1 ++ b.0)
  form_mentions (ExprForm-F.Step op a) at = both a.1
  form_mentions (ExprForm-F.Comma a b) at = both (a.0 ++ b.0)
  form_mentions (ExprForm-F.Input kind text) at = both (Takes at kind text ∷ [])
  form_mentions (ExprForm-F.HostCall kind text args) at = both (all_of args)

  abbrev pub field_mentions : Field-F (Place → Mentioned) FieldMentions Mentioned → FieldMentions
  field_mentions (Field-F.Value at key e) = ((at, key, Valued), e.0)
  field_mentions (Field-F.Getter at key f) = ((at, key, Got), inside f)
  field_mentions (Field-F.Setter at key f) = ((at, key, Set), inside f)

  abbrev pub expr_mentions : Expr → Mentioned
  expr_mentions = fold-Expr (Place → Mentioned) FieldMentions Mentioned form_mentions field_mentions (λ e. e.form e.at)

  abbrev pub maybe_mentions : Option Expr → List Mention
  maybe_mentions None = []
  maybe_mentions (Some e) = (expr_mentions e).0

  abbrev pub declarator_mentions : List Declarator → List Mention
  declarator_mentions ds = flat_map (λ (d : Declarator). maybe_mentions d.init) ds

  abbrev pub start_mentions : ForStart → List Mention
  start_mentions start.Nothing = []
  start_mentions (start.Expr e) = (expr_mentions e).0
  start_mentions (start.Var ds) = declarator_mentions ds

  abbrev pub target_mentions : ForTarget → List Mention
  target_mentions (target.Expr e) = (expr_mentions e).1
  target_mentions (target.Var at name) = []

  abbrev pub Ms : Type 0
  Ms = List Mention

  abbrev pub stmt_form_mentions : StmtForm-F Ms Ms Ms Ms Ms → Ms
  stmt_form_mentions (StmtForm-F.Var ds) = declarator_mentions ds
  stmt_form_mentions (StmtForm-F.FuncDecl f) = declared f
  stmt_form_mentions (StmtForm-F.Eval e) = (expr_mentions e).0
  stmt_form_mentions (StmtForm-F.Block body) = joined body
  stmt_form_mentions StmtForm-F.Empty = []
  stmt_form_mentions (StmtForm-F.If test a b) = (expr_mentions test).0 ++ a ++ of_none b
  stmt_form_mentions (StmtForm-F.DoWhile body test) = body ++ (expr_mentions test).0
  stmt_form_mentions (StmtForm-F.While test body) = (expr_mentions test).0 ++ body
  stmt_form_mentions (StmtForm-F.For from test step body) = start_mentions from ++ maybe_mentions test ++ maybe_mentions step ++ body
  stmt_form_mentions (StmtForm-F.ForIn to object body) = target_mentions to ++ (expr_mentions object).0 ++ body
  stmt_form_mentions StmtForm-F.Continue = []
  stmt_form_mentions StmtForm-F.Break = []
  stmt_form_mentions (StmtForm-F.Return e) = maybe_mentions e
  stmt_form_mentions (StmtForm-F.Switch e cases) = (expr_mentions e).0 ++ joined cases
  stmt_form_mentions (StmtForm-F.Throw e) = (expr_mentions e).0
  stmt_form_mentions (StmtForm-F.Try body handler final) = joined body ++ of_none handler ++ of_none final

  -- a handler binds its name in its body (12.14)
  abbrev pub stmt_mentions : Stmt → Ms
  stmt_mentions = fold-Stmt Ms Ms Ms Ms Ms stmt_form_mentions (λ c. maybe_mentions c.test ++ joined c.body) (λ c. unbound (c.name ∷ []) (joined c.body)) (λ f. joined f.body) (λ s. s.form)

  abbrev pub body_mentions : List Stmt → Ms
  body_mentions body = flat_map stmt_mentions body

-- ---- functions: the last ones first, since a function's inner functions come behind it

-- the own name of a function, and what the inside of it mentions of names that it doesn't declare
abbrev pub Inside : Type 0
Inside = Names × List Mention

abbrev pub none_inside : Option Inside → Inside
none_inside None = ([], [])
none_inside (Some i) = i

-- what a list has for a function, where its first item is that of the function with number n
abbrev pub item_for : {A : Type 0} → ℕ → List A → FuncNo → Option A
item_for n all f = if nat_lt f.0 n then None else slice_get all (f.0 - n)

abbrev pub nth : ℕ → List Inside → FuncNo → Inside
nth n all f = none_inside (item_for n all f)

abbrev pub as_expression : Inside → List Mention
as_expression i = flat_map (owned_one i.0) i.1

abbrev pub own_name : Option Name → Names
own_name None = []
own_name (Some n) = n.text ∷ []

abbrev pub name_of : Option Func → Names
name_of None = []
name_of (Some f) = own_name f.name

-- the names that functions with these numbers have, where the first in the list has number n
abbrev pub names_of : ℕ → List Func → List FuncNo → Names
names_of n functions numbers = flat_map (λ (f : FuncNo). name_of (item_for n functions f)) numbers

abbrev pub insides_from : ℕ → List Func → List Inside
insides_from n [] = []
insides_from n (f ∷ fs) =
    let inner : List Inside = insides_from (n + 1) fs in
    let mentions : List Mention = body_mentions (λ g. as_expression (nth (n + 1) inner g)) (λ g. (nth (n + 1) inner g).1) f.body in
    let declared : Names = map (λ (p : Name). p.text) f.params ++ hoisted_vars f.body ++ names_of (n + 1) fs (hoisted_functions f.body) in
    (own_name f.name, unbound declared mentions) ∷ inner

abbrev pub insides : Script → List Inside
insides s = insides_from 0 s.funcs

-- all that a script mentions, its functions where they stand
unfoldable pub mentions : Script → List Mention
mentions s = body_mentions (λ g. as_expression (nth 0 (insides s) g)) (λ g. (nth 0 (insides s) g).1) s.body

abbrev pub mentioned_name : Mention → Names
mentioned_name (Reads at name) = name ∷ []
mentioned_name (Assigns at name) = name ∷ []
mentioned_name _ = []

-- the free names of a function, in the order in which they come first; its own name is among them
unfoldable pub free_names : Script → FuncNo → Names
free_names s f = distinct (flat_map mentioned_name (nth 0 (insides s) f).1)
