-- What is left of a text's tokens while it is read, and the steps that productions are made of.
use Rattle.std.specs.Prelude.{ℕ, zero, suc, ◌-◌, ◌+◌, Bool, true, false, if◌then◌else◌, nat_lt, List, [], ◌∷◌, ◌++◌, length, drop}
use Rattle.std.specs.Prelude.{slice_get, slice_set, Option, Some, None, is_some, Result, Ok, Err}
use Rattle.js_value.specs.declared.place.Place.{Place}
use Rattle.js_value.specs.declared.place.FuncNo.{FuncNo}
use Rattle.js_tree.specs.declared.expression.Expr.{Expr}
use Rattle.js_tree.specs.declared.expression.ExprForm.{ExprForm}
use Rattle.js_tree.specs.declared.refusal.Feature.{Feature}
use Rattle.js_tree.specs.declared.refusal.ReadRefused.{ReadRefused}
use Rattle.js_tree.specs.declared.refusal.ReadRefused.TheVariants.{Syntax, Unsupported, Nested}
use Rattle.js_tree.specs.declared.token.TokenForm.{TokenForm}
use Rattle.js_tree.specs.declared.token.Token.{Token}
use Rattle.js_tree.specs.declared.statement.Func.{Func}
use Rattle.js_tree.specs.declared.statement.Stmt.{Stmt}
use Rattle.js_tree.specs.declared.statement.StmtForm.{StmtForm}

pub record Rest : Type 0 where
  pub tokens : List Token
  -- the length of the text
  pub end : Place
  -- the token directly before
  pub last : Option Token
  -- how many parts may be open at once, and how many are
  pub limit : ℕ
  pub opened : ℕ
  -- what a finished expression or statement has to meet, where these functions were read
  pub allows_expr : List Func → Expr → Bool
  pub allows_stmt : List Func → Stmt → Bool
  -- the functions that were begun, in source order; the body of one that isn't read yet is empty
  pub functions : List Func

-- A production: the tree that the next tokens are and what is left behind them, or the first fault.
abbrev pub Reading : Type 0 → Type 0
Reading A = Rest → Result (A × Rest) ReadRefused

abbrev pub give : {A : Type 0} → A → Reading A
give a = λ s. Ok (a, s)

abbrev pub behind : {A B : Type 0} → Result (A × Rest) ReadRefused → (A → Reading B) → Result (B × Rest) ReadRefused
behind (Ok x) f = f x.0 x.1
behind (Err e) f = Err e

infixl 10 ◌>>=◌
abbrev pub ◌>>=◌ : {A B : Type 0} → Reading A → (A → Reading B) → Reading B
m >>= f = λ s. behind (m s) f

infixl 10 ◌>>◌
abbrev pub ◌>>◌ : {A B : Type 0} → Reading A → Reading B → Reading B
m >> n = λ s. behind (m s) (λ _. n)

-- ---- faults

abbrev pub refuse : {A : Type 0} → ReadRefused → Reading A
refuse e = λ s. Err e

abbrev pub unsupported : {A : Type 0} → Place → Feature → Reading A
unsupported at what = refuse (Unsupported at what)

-- refused where there is something that isn't supported
abbrev pub unless : {A : Type 0} → Place → Option Feature → Reading A → Reading A
unless at None read = read
unless at (Some what) read = unsupported at what

abbrev pub place_of : List Token → Place → Place
place_of [] end = end
place_of (t ∷ ts) end = t.at

-- the place of the next token, or the length of the text at its end
abbrev pub here : Reading Place
here = λ s. Ok (place_of s.tokens s.end, s)

-- the next token can't go on
abbrev pub unexpected : {A : Type 0} → Reading A
unexpected = λ s. Err (Syntax (place_of s.tokens s.end))

-- ---- the next token

abbrev pub is_empty : {A : Type 0} → List A → Bool
is_empty [] = true
is_empty (x ∷ xs) = false

abbrev pub at_end : Reading Bool
at_end = λ s. Ok (is_empty s.tokens, s)

abbrev pub of_first : {A : Type 0} → (TokenForm → Option A) → List Token → Option A
of_first want [] = None
of_first want (t ∷ ts) = want t.form

-- what the next token is, where it is wanted
abbrev pub look : {A : Type 0} → (TokenForm → Option A) → Reading (Option A)
look want = λ s. Ok (of_first want s.tokens, s)

abbrev pub sees : {A : Type 0} → (TokenForm → Option A) → Reading Bool
sees want = λ s. Ok (is_some (of_first want s.tokens), s)

abbrev pub sees_second : {A : Type 0} → (TokenForm → Option A) → Reading Bool
sees_second want = λ s. Ok (is_some (of_first want (drop 1 s.tokens)), s)

abbrev pub begins_line : List Token → Bool
begins_line [] = false
begins_line (t ∷ ts) = t.line_before

-- the next token stands on a later line than the one before it
abbrev pub on_later_line : Reading Bool
on_later_line = λ s. Ok (begins_line s.tokens, s)

-- without the next token
abbrev pub passed : Rest → Rest
passed s = record s { tokens = drop 1 s.tokens; last = slice_get s.tokens 0 }

abbrev pub go_on : {A B : Type 0} → Option A → (A → Reading B) → Reading B → Reading B
go_on None found otherwise = otherwise
go_on (Some a) found otherwise = λ s. found a (passed s)

-- Takes the next token where it is wanted, and goes on with what it is; else goes on without it.
unfoldable pub next : {A B : Type 0} → (TokenForm → Option A) → (A → Reading B) → Reading B → Reading B
next want found otherwise = λ s. go_on (of_first want s.tokens) found otherwise s

-- takes the next token, which has to be wanted
abbrev pub expect : {A : Type 0} → (TokenForm → Option A) → Reading A
expect want = next want give unexpected

-- ---- repetition

-- A rule that reads at least one token may be used again on what is left. The number counts the tokens that were read since.
abbrev pub again : {A B : Type 0} → ((A → Reading B) → A → Reading B) → ℕ → List Token → A → Reading B
again rule skip [] = rule (λ a. unexpected)
again rule (suc skip) (t ∷ ts) = again rule skip ts
again rule zero (t ∷ ts) = rule (λ a s. again rule (length ts - length s.tokens) ts a s)

unfoldable pub repeat : {A B : Type 0} → ((A → Reading B) → A → Reading B) → A → Reading B
repeat rule a = λ s. again rule 0 s.tokens a s

-- ---- open parts

abbrev pub entered : Rest → Result (ℕ × Rest) ReadRefused
entered s =
    if nat_lt s.opened s.limit then Ok (s.opened, record s { opened = s.opened + 1 })
    else Err (Nested (place_of s.tokens s.end))

-- One part more is open, and one more mustn't be than the limit. A part has a first token. Answers how many were open.
unfoldable pub enter : Reading ℕ
enter = λ s. if is_empty s.tokens then Err (Syntax s.end) else entered s

unfoldable pub leave : ℕ → Reading (Unit {0})
leave opened = λ s. Ok (tt, record s { opened = opened })

-- a part that is counted as open while it is read
unfoldable pub part : {A : Type 0} → Reading A → Reading A
part read = do
  opened ← enter
  x ← read
  leave opened
  give x

-- ---- functions

abbrev pub not_read_yet : Place → Func
not_read_yet at = record { at = at; name = None; params = []; directive = false; body = [] }

-- a function takes the next number as it begins, before the functions inside it
unfoldable pub begin : Place → Reading ℕ
begin at = λ s. Ok (length s.functions, record s { functions = s.functions ++ (not_read_yet at ∷ []) })

unfoldable pub keep : ℕ → Func → Reading FuncNo
keep n f = λ s. Ok (record { 0 = n }, record s { functions = slice_set s.functions n f })

unfoldable pub numbered : Place → Reading Func → Reading FuncNo
numbered at read = do
  n ← begin at
  f ← read
  keep n f

-- ---- finished parts: one that isn't allowed is nested too deep

unfoldable pub finish : Place → ExprForm → Reading Expr
finish at form = λ s.
    let x : Expr = record { at = at; form = form } in
    if s.allows_expr s.functions x then Ok (x, s) else Err (Nested at)

unfoldable pub finish_stmt : Place → StmtForm → Reading Stmt
finish_stmt at form = λ s.
    let t : Stmt = record { at = at; form = form } in
    if s.allows_stmt s.functions t then Ok (t, s) else Err (Nested at)
