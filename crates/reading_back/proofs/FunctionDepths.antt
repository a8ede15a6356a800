-- Functions with those inside them, to a depth.
use Rattle.std.proofs.Common.{◌≡◌, ◌≤◌, ℕ, zero, suc, ◌+◌, Bool, true, false, cond, List, [], ◌∷◌, ◌++◌, length, refl, ap, sym, ◌∙◌, subst, arith, append-nil}
use Rattle.std.specs.Prelude.{◌==◌, codes, slice_get, Option, Some, None, is_some, is_none}
use Rattle.std.specs.List.{list_all}
use Rattle.std.specs.Option.{option_map}
use Rattle.std.proofs.lemmas.Bool.Decides.{nat_tests}
use Rattle.js_value.specs.declared.place.FuncNo.{FuncNo}
use Rattle.js_value.specs.declared.place.Place.{Place}
use Rattle.js_tree.specs.Lexing.{reserved_word}
use Rattle.js_tree.specs.Mentions.{Names}
use Rattle.js_tree.specs.declared.statement.Func.{Func}
use Rattle.js_tree.specs.declared.statement.Name.{Name}
use Rattle.js_grammar.specs.FunctionOrder.{Numbers, in_body}
use Rattle.js_grammar.specs.Functions as F
use Rattle.js_grammar.specs.Marks
use Rattle.js_grammar.specs.Readable as readable
use Rattle.js_grammar.specs.ReadableExpressions.{is_accessor}
use Rattle.js_grammar.specs.ReadableWords.{is_identifier}
use Rattle.js_grammar.specs.Reading.{grammar}
use Rattle.js_grammar.specs.Rest.{Reading, ◌>>=◌, give, sees, numbered}
use Rattle.script_text.specs.Pieces.{Piece, word, closing, separated}
use Rattle.script_text.specs.Printing.{function_to, found, bound_names}
use Rattle.script_text.specs.Statements.{func, own_name, parameter}
use Rattle.script_text.specs.Tokens.{Shape, shape, form_of, name_form, tokens_from}
use Rattle.reading_back.proofs.Claims.{World, Frame, Spot, rest_of, Leads, Ready, Read, anything, Flows, IsNumber, FunctionsRead}
use Rattle.reading_back.specs.Unplaced as unplaced
use Rattle.reading_back.proofs.Flowing.{flows_last}
use Rattle.reading_back.proofs.FunctionBodies.{ElementsRead, function_lead, flows_func, behind_name}
use Rattle.js_grammar.specs.Heights.{body_of}
use Rattle.js_tree.specs.declared.statement.Stmt.{Stmt}
use Rattle.script_nesting.specs.Height.{body_height}
use Rattle.script_nesting.specs.Opened as depth
use Rattle.script_nesting.specs.Opened.{in_function}
use Rattle.reading_back.proofs.FunctionNames.{AreNames, is_declared, name_lead, parameters_lead, no_parameter_lead, one_parameter_lead}
use Rattle.reading_back.proofs.FunctionNumbers.{Begins, begins, reading, IsFunc, numbered_lead}
use Rattle.reading_back.proofs.Readability.{both, not_true}
use Rattle.reading_back.proofs.Steps.{exactly, after, from, on, bind, expected}

-- how high trees may be, and the bodies of functions are
pub record Tops (functions : List Func) : Type 0 where
  pub high : ℕ
  pub tall : FuncNo → ℕ
  pub stands : (f : FuncNo) → body_height tall (body_of functions f) ≤ tall f

abbrev pub world : (functions : List Func) → Tops functions → ℕ → World
world functions tops k = record { functions = functions; least = k; high = tops.high; tall = tops.tall; stands = tops.stands }

-- what it says of a function that it is readable
record IsReadable (functions : List Func) (g : Func) : Type 0 where
  plain : g.directive ≡ false
  named : readable.is_name_or_none functions g.name ≡ true
  params : list_all (λ (p : Name). is_identifier p.text) g.params ≡ true
  body : readable.are_elements functions g.body ≡ true

is_readable : (functions : List Func) (g : Func) → readable.is_function functions g ≡ true → IsReadable functions g
is_readable functions g e =
    let a = both _ _ e in
    let b = both _ _ a.0 in
    let c = both _ _ b.0 in
    record { plain = not_true g.directive c.0; named = c.1; params = b.1; body = a.1 }

function_word_is : Marks.function_word (form_of (codes "function")) ≡ Some tt
unfolding form_of reserved_word
function_word_is = refl

no_name : is_some (Marks.identifier (form_of (codes "("))) ≡ false
unfolding form_of reserved_word
no_name = refl

-- a function with its name, or with none
abbrev by_name : Place → Bool → Reading FuncNo
by_name at named = numbered at (cond named (F.declared_name >>= λ name. F.function_behind grammar at (Some name) F.parameters) (F.function_behind grammar at None F.parameters))

module _ (functions : List Func) (tops : Tops functions) (k : ℕ) (function : Bool → FuncNo → List Piece) (inside : FuncNo → ℕ) (reads : ElementsRead (world functions tops (k + 1)) function inside) where
  abbrev bound_of : Func → ℕ
  bound_of g = suc (depth.of_body function inside g.body)

  -- ---- a function behind its name

  module _ (w : Frame (world functions tops k)) (nz : Numbers) (names : Names) (f : FuncNo) (g : Func) (r : IsReadable functions g) (low : body_height tops.tall g.body ≤ tops.high) where
    -- what stands behind the name, read with this name
    behind_lead : (at : Place) (name : Option Name) (params_of : Reading (List Name)) (c : Spot) (line : Bool) (rest : List Shape) → option_map unplaced.name name ≡ option_map unplaced.name g.name
        → ((v : Frame (world functions tops (k + 1))) (d : Spot) (more : List Shape) (mz : Numbers) → Ready v d.functions mz
        → Leads v.opened v mz (AreNames g.params) d (tokens_from false (separated parameter g.params ++ closing (codes ")")) ++ more) more params_of give)
        → Ready (reading w f.0) c.functions (in_body g.body ++ nz)
        → Leads (w.opened + bound_of g) (reading w f.0) nz (IsFunc g) c (tokens_from line (behind_name function names g) ++ rest) rest (F.function_behind grammar at name params_of) give
    behind_lead at name params_of c line rest same params_lead ready = exactly (function_lead function inside reads g r.plain r.body low names at name params_of (reading w f.0) c line rest nz same params_lead ready) (omega arith)

    plain_params : (v : Frame (world functions tops (k + 1))) (d : Spot) (more : List Shape) (mz : Numbers) → Ready v d.functions mz
        → Leads v.opened v mz (AreNames g.params) d (tokens_from false (separated parameter g.params ++ closing (codes ")")) ++ more) more F.parameters give
    plain_params v d more mz ready = exactly (parameters_lead g.params v d more mz r.params ready) (omega arith)

    named_lead : (n : Name) → g.name ≡ Some n → (at : Place) (c : Spot) (rest : List Shape) → Ready (reading w f.0) c.functions (in_body g.body ++ nz)
        → Leads (w.opened + bound_of g) (reading w f.0) nz (IsFunc g) c (shape (name_form n.text) false ∷ (tokens_from false (behind_name function names g) ++ rest)) rest
        (F.declared_name >>= λ name. F.function_behind grammar at (Some name) F.parameters) give
    named_lead n is at c rest ready =
        exactly (let identifier : is_identifier n.text ≡ true = ap (readable.is_name_or_none functions) (sym is) ∙ r.named in
        bind (name_lead n (is_declared n.text identifier) (reading w f.0) c false (tokens_from false (behind_name function names g) ++ rest) (in_body g.body ++ nz) ready) (λ m d same done.
        behind_lead at (Some m) F.parameters d false rest (ap Some same.same ∙ ap (option_map unplaced.name) (sym is)) plain_params done)) (omega arith)

    expression_lead : (o : Option Name) → g.name ≡ o → (at : Place) (c : Spot) (rest : List Shape) → Ready w c.functions (f.0 ∷ nz) → (b : Begins w c.functions f nz) → b.function ≡ g
        → Leads (w.opened + bound_of g) w nz (IsNumber f) c (tokens_from false (own_name true o ++ behind_name function names g) ++ rest) rest (sees Marks.identifier >>= by_name at) give
    expression_lead None is at c rest ready b same =
        exactly (let front = tokens_from false (behind_name function names g) ++ rest in
        from {d = c} {other = front} {n = by_name at false} (ap (λ q. by_name at q (rest_of w c front)) no_name)
        (numbered_lead f at (F.function_behind grammar at None F.parameters) c front rest ready b (λ d inside.
        subst (λ h. Leads (w.opened + bound_of g) (reading w f.0) nz (IsFunc h) d front rest (F.function_behind grammar at None F.parameters) give) (sym same)
        (behind_lead at None F.parameters d false rest (ap (option_map unplaced.name) (sym is)) plain_params (subst (λ h. Ready (reading w f.0) d.functions (in_body h.body ++ nz)) same inside))))) (omega arith)
    expression_lead (Some n) is at c rest ready b same =
        exactly (let front = shape (name_form n.text) false ∷ (tokens_from false (behind_name function names g) ++ rest) in
        let identifier : is_identifier n.text ≡ true = ap (readable.is_name_or_none functions) (sym is) ∙ r.named in
        from {d = c} {other = front} {n = by_name at true} (ap (λ q. by_name at (is_some q) (rest_of w c front)) (is_declared n.text identifier).form)
        (numbered_lead f at (F.declared_name >>= λ name. F.function_behind grammar at (Some name) F.parameters) c front rest ready b (λ d inside.
        subst (λ h. Leads (w.opened + bound_of g) (reading w f.0) nz (IsFunc h) d front rest (F.declared_name >>= λ name. F.function_behind grammar at (Some name) F.parameters) give) (sym same)
        (named_lead n is at d rest (subst (λ h. Ready (reading w f.0) d.functions (in_body h.body ++ nz)) same inside))))) (omega arith)

    declaration_lead : (o : Option Name) → g.name ≡ o → is_some o ≡ true → (at : Place) (c : Spot) (rest : List Shape) → Ready w c.functions (f.0 ∷ nz) → (b : Begins w c.functions f nz) → b.function ≡ g
        → Leads (w.opened + bound_of g) w nz (IsNumber f) c (tokens_from false (own_name true o ++ behind_name function names g) ++ rest) rest
        (numbered at (F.declared_name >>= λ name. F.function_behind grammar at (Some name) F.parameters)) give
    declaration_lead None is has at c rest ready b same = absurd (cc)
    declaration_lead (Some n) is has at c rest ready b same =
        exactly (let front = shape (name_form n.text) false ∷ (tokens_from false (behind_name function names g) ++ rest) in
        numbered_lead f at (F.declared_name >>= λ name. F.function_behind grammar at (Some name) F.parameters) c front rest ready b (λ d inside.
        subst (λ h. Leads (w.opened + bound_of g) (reading w f.0) nz (IsFunc h) d front rest (F.declared_name >>= λ name. F.function_behind grammar at (Some name) F.parameters) give) (sym same)
        (named_lead n is at d rest (subst (λ h. Ready (reading w f.0) d.functions (in_body h.body ++ nz)) same inside)))) (omega arith)

    accessor_lead : (o : Option Name) → g.name ≡ o → is_none o ≡ true → (at : Place) (params_of : Reading (List Name)) (c : Spot) (line : Bool) (rest : List Shape)
        → ((v : Frame (world functions tops (k + 1))) (d : Spot) (more : List Shape) (mz : Numbers) → Ready v d.functions mz
        → Leads v.opened v mz (AreNames g.params) d (tokens_from false (separated parameter g.params ++ closing (codes ")")) ++ more) more params_of give)
        → Ready w c.functions (f.0 ∷ nz) → (b : Begins w c.functions f nz) → b.function ≡ g
        → Leads (w.opened + bound_of g) w nz (IsNumber f) c (tokens_from line (own_name false o ++ behind_name function names g) ++ rest) rest (F.accessor grammar at params_of) give
    unfolding F.accessor
    accessor_lead (Some n) is has at params_of c line rest params_lead ready b same = absurd (cc)
    accessor_lead None is has at params_of c line rest params_lead ready b same =
        exactly (let front = tokens_from line (behind_name function names g) ++ rest in
        numbered_lead f at (F.function_behind grammar at None params_of) c front rest ready b (λ d inside.
        subst (λ h. Leads (w.opened + bound_of g) (reading w f.0) nz (IsFunc h) d front rest (F.function_behind grammar at None params_of) give) (sym same)
        (behind_lead at None params_of d line rest (ap (option_map unplaced.name) (sym is)) params_lead (subst (λ h. Ready (reading w f.0) d.functions (in_body h.body ++ nz)) same inside)))) (omega arith)

readable_at : (functions gs : List Func) → list_all (readable.is_function functions) gs ≡ true → (n : ℕ) (g : Func) → slice_get gs n ≡ Some g → IsReadable functions g
readable_at functions [] e n g there = absurd (cc)
readable_at functions (f ∷ fs) e zero g there = let same : f ≡ g = cc in subst (IsReadable functions) same (is_readable functions f (both _ _ e).0)
readable_at functions (f ∷ fs) e (suc n) g there = readable_at functions fs (both _ _ e).1 n g there

abbrev body_in : Option Func → List Stmt
body_in o = elim o [ None ↦ [] | Some g ↦ g.body ]

-- ---- the functions of a script, to a depth

module _ (functions : List Func) (are : list_all (readable.is_function functions) functions ≡ true)
    (statements : (all : World) (function : Bool → FuncNo → List Piece) (inside : FuncNo → ℕ) → FunctionsRead all function inside → ElementsRead all function inside) (tops : Tops functions) where
  -- where a function that may be read is none of the script's
  none_left : (k : ℕ) (w : Frame (world functions tops k)) (fs : List Func) (f : FuncNo) (nz : Numbers) → length functions ≤ k → Ready w fs (f.0 ∷ nz) → suc k ≤ k
  none_left k w fs f nz deep r = let b = begins w fs f nz r in omega (arith, b.more, r.deep, deep)

  nothing : {A : Type 0} (k : ℕ) → suc k ≤ k → A
  nothing k h = absurd (omega (arith, h))

  no_functions : (k : ℕ) → length functions ≤ k → FunctionsRead (world functions tops k) (function_to zero functions) (in_function zero functions)
  unfolding function_to
  no_functions k deep = record {
    ends = λ named f before h. subst Flows (sym (append-nil before)) h;
    expression = λ f at short. record { at = λ w c line rest nz ready fits. nothing k (none_left k w c.functions f nz deep ready) };
    declaration = λ f at short has. record { at = λ w c line rest nz ready fits. nothing k (none_left k w c.functions f nz deep ready) };
    getter = λ f at short has. record { at = λ w c line rest nz ready fits. nothing k (none_left k w c.functions f nz deep ready) };
    setter = λ f at short has. record { at = λ w c line rest nz ready fits. nothing k (none_left k w c.functions f nz deep ready) };
  }

  module _ (k d : ℕ) (deeper : FunctionsRead (world functions tops (k + 1)) (function_to d functions) (in_function d functions)) where
    abbrev function : Bool → FuncNo → List Piece
    function = function_to d functions

    abbrev inside : FuncNo → ℕ
    inside = in_function d functions

    abbrev reads : ElementsRead (world functions tops (k + 1)) function inside
    reads = statements (world functions tops (k + 1)) function inside deeper

    body_is : (f : FuncNo) (g : Func) → slice_get functions f.0 ≡ Some g → body_of functions f ≡ g.body
    body_is f g there = ap body_in there

    bound_is : (f : FuncNo) (g : Func) → slice_get functions f.0 ≡ Some g → in_function (suc d) functions f ≡ suc (depth.of_body function inside g.body)
    unfolding in_function
    bound_is f g there = ap (λ ts. suc (depth.of_body function inside ts)) (body_is f g there)

    low_body : (f : FuncNo) (g : Func) → slice_get functions f.0 ≡ Some g → tops.tall f ≤ tops.high → body_height tops.tall g.body ≤ tops.high
    low_body f g there short =
        let same : body_height tops.tall (body_of functions f) ≡ body_height tops.tall g.body = ap (body_height tops.tall) (body_is f g there) in
        omega (arith, short, tops.stands f, same)

    is_func : (named : Bool) (f : FuncNo) (g : Func) → slice_get functions f.0 ≡ Some g → function_to (suc d) functions named f ≡ func function (bound_names named functions g) named g
    unfolding function_to
    is_func named f g there = ap (found (λ g. func (function_to d functions) (bound_names named functions g) named g)) there

    ends_so : (named : Bool) (f : FuncNo) (before : List Piece) → Flows before → Flows (before ++ function_to (suc d) functions named f)
    unfolding function_to
    ends_so named f before h = by (slice_get functions f.0)
      where
        by : (o : Option Func) → Flows (before ++ found (λ g. func (function_to d functions) (bound_names named functions g) named g) o)
        by None = subst Flows (sym (append-nil before)) h
        by (Some g) = flows_last before (func function (bound_names named functions g) named g) (flows_func function (bound_names named functions g) named g)

    function_first : (f : FuncNo) (g : Func) (line : Bool) (rest : List Shape) → slice_get functions f.0 ≡ Some g
        → tokens_from line (word (codes "function") ++ function_to (suc d) functions true f) ++ rest
        ≡ shape (form_of (codes "function")) line ∷ (tokens_from false (own_name true g.name ++ behind_name function (bound_names true functions g) g) ++ rest)
    function_first f g line rest there = ap (λ ps. shape (form_of (codes "function")) line ∷ (tokens_from false ps ++ rest)) (is_func true f g there)

    expression_read : (f : FuncNo) (at : Place) → tops.tall f ≤ tops.high → Read (world functions tops k) (in_function (suc d) functions f) (word (codes "function") ++ function_to (suc d) functions true f) (f.0 ∷ []) (IsNumber f) anything (F.function_expression grammar at) give
    unfolding F.function_expression
    expression_read f at short = record {
      at = λ w c line rest nz ready fits.
          let b = begins w c.functions f nz ready in
          let g = b.function in
          let h = readable_at functions functions are f.0 g b.there in
          let low = low_body f g b.there short in
          let there : in_function (suc d) functions f ≡ suc (depth.of_body function inside g.body) = bound_is f g b.there in
          let s : Shape = shape (form_of (codes "function")) line in
          exactly (on (function_first f g line rest b.there)
          (expected {c = c} {s = s} Marks.function_word tt (λ _. sees Marks.identifier >>= by_name at) function_word_is
          (expression_lead functions tops k function inside reads w nz (bound_names true functions g) f g h low g.name refl at (after c s) rest ready b refl))) (omega (arith, there));
    }

    declaration_read : (f : FuncNo) (at : Place) → tops.tall f ≤ tops.high → readable.has_name (slice_get functions f.0) ≡ true
        → Read (world functions tops k) (in_function (suc d) functions f) (word (codes "function") ++ function_to (suc d) functions true f) (f.0 ∷ []) (IsNumber f) anything (F.function_declaration grammar at) give
    unfolding F.function_declaration
    declaration_read f at short has = record {
      at = λ w c line rest nz ready fits.
          let b = begins w c.functions f nz ready in
          let g = b.function in
          let h = readable_at functions functions are f.0 g b.there in
          let low = low_body f g b.there short in
          let there : in_function (suc d) functions f ≡ suc (depth.of_body function inside g.body) = bound_is f g b.there in
          let s : Shape = shape (form_of (codes "function")) line in
          exactly (on (function_first f g line rest b.there)
          (expected {c = c} {s = s} Marks.function_word tt (λ _. numbered at (F.declared_name >>= λ name. F.function_behind grammar at (Some name) F.parameters)) function_word_is
          (declaration_lead functions tops k function inside reads w nz (bound_names true functions g) f g h low g.name refl (ap readable.has_name (sym b.there) ∙ has) at (after c s) rest ready b refl))) (omega (arith, there));
    }

    equal : (m n : ℕ) → (m == n) ≡ true → m ≡ n
    equal m n e = grind (arith, nat_tests)

    -- of an accessor it is known that it has no name, and how many parameters
    accessor_parts : (n : ℕ) (f : FuncNo) (g : Func) → slice_get functions f.0 ≡ Some g → is_accessor n (slice_get functions f.0) ≡ true → (is_none g.name ≡ true) × (length g.params ≡ n)
    accessor_parts n f g there has = let p = both (is_none g.name) (length g.params == n) (ap (is_accessor n) (sym there) ∙ has) in (p.0, equal (length g.params) n p.1)

    getter_read : (f : FuncNo) (at : Place) → tops.tall f ≤ tops.high → is_accessor 0 (slice_get functions f.0) ≡ true
        → Read (world functions tops k) (in_function (suc d) functions f) (function_to (suc d) functions false f) (f.0 ∷ []) (IsNumber f) anything (F.accessor grammar at (F.no_parameter grammar)) give
    getter_read f at short has = record {
      at = λ w c line rest nz ready fits.
          let b = begins w c.functions f nz ready in
          let g = b.function in
          let h = readable_at functions functions are f.0 g b.there in
          let low = low_body f g b.there short in
          let there : in_function (suc d) functions f ≡ suc (depth.of_body function inside g.body) = bound_is f g b.there in
          let p = accessor_parts 0 f g b.there has in
          exactly (on (ap (λ ps. tokens_from line ps ++ rest) (is_func false f g b.there))
          (accessor_lead functions tops k function inside reads w nz (bound_names false functions g) f g h low g.name refl p.0 at (F.no_parameter grammar) c line rest (λ v d more mz r. no_parameter_lead g.params v d more mz p.1 r)
          ready b refl)) (omega (arith, there));
    }

    setter_read : (f : FuncNo) (at : Place) → tops.tall f ≤ tops.high → is_accessor 1 (slice_get functions f.0) ≡ true
        → Read (world functions tops k) (in_function (suc d) functions f) (function_to (suc d) functions false f) (f.0 ∷ []) (IsNumber f) anything (F.accessor grammar at (F.one_parameter grammar)) give
    setter_read f at short has = record {
      at = λ w c line rest nz ready fits.
          let b = begins w c.functions f nz ready in
          let g = b.function in
          let h = readable_at functions functions are f.0 g b.there in
          let low = low_body f g b.there short in
          let there : in_function (suc d) functions f ≡ suc (depth.of_body function inside g.body) = bound_is f g b.there in
          let p = accessor_parts 1 f g b.there has in
          exactly (on (ap (λ ps. tokens_from line ps ++ rest) (is_func false f g b.there))
          (accessor_lead functions tops k function inside reads w nz (bound_names false functions g) f g h low g.name refl p.0 at (F.one_parameter grammar) c line rest (λ v d more mz r. one_parameter_lead g.params v d more mz p.1 h.params r)
          ready b refl)) (omega (arith, there));
    }

    one_deeper : FunctionsRead (world functions tops k) (function_to (suc d) functions) (in_function (suc d) functions)
    one_deeper = record { ends = ends_so; expression = expression_read; declaration = declaration_read; getter = getter_read; setter = setter_read }

  -- functions from a number on are read where the depth is enough for them
  pub functions_read : (d k : ℕ) → length functions ≤ k + d → FunctionsRead (world functions tops k) (function_to d functions) (in_function d functions)
  functions_read zero k deep = no_functions k (omega (arith, deep))
  functions_read (suc d) k deep = one_deeper k d (functions_read d (k + 1) (omega (arith, deep)))
