-- An element that is too high is nested too deep, and so is a list of elements that has one.
use Rattle.std.proofs.Common.{◌≡◌, ◌≤◌, ◌<◌, ℕ, ◌+◌, Bool, true, false, cond, List, [], ◌∷◌, ◌++◌, length, refl, ap, sym, ◌∙◌, subst, arith, append_assoc}
use Rattle.std.specs.Prelude.{◌==◌, nat_lt, is_some, Result, Ok, Err}
use Rattle.std.specs.List.{list_any}
use Rattle.std.proofs.lemmas.Bool.Decides.{nat_tests}
use Rattle.js_value.specs.declared.place.FuncNo.{FuncNo}
use Rattle.js_tree.specs.declared.refusal.ReadRefused.{ReadRefused}
use Rattle.js_tree.specs.declared.statement.Func.{Func}
use Rattle.js_tree.specs.declared.statement.Stmt.{Stmt}
use Rattle.js_grammar.specs.FunctionOrder.{Numbers, in_stmt, in_body, are_named_from}
use Rattle.js_grammar.specs.Functions as F
use Rattle.js_grammar.specs.Heights.{body_of, is_within, is_stmt_within}
use Rattle.js_grammar.specs.Marks
use Rattle.js_grammar.specs.Readable as readable
use Rattle.js_grammar.specs.Reading.{grammar}
use Rattle.js_grammar.specs.Rest.{Rest, Reading, give, ◌>>=◌, part, repeat, behind, at_end}
use Rattle.js_grammar.proofs.Alike.{Setting, Corresponds, too, only}
use Rattle.js_grammar.proofs.Laws.{tied, repeated}
use Rattle.js_grammar.proofs.MoreHeights.{more_within, more_stmt_within}
use Rattle.js_grammar.proofs.Tied.{grammar_too}
use Rattle.script_text.specs.Pieces.{Piece}
use Rattle.script_text.specs.Statements.{shown}
use Rattle.script_text.specs.Tokens.{Shape, shape, tokens_from}
use Rattle.script_nesting.specs.Height.{stmt_height, body_height}
use Rattle.script_nesting.specs.Opened as depth
use Rattle.script_nesting.proofs.Agree.{split}
use Rattle.script_nesting.proofs.Consumed.{Consumed, consumed}
use Rattle.reading_back.proofs.Claims.{World, Frame, Spot, rest_of, placed, deeper, Ready, IsNested}
use Rattle.reading_back.proofs.FunctionBodies.{ElementsRead, elements_of, fronts}
use Rattle.reading_back.proofs.FunctionDepths.{world}
use Rattle.reading_back.proofs.FunctionElements.{Element, element_lead, no_else, after_element}
use Rattle.reading_back.proofs.HigherElements.{read_no_higher}
use Rattle.reading_back.proofs.Passed.{Passed, element_passes}
use Rattle.reading_back.proofs.Passing.{stmt_free}
use Rattle.reading_back.proofs.Readability.{both}
use Rattle.reading_back.proofs.ScriptLimits as limits
use Rattle.reading_back.proofs.ScriptLimits.{tests_of}
use Rattle.reading_back.proofs.StatementClaims.{ElementPart, IsStmt, is_else}
use Rattle.reading_back.proofs.StatementLists.{no_finally}
use Rattle.reading_back.proofs.Steps.{opens, nested_as, nested_behind, part_nested}

module _ (functions : List Func) (tall : FuncNo → ℕ) (stands : (f : FuncNo) → body_height tall (body_of functions f) ≤ tall f) (as_high : (f : FuncNo) → body_height tall (body_of functions f) ≡ tall f) where
  -- where trees of this height are allowed
  abbrev pub at_height : ℕ → World
  at_height n = world functions (record { high = n; tall = tall; stands = stands }) 0

  module _ (high limit : ℕ) (lower : limit ≤ high) where
    -- the same place in a reading that allows more
    abbrev raised : Frame (at_height limit) → Frame (at_height high)
    raised w = record { end = w.end; limit = w.limit; opened = w.opened; begun = w.begun }

    ready_raised : (w : Frame (at_height limit)) (fs : List Func) (nb : Numbers) → Ready w fs nb → Ready (raised w) fs nb
    ready_raised w fs nb r = record { named = r.named; within = r.within; deep = r.deep; right = r.right; stands = r.stands }

    abbrev setting : Frame (at_height limit) → Spot → List Shape → Setting
    setting w c zs = record {
      tokens = placed c.supply zs;
      limit = w.limit;
      greater = w.limit;
      exprs = λ fs x. is_within fs limit x;
      more_exprs = λ fs x. is_within fs high x;
      stmts = λ fs t. is_stmt_within fs limit t;
      more_stmts = λ fs t. is_stmt_within fs high t;
      excused = limits.IsNested;
      opens = λ at k. tests_of at (nat_lt k w.limit) (nat_lt k w.limit) (λ e. e);
      finishes = λ fs x. tests_of x.at (is_within fs limit x) (is_within fs high x) (λ e. more_within fs limit high x lower e);
      ends = λ fs t. tests_of t.at (is_stmt_within fs limit t) (is_stmt_within fs high t) (λ e. more_stmt_within fs limit high t lower e);
    }

    not_both : {A : Type 0} (x : A) (e : ReadRefused) (r : Result A ReadRefused) → r ≡ Ok x → r ≡ Err e → ⊥
    not_both x e (Ok y) p q = cc
    not_both x e (Err y) p q = cc

    -- what is left where a statement was read
    functions_of : {A : Type 0} → Result (A × Rest) ReadRefused → List Func
    functions_of (Ok x) = x.1.functions
    functions_of (Err e) = []

    tree_of : Result (Stmt × Rest) ReadRefused → Stmt → Stmt
    tree_of (Ok x) t = x.0
    tree_of (Err e) t = t

    -- one element
    element_nested : (t : Stmt) (w : Frame (at_height limit)) (c d : Spot) (front more : List Shape) (pre na : Numbers) (value : Stmt) → limit < stmt_height tall t → w.begun ≡ []
        → are_named_from 0 ((pre ++ in_stmt t) ++ na) functions ≡ true
        → grammar.element (rest_of (raised w) c front) ≡ Ok (value, rest_of (raised w) d more) → IsStmt t value → Ready (raised w) d.functions na → IsNested (grammar.element (rest_of w c front))
    unfolding functions_of tree_of
    element_nested t w c d front more pre na value high_t none named right_is is ready =
        by (grammar.element (rest_of w c front)) refl
        (((grammar_too (setting w c front)).element).at 0 (rest_of w c front) (omega arith) (record { left = refl; within = omega arith; limit = refl; exprs = refl; stmts = refl }))
      where
        by : (r : Result (Stmt × Rest) ReadRefused) → grammar.element (rest_of w c front) ≡ r → Corresponds (setting w c front) 1 r (grammar.element (rest_of (raised w) c front)) → IsNested (grammar.element (rest_of w c front))
        by (Err e) left_is (too fails) = absurd (not_both _ e (grammar.element (rest_of (raised w) c front)) right_is fails)
        by (Err e) left_is (only x) = record { at = x.at; is = left_is ∙ ap Err x.is }
        by (Ok x) left_is went =
            let both_are = sym went.same ∙ right_is in
            let fs_are : x.1.functions ≡ d.functions = ap functions_of both_are in
            let tree_is : x.0 ≡ value = ap (λ r. tree_of r value) both_are in
            let passed : x.1.allows_stmt x.1.functions x.0 ≡ true = subst Passed (sym (tied.element (rest_of w c front)) ∙ left_is) ((element_passes grammar).at (rest_of w c front)) in
            let within : is_stmt_within x.1.functions limit x.0 ≡ true = ap (λ (f : List Func → Stmt → Bool). f x.1.functions x.0) (sym went.here.stmts) ∙ passed in
            let there : is_stmt_within d.functions limit value ≡ true = ap (λ fs. is_stmt_within fs limit value) (sym fs_are) ∙ ap (λ u. is_stmt_within x.1.functions limit u) (sym tree_is) ∙ within in
            let plain : is_stmt_within d.functions limit t ≡ true =
            sym (stmt_free d.functions limit t) ∙ ap (is_stmt_within d.functions limit) (sym is.same) ∙ stmt_free d.functions limit value ∙ there in
            let m : Consumed (length d.functions) (length d.functions) (pre ++ in_stmt t) functions = consumed (length d.functions) 0 (length d.functions) (pre ++ in_stmt t) na functions (omega arith) named ready.named in
            let names = split (λ n. nat_lt n (length d.functions)) pre (in_stmt t) m.names in
            let le : stmt_height tall t ≤ limit =
            read_no_higher functions tall as_high (length d.functions) m.bodies d.functions refl (λ i below. ready.right i below (ap (λ ns. list_any (λ n. n == i) ns) none)) limit t names.1 plain in
            absurd (omega (arith, le, high_t))

    module _ (function : Bool → FuncNo → List Piece) (inside : FuncNo → ℕ) (reads : ElementsRead (at_height high) function inside) (reads_low : ElementsRead (at_height limit) function inside) where
      -- the elements of code up to its end
      abbrev again : List Stmt → Bool → Reading (List Stmt)
      again so_far leads = repeat (F.more_elements grammar at_end) (so_far, leads)

      plain_ends : (ts : List Stmt) (are : readable.are_elements functions ts ≡ true) → body_height tall ts ≤ high → is_else (fronts function true ts []) ≡ false
      plain_ends ts are low =
          let e = elements_of {all = at_height high} function inside reads ts are low in
          ap is_else (sym (e.front_are true [])) ∙ no_else true e.xs [] refl

      -- an element and those behind it
      module _ (t : Stmt) (ts : List Stmt) (r : (readable.in_stmt functions t).readable ≡ true) (are : readable.are_elements functions ts ≡ true) (so_far : List Stmt) (leads line : Bool) (w : Frame (at_height limit)) (c : Spot) (pre : Numbers)
          (low : body_height tall (t ∷ ts) ≤ high) (none : w.begun ≡ []) (room : w.opened + depth.of_body function inside (t ∷ ts) ≤ w.limit) (names : are_named_from 0 ((pre ++ in_stmt t) ++ in_body ts) functions ≡ true)
          (ready : Ready w c.functions (in_body (t ∷ ts))) where
        abbrev more : List Shape
        more = fronts function true ts []

        abbrev front : List Shape
        front = tokens_from line (shown function t).pieces ++ more

        abbrev high_part : ElementPart (at_height high) (depth.of_stmt function inside t) (readable.in_stmt functions t).ends_in_if (shown function t).pieces (in_stmt t) t
        high_part = reads t r (record { within = omega (arith, low) })

        opened : front ≡ shape high_part.first.form line ∷ (high_part.first.more ++ more)
        opened = ap (λ zs. zs ++ more) (high_part.first.is line)

        plain : is_else more ≡ false
        plain = plain_ends ts are (omega (arith, low))

        abbrev behind_it : Stmt × Bool → Reading (List Stmt)
        behind_it y = again (so_far ++ (y.0 ∷ [])) y.1

        unrolled : again so_far leads (rest_of w c front) ≡ (F.element_behind grammar leads >>= behind_it) (rest_of w c front)
        unrolled =
            let s = rest_of w c front in
            let goes : at_end s ≡ Ok (false, s) = subst (λ zs. at_end (rest_of w c zs) ≡ Ok (false, rest_of w c zs)) (sym opened) refl in
            repeated.elements_to_end (so_far, leads) s ∙ ap (λ q. behind q (λ done. cond done (give so_far) (F.element_behind grammar leads >>= behind_it))) goes

        -- one that is low is read, and what stands behind it fails
        low_element : stmt_height tall t ≤ limit → ((y : Stmt × Bool) (d : Spot) → Ready w d.functions (in_body ts) → IsNested (behind_it y (rest_of w d more))) → IsNested (again so_far leads (rest_of w c front))
        low_element le next =
            let x : Element (at_height limit) = record {
              pieces = (shown function t).pieces;
              ends_in_if = (readable.in_stmt functions t).ends_in_if;
              numbers = in_stmt t;
              tree = t;
              bound = depth.of_stmt function inside t;
              part = reads_low t r (record { within = le });
            } in
            let h = element_lead x leads w c line more (in_body ts) ready plain in
            nested_as (unrolled ∙ ap (λ q. behind q behind_it) (h.done (omega (arith, room)))) (next h.value h.spot h.ready)

        abbrev rest_reading : Reading (Stmt × Bool)
        rest_reading =
            part grammar.element >>= after_element (c.supply 0).0 (F.starts_with_use_strict (rest_of w c (shape high_part.first.form line ∷ (high_part.first.more ++ more))).tokens) leads (is_some (Marks.string high_part.first.form))

        as_part : F.element_behind grammar leads (rest_of w c front) ≡ rest_reading (rest_of w c front)
        as_part = ap (λ ys. F.element_behind grammar leads (rest_of w c ys)) opened ∙ ap (λ ys. rest_reading (rest_of w c ys)) (sym opened)

        -- one that is too high fails
        high_element : limit < stmt_height tall t → IsNested (again so_far leads (rest_of w c front))
        high_element above =
            let v = deeper (raised w) in
            let h = high_part.reads.at v c line more (in_body ts) (opens {w = raised w} c.functions (in_stmt t ++ in_body ts) (ready_raised w c.functions (in_stmt t ++ in_body ts) ready)) (record { holds = λ _. plain; no_finally = no_finally more plain }) in
            let right_is : grammar.element (rest_of v c front) ≡ Ok (h.value, rest_of v h.spot more) = tied.element (rest_of v c front) ∙ h.done (omega (arith, room)) in
            let fails_in = element_nested t (deeper w) c h.spot front more pre (in_body ts) h.value above none names right_is h.is h.ready in
            let fails_part = part_nested w c _ _ front grammar.element (omega (arith, room)) opened fails_in in
            nested_as (unrolled ∙ ap (λ q. behind q behind_it) as_part) (nested_behind _ behind_it (nested_behind _ _ fails_part))

      pub fails : (ts : List Stmt) (are : readable.are_elements functions ts ≡ true) (so_far : List Stmt) (leads line : Bool) (w : Frame (at_height limit)) (c : Spot) (pre : Numbers) → body_height tall ts ≤ high → limit < body_height tall ts
          → w.begun ≡ [] → w.opened + depth.of_body function inside ts ≤ w.limit → are_named_from 0 (pre ++ in_body ts) functions ≡ true → Ready w c.functions (in_body ts)
          → IsNested (again so_far leads (rest_of w c (fronts function line ts [])))
      fails [] are so_far leads line w c pre low high_ts none room named ready = absurd (omega (arith, high_ts))
      fails (t ∷ ts) are so_far leads line w c pre low high_ts none room named ready =
          let p = both _ _ are in
          let names : are_named_from 0 ((pre ++ in_stmt t) ++ in_body ts) functions ≡ true = subst (λ ns. are_named_from 0 ns functions ≡ true) (sym (append_assoc pre (in_stmt t) (in_body ts))) named in
          by p.0 p.1 names (λ le y d ready_d. fails ts p.1 (so_far ++ (y.0 ∷ [])) y.1 true w d (pre ++ in_stmt t) (omega (arith, low)) (omega (arith, high_ts, le)) none (omega (arith, room)) names ready_d)
          (nat_lt limit (stmt_height tall t)) refl
        where
          above : (b : Bool) → nat_lt limit (stmt_height tall t) ≡ true → limit < stmt_height tall t
          above b e = grind (arith, nat_tests)

          below_it : nat_lt limit (stmt_height tall t) ≡ false → stmt_height tall t ≤ limit
          below_it e = grind (arith, nat_tests)

          by : (readable.in_stmt functions t).readable ≡ true → readable.are_elements functions ts ≡ true → are_named_from 0 ((pre ++ in_stmt t) ++ in_body ts) functions ≡ true
              → (stmt_height tall t ≤ limit → (y : Stmt × Bool) (d : Spot) → Ready w d.functions (in_body ts) → IsNested (again (so_far ++ (y.0 ∷ [])) y.1 (rest_of w d (fronts function true ts [])))) → (b : Bool) → nat_lt limit (stmt_height tall t) ≡ b
              → IsNested (again so_far leads (rest_of w c (fronts function line (t ∷ ts) [])))
          by r are_ts names next true e = high_element t ts r are_ts so_far leads line w c pre low none room names ready (above true e)
          by r are_ts names next false e = low_element t ts r are_ts so_far leads line w c pre low none room names ready (below_it e) (next (below_it e))
