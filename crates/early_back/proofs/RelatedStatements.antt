-- What two folds say of a statement and of that without its places, where it is so of each form.
use Rattle.std.proofs.Common.{◌≡◌, List, [], ◌∷◌, map, refl, ap, sym, ◌∙◌, subst}
use Rattle.std.specs.Prelude.{Some, None}
use Rattle.std.specs.Option.{option_map}
use Rattle.js_value.specs.declared.place.Place.{Place}
use Rattle.js_tree.specs.Refusals.{place}
use Rattle.js_tree.specs.declared.statement.Case.{Case, roll-Case, fold-Case}
use Rattle.js_tree.specs.declared.statement.Catch.{Catch, roll-Catch, fold-Catch}
use Rattle.js_tree.specs.declared.statement.Finally.{Finally, roll-Finally, fold-Finally}
use Rattle.js_tree.specs.declared.statement.Stmt.{Stmt, roll-Stmt, fold-Stmt}
use Rattle.js_tree.specs.declared.statement.StmtForm.{StmtForm, roll-StmtForm, fold-StmtForm}
use Rattle.js_tree.specs.declared.statement.StmtForm.TheFolds.{map-StmtForm, fold-roll-StmtForm, fold-roll-Case, fold-roll-Catch, fold-roll-Finally, fold_out-Stmt, ind-Stmt}
use Rattle.js_tree.specs.declared.statement.StmtForm.TheOpen.{StmtForm-F, Case-F, Catch-F, Finally-F, Stmt-F}
use Rattle.reading_back.specs.Unplaced as unplaced
use Rattle.early_back.proofs.RelatedExpressions.{Two}

-- a form whose expressions and names have no places
abbrev pub forget_form : {A B C D E : Type 0} → StmtForm-F A B C D E → StmtForm-F A B C D E
forget_form (StmtForm-F.Var ds) = StmtForm-F.Var (map unplaced.declarator ds)
forget_form (StmtForm-F.FuncDecl f) = StmtForm-F.FuncDecl f
forget_form (StmtForm-F.Eval x) = StmtForm-F.Eval (unplaced.expr x)
forget_form (StmtForm-F.Block body) = StmtForm-F.Block body
forget_form StmtForm-F.Empty = StmtForm-F.Empty
forget_form (StmtForm-F.If test a b) = StmtForm-F.If (unplaced.expr test) a b
forget_form (StmtForm-F.DoWhile body test) = StmtForm-F.DoWhile body (unplaced.expr test)
forget_form (StmtForm-F.While test body) = StmtForm-F.While (unplaced.expr test) body
forget_form (StmtForm-F.For from test step body) = StmtForm-F.For (unplaced.for_start from) (option_map unplaced.expr test) (option_map unplaced.expr step) body
forget_form (StmtForm-F.ForIn to object body) = StmtForm-F.ForIn (unplaced.for_target to) (unplaced.expr object) body
forget_form StmtForm-F.Continue = StmtForm-F.Continue
forget_form StmtForm-F.Break = StmtForm-F.Break
forget_form (StmtForm-F.Return x) = StmtForm-F.Return (option_map unplaced.expr x)
forget_form (StmtForm-F.Switch x cases) = StmtForm-F.Switch (unplaced.expr x) cases
forget_form (StmtForm-F.Throw x) = StmtForm-F.Throw (unplaced.expr x)
forget_form (StmtForm-F.Try body handler final) = StmtForm-F.Try body handler final

abbrev pub unplaced_case : Case-F StmtForm Case Catch Finally Stmt → Case
unplaced_case c = roll-Case (record { test = option_map unplaced.expr c.test; body = c.body })

abbrev pub stmt_form : StmtForm → StmtForm
stmt_form = fold-StmtForm StmtForm Case Catch Finally Stmt unplaced.of_stmt_form unplaced_case unplaced.of_catch (λ f. roll-Finally f) unplaced.of_stmt

abbrev pub case : Case → Case
case = fold-Case StmtForm Case Catch Finally Stmt unplaced.of_stmt_form unplaced_case unplaced.of_catch (λ f. roll-Finally f) unplaced.of_stmt

abbrev pub catch : Catch → Catch
catch = fold-Catch StmtForm Case Catch Finally Stmt unplaced.of_stmt_form unplaced_case unplaced.of_catch (λ f. roll-Finally f) unplaced.of_stmt

abbrev pub finally : Finally → Finally
finally = fold-Finally StmtForm Case Catch Finally Stmt unplaced.of_stmt_form unplaced_case unplaced.of_catch (λ f. roll-Finally f) unplaced.of_stmt

module _ {A B C D E K L M N O : Type 0}
    (form : StmtForm-F A B C D E → A) (clause : Case-F A B C D E → B) (handler : Catch-F A B C D E → C) (final : Finally-F A B C D E → D) (stmt : Stmt-F A B C D E → E)
    (form_of : StmtForm-F K L M N O → K) (clause_of : Case-F K L M N O → L) (handler_of : Catch-F K L M N O → M) (final_of : Finally-F K L M N O → N) (stmt_of : Stmt-F K L M N O → O)
    (FormsAre : K → A → Type 0) (CasesAre : L → B → Type 0) (CatchesAre : M → C → Type 0) (FinalsAre : N → D → Type 0) (StmtsAre : O → E → Type 0) where
  abbrev pub Forms : Type 0
  Forms = Two FormsAre

  abbrev pub Cases : Type 0
  Cases = Two CasesAre

  abbrev pub Catches : Type 0
  Catches = Two CatchesAre

  abbrev pub Finals : Type 0
  Finals = Two FinalsAre

  abbrev pub Stmts : Type 0
  Stmts = Two StmtsAre

  abbrev pub left : StmtForm-F Forms Cases Catches Finals Stmts → StmtForm-F K L M N O
  left = map-StmtForm Forms Cases Catches Finals Stmts K L M N O (λ p. p.0) (λ p. p.0) (λ p. p.0) (λ p. p.0) (λ p. p.0)

  abbrev pub right : StmtForm-F Forms Cases Catches Finals Stmts → StmtForm-F A B C D E
  right = map-StmtForm Forms Cases Catches Finals Stmts A B C D E (λ p. p.1) (λ p. p.1) (λ p. p.1) (λ p. p.1) (λ p. p.1)

  abbrev pub lefts : List Stmts → List O
  lefts ps = map (λ (p : Stmts). p.0) ps

  abbrev pub rights : List Stmts → List E
  rights ps = map (λ (p : Stmts). p.1) ps

  -- it is so of each form where it is so of the parts
  pub record EachForm : Type 0 where
    pub forms : (y : StmtForm-F Forms Cases Catches Finals Stmts) → FormsAre (form_of (forget_form (left y))) (form (right y))
    pub cases : (y : Case-F Forms Cases Catches Finals Stmts)
        → CasesAre (clause_of (record { test = option_map unplaced.expr y.test; body = lefts y.body })) (clause (record { test = y.test; body = rights y.body }))
    pub catches : (y : Catch-F Forms Cases Catches Finals Stmts)
        → CatchesAre (handler_of (record { at = place 0; name = y.name; body = lefts y.body })) (handler (record { at = y.at; name = y.name; body = rights y.body }))
    pub finals : (y : Finally-F Forms Cases Catches Finals Stmts) → FinalsAre (final_of (record { body = lefts y.body })) (final (record { body = rights y.body }))
    pub stmts : (at : Place) (p : Forms) → StmtsAre (stmt_of (record { at = place 0; form = p.0 })) (stmt (record { at = at; form = p.1 }))

  abbrev in_form : StmtForm → A
  in_form = fold-StmtForm A B C D E form clause handler final stmt

  abbrev in_case : Case → B
  in_case = fold-Case A B C D E form clause handler final stmt

  abbrev in_catch : Catch → C
  in_catch = fold-Catch A B C D E form clause handler final stmt

  abbrev in_final : Finally → D
  in_final = fold-Finally A B C D E form clause handler final stmt

  abbrev in_stmt : Stmt → E
  in_stmt = fold-Stmt A B C D E form clause handler final stmt

  abbrev of_form : StmtForm → K
  of_form = fold-StmtForm K L M N O form_of clause_of handler_of final_of stmt_of

  abbrev of_case : Case → L
  of_case = fold-Case K L M N O form_of clause_of handler_of final_of stmt_of

  abbrev of_catch : Catch → M
  of_catch = fold-Catch K L M N O form_of clause_of handler_of final_of stmt_of

  abbrev of_final : Finally → N
  of_final = fold-Finally K L M N O form_of clause_of handler_of final_of stmt_of

  abbrev of_stmt : Stmt → O
  of_stmt = fold-Stmt K L M N O form_of clause_of handler_of final_of stmt_of

  abbrev FormIs : StmtForm → Type 0
  FormIs f = FormsAre (of_form (stmt_form f)) (in_form f)

  abbrev CaseIs : Case → Type 0
  CaseIs c = CasesAre (of_case (case c)) (in_case c)

  abbrev CatchIs : Catch → Type 0
  CatchIs c = CatchesAre (of_catch (catch c)) (in_catch c)

  abbrev FinalIs : Finally → Type 0
  FinalIs f = FinalsAre (of_final (finally f)) (in_final f)

  abbrev StmtIs : Stmt → Type 0
  StmtIs t = StmtsAre (of_stmt (unplaced.stmt t)) (in_stmt t)

  abbrev KnownForm : Type 0
  KnownForm = (f : StmtForm) × FormIs f

  abbrev KnownCase : Type 0
  KnownCase = (c : Case) × CaseIs c

  abbrev KnownCatch : Type 0
  KnownCatch = (c : Catch) × CatchIs c

  abbrev KnownFinal : Type 0
  KnownFinal = (f : Finally) × FinalIs f

  abbrev KnownStmt : Type 0
  KnownStmt = (t : Stmt) × StmtIs t

  abbrev Layer : Type 0
  Layer = StmtForm-F StmtForm Case Catch Finally Stmt

  abbrev Known : Type 0
  Known = StmtForm-F KnownForm KnownCase KnownCatch KnownFinal KnownStmt

  abbrev form_pair : KnownForm → Forms
  form_pair k = (of_form (stmt_form k.0), in_form k.0, k.1)

  abbrev case_pair : KnownCase → Cases
  case_pair k = (of_case (case k.0), in_case k.0, k.1)

  abbrev catch_pair : KnownCatch → Catches
  catch_pair k = (of_catch (catch k.0), in_catch k.0, k.1)

  abbrev final_pair : KnownFinal → Finals
  final_pair k = (of_final (finally k.0), in_final k.0, k.1)

  abbrev stmt_pair : KnownStmt → Stmts
  stmt_pair k = (of_stmt (unplaced.stmt k.0), in_stmt k.0, k.1)

  abbrev pairs : Known → StmtForm-F Forms Cases Catches Finals Stmts
  pairs = map-StmtForm KnownForm KnownCase KnownCatch KnownFinal KnownStmt Forms Cases Catches Finals Stmts form_pair case_pair catch_pair final_pair stmt_pair

  abbrev layer : Known → Layer
  layer = map-StmtForm KnownForm KnownCase KnownCatch KnownFinal KnownStmt StmtForm Case Catch Finally Stmt (λ k. k.0) (λ k. k.0) (λ k. k.0) (λ k. k.0) (λ k. k.0)

  abbrev unplaced_layer : Layer → Layer
  unplaced_layer = map-StmtForm StmtForm Case Catch Finally Stmt StmtForm Case Catch Finally Stmt stmt_form case catch finally unplaced.stmt

  abbrev of_layer : Layer → StmtForm-F K L M N O
  of_layer = map-StmtForm StmtForm Case Catch Finally Stmt K L M N O of_form of_case of_catch of_final of_stmt

  abbrev in_layer : Layer → StmtForm-F A B C D E
  in_layer = map-StmtForm StmtForm Case Catch Finally Stmt A B C D E in_form in_case in_catch in_final in_stmt

  abbrev known : List KnownStmt → List Stmt
  known ks = map (λ (k : KnownStmt). k.0) ks

  left_body : (ks : List KnownStmt) → map of_stmt (map unplaced.stmt (known ks)) ≡ lefts (map stmt_pair ks)
  left_body [] = refl
  left_body (k ∷ ks) = ap (λ xs. of_stmt (unplaced.stmt k.0) ∷ xs) (left_body ks)

  right_body : (ks : List KnownStmt) → map in_stmt (known ks) ≡ rights (map stmt_pair ks)
  right_body [] = refl
  right_body (k ∷ ks) = ap (λ xs. in_stmt k.0 ∷ xs) (right_body ks)

  left_cases : (ks : List KnownCase) → map of_case (map case (map (λ (k : KnownCase). k.0) ks)) ≡ map (λ (p : Cases). p.0) (map case_pair ks)
  left_cases [] = refl
  left_cases (k ∷ ks) = ap (λ xs. of_case (case k.0) ∷ xs) (left_cases ks)

  right_cases : (ks : List KnownCase) → map in_case (map (λ (k : KnownCase). k.0) ks) ≡ map (λ (p : Cases). p.1) (map case_pair ks)
  right_cases [] = refl
  right_cases (k ∷ ks) = ap (λ xs. in_case k.0 ∷ xs) (right_cases ks)

  left_is : (y : Known) → of_layer (unplaced.in_stmt_form (unplaced_layer (layer y))) ≡ forget_form (left (pairs y))
  left_is (StmtForm-F.Block ks) = ap (λ xs. StmtForm-F.Block xs) (left_body ks)
  left_is (StmtForm-F.If x a None) = refl
  left_is (StmtForm-F.If x a (Some b)) = refl
  left_is (StmtForm-F.Switch x ks) = ap (λ xs. StmtForm-F.Switch (unplaced.expr x) xs) (left_cases ks)
  left_is (StmtForm-F.Try ks None None) = ap (λ xs. StmtForm-F.Try xs None None) (left_body ks)
  left_is (StmtForm-F.Try ks (Some c) None) = ap (λ xs. StmtForm-F.Try xs (Some (of_catch (catch c.0))) None) (left_body ks)
  left_is (StmtForm-F.Try ks None (Some f)) = ap (λ xs. StmtForm-F.Try xs None (Some (of_final (finally f.0)))) (left_body ks)
  left_is (StmtForm-F.Try ks (Some c) (Some f)) = ap (λ xs. StmtForm-F.Try xs (Some (of_catch (catch c.0))) (Some (of_final (finally f.0)))) (left_body ks)
  left_is y = refl

  right_is : (y : Known) → in_layer (layer y) ≡ right (pairs y)
  right_is (StmtForm-F.Block ks) = ap (λ xs. StmtForm-F.Block xs) (right_body ks)
  right_is (StmtForm-F.If x a None) = refl
  right_is (StmtForm-F.If x a (Some b)) = refl
  right_is (StmtForm-F.Switch x ks) = ap (λ xs. StmtForm-F.Switch x xs) (right_cases ks)
  right_is (StmtForm-F.Try ks None None) = ap (λ xs. StmtForm-F.Try xs None None) (right_body ks)
  right_is (StmtForm-F.Try ks (Some c) None) = ap (λ xs. StmtForm-F.Try xs (Some (in_catch c.0)) None) (right_body ks)
  right_is (StmtForm-F.Try ks None (Some f)) = ap (λ xs. StmtForm-F.Try xs None (Some (in_final f.0))) (right_body ks)
  right_is (StmtForm-F.Try ks (Some c) (Some f)) = ap (λ xs. StmtForm-F.Try xs (Some (in_catch c.0)) (Some (in_final f.0))) (right_body ks)
  right_is y = refl

  module _ (each : EachForm) where
    from_layer : (y : Known) → FormIs (roll-StmtForm (layer y))
    from_layer y =
        let l : Layer = layer y in
        let of_is : of_form (stmt_form (roll-StmtForm l)) ≡ form_of (forget_form (left (pairs y))) =
        ap of_form (fold-roll-StmtForm StmtForm Case Catch Finally Stmt unplaced.of_stmt_form unplaced_case unplaced.of_catch (λ f. roll-Finally f) unplaced.of_stmt l)
        ∙ fold-roll-StmtForm K L M N O form_of clause_of handler_of final_of stmt_of (unplaced.in_stmt_form (unplaced_layer l)) ∙ ap form_of (left_is y) in
        let in_is : in_form (roll-StmtForm l) ≡ form (right (pairs y)) = fold-roll-StmtForm A B C D E form clause handler final stmt l ∙ ap form (right_is y) in
        subst (λ k. FormsAre k (in_form (roll-StmtForm l))) (sym of_is) (subst (λ a. FormsAre (form_of (forget_form (left (pairs y)))) a) (sym in_is) (each.forms (pairs y)))

    from_case : (y : Case-F KnownForm KnownCase KnownCatch KnownFinal KnownStmt) → CaseIs (roll-Case (record { test = y.test; body = known y.body }))
    from_case y =
        let l : Case-F StmtForm Case Catch Finally Stmt = record { test = y.test; body = known y.body } in
        let p : Case-F Forms Cases Catches Finals Stmts = record { test = y.test; body = map stmt_pair y.body } in
        let m : Case-F StmtForm Case Catch Finally Stmt = record { test = option_map unplaced.expr y.test; body = map unplaced.stmt (known y.body) } in
        let of_is : of_case (case (roll-Case l)) ≡ clause_of (record { test = option_map unplaced.expr y.test; body = lefts p.body }) =
        ap of_case (fold-roll-Case StmtForm Case Catch Finally Stmt unplaced.of_stmt_form unplaced_case unplaced.of_catch (λ f. roll-Finally f) unplaced.of_stmt l)
        ∙ fold-roll-Case K L M N O form_of clause_of handler_of final_of stmt_of m
        ∙ ap (λ (xs : List O). clause_of (record { test = option_map unplaced.expr y.test; body = xs })) (left_body y.body) in
        let in_is : in_case (roll-Case l) ≡ clause (record { test = y.test; body = rights p.body }) =
        fold-roll-Case A B C D E form clause handler final stmt l ∙ ap (λ (xs : List E). clause (record { test = y.test; body = xs })) (right_body y.body) in
        subst (λ k. CasesAre k (in_case (roll-Case l))) (sym of_is)
        (subst (λ a. CasesAre (clause_of (record { test = option_map unplaced.expr y.test; body = lefts p.body })) a) (sym in_is) (each.cases p))

    from_catch : (y : Catch-F KnownForm KnownCase KnownCatch KnownFinal KnownStmt) → CatchIs (roll-Catch (record { at = y.at; name = y.name; body = known y.body }))
    from_catch y =
        let l : Catch-F StmtForm Case Catch Finally Stmt = record { at = y.at; name = y.name; body = known y.body } in
        let p : Catch-F Forms Cases Catches Finals Stmts = record { at = y.at; name = y.name; body = map stmt_pair y.body } in
        let m : Catch-F StmtForm Case Catch Finally Stmt = record { at = place 0; name = y.name; body = map unplaced.stmt (known y.body) } in
        let of_is : of_catch (catch (roll-Catch l)) ≡ handler_of (record { at = place 0; name = y.name; body = lefts p.body }) =
        ap of_catch (fold-roll-Catch StmtForm Case Catch Finally Stmt unplaced.of_stmt_form unplaced_case unplaced.of_catch (λ f. roll-Finally f) unplaced.of_stmt l)
        ∙ fold-roll-Catch K L M N O form_of clause_of handler_of final_of stmt_of m
        ∙ ap (λ (xs : List O). handler_of (record { at = place 0; name = y.name; body = xs })) (left_body y.body) in
        let in_is : in_catch (roll-Catch l) ≡ handler (record { at = y.at; name = y.name; body = rights p.body }) =
        fold-roll-Catch A B C D E form clause handler final stmt l ∙ ap (λ (xs : List E). handler (record { at = y.at; name = y.name; body = xs })) (right_body y.body) in
        subst (λ k. CatchesAre k (in_catch (roll-Catch l))) (sym of_is)
        (subst (λ a. CatchesAre (handler_of (record { at = place 0; name = y.name; body = lefts p.body })) a) (sym in_is) (each.catches p))

    from_final : (y : Finally-F KnownForm KnownCase KnownCatch KnownFinal KnownStmt) → FinalIs (roll-Finally (record { body = known y.body }))
    from_final y =
        let l : Finally-F StmtForm Case Catch Finally Stmt = record { body = known y.body } in
        let p : Finally-F Forms Cases Catches Finals Stmts = record { body = map stmt_pair y.body } in
        let m : Finally-F StmtForm Case Catch Finally Stmt = record { body = map unplaced.stmt (known y.body) } in
        let of_is : of_final (finally (roll-Finally l)) ≡ final_of (record { body = lefts p.body }) =
        ap of_final (fold-roll-Finally StmtForm Case Catch Finally Stmt unplaced.of_stmt_form unplaced_case unplaced.of_catch (λ f. roll-Finally f) unplaced.of_stmt l)
        ∙ fold-roll-Finally K L M N O form_of clause_of handler_of final_of stmt_of m
        ∙ ap (λ (xs : List O). final_of (record { body = xs })) (left_body y.body) in
        let in_is : in_final (roll-Finally l) ≡ final (record { body = rights p.body }) =
        fold-roll-Finally A B C D E form clause handler final stmt l ∙ ap (λ (xs : List E). final (record { body = xs })) (right_body y.body) in
        subst (λ k. FinalsAre k (in_final (roll-Finally l))) (sym of_is)
        (subst (λ a. FinalsAre (final_of (record { body = lefts p.body })) a) (sym in_is) (each.finals p))

    from_form : (x : Stmt-F StmtForm Case Catch Finally Stmt) → FormIs x.form → StmtIs (roll-Stmt x)
    from_form x h =
        let t : Stmt = roll-Stmt x in
        let of_is : of_stmt (unplaced.stmt t) ≡ stmt_of (record { at = place 0; form = of_form (stmt_form x.form) }) =
        ap of_stmt (fold_out-Stmt StmtForm Case Catch Finally Stmt unplaced.of_stmt_form unplaced_case unplaced.of_catch (λ f. roll-Finally f) unplaced.of_stmt t)
        ∙ fold_out-Stmt K L M N O form_of clause_of handler_of final_of stmt_of (record { at = place 0; form = stmt_form x.form }) in
        let in_is : in_stmt t ≡ stmt (record { at = x.at; form = in_form x.form }) = fold_out-Stmt A B C D E form clause handler final stmt t in
        subst (λ k. StmtsAre k (in_stmt t)) (sym of_is)
        (subst (λ a. StmtsAre (stmt_of (record { at = place 0; form = of_form (stmt_form x.form) })) a) (sym in_is)
        (each.stmts x.at (of_form (stmt_form x.form), in_form x.form, h)))

    pub related : (t : Stmt) → StmtIs t
    related = ind-Stmt FormIs CaseIs CatchIs FinalIs StmtIs
        (λ x y is. subst (λ l. FormIs (roll-StmtForm l)) is (from_layer y))
        (λ x y is. subst (λ l. CaseIs (roll-Case l)) is (from_case y))
        (λ x y is. subst (λ l. CatchIs (roll-Catch l)) is (from_catch y))
        (λ x y is. subst (λ l. FinalIs (roll-Finally l)) is (from_final y))
        (λ x y is. subst (λ l. StmtIs (roll-Stmt l)) is (from_form _ y.form.1))
