use Rattle.std.proofs.Common.{rules, ap, ap₂, refl, codes, true, map, List, Some, [], ◌≡◌, ◌∙◌, subst, sym, inl, inr, false, None, Option, ◌⊎◌, IsSomeAnd, IfOk, string_bytes, ℕ, Global}
use Rattle.std.proofs.lemmas.Result.{IfOk-weaker, MatchResult-weaker}
use Rattle.clap.specs.Walk.{Row, Text, rule_of}
use Rattle.clap.specs.Kinds.{Kinds, HasKind, FailsBy}
use Rattle.clap.specs.Values.{kind_of}
use Rattle.clap.specs.declared.error.Error.{Error}
use Rattle.clap.specs.declared.error.kind.ErrorKind.TheVariants.{OutOfMemory}
use Rattle.clap.proofs.WalkLemmas.{IfOk-both}
use Rattle.pp_words.proofs.Whole.{whole, Agrees}
use Rattle.pp_words.proofs.Spelled.{all_spelled}
use Rattle.clap.specs.Faults.{fault_of, is_simple_and_free}
use Rattle.clap.specs.Simple.{App, Shape, app_of, app_of_fields, is_simple, new_app, on_top, with_rule, matches_of}
use Rattle.pp_words.specs.Line.{line, steps_rule, words_rule, form, Shows}
use Rattle.pp_words.proofs.line.parse.Goals as goal

abbrev no_name : App → App
no_name = on_top (λ (s : Shape). record s { no_binary_name = true })

abbrev no_help : App → App
no_help = on_top (λ (s : Shape). record s { disable_help_flag = true })

line_simple : is_simple_and_free line ≡ true
line_simple = refl

line_plain : is_simple line ≡ true
line_plain = refl

shown : (k : Kinds) (rows found : List Row) (f : Option (List Text × List Text)) → Agrees k rows f → k ≡ [] → found ≡ rows → IsSomeAnd f (λ q. Shows found q.0 q.1)
shown k rows found None a e h = absurd (a e)
shown k rows found (Some q) a e h = subst (λ (x : List Row). Shows x q.0 q.1) (sym h) a.1

refused : (k : Kinds) (rows : List Row) (e : Error) (f : Option (List Text × List Text)) → Agrees k rows f → HasKind k e → (kind_of e ≡ OutOfMemory) ⊎ (f ≡ None)
refused k rows e None a h = inr refl
refused k rows e (Some q) a h = elim (subst (λ (x : Kinds). HasKind x e) a.0 h) [ inl m ↦ inl m | inr n ↦ absurd n ]

pub returns : goal.returns
returns c =
    let steps_is : rule_of c.action-steps.result ≡ steps_rule = search rules in
    let words_is : rule_of c.action-rest.result ≡ words_rule = search rules in
    let named : app_of c.no_binary_name.result ≡ no_name (new_app (codes "prepack")) = ap app_of_fields c.no_binary_name.ensures ∙ ap no_name c.new-3.ensures.app in
    let helped : app_of c.disable_help_flag.result ≡ no_help (no_name (new_app (codes "prepack"))) = ap app_of_fields c.disable_help_flag.ensures ∙ ap no_help named in
    let first : app_of c.in_ok-arg.field-0 ≡ with_rule (no_help (no_name (new_app (codes "prepack")))) steps_rule = c.in_ok-arg.ensures.shape (search rules) ∙ ap₂ with_rule helped steps_is in
    let line_is : app_of c.in_ok-command.command ≡ line = c.in_ok-command.ensures.shape (search rules) ∙ ap₂ with_rule first words_is in
    let r = c.try_get_matches_from.result in
    let ws : List (List ℕ) = map (string_bytes {Z = Global}) c.args.words.now in
    let kinds : FailsBy (fault_of line ws) r = subst (λ (a : App). FailsBy (fault_of a ws) r) line_is (c.try_get_matches_from.ensures.kinds (ap is_simple_and_free line_is ∙ line_simple)) in
    let kinds_ok : IfOk r (λ m. fault_of line ws ≡ []) = MatchResult-weaker r kinds (λ m h. h) (λ e h. tt) in
    let rows = IfOk-weaker r _ _ (λ m h. (h (ap is_simple line_is ∙ line_plain)).0 ∙ ap (λ (a : App). matches_of a ws) line_is) c.try_get_matches_from.ensures.matches in
    let agree = whole ws (all_spelled c.args.words.now) in
    record {
      ok = MatchResult-weaker r (IfOk-both r _ _ kinds_ok rows) (λ m h. shown _ _ _ (form false [] [] ws) agree h.0 h.1) (λ e h. tt);
      err = MatchResult-weaker r kinds (λ m h. tt) (λ e h. refused _ _ e (form false [] [] ws) agree h);
    }
