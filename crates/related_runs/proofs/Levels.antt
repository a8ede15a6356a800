-- The evaluation of nodes and the calls of built-ins, and runs of a script, from heaps that correspond.
use Rattle.std.proofs.Common.{◌≡◌, refl, subst, ℕ, zero, suc, List, []}
use Rattle.std.specs.Prelude.{Option, Some, None, unwrap_or, Bool}
use Rattle.std.specs.Option.{option_map}
use Rattle.js_value.specs.declared.place.Place.{Place}
use Rattle.js_value.specs.declared.why.Why.TheVariants.{Depth}
use Rattle.js_tree.specs.declared.expression.Expr.{Expr}
use Rattle.js_tree.specs.declared.statement.Func.{Func}
use Rattle.js_tree.specs.declared.statement.Script.{Script}
use Rattle.js_tree.specs.declared.statement.Stmt.{Stmt}
use Rattle.plain_heap.specs.Values.{Value, Prim, ObjNo}
use Rattle.plain_heap.specs.Heap.{Class, Heap, ObjectState, Plain}
use Rattle.js_machine.specs.Machine.Levels as L
use Rattle.js_machine.specs.Machine.Levels.{Setting, Nodes, Builtins, within, ev_of, builtin, perform_call, perform_construct, script_tree}
use Rattle.js_machine.specs.Machine.References.{Context, global_context}
use Rattle.js_machine.specs.Machine.RealmObjects.{TypeError, global}
use Rattle.js_machine.specs.Machine.ObjectBuiltins.{Rule}
use Rattle.js_machine.specs.Machine.Realm.{builtin_rule, constructor_rule}
use Rattle.js_machine.specs.Machine.Events.{Run, look, End, Fail}
use Rattle.related_states.specs.Related.{Correspondence, BothOption, nothing, just, BothEach, SameValue, object, SameClass, same_plain, same_array, same_function, same_builtin, SameState, SameHeaps}
use Rattle.related_states.proofs.Heaps.{class_both}
use Rattle.related_runs.proofs.Related.{TreeRelation, Together, bind, left_at, looks, takes_step}
use Rattle.related_runs.proofs.Operators.{Meanings, Seen, plain, objects, symbol, see}
use Rattle.related_runs.proofs.Objects.{CallsTogether, site_of, SameContext, SameReference, throw_error_both}
use Rattle.related_runs.proofs.Expressions.{SameCompletion, PartsTogether, expr_rule_both, reference_rule_both}
use Rattle.related_runs.proofs.Statements.{statements_both, stmt_rule_both}
use Rattle.related_runs.proofs.Functions.{call_function_both, construct_function_both, enter_global_both, SameGlobal}
use Rattle.related_states.specs.Related.{Names}
use Rattle.related_runs.specs.Codes.{Code}
use Rattle.related_runs.proofs.Codes.{global_names}
use Rattle.related_runs.proofs.Arrays.{RuleTogether}
use Rattle.related_runs.proofs.Realm.{IfThere, builtin_rule_both, constructor_rule_both}

pub record NodesTogether {x : Correspondence} (w : TreeRelation x) {functions others : List Func} (code : Code x functions others) (nodes other : Nodes) : Type 0 where
  pub expr : {ns : Names} {a b : Context} → SameContext x ns a b → {e f : Expr} → code.Exprs ns e f → Together w (SameValue x) (nodes.expr a e) (other.expr b f)
  pub reference : {ns : Names} {a b : Context} → SameContext x ns a b → {e f : Expr} → code.Exprs ns e f → Together w (SameReference x) (nodes.reference a e) (other.reference b f)
  pub stmt : {ns : Names} {a b : Context} → SameContext x ns a b → {s t : Stmt} → code.Stmts ns s t → Together w (SameCompletion x) (nodes.stmt a s) (other.stmt b t)

pub record BuiltinsTogether {x : Correspondence} (w : TreeRelation x) (builtins other : Builtins) : Type 0 where
  pub at : (at place : Place) (rule : Rule) → RuleTogether w rule → {this that : Value} → SameValue x this that → {vs us : List Value} → BothEach (SameValue x) vs us → Together w (SameValue x) (builtins at rule this vs) (other place rule that us)

module _ {x : Correspondence} (w : TreeRelation x) (m : Meanings x) where
  class_at : {a b : Option ObjectState} → BothOption (SameState x) a b → SameClass x (unwrap_or (option_map (λ (state : ObjectState). state.class) a) Plain) (unwrap_or (option_map (λ (state : ObjectState). state.class) b) Plain)
  class_at nothing = same_plain
  class_at (just s) = class_both x s

  class_of_both : {o q : ObjNo} → x.Objects o q → Together w (SameClass x) (look (L.class_of o)) (look (L.class_of q))
  class_of_both r = looks w (λ h g same. class_at (same.objects _ _ r))

  module _ {builtins other : Builtins} (h : BuiltinsTogether w builtins other) where
    run_rule_both : (at place : Place) {this that : Value} → SameValue x this that → {vs us : List Value} → BothEach (SameValue x) vs us → (rule : Option Rule) → IfThere w m rule
        → Together w (SameValue x) (L.run_rule builtins at this vs rule) (L.run_rule other place that us rule)
    run_rule_both at place this vs None is = throw_error_both w m TypeError
    run_rule_both at place this vs (Some rule) is = h.at at place rule is this vs

    construct_class_both : (at place : Place) {call calls : Value → Value → List Value → Run Value} → CallsTogether w call calls → {o q : ObjNo} → x.Objects o q → {vs us : List Value} → BothEach (SameValue x) vs us → {c d : Class} → SameClass x c d
        → Together w (SameValue x) (L.construct_class (site_of at call) builtins o vs c) (L.construct_class (site_of place calls) other q us d)
    construct_class_both at place c r vs (same_function ns strict f s) = construct_function_both w m at place c r vs
    construct_class_both at place c r vs (same_builtin n) = run_rule_both at place (object r) vs (constructor_rule n) (constructor_rule_both w m n)
    construct_class_both at place c r vs same_plain = throw_error_both w m TypeError
    construct_class_both at place c r vs same_array = throw_error_both w m TypeError

    construct_seen : {call calls : Place → Value → Value → List Value → Run Value} → ((at place : Place) → CallsTogether w (call at) (calls place)) → (at place : Place) {f g : Value} {vs us : List Value} → Seen x f g → BothEach (SameValue x) vs us
        → Together w (SameValue x) (perform_construct call builtins at f vs) (perform_construct calls other place g us)
    unfolding perform_construct
    construct_seen c at place (objects r) vs = bind w (class_of_both r) (λ _ _ class. construct_class_both at place (c at place) r vs class)
    construct_seen c at place (plain p) vs = throw_error_both w m TypeError
    construct_seen c at place (symbol k d) vs = throw_error_both w m TypeError

  module _ {functions others : List Func} (code : Code x functions others) (turns : ℕ) where
    abbrev first : Setting
    first = record { functions = functions; turns = turns }

    abbrev second : Setting
    second = record { functions = others; turns = turns }

    call_class_both : {nodes later : Nodes} {builtins other : Builtins} → NodesTogether w code nodes later → BuiltinsTogether w builtins other → (at place : Place) {this that : Value} → SameValue x this that → {vs us : List Value} → BothEach (SameValue x) vs us
        → {c d : Class} → SameClass x c d → Together w (SameValue x) (L.call_class first nodes builtins at this vs c) (L.call_class second later other place that us d)
    call_class_both n b at place this vs (same_function ns {f = f} {g = g} strict same env) = call_function_both w m code (λ ns a b context s t same. n.stmt context same) at place this vs env strict f g same
    call_class_both n b at place this vs (same_builtin k) = run_rule_both b at place this vs (builtin_rule k) (builtin_rule_both w m k)
    call_class_both n b at place this vs same_plain = throw_error_both w m TypeError
    call_class_both n b at place this vs same_array = throw_error_both w m TypeError

    call_seen : {nodes later : Nodes} {builtins other : Builtins} → NodesTogether w code nodes later → BuiltinsTogether w builtins other → (at place : Place) {f g this that : Value} {vs us : List Value} → Seen x f g → SameValue x this that → BothEach (SameValue x) vs us
        → Together w (SameValue x) (perform_call first nodes builtins at f this vs) (perform_call second later other place g that us)
    unfolding perform_call
    call_seen n b at place (objects r) this vs = bind w (class_of_both r) (λ _ _ class. call_class_both n b at place this vs class)
    call_seen n b at place (plain p) this vs = throw_error_both w m TypeError
    call_seen n b at place (symbol k d) this vs = throw_error_both w m TypeError

    calls_both : {nodes later : Nodes} {builtins other : Builtins} → NodesTogether w code nodes later → BuiltinsTogether w builtins other → (at place : Place) → CallsTogether w (perform_call first nodes builtins at) (perform_call second later other place)
    calls_both n b at place = record { at = λ f this vs. call_seen n b at place (see m f) this vs }

    builtins_both : {nodes later : ℕ → Nodes} → ((calls : ℕ) → NodesTogether w code (nodes calls) (later calls)) → (calls : ℕ) → BuiltinsTogether w (builtin first nodes calls) (builtin second later calls)
    unfolding builtin
    builtins_both n zero = record { at = λ at place rule is this vs. left_at w Depth at place }
    builtins_both n (suc calls) = record { at = λ at place rule is this vs. is.at at place (calls_both (n calls) (builtins_both n calls) at place) this vs }

    parts_both : {nodes later : ℕ → Nodes} → ((calls : ℕ) → NodesTogether w code (nodes calls) (later calls)) → (calls : ℕ) → PartsTogether w code (ev_of first nodes calls) (ev_of second later calls)
    parts_both n calls =
        let call = calls_both (n calls) (builtins_both n calls) in record {
          expr = λ context e. (n calls).expr context e;
          reference = λ context e. (n calls).reference context e;
          stmt = λ context s. (n calls).stmt context s;
          call = call;
          construct = λ at place f vs. construct_seen (builtins_both n calls) call at place (see m f) vs;
          first_table = refl;
          second_table = refl;
          turns = refl;
        }

    -- at every depth
    within_both : (depth calls : ℕ) → NodesTogether w code (within first depth calls) (within second depth calls)
    unfolding within
    within_both zero calls = record {
      expr = λ context {e} {f} same. takes_step w e.at f.at (left_at w Depth e.at f.at);
      reference = λ context {e} {f} same. takes_step w e.at f.at (left_at w Depth e.at f.at);
      stmt = λ context {s} {t} same. takes_step w s.at t.at (left_at w Depth s.at t.at);
    }
    within_both (suc depth) calls = record {
      expr = λ {ns} context {e} {f} same. takes_step w e.at f.at (expr_rule_both w m (parts_both (within_both depth) calls) context e.at f.at (code.form ns e f same));
      reference = λ {ns} context {e} {f} same. takes_step w e.at f.at (reference_rule_both w m (parts_both (within_both depth) calls) context e.at f.at (code.form ns e f same));
      stmt = λ {ns} context {s} {t} same. takes_step w s.at t.at (stmt_rule_both w m (parts_both (within_both depth) calls) context s.at t.at (code.stmt_form ns s t same));
    }

    global_context_both : (strict : Bool) → SameContext x [] (global_context strict) (global_context strict)
    global_context_both strict = record { environment = global_names; this = object (x.realm global refl); strict = refl }

    global_code_both : (most : ℕ) (strict : Bool) {ss ts : List Stmt} → SameGlobal x code ss ts → Together w (SameCompletion x) (L.global_code first most strict ss) (L.global_code second most strict ts)
    global_code_both most strict h = bind w (enter_global_both w m L.beginning L.beginning ((parts_both (within_both most) most).call L.beginning L.beginning) code strict h)
        (λ _ _ _. statements_both w (λ s t same. (within_both most most).stmt (global_context_both strict) same) h.body)

-- two scripts whose codes correspond
pub record SameScript (x : Correspondence) (s t : Script) : Type 1 where
  pub code : Code x s.funcs t.funcs
  pub strict : s.directive ≡ t.directive
  pub body : SameGlobal x code s.body t.body

-- Two scripts whose codes correspond, on two heaps that do, have related trees of events.
pub script_trees : {x : Correspondence} (w : TreeRelation x) (m : Meanings x) (s t : Script) → SameScript x s t → (turns : ℕ) (h g : Heap) → SameHeaps x h g → w.Related (script_tree turns s h) (script_tree turns t g)
unfolding script_tree
script_trees {x = x} w m s t scripts turns h g same =
    subst (λ strict. w.Related (script_tree turns s h) (L.global_code (second w m scripts.code turns) L.most_active strict t.body g (λ completion s. End s) Fail)) scripts.strict
    ((global_code_both w m scripts.code turns L.most_active s.directive scripts.body).at h g same _ _ _ _
    (record { at = λ f l flow h g same. w.ends h g same }) (record { at = λ v u value h g same. w.fails v u h g value same }))
