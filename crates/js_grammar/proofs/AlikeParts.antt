-- Functions, primary expressions, members and calls do alike where what they refer to does.
use Rattle.std.proofs.Common.{ℕ, suc, ◌≤◌, Bool, true, false, List, [], drop, refl, arith}
use Rattle.std.specs.Prelude.{◌&&◌, Option, Some, None, is_some}
use Rattle.js_value.specs.declared.place.Place.{Place}
use Rattle.js_tree.specs.declared.expression.Expr.{Expr}
use Rattle.js_tree.specs.declared.expression.Field.TheVariants as field
use Rattle.js_tree.specs.declared.refusal.Feature.{Feature}
use Rattle.js_tree.specs.declared.refusal.Feature.TheVariants as feature
use Rattle.js_tree.specs.declared.refusal.ReadRefused.TheVariants.{Unsupported}
use Rattle.js_tree.specs.declared.statement.Name.{Name}
use Rattle.js_tree.specs.declared.token.TokenForm.{TokenForm}
use Rattle.js_grammar.specs.Rest.{Reading, here, at_end, sees, sees_second, of_first, place_of, is_empty}
use Rattle.js_grammar.specs.Functions as F
use Rattle.js_grammar.specs.Functions.{Grammar, declared_name, parameters, more_parameters}
use Rattle.js_grammar.specs.Marks
use Rattle.js_grammar.specs.Operators
use Rattle.js_grammar.specs.Primary as P
use Rattle.js_grammar.proofs.Alike.{steps, one_later, Setting, Alike, RuleAlike, later, taking, bind, bind_behind, gives, looks, refuses, misses, chooses, takes, expects, opens, numbers, finishes, repeats}

module _ (w : Setting) where
  -- ---- looks at what is left

  pub places : {i : ℕ} → Alike w false i here here
  places = looks w (λ s. place_of s.tokens s.end) (λ s. refl)

  pub sees_too : {A : Type 0} {i : ℕ} (want : TokenForm → Option A) → Alike w false i (sees want) (sees want)
  sees_too want = looks w (λ s. is_some (of_first want s.tokens)) (λ s. refl)

  pub second_too : {A : Type 0} {i : ℕ} (want : TokenForm → Option A) → Alike w false i (sees_second want) (sees_second want)
  second_too want = looks w (λ s. is_some (of_first want (drop 1 s.tokens))) (λ s. refl)

  pub ends_too : {i : ℕ} → Alike w false i at_end at_end
  ends_too = looks w (λ s. is_empty s.tokens) (λ s. refl)

  -- ---- what is referred to

  pub record Alikes (i : ℕ) (g h : Grammar) : Type 0 where
    pub assignment : (allows_in : Bool) → Alike w true i (g.assignment allows_in) (h.assignment allows_in)
    pub unary : Alike w true i g.unary h.unary
    pub member : Alike w true i g.member h.member
    pub statement : Alike w true i g.statement h.statement
    pub element : Alike w true i g.element h.element

  pub further : {i j : ℕ} {g h : Grammar} → i ≤ j → Alikes i g h → Alikes j g h
  further le a = record {
    assignment = λ allows_in. later w le (a.assignment allows_in);
    unary = later w le a.unary;
    member = later w le a.member;
    statement = later w le a.statement;
    element = later w le a.element;
  }

  pub one_further : {i : ℕ} {g h : Grammar} → Alikes i g h → Alikes (suc i) g h
  one_further a = further (omega arith) a

  -- ---- names and functions

  pub declared_name_too : {i : ℕ} → Alike w true i declared_name declared_name
  unfolding declared_name
  declared_name_too = search (places, steps)

  pub more_parameters_too : {i : ℕ} → RuleAlike w i more_parameters more_parameters
  more_parameters_too = record { at = λ k le m n again so_far. search (declared_name_too, one_later, again, steps) }

  pub parameters_too : {i : ℕ} → Alike w false i parameters parameters
  unfolding parameters
  parameters_too = takes w Marks.right_parenthesis (λ _. gives w []) (repeats w more_parameters_too [])

  strict_too : {i : ℕ} → Alike w false i F.is_use_strict_next F.is_use_strict_next
  strict_too = looks w (λ s. F.starts_with_use_strict s.tokens) (λ s. refl)

  no_parameter_too : {i : ℕ} (g : Grammar) → Alike w false i (F.no_parameter g) (F.no_parameter g)
  no_parameter_too g = search steps

  one_parameter_too : {i : ℕ} (g : Grammar) → Alike w false i (F.one_parameter g) (F.one_parameter g)
  one_parameter_too g = search (declared_name_too, steps)

  -- ---- the two forms

  shape_too : {A : Type 0} {i : ℕ} (at : Place) (what : Feature) (want : TokenForm → Option A) → Alike w false i (P.in_shape at what want) (P.in_shape at what want)
  shape_too at what want = bind w ends_too (λ ended. chooses w ended (misses w) (takes w want (λ a. gives w a) (refuses w (Unsupported at what))))

  abstract_too : {i : ℕ} (at : Place) → Alike w false i (P.abstract_behind at) (P.abstract_behind at)
  unfolding P.abstract_behind
  abstract_too at = search (shape_too, steps) depth 9 fits 3000

  name_too : {i : ℕ} (at : Place) (text : List ℕ) → Alike w false i (P.name_behind at text) (P.name_behind at text)
  name_too at text = search steps

  dotted_too : {i : ℕ} (g : Grammar) (object : Expr) → Alike w false i (P.dotted_behind g object) (P.dotted_behind g object)
  dotted_too g object = bind w (taking w (expects w Marks.identifier_name)) (λ key. search steps)

  new_or_none_too : {i : ℕ} (at : Place) {new new' : Reading Expr} → Alike w false (suc i) new new' → Alike w true i (P.new_or_none at new) (P.new_or_none at new')
  unfolding P.new_or_none
  new_or_none_too at n = takes w Marks.new_word (λ _. n) (takes w Operators.regular_expression (λ _. refuses w (Unsupported at feature.RegularExpression)) (misses w))

  module _ {g h : Grammar} where
    element_behind_too : {i : ℕ} (leads : Bool) → Alikes i g h → Alike w true i (F.element_behind g leads) (F.element_behind h leads)
    element_behind_too leads a =
        bind w places (λ at. bind w (sees_too Marks.string) (λ is_string. bind w strict_too (λ is_strict. bind_behind w (opens w a.element) (λ s. chooses w (is_strict && F.is_directive leads is_string s) (refuses w (Unsupported at feature.StrictCode)) (gives w (s, F.is_directive leads is_string s))))))

    pub more_elements_too : {i : ℕ} {closed : Reading Bool} → Alike w false i closed closed → Alikes i g h → RuleAlike w i (F.more_elements g closed) (F.more_elements h closed)
    more_elements_too c a = record {
      at = λ k le m n again so_far.
          let e : Alike w true k (F.element_behind g so_far.1) (F.element_behind h so_far.1) = element_behind_too so_far.1 (further le a) in
          bind w (later w le c) (λ done. chooses w done (gives w so_far.0) (taking w (bind_behind w e (λ x. again _))));
    }

    pub elements_too : {i : ℕ} {closed : Reading Bool} → Alike w false i closed closed → Alikes i g h → Alike w false i (F.elements g closed) (F.elements h closed)
    unfolding F.elements
    elements_too c a = repeats w (more_elements_too c a) ([], true)

    pub function_body_too : {i : ℕ} → Alikes (suc i) g h → Alike w true i (F.function_body g) (F.function_body h)
    unfolding F.function_body
    function_body_too a = bind_behind w (expects w Marks.left_brace) (λ _. bind w (opens w (elements_too (sees_too Marks.right_brace) a)) (λ body. search steps))

    pub function_behind_too : {i : ℕ} (at : Place) (name : Option Name) {params : Reading (List Name)} → Alike w false (suc i) params params → Alikes (suc i) g h
        → Alike w true i (F.function_behind g at name params) (F.function_behind h at name params)
    unfolding F.function_behind
    function_behind_too at name p a = bind_behind w (expects w Marks.left_parenthesis) (λ _. bind w (opens w p) (λ params. bind w (taking w (function_body_too (one_further a))) (λ body. search steps)))

    pub accessor_too : {i : ℕ} (at : Place) {params : Reading (List Name)} → Alike w false (suc i) params params → Alikes (suc i) g h → Alike w true i (F.accessor g at params) (F.accessor h at params)
    unfolding F.accessor
    accessor_too at p a = numbers w at (function_behind_too at None p a)

    pub function_expression_too : {i : ℕ} (at : Place) → Alikes (suc i) g h → Alike w true i (F.function_expression g at) (F.function_expression h at)
    unfolding F.function_expression
    function_expression_too at a = bind_behind w (expects w Marks.function_word) (λ _. bind w (sees_too Marks.identifier) (λ named. taking w (numbers w at (chooses w named
        (bind_behind w declared_name_too (λ name. taking w (function_behind_too at (Some name) parameters_too (one_further (one_further a)))))
        (function_behind_too at None parameters_too (one_further a))))))

    pub function_declaration_too : {i : ℕ} (at : Place) → Alikes (suc i) g h → Alike w true i (F.function_declaration g at) (F.function_declaration h at)
    unfolding F.function_declaration
    function_declaration_too at a = bind_behind w (expects w Marks.function_word) (λ _. taking w (numbers w at
        (bind_behind w declared_name_too (λ name. taking w (function_behind_too at (Some name) parameters_too (one_further (one_further a)))))))

    -- ---- 11.14

    pub more_commas_too : {i : ℕ} (allows_in : Bool) → Alikes (suc i) g h → RuleAlike w i (P.more_commas g allows_in) (P.more_commas h allows_in)
    more_commas_too allows_in a = record {
      at = λ k le m n again left. takes w Marks.comma (λ _. bind w (taking w ((further (omega (arith, le)) a).assignment allows_in)) (λ right.
          bind w (search steps) (λ both. again both))) (gives w left);
    }

    pub expression_by_too : {i : ℕ} (allows_in : Bool) {first first' : Reading Expr} → Alike w true i first first' → Alikes (suc i) g h → Alike w true i (P.expression_by g first allows_in) (P.expression_by h first' allows_in)
    unfolding P.expression_by
    expression_by_too allows_in f a = bind_behind w f (λ left. repeats w (more_commas_too allows_in (one_further a)) left)

    pub expression_too : {i : ℕ} → Alikes i g h → Alike w true i (P.expression g) (P.expression h)
    expression_too a = expression_by_too true (a.assignment true) (one_further a)

    pub more_host_arguments_too : {i : ℕ} (at : Place) → Alikes i g h → RuleAlike w i (P.more_host_arguments g at) (P.more_host_arguments h at)
    more_host_arguments_too at a = record {
      at = λ k le m n again so_far. bind w (shape_too at feature.ResidualForm P.comma_or_end) (λ follows.
          chooses w follows (taking w (bind_behind w ((further le a).assignment true) (λ x. again _))) (gives w so_far));
    }

    residual_too : {i : ℕ} (at : Place) → Alikes i g h → Alike w false i (P.residual_behind g at) (P.residual_behind h at)
    unfolding P.residual_behind
    residual_too at a = bind w (shape_too at feature.ResidualForm Marks.left_parenthesis) (λ _. opens w (bind w (shape_too at feature.ResidualForm Marks.kind_string) (λ kind.
        bind w (shape_too at feature.ResidualForm Marks.comma) (λ _. bind w (shape_too at feature.ResidualForm Marks.string) (λ name.
        bind w (repeats w (more_host_arguments_too at a) []) (λ args. search steps))))))

    -- ---- primary expressions

    named_too : {i : ℕ} (at : Place) (text : List ℕ) → Alikes i g h → Alike w false i (P.named_behind g at text) (P.named_behind h at text)
    named_too at text a = chooses w (Marks.is_abstract text) (abstract_too at) (chooses w (Marks.is_residual text) (residual_too at a) (name_too at text))

    pub more_items_too : {i : ℕ} → Alikes i g h → RuleAlike w i (P.more_elements g) (P.more_elements h)
    more_items_too a = record {
      at = λ k le m n again so_far. takes w Marks.right_bracket (λ _. gives w so_far) (takes w Marks.comma (λ _. again _)
          (taking w (bind_behind w ((further le a).assignment true) (λ x. takes w Marks.comma (λ _. one_later w (again _)) (bind w (taking w (expects w Marks.right_bracket)) (λ _. search steps))))));
    }

    array_too : {i : ℕ} (at : Place) → Alikes i g h → Alike w false i (P.array_behind g at) (P.array_behind h at)
    unfolding P.array_behind
    array_too at a = bind w (opens w (repeats w (more_items_too a) [])) (λ items. search steps)

    valued_too : {i : ℕ} → Alikes (suc i) g h → Alike w true i (P.valued g) (P.valued h)
    valued_too a = bind w places (λ at. bind_behind w (expects w Marks.property_name) (λ key. bind w (taking w (expects w Marks.colon)) (λ _. bind w (taking w (a.assignment true)) (λ x. gives w (field.Value at key x)))))

    getter_too : {i : ℕ} → Alikes (suc i) g h → Alike w true i (P.getter g) (P.getter h)
    getter_too a = bind w places (λ start. bind_behind w (expects w Marks.identifier) (λ _. bind w places (λ at. bind w (taking w (expects w Marks.property_name)) (λ key.
        bind w (taking w (accessor_too start (no_parameter_too g) (one_further a))) (λ f. gives w (field.Getter at key f))))))

    setter_too : {i : ℕ} → Alikes (suc i) g h → Alike w true i (P.setter g) (P.setter h)
    setter_too a = bind w places (λ start. bind_behind w (expects w Marks.identifier) (λ _. bind w places (λ at. bind w (taking w (expects w Marks.property_name)) (λ key.
        bind w (taking w (accessor_too start (one_parameter_too g) (one_further a))) (λ f. gives w (field.Setter at key f))))))

    property_too : {i : ℕ} → Alikes (suc i) g h → Alike w true i (P.property g) (P.property h)
    unfolding P.property
    property_too a = bind w (sees_too (Marks.accessor_word Marks.get_word)) (λ gets. bind w (sees_too (Marks.accessor_word Marks.set_word)) (λ sets. bind w (second_too Marks.property_name) (λ named.
        chooses w (gets && named) (getter_too a) (chooses w (sets && named) (setter_too a) (valued_too a)))))

    pub more_fields_too : {i : ℕ} → Alikes (suc i) g h → RuleAlike w i (P.more_fields g) (P.more_fields h)
    more_fields_too a = record {
      at = λ k le m n again so_far. takes w Marks.right_brace (λ _. gives w so_far) (taking w (bind_behind w (property_too (further (omega (arith, le)) a)) (λ x.
          takes w Marks.comma (λ _. one_later w (again _)) (bind w (taking w (expects w Marks.right_brace)) (λ _. search steps)))));
    }

    object_too : {i : ℕ} (at : Place) → Alikes (suc i) g h → Alike w false i (P.object_behind g at) (P.object_behind h at)
    unfolding P.object_behind
    object_too at a = bind w (repeats w (more_fields_too a) []) (λ fields. search steps)

    pub group_too : {i : ℕ} → Alikes i g h → Alike w true i (P.group_behind g) (P.group_behind h)
    unfolding P.group_behind
    group_too a = opens w (bind_behind w (expression_too a) (λ x. bind w (taking w (expects w Marks.right_parenthesis)) (λ _. gives w x)))

    function_here_too : {i : ℕ} (at : Place) → Alikes (suc i) g h → Alike w true i (P.function_here g at) (P.function_here h at)
    function_here_too at a = bind_behind w (function_expression_too at a) (λ f. search steps)

    enclosed_too : {i : ℕ} (at : Place) {new new' : Reading Expr} → Alike w false (suc i) new new' → Alikes (suc i) g h → Alike w true i (P.enclosed_or_new g at new) (P.enclosed_or_new h at new')
    unfolding P.enclosed_or_new
    enclosed_too at n a = takes w Marks.left_bracket (λ _. array_too at a) (takes w Marks.left_brace (λ _. object_too at (one_further a)) (
        takes w Marks.left_parenthesis (λ _. taking w (group_too a)) (new_or_none_too at n)))

    primary_too : {i : ℕ} {new new' : Reading Expr} → Alike w false (suc i) new new' → Alikes (suc i) g h → Alike w true i (P.primary_or_new g new) (P.primary_or_new h new')
    primary_too n a = bind w places (λ at. bind w (sees_too Marks.function_word) (λ function. chooses w function (function_here_too at a) (
        takes w Marks.literal (λ f. finishes w at f) (takes w Marks.identifier (λ text. named_too at text a) (enclosed_too at n a)))))

    -- ---- members, `new`, calls

    pub more_arguments_too : {i : ℕ} → Alikes i g h → RuleAlike w i (P.more_arguments g) (P.more_arguments h)
    more_arguments_too a = record {
      at = λ k le m n again so_far. taking w (bind_behind w ((further le a).assignment true) (λ x.
          takes w Marks.comma (λ _. one_later w (again _)) (bind w (taking w (expects w Marks.right_parenthesis)) (λ _. search steps))));
    }

    arguments_too : {i : ℕ} → Alikes i g h → Alike w false i (P.arguments_behind g) (P.arguments_behind h)
    unfolding P.arguments_behind
    arguments_too a = opens w (takes w Marks.right_parenthesis (λ _. gives w []) (repeats w (more_arguments_too a) []))

    new_too : {i : ℕ} (at : Place) → Alikes i g h → Alike w false i (P.new_behind g at) (P.new_behind h at)
    unfolding P.new_behind
    new_too at a = bind w (taking w a.member) (λ callee. bind w (takes w Marks.left_parenthesis (λ _. arguments_too (one_further a)) (gives w [])) (λ args. search steps))

    operand_too : {i : ℕ} → Alikes (suc i) g h → Alike w true i (P.operand g) (P.operand h)
    operand_too a = bind w places (λ at. primary_too (new_too at a) a)

    index_too : {i : ℕ} (object : Expr) → Alikes i g h → Alike w false i (P.index_behind g object) (P.index_behind h object)
    index_too object a = bind w (opens w (bind w (taking w (expression_too a)) (λ x. bind w (taking w (expects w Marks.right_bracket)) (λ _. gives w x)))) (λ key. search steps)

    call_too : {i : ℕ} (callee : Expr) → Alikes i g h → Alike w false i (P.call_behind g callee) (P.call_behind h callee)
    call_too callee a = bind w (arguments_too a) (λ args. search steps)

    pub more_members_too : {i : ℕ} (calls : Bool) → Alikes (suc i) g h → RuleAlike w i (P.more_members g calls) (P.more_members h calls)
    more_members_too calls a = record {
      at = λ k le m n again left.
          let b = further (omega (arith, le)) a in
          bind w (sees_too Marks.left_parenthesis) (λ opened. takes w Marks.dot (λ _. bind w (dotted_too g left) (λ x. again x)) (takes w Marks.left_bracket (λ _. bind w (index_too left b) (λ x. again x)) (
          chooses w (calls && opened) (taking w (bind_behind w (expects w Marks.left_parenthesis) (λ _. bind w (call_too left b) (λ x. again x)))) (gives w left))));
    }

    pub member_too : {i : ℕ} → Alikes (suc i) g h → Alike w true i (P.member g) (P.member h)
    unfolding P.member
    member_too a = bind_behind w (operand_too a) (λ x. repeats w (more_members_too false (one_further a)) x)

    pub left_hand_side_too : {i : ℕ} → Alikes (suc i) g h → Alike w true i (P.left_hand_side g) (P.left_hand_side h)
    unfolding P.left_hand_side
    left_hand_side_too a = bind_behind w (operand_too a) (λ x. repeats w (more_members_too true (one_further a)) x)
