-- The heap and the trees of the examples.
use Rattle.std.proofs.Common.{inl, inr, ℕ, suc, true, false, [], ◌∷◌, refl}
use Rattle.std.specs.Prelude.{codes}
use Rattle.js_value.specs.declared.primitive.Primitive.{Primitive}
use Rattle.js_value.specs.declared.primitive.Primitive.TheVariants as primitive
use Rattle.js_tree.specs.Trees.{expr, name}
use Rattle.js_tree.specs.declared.expression.ExprForm.TheVariants as e
use Rattle.plain_heap.specs.Heap.{resolve, data_property}
use Rattle.plain_heap.specs.Methods as methods
use Rattle.plain_heap.specs.Values.{Prim, Object, null, number, text}
use Rattle.js_machine.specs.Machine.Levels.{Setting}
use Rattle.js_machine.specs.Machine.ObjectBuiltins.{create, define_property, prevent_extensions}
use Rattle.js_machine.specs.Machine.Realm.{realm, builtin_rule}
use Rattle.js_machine.specs.Machine.Walks.{World}
use Rattle.residual_runs.specs.Statements.{Defines, Puts, evaluate}
use Rattle.residual_runs.specs.Runs.{Runs}
use Rattle.residual_runs.proofs.Statements.{argument, no_arguments, literal_runs, temporary_runs}
use Rattle.residual_builtins.specs.Calls.{CallsBuiltin, Spells, HoldsBuiltin}
use Rattle.residual_builtins.specs.Examples.{Examples, plain, array, example, context, before, descriptor, create_call, define_call, fix_call, temporaries}

puts : Puts example 41 (codes "x") (number 7) (record plain { properties = (codes "x", data_property (number 7) true true true) ∷ [] })
unfolding realm methods.put methods.can_put methods.get_property methods.define methods.define_plain
puts = record { descriptor = methods.data_fields (number 7) true true true; put = refl; defines = record { named = refl; before = plain; there = refl; length = inl refl; defined = refl } }

raises : Puts example 42 methods.length_key (number 2) (record array { properties = (methods.length_key, data_property (number 2) true false false) ∷ [] })
unfolding realm methods.put methods.can_put methods.get_property methods.define methods.define_plain methods.define_array
raises = record { descriptor = methods.value_field (number 2); put = refl; defines = record { named = refl; before = array; there = refl; length = inr tt; defined = refl } }

spells : Spells example 43 descriptor
unfolding realm methods.has_property methods.get methods.get_property
spells = record {
  value = (refl, refl, refl);
  writable = refl;
  enumerable = (refl, refl, refl);
  configurable = refl;
  get = refl;
  set = refl;
  getter = tt;
  setter = tt;
  sort = refl;
}

defines : Defines example 41 (codes "x") descriptor (record plain { properties = (codes "x", data_property (number 7) false true false) ∷ [] })
unfolding realm methods.define methods.define_plain
defines = record { named = refl; before = plain; there = refl; length = inl refl; defined = refl }

held_create : HoldsBuiltin temporaries example (name 0 (codes "create")) create
unfolding realm resolve builtin_rule
held_create = record { name = codes "create"; is_name = e.outs-Name (codes "create"); in_cell = 0; bound = refl; object = 18; held = refl; state = _; there = refl; number = 18; class = refl; does = refl }

held_define : HoldsBuiltin temporaries example (name 0 (codes "define")) define_property
unfolding realm resolve builtin_rule
held_define = record { name = codes "define"; is_name = e.outs-Name (codes "define"); in_cell = 1; bound = refl; object = 21; held = refl; state = _; there = refl; number = 21; class = refl; does = refl }

held_fix : HoldsBuiltin temporaries example (name 0 (codes "fix")) prevent_extensions
unfolding realm resolve builtin_rule
held_fix = record { name = codes "fix"; is_name = e.outs-Name (codes "fix"); in_cell = 2; bound = refl; object = 23; held = refl; state = _; there = refl; number = 23; class = refl; does = refl }

module _ (set : Setting) (calls : ℕ) (w : World) (d : ℕ) where
  a_runs : Runs w (evaluate set (suc calls) context (suc d) (name 0 (codes "a"))) before 1 (Object 41) before
  unfolding resolve
  a_runs = temporary_runs set (suc calls) context w d (name 0 (codes "a")) (codes "a") 3 (Object 41) before (e.outs-Name (codes "a")) refl refl

  d_runs : Runs w (evaluate set (suc calls) context (suc d) (name 0 (codes "d"))) before 1 (Object 43) before
  unfolding resolve
  d_runs = temporary_runs set (suc calls) context w d (name 0 (codes "d")) (codes "d") 4 (Object 43) before (e.outs-Name (codes "d")) refl refl

  literal : (p : Primitive) → Runs w (evaluate set (suc calls) context (suc d) (expr 0 (e.Literal p))) before 1 (Prim p) before
  literal p = literal_runs set (suc calls) context w d (expr 0 (e.Literal p)) p before (e.outs-Literal p)

  creating : CallsBuiltin set calls context w d create_call create before (null ∷ []) 1
  creating = record {
    callee = name 0 (codes "create");
    arguments = expr 0 (e.Literal primitive.Null) ∷ [];
    is_call = e.outs-Call (name 0 (codes "create")) (expr 0 (e.Literal primitive.Null) ∷ []);
    holds = held_create;
    run = argument set (suc calls) context w (suc d) (expr 0 (e.Literal primitive.Null)) [] before before before 1 0 _ _ (literal primitive.Null) (no_arguments set (suc calls) context w (suc d) before);
  }

  defining : CallsBuiltin set calls context w d define_call define_property before (Object 41 ∷ text (codes "x") ∷ Object 43 ∷ []) 3
  defining = record {
    callee = name 0 (codes "define");
    arguments = name 0 (codes "a") ∷ expr 0 (e.Literal (primitive.Text (codes "x"))) ∷ name 0 (codes "d") ∷ [];
    is_call = e.outs-Call (name 0 (codes "define")) (name 0 (codes "a") ∷ expr 0 (e.Literal (primitive.Text (codes "x"))) ∷ name 0 (codes "d") ∷ []);
    holds = held_define;
    run =
        argument set (suc calls) context w (suc d) (name 0 (codes "a")) (expr 0 (e.Literal (primitive.Text (codes "x"))) ∷ name 0 (codes "d") ∷ []) before before before 1 2 _ _ a_runs
        (argument set (suc calls) context w (suc d) (expr 0 (e.Literal (primitive.Text (codes "x")))) (name 0 (codes "d") ∷ []) before before before 1 1 _ _ (literal (primitive.Text (codes "x")))
        (argument set (suc calls) context w (suc d) (name 0 (codes "d")) [] before before before 1 0 _ _ d_runs (no_arguments set (suc calls) context w (suc d) before)));
  }

  fixing : CallsBuiltin set calls context w d fix_call prevent_extensions before (Object 41 ∷ []) 1
  fixing = record {
    callee = name 0 (codes "fix");
    arguments = name 0 (codes "a") ∷ [];
    is_call = e.outs-Call (name 0 (codes "fix")) (name 0 (codes "a") ∷ []);
    holds = held_fix;
    run = argument set (suc calls) context w (suc d) (name 0 (codes "a")) [] before before before 1 0 _ _ a_runs (no_arguments set (suc calls) context w (suc d) before);
  }

pub examples : Examples
examples = record { puts = puts; raises = raises; spells = spells; defines = defines; creating = creating; defining = defining; fixing = fixing }
