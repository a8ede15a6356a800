-- Listings of runs that agree compute to the same, and those of runs that don't differ at a place that is looked at.
use Rattle.std.proofs.Common.{◌≡◌, ℕ, nat_eq, List, [], ◌∷◌, length, refl, Bool, true, false}
use Rattle.std.specs.Prelude.{codes, unsigned_abs}
use Rattle.js_value.specs.Conversions.{is_same_text, is_same_value}
use Rattle.js_value.specs.declared.primitive.Primitive.TheVariants as primitive
use Rattle.js_tree.specs.Early.{is_closed}
use Rattle.js_tree.specs.Mentions.{free_names}
use Rattle.js_tree.specs.declared.expression.ExprForm.TheFolds.{fold_out-ExprForm, fold_out-Expr}
use Rattle.js_tree.specs.declared.expression.ExprForm.TheVariants as e
use Rattle.js_tree.specs.declared.statement.StmtForm.TheFolds.{fold_out-StmtForm, fold_out-Stmt}
use Rattle.js_tree.specs.declared.statement.StmtForm.TheVariants as s
use Rattle.plain_heap.specs.Heap.{resolve}
use Rattle.plain_heap.specs.Values.{Value, Prim}
use Rattle.js_machine.specs.Machine.Listed.{Listed, ListedValue, NewObject, RealmObject, ListedProperty, DataLine, Row, RealmRow, queue_of, listing_by}
use Rattle.js_machine.specs.Machine.Realm.{realm}
use Rattle.js_machine.specs.Machine.Walks.{HostEvent}
use Rattle.machine_cases.specs.AgreementCases.{AgreementCases, closed_script, named_alike, with_input, call_inside}
use Rattle.js_machine.specs.Machine.Expressions.{Return}

the_closed : is_closed closed_script ≡ true
unfolding is_closed
the_closed = simp (fold_out-Expr, fold_out-ExprForm, fold_out-Stmt, fold_out-StmtForm, e.outs-Literal, s.outs-Var)

the_name : is_closed named_alike ≡ true
unfolding is_closed
the_name = simp (fold_out-Expr, fold_out-ExprForm, fold_out-Stmt, fold_out-StmtForm, e.outs-Member, e.outs-Name, s.outs-Eval)

the_input : is_closed with_input ≡ false
unfolding is_closed
the_input = simp (fold_out-Expr, fold_out-ExprForm, fold_out-Stmt, fold_out-StmtForm, e.outs-Input, s.outs-Var)

the_call : is_closed call_inside ≡ false
unfolding is_closed
the_call = simp (fold_out-Expr, fold_out-ExprForm, fold_out-Stmt, fold_out-StmtForm, e.outs-HostCall, s.outs-FuncDecl, s.outs-Return)

-- ---- what differs

-- what are told apart aren't equal
pub apart : {A : Type 0} {a b : A} (f : A → Bool) → a ≡ b → f a ≡ true → f b ≡ false → ⊥
apart f same here there = absurd (cc)

abbrev pub number_in : Value → ℕ
number_in (Prim (primitive.Number n)) = unsigned_abs n
number_in v = 0

abbrev is_truth : Value → Bool
is_truth (Prim (primitive.Boolean b)) = b
is_truth v = false

abbrev pub listed_number : ListedValue → ℕ
listed_number (Listed v) = number_in v
listed_number (NewObject n) = n
listed_number (RealmObject o) = o

abbrev has_answer : ℕ → List HostEvent → Bool
has_answer n [] = false
has_answer n (c ∷ calls) = nat_eq (number_in c.answer) n

abbrev is_thrown : List HostEvent → Bool
is_thrown (c ∷ calls) = is_truth c.threw
is_thrown [] = false

abbrev has_arguments : ℕ → List HostEvent → Bool
has_arguments n [] = false
has_arguments n (c ∷ calls) = nat_eq (length c.arguments) n

-- the first new line of the first row, and the second one
abbrev Lines : Type 0
Lines = List ListedProperty

abbrev new_lines : List (Row) → Lines
new_lines (RealmRow o fixed gone others new ∷ rows) = new
new_lines rows = []

abbrev value_is : ℕ → Lines → Bool
value_is n (DataLine key v w e c ∷ lines) = nat_eq (listed_number v) n
value_is n lines = false

abbrev key_is : List ℕ → Lines → Bool
key_is t (DataLine key v w e c ∷ lines) = is_same_text key t
key_is t lines = false

abbrev is_deletable : Lines → Bool
is_deletable (DataLine key v w e c ∷ lines) = c
is_deletable lines = false

abbrev behind : Lines → Lines
behind [] = []
behind (line ∷ lines) = lines

-- a test that holds doesn't fail
never : {b : Bool} → b ≡ true → b ≡ false → ⊥
never holds fails = absurd (cc)

pub agreement_cases : AgreementCases
unfolding is_same_value resolve queue_of listing_by realm free_names
agreement_cases = record {
  nothing_done = (refl, tt, refl);
  other_numbers = (refl, tt, refl);
  same_calls = (refl, tt, refl);
  same_number_thrown = (refl, refl, refl);
  other_number_thrown = (refl, refl, refl);
  realm_object_thrown = (refl, refl, refl);
  answer_differs = λ a. apart (has_answer 6) a.0 refl refl;
  mark_differs = λ a. apart is_thrown a.0 refl refl;
  argument_differs = λ a. apart (has_arguments 1) a.0 refl refl;
  call_more = λ a. apart (has_answer 5) a.0 refl refl;
  order_of_calls = λ a. apart (has_answer 6) a.0 refl refl;
  thrown_and_normal = λ a. a.1;
  normal_and_thrown = λ a. a.1;
  thrown_differs = λ a. apart (λ v. nat_eq (listed_number v) 6) a.1 refl refl;
  realm_objects_differ = λ a. apart (λ v. nat_eq (listed_number v) 3) a.1 refl refl;
  variables_differ = λ a. apart (λ rows. value_is 2 (new_lines rows)) a.2 refl refl;
  value_differs = λ a. apart (λ rows. value_is 4 (new_lines rows)) a.2 refl refl;
  attribute_differs = λ a. apart (λ rows. is_deletable (new_lines rows)) a.2 refl refl;
  order_differs = λ a. apart (λ rows. key_is (codes "y") (new_lines rows)) a.2 refl refl;
  sharing_differs = λ a. apart (λ rows. value_is 2 (behind (new_lines rows))) a.2 refl refl;
  left_alike = λ a. a;
  spent_alike = λ a. a;
  is_closed_script = the_closed;
  is_closed_name = the_name;
  has_input = λ c. never c the_input;
  has_call_inside = λ c. never c the_call;
}
