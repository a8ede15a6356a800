-- The free names of the code compute, and with them the listings.
use Rattle.std.proofs.Common.{◌≡◌, ◌∙◌, ℕ, nat_eq, List, [], ◌∷◌, ap, length, refl, sym, Bool, false}
use Rattle.std.specs.Prelude.{codes}
use Rattle.std.specs.List.{flat_map, list_any}
use Rattle.js_value.specs.Conversions.{is_same_value}
use Rattle.js_tree.specs.Mentions.{Inside, Reads, distinct, free_names, hoisted_functions, hoisted_vars, insides, mentioned_name, nth}
use Rattle.js_tree.specs.Refusals.{place}
use Rattle.js_tree.specs.declared.expression.ExprForm.TheVariants as e
use Rattle.js_tree.specs.declared.statement.StmtForm.TheFolds.{fold_out-Stmt, fold_out-StmtForm}
use Rattle.js_tree.specs.declared.statement.StmtForm.TheVariants as s
use Rattle.js_tree.proofs.EarlyCases.{expr_first, form_first}
use Rattle.plain_heap.specs.Heap.{Heap, resolve}
use Rattle.js_machine.specs.Machine.Codes.{code, of_functions}
use Rattle.js_machine.specs.Machine.Listed.{free_in, CellRow, FreeNames, Row, queue_of, listing_by}
use Rattle.js_machine.specs.Machine.Realm.{realm}
use Rattle.js_machine.specs.Machine.Walks.{Normally}
use Rattle.machine_cases.specs.CellCases.{CellCases, reader, one_cell, one_cell_later, two_cells}
use Rattle.machine_cases.proofs.AgreementCases.{apart, listed_number}
use Rattle.js_machine.specs.Machine.Expressions.{Return}

abbrev inside : List Inside
inside = ([], Reads (place 21) (codes "n") ∷ []) ∷ []

inside_is : insides (of_functions reader) ≡ inside
unfolding hoisted_vars hoisted_functions
inside_is = simp (fold_out-Stmt, fold_out-StmtForm, expr_first, form_first, e.outs-Name, s.outs-Return)

abbrev names_by : List Inside → FreeNames
names_by all f = distinct (flat_map mentioned_name (nth 0 all f).1)

names_are : free_in reader ≡ names_by inside
unfolding free_names
names_are = ap names_by inside_is

-- whatever the code is
abbrev rows : FreeNames → Heap → List Row
rows free h = listing_by (code reader) free h Normally

by_names : (h : Heap) → rows (free_in reader) h ≡ rows (names_by inside) h
by_names h = ap (λ free. rows free h) names_are

the_same : rows (names_by inside) one_cell_later ≡ rows (names_by inside) (one_cell 1)
unfolding is_same_value resolve queue_of listing_by realm
the_same = refl

-- ---- what differs

abbrev is_cell_with : ℕ → Row → Bool
is_cell_with n (CellRow k v) = nat_eq (listed_number v) n
is_cell_with n row = false

value_differs : rows (names_by inside) (one_cell 2) ≡ rows (names_by inside) (one_cell 1) → ⊥
unfolding is_same_value resolve queue_of listing_by realm
value_differs same = apart (λ rows. list_any (is_cell_with 2) rows) same refl refl

-- the two cells have two rows
count_differs : rows (names_by inside) two_cells ≡ rows (names_by inside) (one_cell 1) → ⊥
unfolding is_same_value resolve queue_of listing_by realm
count_differs same = apart (λ rows. nat_eq (length rows) 7) same refl refl

pub cell_cases : CellCases
cell_cases = record {
  same_cell = (refl, tt, by_names one_cell_later ∙ the_same ∙ sym (by_names (one_cell 1)));
  another_value = λ a. value_differs (sym (by_names (one_cell 2)) ∙ a.2 ∙ by_names (one_cell 1));
  own_cells = λ a. count_differs (sym (by_names two_cells) ∙ a.2 ∙ by_names (one_cell 1));
}
