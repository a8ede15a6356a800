use Rattle.std.proofs.Common.{◌≡◌, ap, ◌∙◌}
use Rattle.std.specs.Prelude.{Option}
use Rattle.std.specs.Option.{option_map, option_or}
use Rattle.js_value.specs.declared.operator.BinaryOp.{BinaryOp}
use Rattle.js_tree.specs.declared.expression.LogicOp.{LogicOp}
use Rattle.js_grammar.specs.Climbing.{Found}
use Rattle.token_marks.specs.declared.operators.Level.{Level}
use Rattle.token_marks.specs.declared.operators.Level.TheVariants as level
use Rattle.token_marks.specs.declared.operators.Operator.TheVariants as operator
use Rattle.token_marks.specs.Levels.{found_of}
use Rattle.token_marks.proofs.operators.+tight.Goals as goal

by_logic : (l : Level) (r a b : Option Found) (o p : Option LogicOp) → r ≡ option_or a (option_map (λ x. found_of (operator.Logic x, l)) o) → a ≡ b → o ≡ p
    → r ≡ option_or b (option_map (λ x. found_of (operator.Logic x, l)) p)
by_logic l r a b o p e f g =
    e ∙ ap (λ x. option_or x (option_map (λ y. found_of (operator.Logic y, l)) o)) f ∙ ap (λ x. option_or b (option_map (λ y. found_of (operator.Logic y, l)) x)) g

by_binary : (l : Level) (r a b : Option Found) (o p : Option BinaryOp) → r ≡ option_or a (option_map (λ x. found_of (operator.Binary x, l)) o) → a ≡ b → o ≡ p
    → r ≡ option_or b (option_map (λ x. found_of (operator.Binary x, l)) p)
by_binary l r a b o p e f g =
    e ∙ ap (λ x. option_or x (option_map (λ y. found_of (operator.Binary y, l)) o)) f ∙ ap (λ x. option_or b (option_map (λ y. found_of (operator.Binary y, l)) x)) g

pub returns-in-Any : goal.returns-in-Any
returns-in-Any t c = rw c.in-Any.is (by_logic level.Or _ _ _ _ _ c.logic_or.ensures c.tight-tighter.ensures c.or.ensures)

pub returns-in-Or : goal.returns-in-Or
returns-in-Or t c = rw c.in-Or.is (by_logic level.And _ _ _ _ _ c.logic_or-in-Or.ensures c.tight-tighter-in-Or.ensures c.and.ensures)

pub returns-in-And : goal.returns-in-And
returns-in-And t c = rw c.in-And.is (by_binary level.BitOr _ _ _ _ _ c.binary_or.ensures c.tight-tighter-in-And.ensures c.bit_or.ensures)

pub returns-in-BitOr : goal.returns-in-BitOr
returns-in-BitOr t c = rw c.in-BitOr.is (by_binary level.BitXor _ _ _ _ _ c.binary_or-in-BitOr.ensures c.tight-tighter-in-BitOr.ensures c.bit_xor.ensures)

pub returns-in-BitXor : goal.returns-in-BitXor
returns-in-BitXor t c = rw c.in-BitXor.is (by_binary level.BitAnd _ _ _ _ _ c.binary_or-in-BitXor.ensures c.tight-tighter-in-BitXor.ensures c.bit_and.ensures)

pub returns-in-BitAnd : goal.returns-in-BitAnd
returns-in-BitAnd t c = rw c.in-BitAnd.is (by_binary level.Equality _ _ _ _ _ c.binary_or-in-BitAnd.ensures c.tight-tighter-in-BitAnd.ensures c.equality.ensures)

pub returns-in-Equality : goal.returns-in-Equality
returns-in-Equality t c = rw c.in-Equality.is (by_binary level.Relational _ _ _ _ _ c.binary_or-in-Equality.ensures c.tight-tighter-in-Equality.ensures c.relational.ensures)

pub returns-in-Relational : goal.returns-in-Relational
returns-in-Relational t c = rw c.in-Relational.is (by_binary level.Shift _ _ _ _ _ c.binary_or-in-Relational.ensures c.tight-tighter-in-Relational.ensures c.shift.ensures)

pub returns-in-Shift : goal.returns-in-Shift
returns-in-Shift t c = rw c.in-Shift.is (by_binary level.Additive _ _ _ _ _ c.binary_or-in-Shift.ensures c.tight-tighter-in-Shift.ensures c.additive.ensures)
