-- The types of what symbols mean, and that their numbers are in the range of the profile.
use Rattle.std.proofs.Common.{◌≡◌, refl, ap, sym, subst, ℕ, Bool, true, false, List, arith}
use Rattle.std.specs.Prelude.{if◌then◌else◌, bit_and, bit_or, bit_xor, ◌||◌, ◌++◌, not, nat_le, length, slice_get, ℤ, Option, Some, None, Result, Ok, Err}
use Rattle.std.specs.Option.{option_map}
use Rattle.js_value.specs.Conversions.{◌>>=◌, to_number, to_boolean, to_text}
use Rattle.js_value.specs.Operators as J
use Rattle.js_value.specs.Operators.{binary_row, unary_row}
use Rattle.js_value.specs.Numbers.{added, negated}
use Rattle.js_value.specs.declared.operator.BinaryOp.{BinaryOp}
use Rattle.js_value.specs.declared.operator.BinaryOp.TheVariants as binary
use Rattle.js_value.specs.declared.operator.UnaryOp.{UnaryOp}
use Rattle.js_value.specs.declared.operator.UnaryOp.TheVariants as unary
use Rattle.js_value.specs.declared.primitive.Kind.{Kind}
use Rattle.js_value.specs.declared.primitive.Kind.TheVariants as kind
use Rattle.js_value.specs.declared.primitive.Primitive.{Primitive}
use Rattle.js_value.specs.declared.primitive.Primitive.TheVariants as primitive
use Rattle.js_value.specs.declared.why.Why.{Why}
use Rattle.js_value.specs.declared.why.Why.TheVariants.{TextLength}
use Rattle.plain_heap.specs.Values.{Symbol, Input, Answer, Threw, Unary, Binary, Operand, Known, Unknown}
use Rattle.plain_heap.specs.Heap.{lookup}
use Rattle.js_machine.specs.Machine.Operators as P
use Rattle.js_machine.specs.Machine.Walks as world
use Rattle.js_machine.specs.Machine.Walks.{World, is_of_kind}
use Rattle.plain_heap.proofs.Properties.{some_is}
use Rattle.run_laws.specs.Symbols.{meant, meant_operand, of_kind, to_option, by_one, by_two, gives_symbol}

pub none_is : {A : Type 0} {B : Type 0} (a : A) → None ≡ Some a → B
none_is a e = grind (arith, e)

-- ---- inputs and answers

typed_kind : (k : Kind) (p : Primitive) → is_of_kind k p ≡ true → P.kind_type k ≡ P.primitive_type p
typed_kind kind.Number (primitive.Number n) e = refl
typed_kind kind.Boolean (primitive.Boolean b) e = refl
typed_kind kind.Text (primitive.Text t) e = refl
typed_kind _ _ e = grind (arith, e)

pub of_kind_is : (k : Kind) (o : Option Primitive) (p : Primitive) → of_kind k o ≡ Some p → is_of_kind k p ≡ true
of_kind_is k None p e = none_is p e
of_kind_is k (Some q) p e = by_test (is_of_kind k q) refl e
  where
    by_test : (b : Bool) → is_of_kind k q ≡ b → (if b then Some q else None) ≡ Some p → is_of_kind k p ≡ true
    by_test true is e = subst (λ p. is_of_kind k p ≡ true) (some_is q p e) is
    by_test false is e = none_is p e

given_kind : (k : Kind) (o : Option Primitive) (p : Primitive) → of_kind k o ≡ Some p → P.kind_type k ≡ P.primitive_type p
given_kind k o p e = typed_kind k p (of_kind_is k o p e)

-- ---- what operators give

module _ (p : Primitive) where
  number_type : (r : Result ℤ Why) → to_option (◌>>=◌ r (λ n. Ok (primitive.Number n))) ≡ Some p → P.primitive_type p ≡ P.NumberType
  number_type (Ok n) e = ap P.primitive_type (sym (some_is _ p e))
  number_type (Err why) e = none_is p e

  of_number_type : (operation : ℤ → Result ℤ Why) (r : Result ℤ Why) → to_option (◌>>=◌ r (λ n. ◌>>=◌ (operation n) (λ n. Ok (primitive.Number n)))) ≡ Some p → P.primitive_type p ≡ P.NumberType
  of_number_type operation (Ok n) e = number_type (operation n) e
  of_number_type operation (Err why) e = none_is p e

  numeric_type : (operation : ℤ → ℤ → Result ℤ Why) (r q : Result ℤ Why)
      → to_option (◌>>=◌ r (λ n. ◌>>=◌ q (λ k. ◌>>=◌ (operation n k) (λ n. Ok (primitive.Number n))))) ≡ Some p → P.primitive_type p ≡ P.NumberType
  numeric_type operation (Ok n) q e = of_number_type (operation n) q e
  numeric_type operation (Err why) q e = none_is p e

  truth_type : (b : Bool) → to_option (J.truth b) ≡ Some p → P.primitive_type p ≡ P.BooleanType
  truth_type b e = ap P.primitive_type (sym (some_is _ p e))

  telling_type : (r : Result Bool Why) → to_option (◌>>=◌ r (λ t. J.truth t)) ≡ Some p → P.primitive_type p ≡ P.BooleanType
  telling_type (Ok b) e = truth_type b e
  telling_type (Err why) e = none_is p e

  joined_type : (b : Bool) (t : List ℕ) → to_option (if b then Ok (primitive.Text t) else Err TextLength) ≡ Some p → P.primitive_type p ≡ P.StringType
  joined_type true t e = ap P.primitive_type (sym (some_is _ p e))
  joined_type false t e = none_is p e

  add_type : (t : Bool) (a b : Primitive) → to_option (if t then J.joined (to_text a) (to_text b) else J.numeric added a b) ≡ Some p → P.primitive_type p ≡ P.binary_type binary.Add t
  add_type true a b e = joined_type (nat_le (length (to_text a ++ to_text b)) J.greatest_length) (to_text a ++ to_text b) e
  add_type false a b e = numeric_type added (to_number a) (to_number b) e

  pub one_type : (op : UnaryOp) (a : Primitive) → gives_symbol op ≡ true → by_one (unary_row op) (Some a) ≡ Some p → P.primitive_type p ≡ P.unary_type op
  unfolding unary_row
  one_type unary.Plus a g e = of_number_type (λ n. Ok n) (to_number a) e
  one_type unary.Minus a g e = of_number_type negated (to_number a) e
  one_type unary.BitNot a g e = of_number_type J.complement (to_number a) e
  one_type unary.Not a g e = truth_type (not (to_boolean a)) e
  one_type unary.TypeOf a g e = grind (arith, g)
  one_type unary.Void a g e = grind (arith, g)
  one_type unary.Delete a g e = grind (arith, g)

  pub two_type : (op : BinaryOp) (a b : Primitive) → by_two (binary_row op) (Some a) (Some b) ≡ Some p → P.primitive_type p ≡ P.binary_type op (J.is_text a || J.is_text b)
  unfolding binary_row J.number_row J.truth_row J.add
  two_type binary.Add a b e = add_type (J.is_text a || J.is_text b) a b e
  two_type binary.Sub a b e = numeric_type _ (to_number a) (to_number b) e
  two_type binary.Mul a b e = numeric_type _ (to_number a) (to_number b) e
  two_type binary.Div a b e = numeric_type _ (to_number a) (to_number b) e
  two_type binary.Rem a b e = numeric_type _ (to_number a) (to_number b) e
  two_type binary.Shl a b e = numeric_type J.shifted_left (to_number a) (to_number b) e
  two_type binary.Sar a b e = numeric_type J.shifted_right (to_number a) (to_number b) e
  two_type binary.Shr a b e = numeric_type J.shifted_right_unsigned (to_number a) (to_number b) e
  two_type binary.BitAnd a b e = numeric_type (J.bitwise bit_and) (to_number a) (to_number b) e
  two_type binary.BitOr a b e = numeric_type (J.bitwise bit_or) (to_number a) (to_number b) e
  two_type binary.BitXor a b e = numeric_type (J.bitwise bit_xor) (to_number a) (to_number b) e
  two_type binary.Less a b e = telling_type _ e
  two_type binary.Greater a b e = telling_type _ e
  two_type binary.LessEqual a b e = telling_type _ e
  two_type binary.GreaterEqual a b e = telling_type _ e
  two_type binary.Equal a b e = telling_type _ e
  two_type binary.NotEqual a b e = telling_type _ e
  two_type binary.Same a b e = truth_type _ e
  two_type binary.NotSame a b e = truth_type _ e
  two_type binary.In a b e = none_is p e
  two_type binary.InstanceOf a b e = none_is p e

text_type : (p : Primitive) → P.is_string_type (P.primitive_type p) ≡ J.is_text p
text_type primitive.Undefined = refl
text_type primitive.Null = refl
text_type (primitive.Boolean b) = refl
text_type (primitive.Number n) = refl
text_type (primitive.Text t) = refl

-- ---- operands of operators that give something

-- the operand of an operator that gives something
pub record Operated (op : UnaryOp) (x : Option Primitive) (p : Primitive) : Type 0 where
  pub a : Primitive
  pub symbol : gives_symbol op ≡ true
  pub operand : x ≡ Some a
  pub result : by_one (unary_row op) (Some a) ≡ Some p

pub operated : (op : UnaryOp) (x : Option Primitive) (p : Primitive) → (if gives_symbol op then by_one (unary_row op) x else None) ≡ Some p → Operated op x p
operated op x p e = by_test (gives_symbol op) x refl e
  where
    by_row : (r : Option (Primitive → Result Primitive Why)) → by_one r None ≡ Some p → Operated op None p
    by_row None e = none_is p e
    by_row (Some row) e = none_is p e

    by_test : (g : Bool) (x : Option Primitive) → gives_symbol op ≡ g → (if g then by_one (unary_row op) x else None) ≡ Some p → Operated op x p
    by_test true (Some a) g e = record { a = a; symbol = g; operand = refl; result = e }
    by_test true None g e = by_row (unary_row op) e
    by_test false x g e = none_is p e

pub record Operands (op : BinaryOp) (x y : Option Primitive) (p : Primitive) : Type 0 where
  pub a : Primitive
  pub b : Primitive
  pub first : x ≡ Some a
  pub second : y ≡ Some b
  pub result : by_two (binary_row op) (Some a) (Some b) ≡ Some p

pub operands : (op : BinaryOp) (x y : Option Primitive) (p : Primitive) → by_two (binary_row op) x y ≡ Some p → Operands op x y p
operands op (Some a) (Some b) p e = record { a = a; b = b; first = refl; second = refl; result = e }
operands op None y p e = by_row (binary_row op) e
  where
    by_row : (r : Option (Primitive → Primitive → Result Primitive Why)) → by_two r None y ≡ Some p → Operands op None y p
    by_row None e = none_is p e
    by_row (Some row) e = none_is p e
operands op (Some a) None p e = by_row (binary_row op) e
  where
    by_row : (r : Option (Primitive → Primitive → Result Primitive Why)) → by_two r (Some a) None ≡ Some p → Operands op (Some a) None p
    by_row None e = none_is p e
    by_row (Some row) e = none_is p e

-- ---- the types of what is meant

threw_type : (o : Option world.Answer) (p : Primitive) → option_map (λ (a : world.Answer). primitive.Boolean a.threw) o ≡ Some p → P.BooleanType ≡ P.primitive_type p
threw_type None p e = none_is p e
threw_type (Some a) p e = ap P.primitive_type (some_is _ p e)

module _ (w : World) where
  mutual
    pub types : (s : Symbol) (p : Primitive) → meant w s ≡ Some p → P.symbol_type s ≡ P.primitive_type p
    types (Input k name) p e = given_kind k (lookup name w.inputs) p e
    types (Answer k n) p e = given_kind k (option_map (λ (a : world.Answer). a.value) (slice_get w.answers n)) p e
    types (Threw n) p e = threw_type (slice_get w.answers n) p e
    types (Unary op s) p e =
        let o = operated op (meant w s) p e in
        sym (one_type p op o.a o.symbol o.result)
    types (Binary op a b) p e =
        let o = operands op (meant_operand w a) (meant_operand w b) p e in
        rw (operand_types a o.a o.first, operand_types b o.b o.second, text_type o.a, text_type o.b) (sym (two_type p op o.a o.b o.result))

    pub operand_types : (a : Operand) (p : Primitive) → meant_operand w a ≡ Some p → P.operand_type a ≡ P.primitive_type p
    operand_types (Known q) p e = ap P.primitive_type (some_is q p e)
    operand_types (Unknown s) p e = types s p e
