-- What corresponds in two heaps: values, properties, objects, and what the internal methods of objects give.
use Rattle.std.specs.Prelude.{◌≡◌, ℕ, ◌+◌, ◌&&◌, ◌||◌, if◌then◌else◌, Bool, true, List, [], ◌∷◌, length, nat_eq, nat_lt, slice_get, Option, Some, None}
use Rattle.js_value.specs.Conversions.{is_same_text}
use Rattle.js_value.specs.declared.place.FuncNo.{FuncNo}
use Rattle.js_value.specs.declared.primitive.Primitive.{Primitive}
use Rattle.plain_heap.specs.Values.{Value, Prim, Object, Absent, ObjNo, CellNo}
use Rattle.plain_heap.specs.Heap.{Key, Property, Data, Accessor, Properties, Class, Plain, Array, Function, Builtin, ObjectState, Environment, Heap, lookup, data_property, is_array_class}
use Rattle.plain_heap.specs.Methods.{Descriptor, Got, GotValue, CallGetter, Putting, Refuse, Define, CallSetter, Defining, Defined, Rejected, BadLength, IfSame, length_of, length_key}

-- ---- options and lists

pub data BothOption {A B : Type 0} (R : A → B → Type 0) : Option A → Option B → Type 0 where
  nothing : BothOption R None None
  just : {a : A} {b : B} → R a b → BothOption R (Some a) (Some b)

pub data BothEach {A B : Type 0} (R : A → B → Type 0) : List A → List B → Type 0 where
  none : BothEach R [] []
  also : {a : A} {b : B} {xs : List A} {ys : List B} → R a b → BothEach R xs ys → BothEach R (a ∷ xs) (b ∷ ys)

-- values that an array takes for one length, where there are any
abbrev pub SameLength : Option Value → Option Value → Type 0
SameLength = BothOption (λ v u. length_of v ≡ length_of u)

-- ---- names

-- names of the one code and of the other that are bound alike, the innermost first; every other name is the same in both
abbrev pub Names : Type 0
Names = List (List ℕ × List ℕ)

abbrev pub are_named : Names → List ℕ → List ℕ → Bool
are_named [] a b = is_same_text a b
are_named (n ∷ ns) a b = if is_same_text n.0 a || is_same_text n.1 b then is_same_text n.0 a && is_same_text n.1 b else are_named ns a b

-- ---- what is fixed for both heaps

-- Which objects, cells, functions and values correspond, those that are still to be made as well: what the first heap makes next
-- corresponds to what the second makes next, where it is made on both sides. So the relation never grows.
pub record Correspondence : Type 1 where
  pub Objects : ObjNo → ObjNo → Type 0
  pub Cells : CellNo → CellNo → Type 0
  -- functions of two programs whose code is the same but for places, numbers of functions and these captured names
  pub Functions : Names → FuncNo → FuncNo → Type 0
  -- other values that correspond, as a symbol on the right that stands for a value
  pub Stands : Value → Value → Type 0
  -- counts that both heaps may have at one time
  pub ObjectCounts : ℕ → ℕ → Type 0
  pub CellCounts : ℕ → ℕ → Type 0
  -- what is made on the left with this number is made on the right as well
  pub MadeObject : ObjNo → Type 0
  pub MadeCell : CellNo → Type 0
  pub new_object : (m n : ℕ) → ObjectCounts m n → MadeObject m → Objects m n
  pub new_cell : (m n : ℕ) → CellCounts m n → MadeCell m → Cells m n
  pub next_object : (m n : ℕ) → ObjectCounts m n → MadeObject m → ObjectCounts (m + 1) (n + 1)
  pub next_cell : (m n : ℕ) → CellCounts m n → MadeCell m → CellCounts (m + 1) (n + 1)
  pub one_object : (o q p r : ℕ) → Objects o q → Objects p r → nat_eq o p ≡ nat_eq q r
  pub one_cell : (o q p r : ℕ) → Cells o q → Cells p r → nat_eq o p ≡ nat_eq q r
  -- the objects of the realm that rules name
  pub realm : (o : ℕ) → nat_lt o 15 ≡ true → Objects o o

-- one of which each relation can be decided
pub record Decided : Type 0 where
  pub objects : ObjNo → ObjNo → Bool
  pub cells : CellNo → CellNo → Bool
  pub functions : Names → FuncNo → FuncNo → Bool
  pub stands : Value → Value → Bool
  pub object_counts : ℕ → ℕ → Bool
  pub cell_counts : ℕ → ℕ → Bool
  pub made_object : ObjNo → Bool
  pub made_cell : CellNo → Bool
  pub new_object : (m n : ℕ) → object_counts m n ≡ true → made_object m ≡ true → objects m n ≡ true
  pub new_cell : (m n : ℕ) → cell_counts m n ≡ true → made_cell m ≡ true → cells m n ≡ true
  pub next_object : (m n : ℕ) → object_counts m n ≡ true → made_object m ≡ true → object_counts (m + 1) (n + 1) ≡ true
  pub next_cell : (m n : ℕ) → cell_counts m n ≡ true → made_cell m ≡ true → cell_counts (m + 1) (n + 1) ≡ true
  pub one_object : (o q p r : ℕ) → objects o q ≡ true → objects p r ≡ true → nat_eq o p ≡ nat_eq q r
  pub one_cell : (o q p r : ℕ) → cells o q ≡ true → cells p r ≡ true → nat_eq o p ≡ nat_eq q r
  pub realm : (o : ℕ) → nat_lt o 15 ≡ true → objects o o ≡ true

abbrev pub correspondence : Decided → Correspondence
correspondence d = record {
  Objects = λ o q. d.objects o q ≡ true;
  Cells = λ a b. d.cells a b ≡ true;
  Functions = λ ns f g. d.functions ns f g ≡ true;
  Stands = λ v u. d.stands v u ≡ true;
  ObjectCounts = λ m n. d.object_counts m n ≡ true;
  CellCounts = λ m n. d.cell_counts m n ≡ true;
  MadeObject = λ o. d.made_object o ≡ true;
  MadeCell = λ a. d.made_cell a ≡ true;
  new_object = d.new_object;
  new_cell = d.new_cell;
  next_object = d.next_object;
  next_cell = d.next_cell;
  one_object = d.one_object;
  one_cell = d.one_cell;
  realm = d.realm;
}

module _ (x : Correspondence) where
  -- ---- values

  -- that go through a run
  pub data SameValue : Value → Value → Type 0 where
    known : (p : Primitive) → SameValue (Prim p) (Prim p)
    object : {o q : ObjNo} → x.Objects o q → SameValue (Object o) (Object q)
    stands : {v u : Value} → x.Stands v u → SameValue v u

  -- that properties have: built-ins that are left out, too
  pub data SameHeld : Value → Value → Type 0 where
    held : {v u : Value} → SameValue v u → SameHeld v u
    absent : SameHeld Absent Absent

  -- ---- properties (8.6.1)

  pub data SameProperty : Property → Property → Type 0 where
    same_data : {v u : Value} → SameHeld v u → (w e c : Bool) → SameProperty (data_property v w e c) (data_property u w e c)
    same_accessor : {g l s t : Option ObjNo} → BothOption x.Objects g l → BothOption x.Objects s t → (e c : Bool)
        → SameProperty (Accessor (record { get = g; set = s; enumerable = e; configurable = c })) (Accessor (record { get = l; set = t; enumerable = e; configurable = c }))

  -- the number that an array takes for its length
  abbrev pub number_in : Property → Option ℕ
  number_in (Data p) = length_of p.value
  number_in (Accessor p) = None

  -- the length of an array is the same number in both
  pub data SameEntry (array : Bool) : Key × Property → Key × Property → Type 0 where
    entry : (key : Key) {p q : Property} → SameProperty p q → (array ≡ true → is_same_text key length_key ≡ true → number_in p ≡ number_in q) → SameEntry array (key, p) (key, q)

  -- ---- environments (10.2)

  -- what two names are bound to: cells, or nothing where they are the same name
  pub data SameFound : List ℕ → List ℕ → Option CellNo → Option CellNo → Type 0 where
    in_cells : {a b : List ℕ} {c d : CellNo} → x.Cells c d → SameFound a b (Some c) (Some d)
    both_free : (a : List ℕ) → SameFound a a None None

  pub record SameEnvironment (ns : Names) (s t : Environment) : Type 0 where
    pub at : (a b : List ℕ) → are_named ns a b ≡ true → SameFound a b (lookup a s) (lookup b t)

  -- ---- objects (8.6.2)

  pub data SameClass : Class → Class → Type 0 where
    same_plain : SameClass Plain Plain
    same_array : SameClass Array Array
    same_function : (ns : Names) {f g : FuncNo} {s t : Environment} (strict : Bool) → x.Functions ns f g → SameEnvironment ns s t → SameClass (Function f s strict) (Function g t strict)
    same_builtin : (n : ℕ) → SameClass (Builtin n) (Builtin n)

  pub data SameState : ObjectState → ObjectState → Type 0 where
    same_state : {c d : Class} {p q : Option ObjNo} {ps qs : Properties} → SameClass c d → BothOption x.Objects p q → (depth : ℕ) (e : Bool) → BothEach (SameEntry (is_array_class c)) ps qs
        → SameState (record { class = c; prototype = p; depth = depth; extensible = e; properties = ps }) (record { class = d; prototype = q; depth = depth; extensible = e; properties = qs })

  -- ---- heaps

  -- what corresponds is there in both or not yet in either
  pub record SameHeaps (h g : Heap) : Type 0 where
    pub objects : (o q : ObjNo) → x.Objects o q → BothOption SameState (slice_get h.objects o) (slice_get g.objects q)
    pub cells : (c d : CellNo) → x.Cells c d → BothOption SameValue (slice_get h.cells c) (slice_get g.cells d)
    pub object_counts : x.ObjectCounts (length h.objects) (length g.objects)
    pub cell_counts : x.CellCounts (length h.cells) (length g.cells)

  -- ---- what methods are given and give

  pub data SameDescriptor : Descriptor → Descriptor → Type 0 where
    same_fields : {v u : Option Value} {g l s t : Option (Option ObjNo)} → BothOption SameHeld v u → (w : Option Bool) → BothOption (BothOption x.Objects) g l → BothOption (BothOption x.Objects) s t
        → (e c : Option Bool)
        → SameDescriptor (record { value = v; writable = w; get = g; set = s; enumerable = e; configurable = c }) (record { value = u; writable = w; get = l; set = t; enumerable = e; configurable = c })

  pub data SameGot : Got → Got → Type 0 where
    same_value : {v u : Value} → SameHeld v u → SameGot (GotValue v) (GotValue u)
    same_getter : {f g : ObjNo} → x.Objects f g → SameGot (CallGetter f) (CallGetter g)

  pub data SamePutting : Putting → Putting → Type 0 where
    same_refusal : SamePutting Refuse Refuse
    same_define : {d e : Descriptor} → SameDescriptor d e → SamePutting (Define d) (Define e)
    same_setter : {f g : ObjNo} → x.Objects f g → SamePutting (CallSetter f) (CallSetter g)

  pub data SameDefining : Defining → Defining → Type 0 where
    same_defined : {o q : ObjectState} → SameState o q → SameDefining (Defined o) (Defined q)
    same_rejected : {o q : ObjectState} → SameState o q → SameDefining (Rejected o) (Rejected q)
    same_bad_length : SameDefining BadLength BadLength
    same_if : {v u w z : Value} {f g : Bool → Defining} → SameHeld v u → SameHeld w z → ((b : Bool) → SameDefining (f b) (g b)) → SameDefining (IfSame v w f) (IfSame u z g)
