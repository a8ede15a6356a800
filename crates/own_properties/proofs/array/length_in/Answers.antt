use Rattle.std.proofs.Common.{◌∙◌, refl, sym, ap}
use Rattle.std.specs.Prelude.{Some}
use Rattle.std.specs.Option.{option_map}
use Rattle.plain_heap.specs.Heap.{lookup}
use Rattle.heap_values.specs.Meaning.{property_of, value_of}
use Rattle.own_properties.proofs.array.length_in.Goals as goal

pub returns-in_ok-length_of-in-Some-Data : goal.returns-in_ok-length_of-in-Some-Data
returns-in_ok-length_of-in-Some-Data c = (
  record { value = value_of c.in-Some-Data.value; writable = c.in-Some-Data.writable; enumerable = c.in-Some-Data.field-0-2; configurable = c.in-Some-Data.field-0-3 },
  refl,
  record {
    there = ap (option_map property_of) (ap (λ key. lookup key c.args.properties.now) (sym c.requires) ∙ sym c.in-Some-Data.ensures.value ∙ ap (λ p. Some p) c.in-Some-Data.field-0-is);
    number = sym c.length_of.ensures ∙ c.in_ok-length_of-in-Some-Data.was;
  },
)
