-- A view with its keys and values told in other words, as those of a world are by the texts and the numbers of objects.
use Rattle.std.specs.Prelude.{map, Option, None, Some}
use Rattle.std.specs.List.{AllByRecursion}
use Rattle.std.specs.Map.{keys_of}
use Rattle.mb_desc.specs.declared.descriptor.Full.{Full}
use Rattle.mb_desc.specs.declared.descriptor.Full.TheVariants.{Datum, Accessor}
use Rattle.mb_desc.specs.View.{View}

abbrev pub resolved_property : {V W : Type 0} → (V → W) → Full V → Full W
resolved_property value (Datum v writable enumerable configurable) = Datum
    (value v) writable enumerable configurable
resolved_property value (Accessor get set enumerable configurable) = Accessor (value get)
    (value set) enumerable configurable

abbrev pub resolved_option : {V W : Type 0} → (V → W) → Option (Full V) → Option (Full W)
resolved_option value None = None
resolved_option value (Some property) = Some (resolved_property value property)

abbrev pub resolved : {K L V W : Type 0} → (K → L) → (V → W) → View K V → View L W
resolved key value view = record {
  prototype = value view.prototype;
  extensible = view.extensible;
  properties = map (λ entry. (key entry.0, resolved_property value entry.1)) view.properties;
}

-- the values of a property
abbrev pub HasValues : {V : Type 0} → (V → Type 0) → Full V → Type 0
HasValues Value (Datum v writable enumerable configurable) = Value v
HasValues Value (Accessor get set enumerable configurable) = Value get × Value set

-- the keys and values of a view are such
pub record IsOver {K V : Type 0} (Key : K → Type 0) (Value : V → Type 0) (view : View K V) : Type 0 where
  pub prototype : Value view.prototype
  pub keys : AllByRecursion Key (keys_of view.properties)
  pub values : AllByRecursion (λ (entry : K × Full V). HasValues Value entry.1) view.properties
