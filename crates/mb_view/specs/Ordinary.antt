-- What an ordinary object answers over what its viewer sees (ECMA-262, 10.1): `get`, `set` and `has` over the view as
-- the own property is read, every other method over the view as it ends.
use Rattle.std.specs.Prelude.{◌≡◌, Bool, true, false, Option, None, Some, is_some}
use Rattle.std.specs.List.{list_any}
use Rattle.mb_desc.specs.declared.descriptor.Full.{Full}
use Rattle.mb_desc.specs.declared.descriptor.Full.TheVariants.{Datum, Accessor}
use Rattle.mb_desc.specs.Validate.{Validate}
use Rattle.mb_desc.specs.View.{View}
use Rattle.mb_view.specs.Views.{property_of}
use Rattle.mb_view.specs.Entries.{Deed, GetPrototypeOf, SetPrototypeOf, IsExtensible, PreventExtensions, GetOwnProperty, DefineOwnProperty, HasProperty, Get, Set, Delete, OwnPropertyKeys}

module _ {V : Type 0} (undefined : V) where
  -- the value that is there, or undefined where there is no getter; else what a getter or the prototype gives
  abbrev pub Gets : Option (Full V) → V → Type 0
  Gets None answer = Unit {0}
  Gets (Some (Datum value writable enumerable configurable)) answer = answer ≡ value
  Gets (Some (Accessor get set enumerable configurable)) answer = get ≡ undefined → answer ≡ undefined

  -- true only where it can be written or has a setter, or isn't there
  abbrev pub Sets : Option (Full V) → Type 0
  Sets None = Unit {0}
  Sets (Some (Datum value writable enumerable configurable)) = writable ≡ true
  Sets (Some (Accessor get set enumerable configurable)) = set ≡ undefined → ⊥

module _ {K V : Type 0} (same_key : K → K → Bool) (same : V → V → Bool) (undefined : V) where
  abbrev pub IsOrdinary : Deed K V → View K V → Type 0
  IsOrdinary (GetPrototypeOf answer) view = answer ≡ view.prototype
  IsOrdinary (SetPrototypeOf given true) view = given ≡ view.prototype
  IsOrdinary (IsExtensible answer) view = answer ≡ view.extensible
  IsOrdinary (PreventExtensions true) view = view.extensible ≡ false
  IsOrdinary (GetOwnProperty key answer) view = answer ≡ property_of same_key view key
  IsOrdinary (DefineOwnProperty key given true) view =
      (property : Full V) × (property_of same_key view key ≡ Some property)
      × (Validate same undefined view.extensible (Some property) given ≡ Some property)
  IsOrdinary (HasProperty key false) view = property_of same_key view key ≡ None
  IsOrdinary (Get key answer) view = Gets undefined (property_of same_key view key) answer
  IsOrdinary (Set key given true) view = Sets undefined (property_of same_key view key)
  IsOrdinary (Delete key true) view = property_of same_key view key ≡ None
  IsOrdinary (OwnPropertyKeys keys) view = (key : K)
      → list_any (same_key key) keys ≡ is_some (property_of same_key view key)
  IsOrdinary _ view = Unit {0}
