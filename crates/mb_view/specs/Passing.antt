-- Which answers pass the checks of a Proxy against a view of its target (ECMA-262, 10.5).
use Rattle.std.specs.Prelude.{◌≡◌, ℕ, ◌<◌, ◌≤◌, Bool, true, false, List, Option, None, Some, is_some, slice_get}
use Rattle.std.specs.List.{list_any}
use Rattle.mb_desc.specs.declared.descriptor.Desc.{Desc}
use Rattle.mb_desc.specs.declared.descriptor.Full.{Full}
use Rattle.mb_desc.specs.declared.descriptor.Full.TheVariants.{Datum, Accessor}
use Rattle.mb_desc.specs.Descriptors.{is_configurable, is_writable, is_unwritable, descriptor_of, denies}
use Rattle.mb_desc.specs.Validate.{Validate}
use Rattle.mb_desc.specs.View.{View}
use Rattle.mb_view.specs.Views.{property_of, IsFixed, KeepsFacts}
use Rattle.mb_view.specs.Entries.{Deed, GetPrototypeOf, SetPrototypeOf, IsExtensible, PreventExtensions, GetOwnProperty, DefineOwnProperty, HasProperty, Get, Set, Delete, OwnPropertyKeys, Entry}

module _ {V : Type 0} (same : V → V → Bool) (undefined : V) where
  -- a property may be answered where it is compatible with the real one; one that isn't configurable needs a real one
  -- that isn't, and one that can't be written either needs a real one that can't
  abbrev pub AllowsSaid : Bool → Option (Full V) → Full V → Type 0
  AllowsSaid extensible real said =
      (is_some (Validate same undefined extensible real (descriptor_of said)) ≡ true)
      × (is_configurable said ≡ false
      → (property : Full V) × (real ≡ Some property) × (is_configurable property ≡ false)
      × (is_unwritable said ≡ true → is_writable property ≡ false))

  -- a definition may be said to be done
  abbrev pub AllowsDefined : Bool → Option (Full V) → Desc V → Type 0
  AllowsDefined extensible None given = (extensible ≡ true) × (denies given.configurable ≡ false)
  AllowsDefined extensible (Some property) given =
      (is_some (Validate same undefined extensible (Some property) given) ≡ true)
      × (denies given.configurable ≡ true → is_configurable property ≡ false)
      × (denies given.writable ≡ true → is_configurable property ≡ false → is_writable property ≡ false)

  -- a value may be got from, or set to, what is there
  abbrev pub AllowsGot : Option (Full V) → V → Type 0
  AllowsGot (Some (Datum value false enumerable false)) answer = answer ≡ value
  AllowsGot (Some (Accessor get set enumerable false)) answer = get ≡ undefined → answer ≡ undefined
  AllowsGot _ answer = Unit {0}

  abbrev pub AllowsSet : Option (Full V) → V → Type 0
  AllowsSet (Some (Datum value false enumerable false)) given = given ≡ value
  AllowsSet (Some (Accessor get set enumerable false)) given = set ≡ undefined → ⊥
  AllowsSet _ given = Unit {0}

module _ {K V : Type 0} (same_key : K → K → Bool) (same : V → V → Bool) (undefined : V) where
  -- the key may be said not to be there
  abbrev pub MayLack : View K V → K → Type 0
  MayLack view key = (property : Full V) → property_of same_key view key ≡ Some property
      → (is_configurable property ≡ true) × (view.extensible ≡ true)

  abbrev pub Passes : Deed K V → View K V → Type 0
  Passes (GetPrototypeOf prototype) view = view.extensible ≡ false → prototype ≡ view.prototype
  Passes (SetPrototypeOf prototype true) view = view.extensible ≡ false → prototype ≡ view.prototype
  Passes (IsExtensible answer) view = answer ≡ view.extensible
  Passes (PreventExtensions true) view = view.extensible ≡ false
  Passes (GetOwnProperty key None) view = MayLack view key
  Passes (GetOwnProperty key (Some said)) view = AllowsSaid same undefined view.extensible
      (property_of same_key view key) said
  Passes (DefineOwnProperty key given true) view = AllowsDefined same undefined view.extensible
      (property_of same_key view key) given
  Passes (HasProperty key false) view = MayLack view key
  Passes (Get key answer) view = AllowsGot same undefined (property_of same_key view key) answer
  Passes (Set key given true) view = AllowsSet same undefined (property_of same_key view key) given
  Passes (Delete key true) view = MayLack view key
  Passes (OwnPropertyKeys keys) view =
      ((key : K) → IsFixed same_key view key → list_any (same_key key) keys ≡ true)
      × (view.extensible ≡ false → (key : K)
      → list_any (same_key key) keys ≡ is_some (property_of same_key view key))
  Passes _ view = Unit {0}

  -- the entries were made over views that evolve: what each side sees of each object at each moment, and for each entry
  -- a moment at which its answer passes, not before that of an entry which was complete when it began
  pub record IsWitnessed (entries : List (Entry K V)) : Type 0 where
    pub seen : (side object moment : ℕ) → View K V
    pub evolves : (side object one two : ℕ) → one ≤ two
        → KeepsFacts same_key (seen side object one) (seen side object two)
    pub moment : ℕ → ℕ
    pub passes : (place : ℕ) (entry : Entry K V) → slice_get entries place ≡ Some entry
        → Passes entry.deed (seen entry.side entry.object (moment place))
    pub order : (place : ℕ) (entry : Entry K V) → slice_get entries place ≡ Some entry → (earlier : ℕ)
        → earlier < entry.began → moment earlier ≤ moment place
