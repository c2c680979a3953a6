-- A shadow that keeps only what is fixed, and how it follows a view for one key or whole.
use Rattle.std.specs.Prelude.{◌≡◌, Bool, true, false, List, [], ◌∷◌, Option, None, Some, is_some, if◌then◌else◌}
use Rattle.mb_desc.specs.declared.descriptor.Full.{Full}
use Rattle.mb_desc.specs.Descriptors.{is_configurable, descriptor_of}
use Rattle.mb_desc.specs.View.{View}
use Rattle.mb_view.specs.Views.{property_of, IsFixed}
use Rattle.mb_view.specs.Changes.{Change, Define, Remove}
use Rattle.mb_view.specs.Following.{brought_by}
use Rattle.mb_view.specs.Entries.{Deed, GetPrototypeOf, SetPrototypeOf, IsExtensible, PreventExtensions as PreventExtensionsOf, GetOwnProperty, DefineOwnProperty, HasProperty, Get, Set, Delete, OwnPropertyKeys, Silent}

module _ {K V : Type 0} where
  abbrev pub definition_if_fixed : K → Option (Full V) → List (Change K V)
  definition_if_fixed key None = []
  definition_if_fixed key (Some property) = if is_configurable property then []
      else Define key (descriptor_of property) property ∷ []

  abbrev pub removal_if_there : K → Option (Full V) → List (Change K V)
  removal_if_there key None = []
  removal_if_there key (Some property) = Remove key ∷ []

  -- a shadow that isn't extensible: what the view has of the key, and what the shadow has
  abbrev pub replacement : K → Option (Full V) → Option (Full V) → List (Change K V)
  replacement key (Some property) held = Define key (descriptor_of property) property ∷ []
  replacement key None held = removal_if_there key held

module _ {K V : Type 0} (same_key : K → K → Bool) where
  -- an extensible shadow has no configurable property
  abbrev pub IsLean : View K V → Type 0
  IsLean shadow = shadow.extensible ≡ true → (key : K) (property : Full V)
      → property_of same_key shadow key ≡ Some property → is_configurable property ≡ false

  abbrev pub followed_key : K → View K V → View K V → List (Change K V)
  followed_key key shadow view =
      if shadow.extensible
      then definition_if_fixed key (property_of same_key view key)
      else replacement key (property_of same_key view key) (property_of same_key shadow key)

  -- the keys that the view lacks go, then every property is defined, then come the prototype and the end of extensions
  abbrev pub followed_whole : View K V → View K V → List (Change K V)
  followed_whole shadow view =
      if view.extensible then [] else brought_by (λ key. is_some (property_of same_key view key)) shadow view

  -- what a shadow has of a view, once it has followed it for a key, and whole
  abbrev pub HasKey : K → View K V → View K V → Type 0
  HasKey key shadow view =
      (IsFixed same_key view key → property_of same_key shadow key ≡ property_of same_key view key)
      × (shadow.extensible ≡ false → property_of same_key shadow key ≡ property_of same_key view key)

  pub record HasWhole (shadow view : View K V) : Type 0 where
    pub extensible : view.extensible ≡ false → shadow.extensible ≡ false
    pub prototype : view.extensible ≡ false → shadow.prototype ≡ view.prototype
    pub properties : view.extensible ≡ false → (key : K)
        → property_of same_key shadow key ≡ property_of same_key view key

  -- which part each method follows before its entry is made
  abbrev pub HasFollowed : Deed K V → View K V → View K V → Type 0
  HasFollowed (IsExtensible answer) shadow view = HasWhole shadow view
  HasFollowed (PreventExtensionsOf answer) shadow view = HasWhole shadow view
  HasFollowed (GetOwnProperty key answer) shadow view = HasKey key shadow view
  HasFollowed (DefineOwnProperty key given answer) shadow view = HasKey key shadow view
  HasFollowed (HasProperty key answer) shadow view = HasKey key shadow view
  HasFollowed (Get key answer) shadow view = HasKey key shadow view
  HasFollowed (Set key given answer) shadow view = HasKey key shadow view
  HasFollowed (Delete key answer) shadow view = HasKey key shadow view
  HasFollowed (OwnPropertyKeys keys) shadow view = shadow.extensible ≡ false → HasWhole shadow view
  HasFollowed (GetPrototypeOf answer) shadow view = shadow.extensible ≡ false → HasWhole shadow view
  HasFollowed (SetPrototypeOf given answer) shadow view = shadow.extensible ≡ false → HasWhole shadow view
  HasFollowed Silent shadow view = Unit {0}
