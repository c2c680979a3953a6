-- What answers promise, by the invariants that ECMA-262 (6.1.7.3) asks of every object.
use Rattle.std.specs.Prelude.{◌≡◌, Bool, false, List, Option, None, Some}
use Rattle.std.specs.List.{list_any}
use Rattle.mb_desc.specs.declared.descriptor.Full.{Full}
use Rattle.mb_desc.specs.declared.descriptor.Full.TheVariants.{Datum, Accessor}
use Rattle.mb_desc.specs.Descriptors.{is_enumerable, is_configurable}
use Rattle.mb_desc.specs.View.{View}
use Rattle.mb_view.specs.Views.{property_of}

-- what is promised of the content of a property
pub data Content (V : Type 0) : Type 0 where
  -- nothing
  Anything : Content V
  -- it is a data property
  Data : Content V
  -- it is a data property that can't be written, with that value where one is told
  Constant : Option V → Content V
  -- it is an accessor property, with the get and set that are told
  Accessors : (get set : Option V) → Content V

-- a promise of a property that isn't configurable: its enumerable flag, where it is told, and its content
pub record Promise (V : Type 0) : Type 0 where
  pub enumerable : Option Bool
  pub content : Content V

pub data Fact (K V : Type 0) : Type 0 where
  -- the object isn't extensible
  Closed : Fact K V
  -- it has a property of that key, which isn't configurable and keeps the promise
  Fixed : K → Promise V → Fact K V
  -- it isn't extensible and lacks the key
  Absent : K → Fact K V
  -- it isn't extensible and has no other keys
  Only : List K → Fact K V
  -- it isn't extensible and has that prototype
  Prototype : V → Fact K V

-- what is told is so
abbrev pub Agrees : {A : Type 0} → Option A → A → Type 0
Agrees None there = Unit {0}
Agrees (Some told) there = there ≡ told

module _ {V : Type 0} where
  abbrev pub KeepsContent : Content V → Full V → Type 0
  KeepsContent Anything property = Unit {0}
  KeepsContent Data (Datum value writable enumerable configurable) = Unit {0}
  KeepsContent Data (Accessor get set enumerable configurable) = ⊥
  KeepsContent (Constant told) (Datum value writable enumerable configurable) = (writable ≡ false)
      × Agrees told value
  KeepsContent (Constant told) (Accessor get set enumerable configurable) = ⊥
  KeepsContent (Accessors get' set') (Datum value writable enumerable configurable) = ⊥
  KeepsContent (Accessors get' set') (Accessor get set enumerable configurable) = Agrees get' get × Agrees set' set

  abbrev pub Keeps : Promise V → Full V → Type 0
  Keeps promise property = (is_configurable property ≡ false)
      × Agrees promise.enumerable (is_enumerable property) × KeepsContent promise.content property

module _ {K V : Type 0} (same_key : K → K → Bool) where
  abbrev pub Holds : Fact K V → View K V → Type 0
  Holds Closed view = view.extensible ≡ false
  Holds (Fixed key promise) view = (property : Full V) × (property_of same_key view key ≡ Some property)
      × Keeps promise property
  Holds (Absent key) view = (view.extensible ≡ false) × (property_of same_key view key ≡ None)
  Holds (Only keys) view = (view.extensible ≡ false)
      × ((key : K) → list_any (same_key key) keys ≡ false → property_of same_key view key ≡ None)
  Holds (Prototype prototype) view = (view.extensible ≡ false) × (view.prototype ≡ prototype)
