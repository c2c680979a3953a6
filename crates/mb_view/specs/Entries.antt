-- What the entries of the trace promise, and what contradicts a promise.
use Rattle.std.specs.Prelude.{◌≡◌, ℕ, Bool, true, false, not, ◌&&◌, ◌||◌, nat_eq, List, [], ◌∷◌, ◌++◌, take, Option, None, Some, if◌then◌else◌}
use Rattle.std.specs.List.{AllByRecursion, list_any}
use Rattle.mb_desc.specs.declared.descriptor.Desc.{Desc}
use Rattle.mb_desc.specs.declared.descriptor.Full.{Full}
use Rattle.mb_desc.specs.declared.descriptor.Full.TheVariants.{Datum, Accessor}
use Rattle.mb_desc.specs.Descriptors.{denies, asks, is_accessor_descriptor, is_data_descriptor, is_enumerable, is_configurable, IsOfOneKind, descriptor_of}
use Rattle.mb_desc.specs.Validate.{same_flag}
use Rattle.mb_view.specs.Promises.{Content, Anything, Data, Constant, Accessors, Promise, Fact, Closed, Fixed, Absent, Only, Prototype}

-- an internal method that a side performed, with its answer
pub data Deed (K V : Type 0) : Type 0 where
  GetPrototypeOf : (answer : V) → Deed K V
  SetPrototypeOf : (given : V) (answer : Bool) → Deed K V
  IsExtensible : (answer : Bool) → Deed K V
  PreventExtensions : (answer : Bool) → Deed K V
  GetOwnProperty : K → (answer : Option (Full V)) → Deed K V
  DefineOwnProperty : K → (given : Desc V) (answer : Bool) → Deed K V
  HasProperty : K → (answer : Bool) → Deed K V
  Get : K → (answer : V) → Deed K V
  Set : K → (given : V) (answer : Bool) → Deed K V
  Delete : K → (answer : Bool) → Deed K V
  OwnPropertyKeys : (answer : List K) → Deed K V
  -- a throw, or an answer of `call` or `construct`
  Silent : Deed K V

-- an entry: how many were complete when the method began, who performed it on which object, and what it did
pub record Entry (K V : Type 0) : Type 0 where
  pub began : ℕ
  pub side : ℕ
  pub object : ℕ
  pub deed : Deed K V

-- a descriptor that is given has no fields of both kinds
abbrev pub GivesOneKind : {K V : Type 0} → Deed K V → Type 0
GivesOneKind (DefineOwnProperty key given answer) = IsOfOneKind given
GivesOneKind _ = Unit {0}

abbrev pub fact_if : {K V : Type 0} → Bool → Fact K V → List (Fact K V)
fact_if test fact = if test then fact ∷ [] else []

-- ---- what is told

module _ {V : Type 0} where
  -- the value counts only where the property can't be written
  abbrev pub content_of : Full V → Content V
  content_of (Datum value true enumerable configurable) = Data
  content_of (Datum value false enumerable configurable) = Constant (Some value)
  content_of (Accessor get set enumerable configurable) = Accessors (Some get) (Some set)

  -- all of a property
  abbrev pub promise_of : Full V → Promise V
  promise_of property = record { enumerable = Some (is_enumerable property); content = content_of property }

  -- and of what was given
  abbrev pub content_given : Desc V → Content V
  content_given desc =
      if is_accessor_descriptor desc then Accessors desc.get desc.set
      else if denies desc.writable then Constant desc.value
      else if is_data_descriptor desc then Data
      else Anything

  abbrev pub promise_given : Desc V → Promise V
  promise_given desc = record { enumerable = desc.enumerable; content = content_given desc }

module _ {K V : Type 0} where
  -- what an entry tells
  abbrev pub tells : Deed K V → List (Fact K V)
  tells (IsExtensible false) = Closed ∷ []
  tells (PreventExtensions true) = Closed ∷ []
  tells (GetOwnProperty key (Some property)) = fact_if (not (is_configurable property))
      (Fixed key (promise_of property))
  tells (DefineOwnProperty key given true) = fact_if (denies given.configurable) (Fixed key (promise_given given))
  tells _ = []

  -- what it tells besides, where it began after the object was told to be closed
  abbrev pub tells_of_closed : Deed K V → List (Fact K V)
  tells_of_closed (GetOwnProperty key None) = Absent key ∷ []
  tells_of_closed (HasProperty key false) = Absent key ∷ []
  tells_of_closed (Delete key true) = Absent key ∷ []
  tells_of_closed (OwnPropertyKeys keys) = Only keys ∷ []
  tells_of_closed (GetPrototypeOf prototype) = Prototype prototype ∷ []
  tells_of_closed (SetPrototypeOf prototype true) = Prototype prototype ∷ []
  tells_of_closed _ = []

  abbrev pub tells_closed : Deed K V → Bool
  tells_closed (IsExtensible false) = true
  tells_closed (PreventExtensions true) = true
  tells_closed _ = false

  abbrev pub is_of : ℕ → ℕ → Entry K V → Bool
  is_of side object entry = nat_eq entry.side side && nat_eq entry.object object

  -- one of the entries tells that the object is closed
  abbrev pub closed_by : ℕ → ℕ → List (Entry K V) → Bool
  closed_by side object entries = list_any (λ entry. is_of side object entry && tells_closed entry.deed) entries

  -- the facts that one of the entries tells
  abbrev pub told_by : List (Entry K V) → Entry K V → List (Fact K V)
  told_by entries entry =
      tells entry.deed ++ (if closed_by entry.side entry.object (take entry.began entries)
      then tells_of_closed entry.deed else [])

  abbrev pub told_from : List (Entry K V) → ℕ → ℕ → List (Entry K V) → List (Fact K V)
  told_from entries side object [] = []
  told_from entries side object (entry ∷ rest) =
      (if is_of side object entry then told_by entries entry else []) ++ told_from entries side object rest

  -- the facts that the entries of a side on an object tell
  abbrev pub Told : List (Entry K V) → ℕ → ℕ → List (Fact K V)
  Told entries side object = told_from entries side object entries

-- ---- what contradicts

-- a told field is given otherwise
abbrev pub differs : {A : Type 0} → (A → A → Bool) → Option A → Option A → Bool
differs same told None = false
differs same None (Some given) = false
differs same (Some told) (Some given) = not (same given told)

module _ {V : Type 0} (same : V → V → Bool) (undefined : V) where
  abbrev pub content_differs : Content V → Desc V → Bool
  content_differs Anything desc = false
  content_differs Data desc = is_accessor_descriptor desc
  content_differs (Constant value) desc = is_accessor_descriptor desc || asks desc.writable
      || differs same value desc.value
  content_differs (Accessors get set) desc = is_data_descriptor desc || differs same get desc.get
      || differs same set desc.set

  -- the descriptor has configurable true, or another told field
  abbrev pub promise_differs : Promise V → Desc V → Bool
  promise_differs promise desc = asks desc.configurable
      || differs same_flag promise.enumerable desc.enumerable || content_differs promise.content desc

  -- another value than the told one; another than undefined where no get is told to be there
  abbrev pub get_differs : Content V → V → Bool
  get_differs (Constant (Some value)) answer = not (same answer value)
  get_differs (Accessors (Some get) set) answer = same get undefined && not (same answer undefined)
  get_differs _ answer = false

  -- true for another value than the told one, or where no set is told to be there
  abbrev pub set_differs : Content V → V → Bool
  set_differs (Constant (Some value)) given = not (same given value)
  set_differs (Accessors get (Some set)) given = same set undefined
  set_differs _ given = false

module _ {K V : Type 0} (same_key : K → K → Bool) (same : V → V → Bool) (undefined : V) where
  abbrev pub contradicts_closed : Deed K V → Bool
  contradicts_closed (IsExtensible true) = true
  contradicts_closed _ = false

  abbrev pub contradicts_fixed : K → Promise V → Deed K V → Bool
  contradicts_fixed key promise (GetOwnProperty at None) = same_key key at
  contradicts_fixed key promise (GetOwnProperty at (Some property)) = same_key key at
      && promise_differs same undefined promise (descriptor_of property)
  contradicts_fixed key promise (HasProperty at false) = same_key key at
  contradicts_fixed key promise (Delete at true) = same_key key at
  contradicts_fixed key promise (OwnPropertyKeys keys) = not (list_any (same_key key) keys)
  contradicts_fixed key promise (DefineOwnProperty at given true) = same_key key at
      && promise_differs same undefined promise given
  contradicts_fixed key promise (Get at answer) = same_key key at
      && get_differs same undefined promise.content answer
  contradicts_fixed key promise (Set at given true) = same_key key at
      && set_differs same undefined promise.content given
  contradicts_fixed key promise _ = false

  abbrev pub contradicts_absent : K → Deed K V → Bool
  contradicts_absent key (GetOwnProperty at (Some property)) = same_key key at
  contradicts_absent key (OwnPropertyKeys keys) = list_any (same_key key) keys
  contradicts_absent key (DefineOwnProperty at given true) = same_key key at
  contradicts_absent key _ = false

  -- each key outside the list is absent
  abbrev pub contradicts_only : List K → Deed K V → Bool
  contradicts_only keys (GetOwnProperty at (Some property)) = not (list_any (same_key at) keys)
  contradicts_only keys (OwnPropertyKeys others) = list_any (λ other. not (list_any (same_key other) keys)) others
  contradicts_only keys (DefineOwnProperty at given true) = not (list_any (same_key at) keys)
  contradicts_only keys _ = false

  abbrev pub contradicts_prototype : V → Deed K V → Bool
  contradicts_prototype prototype (GetPrototypeOf answer) = not (same answer prototype)
  contradicts_prototype prototype (SetPrototypeOf given true) = not (same given prototype)
  contradicts_prototype prototype _ = false

  abbrev pub contradicts : Fact K V → Deed K V → Bool
  contradicts Closed deed = contradicts_closed deed
  contradicts (Fixed key promise) deed = contradicts_fixed key promise deed
  contradicts (Absent key) deed = contradicts_absent key deed
  contradicts (Only keys) deed = contradicts_only keys deed
  contradicts (Prototype prototype) deed = contradicts_prototype prototype deed

  -- an entry contradicts nothing of what was complete when it began
  abbrev pub IsConsistent : List (Entry K V) → Entry K V → Type 0
  IsConsistent entries entry = AllByRecursion (λ fact. contradicts fact entry.deed ≡ false)
      (Told (take entry.began entries) entry.side entry.object)

  abbrev pub Lawful : List (Entry K V) → Type 0
  Lawful entries = AllByRecursion (IsConsistent entries) entries
