-- What holds of views, of what is told of them, and of following them.
use Rattle.std.specs.Prelude.{◌≡◌, ℕ, ◌+◌, ◌≤◌, ◌<◌, nat_le, Bool, true, false, List, [], ◌∷◌, ◌++◌, take, drop, length, Some, slice_get, if◌then◌else◌}
use Rattle.std.specs.List.{AllByRecursion, IsDistinct, list_any}
use Rattle.std.specs.Map.{keys_of}
use Rattle.mb_desc.specs.declared.descriptor.Desc.{Desc}
use Rattle.mb_desc.specs.declared.descriptor.Full.{Full}
use Rattle.mb_desc.specs.Descriptors.{IsOfOneKind}
use Rattle.mb_desc.specs.Validate.{Validate}
use Rattle.mb_base.specs.declared.value.Key.{Key}
use Rattle.mb_props.specs.KeyOrder.{index_of, IsInKeyOrder}
use Rattle.mb_view.specs.Keys.{equal, sort_of_key}
use Rattle.mb_view.specs.Sublists.{IsSublist}
use Rattle.mb_desc.specs.View.{View}
use Rattle.mb_view.specs.Views.{property_of, Sort, is_index, HasDistinctKeys, KeepsFacts, Evolves}
use Rattle.mb_view.specs.Changes.{Change, changed_by, AreAllowed}
use Rattle.mb_view.specs.Shown.{Treatment, shown, Request, AreOfOneKind, performed}
use Rattle.mb_view.specs.Following.{kept, is_first, followed_by, IsAlike}
use Rattle.mb_view.specs.OwnKeys.{IsOwnKeys}
use Rattle.mb_view.specs.Arrays.{HasLength, element_defined, length_defined}
use Rattle.mb_view.specs.Promises.{Fact, Absent, Only, Holds}
use Rattle.mb_view.specs.Entries.{Deed, Entry, GivesOneKind, tells, tells_of_closed, contradicts, closed_by, told_by, is_of, Told, Lawful}
use Rattle.mb_view.specs.Passing.{Passes, IsWitnessed}
use Rattle.mb_view.specs.Ordinary.{IsOrdinary}
use Rattle.mb_view.specs.Lean.{IsLean, followed_key, followed_whole, HasKey, HasWhole, HasFollowed}

module _ {K : Type 0} (V : Type 0) (same_key : K → K → Bool) (sort_of : K → Sort) where
  -- a view evolves to itself, and over two steps
  abbrev pub EvolvesInSteps : Type 0
  EvolvesInSteps =
      ((view : View K V) → Evolves same_key sort_of view view)
      × ((one two three : View K V) → Evolves same_key sort_of one two → Evolves same_key sort_of two three
      → Evolves same_key sort_of one three)

  -- views that are alike evolve alike
  abbrev pub AlikeEvolve : Type 0
  AlikeEvolve =
      (old new other another : View K V) → IsAlike same_key sort_of old other → IsAlike same_key sort_of new another
      → Evolves same_key sort_of old new → Evolves same_key sort_of other another

  -- what a policy shows evolves with the object
  abbrev pub ShownEvolves : Type 0
  ShownEvolves = (rule : K → Treatment V) (old new : View K V) → Evolves same_key sort_of old new
      → Evolves same_key sort_of (shown rule old) (shown rule new)

  -- once a view isn't extensible, its own keys are a sublist of those of before
  abbrev pub ClosedKeysAreSublist : Type 0
  ClosedKeysAreSublist =
      (number : K → ℕ) (old new : View K V) (before after : List K) → Evolves same_key sort_of old new
      → old.extensible ≡ false
      → IsOwnKeys same_key sort_of number old before → IsOwnKeys same_key sort_of number new after
      → IsSublist after before

  -- views that are alike list the same own keys
  abbrev pub AlikeListTheSame : Type 0
  AlikeListTheSame =
      (number : K → ℕ) (one two : View K V) (keys others : List K) → IsAlike same_key sort_of one two
      → IsOwnKeys same_key sort_of number one keys → IsOwnKeys same_key sort_of number two others → keys ≡ others

-- a fact that holds of a view holds of each that keeps its fixed facts, and these are all that is to be kept for that
abbrev pub FactsStay : {K : Type 0} → (V : Type 0) → (K → K → Bool) → Type 0
FactsStay {K} V same_key =
    ((fact : Fact K V) (old new : View K V) → KeepsFacts same_key old new → Holds same_key fact old
    → Holds same_key fact new)
    × ((old new : View K V) → ((fact : Fact K V) → Holds same_key fact old → Holds same_key fact new)
    → KeepsFacts same_key old new)

module _ {K V : Type 0} (same_key : K → K → Bool) (sort_of : K → Sort) (same : V → V → Bool) (undefined : V) where
  -- whatever an ordinary object admits makes its view evolve
  abbrev pub ChangesEvolve : Type 0
  ChangesEvolve =
      (changes : List (Change K V)) (view : View K V) → HasDistinctKeys same_key view
      → AreAllowed same_key same undefined changes view
      → Evolves same_key sort_of view (changed_by same_key changes view)

  -- whoever changes an object, under whatever rules, each side's view of it evolves
  abbrev pub EachSideSeesItEvolve : Type 0
  EachSideSeesItEvolve =
      (read_only : Bool) (rule other : K → Treatment V) (request : Request K V) (view : View K V)
      → HasDistinctKeys same_key view → AreOfOneKind request
      → Evolves same_key sort_of (shown other view)
      (shown other (performed same_key same undefined read_only rule request view))

  -- an object may be brought to each view that its own may evolve to, by few changes that an ordinary object admits
  abbrev pub IsReached : Type 0
  IsReached =
      (old new : View K V) → HasDistinctKeys same_key old → HasDistinctKeys same_key new
      → Evolves same_key sort_of old new
      → AreAllowed same_key same undefined (followed_by same_key sort_of old new) old
      × IsAlike same_key sort_of (changed_by same_key (followed_by same_key sort_of old new) old) new
      × (length (followed_by same_key sort_of old new) ≤ length old.properties + length new.properties + 2)

module _ {K V : Type 0} (same_key : K → K → Bool) (same : V → V → Bool) (undefined : V) where
  -- each step of a definition on an array is one that an ordinary object admits
  abbrev pub ElementStepsAreAllowed : Type 0
  ElementStepsAreAllowed =
      (length_key : K) (whole : ℕ → V) (view : View K V) (key : K) (desc : Desc V) (property : Full V)
      (index length : ℕ) (writable : Bool)
      → HasLength same_key length_key whole view length writable → same_key length_key key ≡ false
      → (nat_le length index ≡ true → writable ≡ true)
      → IsOfOneKind desc → Validate same undefined view.extensible (property_of same_key view key) desc
      ≡ Some property
      → AreAllowed same_key same undefined
      (element_defined same_key length_key whole key desc property index length writable) view

  abbrev pub LengthStepsAreAllowed : Type 0
  LengthStepsAreAllowed =
      (length_key : K) (whole : ℕ → V) (view : View K V) (keys : List K) (old new : ℕ) (writable : Bool)
      → HasDistinctKeys same_key view → IsDistinct same_key keys
      → AllByRecursion (λ key. same_key length_key key ≡ false) keys
      → HasLength same_key length_key whole view old true
      → AreAllowed same_key same undefined (length_defined same_key length_key whole view keys new writable) view

  -- a lean shadow follows a key by changes that are admitted; its facts hold of the view as before, it has the key, and
  -- stays lean
  abbrev pub FollowsKey : Type 0
  FollowsKey =
      (key : K) (shadow view : View K V) → HasDistinctKeys same_key shadow → KeepsFacts same_key shadow view
      → IsLean same_key shadow
      → AreAllowed same_key same undefined (followed_key same_key key shadow view) shadow
      × KeepsFacts same_key (changed_by same_key (followed_key same_key key shadow view) shadow) view
      × HasKey same_key key (changed_by same_key (followed_key same_key key shadow view) shadow) view
      × IsLean same_key (changed_by same_key (followed_key same_key key shadow view) shadow)

  abbrev pub FollowsWhole : Type 0
  FollowsWhole =
      (shadow view : View K V) → HasDistinctKeys same_key shadow → HasDistinctKeys same_key view
      → KeepsFacts same_key shadow view → IsLean same_key shadow
      → AreAllowed same_key same undefined (followed_whole same_key shadow view) shadow
      × KeepsFacts same_key (changed_by same_key (followed_whole same_key shadow view) shadow) view
      × HasWhole same_key (changed_by same_key (followed_whole same_key shadow view) shadow) view
      × IsLean same_key (changed_by same_key (followed_whole same_key shadow view) shadow)

  -- an answer that passes the checks against the view passes them against the lean shadow that followed it
  abbrev pub ShadowPasses : Type 0
  ShadowPasses =
      (deed : Deed K V) (shadow view : View K V) → KeepsFacts same_key shadow view → IsLean same_key shadow
      → HasFollowed same_key deed shadow view
      → Passes same_key same undefined deed view → Passes same_key same undefined deed shadow

  -- an answer that passes contradicts no fact of the view, and tells only facts of it
  abbrev pub PassingAgrees : Type 0
  PassingAgrees =
      (deed : Deed K V) (view : View K V) → GivesOneKind deed → Passes same_key same undefined deed view
      → ((fact : Fact K V) → Holds same_key fact view → contradicts same_key same undefined fact deed ≡ false)
      × AllByRecursion (λ fact. Holds same_key fact view) (tells deed)
      × (view.extensible ≡ false → AllByRecursion (λ fact. Holds same_key fact view) (tells_of_closed deed))

  -- so a method that began over one view, has an answer that passes against a later one, and ends over a third,
  -- contradicts nothing that held as it began, and tells only what holds as it ends
  abbrev pub EntryOwes : Type 0
  EntryOwes =
      (told : List (Fact K V)) (deed : Deed K V) (began answered ended : View K V) → GivesOneKind deed
      → AllByRecursion (λ fact. Holds same_key fact began) told
      → KeepsFacts same_key began answered → Passes same_key same undefined deed answered
      → KeepsFacts same_key answered ended
      → AllByRecursion (λ fact. contradicts same_key same undefined fact deed ≡ false) told
      × AllByRecursion (λ fact. Holds same_key fact ended) (tells deed)
      × (began.extensible ≡ false → AllByRecursion (λ fact. Holds same_key fact ended) (tells_of_closed deed))

  -- entries that are lawful stay so with one more that contradicts nothing of what was complete when it began
  abbrev pub OneMoreIsLawful : Type 0
  OneMoreIsLawful =
      (entries : List (Entry K V)) (entry : Entry K V)
      → ((place : ℕ) (other : Entry K V) → slice_get entries place ≡ Some other → other.began ≤ place)
      → entry.began ≤ length entries
      → Lawful same_key same undefined entries
      → AllByRecursion (λ fact. contradicts same_key same undefined fact entry.deed ≡ false)
      (Told (take entry.began entries) entry.side entry.object)
      → Lawful same_key same undefined (entries ++ (entry ∷ []))

  -- entries that were made over views that evolve are lawful
  abbrev pub WitnessedIsLawful : Type 0
  WitnessedIsLawful =
      (entries : List (Entry K V)) →
      ((place : ℕ) (entry : Entry K V) → slice_get entries place ≡ Some entry → GivesOneKind entry.deed)
      → IsWitnessed same_key same undefined entries → Lawful same_key same undefined entries

  -- what a method tells of the view is so of the lean shadow that followed it
  abbrev pub ShadowIsTold : Type 0
  ShadowIsTold =
      (deed : Deed K V) (shadow view : View K V) → KeepsFacts same_key shadow view → IsLean same_key shadow
      → HasFollowed same_key deed shadow view
      → (AllByRecursion (λ fact. Holds same_key fact view) (tells deed)
      → AllByRecursion (λ fact. Holds same_key fact shadow) (tells deed))
      × (shadow.extensible ≡ false → AllByRecursion (λ fact. Holds same_key fact view) (tells_of_closed deed)
      → AllByRecursion (λ fact. Holds same_key fact shadow) (tells_of_closed deed))

  -- the same of a whole shadow, which is alike to the view that it followed
  abbrev pub AlikeAgrees : Type 0
  AlikeAgrees =
      (sort_of : K → Sort) (shadow view : View K V) → IsAlike same_key sort_of view shadow
      → ((fact : Fact K V) → Holds same_key fact view → Holds same_key fact shadow)
      × ((deed : Deed K V) → Passes same_key same undefined deed view → Passes same_key same undefined deed shadow)

  -- that no other keys are there is contradicted exactly where it is, of some other key, that it is absent
  abbrev pub OnlyIsAbsent : Type 0
  OnlyIsAbsent =
      (keys : List K) (deed : Deed K V)
      → (contradicts same_key same undefined (Only keys) deed ≡ true
      → (key : K) × (list_any (same_key key) keys ≡ false)
      × (contradicts same_key same undefined (Absent key) deed ≡ true))
      × ((key : K) → list_any (same_key key) keys ≡ false
      → contradicts same_key same undefined (Absent key) deed ≡ true
      → contradicts same_key same undefined (Only keys) deed ≡ true)

  -- all that is told of an object stays so of its lean shadow, with the entry that is made after it followed
  abbrev pub ShadowKeepsTold : Type 0
  ShadowKeepsTold =
      (entries : List (Entry K V)) (entry : Entry K V) (shadow followed view : View K V)
      → ((place : ℕ) (other : Entry K V) → slice_get entries place ≡ Some other → other.began ≤ place)
      → entry.began ≤ length entries
      → AllByRecursion (λ fact. Holds same_key fact shadow) (Told entries entry.side entry.object)
      → KeepsFacts same_key shadow followed → KeepsFacts same_key followed view → IsLean same_key followed
      → HasFollowed same_key entry.deed followed view
      → AllByRecursion (λ fact. Holds same_key fact view) (tells entry.deed)
      → (closed_by entry.side entry.object (take entry.began entries) ≡ true
      → AllByRecursion (λ fact. Holds same_key fact view) (tells_of_closed entry.deed))
      → AllByRecursion (λ fact. Holds same_key fact followed)
      (Told (entries ++ (entry ∷ [])) entry.side entry.object)

  -- and of a whole shadow, which is alike to the view
  abbrev pub WholeKeepsTold : Type 0
  WholeKeepsTold =
      (sort_of : K → Sort) (entries : List (Entry K V)) (entry : Entry K V) (shadow followed view : View K V)
      → ((place : ℕ) (other : Entry K V) → slice_get entries place ≡ Some other → other.began ≤ place)
      → entry.began ≤ length entries
      → AllByRecursion (λ fact. Holds same_key fact shadow) (Told entries entry.side entry.object)
      → KeepsFacts same_key shadow followed → IsAlike same_key sort_of view followed
      → AllByRecursion (λ fact. Holds same_key fact view) (tells entry.deed)
      → (closed_by entry.side entry.object (take entry.began entries) ≡ true
      → AllByRecursion (λ fact. Holds same_key fact view) (tells_of_closed entry.deed))
      → AllByRecursion (λ fact. Holds same_key fact followed)
      (Told (entries ++ (entry ∷ [])) entry.side entry.object)

  -- what an ordinary object answers passes the checks
  abbrev pub OrdinaryPasses : Type 0
  OrdinaryPasses = (deed : Deed K V) (view : View K V) → IsOrdinary same_key same undefined deed view
      → Passes same_key same undefined deed view

-- the walk keeps a key exactly where it is the one that is wanted next
abbrev pub KeptInTurn : {K : Type 0} → (K → K → Bool) → Type 0
KeptInTurn {K} same_key =
    (keys later wanted : List K) (key : K) → IsDistinct same_key (keys ++ (key ∷ later))
    → list_any (same_key key) (kept same_key (keys ++ (key ∷ later)) wanted)
    ≡ is_first same_key key (drop (length (kept same_key keys wanted)) wanted)

-- the facts that are told with one entry more
abbrev pub OneMoreTells : (K V : Type 0) → Type 0
OneMoreTells K V =
    (entries : List (Entry K V)) (entry : Entry K V) (side object : ℕ)
    → ((place : ℕ) (other : Entry K V) → slice_get entries place ≡ Some other → other.began ≤ place)
    → entry.began ≤ length entries
    → Told (entries ++ (entry ∷ [])) side object ≡ Told entries side object
    ++ (if is_of side object entry then told_by entries entry else [])

-- moments at which an entry isn't complete yet, and all are that were as it began, keep the order that a witness asks
-- for
abbrev pub ClockOrders : Type 0 → Type 0 → Type 0
ClockOrders K V =
    (entries : List (Entry K V)) (complete moment : ℕ → ℕ)
    → ((one two : ℕ) → one ≤ two → complete one ≤ complete two)
    → ((place : ℕ) → complete (moment place) ≤ place)
    → ((place : ℕ) (entry : Entry K V) → slice_get entries place ≡ Some entry
    → entry.began ≤ complete (moment place))
    → (place : ℕ) (entry : Entry K V) → slice_get entries place ≡ Some entry → (earlier : ℕ)
    → earlier < entry.began → moment earlier ≤ moment place

-- the keys that a table gives in order are the own keys of its view, where no two keys have one array index
abbrev pub InOrderAreOwnKeys : Type 0 → Type 0
InOrderAreOwnKeys V =
    (view : View Key V) (ordered : List Key) → HasDistinctKeys equal view
    → IsInKeyOrder (keys_of view.properties) ordered
    → ((x y : Key) → list_any (equal x) (keys_of view.properties) ≡ true
    → list_any (equal y) (keys_of view.properties) ≡ true
    → is_index (sort_of_key x) ≡ true → index_of x ≡ index_of y → x ≡ y)
    → IsOwnKeys equal sort_of_key index_of view ordered
