-- What holds of a machine with its world between the steps, and what each step keeps.
use Rattle.mb_frames.specs.Real.{IsReal}
use Rattle.mb_frames.specs.declared.frame.Frame.{Frame}
use Rattle.mb_frames.specs.declared.frame.Frame.TheVariants as x
use Rattle.mb_frames.specs.declared.task.Task.{Task}
use Rattle.mb_frames.specs.declared.task.Task.TheVariants as task
use Rattle.std.specs.Prelude.{Bool, Err, Ok, Result, false, true}
use Rattle.mb_base.specs.declared.value.ScopeId.{ScopeId}
use Rattle.mb_frames.specs.Stepping.{Grew}
use Rattle.mb_world.specs.Ids.{ObjIn, ScopeIn, ValueIn}
use Rattle.mb_frames.specs.Held.{HeldFunction, HeldKeyIf, HeldVisited}
use Rattle.std.specs.List.{AllByRecursion, flat_map}
use Rattle.std.specs.Prelude.{◌++◌, ◌<◌, All, IsSomeAnd, List, None, Option, Some, [], false, length, map, slice_get, true, ℕ, ◌∷◌, ◌≡◌, ◌≢◌, ◌≤◌, ◌⊎◌}
use Rattle.mb_base.specs.declared.value.ObjId.{ObjId}
use Rattle.mb_base.specs.declared.value.Side.{Side}
use Rattle.mb_desc.specs.Descriptors.{IsOfOneKind}
use Rattle.mb_desc.specs.View.{View}
use Rattle.mb_desc.specs.declared.descriptor.Desc.{Desc}
use Rattle.mb_desc.specs.declared.descriptor.Full.{Full}
use Rattle.mb_frames.specs.Held.{Held, HeldArray, HeldBegan, HeldCallable, HeldCollection, HeldConstructor, HeldDesc, HeldEntered, HeldFields, HeldFull, HeldKey, HeldKeys, HeldNode, HeldNodeIf, HeldObject, HeldPlace, HeldPlain, HeldPrototype, HeldReal, HeldScope, HeldSide, HeldSign, HeldText, HeldTextIf, HeldValue, HeldValues}
use Rattle.mb_frames.specs.Holding.{MachineIn, done_held, frame_held, move_held}
use Rattle.mb_frames.specs.Kinds.{is_evaluated}
use Rattle.mb_frames.specs.Sorts.{AreLinked, IsOfSort, Sort, fits, frame_sort, stack_sort}
use Rattle.mb_frames.specs.Standing.{Across, Here, Passage, done_by, forms_at, home_of, left_by, move_of}
use Rattle.mb_frames.specs.Stepping.{HasItsOutcome, MayCross}
use Rattle.mb_view.specs.Views.{Evolves}
use Rattle.mb_frames.specs.Grammatical.{asks_objects}
use Rattle.mb_world.specs.Contained.{Contained, IsMembrane, IsOwn, Opposite, PairedFrom, in_full, in_option, in_value, scope_home}
use Rattle.mb_world.specs.Data.{Data, Script, cell_at}
use Rattle.mb_world.specs.Formed.{FormedBy, HasItsCallables, InRange, IsCallable, IsCallableOrNot, IsNullOrObject, full_values, is_of_membrane, option_values}
use Rattle.mb_world.specs.Grows.{Grows}
use Rattle.mb_world.specs.Ids.{HasItsIds, Maybe}
use Rattle.mb_world.specs.Image.{Image, Names, Resolve, full_in, key_in, names_of, object_in}
use Rattle.mb_world.specs.Intrinsics.{intrinsic}
use Rattle.mb_world.specs.Key.{Named, PropertyKey, SymbolKey, index_of_key, same_key}
use Rattle.mb_world.specs.Objects.{is_constructor, thing_at}
use Rattle.mb_world.specs.Value.{Val}
use Rattle.mb_base.specs.declared.value.Value.{Value}
use Rattle.mb_frames.specs.declared.machine.Waiting.{Waiting}
use Rattle.mb_frames.specs.declared.machine.Machine.{Machine}
use Rattle.mb_frames.specs.declared.machine.Halt.{Halt}
use Rattle.mb_frames.specs.declared.machine.Halt.TheVariants.{Spent as SpentHalt, NoMemory}
use Rattle.mb_world.specs.declared.cell.Cell.{Cell}
use Rattle.mb_world.specs.declared.cell.CellKind.{CellKind}
use Rattle.mb_world.specs.declared.cell.CellKind.TheVariants as kind
use Rattle.mb_ordinary.specs.Objects.{is_ordinary}
use Rattle.mb_world.specs.Graph as graph
use Rattle.mb_view.specs.Views as views

-- ---- a machine is formed: what was found of what stands in a frame of that home

abbrev pub desc_values : Desc Value → List Value
desc_values given = option_values given.value ++ option_values given.get ++ option_values given.set

-- a getter or setter that is there is undefined or callable, and each whole number is in range
pub record AreFields (d : Data) (given : Desc Value) : Type 0 where
  pub get : Maybe (IsCallableOrNot d) given.get
  pub set : Maybe (IsCallableOrNot d) given.set
  pub wholes : AllByRecursion InRange (desc_values given)

pub record IsProperty (d : Data) (full : Full Value) : Type 0 where
  pub callables : HasItsCallables d full
  pub wholes : AllByRecursion InRange (full_values full)

-- a collection, or one that stands behind a membrane proxy
abbrev pub IsCollectionKind : graph.Kind → Type 0
IsCollectionKind (graph.Collection coll slots) = Unit {0}
IsCollectionKind other = ⊥

abbrev pub IsCollectionAt : Data → ObjId → Type 0
IsCollectionAt d id = (t : graph.Thing) × (thing_at (Image d []) (object_in (names_of d) id) ≡ Some t)
    × IsCollectionKind t.kind

-- a value that constructs (ECMA-262 7.2.4)
abbrev pub IsConstructor : Data → Value → Type 0
IsConstructor d y = is_constructor (Image d []) (Resolve (names_of d) y) ≡ true

-- a membrane proxy of that home
abbrev pub IsProxyAt : Data → Side → ObjId → Type 0
IsProxyAt d home id = (behind shadow : ObjId) × IsMembrane d id home behind shadow

-- an object of that home and kind
abbrev pub IsOfKind : Data → Side → CellKind → ObjId → Type 0
IsOfKind d home wanted id = IsSomeAnd (cell_at d id) (λ c. (c.home ≡ home) × (c.kind ≡ wanted))

-- what entering a function takes: a function of a script, or what revokes a Proxy (ECMA-262 10.2, 28.2.2.1)
abbrev pub is_function_kind : CellKind → Bool
is_function_kind (kind.Function code) = true
is_function_kind (kind.Revoker proxy) = true
is_function_kind other = false

abbrev pub IsFunctionAt : Data → ObjId → Type 0
IsFunctionAt d id = IsSomeAnd (cell_at d id) (λ c. is_function_kind c.kind ≡ true)

abbrev pub IsSound : Data → Side → Held → Type 0
IsSound d home (HeldValue y) = InRange y
IsSound d home (HeldValues ys) = All InRange ys
IsSound d home (HeldCallable y) = IsCallable d y
IsSound d home (HeldConstructor y) = IsConstructor d y
IsSound d home (HeldPrototype y) = IsNullOrObject y
IsSound d home (HeldVisited y) = IsNullOrObject y
IsSound d home (HeldObject id) = Unit {0}
IsSound d home (HeldFunction id) = IsFunctionAt d id
IsSound d home (HeldCollection id) = IsCollectionAt d id
IsSound d home (HeldArray id) = IsOfKind d home kind.Array id
IsSound d home (HeldPlain id) = IsOfKind d home kind.Plain id
IsSound d home (HeldKey key) = Unit {0}
IsSound d home (HeldKeys keys) = Unit {0}
IsSound d home (HeldKeyIf key) = Unit {0}
IsSound d home (HeldText text) = Unit {0}
IsSound d home (HeldTextIf text) = Unit {0}
IsSound d home (HeldScope scope) = scope_home d scope home
IsSound d home (HeldNode test node) = test (slice_get (forms_at d home) node) ≡ true
IsSound d home (HeldNodeIf id) = Maybe (λ node. is_evaluated (slice_get (forms_at d home) node.0) ≡ true) id
IsSound d home (HeldSign sign) = asks_objects sign ≡ false
IsSound d home (HeldDesc given) = IsOfOneKind given × AreFields d given
IsSound d home (HeldFields given) = AreFields d given
IsSound d home (HeldFull full) = IsProperty d full
IsSound d home (HeldReal full) = Maybe (IsProperty d) full
IsSound d home (HeldPlace place) = intrinsic place ≢ None
IsSound d home (HeldBegan began) = began ≤ length d.entries
IsSound d home (HeldEntered id) = d.joined ≡ false → IsProxyAt d home id
IsSound d home (HeldSide side) = (side.0 < d.sides) × (d.joined ≡ false → side ≡ home)

abbrev pub AreSound : Data → Side → List Held → Type 0
AreSound d home held = AllByRecursion (IsSound d home) held

abbrev pub IsStackSound : Data → List Waiting → Type 0
IsStackSound d stack = AllByRecursion (λ y. AreSound d y.home (frame_held y.frame)) stack

-- what was found stays found: what is called or constructs, functions, collections, arrays and plain objects, whose a
-- scope is, the entries, and which objects have a membrane proxy
pub record StaysFound (d d' : Data) : Type 0 where
  pub grew : Grew d d'
  pub callable : (y : Value) → ValueIn d y → IsCallable d y → IsCallable d' y
  pub constructor : (y : Value) → ValueIn d y → IsConstructor d y → IsConstructor d' y
  pub functions : (id : ObjId) → IsFunctionAt d id → IsFunctionAt d' id
  pub collection : (id : ObjId) → ObjIn d id → IsCollectionAt d id → IsCollectionAt d' id
  pub arrays : (id : ObjId) (home : Side) → IsOfKind d home kind.Array id → IsOfKind d' home kind.Array id
  pub plain : (id : ObjId) (home : Side) → IsOfKind d home kind.Plain id → IsOfKind d' home kind.Plain id
  pub scopes : (id : ScopeId) (home : Side) → ScopeIn d id → scope_home d id home → scope_home d' id home
  pub entries : length d.entries ≤ length d'.entries
  pub proxies : (id : ObjId) (home : Side) → IsProxyAt d home id → IsProxyAt d' home id

-- ---- what starts on top

-- the object whose prototype the walk sets is no Proxy, and extensible still (ECMA-262 10.1.2.1, steps 4 and 5)
abbrev pub MayWalk : Cell → Type 0
MayWalk c = (is_ordinary c.kind ≡ true) × (c.extensible ≡ true)

-- what a task takes for granted that is to begin; what a walk visits names no shadow
abbrev pub IsFitTask : Data → Task → Type 0
IsFitTask d (task.Walk object given next) = IsSomeAnd (cell_at d object) MayWalk × IsReal d next
IsFitTask d t = Unit {0}

-- one that has begun makes no entry
abbrev pub IsFitBegun : Data → Task → Type 0
IsFitBegun d (task.Perform method object viewer enters) = enters ≡ false
IsFitBegun d t = IsFitTask d t

abbrev pub IsFitFrame : Data → Frame → Type 0
IsFitFrame d (x.Begin t) = IsFitTask d t
IsFitFrame d (x.Begun t) = IsFitBegun d t
IsFitFrame d (x.Anew t) = IsFitBegun d t
IsFitFrame d y = Unit {0}

abbrev pub AreFit : Data → List Waiting → Type 0
AreFit d stack = AllByRecursion (λ y. IsFitFrame d y.frame) stack

-- A machine is formed with its world. The sort is that of the outcome, which is there or is to come.
pub record FormedMachine (d : Data) (m : Machine) : Type 0 where
  pub ids : MachineIn d m
  pub homes : AllByRecursion (λ y. y.home.0 < d.sides) m.stack.items
  pub now : m.now.0 < d.sides
  pub frames : IsStackSound d m.stack.items
  pub fit : AreFit d m.stack.items
  pub done : AreSound d m.now (done_held m.done)
  pub outcome : HasItsOutcome m.stack.items m.done
  pub sort : Sort
  pub linked : AreLinked (forms_at d) m.stack.items sort
  pub of_sort : Maybe (IsOfSort sort) m.done

-- the world of a formed machine, with the parameters of what holds of it
pub record FormedWorld (IsProgram : Script → Type 0) (AreRules : List graph.Rule → Type 0)
    (IsEntry : graph.Entry → Type 0) (d : Data) : Type 0 where
  pub formed : FormedBy IsProgram AreRules IsEntry d
  pub ids : HasItsIds d

pub record Formed (IsProgram : Script → Type 0) (AreRules : List graph.Rule → Type 0) (IsEntry : graph.Entry → Type 0)
    (d : Data) (m : Machine) : Type 0 where
  pub world : FormedWorld IsProgram AreRules IsEntry d
  pub machine : FormedMachine d m

-- ---- what goes on in the place of a frame of a formed machine

-- What it puts on the stack, and its outcome, are sound for the home of each; `given` is the sort of the outcome that
-- is there or is to come, and what the whole part then gives is of the sort that the frame was to give.
pub record GoesOnFormed (d : Data) (wanted : Sort) (m : Passage) : Type 0 where
  pub homes : AllByRecursion (λ y. y.home.0 < d.sides) (left_by m)
  pub now : (home_of m).0 < d.sides
  pub frames : IsStackSound d (left_by m)
  pub fit : AreFit d (left_by m)
  pub done : AreSound d (home_of m) (done_held (done_by (move_of m)))
  pub given : Sort
  pub of_sort : Maybe (IsOfSort given) (done_by (move_of m))
  pub linked : AreLinked (forms_at d) (left_by m) given
  pub fitting : fits (stack_sort (forms_at d) (left_by m) given) wanted ≡ true

-- the sort that a frame is to give, where that of the outcome on top is `sort`
abbrev pub sort_by : Data → Waiting → Sort → Sort
sort_by d y sort = frame_sort (forms_at d y.home) y.frame sort

-- what every step call answers of a formed machine: its world stays formed, and so does the machine where the step was
-- made; nothing is said where memory was refused
abbrev pub FormedAfter : (Script → Type 0) → (List graph.Rule → Type 0) → (graph.Entry → Type 0)
    → Result (Unit {0}) Halt → Data → Machine → Type 0
FormedAfter IsProgram AreRules IsEntry (Ok u) d m = Formed IsProgram AreRules IsEntry d m
FormedAfter IsProgram AreRules IsEntry (Err SpentHalt) d m = FormedWorld IsProgram AreRules IsEntry d
FormedAfter IsProgram AreRules IsEntry (Err NoMemory) d m = Unit {0}

-- ---- a machine is contained: each reference is one of its home

abbrev pub in_desc : Desc Value → List ObjId
in_desc given = flat_map in_value (desc_values given)

abbrev pub in_held : Held → List ObjId
in_held (HeldValue y) = in_value y
in_held (HeldValues ys) = flat_map in_value ys
in_held (HeldCallable y) = in_value y
in_held (HeldConstructor y) = in_value y
in_held (HeldPrototype y) = in_value y
in_held (HeldVisited y) = []
in_held (HeldObject id) = id ∷ []
in_held (HeldFunction id) = id ∷ []
in_held (HeldCollection id) = id ∷ []
in_held (HeldArray id) = id ∷ []
in_held (HeldPlain id) = id ∷ []
in_held (HeldKey key) = []
in_held (HeldKeys keys) = []
in_held (HeldKeyIf key) = []
in_held (HeldText text) = []
in_held (HeldTextIf text) = []
in_held (HeldScope scope) = []
in_held (HeldNode test node) = []
in_held (HeldNodeIf id) = []
in_held (HeldSign sign) = []
in_held (HeldDesc given) = in_desc given
in_held (HeldFields given) = in_desc given
in_held (HeldFull full) = in_full full
in_held (HeldReal full) = in_option in_full full
in_held (HeldPlace place) = []
in_held (HeldBegan began) = []
in_held (HeldEntered id) = id ∷ []
in_held (HeldSide side) = []

-- what stands in something of that home
abbrev pub AreOwn : Data → Side → List Held → Type 0
AreOwn d home held = AllByRecursion (λ p. All (IsOwn d home) (in_held p)) held

abbrev pub home_above : List Waiting → Side → Side
home_above [] now = now
home_above (y ∷ above) now = y.home

abbrev pub AreAtHome : List Waiting → Side → Type 0
AreAtHome [] now = Unit {0}
AreAtHome (y ∷ above) now = (y.home ≡ home_above above now ⊎ MayCross y.frame) × AreAtHome above now

pub record MachineContained (d : Data) (m : Machine) : Type 0 where
  pub world : Contained d
  pub frames : AllByRecursion (λ y. AreOwn d y.home (frame_held y.frame)) m.stack.items
  pub done : AreOwn d m.now (done_held m.done)
  pub homes : AreAtHome m.stack.items m.now

-- what a home owns it goes on owning
abbrev pub StaysOwn : Data → Data → Type 0
StaysOwn d d' = (side : Side) (o : ObjId) → ObjIn d o → IsOwn d side o → IsOwn d' side o

-- what goes on in the place of a frame holds only what its homes own
abbrev pub IsOwnBy : Data → Passage → Type 0
IsOwnBy d (Here home m) = AreOwn d home (move_held m)
IsOwnBy d (Across y home m) = AreOwn d y.home (frame_held y.frame) × AreOwn d home (move_held m)

-- it stands at the home of that frame, so that nothing changed for those below
abbrev pub StandsAt : Side → Passage → Type 0
StandsAt side (Here home m) = home ≡ side
StandsAt side (Across y home m) = y.home ≡ side

-- ---- what a step of a home keeps in a world that isn't joined, but for a step of the membrane

-- the kind is as it was, but that a script-made Proxy may have lost its target and its handler
abbrev pub KeepsKind : CellKind → CellKind → Type 0
KeepsKind (kind.Proxy (Some target) handler shape) later =
    (later ≡ kind.Proxy (Some target) handler shape) ⊎ (later ≡ kind.Proxy None None shape)
KeepsKind before later = later ≡ before

-- an object as its cell shows it
abbrev pub cell_view : Names → Cell → View PropertyKey Val
cell_view n c = record {
  prototype = Resolve n c.proto;
  extensible = c.extensible;
  properties = map (λ p. (key_in n p.0, full_in n p.1)) c.props;
}

abbrev pub text_sort : Option ℕ → views.Sort
text_sort None = views.Text
text_sort (Some index) = views.Index

abbrev pub key_sort : PropertyKey → views.Sort
key_sort (Named text) = text_sort (index_of_key (Named text))
key_sort (SymbolKey symbol) = views.Symbol

pub record KeepsCell (d d' : Data) (c c' : Cell) : Type 0 where
  pub home : c'.home ≡ c.home
  pub label : c'.label ≡ c.label
  pub kind : KeepsKind c.kind c'.kind
  pub evolves : Evolves same_key key_sort (cell_view (names_of d) c) (cell_view (names_of d') c')

pub record KeptWorld (home : Side) (d d' : Data) : Type 0 where
  pub contained : Contained d'
  pub paired : PairedFrom d d'
  pub rules : d'.rules ≡ d.rules
  pub entries : d'.entries ≡ d.entries
  pub revoked : d'.revoked ≡ d.revoked
  pub joined : d'.joined ≡ d.joined
  -- the membrane proxies and shadows are those of before, as they were
  pub membrane : (id : ObjId) (c : Cell) → is_of_membrane c.kind ≡ true →
      (cell_at d id ≡ Some c → cell_at d' id ≡ Some c) × (cell_at d' id ≡ Some c → cell_at d id ≡ Some c)
  pub resolves : Grows d d'
  pub opposite : Opposite d' home ≡ Opposite d home
  pub cells : (id : ObjId) (c : Cell) → cell_at d id ≡ Some c →
      (c' : Cell) × (cell_at d' id ≡ Some c') × KeepsCell d d' c c'

-- the step took the top frame, of that home, from above these frames, and left others of that home in its place
pub record Kept (home : Side) (below : List Waiting) (d d' : Data) (m' : Machine) : Type 0 where
  pub world : KeptWorld home d d'
  pub machine : MachineContained d' m'
  pub now : m'.now ≡ home
  pub pushed : (frames : List Waiting) → m'.stack.items ≡ below ++ frames →
      AllByRecursion (λ y. y.home ≡ home) frames

abbrev pub KeptAfter : Result (Unit {0}) Halt → Side → List Waiting → Data → Data → Machine → Type 0
KeptAfter (Ok u) home below d d' m' = Kept home below d d' m'
KeptAfter (Err halt) home below d d' m' = KeptWorld home d d'

-- what every step call but that of the membrane keeps besides in a world that isn't joined, after a halt too
abbrev pub StepsKept : Result (Unit {0}) Halt → Machine → Machine → Data → Data → Type 0
StepsKept result m m' d d' = d.joined ≡ false → (below : List Waiting) (top : Waiting) →
    m.stack.items ≡ below ++ (top ∷ []) → KeptAfter result top.home below d d' m'
