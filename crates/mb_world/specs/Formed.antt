-- What holds of each world between the calls of a machine.
use Rattle.std.specs.Prelude.{ℕ, ◌<◌, ◌≤◌, ◌≡◌, ◌≢◌, ◌^◌, ◌-◌, ◌++◌, List, [], ◌∷◌, map, Option, Some, None, Bool, true, false, All, slice_get, IsSomeAnd, pos, negsuc, ℤ, nat_lt, nat_eq, is_some}
use Rattle.std.specs.List.{flat_map, IsDistinct}
use Rattle.mb_base.specs.declared.value.Side.{Side}
use Rattle.mb_base.specs.declared.value.Key.{Key}
use Rattle.mb_base.specs.declared.value.Key.TheVariants as k
use Rattle.mb_base.specs.declared.value.ScopeId.{ScopeId}
use Rattle.mb_base.specs.declared.value.ObjId.{ObjId}
use Rattle.mb_base.specs.declared.value.Value.{Value}
use Rattle.mb_base.specs.declared.value.Value.TheVariants as v
use Rattle.mb_desc.specs.declared.descriptor.Full.{Full}
use Rattle.mb_desc.specs.declared.descriptor.Full.TheVariants.{Datum, Accessor}
use Rattle.mb_world.specs.declared.cell.Code.{Code}
use Rattle.mb_world.specs.declared.cell.CellKind.{CellKind}
use Rattle.mb_world.specs.declared.cell.CellKind.TheVariants.{Array, Function, Proxy, Revoker, Membrane, Shadow, Collection}
use Rattle.mb_world.specs.declared.cell.Cell.{Cell}
use Rattle.mb_world.specs.declared.scope.Scope.{Scope}
use Rattle.mb_world.specs.declared.entry.Entry.{Entry}
use Rattle.mb_world.specs.declared.scope.Job.{Job}
use Rattle.mb_world.specs.declared.scope.Job.TheVariants as j
use Rattle.mb_world.specs.Value.{same_value}
use Rattle.mb_world.specs.Form.{Form, FunctionForm, FunctionDeclForm, ArrowForm, MethodForm, GetterForm, SetterForm}
use Rattle.mb_world.specs.Graph as graph
use Rattle.mb_world.specs.Graph.{Thing}
use Rattle.mb_world.specs.Intrinsics.{intrinsic}
use Rattle.mb_world.specs.Standard.{standard_at}
use Rattle.mb_world.specs.Objects.{thing_at, is_callable, is_proxy_kind, shape_of_kind, shape_of_thing}
use Rattle.mb_world.specs.Data.{Data, Script, cell_at, scope_at, built_in_of, program_of, length_units}
use Rattle.mb_world.specs.Ids.{Maybe}
use Rattle.mb_world.specs.Image.{names_of, Resolve, object_in, text_in, thing_in, program_in, rule_in, entry_in, Image}
use Rattle.mb_world.specs.Contained.{scope_home}

-- ---- values

-- a whole number has an absolute value below 2^53
abbrev pub is_whole : ℤ → Bool
is_whole (pos n) = nat_lt n (2 ^ 53)
is_whole (negsuc n) = nat_lt n (2 ^ 53 - 1)

abbrev pub InRange : Value → Type 0
InRange (v.Whole z) = is_whole z ≡ true
InRange x = Unit {0}

-- the values that stand in something
abbrev pub full_values : Full Value → List Value
full_values (Datum x w e c) = x ∷ []
full_values (Accessor g s e c) = g ∷ s ∷ []

abbrev pub option_values : Option Value → List Value
option_values None = []
option_values (Some x) = x ∷ []

abbrev pub pair_values : Option (Value × Value) → List Value
pair_values None = []
pair_values (Some p) = p.0 ∷ p.1 ∷ []

abbrev pub kind_values : CellKind → List Value
kind_values (Function code) = option_values code.bound_this
kind_values kind = []

abbrev pub cell_values : Cell → List Value
cell_values c =
    kind_values c.kind ++ (c.proto ∷ flat_map (λ p. full_values p.1) c.props) ++ flat_map pair_values c.slots

abbrev pub scope_values : Scope → List Value
scope_values s = flat_map (λ b. option_values b.value) s.names

abbrev pub job_values : Job → List Value
job_values j.Script = []
job_values (j.Call f) = f ∷ []

abbrev pub IsCallable : Data → Value → Type 0
IsCallable d x = is_callable (Image d []) (Resolve (names_of d) x) ≡ true

abbrev pub IsProxyKind : CellKind → Type 0
IsProxyKind (Proxy target handler shape) = Unit {0}
IsProxyKind kind = ⊥

-- ---- cells

abbrev pub IsNullOrObject : Value → Type 0
IsNullOrObject v.Null = Unit {0}
IsNullOrObject (v.Object o) = Unit {0}
IsNullOrObject x = ⊥

abbrev pub IsCallableOrNot : Data → Value → Type 0
IsCallableOrNot d v.Undefined = Unit {0}
IsCallableOrNot d x = IsCallable d x

-- a getter and a setter are undefined or callable
abbrev pub HasItsCallables : Data → Full Value → Type 0
HasItsCallables d (Datum x w e c) = Unit {0}
HasItsCallables d (Accessor g s e c) = IsCallableOrNot d g × IsCallableOrNot d s

-- the index of a key is below the length
abbrev pub IsBelow : ℕ → Key → Type 0
IsBelow n (k.Text text index) = index ≢ 2 ^ 32 - 1 → index < n
IsBelow n (k.Symbol symbol) = Unit {0}

-- the first property is `length` (ECMA-262 10.4.2): a fixed data property that no loop lists, a number below 2^32 that
-- is greater than every index
abbrev pub HasLength : Data → List (Key × Full Value) → Type 0
HasLength d ((k.Text text index, Datum (v.Whole (pos n)) w false false) ∷ rest) =
    (text_in (names_of d) text ≡ length_units) × (n < 2 ^ 32) × All (λ p. IsBelow n p.0) rest
HasLength d props = ⊥

-- an array has no label, and its `length`
abbrev pub IsArray : Data → CellKind → Cell → Type 0
IsArray d Array c = (c.label ≡ None) × HasLength d c.props
IsArray d kind c = Unit {0}

abbrev pub same_pair_key : Data → Option (Value × Value) → Option (Value × Value) → Bool
same_pair_key d (Some p) (Some q) = same_value (Resolve (names_of d) p.0) (Resolve (names_of d) q.0)
same_pair_key d _ _ = false

-- the pairs of a collection have distinct keys, and no other kind has slots
abbrev pub HasItsSlots : Data → CellKind → Cell → Type 0
HasItsSlots d (Collection coll) c = IsDistinct (same_pair_key d) c.slots
HasItsSlots d kind c = c.slots ≡ []

abbrev pub form_at : Data → Side → ℕ → Option Form
form_at d side n = slice_get (program_in d.texts (program_of d side)).forms n

-- a function node constructs or not, and binds `this` or not
abbrev pub function_of : Option Form → Option (Bool × Bool)
function_of (Some (FunctionForm x parts)) = Some (true, false)
function_of (Some (FunctionDeclForm x parts)) = Some (true, false)
function_of (Some (ArrowForm parts block)) = Some (false, true)
function_of (Some (MethodForm name parts)) = Some (false, false)
function_of (Some (GetterForm name parts)) = Some (false, false)
function_of (Some (SetterForm name parts)) = Some (false, false)
function_of form = None

pub record IsFunction (d : Data) (home : Side) (code : Code) : Type 0 where
  pub side_is : code.side ≡ home
  pub node_is : function_of (form_at d home code.node.0) ≡ Some (code.constructs, is_some code.bound_this)
  pub scope_is : scope_home d code.scope home

-- the object that an id stands for: of a membrane proxy the one behind
abbrev pub thing_of : Data → ObjId → Option Thing
thing_of d id = thing_at (Image d []) (object_in (names_of d) id)

abbrev pub HasItsKind : Data → Side → CellKind → Type 0
HasItsKind d home (Function code) = IsFunction d home code
-- the target of a script-made Proxy is none, and gives it its shape
HasItsKind d home (Proxy (Some target) (Some handler) shape) =
    IsSomeAnd (thing_of d target) (λ t. (is_proxy_kind t.kind ≡ false) × (shape_of_kind t.kind ≡ shape))
HasItsKind d home (Proxy None None shape) = Unit {0}
HasItsKind d home (Proxy target handler shape) = ⊥
HasItsKind d home (Revoker proxy) = IsSomeAnd (cell_at d proxy) (λ c. IsProxyKind c.kind)
-- a shadow has the shape of what is behind
HasItsKind d home (Membrane behind shadow) =
    IsSomeAnd (cell_at d shadow) (λ c. c.kind ≡ Shadow (shape_of_thing (thing_of d behind)))
HasItsKind d home kind = Unit {0}

pub record FormedCell (d : Data) (c : Cell) : Type 0 where
  pub home : c.home.0 < d.sides
  pub wholes : All InRange (cell_values c)
  pub prototype : IsNullOrObject c.proto
  pub callables : All (λ p. HasItsCallables d p.1) c.props
  pub array : IsArray d c.kind c
  pub slots : HasItsSlots d c.kind c
  pub kind : HasItsKind d c.home c.kind

-- ---- scopes, entries, built-ins, joined worlds

pub record FormedScope (d : Data) (id : ℕ) (s : Scope) : Type 0 where
  pub home : s.home.0 < d.sides
  pub wholes : All InRange (scope_values s)
  pub parent : Maybe (λ p. (p.0 < id) × scope_home d p s.home) s.parent
  pub distinct : IsDistinct (λ a b. nat_eq a.name.0 b.name.0) s.names

pub record FormedEntry (IsEntry : graph.Entry → Type 0) (d : Data) (place : ℕ) (e : Entry) : Type 0 where
  pub side : e.side.0 < d.sides
  pub began : e.began ≤ place
  pub form : IsEntry (entry_in d.texts e)

-- a built-in is as the table has it, but for its owner
abbrev pub as_standard : Thing → Thing
as_standard t = record t { owner = None }

-- a side has the built-in of that place
pub record HasBuiltIn (d : Data) (side : Side) (place : ℕ) : Type 0 where
  pub id : ObjId
  pub cell : Cell
  pub found : built_in_of d.joined d.cells side place ≡ Some id
  pub there : cell_at d id ≡ Some cell
  pub standard : Some (as_standard (thing_in (names_of d) cell)) ≡ standard_at place

abbrev pub is_of_membrane : CellKind → Bool
is_of_membrane (Membrane behind shadow) = true
is_of_membrane (Shadow shape) = true
is_of_membrane _ = false

pub record IsJoined (d : Data) : Type 0 where
  pub two_sides : d.sides ≡ 2
  pub rules : d.rules ≡ []
  pub membrane : All (λ c. is_of_membrane c.kind ≡ false) d.cells
  pub revoked : d.revoked ≡ false

-- What holds of a world, where `IsProgram` tells which scripts were read, `AreRules` which rules, and `IsEntry` which
-- entries have the form of their op.
pub record FormedBy (IsProgram : Script → Type 0) (AreRules : List graph.Rule → Type 0) (IsEntry : graph.Entry → Type 0)
    (d : Data) : Type 0 where
  pub sides : (2 ≤ d.sides) × (d.sides ≤ 8)
  pub built_ins : (side : Side) (place : ℕ) → side.0 < d.sides → intrinsic place ≢ None → HasBuiltIn d side place
  pub programs : All (Maybe IsProgram) d.programs
  pub rules : AreRules (map (rule_in (names_of d)) d.rules)
  pub joined : d.joined ≡ true → IsJoined d
  pub cells : All (FormedCell d) d.cells
  pub scopes : (id : ScopeId) (s : Scope) → scope_at d id ≡ Some s → FormedScope d id.0 s
  pub jobs : All (All (λ x. All (IsCallable d) (job_values x))) d.queues
  pub entries : (place : ℕ) (e : Entry) → slice_get d.entries place ≡ Some e → FormedEntry IsEntry d place e
