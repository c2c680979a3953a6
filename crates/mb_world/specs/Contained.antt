-- Each side holds only its own, and has one proxy for each foreign object.
use Rattle.std.specs.Prelude.{ℕ, suc, ◌<◌, ◌≡◌, ◌≢◌, ◌++◌, List, [], ◌∷◌, Option, Some, None, Bool, true, false, not, nat_eq, All, IsSomeAnd}
use Rattle.std.specs.List.{filter, flat_map}
use Rattle.mb_base.specs.declared.value.Side.{Side}
use Rattle.mb_base.specs.declared.value.ObjId.{ObjId}
use Rattle.mb_base.specs.declared.value.ScopeId.{ScopeId}
use Rattle.mb_base.specs.declared.value.Value.{Value}
use Rattle.mb_base.specs.declared.value.Value.TheVariants as v
use Rattle.mb_desc.specs.declared.descriptor.Full.{Full}
use Rattle.mb_desc.specs.declared.descriptor.Full.TheVariants.{Datum, Accessor}
use Rattle.mb_world.specs.declared.cell.CellKind.{CellKind}
use Rattle.mb_world.specs.declared.cell.CellKind.TheVariants.{Function, BuiltIn, Proxy, Revoker, Membrane, Shadow}
use Rattle.mb_world.specs.declared.cell.Cell.{Cell}
use Rattle.mb_world.specs.declared.scope.Scope.{Scope}
use Rattle.mb_world.specs.declared.scope.Job.{Job}
use Rattle.mb_world.specs.declared.scope.Job.TheVariants as j
use Rattle.mb_world.specs.Data.{Data, Counted, stand, cell_at, scope_at, queue_of, same_side, serial_of}
use Rattle.mb_world.specs.Intrinsics.{intrinsic}

-- ---- the references that stand in something

abbrev pub in_option : {A : Type 0} → (A → List ObjId) → Option A → List ObjId
in_option f None = []
in_option f (Some a) = f a

abbrev pub in_id : ObjId → List ObjId
in_id o = o ∷ []

-- a symbol is no reference
abbrev pub in_value : Value → List ObjId
in_value (v.Object o) = o ∷ []
in_value _ = []

abbrev pub in_full : Full Value → List ObjId
in_full (Datum x w e c) = in_value x
in_full (Accessor g s e c) = in_value g ++ in_value s

-- those of a membrane proxy are its exceptions
abbrev pub in_kind : CellKind → List ObjId
in_kind (Function code) = in_option in_value code.bound_this
in_kind (Proxy target handler shape) = in_option in_id target ++ in_option in_id handler
in_kind (Revoker proxy) = proxy ∷ []
in_kind _ = []

abbrev pub in_pair : Value × Value → List ObjId
in_pair p = in_value p.0 ++ in_value p.1

abbrev pub in_cell : Cell → List ObjId
in_cell c =
    in_kind c.kind ++ in_value c.proto ++ flat_map (λ p. in_full p.1) c.props ++ flat_map (in_option in_pair) c.slots

abbrev pub in_scope : Scope → List ObjId
in_scope s = flat_map (λ b. in_option in_value b.value) s.names

abbrev pub in_job : Job → List ObjId
in_job j.Script = []
in_job (j.Call f) = in_value f

-- ---- whose they are

abbrev pub is_shadow : CellKind → Bool
is_shadow (Shadow shape) = true
is_shadow kind = false

-- the cell is of that home, and no shadow
abbrev pub IsOwn : Data → Side → ObjId → Type 0
IsOwn d side o = IsSomeAnd (cell_at d o) (λ c. (c.home ≡ side) × (is_shadow c.kind ≡ false))

-- the two references of a membrane proxy: an object of another home, and a shadow of its own
abbrev pub HasItsTwo : Data → Side → CellKind → Type 0
HasItsTwo d side (Membrane behind shadow) =
    IsSomeAnd (cell_at d behind) (λ c. (same_side c.home side ≡ false) × (is_shadow c.kind ≡ false))
    × IsSomeAnd (cell_at d shadow) (λ c. (c.home ≡ side) × (is_shadow c.kind ≡ true))
HasItsTwo d side kind = Unit {0}

abbrev pub IsOfTable : CellKind → Type 0
IsOfTable (BuiltIn place) = intrinsic place ≢ None
IsOfTable kind = Unit {0}

abbrev pub scope_home : Data → ScopeId → Side → Type 0
scope_home d s side = IsSomeAnd (scope_at d s) (λ x. x.home ≡ side)

pub record Contained (d : Data) : Type 0 where
  pub cells_own : All (λ c. All (IsOwn d c.home) (in_cell c)) d.cells
  pub two_of_proxies : All (λ c. HasItsTwo d c.home c.kind) d.cells
  pub scopes_own : All (λ s. All (IsOwn d s.home) (in_scope s)) d.scopes
  pub jobs_own : (side : Side) → side.0 < 8 → All (λ x. All (IsOwn d side) (in_job x)) (queue_of d side)
  -- each built-in is one of the table, and a side has no two for one place
  pub of_table : All (λ c. IsOfTable c.kind) d.cells
  pub one_for_a_place : (i k : ObjId) (place : ℕ) (c e : Cell) → cell_at d i ≡ Some c → cell_at d k ≡ Some e →
      c.home ≡ e.home → c.kind ≡ BuiltIn place → e.kind ≡ BuiltIn place → i ≡ k

-- ---- proxies

-- the cell of that id is a membrane proxy of that home
pub record IsMembrane (d : Data) (id : ObjId) (home : Side) (behind shadow : ObjId) : Type 0 where
  pub cell : Cell
  pub there : cell_at d id ≡ Some cell
  pub home_is : cell.home ≡ home
  pub kind_is : cell.kind ≡ Membrane behind shadow

-- the side has a proxy of the object with that number
pub record HasProxyOf (d : Data) (side : Side) (serial : ℕ) : Type 0 where
  pub id : ObjId
  pub behind : ObjId
  pub shadow : ObjId
  pub proxy : IsMembrane d id side behind shadow
  pub number : serial_of d.cells behind ≡ Some serial

pub record Paired (d : Data) : Type 0 where
  -- what stands behind a proxy is no proxy, shadow or built-in
  pub behind_is_object : (id behind shadow : ObjId) (side : Side) → IsMembrane d id side behind shadow →
      IsSomeAnd (cell_at d behind) (λ c. stand c ≡ Counted)
  -- a home has one proxy before an object, and shares no shadow between two
  pub one_for_an_object : (i k behind s t : ObjId) (side : Side) → IsMembrane d i side behind s →
      IsMembrane d k side behind t → i ≡ k
  pub one_for_a_shadow : (i k a b shadow : ObjId) (side : Side) → IsMembrane d i side a shadow →
      IsMembrane d k side b shadow → i ≡ k
  -- in a world that isn't joined, the side of an entry has a proxy of the entry's object
  pub proxy_of_entry : d.joined ≡ false → All (λ e. HasProxyOf d e.side e.object) d.entries

-- each membrane proxy of a world is one of a later world
abbrev pub KeepsProxies : Data → Data → Type 0
KeepsProxies d d' = (id behind shadow : ObjId) (side : Side) →
    IsMembrane d id side behind shadow → IsMembrane d' id side behind shadow

-- the later world is paired, and has the proxies of the earlier one
pub record PairedFrom (d d' : Data) : Type 0 where
  pub paired : Paired d'
  pub keeps : KeepsProxies d d'

-- ---- all that other homes own

abbrev pub numbered : {A : Type 0} → ℕ → List A → List (ℕ × A)
numbered n [] = []
numbered n (x ∷ xs) = (n, x) ∷ numbered (suc n) xs

-- cells and scopes with their ids, and queues with their sides
pub record Owned : Type 0 where
  pub cells : List (ℕ × Cell)
  pub scopes : List (ℕ × Scope)
  pub queues : List (ℕ × List Job)

-- what every side but this one owns
abbrev pub Opposite : Data → Side → Owned
Opposite d side = record {
  cells = filter (λ p. not (same_side p.1.home side)) (numbered 0 d.cells);
  scopes = filter (λ p. not (same_side p.1.home side)) (numbered 0 d.scopes);
  queues = filter (λ p. not (nat_eq p.0 side.0)) (numbered 0 d.queues);
}
