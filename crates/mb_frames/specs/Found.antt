-- What a home may hold of what stands in a ready world: its objects, and what stands in its cells and scopes.
use Rattle.std.specs.Prelude.{◌≡◌, All, Some, true, ℕ}
use Rattle.mb_base.specs.declared.value.ObjId.{ObjId}
use Rattle.mb_base.specs.declared.value.Side.{Side}
use Rattle.mb_base.specs.declared.value.Value.TheVariants as v
use Rattle.mb_frames.specs.Held.{HeldArray, HeldCallable, HeldCollection, HeldConstructor, HeldFull, HeldKey, HeldNode, HeldObject, HeldPlain, HeldPrototype, HeldScope, HeldText, HeldTextIf, HeldValue}
use Rattle.mb_frames.specs.Kinds.{is_function_form}
use Rattle.mb_frames.specs.Ready.{MayHold}
use Rattle.mb_world.specs.Data.{Data, cell_at, is_collection}
use Rattle.mb_world.specs.Ids.{Maybe}
use Rattle.mb_world.specs.Image.{names_of, thing_in}
use Rattle.mb_world.specs.Objects.{kind_calls, kind_constructs}
use Rattle.mb_world.specs.declared.cell.Cell.{Cell}
use Rattle.mb_world.specs.declared.cell.CellKind.{CellKind}
use Rattle.mb_world.specs.declared.cell.CellKind.TheVariants.{Array, BuiltIn, Function, Plain, Proxy, Revoker}
use Rattle.mb_world.specs.declared.cell.Code.{Code}
use Rattle.mb_world.specs.declared.scope.Job.{Job}
use Rattle.mb_world.specs.declared.scope.Job.TheVariants as j
use Rattle.mb_world.specs.declared.scope.Scope.{Scope}

-- ---- objects

-- an object may be held as what it is
pub record IsHeldAs (d : Data) (home : Side) (id : ObjId) (c : Cell) : Type 0 where
  pub object : MayHold d home (HeldObject id)
  pub value : MayHold d home (HeldValue (v.Object id))
  pub prototype : MayHold d home (HeldPrototype (v.Object id))
  pub array : c.home ≡ home → c.kind ≡ Array → MayHold d home (HeldArray id)
  pub plain : c.home ≡ home → c.kind ≡ Plain → MayHold d home (HeldPlain id)
  pub callable : kind_calls (thing_in (names_of d) c).kind ≡ true → MayHold d home (HeldCallable (v.Object id))
  pub constructor : kind_constructs (thing_in (names_of d) c).kind ≡ true →
      MayHold d home (HeldConstructor (v.Object id))
  pub collection : is_collection c.kind ≡ true → MayHold d home (HeldCollection id)

-- so may a built-in, which is there
pub record HoldsBuiltIn (d : Data) (home : Side) (place : ℕ) (id : ObjId) : Type 0 where
  pub cell : Cell
  pub there : cell_at d id ≡ Some cell
  pub kind : cell.kind ≡ BuiltIn place
  pub held : IsHeldAs d home id cell

-- ---- cells

-- the references of its kind
abbrev pub HoldsKind : Data → Side → CellKind → Type 0
HoldsKind d home (Function code) = Maybe (λ x. MayHold d home (HeldValue x)) code.bound_this
HoldsKind d home (Proxy target handler shape) =
    Maybe (λ o. MayHold d home (HeldObject o)) target × Maybe (λ o. MayHold d home (HeldObject o)) handler
HoldsKind d home (Revoker proxy) = MayHold d home (HeldObject proxy)
HoldsKind d home kind = Unit {0}

-- what stands in a cell may be held
pub record HoldsCell (d : Data) (home : Side) (c : Cell) : Type 0 where
  pub kind : HoldsKind d home c.kind
  pub prototype : MayHold d home (HeldPrototype c.proto)
  pub properties : All (λ p. MayHold d home (HeldKey p.0) × MayHold d home (HeldFull p.1)) c.props
  pub label : MayHold d home (HeldTextIf c.label)
  pub slots : All (Maybe (λ p. MayHold d home (HeldValue p.0) × MayHold d home (HeldValue p.1))) c.slots

-- so may what a function closes over, by its owner
pub record HoldsCode (d : Data) (owner : Side) (code : Code) : Type 0 where
  pub side : code.side ≡ owner
  pub scope : MayHold d code.side (HeldScope code.scope)
  pub node : MayHold d code.side (HeldNode is_function_form code.node.0)

-- ---- scopes and jobs

-- what stands in a scope may be held, and the one around it by its own home
pub record HoldsScope (d : Data) (home : Side) (s : Scope) : Type 0 where
  pub names : All (λ b. MayHold d home (HeldText b.name) × Maybe (λ x. MayHold d home (HeldValue x)) b.value) s.names
  pub parent : Maybe (λ p. MayHold d s.home (HeldScope p)) s.parent

-- the function that a job calls
abbrev pub HoldsJob : Data → Side → Job → Type 0
HoldsJob d home j.Script = Unit {0}
HoldsJob d home (j.Call f) = MayHold d home (HeldCallable f)
