-- What the checks of a definition make may be held.
use Rattle.std.proofs.Common.{◌++◌, ◌≡◌, ◌&&◌, Bool, None, Option, Some, [], false, not, refl, true, unwrap_or}
use Rattle.std.proofs.lemmas.List.Elements.{All-head}
use Rattle.std.specs.Prelude.{All, if◌then◌else◌}
use Rattle.mb_base.specs.declared.value.Key.{Key}
use Rattle.mb_base.specs.declared.value.ObjId.{ObjId}
use Rattle.mb_base.specs.declared.value.Side.{Side}
use Rattle.mb_base.specs.declared.value.Value.TheVariants as v
use Rattle.mb_base.specs.declared.value.Value.{Value}
use Rattle.mb_desc.specs.Descriptors.{Complete, has_no_fields, is_accessor_descriptor, is_configurable}
use Rattle.mb_desc.specs.Descriptors.{is_data_descriptor}
use Rattle.mb_desc.specs.Validate.{Applied, Validate, refuses}
use Rattle.mb_desc.specs.Values.{equal}
use Rattle.mb_desc.specs.declared.descriptor.Desc.{Desc}
use Rattle.mb_desc.specs.declared.descriptor.Full.TheVariants.{Accessor, Datum}
use Rattle.mb_desc.specs.declared.descriptor.Full.{Full}
use Rattle.mb_frames.proofs.HeldCells.{property-held}
use Rattle.mb_frames.proofs.HeldLess.{accessor-values, datum-value, undefined-held, value-datum, values-accessor}
use Rattle.mb_frames.proofs.Parts.{left-part, right-part}
use Rattle.mb_frames.specs.Held.{HeldDesc, HeldFull, HeldObject, HeldValue}
use Rattle.mb_frames.specs.Ready.{IsReady, MayHold}
use Rattle.mb_ordinary.specs.Definitions.{accepted, desc_values}
use Rattle.mb_parts.proofs.HeldEach.{desc-each}
use Rattle.mb_props.specs.Table.{found}
use Rattle.mb_world.specs.Data.{Data, cell_at}
use Rattle.mb_world.specs.Formed.{IsCallableOrNot, option_values}
use Rattle.mb_world.specs.Ids.{Maybe}
use Rattle.mb_world.specs.declared.cell.Cell.{Cell}

-- ---- what a descriptor makes may be held

module _ (P Q : Value → Type 0) (no : P v.Undefined) (neither : Q v.Undefined) where
  abbrev pub Has : Full Value → Type 0
  Has (Datum x w e c) = P x
  Has (Accessor g s e c) = Q g × Q s

  or-has : (R : Value → Type 0) (o : Option Value) (x : Value) → Maybe R o → R x → R (unwrap_or o x)
  or-has R None x h k = k
  or-has R (Some y) x h k = h

  if-has : (b : Bool) (x y : Full Value) → Has x → Has y → Has (if b then x else y)
  if-has true x y h k = h
  if-has false x y h k = k

  some-has : (b : Bool) (x p : Full Value) → Has x → (if b then Some x else None) ≡ Some p → Has p
  some-has true x p h e = let f : x ≡ p = cc in rw (← f) h
  some-has false x p h e = cc

  choose-has : (a b : Bool) (x y p : Full Value) → Has x → Has y → (if a then Some x else if b then None else Some y)
      ≡ Some p → Has p
  choose-has true b x y p h k e = let f : x ≡ p = cc in rw (← f) h
  choose-has false true x y p h k e = cc
  choose-has false false x y p h k e = let f : y ≡ p = cc in rw (← f) k

  module _ (desc : Desc Value) (value : Maybe P desc.value) (get : Maybe Q desc.get) (set : Maybe Q desc.set) where
    complete-has : Has (Complete v.Undefined desc)
    complete-has = if-has (is_accessor_descriptor desc) _ _
        (or-has Q desc.get v.Undefined get neither, or-has Q desc.set v.Undefined set neither)
        (or-has P desc.value v.Undefined value no)

    applied-has : (p : Full Value) → Has p → Has (Applied v.Undefined p desc)
    applied-has (Datum x w e c) k = if-has (is_accessor_descriptor desc) _ _
        (or-has Q desc.get v.Undefined get neither, or-has Q desc.set v.Undefined set neither)
        (or-has P desc.value x value k)
    applied-has (Accessor g s e c) k = if-has (is_data_descriptor desc) _ _
        (or-has P desc.value v.Undefined value no) (or-has Q desc.get g get k.0, or-has Q desc.set s set k.1)

    pub validate-has : (ext : Bool) (there : Option (Full Value)) (p : Full Value) → Maybe Has there
        → Validate equal v.Undefined ext there desc ≡ Some p → Has p
    unfolding Validate
    validate-has ext None p h e = some-has ext _ p complete-has e
    validate-has ext (Some q) p h e =
        choose-has (has_no_fields desc) (not (is_configurable q) && refuses equal q desc) q _ p h (applied-has q h) e

module _ (d : Data) (home : Side) where
  abbrev P : Value → Type 0
  P x = MayHold d home (HeldValue x)

  abbrev Q : Value → Type 0
  Q x = MayHold d home (HeldValue x) × IsCallableOrNot d x

  full-has : (f : Full Value) → MayHold d home (HeldFull f) → Has P Q (undefined-held d home)
      (undefined-held d home, tt) f
  full-has (Datum x w e c) h = datum-value d home x w e c h
  full-has (Accessor g s e c) h = let q = accessor-values d home g s e c h in ((q.0, q.2), (q.1, q.3))

  has-full : (f : Full Value) → Has P Q (undefined-held d home) (undefined-held d home, tt) f → MayHold d home
      (HeldFull f)
  has-full (Datum x w e c) h = value-datum d home x w e c h
  has-full (Accessor g s e c) h = values-accessor d home g s e c h.0.0 h.1.0 h.0.1 h.1.1

  field : (o : Option Value) → All P (option_values o) → Maybe P o
  field None h = tt
  field (Some x) h = All-head P x [] h

  callable-field : (o : Option Value) → All P (option_values o) → Maybe (IsCallableOrNot d) o → Maybe Q o
  callable-field None h k = tt
  callable-field (Some x) h k = (All-head P x [] h, k)

  pub accepted-held : (r : IsReady d) (id : ObjId) (c : Cell) (key : Key) (desc : Desc Value) (full : Full Value)
      → cell_at d id ≡ Some c → MayHold d home (HeldObject id) → MayHold d home (HeldDesc desc)
      → accepted d id key desc ≡ Some full → MayHold d home (HeldFull full)
  accepted-held r id c key desc full there o h e =
      let a : All P (desc_values desc) = desc-each d home desc h in
      let vs = option_values desc.value in
      let gs = option_values desc.get in
      let ss = option_values desc.set in
      let b : All P (vs ++ gs) = left-part P (vs ++ gs) ss a in
      has-full full
      (validate-has P Q (undefined-held d home) (undefined-held d home, tt) desc
      (field desc.value (left-part P vs gs b))
      (callable-field desc.get (right-part P vs gs b) h.sound.1.get)
      (callable-field desc.set (right-part P (vs ++ gs) ss a) h.sound.1.set)
      c.extensible (found c.props key) full
      (by (found c.props key) refl) (rw there at e))
    where
      by : (q : Option (Full Value)) → found c.props key ≡ q
          → Maybe (Has P Q (undefined-held d home) (undefined-held d home, tt)) q
      by None i = tt
      by (Some f) i = full-has f (property-held d r home id key f o (rw there i))
