-- What references stand for, and the prototype of an object that may be held.
use Rattle.std.proofs.Common.{◌≡◌, ◌++◌, [], None, Option, Some, false, refl, slice_get, sym, true≢false}
use Rattle.std.specs.Prelude.{All, IfSome}
use Rattle.mb_base.specs.declared.value.ObjId.{ObjId}
use Rattle.mb_base.specs.declared.value.Side.{Side}
use Rattle.mb_base.specs.declared.value.Value.{Value}
use Rattle.mb_base.specs.declared.value.Value.TheVariants as v
use Rattle.mb_desc.specs.Descriptors.{descriptor_of, value_alone}
use Rattle.mb_frames.proofs.Steps.{append-none}
use Rattle.mb_world.specs.Property.{open_property}
use Rattle.mb_frames.proofs.HeldCells.{cell-held, reads-home}
use Rattle.mb_frames.specs.Held.{HeldDesc, HeldObject, HeldPrototype, HeldValue}
use Rattle.mb_frames.specs.Ready.{IsReady, MayHold}
use Rattle.mb_ordinary.specs.Objects.{IsOrdinary}
use Rattle.mb_world.specs.Contained.{IsOwn, in_value}
use Rattle.mb_world.specs.Formed.{IsCallableOrNot}
use Rattle.mb_world.specs.Data.{AtPlace, Before, Counted, Data, Hidden, Stand, cell_at}
use Rattle.mb_world.specs.Image.{Names, Resolve, object_in, stood}
use Rattle.mb_world.specs.Value.{is_object, is_undefined}
use Rattle.mb_world.specs.declared.cell.Cell.{Cell}

-- ---- what values stand for

pub object-defined : (n : Names) (o : ObjId) → is_undefined (object_in n o) ≡ false
object-defined n o = by (slice_get n.stands o.0)
  where
    by : (s : Option Stand) → is_undefined (stood n o.0 s) ≡ false
    by (Some Counted) = refl
    by (Some (AtPlace place)) = refl
    by (Some (Before behind)) = refl
    by (Some Hidden) = refl
    by None = refl

pub no-object : (n : Names) (x : Value) → ((o : ObjId) → x ≡ v.Object o → ⊥) → is_object (Resolve n x) ≡ false
no-object n v.Undefined h = refl
no-object n v.Null h = refl
no-object n (v.Bool b) h = refl
no-object n (v.Whole z) h = refl
no-object n (v.Text t) h = refl
no-object n (v.Symbol s) h = refl
no-object n (v.Object o) h = absurd (h o refl)

-- ---- what may be held

module _ (d : Data) (home : Side) where
  pub proto-held : (id : ObjId) (x : Value) → IsReady d → MayHold d home (HeldObject id) → IsOrdinary (cell_at d id)
      → IfSome (cell_at d id) (λ c. x ≡ c.proto) → MayHold d home (HeldPrototype x)
  proto-held id x r h = by (cell_at d id) refl
    where
      by : (m : Option Cell) → cell_at d id ≡ m → IsOrdinary m → IfSome m (λ c. x ≡ c.proto)
          → MayHold d home (HeldPrototype x)
      by None e o p = absurd o
      by (Some c) e o p = rw p ((cell-held d r id c e home (reads-home d home id c h e)).prototype)

-- ---- getters and setters

pub no-callable : (d : Data) (x : Value) → IsCallableOrNot d x → ((o : ObjId) → x ≡ v.Object o → ⊥) → x ≡ v.Undefined
no-callable d v.Undefined h k = refl
no-callable d v.Null h k = absurd (true≢false (sym h))
no-callable d (v.Bool b) h k = absurd (true≢false (sym h))
no-callable d (v.Whole z) h k = absurd (true≢false (sym h))
no-callable d (v.Text t) h k = absurd (true≢false (sym h))
no-callable d (v.Symbol s) h k = absurd (true≢false (sym h))
no-callable d (v.Object o) h k = absurd (k o refl)

-- ---- descriptors

module _ (d : Data) (home : Side) (x : Value) (h : MayHold d home (HeldValue x)) where
  value-alone-own : d.joined ≡ false → All (IsOwn d home) (in_value x ++ [])
  value-alone-own u = rw (append-none (in_value x)) (h.own u)

  pub open-held : MayHold d home (HeldDesc (descriptor_of (open_property x)))
  open-held = record {
    within = record { value_in = h.within; get_in = tt; set_in = tt };
    sound = (refl, record { get = tt; set = tt; wholes = (h.sound, tt) });
    own = value-alone-own;
  }

  pub alone-held : MayHold d home (HeldDesc (value_alone x))
  alone-held = record {
    within = record { value_in = h.within; get_in = tt; set_in = tt };
    sound = (refl, record { get = tt; set = tt; wholes = (h.sound, tt) });
    own = value-alone-own;
  }
