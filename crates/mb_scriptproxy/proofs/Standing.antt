-- Objects that are made in several calls: one stands last, and takes properties.
use Rattle.std.proofs.Common.{◌<◌, ◌-◌, ◌^◌, ◌∷◌, ◌≡◌, List, None, Ok, Result, [], arith, false, true, ℕ}
use Rattle.std.specs.Prelude.{length}
use Rattle.mb_base.specs.declared.value.ObjId.{ObjId}
use Rattle.mb_base.specs.declared.value.Side.{Side}
use Rattle.mb_base.specs.declared.value.Value.{Value}
use Rattle.mb_desc.specs.declared.descriptor.Full.{Full}
use Rattle.mb_frames.proofs.Constructing.{made-open, open-held, still-inside}
use Rattle.mb_frames.proofs.Made.{IsLast, last-went, made-last, put-last}
use Rattle.mb_frames.proofs.Readying.{changed-then}
use Rattle.mb_frames.proofs.Renewing.{made-changed}
use Rattle.mb_frames.specs.Going.{Makes}
use Rattle.mb_frames.specs.Held.{HeldFull, HeldObject}
use Rattle.mb_frames.specs.Keeping.{KeepsOn, none_held}
use Rattle.mb_frames.specs.Making.{IsOpen, Put}
use Rattle.mb_frames.specs.Ready.{Changed, IsMade, IsReady, MayHold}
use Rattle.mb_frames.specs.declared.machine.Halt.{Halt}
use Rattle.mb_model.specs.Writing.{make}
use Rattle.mb_text.specs.Index.{index_of}
use Rattle.mb_world.specs.Data.{Data, is_array, is_counted, kind_stand, made}
use Rattle.mb_world.specs.Graph.{Thing}
use Rattle.mb_world.specs.Image.{Resolve, full_in, kind_in, names_of}
use Rattle.mb_world.specs.Key.{Named}
use Rattle.mb_world.specs.Objects.{new_thing, with_property}
use Rattle.mb_world.specs.declared.cell.CellKind.{CellKind}

pub record Stands (d d' : Data) (home : Side) (id : ObjId) (t : Thing) : Type 0 where
  pub last : IsLast d d' id t
  pub opened : IsOpen d' home id
  pub changed : Changed home d d'

-- it was made
pub stands-made : (d d' : Data) (home : Side) (kind : CellKind) (proto : Value) (id : ObjId) → IsReady d
    → home.0 < d.sides → is_counted (kind_stand kind) ≡ true → is_array kind ≡ false → IsMade d home kind proto None
    → d' ≡ made d home kind proto None → id.0 ≡ length d.cells
    → Stands d d' home id (new_thing home.0 None (kind_in (names_of d) [] kind) (Resolve (names_of d) proto))
stands-made d d' home kind proto id r inside counted plain m e number =
    let i : home.0 < 8 = omega (arith, r.formed.sides.1, inside) in
    record {
      last = made-last d d' home kind proto None id r.ids counted plain e number i m.kind_in m.proto_in tt;
      opened = made-open d d' home kind proto None id counted plain e number;
      changed = rw e (made-changed home d kind proto None r inside m);
    }

module _ (d d' e : Data) (home : Side) (id : ObjId) (t : Thing) (units : List ℕ) (full : Full Value)
    (inside : home.0 < d.sides) (s : Stands d d' home id t) (h : MayHold d' home (HeldFull full)) where
  -- what putting a property leaves, also where it halts
  pub put-changed : (r : Result (Unit {0}) Halt) → KeepsOn home (HeldFull full ∷ []) none_held r d' e → Changed home d e
  put-changed r k =
      changed-then home d d' e s.changed
      (k s.changed.ready (still-inside home d d' s.changed inside) (h, tt)).changed

  -- the property is put
  pub stands-put : (r : Result (Unit {0}) Halt) → index_of units ≡ 2 ^ 32 - 1 → Put d' e id units full
      → KeepsOn home (HeldFull full ∷ []) none_held r d' e → IsOpen e home id
      → Stands d e home id (with_property (Named units) (full_in (names_of d') full) t)
  stands-put r index p k o = record {
    last = put-last d d' e id t units full s.changed.ready.ids h.within index s.last p;
    opened = o;
    changed = put-changed r k;
  }

-- what was made goes on with it
pub stands-went : (d d' : Data) (home : Side) (id : ObjId) (t : Thing) → Stands d d' home id t
    → Makes (Ok id) d d' (make t)
stands-went d d' home id t s = last-went d d' id t s.last

pub stands-held : (d d' : Data) (home : Side) (id : ObjId) (t : Thing) → Stands d d' home id t
    → MayHold d' home (HeldObject id)
stands-held d d' home id t s = open-held d' home id s.opened
