-- Objects that rows make, and new targets' prototypes that are got.
use Rattle.std.proofs.Common.{◌<◌, ◌≡◌, None, Result, [], arith, false, length, refl, ℕ}
use Rattle.std.proofs.lemmas.List.Elements.{All-nil}
use Rattle.mb_base.specs.declared.value.ObjId.{ObjId}
use Rattle.mb_base.specs.declared.value.Side.{Side}
use Rattle.mb_base.specs.declared.value.Value.{Value}
use Rattle.mb_frames.proofs.Going.{Makes-passes}
use Rattle.mb_frames.proofs.HeldAs.{made-held}
use Rattle.mb_frames.proofs.Made.{last-went, made-last}
use Rattle.mb_frames.proofs.Renewing.{made-changed}
use Rattle.mb_frames.specs.Held.{HeldObject, HeldPrototype}
use Rattle.mb_frames.specs.Ready.{Changed, IsMade, IsReady, MayHold}
use Rattle.mb_frames.specs.Sorts.{Sort}
use Rattle.mb_frames.specs.declared.frame.Move.{Move}
use Rattle.mb_frames.specs.declared.machine.Halt.{Halt}
use Rattle.mb_model.specs.Writing.{Row, make}
use Rattle.mb_reflect.proofs.Doing.{Done, done-passed}
use Rattle.mb_world.specs.Contained.{IsOwn}
use Rattle.mb_world.specs.Data.{Data, is_array, made}
use Rattle.mb_world.specs.Formed.{InRange}
use Rattle.mb_world.specs.Graph.{Graph}
use Rattle.mb_world.specs.Image.{Resolve, kind_in, names_of, object_in}
use Rattle.mb_world.specs.Objects.{new_thing}
use Rattle.mb_world.specs.Value.{Val}
use Rattle.mb_world.specs.declared.cell.CellKind.{CellKind}
use Rattle.mb_world.specs.declared.cell.CellKind.TheVariants as kind
use Rattle.mb_world.specs.declared.cell.ErrorKind.{ErrorKind}

pub plain-is-made : (d : Data) (home : Side) (proto : Value) → MayHold d home (HeldPrototype proto)
    → IsMade d home kind.Plain proto None
plain-is-made d home proto h = record {
  counted = refl;
  kind_in = tt;
  proto_in = h.within;
  label_in = tt;
  prototype = h.sound;
  wholes = All-nil InRange;
  kind = tt;
  unlabelled = λ e. refl;
  kind_own = λ u. All-nil (IsOwn d home);
  proto_own = h.own;
}

pub fault-is-made : (d : Data) (home : Side) (fault : ErrorKind) (proto : Value) → MayHold d home (HeldPrototype proto)
    → IsMade d home (kind.Fault fault) proto None
fault-is-made d home fault proto h = record {
  counted = refl;
  kind_in = tt;
  proto_in = h.within;
  label_in = tt;
  prototype = h.sound;
  wholes = All-nil InRange;
  kind = tt;
  unlabelled = λ e. refl;
  kind_own = λ u. All-nil (IsOwn d home);
  proto_own = h.own;
}

module _ (home : Side) (d d1 : Data) (k : CellKind) (proto : Value) (id : ObjId) (plain : is_array k ≡ false)
    (m : IsMade d home k proto None) (r : IsReady d) (inside : home.0 < d.sides)
    (e : d1 ≡ made d home k proto None) (number : id.0 ≡ length d.cells) where
  pub was-made : Changed home d d1
  was-made = rw e (made-changed home d k proto None r inside m)

  pub new-object : MayHold d1 home (HeldObject id)
  new-object = rw e ((made-held d home k proto None id m.counted number).object)

  -- what follows the making
  pub done-made : (wanted : Sort) (result : Result Move Halt) (d2 : Data) (f f' : ℕ) (rest : Val → Graph → Row)
      → Done home wanted result d1 d2 f f' (rest (object_in (names_of d1) id))
      → Done home wanted result d d2 f f'
      (make (new_thing home.0 None (kind_in (names_of d) [] k) (Resolve (names_of d) proto)) rest)
  done-made wanted result d2 f f' rest h =
      let t = new_thing home.0 None (kind_in (names_of d) [] k) (Resolve (names_of d) proto) in
      done-passed home wanted result d d1 d2 f f f' (make t rest) (rest (object_in (names_of d1) id))
      (Makes-passes d d1 f (make t) id rest
      (last-went d d1 id t (made-last d d1 home k proto None id r.ids m.counted plain e number
      (omega (arith, r.formed.sides.1, inside)) m.kind_in m.proto_in tt)))
      was-made h
