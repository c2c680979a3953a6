-- What stands in a descriptor of a property that can be written, listed and changed.
use Rattle.std.proofs.Common.{[], refl}
use Rattle.std.proofs.lemmas.List.Elements.{All-append, All-nil}
use Rattle.mb_base.specs.declared.value.Side.{Side}
use Rattle.mb_base.specs.declared.value.Value.{Value}
use Rattle.mb_frames.specs.Held.{HeldDesc, HeldValue}
use Rattle.mb_frames.specs.Ready.{MayHold}
use Rattle.mb_parts.specs.Storing.{opened}
use Rattle.mb_world.specs.Contained.{IsOwn, in_value}
use Rattle.mb_world.specs.Data.{Data}

pub opened-held : (d : Data) (home : Side) (x : Value) → MayHold d home (HeldValue x)
    → MayHold d home (HeldDesc (opened x))
opened-held d home x h = record {
  within = record { value_in = h.within; get_in = tt; set_in = tt };
  sound = (refl, record { get = tt; set = tt; wholes = (h.sound, tt) });
  own = λ u. All-append (IsOwn d home) (in_value x) [] (h.own u) (All-nil (IsOwn d home));
}
