use Rattle.mb_call.proofs.Looking.{goes-on, goes-up}
use Rattle.mb_call.proofs.constructions.constructed.Goals as goal
use Rattle.mb_frames.proofs.HeldLess.{value-object}
use Rattle.mb_model.specs.Writing.{is_value}
use Rattle.mb_world.specs.Image.{Resolve, names_of, object_in}

pub returns-in-Object-clause-sure : goal.returns-in-Object-clause-sure
returns-in-Object-clause-sure c = λ home d a.
    goes-up d home c.gives.result c.args.gave c.in-Object.object (λ x. is_value x)
    (is_value (object_in (names_of d) c.args.made))
    c.in-Object.is (c.gives.ensures.sure home d (rw c.in-Object.is at a.holds.1.0.within))

pub returns-in-Object-clause-leaves : goal.returns-in-Object-clause-leaves
returns-in-Object-clause-leaves c = λ home d a.
    c.gives.ensures.leaves home d (value-object d home c.in-Object.object (rw c.in-Object.is at a.holds.1.0), tt)

pub returns-in_default : goal.returns-in_default
returns-in_default c = record {
  sure = λ home d a.
      goes-on d home c.gives-in_default.result c.args.gave (is_value (Resolve (names_of d) c.args.gave))
      (is_value (object_in (names_of d) c.args.made)) c.in_default.not-Object
      (c.gives-in_default.ensures.sure home d a.holds.0.within);
  leaves = λ home d a. c.gives-in_default.ensures.leaves home d (a.holds.0, tt);
}
