use Rattle.std.proofs.Common.{refl, []}
use Rattle.mb_call.proofs.Fielding.{callable-or-not, no-undefined}
use Rattle.mb_call.proofs.descriptors.accessor_part.Goals as goal
use Rattle.mb_frames.proofs.Apartness.{value-real}
use Rattle.mb_world.specs.Image.{names_of}

pub callable-requires : goal.callable-requires
callable-requires c =
    let h = c.requires.acts.holds.0 in
    record { value = h.within; real = value-real c.args.w.now c.requires.acts.ready c.args.home c.args.x h }

pub returns-in-Some : goal.returns-in-Some
returns-in-Some c = record {
  part = λ log. rw (c.in-Some.ensures.calls log) refl;
  same = refl;
  callable = callable-or-not c.args.w.now c.args.x (c.in-Some.ensures.calls []);
}

pub returns-in-None : goal.returns-in-None
returns-in-None c = record {
  part = λ log.
      rw (c.in-None.ensures.calls log, no-undefined (names_of c.args.w.now) c.args.x c.in_default.not-Undefined) refl;
  same = tt;
  callable = tt;
}
