use Rattle.std.proofs.Common.{sym, ◌∙◌}
use Rattle.mb_arrayapi.proofs.calling.can_call.Goals as goal
use Rattle.mb_frames.proofs.Apartness.{value-real}

pub callable-requires : goal.callable-requires
callable-requires c = record {
  value = c.requires.held.within;
  real = value-real c.args.w.now c.requires.ready c.args.home c.args.x c.requires.held;
}

pub returns : goal.returns
returns c = λ log. c.callable.ensures.calls log ∙ sym c.is_some.ensures
