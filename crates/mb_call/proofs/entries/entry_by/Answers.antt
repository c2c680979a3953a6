use Rattle.mb_call.proofs.Reality.{real-all}
use Rattle.mb_call.proofs.entries.entry_by.Goals as goal
use Rattle.mb_frames.proofs.Apartness.{object-real}
use Rattle.mb_frames.specs.Holding.{given_held, outcome_held}

pub said_outcome-requires-clause-real : goal.said_outcome-requires-clause-real
said_outcome-requires-clause-real c =
    real-all c.args.w.now c.requires.acts.ready c.args.side (outcome_held c.args.outcome.now) c.requires.outcome

pub seen_object-requires-clause-real : goal.seen_object-requires-clause-real
seen_object-requires-clause-real c =
    object-real c.args.w.now c.requires.acts.ready c.args.side c.args.entering.object c.requires.acts.holds.1.1.0

pub said_given-requires-clause-real : goal.said_given-requires-clause-real
said_given-requires-clause-real c =
    real-all c.args.w.now c.requires.acts.ready c.args.side (given_held c.args.entering.given)
    c.requires.acts.holds.1.1.1.1
