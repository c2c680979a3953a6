use Rattle.mb_frames.proofs.Steadying.{done-holds, top-fit, top-holds, top-home}
use Rattle.mb_frames.proofs.ready.what_a_ready_machine_holds.Goals as goal

pub returns-clause-frame : goal.returns-clause-frame
returns-clause-frame c d m below top h was = top-holds d m below top h was

pub returns-clause-done : goal.returns-clause-done
returns-clause-done c d m below top h was n = done-holds d m below top h was n

pub returns-clause-fit : goal.returns-clause-fit
returns-clause-fit c d m below top h was = top-fit d m below top h was

pub returns-clause-home : goal.returns-clause-home
returns-clause-home c d m below top h was = top-home d m below top h was
