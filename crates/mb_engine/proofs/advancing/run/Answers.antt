use Rattle.mb_engine.proofs.Reaching.{reached-step}
use Rattle.mb_engine.specs.machine.Advancing.{meant}
use Rattle.mb_frames.proofs.Forming.{Found-then}
use Rattle.mb_frames.specs.Standing.{RestBy}
use Rattle.mb_frames.specs.Stepping.{written}
use Rattle.mb_engine.proofs.advancing.run.Goals as goal

pub steps-preserved : goal.steps-preserved
steps-preserved c = record {
  ready = c.in_ok-advance.ensures.ready;
  found = Found-then c.args.w.now c.steps.w c.advance.new.w c.steps.invariant.found c.advance.ensures.found;
  reached = λ log e.
      reached-step c.steps.m c.advance.new.m c.steps.w c.advance.new.w c.steps.fuel c.advance.new.fuel
      (written c.args.lines.now) (written c.steps.lines) (written c.advance.new.lines) log
      (RestBy meant c.args.m.now c.args.w.now c.args.fuel.now log) (c.steps.invariant.reached log e)
      c.in_ok-advance.ensures.rest;
}

pub returns-in_err-advance-clause-found : goal.returns-in_err-advance-clause-found
returns-in_err-advance-clause-found c =
    Found-then c.args.w.now c.steps.w c.advance.new.w c.steps.invariant.found c.advance.ensures.found
