use Rattle.std.proofs.Common.{List}
use Rattle.mb_engine.specs.machine.Advancing.{Reached, meant}
use Rattle.mb_frames.specs.Ready.{IsReadyMachine}
use Rattle.mb_frames.specs.Standing.{Logged, RestBy}
use Rattle.mb_frames.specs.Stepping.{weight, written}
use Rattle.mb_frames.specs.Wholeness.{StaysFound}
use Rattle.mb_world.specs.Graph.{Item}
use Rattle.mb_engine.proofs.advancing.run.Given as goal

abbrev pub invariant-steps : goal.invariant-steps
invariant-steps l = record {
  ready : IsReadyMachine l.w l.m;
  found : StaysFound l.fn.w l.w;
  reached : (log : List Item) → Logged l.fn.w log →
      Reached l.m l.w l.fuel (written l.fn.lines) (written l.lines) log (RestBy meant l.fn.m l.fn.w l.fn.fuel log);
}

abbrev pub decreases-steps : goal.decreases-steps
decreases-steps l = weight l.m l.fuel
