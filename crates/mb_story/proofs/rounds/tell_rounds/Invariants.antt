use Rattle.std.proofs.Common.{◌≡◌}
use Rattle.mb_model.specs.Story.{Stage}
use Rattle.mb_story.specs.Running.{Leaves}
use Rattle.mb_story.specs.machine.Telling.{Gone, Scene, Stands, scene, still_to_come}
use Rattle.mb_story.proofs.rounds.tell_rounds.Given as goal

abbrev pub invariant-rounds : goal.invariant-rounds
invariant-rounds g l = record {
  leaves : Leaves l.after l.w;
  joined : l.w.joined ≡ l.fn.w.joined;
  sides : l.w.sides ≡ l.fn.w.sides;
  faults : g.K.Sink.faults l.sink ≡ g.K.Sink.faults l.fn.sink;
  told : (start : Scene) (t : Stage) → Stands l.style start
      (scene l.fn.w l.fn.fuel (g.K.Sink.taken l.fn.sink) (g.K.Sink.room l.fn.sink) (g.D.Driver.ran l.fn.driver)) l.fn.ending t
      → Gone l.style l.after start
      (scene l.w l.fuel (g.K.Sink.taken l.sink) (g.K.Sink.room l.sink) (g.D.Driver.ran l.driver)) t;
}

abbrev pub decreases-rounds : goal.decreases-rounds
decreases-rounds g l = still_to_come l.after l.w l.fuel
