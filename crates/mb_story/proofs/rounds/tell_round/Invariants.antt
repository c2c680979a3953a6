use Rattle.std.proofs.Common.{false, ◌%◌, ◌<◌, ◌≡◌, ◌⊎◌}
use Rattle.mb_engine.specs.Begun.{IsBegun}
use Rattle.mb_model.specs.Story.{Stage, is_spent}
use Rattle.mb_story.specs.Running.{ending_of}
use Rattle.mb_story.specs.machine.Telling.{HasNoJobs, Leads, Scene, Stands, scene, to_come}
use Rattle.mb_story.proofs.rounds.tell_round.Given as goal

abbrev pub invariant-loop-side : goal.invariant-loop-side
invariant-loop-side g l = record {
  begun : IsBegun l.w;
  running : l.w.halted ≡ false;
  unspent : is_spent (ending_of l.after) ≡ false;
  joined : l.w.joined ≡ l.fn.w.joined;
  sides : l.w.sides ≡ l.fn.w.sides;
  faults : g.K.Sink.faults l.sink ≡ g.K.Sink.faults l.fn.sink;
  falls : ((HasNoJobs l.fn.w l.side) × (l.w ≡ l.fn.w) × (l.fuel ≡ l.fn.fuel)) ⊎ (to_come l.w l.fuel < to_come l.fn.w l.fn.fuel);
  told : (start : Scene) (t : Stage) → Stands l.style start
      (scene l.fn.w l.fn.fuel (g.K.Sink.taken l.fn.sink) (g.K.Sink.room l.fn.sink) (g.D.Driver.ran l.fn.driver)) l.fn.ending t
      → (u : Stage) × Leads t 0 u (l.side % l.fn.w.sides) × Stands l.style start
      (scene l.w l.fuel (g.K.Sink.taken l.sink) (g.K.Sink.room l.sink) (g.D.Driver.ran l.driver)) l.after u;
}
