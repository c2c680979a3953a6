use Rattle.std.proofs.Common.{drop, map, false, ◌≡◌}
use Rattle.mb_engine.specs.Begun.{IsBegun}
use Rattle.mb_model.specs.Story.{Stage, is_spent, letters}
use Rattle.mb_story.specs.Running.{ending_of, letter_of}
use Rattle.mb_story.specs.declared.ending.Ending.TheVariants as an
use Rattle.mb_story.specs.machine.Telling.{Scene, Stands, scene}
use Rattle.mb_story.proofs.schedule.tell_schedule.Given as goal

abbrev pub invariant-loop-letter : goal.invariant-loop-letter
invariant-loop-letter g l = record {
  begun : IsBegun l.w;
  running : l.w.halted ≡ false;
  unspent : is_spent (ending_of l.ending) ≡ false;
  joined : l.w.joined ≡ l.fn.w.joined;
  sides : l.w.sides ≡ l.fn.w.sides;
  faults : g.K.Sink.faults l.sink ≡ g.K.Sink.faults l.fn.sink;
  told : (start : Scene) (t : Stage) → Stands l.style start
      (scene l.fn.w l.fn.fuel (g.K.Sink.taken l.fn.sink) (g.K.Sink.room l.fn.sink) (g.D.Driver.ran l.fn.driver)) an.Done t
      → (u : Stage) × (letters (drop l.letter-index (map letter_of l.schedule)) u ≡ letters (map letter_of l.schedule) t)
      × Stands l.style start
      (scene l.w l.fuel (g.K.Sink.taken l.sink) (g.K.Sink.room l.sink) (g.D.Driver.ran l.driver)) l.ending u;
}
