use Rattle.std.proofs.Common.{length, map, ◌++◌, ◌≡◌}
use Rattle.std.specs.Vec.Iter.{into_iter_items, into_iter_len}
use Rattle.mb_engine.specs.machine.Beginning.{with_scripts}
use Rattle.mb_world.specs.Data.{script_of}
use Rattle.mb_engine.proofs.beginning.set_programs.Given as goal

abbrev pub invariant-loop-program : goal.invariant-loop-program
invariant-loop-program l = record {
  items : l.yielded ++ into_iter_items l.program-iterator ≡ into_iter_items l.initial.program-iterator;
  count : into_iter_len l.program-iterator ≡ length (into_iter_items l.program-iterator);
  side : l.side ≡ length l.yielded;
  world : l.w ≡ with_scripts l.fn.w (map script_of l.yielded);
}
