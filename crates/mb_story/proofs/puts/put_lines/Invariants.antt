use Rattle.std.proofs.Common.{length, List, ℕ, ◌++◌, ◌≡◌}
use Rattle.std.specs.Vec.Iter.{into_iter_items, into_iter_len}
use Rattle.mb_model.specs.Text.{with_feeds}
use Rattle.mb_story.specs.machine.Telling.{Sunk, Took, contents_of, sunk}
use Rattle.mb_story.proofs.puts.put_lines.Given as goal

abbrev pub invariant-loop-line : goal.invariant-loop-line
invariant-loop-line g l = record {
  items : l.yielded ++ into_iter_items l.line-iterator ≡ into_iter_items l.initial.line-iterator;
  count : into_iter_len l.line-iterator ≡ length (into_iter_items l.line-iterator);
  faults : g.K.Sink.faults l.sink ≡ g.K.Sink.faults l.fn.sink;
  took : (start : Sunk) (before : List ℕ) → Took start (sunk (g.K.Sink.taken l.fn.sink) (g.K.Sink.room l.fn.sink)) before
      → Took start (sunk (g.K.Sink.taken l.sink) (g.K.Sink.room l.sink)) (before ++ with_feeds (contents_of l.yielded));
}
