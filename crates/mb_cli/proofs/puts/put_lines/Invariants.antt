use Rattle.std.proofs.Common.{◌≡◌, ◌≤◌, ◌-◌, ◌++◌, ℕ, List, Some, length}
use Rattle.std.specs.List.{concat}
use Rattle.mb_cli.specs.machine.Lines.{contents_of}
use Rattle.mb_cli.proofs.Texts.{front}
use Rattle.mb_cli.proofs.puts.put_lines.Given as goal

abbrev pub invariant-loop-line : goal.invariant-loop-line
invariant-loop-line g l =
    let done = front l.line-index l.lines in
    record {
      faults : g.K.Sink.faults l.sink ≡ g.K.Sink.faults l.fn.sink;
      taken : (taken : List ℕ) → g.K.Sink.taken l.fn.sink ≡ Some taken → g.K.Sink.taken l.sink ≡ Some (taken ++ done);
      room : (room : ℕ) → g.K.Sink.room l.fn.sink ≡ Some room → length (concat (contents_of l.lines)) ≤ room → g.K.Sink.room l.sink ≡ Some (room - length done);
    }
