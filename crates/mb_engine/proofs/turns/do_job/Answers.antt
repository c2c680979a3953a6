use Rattle.std.proofs.Common.{List, ap, refl, ℕ}
use Rattle.mb_engine.proofs.Ending.{turns-apart}
use Rattle.mb_engine.proofs.Lines.{lines-added}
use Rattle.mb_frames.specs.Stepping.{written}
use Rattle.mb_engine.proofs.turns.do_job.Goals as goal

pub returns-in-Ok-clause-turns : goal.returns-in-Ok-clause-turns
returns-in-Ok-clause-turns c = λ log e.
    turns-apart c.end_of-end.result c.end_of-end.new.w c.end_of-end.new.fuel (written c.args.lines.now)
    (written c.end_of-end.new.lines) (written (record c.args.lines.now { all = c.append.new.self })) log _
    (rw c.new.ensures.items at (c.end_of-end.ensures.turns log e))
    (ap (λ (z : List (List ℕ)). record (written c.args.lines.now) { lines = z })
    (lines-added (λ line. line.items) (written c.args.lines.now) c.args.lines.now.all.items
    c.end_of-end.new.lines.all.items c.append.new.self.items c.in-Ok.ensures.items refl))

pub returns-in-Ok-clause-adds : goal.returns-in-Ok-clause-adds
returns-in-Ok-clause-adds c = record {
  traced = refl;
  lettered = refl;
  more = (written c.end_of-end.new.lines).lines;
  lines = lines-added (λ line. line.items) (written c.args.lines.now) c.args.lines.now.all.items
      c.end_of-end.new.lines.all.items c.append.new.self.items c.in-Ok.ensures.items refl;
}
