use Rattle.std.proofs.Common.{List, ap, false, ℕ}
use Rattle.mb_engine.proofs.Lines.{line-written}
use Rattle.mb_frames.specs.Stepping.{written}
use Rattle.mb_text.specs.Spelling.{spelled}
use Rattle.mb_engine.proofs.uncaught.write_line.Goals as goal

pub returns : goal.returns
returns c =
    rw (← c.letter.ensures)
    (ap (λ (z : List (List ℕ)). record (written c.args.lines.now) { lines = z })
    (line-written (λ line. line.items) c.args.lines.now.all.items c.push-4.new.self.items c.spell.new.out
    c.letter.result
    c.new-line.result.items c.push.new.self.items c.push-2.new.self.items c.push-3.new.self.items
    (spelled false c.args.units.now) c.new-line.ensures.items c.in_ok-push.ensures.items c.in_ok-push-2.ensures.items
    c.in_ok-push-3.ensures.items c.in_ok-spell.ensures.spelled c.in_ok-push-4.ensures.items))
