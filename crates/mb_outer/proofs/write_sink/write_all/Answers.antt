use Rattle.std.proofs.Common.{arith}
use Rattle.std.proofs.lemmas.Grind.{common_steps}
use Rattle.mb_outer.proofs.Writes.{Appends-more, range_from}
use Rattle.mb_outer.proofs.write_sink.write_all.Goals as goal

pub loop-turn-preserved : goal.loop-turn-preserved
loop-turn-preserved g c =
    let bytes = rw c.in_ok-done.ensures.count at c.write.ensures.bytes in
    let bound = rw c.in_ok-done.ensures.count at c.write.ensures.bound in
    record {
      within = grind (arith, common_steps, bound, c.loop-turn.invariant.within, c.if-done-bytes.false);
      turns = omega (arith, c.in_ok-done.ensures.some, c.loop-turn.invariant.turns);
      taken = Appends-more _ _ _ c.args.bytes.now c.loop-turn.done c.in_ok-done.field-0 c.loop-turn.invariant.taken (rw (range_from c.args.bytes.now c.loop-turn.done) at bytes);
    }
