use Rattle.indexmap.specs.IndexSet.{spare}
use Rattle.mb_world.proofs.LongTexts.{number-step}
use Rattle.mb_world.proofs.long.number_all.Goals as goal

pub loop-text-preserved : goal.loop-text-preserved
loop-text-preserved c =
    number-step c.insert.result c.loop-text.long.keys c.insert.new.self.keys c.args.long.now.keys c.args.found.now c.loop-text.text-index (spare c.loop-text.long) (spare c.insert.new.self) (record { 0 = 0 })
    c.loop-text-test.true c.insert.ensures.succeeds c.insert.ensures.keys c.loop-text.invariant.0 c.loop-text.invariant.1 c.insert.ensures.spare
