use Rattle.mb_shadow.proofs.Writes.{put-done}
use Rattle.mb_shadow.proofs.following.put.Goals as goal

pub returns-clause-put : goal.returns-clause-put
returns-clause-put c = (put-done c.args.w.now c.requires.world c.args.shadow c.requires.shadow c.args.key c.requires.key c.args.property
    c.requires.property c.put-put.new.self c.or_halt.new.w c.put-put.result c.or_halt.result c.or_halt.ensures.same c.put-put.ensures.put
    c.put-put.ensures.kept c.or_halt.ensures.runs c.or_halt.ensures.halts).0

pub returns-clause-stays : goal.returns-clause-stays
returns-clause-stays c = (put-done c.args.w.now c.requires.world c.args.shadow c.requires.shadow c.args.key c.requires.key c.args.property
    c.requires.property c.put-put.new.self c.or_halt.new.w c.put-put.result c.or_halt.result c.or_halt.ensures.same c.put-put.ensures.put
    c.put-put.ensures.kept c.or_halt.ensures.runs c.or_halt.ensures.halts).1
