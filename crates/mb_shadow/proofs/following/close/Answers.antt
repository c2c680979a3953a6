use Rattle.mb_shadow.proofs.Writes.{close-done}
use Rattle.mb_shadow.proofs.following.close.Goals as goal

pub returns-clause-closed : goal.returns-clause-closed
returns-clause-closed c = (close-done c.args.w.now c.set_proto.new.self c.close.new.self c.requires.world c.args.shadow c.requires.shadow c.args.proto
    c.requires.proto c.requires.kind c.set_proto.ensures c.close.ensures).flags

pub returns-clause-properties : goal.returns-clause-properties
returns-clause-properties c = (close-done c.args.w.now c.set_proto.new.self c.close.new.self c.requires.world c.args.shadow c.requires.shadow
    c.args.proto c.requires.proto c.requires.kind c.set_proto.ensures c.close.ensures).properties

pub returns-clause-stays : goal.returns-clause-stays
returns-clause-stays c = (close-done c.args.w.now c.set_proto.new.self c.close.new.self c.requires.world c.args.shadow c.requires.shadow c.args.proto
    c.requires.proto c.requires.kind c.set_proto.ensures c.close.ensures).followed
