use Rattle.mb_shadow.proofs.Changed.{proto-sees}
use Rattle.mb_shadow.proofs.tests.set_proto.Goals as goal

pub returns : goal.returns
returns g c =
    proto-sees c.args.w.now c.requires c.args.id c.plain.ensures.plain c.args.value c.home.result c.home.ensures.value c.proto.ensures.value c.proto.ensures.kind c.set_proto.new.self
    c.set_proto.ensures
