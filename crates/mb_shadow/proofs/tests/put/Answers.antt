use Rattle.mb_shadow.proofs.Changed.{put-sees}
use Rattle.mb_shadow.proofs.tests.put.Goals as goal

pub returns : goal.returns
returns g c =
    put-sees c.args.w.now c.requires c.args.id c.plain.ensures.plain c.key-key.result c.args.full c.key-key.ensures c.home.result c.home.ensures.value c.property.ensures c.put.new.self
    (rw c.expect.ensures at c.put.ensures.put)
