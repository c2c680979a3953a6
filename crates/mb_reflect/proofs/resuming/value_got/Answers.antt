use Rattle.std.proofs.Common.{refl}
use Rattle.mb_frames.specs.Sorts.{AnObject}
use Rattle.mb_reflect.proofs.Waiting.{no-more-values}
use Rattle.mb_reflect.proofs.resuming.value_got.Goals as goal

pub object_from-requires : goal.object_from-requires
object_from-requires c =
    let a = c.requires.acts in
    record { acts = record { ready = a.ready; side = a.side; holds = (a.holds.0, tt) } }

pub returns-in-ObjectPrototype-clause-part : goal.returns-in-ObjectPrototype-clause-part
returns-in-ObjectPrototype-clause-part c = λ f. rw c.in-ObjectPrototype.is (c.object_from.ensures.part f)

pub returns-in-ObjectPrototype-clause-keeps : goal.returns-in-ObjectPrototype-clause-keeps
returns-in-ObjectPrototype-clause-keeps c = rw c.in-ObjectPrototype.is (c.object_from.ensures.keeps AnObject refl)

pub error_from-requires : goal.error_from-requires
error_from-requires c = record { acts = rw c.in-ErrorPrototype.is at c.requires.acts }

pub returns-in-ErrorPrototype-clause-part : goal.returns-in-ErrorPrototype-clause-part
returns-in-ErrorPrototype-clause-part c = λ f. rw c.in-ErrorPrototype.is (c.error_from.ensures.part f)

pub returns-in-ErrorPrototype-clause-keeps : goal.returns-in-ErrorPrototype-clause-keeps
returns-in-ErrorPrototype-clause-keeps c = rw c.in-ErrorPrototype.is (c.error_from.ensures.keeps AnObject refl)

pub unreachable-requires : goal.unreachable-requires
unreachable-requires c =
    no-more-values c.args.frame c.requires.waits c.in_default.not-ObjectPrototype c.in_default.not-ErrorPrototype
