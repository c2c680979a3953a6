use Rattle.std.proofs.Common.{refl, true}
use Rattle.mb_call.proofs.Altering.{part-altered}
use Rattle.mb_call.proofs.Renewed.{proto-changed}
use Rattle.mb_call.proofs.Visiting.{walk-counted, walk-no-built-in, walk-no-part}
use Rattle.mb_call.proofs.walk.prototype_set.Goals as goal
use Rattle.mb_frames.proofs.Changing.{there}
use Rattle.mb_frames.proofs.Keeping.{keeps-left}
use Rattle.mb_frames.specs.Sorts.{AFlag}
use Rattle.mb_model.specs.Meaning.{finished}
use Rattle.mb_model.specs.Writing.{yes_or_no}
use Rattle.mb_world.specs.Data.{change_cell, with_proto}
use Rattle.mb_world.specs.Image.{Resolve, names_of}
use Rattle.mb_world.specs.Ordinary.{with_prototype}

pub returns-clause-part : goal.returns-clause-part
returns-clause-part c = λ home a f.
    let d = c.args.w.now in
    let o = c.args.object in
    let p = c.args.given in
    let k = there d o c.requires.within.0 in
    let w = rw k.1 at c.requires.walks in
    rw c.set_proto.ensures
    (part-altered d o k.0 (with_proto p) k.1 refl
    (walk-counted d a.ready home o a.holds.0 k.0 k.1 w) home c.yes_or_no.result
    f (with_prototype (Resolve (names_of d) p)) (λ y. yes_or_no true finished) refl a.ready.ids
    (c.yes_or_no.ensures.sure home (change_cell d o (with_proto p))))

pub returns-clause-keeps : goal.returns-clause-keeps
returns-clause-keeps c = λ home a.
    let d = c.args.w.now in
    let o = c.args.object in
    let p = c.args.given in
    let k = there d o c.requires.within.0 in
    let w = rw k.1 at c.requires.walks in
    rw c.set_proto.ensures
    (keeps-left home AFlag c.yes_or_no.result d (change_cell d o (with_proto p))
    (proto-changed d a.ready home o a.holds.0 k.0 k.1 (walk-no-part d a.ready home o a.holds.0 k.0 k.1 w)
    (walk-no-built-in d a.ready home o a.holds.0 k.0 k.1 w) p w.1 a.holds.1.0)
    (c.yes_or_no.ensures.leaves home (change_cell d o (with_proto p))))
