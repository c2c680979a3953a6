use Rattle.std.proofs.Common.{Ok, refl}
use Rattle.mb_call.proofs.Asking.{leaves-fit}
use Rattle.mb_call.proofs.ListRows.{no-callable-value}
use Rattle.mb_call.proofs.lists.after_list.Goals as goal
use Rattle.mb_frames.proofs.HeldLess.{callable-object, constructor-object}
use Rattle.mb_frames.proofs.Keeping.{keeps-same}
use Rattle.mb_frames.proofs.Passed.{Part-sure}
use Rattle.mb_frames.specs.Sorts.{AValue, AnObject}

pub returns-in-Object-clause-part : goal.returns-in-Object-clause-part
returns-in-Object-clause-part c = λ f.
    let d = c.args.w.now in
    let home = c.args.home in
    let h = rw (c.in-Apply.is, c.in-Object.is) at c.requires.acts.holds in
    rw (c.in-Apply.is, c.in-Object.is)
    (Part-sure home d f _ c.performs.result
    (c.performs.ensures.sure d (h.1.0.within, (h.1.1.0.within, (h.0.within, tt)))))

pub returns-in-Object-clause-keeps : goal.returns-in-Object-clause-keeps
returns-in-Object-clause-keeps c =
    let d = c.args.w.now in
    let home = c.args.home in
    let h = rw (c.in-Apply.is, c.in-Object.is) at c.requires.acts.holds in
    rw c.in-Apply.is
    (keeps-same home AValue (Ok c.performs.result) d c.requires.acts.ready
    (c.performs.ensures.leaves d (callable-object d home c.in-Object.function h.1.0, (h.1.1.0, (h.0, tt)))))

pub unreachable-requires : goal.unreachable-requires
unreachable-requires c =
    let h = rw c.in-Apply.is at c.requires.acts.holds in
    no-callable-value c.args.w.now c.in-Apply.function h.1.0.sound c.in_default.not-Object

pub returns-in-Construct-clause-part : goal.returns-in-Construct-clause-part
returns-in-Construct-clause-part c = λ f.
    let d = c.args.w.now in
    let home = c.args.home in
    let h = rw c.in-Construct.is at c.requires.acts.holds in
    rw c.in-Construct.is
    (Part-sure home d f _ c.performs-in-Construct.result
    (c.performs-in-Construct.ensures.sure d
    (h.1.0.within, (h.0.within, (h.1.1.0.within, (h.1.0.within, tt))))))

pub returns-in-Construct-clause-keeps : goal.returns-in-Construct-clause-keeps
returns-in-Construct-clause-keeps c =
    let d = c.args.w.now in
    let home = c.args.home in
    let h = rw c.in-Construct.is at c.requires.acts.holds in
    rw c.in-Construct.is
    (keeps-same home AValue (Ok c.performs-in-Construct.result) d c.requires.acts.ready
    (leaves-fit d home AnObject AValue refl c.performs-in-Construct.result
    (c.performs-in-Construct.ensures.leaves d
    (constructor-object d home c.in-Construct.function h.1.0, (h.0, (h.1.1.0, (h.1.0, tt)))))))
