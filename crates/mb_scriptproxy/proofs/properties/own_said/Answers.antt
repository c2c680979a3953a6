use Rattle.std.proofs.Common.{Ok}
use Rattle.std.specs.Prelude.{[], ◌∷◌}
use Rattle.mb_call.specs.Ours.{Acts}
use Rattle.mb_frames.proofs.Keeping.{keeps-same}
use Rattle.mb_frames.proofs.Passed.{Part-sure}
use Rattle.mb_frames.specs.Held.{HeldKey, HeldObject}
use Rattle.mb_frames.specs.Sorts.{AProperty}
use Rattle.mb_scriptproxy.proofs.Absences.{Part-described, Part-undescribed}
use Rattle.mb_scriptproxy.proofs.properties.own_said.Goals as goal
use Rattle.mb_scriptproxy.proofs.properties.own_said.Goals.{In-Undefined}

acts : (c : In-Undefined) → Acts c.args.w.now c.args.home (HeldObject c.args.target ∷ HeldKey c.args.key ∷ [])
acts c =
    let a = c.requires.acts in
    record { ready = a.ready; side = a.side; holds = (a.holds.0, (a.holds.1.0, tt)) }

pub returns-in-Undefined-clause-part : goal.returns-in-Undefined-clause-part
returns-in-Undefined-clause-part c = λ f.
    let d = c.args.w.now in
    rw c.in-Undefined.is
    (Part-sure c.args.home d f _ c.absent_said.result
    (c.absent_said.ensures.sure d (acts (goal.at.returns-in-Undefined-clause-part c).In-Undefined)))

pub returns-in-Undefined-clause-keeps : goal.returns-in-Undefined-clause-keeps
returns-in-Undefined-clause-keeps c =
    let d = c.args.w.now in
    keeps-same c.args.home AProperty (Ok c.absent_said.result) d c.requires.acts.ready
    (c.absent_said.ensures.leaves d (acts (goal.at.returns-in-Undefined-clause-keeps c).In-Undefined))

pub todesc-requires-clause-ready : goal.todesc-requires-clause-ready
todesc-requires-clause-ready c = c.requires.acts.ready

pub todesc-requires-clause-side : goal.todesc-requires-clause-side
todesc-requires-clause-side c = c.requires.acts.side

pub todesc-requires-clause-held : goal.todesc-requires-clause-held
todesc-requires-clause-held c =
    let h = c.requires.acts.holds in
    (h.1.1.0, (h.0, (h.1.0, tt)))

pub returns-in-Object-clause-part : goal.returns-in-Object-clause-part
returns-in-Object-clause-part c = λ f.
    Part-described c.args.home c.todesc.result c.args.w.now c.todesc.new.w f c.args.target c.args.key c.args.said _
    c.in-Object.is (c.todesc.ensures.part f)

pub returns-in-Object-clause-keeps : goal.returns-in-Object-clause-keeps
returns-in-Object-clause-keeps c = c.todesc.ensures.keeps

pub returns-in_default-clause-part : goal.returns-in_default-clause-part
returns-in_default-clause-part c = λ f.
    Part-undescribed c.args.home c.type_error.result c.args.w.now c.type_error.new.w f c.args.target c.args.key
    c.args.said c.in_default.not-Undefined c.in_default.not-Object (c.type_error.ensures.part f)

pub returns-in_default-clause-keeps : goal.returns-in_default-clause-keeps
returns-in_default-clause-keeps c = c.type_error.ensures.keeps AProperty
