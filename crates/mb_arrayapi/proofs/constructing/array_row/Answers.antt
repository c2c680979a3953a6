use Rattle.std.proofs.Common.{[], refl, true, ◌∷◌}
use Rattle.mb_arrayapi.proofs.Acting.{halts, keeps-fit}
use Rattle.mb_arrayapi.proofs.constructing.array_row.Goals as goal
use Rattle.mb_frames.proofs.HeldLess.{value-object}
use Rattle.mb_frames.specs.Held.{HeldValue, HeldValues}
use Rattle.mb_frames.specs.Sorts.{AValue, AnObject, run_gives}
use Rattle.mb_frames.specs.declared.machine.Halt.TheVariants.{NoMemory}

pub array_made-requires : goal.array_made-requires
array_made-requires c =
    let a = c.requires.acts in
    record { acts = record { ready = a.ready; side = a.side; holds = (a.holds.0, tt) } }

pub returns-in-Undefined-clause-part : goal.returns-in-Undefined-clause-part
returns-in-Undefined-clause-part c = λ f. rw c.in-Undefined.is (c.array_made.ensures.part f)

pub returns-in-Undefined-clause-keeps : goal.returns-in-Undefined-clause-keeps
returns-in-Undefined-clause-keeps c =
    rw c.in-Undefined.is
    (keeps-fit c.args.home c.array_made.result c.args.w.now c.array_made.new.w AnObject AValue refl
    c.array_made.ensures.keeps)

pub asked_row-requires : goal.asked_row-requires
asked_row-requires c =
    let d = c.args.w.now in
    let a = c.requires.acts in
    let h = value-object d c.args.home c.in-Object.asked (rw c.in-Object.is at a.holds.1.0) in
    record { acts = record { ready = a.ready; side = a.side; holds = (a.holds.0, (h, tt)) } }

pub returns-in-Object-clause-part : goal.returns-in-Object-clause-part
returns-in-Object-clause-part c = λ f. rw c.in-Object.is (c.asked_row.ensures.part f)

pub returns-in-Object-clause-keeps : goal.returns-in-Object-clause-keeps
returns-in-Object-clause-keeps c = rw c.in-Object.is c.asked_row.ensures.keeps

pub returns-in_default-clause-keeps : goal.returns-in_default-clause-keeps
returns-in_default-clause-keeps c =
    halts c.args.w.now c.args.home (HeldValues c.args.arguments ∷ HeldValue c.args.target ∷ []) c.requires.acts
    (run_gives c.args.target true) NoMemory
