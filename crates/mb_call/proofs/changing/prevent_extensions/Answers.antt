use Rattle.std.proofs.Common.{ap, refl, sym, true}
use Rattle.mb_call.proofs.Fixed.{kept-changed, part-changed}
use Rattle.mb_call.proofs.Renewed.{closed-changed}
use Rattle.mb_call.proofs.Things.{no-membrane}
use Rattle.mb_call.proofs.changing.prevent_extensions.Goals as goal
use Rattle.mb_frames.proofs.Changing.{there}
use Rattle.mb_frames.proofs.Keeping.{keeps-left}
use Rattle.mb_frames.proofs.Standard.{is-fixed}
use Rattle.mb_frames.specs.Sorts.{AFlag}
use Rattle.mb_model.specs.Meaning.{finished}
use Rattle.mb_model.specs.Writing.{yes_or_no}
use Rattle.mb_world.specs.Data.{change_cell, closed}
use Rattle.mb_world.specs.Ordinary.{closed as closed_thing}
use Rattle.mb_world.specs.declared.cell.Cell.{Cell}

pub returns-clause-part : goal.returns-clause-part
returns-clause-part c = λ home viewer a f t e.
    let d = c.args.w.now in
    let o = c.args.object in
    let k = there d o a.holds.0.within in
    let m = no-membrane d a.ready home o a.holds.0 k.0 k.1 (rw k.1 at c.requires.ordinary) in
    rw c.prevent.ensures.closed
    (part-changed d a.ready home o k.0 k.1 m closed
    (λ place q. ap (λ x. let y : Cell = record k.0 { extensible = x } in y)
    (sym (is-fixed d a.ready o k.0 place k.1 q)))
    refl c.yes_or_no.result f closed_thing (λ y. yes_or_no true finished) (λ b. refl)
    (rw c.prevent.ensures.answer at (c.yes_or_no.ensures.sure home (change_cell d o closed))))

pub returns-clause-keeps : goal.returns-clause-keeps
returns-clause-keeps c = λ home a.
    let d = c.args.w.now in
    let o = c.args.object in
    let k = there d o a.holds.0.within in
    let m = no-membrane d a.ready home o a.holds.0 k.0 k.1 (rw k.1 at c.requires.ordinary) in
    rw c.prevent.ensures.closed
    (keeps-left home AFlag c.yes_or_no.result d (change_cell d o closed)
    (kept-changed d a.ready home o k.0 k.1 m closed
    (λ place q. ap (λ x. let y : Cell = record k.0 { extensible = x } in y)
    (sym (is-fixed d a.ready o k.0 place k.1 q)))
    (λ b. closed-changed d a.ready home o a.holds.0 k.0 k.1 m b))
    (c.yes_or_no.ensures.leaves home (change_cell d o closed)))
