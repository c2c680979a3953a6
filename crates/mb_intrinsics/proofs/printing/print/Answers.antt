use Rattle.std.proofs.Common.{Ok, [], false, true, ◌∷◌}
use Rattle.std.proofs.lemmas.Result.{err_from_is_err_and}
use Rattle.mb_base.specs.declared.value.Value.TheVariants as v
use Rattle.mb_frames.proofs.HeldLess.{undefined-held}
use Rattle.mb_frames.proofs.Passed.{Part-passed, Step-passed}
use Rattle.mb_frames.specs.Held.{HeldValues}
use Rattle.mb_frames.specs.Resolved.{values_in}
use Rattle.mb_frames.specs.Sorts.{AValue}
use Rattle.mb_frames.specs.Stepping.{written}
use Rattle.mb_frames.specs.declared.frame.Move.TheVariants as move
use Rattle.mb_frames.specs.declared.task.Answer.TheVariants as a
use Rattle.mb_frames.specs.declared.task.Outcome.TheVariants as o
use Rattle.mb_intrinsics.proofs.Lines.{joined-halted, line-told}
use Rattle.mb_intrinsics.proofs.Sides.{acts-after, given-after, halted-after, thrown-after}
use Rattle.mb_intrinsics.specs.machine.Printing.{printing}
use Rattle.mb_model.specs.Meaning.{finished}
use Rattle.mb_model.specs.Writing.{type_error}
use Rattle.mb_parts.proofs.Texting.{texts-changed}
use Rattle.mb_world.specs.Image.{names_of}
use Rattle.mb_intrinsics.proofs.printing.print.Goals as goal

pub returns-in_err-line-clause-row : goal.returns-in_err-line-clause-row
returns-in_err-line-clause-row c = λ begun.
    let d = c.args.w.now in
    let p = err_from_is_err_and c.from_residual.result c.from_residual.ensures.1 in
    rw (p.1, p.2)
    (joined-halted c.args.home c.in_err-line.field-0.0 d c.joined.new.w c.args.fuel.now c.joined.new.fuel
    (values_in (names_of d) c.args.arguments.now) c.in_err-line.ensures.row begun (written c.args.lines.now))

pub returns-in_err-line-clause-keeps : goal.returns-in_err-line-clause-keeps
returns-in_err-line-clause-keeps c =
    let d = c.args.w.now in
    let p = err_from_is_err_and c.from_residual.result c.from_residual.ensures.1 in
    rw p.1
    (halted-after d c.args.home (HeldValues c.args.arguments.now ∷ []) c.requires.acting c.joined.new.w
    (texts-changed c.args.home d c.joined.new.w c.in_err-line.ensures.grew c.requires.acting.ready) p.0)

pub returns-in_err-write_line-in-Some-clause-keeps : goal.returns-in_err-write_line-in-Some-clause-keeps
returns-in_err-write_line-in-Some-clause-keeps c =
    let d = c.args.w.now in
    let q = c.from_residual-in_err-write_line-in-Some in
    let p = err_from_is_err_and q.result q.ensures.1 in
    rw p.1
    (halted-after d c.args.home (HeldValues c.args.arguments.now ∷ []) c.requires.acting c.joined.new.w
    (texts-changed c.args.home d c.joined.new.w c.in_ok-line.ensures.grew c.requires.acting.ready) p.0)

pub returns-in_ok-write_line-in-Some-clause-row : goal.returns-in_ok-write_line-in-Some-clause-row
returns-in_ok-write_line-in-Some-clause-row c = λ begun.
    let d = c.args.w.now in
    let d1 = c.joined.new.w in
    let home = c.args.home in
    let f1 = c.joined.new.fuel in
    let l = written c.args.lines.now in
    let l1 = written c.write_line.new.lines in
    let j = rw c.in-Some.is at c.in_ok-line.ensures.row in
    rw c.value.ensures
    (Step-passed home begun (Ok (move.Done (o.Normal (a.Value v.Undefined)))) d d1 d1 c.args.fuel.now f1 f1 l l1
    (printing home.0 [] true (values_in (names_of d) c.args.arguments.now)) (printing home.0 c.in-Some.line false []) tt
    (j home.0)
    (line-told home begun d1 f1 l l1 c.in-Some.line (rw c.items.ensures at c.in_ok-write_line-in-Some.ensures)))

pub returns-in_ok-write_line-in-Some-clause-keeps : goal.returns-in_ok-write_line-in-Some-clause-keeps
returns-in_ok-write_line-in-Some-clause-keeps c =
    let d = c.args.w.now in
    let d1 = c.joined.new.w in
    let home = c.args.home in
    rw c.value.ensures
    (given-after d home (HeldValues c.args.arguments.now ∷ []) c.requires.acting d1
    (texts-changed home d d1 c.in_ok-line.ensures.grew c.requires.acting.ready) v.Undefined (undefined-held d1 home))

pub type_error-requires : goal.type_error-requires
type_error-requires c =
    let d = c.args.w.now in
    acts-after d c.args.home (HeldValues c.args.arguments.now ∷ []) c.requires.acting c.joined.new.w
    (texts-changed c.args.home d c.joined.new.w c.in_ok-line.ensures.grew c.requires.acting.ready)

pub returns-in-None-clause-row : goal.returns-in-None-clause-row
returns-in-None-clause-row c = λ begun.
    let d = c.args.w.now in
    let d1 = c.joined.new.w in
    let home = c.args.home in
    let f1 = c.joined.new.fuel in
    let j = rw c.in-None.is at c.in_ok-line.ensures.row in
    Part-passed home c.type_error.result d d1 c.type_error.new.w c.args.fuel.now f1 f1
    (printing home.0 [] true (values_in (names_of d) c.args.arguments.now)) (type_error home.0 finished) (j home.0)
    (c.type_error.ensures.part f1) begun (written c.args.lines.now)

pub returns-in-None-clause-keeps : goal.returns-in-None-clause-keeps
returns-in-None-clause-keeps c =
    let d = c.args.w.now in
    let d1 = c.joined.new.w in
    thrown-after d c.args.home (HeldValues c.args.arguments.now ∷ []) c.requires.acting d1
    (texts-changed c.args.home d d1 c.in_ok-line.ensures.grew c.requires.acting.ready) c.type_error.result
    c.type_error.new.w
    (c.type_error.ensures.keeps AValue)
