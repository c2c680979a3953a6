use Rattle.std.proofs.Common.{negsuc, refl}
use Rattle.mb_arrayapi.proofs.Acting.{Part-value, gives}
use Rattle.mb_arrayapi.proofs.turns.turns_end.Goals as goal
use Rattle.mb_arrayapi.specs.machine.Turning.{ended}
use Rattle.mb_base.specs.declared.value.Value.TheVariants as v
use Rattle.mb_frames.proofs.HeldLess.{array-object, object-value, whole-held}
use Rattle.mb_frames.specs.Holding.{turn_held}
use Rattle.mb_frames.specs.declared.arrays.Turn.TheVariants as turn
use Rattle.mb_world.specs.Image.{names_of}

pub returns-in-IndexOf-clause-part : goal.returns-in-IndexOf-clause-part
returns-in-IndexOf-clause-part c = λ f.
    let d = c.args.w.now in
    rw (c.in-IndexOf.is, c.value.ensures)
    (Part-value c.args.home d f (ended (names_of d) c.args.home.0 (turn.IndexOf c.in-IndexOf.value))
    (v.Whole (negsuc 0)) tt refl)

pub returns-in-IndexOf-clause-keeps : goal.returns-in-IndexOf-clause-keeps
returns-in-IndexOf-clause-keeps c =
    let d = c.args.w.now in
    let home = c.args.home in
    rw c.value.ensures
    (gives d home (turn_held c.args.turn) c.requires.acts (v.Whole (negsuc 0)) (whole-held d home (negsuc 0) refl))

pub returns-in-Slice-clause-part : goal.returns-in-Slice-clause-part
returns-in-Slice-clause-part c = λ f.
    let d = c.args.w.now in
    let q = c.in-Slice in
    let h = rw q.is at c.requires.acts.holds in
    rw (q.is, c.value-in-Slice.ensures)
    (Part-value c.args.home d f (ended (names_of d) c.args.home.0 (turn.Slice q.array q.from)) (v.Object q.array)
    h.0.within refl)

pub returns-in-Slice-clause-keeps : goal.returns-in-Slice-clause-keeps
returns-in-Slice-clause-keeps c =
    let d = c.args.w.now in
    let home = c.args.home in
    let q = c.in-Slice in
    let h = rw q.is at c.requires.acts.holds in
    rw c.value-in-Slice.ensures
    (gives d home (turn_held c.args.turn) c.requires.acts (v.Object q.array)
    (object-value d home q.array (array-object d home q.array h.0)))
