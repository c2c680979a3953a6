use Rattle.std.proofs.Common.{arith, ◌<◌, ◌≤◌, length}
use Rattle.std.proofs.lemmas.Result.{err_from_is_err_and}
use Rattle.mb_call.proofs.Noted.{Step-made, entry-began, entry-side, keeps-made, keeps-stopped}
use Rattle.mb_call.proofs.entries.note.Goals as goal
use Rattle.mb_frames.specs.Resolved.{outcome_in}
use Rattle.mb_frames.specs.Stepping.{written}
use Rattle.mb_world.specs.Image.{names_of}

pub returns-clause-step : goal.returns-clause-step
returns-clause-step c = λ f.
    Step-made c.args.w.now c.add_entry.new.self c.in_ok-entry.entry c.in_ok-add_entry.ensures.added c.args.home
    c.args.outcome _ c.in_ok-entry.ensures.entry f (written c.args.lines.now) (written c.write_last.new.lines)
    c.in_ok-write_last.ensures.written c.requires.outcome

pub returns-clause-keeps : goal.returns-clause-keeps
returns-clause-keeps c = λ wanted given k q.
    let d = c.args.w.now in
    let e = c.in_ok-entry.entry in
    let w = outcome_in (names_of d) c.args.outcome in
    let same = c.in_ok-entry.ensures.entry in
    let side : e.side.0 < d.sides
    = omega (arith, entry-side d c.args.home c.args.entering w e same, c.requires.acts.side) in
    let began : e.began ≤ length d.entries
    = omega (arith, entry-began d c.args.home c.args.entering w e same, c.requires.acts.holds.0.sound) in
    keeps-made d c.add_entry.new.self e c.in_ok-add_entry.ensures.added c.args.home c.args.outcome
    c.requires.acts.ready c.requires.joined c.in_ok-entry.ensures.within side began wanted given k q c.requires.outcome

pub returns-in_err-write_last-clause-keeps : goal.returns-in_err-write_last-clause-keeps
returns-in_err-write_last-clause-keeps c = λ wanted given k q.
    let d = c.args.w.now in
    let e = c.in_ok-entry.entry in
    let w = outcome_in (names_of d) c.args.outcome in
    let same = c.in_ok-entry.ensures.entry in
    let side : e.side.0 < d.sides
    = omega (arith, entry-side d c.args.home c.args.entering w e same, c.requires.acts.side) in
    let began : e.began ≤ length d.entries
    = omega (arith, entry-began d c.args.home c.args.entering w e same, c.requires.acts.holds.0.sound) in
    let p = err_from_is_err_and c.from_residual-in_err-write_last.result c.from_residual-in_err-write_last.ensures.1 in
    rw p.1
    (keeps-stopped d c.add_entry.new.self e c.in_ok-add_entry.ensures.added c.args.home c.args.outcome
    c.requires.acts.ready c.requires.joined c.in_ok-entry.ensures.within side began wanted p.0)
