use Rattle.std.proofs.Common.{◌≡◌, subst, sym}
use Rattle.mb_base.specs.declared.value.Side.{Side}
use Rattle.mb_call.proofs.Due.{performed-row}
use Rattle.mb_call.proofs.Owners.{enter-acts, owner-twice}
use Rattle.mb_call.proofs.step.start.Goals as goal
use Rattle.mb_frames.proofs.Leaving.{holds-in}
use Rattle.mb_frames.proofs.Steps.{Step-by}
use Rattle.mb_frames.specs.Holding.{task_held}
use Rattle.mb_frames.specs.Ready.{KeepsBy}
use Rattle.mb_frames.specs.Resolved.{task_in}
use Rattle.mb_frames.specs.Sorts.{AFlag}
use Rattle.mb_frames.specs.Stepping.{Step}
use Rattle.mb_frames.specs.declared.task.Task.TheVariants as t
use Rattle.mb_model.specs.Meaning.{row}
use Rattle.mb_world.specs.Data.{cell_at}
use Rattle.mb_world.specs.Image.{names_of}

pub perform-requires-clause-acts : goal.perform-requires-clause-acts
perform-requires-clause-acts c = rw c.in-Perform.is at c.requires.acts

pub perform-requires-clause-ordinary : goal.perform-requires-clause-ordinary
perform-requires-clause-ordinary c = rw c.in-Perform.is at c.requires.ours

pub perform-requires-clause-side : goal.perform-requires-clause-side
perform-requires-clause-side c = rw c.in-Perform.is at c.requires.side

pub returns-in-Perform-clause-step : goal.returns-in-Perform-clause-step
returns-in-Perform-clause-step c = λ begun l.
    let d = c.args.w.now in
    let home = c.args.home in
    let a = rw c.in-Perform.is at c.requires.acts in
    rw c.in-Perform.is
    (Step-by c.args.side begun c.perform.result d c.perform.new.w c.args.fuel.now c.perform.new.fuel l l
    (row (task_in (names_of d) home.0
    (t.Perform c.in-Perform.method c.in-Perform.object c.in-Perform.viewer c.in-Perform.enters))) _
    (performed-row d a.ready home c.in-Perform.object a.holds.0 (rw c.in-Perform.is at c.requires.ours)
    c.in-Perform.method c.in-Perform.viewer c.in-Perform.enters (rw c.in-Perform.is at c.requires.free))
    (c.perform.ensures.part begun l))

pub returns-in-Perform-clause-keeps : goal.returns-in-Perform-clause-keeps
returns-in-Perform-clause-keeps c = rw c.in-Perform.is c.perform.ensures.keeps

pub walk_row-requires-clause-within : goal.walk_row-requires-clause-within
walk_row-requires-clause-within c =
    holds-in c.args.w.now c.args.home (task_held (t.Walk c.in-Walk.object c.in-Walk.given c.in-Walk.next))
    (rw c.in-Walk.is at c.requires.acts.holds)

pub walk_row-requires-clause-walks : goal.walk_row-requires-clause-walks
walk_row-requires-clause-walks c = (rw c.in-Walk.is at c.requires.fit).0

pub walk_row-requires-clause-real : goal.walk_row-requires-clause-real
walk_row-requires-clause-real c = (rw c.in-Walk.is at c.requires.fit).1

pub returns-in-Walk-clause-step : goal.returns-in-Walk-clause-step
returns-in-Walk-clause-step c = λ begun l.
    let d = c.args.w.now in
    let y = t.Walk c.in-Walk.object c.in-Walk.given c.in-Walk.next in
    let s : c.args.side ≡ c.args.home = rw c.in-Walk.is at c.requires.side in
    rw c.in-Walk.is
    (subst (λ (z : Side). Step z begun c.walk_row.result d c.walk_row.new.w c.args.fuel.now c.walk_row.new.fuel l l
    (row (task_in (names_of d) c.args.home.0 y))) (sym s)
    (c.walk_row.ensures.part c.args.home (rw c.in-Walk.is at c.requires.acts) begun l))

pub returns-in-Walk-clause-keeps : goal.returns-in-Walk-clause-keeps
returns-in-Walk-clause-keeps c =
    let s : c.args.side ≡ c.args.home = rw c.in-Walk.is at c.requires.side in
    rw c.in-Walk.is
    (subst (λ (z : Side). KeepsBy z AFlag c.walk_row.result c.args.w.now c.walk_row.new.w) (sym s)
    (c.walk_row.ensures.keeps c.args.home (rw c.in-Walk.is at c.requires.acts)))

pub enter_row-requires-clause-acts : goal.enter_row-requires-clause-acts
enter_row-requires-clause-acts c =
    enter-acts c.args.w.now c.args.home c.args.side c.in-Enter.function c.in-Enter.this c.in-Enter.arguments
    (rw c.in-Enter.is at c.requires.acts) (rw c.in-Enter.is at c.requires.side)

pub enter_row-requires-clause-entered : goal.enter_row-requires-clause-entered
enter_row-requires-clause-entered c = rw c.in-Enter.is at c.requires.ours

pub enter_row-requires-clause-home : goal.enter_row-requires-clause-home
enter_row-requires-clause-home c =
    owner-twice c.args.home c.args.side (cell_at c.args.w.now c.in-Enter.function) (rw c.in-Enter.is at c.requires.side)

pub returns-in-Enter-clause-step : goal.returns-in-Enter-clause-step
returns-in-Enter-clause-step c = λ begun l. rw c.in-Enter.is (c.enter_row.ensures.part begun l)

pub returns-in-Enter-clause-keeps : goal.returns-in-Enter-clause-keeps
returns-in-Enter-clause-keeps c = rw c.in-Enter.is c.enter_row.ensures.keeps
