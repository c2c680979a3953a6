use Rattle.std.proofs.Common.{List, map, subst, ℕ}
use Rattle.std.proofs.lemmas.Result.{err_from_is_err_and}
use Rattle.mb_model.specs.Story.{Stage, Story, first_stage, letters, rounds}
use Rattle.mb_model.specs.Story as story
use Rattle.mb_model.specs.Text.{Text_of}
use Rattle.mb_story.proofs.Leaving.{tells-all, tells-part}
use Rattle.mb_story.proofs.Whole.{first-stands, part-of-text, story-after, story-is}
use Rattle.mb_story.specs.Running.{letter_of}
use Rattle.mb_story.specs.machine.Telling.{Scene, Sunk, TellsAll, TookPart, scene, so_far, sunk}
use Rattle.mb_story.proofs.running.tell.Goals as goal

pub returns-in_err-scheduled-clause-told : goal.returns-in_err-scheduled-clause-told
returns-in_err-scheduled-clause-told g c = λ programs rules is.
    let p = err_from_is_err_and c.from_residual.result c.from_residual.ensures.1 in
    let now : Scene =
    scene c.args.w.now c.args.fuel.now (g.K.Sink.taken c.args.sink.now) (g.K.Sink.room c.args.sink.now)
    (g.D.Driver.ran c.args.driver.now) in
    let f : ℕ = c.args.fuel.now in
    let word : List story.Letter = map letter_of c.args.schedule.now in
    let first : Stage = first_stage programs rules f in
    let stood = first-stands c.args.style now programs rules c.requires.begun is in
    let new : Sunk = sunk (g.K.Sink.taken c.tell_schedule.new.sink) (g.K.Sink.room c.tell_schedule.new.sink) in
    rw (p.1, p.2) (part-of-text c.args.style now.sink new c.in_err-scheduled.field-0.0 (letters word first)
    (Story programs rules word f) (story-after c.args.style programs rules word f 0)
    (c.in_err-scheduled.ensures.told now first stood))

pub returns-in_err-ended-clause-told : goal.returns-in_err-ended-clause-told
returns-in_err-ended-clause-told g c = λ programs rules is.
    let q = c.from_residual-in_err-ended in
    let p = err_from_is_err_and q.result q.ensures.1 in
    let now : Scene =
    scene c.args.w.now c.args.fuel.now (g.K.Sink.taken c.args.sink.now) (g.K.Sink.room c.args.sink.now)
    (g.D.Driver.ran c.args.driver.now) in
    let f : ℕ = c.args.fuel.now in
    let word : List story.Letter = map letter_of c.args.schedule.now in
    let first : Stage = first_stage programs rules f in
    let stood = first-stands c.args.style now programs rules c.requires.begun is in
    let came = c.in_ok-scheduled.ensures.told now first stood in
    let new : Sunk = sunk (g.K.Sink.taken c.tell_rounds.new.sink) (g.K.Sink.room c.tell_rounds.new.sink) in
    let broke = c.in_err-ended.ensures.told now (letters word first) came in
    rw (p.1, p.2) (part-of-text c.args.style now.sink new c.in_err-ended.field-0.0
    (rounds broke.0 0 (letters word first)) (Story programs rules word f)
    (story-after c.args.style programs rules word f broke.0) broke.1)

pub returns-in_err-put_ending-clause-told : goal.returns-in_err-put_ending-clause-told
returns-in_err-put_ending-clause-told g c = λ programs rules is.
    let q = c.from_residual-in_err-put_ending in
    let p = err_from_is_err_and q.result q.ensures.1 in
    let now : Scene =
    scene c.args.w.now c.args.fuel.now (g.K.Sink.taken c.args.sink.now) (g.K.Sink.room c.args.sink.now)
    (g.D.Driver.ran c.args.driver.now) in
    let f : ℕ = c.args.fuel.now in
    let word : List story.Letter = map letter_of c.args.schedule.now in
    let first : Stage = first_stage programs rules f in
    let stood = first-stands c.args.style now programs rules c.requires.begun is in
    let came = c.in_ok-scheduled.ensures.told now first stood in
    let over = c.in_ok-ended.ensures.told now (letters word first) came in
    let last : Stage = rounds over.0 0 (letters word first) in
    let then : Scene =
    scene c.tell_rounds.new.w c.tell_rounds.new.fuel (g.K.Sink.taken c.tell_rounds.new.sink)
    (g.K.Sink.room c.tell_rounds.new.sink) (g.D.Driver.ran c.tell_rounds.new.driver) in
    let new : Sunk = sunk (g.K.Sink.taken c.put_ending.new.sink) (g.K.Sink.room c.put_ending.new.sink) in
    let why = c.in_err-put_ending.field-0.0 in
    rw (p.1, p.2) (subst
    (λ (s : Stage). TookPart now.sink new why (Text_of c.args.style.traced c.args.style.lettered s))
    (story-is programs rules word f over.0 over.1)
    (tells-part c.args.style now then new why c.in_ok-ended.ended last over.2
    (c.in_err-put_ending.ensures.takes now.sink (so_far c.args.style last) over.2.took)))

pub returns-clause-told : goal.returns-clause-told
returns-clause-told g c = λ programs rules is.
    let now : Scene =
    scene c.args.w.now c.args.fuel.now (g.K.Sink.taken c.args.sink.now) (g.K.Sink.room c.args.sink.now)
    (g.D.Driver.ran c.args.driver.now) in
    let f : ℕ = c.args.fuel.now in
    let word : List story.Letter = map letter_of c.args.schedule.now in
    let first : Stage = first_stage programs rules f in
    let stood = first-stands c.args.style now programs rules c.requires.begun is in
    let came = c.in_ok-scheduled.ensures.told now first stood in
    let over = c.in_ok-ended.ensures.told now (letters word first) came in
    let last : Stage = rounds over.0 0 (letters word first) in
    let then : Scene =
    scene c.tell_rounds.new.w c.tell_rounds.new.fuel (g.K.Sink.taken c.tell_rounds.new.sink)
    (g.K.Sink.room c.tell_rounds.new.sink) (g.D.Driver.ran c.tell_rounds.new.driver) in
    let new : Sunk = sunk (g.K.Sink.taken c.put_ending.new.sink) (g.K.Sink.room c.put_ending.new.sink) in
    let end : Scene = scene then.world then.left new.taken new.room then.ran in
    subst (TellsAll c.args.style now end c.in_ok-ended.ended) (story-is programs rules word f over.0 over.1)
    (tells-all c.args.style now then new c.in_ok-ended.ended last over.2
    (c.in_ok-put_ending.ensures.takes now.sink (so_far c.args.style last) over.2.took))
