use Rattle.mb_story.proofs.Leaving.{put-part}
use Rattle.mb_story.specs.machine.Telling.{Sunk, sunk}
use Rattle.mb_story.proofs.running.run.Goals as goal

pub returns-in-Err-clause-text : goal.returns-in-Err-clause-text
returns-in-Err-clause-text g c = λ programs rules first.
    let old : Sunk = sunk (g.K.Sink.taken c.args.sink.now) (g.K.Sink.room c.args.sink.now) in
    let new : Sunk = sunk (g.K.Sink.taken c.tell.new.sink) (g.K.Sink.room c.tell.new.sink) in
    put-part old new c.in-Err.fault _ (c.in-Err.ensures.told programs rules first)
