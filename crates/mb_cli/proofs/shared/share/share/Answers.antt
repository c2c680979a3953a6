use Rattle.std.proofs.Common.{refl, string_bytes, sym, ◌∙◌}
use Rattle.mb_outer.specs.Shelf.{held}
use Rattle.mb_cli.proofs.Endings.{no_put, not_words, refused_faultless, refused_leaves, refused_put}
use Rattle.mb_cli.proofs.Runs.{none_failed, refused_told, run_faultless, run_read, run_reads, run_worded}
use Rattle.mb_cli.specs.machine.Commands.{task_of_sharing}
use Rattle.mb_cli.proofs.shared.share.share.Goals as goal

-- ---- both scripts were read

pub returns-in-Ok-clause-answer : goal.returns-in-Ok-clause-answer
returns-in-Ok-clause-answer g c s told =
    let read = rw c.as_str-left.ensures.value at (rw c.as_str-right.ensures.value at (c.in-Ok.ensures.pair s told)) in
    c.run_pair.ensures.answer _ _ read

pub returns-in-Ok-clause-text : goal.returns-in-Ok-clause-text
returns-in-Ok-clause-text g c s told =
    let read = rw c.as_str-left.ensures.value at (rw c.as_str-right.ensures.value at (c.in-Ok.ensures.pair s told)) in
    c.run_pair.ensures.text _ _ read

pub returns-in-Ok-clause-told : goal.returns-in-Ok-clause-told
returns-in-Ok-clause-told g c s told =
    let read = rw c.as_str-left.ensures.value at (rw c.as_str-right.ensures.value at (c.in-Ok.ensures.pair s told)) in
    c.run_pair.ensures.told _ _ read

pub returns-in-Ok-clause-room : goal.returns-in-Ok-clause-room
returns-in-Ok-clause-room g c s told has =
    let read = rw c.as_str-left.ensures.value at (rw c.as_str-right.ensures.value at (c.in-Ok.ensures.pair s told)) in
    c.run_pair.ensures.room _ _ read has

pub returns-in-Ok-clause-reads : goal.returns-in-Ok-clause-reads
returns-in-Ok-clause-reads g c =
    run_reads c.run_pair.result (g.L.Library.faults c.args.library.now) (g.L.Library.faults c.read_pair.new.library)
    c.run_pair.ensures.run
    (none_failed (g.L.Library.faults c.args.library.now) (g.L.Library.faults c.read_pair.new.library)
    c.in-Ok.ensures.reads)

pub returns-in-Ok-clause-faultless : goal.returns-in-Ok-clause-faultless
returns-in-Ok-clause-faultless g c s told there sound =
    run_faultless c.run_pair.result (g.L.Library.faults c.args.library.now)
    (g.L.Library.faults c.read_pair.new.library) c.run_pair.ensures.run
    (none_failed (g.L.Library.faults c.args.library.now) (g.L.Library.faults c.read_pair.new.library)
    c.in-Ok.ensures.reads)

pub returns-in-Ok-clause-read : goal.returns-in-Ok-clause-read
returns-in-Ok-clause-read g c s told =
    run_read c.run_pair.result _ c.run_pair.ensures.run
    (rw c.as_str-left.ensures.value at (rw c.as_str-right.ensures.value at (c.in-Ok.ensures.read s told)))

-- ---- a script is refused, or isn't read whole

pub returns-in-Err-clause-answer : goal.returns-in-Err-clause-answer
returns-in-Err-clause-answer g c s told =
    rw c.from.ensures (rw c.as_str-left.ensures.value at (rw c.as_str-right.ensures.value at
    (c.in-Err.ensures.answer s told (string_bytes c.args.sharing.now.schedule) c.args.sharing.now.budget
    c.args.sharing.now.traced)))

pub returns-in-Err-clause-text : goal.returns-in-Err-clause-text
returns-in-Err-clause-text g c s told =
    rw c.from.ensures (refused_put (task_of_sharing s c.args.sharing.now) c.in-Err.refusal _ _ refl)

pub returns-in-Err-clause-world : goal.returns-in-Err-clause-world
returns-in-Err-clause-world g c =
    rw c.from.ensures (refused_leaves c.in-Err.refusal c.args.world.now _ c.requires.fresh refl)

pub returns-in-Err-clause-told : goal.returns-in-Err-clause-told
returns-in-Err-clause-told g c s told =
    rw c.from.ensures (refused_told (held (string_bytes c.args.sharing.now.left) s)
    (held (string_bytes c.args.sharing.now.right) s) (string_bytes c.args.sharing.now.schedule)
    c.args.sharing.now.budget c.args.sharing.now.traced c.in-Err.refusal c.args.world.now
    (g.D.Driver.ran c.args.driver.now))

pub returns-in-Err-clause-reads : goal.returns-in-Err-clause-reads
returns-in-Err-clause-reads g c = rw c.from.ensures c.in-Err.ensures.reads

pub returns-in-Err-clause-puts : goal.returns-in-Err-clause-puts
returns-in-Err-clause-puts g c = rw c.from.ensures (no_put c.in-Err.refusal (g.K.Sink.faults c.args.sink.now))

pub returns-in-Err-clause-faultless : goal.returns-in-Err-clause-faultless
returns-in-Err-clause-faultless g c s told there sound =
    rw c.from.ensures (c.in-Err.ensures.faultless s told (rw c.as_str-left.ensures.value (rw c.as_str-right.ensures.value
    there)) sound)

pub returns-in-Err-clause-room : goal.returns-in-Err-clause-room
returns-in-Err-clause-room g c s told has =
    rw c.from.ensures (refused_faultless c.in-Err.refusal (g.K.Sink.faults c.args.sink.now))

pub returns-in-Err-clause-read : goal.returns-in-Err-clause-read
returns-in-Err-clause-read g c s told =
    rw c.from.ensures (rw c.as_str-left.ensures.value at (rw c.as_str-right.ensures.value at
    (c.in-Err.ensures.read s told)))

-- ---- the words were no matter

pub returns-in-Ok-clause-worded : goal.returns-in-Ok-clause-worded
returns-in-Ok-clause-worded g c kind = run_worded c.run_pair.result kind c.run_pair.ensures.run

pub returns-in-Err-clause-worded : goal.returns-in-Err-clause-worded
returns-in-Err-clause-worded g c kind e = not_words c.in-Err.refusal kind (sym c.from.ensures ∙ e)
