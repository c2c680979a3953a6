use Rattle.std.proofs.Common.{inr, refl, ◌≡◌}
use Rattle.std.specs.Prelude.{IsTrue}
use Rattle.mb_story.specs.Running.{Receives}
use Rattle.mb_cli.proofs.Asked.{asks_or_not, listed_told, nothing_told, on_asked}
use Rattle.mb_cli.specs.Serving.{HasRoom, IsAnswer, IsFaultless, IsPut, IsTold, OnRead}
use Rattle.mb_cli.specs.Tasks.{IsThere, left_of, task_of}
use Rattle.mb_cli.specs.declared.status.Status.TheVariants.{ReadFault, WriteFault}
use Rattle.mb_cli.proofs.command.serve.Goals as goal

-- ---- no memory for the words

pub returns-in-Err-NoMemory-clause-told : goal.returns-in-Err-NoMemory-clause-told
returns-in-Err-NoMemory-clause-told g c texts settings told asked =
    nothing_told (task_of texts settings) c.args.world.now (g.D.Driver.ran c.args.driver.now)

pub returns-in-Err-NoMemory-clause-world : goal.returns-in-Err-NoMemory-clause-world
returns-in-Err-NoMemory-clause-world g c = inr (c.requires.fresh, refl)

-- ---- a command whose lines are made first

pub returns-in-List-clause-words : goal.returns-in-List-clause-words
returns-in-List-clause-words g c not kind = (
  λ e. absurd (c.list.ensures.worded kind e),
  λ asked. absurd (asks_or_not _ _ kind c.in-Ok.ensures asked),
)

pub returns-in-List-clause-unread : goal.returns-in-List-clause-unread
returns-in-List-clause-unread g c kind e = absurd (c.list.ensures.worded kind e)

pub returns-in-List-clause-answer : goal.returns-in-List-clause-answer
returns-in-List-clause-answer g c texts settings told asked =
    on_asked _ c.in-Ok.command _ settings texts
    (λ task. IsAnswer task c.list.result)
    c.in-Ok.ensures c.in-List.is asked (c.list.ensures.answer texts told)

pub returns-in-List-clause-text : goal.returns-in-List-clause-text
returns-in-List-clause-text g c texts settings told asked =
    on_asked _ c.in-Ok.command _ settings texts
    (λ task. IsPut task c.list.result (c.list.new.sink ≡ c.args.sink.now)
    (Receives (g.K.Sink.taken c.args.sink.now) (g.K.Sink.taken c.list.new.sink)))
    c.in-Ok.ensures c.in-List.is asked (c.list.ensures.text texts told)

pub returns-in-List-clause-told : goal.returns-in-List-clause-told
returns-in-List-clause-told g c texts settings told asked =
    on_asked _ c.in-Ok.command _ settings texts
    (λ task. IsTold task c.list.result c.list.new.world (g.D.Driver.ran c.args.driver.now) (g.D.Driver.ran c.args.driver.now))
    c.in-Ok.ensures c.in-List.is asked (listed_told _ texts c.list.result c.list.new.world (g.D.Driver.ran c.args.driver.now))

pub returns-in-List-clause-sound : goal.returns-in-List-clause-sound
returns-in-List-clause-sound g c texts settings told asked =
    on_asked _ c.in-Ok.command _ settings texts
    (λ task. IsThere task → IsTrue (g.L.Library.sound c.args.library.now)
    → IsFaultless ReadFault c.list.result (g.L.Library.faults c.args.library.now) (g.L.Library.faults c.list.new.library))
    c.in-Ok.ensures c.in-List.is asked (c.list.ensures.faultless texts told)

pub returns-in-List-clause-room : goal.returns-in-List-clause-room
returns-in-List-clause-room g c texts settings told asked =
    on_asked _ c.in-Ok.command _ settings texts
    (λ task. HasRoom task (g.K.Sink.room c.args.sink.now)
    → IsFaultless WriteFault c.list.result (g.K.Sink.faults c.args.sink.now) (g.K.Sink.faults c.list.new.sink))
    c.in-Ok.ensures c.in-List.is asked (c.list.ensures.room texts told)

pub returns-in-List-clause-read : goal.returns-in-List-clause-read
returns-in-List-clause-read g c texts settings told asked =
    on_asked _ c.in-Ok.command _ settings texts
    (λ task. OnRead c.list.result (g.L.Library.rest c.list.new.library ≡ left_of task))
    c.in-Ok.ensures c.in-List.is asked (c.list.ensures.read texts told)

-- ---- two scripts on one graph

pub returns-clause-words : goal.returns-clause-words
returns-clause-words g c not kind = (
  λ e. absurd (c.share.ensures.worded kind e),
  λ asked. absurd (asks_or_not _ _ kind c.in-Ok.ensures asked),
)

pub returns-clause-unread : goal.returns-clause-unread
returns-clause-unread g c kind e = absurd (c.share.ensures.worded kind e)

pub returns-clause-answer : goal.returns-clause-answer
returns-clause-answer g c texts settings told asked =
    on_asked _ c.in-Ok.command _ settings texts
    (λ task. IsAnswer task c.share.result)
    c.in-Ok.ensures c.in-Share.is asked (c.share.ensures.answer texts told)

pub returns-clause-text : goal.returns-clause-text
returns-clause-text g c texts settings told asked =
    on_asked _ c.in-Ok.command _ settings texts
    (λ task. IsPut task c.share.result (c.share.new.sink ≡ c.args.sink.now)
    (Receives (g.K.Sink.taken c.args.sink.now) (g.K.Sink.taken c.share.new.sink)))
    c.in-Ok.ensures c.in-Share.is asked (c.share.ensures.text texts told)

pub returns-clause-told : goal.returns-clause-told
returns-clause-told g c texts settings told asked =
    on_asked _ c.in-Ok.command _ settings texts
    (λ task. IsTold task c.share.result c.share.new.world (g.D.Driver.ran c.args.driver.now)
    (g.D.Driver.ran c.share.new.driver))
    c.in-Ok.ensures c.in-Share.is asked (c.share.ensures.told texts told)

pub returns-clause-sound : goal.returns-clause-sound
returns-clause-sound g c texts settings told asked =
    on_asked _ c.in-Ok.command _ settings texts
    (λ task. IsThere task → IsTrue (g.L.Library.sound c.args.library.now)
    → IsFaultless ReadFault c.share.result (g.L.Library.faults c.args.library.now) (g.L.Library.faults c.share.new.library))
    c.in-Ok.ensures c.in-Share.is asked (c.share.ensures.faultless texts told)

pub returns-clause-room : goal.returns-clause-room
returns-clause-room g c texts settings told asked =
    on_asked _ c.in-Ok.command _ settings texts
    (λ task. HasRoom task (g.K.Sink.room c.args.sink.now)
    → IsFaultless WriteFault c.share.result (g.K.Sink.faults c.args.sink.now) (g.K.Sink.faults c.share.new.sink))
    c.in-Ok.ensures c.in-Share.is asked (c.share.ensures.room texts told)

pub returns-clause-read : goal.returns-clause-read
returns-clause-read g c texts settings told asked =
    on_asked _ c.in-Ok.command _ settings texts
    (λ task. OnRead c.share.result (g.L.Library.rest c.share.new.library ≡ left_of task))
    c.in-Ok.ensures c.in-Share.is asked (c.share.ensures.read texts told)
