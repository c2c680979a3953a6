use Rattle.std.proofs.Common.{ap, length, refl, subst, sym, ◌∙◌, ◌≡◌, ◌≤◌}
use Rattle.std.specs.List.{concat}
use Rattle.mb_outer.specs.declared.sink.Put.TheVariants.{All, Failed}
use Rattle.mb_cli.specs.Tasks.{task_of}
use Rattle.mb_cli.specs.machine.Commands.{listed_by}
use Rattle.mb_cli.specs.machine.Lines.{contents_of, IsPrefix}
use Rattle.mb_cli.proofs.Endings.{not_words, puts_front, refused_leaves, room_enough, some_end}
use Rattle.mb_cli.proofs.list.list.Goals as goal

pub returns-clause-answer : goal.returns-clause-answer
returns-clause-answer g c texts told =
    some_end (task_of texts (listed_by c.args.listing.now)) (c.in-Ok.ensures.answer texts told)

pub returns-clause-text : goal.returns-clause-text
returns-clause-text g c texts told =
    puts_front (task_of texts (listed_by c.args.listing.now)) (concat (contents_of c.in-Ok.lines.items)) (g.K.Sink.taken c.args.sink.now) (g.K.Sink.taken c.put_lines.new.sink) (c.in-Ok.ensures.lines texts told)
    (λ taken is.
    let put = c.in-Failed.ensures.front taken is in
    (put.0, subst (IsPrefix put.0) (ap (λ ls. concat (contents_of ls)) c.deref.ensures.value) put.1, put.2))

pub returns-clause-room : goal.returns-clause-room
returns-clause-room g c texts told has =
    let room = room_enough (task_of texts (listed_by c.args.listing.now)) (g.K.Sink.room c.args.sink.now) (concat (contents_of c.in-Ok.lines.items)) has (c.in-Ok.ensures.lines texts told) in
    let fits = subst (λ ls. length (concat (contents_of ls)) ≤ room.0) (sym c.deref.ensures.value) room.2 in
    let clash : Failed ≡ All = c.in-Failed.ensures.never room.0 room.1 fits in
    cc

pub returns-in-Err-clause-worded : goal.returns-in-Err-clause-worded
returns-in-Err-clause-worded g c kind e = not_words c.in-Err.refusal kind (sym c.from.ensures ∙ e)

pub returns-in-Err-clause-world : goal.returns-in-Err-clause-world
returns-in-Err-clause-world g c =
    rw c.from.ensures (refused_leaves c.in-Err.refusal c.args.world.now _ c.requires.fresh refl)
