use Rattle.std.proofs.Common.{◌∙◌, ap}
use Rattle.mb_world.specs.declared.roles.Role.TheVariants.{BuiltInOf}
use Rattle.mb_world.specs.machine.Roles.{noted, same_role}
use Rattle.mb_world.specs.machine.Firsts.{or_if}
use Rattle.mb_world.proofs.Noted.{note-built-in}
use Rattle.mb_world.proofs.roles.note_built_in.Goals as goal

pub returns-clause-noted : goal.returns-clause-noted
returns-clause-noted c = λ r.
    note-built-in c.args.home c.args.place c.args.id c.args.roles.now.entries c.note.new.roles.entries c.note-2.new.roles.entries
    (λ q. c.in_ok-note.ensures.noted q ∙ ap (λ es. or_if (same_role q (BuiltInOf c.args.home c.args.place)) c.args.id (noted es q)) c.in_ok-reserve.ensures.entries)
    c.in_ok-note-2.ensures.noted r
