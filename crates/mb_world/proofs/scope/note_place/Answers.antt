use Rattle.std.proofs.Common.{sym, ◌∙◌}
use Rattle.mb_world.specs.Long.{same_id}
use Rattle.mb_world.specs.machine.Places.{placed}
use Rattle.mb_world.proofs.BoundNames.{same_id-equal, same_id-same}
use Rattle.mb_world.proofs.Firsts.{note-new, none-of}
use Rattle.mb_world.proofs.scope.note_place.Goals as goal

pub returns-clause-noted : goal.returns-clause-noted
returns-clause-noted c =
    note-new same_id same_id-equal same_id-same c.args.places.now.entries c.insert.new.self.entries c.args.name c.args.place
    (none-of (placed c.args.places.now.entries c.args.name) (sym c.contains_key.ensures ∙ c.if-contains_key.false))
    c.in_ok-insert.ensures.updates.0
