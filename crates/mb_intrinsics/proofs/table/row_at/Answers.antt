use Rattle.std.proofs.Common.{List, Some, slice_get, subst, ◌≡◌}
use Rattle.mb_intrinsics.proofs.Rows.{place-within}
use Rattle.mb_intrinsics.specs.machine.Table.{row_in}
use Rattle.mb_world.specs.Graph.{Property}
use Rattle.mb_world.specs.Value.{Val}
use Rattle.mb_intrinsics.proofs.table.row_at.Goals as goal

pub nth-requires : goal.nth-requires
nth-requires c = place-within c.table.result.now c.args.place c.table.ensures.rows c.requires

pub returns-clause-value : goal.returns-clause-value
returns-clause-value c =
    subst (λ (xs : List (Val × List Property)). slice_get xs c.args.place
    ≡ Some (row_in c.nth.result)) c.table.ensures.rows
    c.nth.ensures.value

pub returns-clause-sound : goal.returns-clause-sound
returns-clause-sound c = c.nth.ensures.sound c.table.ensures.sound
