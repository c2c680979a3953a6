use Rattle.std.proofs.Common.{Bor, List, None, [], ap, get_or, option_map, ◌∙◌}
use Rattle.std.proofs.lemmas.Option.{slice_get-get_or, slice_get-map}
use Rattle.mb_intrinsics.proofs.Rows.{rows-sound}
use Rattle.mb_intrinsics.specs.machine.Table.{row_in}
use Rattle.mb_intrinsics.proofs.table.nth.Goals as goal

pub returns-clause-value : goal.returns-clause-value
returns-clause-value c =
    slice_get-map row_in c.args.rows.now c.args.place
    ∙ ap (option_map row_in) (slice_get-get_or c.args.rows.now c.args.place _ c.requires)

pub returns-clause-sound : goal.returns-clause-sound
returns-clause-sound c all =
    rows-sound c.args.rows.now c.args.place _ (slice_get-get_or c.args.rows.now c.args.place _ c.requires) all
