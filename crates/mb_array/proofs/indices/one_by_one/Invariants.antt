use Rattle.std.proofs.Common.{◌≡◌}
use Rattle.std.specs.List.{filter}
use Rattle.std.specs.Map.{keys_of}
use Rattle.mb_world.specs.Data.{cell_at}
use Rattle.mb_ordinary.proofs.Sorting.{in_order}
use Rattle.mb_array.specs.Define.{table_in}
use Rattle.mb_array.proofs.Listing.{is_within}
use Rattle.mb_array.proofs.indices.one_by_one.Given as goal

abbrev pub invariant-loop-index : goal.invariant-loop-index
invariant-loop-index l = l.keys.items ≡ filter (is_within l.n l.index) (in_order (keys_of (table_in (cell_at l.w l.o))))
