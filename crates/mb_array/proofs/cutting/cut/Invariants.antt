use Rattle.std.proofs.Common.{◌≡◌, ◌<◌, ◌-◌, ◌^◌, reverse, length}
use Rattle.std.specs.Prelude.{All}
use Rattle.mb_props.specs.KeyOrder.{index_of}
use Rattle.mb_world.specs.Data.{cell_at, change_cell}
use Rattle.mb_array.specs.Define.{table_in, with_table}
use Rattle.mb_array.specs.machine.Cutting.{cut_of}
use Rattle.mb_array.proofs.cutting.cut.Given as goal

abbrev pub invariant-loop-key : goal.invariant-loop-key
invariant-loop-key l = record {
  changed : l.w ≡ change_cell l.fn.w l.o (with_table (table_in (cell_at l.w l.o)));
  cut : cut_of (reverse l.keys.items) l.n (table_in (cell_at l.w l.o)) ≡ cut_of (reverse l.fn.keys.items) l.n (table_in (cell_at l.fn.w l.o));
  low : All (λ k. index_of k < 2 ^ 32 - 1) l.keys.items;
}

abbrev pub decreases-loop-key : goal.decreases-loop-key
decreases-loop-key l = length l.keys.items
