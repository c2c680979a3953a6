use Rattle.std.proofs.Common.{[], length, take, ℕ, ◌≡◌}
use Rattle.mb_arrayapi.proofs.making.fill.Given as goal
use Rattle.mb_arrayapi.specs.machine.Making.{Made}
use Rattle.mb_frames.specs.Ready.{Changed}
use Rattle.mb_frames.specs.Resolved.{values_in}
use Rattle.mb_world.specs.Data.{Data}
use Rattle.mb_world.specs.Image.{names_of}
use Rattle.mb_world.specs.Value.{Val}

abbrev pub invariant-loop-x : goal.invariant-loop-x
invariant-loop-x l = record {
  changed : Changed l.fn.home l.fn.w l.w;
  place : l.place ≡ l.x-index;
  same : l.x-items ≡ l.fn.values;
  made : (d : Data) (s : ℕ) (p : Val) → Made d l.fn.w s p (length l.fn.values) [] l.fn.array →
      Made d l.w s p (length l.fn.values) (values_in (names_of l.fn.w) (take l.x-index l.fn.values)) l.fn.array;
}
