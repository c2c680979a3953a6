use Rattle.std.proofs.Common.{[], drop, true, ℕ, ◌≡◌}
use Rattle.mb_frames.specs.Passing.{Passes, TextsGrew}
use Rattle.mb_frames.specs.Resolved.{values_in}
use Rattle.mb_intrinsics.specs.machine.Printing.{printing}
use Rattle.mb_world.specs.Image.{names_of}
use Rattle.mb_intrinsics.proofs.printing.joined.Given as goal

abbrev pub invariant-loop-argument : goal.invariant-loop-argument
invariant-loop-argument l = record {
  row : (s : ℕ) → Passes l.fn.w l.w l.fn.fuel l.fuel (printing s [] true (values_in (names_of l.fn.w) l.fn.arguments))
      (printing s l.line l.first (values_in (names_of l.fn.w) (drop l.argument-index l.argument-items)));
  grew : TextsGrew l.fn.w l.w;
  empty : l.first ≡ true → l.line ≡ [];
  same : l.argument-items ≡ l.fn.arguments;
}
