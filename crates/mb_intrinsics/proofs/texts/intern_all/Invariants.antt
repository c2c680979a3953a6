use Rattle.std.proofs.Common.{take}
use Rattle.std.specs.List.{flat_map}
use Rattle.mb_intrinsics.specs.machine.Filling.{Gains, properties_texts}
use Rattle.mb_world.specs.Intrinsics.{intrinsics}
use Rattle.mb_world.specs.Standard.{properties_of}
use Rattle.mb_intrinsics.proofs.texts.intern_all.Given as goal

abbrev pub invariant-loop-place : goal.invariant-loop-place
invariant-loop-place l =
    Gains l.fn.w (flat_map (λ i. properties_texts (properties_of i)) (take l.place intrinsics)) l.w
