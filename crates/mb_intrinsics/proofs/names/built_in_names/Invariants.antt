use Rattle.mb_intrinsics.proofs.Binding.{Binds}
use Rattle.mb_intrinsics.proofs.names.built_in_names.Given as goal

abbrev pub invariant-loop-place : goal.invariant-loop-place
invariant-loop-place l = Binds l.fn.w l.side l.place-index l.w l.names
