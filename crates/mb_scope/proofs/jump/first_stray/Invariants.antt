use Rattle.std.proofs.Common.{◌≡◌, vec_len}
use Rattle.mb_tree.specs.Roses.{shapes}
use Rattle.mb_scope.specs.machine.First.{IsFirst}
use Rattle.mb_scope.proofs.Knowing.{AllKnown, StrayFrom}
use Rattle.mb_scope.proofs.jump.first_stray.Given as goal

abbrev pub invariant-loop-place : goal.invariant-loop-place
invariant-loop-place l = record {
  long : vec_len l.known ≡ vec_len l.tree.nodes;
  known : AllKnown (shapes l.tree) l.known.items l.place;
  least : IsFirst (λ id. id.0) (StrayFrom (shapes l.tree) l.place) l.first;
}
