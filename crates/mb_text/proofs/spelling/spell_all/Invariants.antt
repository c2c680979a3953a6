use Rattle.std.proofs.Common.{◌≡◌, ◌++◌, length, take}
use Rattle.mb_text.specs.Spelling.{spelled}
use Rattle.mb_text.proofs.spelling.spell_all.Given as goal

abbrev pub invariant-loop-rest : goal.invariant-loop-rest
invariant-loop-rest l = record {
  written : l.out.items ++ spelled l.quoted l.rest ≡ l.initial.out.items ++ spelled l.quoted l.units;
  begun : take (length l.initial.out.items) l.out.items ≡ l.initial.out.items;
}

abbrev pub decreases-loop-rest : goal.decreases-loop-rest
decreases-loop-rest l = length l.rest
