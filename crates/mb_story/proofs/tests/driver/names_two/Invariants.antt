use Rattle.std.specs.List.{AllWithin}
use Rattle.mb_story.specs.Running.{NamesItsSide}
use Rattle.mb_story.proofs.tests.driver.names_two.Given as goal

abbrev pub invariant-loop-letter : goal.invariant-loop-letter
invariant-loop-letter g l = AllWithin (NamesItsSide 2) l.word 0 l.letter-index
