use Rattle.std.proofs.Common.{map, take, ◌≡◌}
use Rattle.mb_cli.specs.Sharing.{letters_of}
use Rattle.mb_story.specs.Running.{NamesItsSides, letter_of}
use Rattle.mb_cli.proofs.shared.letters.letters.Given as goal

abbrev pub invariant-loop-byte : goal.invariant-loop-byte
invariant-loop-byte l = record {
  letters : map letter_of l.word.items ≡ letters_of (take l.byte-index l.schedule);
  sides : NamesItsSides 2 l.word.items;
}
