use Rattle.std.proofs.Common.{◌≡◌, ◌≤◌, ◌-◌}
use Rattle.std.specs.Prelude.{IsTrue}
use Rattle.mb_text.specs.Texts.{AreDistinct, KeepsIds}
use Rattle.mb_cli.proofs.PartsRead.{IsAt}
use Rattle.mb_cli.proofs.pieces.scan.Given as goal

abbrev pub invariant-loop-lexer : goal.invariant-loop-lexer
invariant-loop-lexer g l = record {
  within : l.lexer.fed ≤ 1048576;
  shelf : g.L.Library.shelf l.library ≡ g.L.Library.shelf l.fn.library;
  sound : IsTrue (g.L.Library.sound l.fn.library) → IsTrue (g.L.Library.sound l.library);
  faults : g.L.Library.faults l.library ≡ g.L.Library.faults l.fn.library;
  ids : KeepsIds l.fn.texts l.texts;
  distinct : AreDistinct l.fn.texts → AreDistinct l.texts;
  read : IsAt (g.L.Library.shelf l.fn.library) l.name (g.L.Library.rest l.library) l.texts l.lexer;
}

abbrev pub decreases-loop-lexer : goal.decreases-loop-lexer
decreases-loop-lexer g l = 1048576 - l.lexer.fed
