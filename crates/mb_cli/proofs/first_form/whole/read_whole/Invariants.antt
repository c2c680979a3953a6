use Rattle.std.proofs.Common.{◌≡◌, ◌≤◌, ◌-◌, Some, vec_len}
use Rattle.std.specs.Prelude.{IsTrue}
use Rattle.mb_text.specs.Texts.{AreDistinct}
use Rattle.mb_lexer.specs.Feeding.{Fed}
use Rattle.mb_outer.specs.Shelf.{Shelf}
use Rattle.mb_cli.proofs.PartsRead.{IsRead}
use Rattle.mb_cli.proofs.first_form.whole.read_whole.Given as goal

abbrev pub invariant-loop-texts : goal.invariant-loop-texts
invariant-loop-texts g l = record {
  within : vec_len l.bytes ≤ l.most;
  count : l.lexer.fed ≡ vec_len l.bytes;
  fed : Fed l.lexer l.texts l.bytes.items;
  distinct : AreDistinct l.texts;
  shelf : g.L.Library.shelf l.library ≡ g.L.Library.shelf l.fn.library;
  sound : IsTrue (g.L.Library.sound l.fn.library) → IsTrue (g.L.Library.sound l.library);
  faults : g.L.Library.faults l.library ≡ g.L.Library.faults l.fn.library;
  read : (s : Shelf) → g.L.Library.shelf l.fn.library ≡ Some s → IsRead s l.name (g.L.Library.rest l.library) l.bytes.items;
}

abbrev pub decreases-loop-texts : goal.decreases-loop-texts
decreases-loop-texts g l = l.most - vec_len l.bytes
