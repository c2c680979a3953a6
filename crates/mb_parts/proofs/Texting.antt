-- Texts that are added keep a world ready.
use Rattle.mb_base.specs.declared.value.ObjId.{ObjId}
use Rattle.mb_base.specs.declared.value.Side.{Side}
use Rattle.mb_frames.proofs.AfterCalls.{still}
use Rattle.mb_frames.proofs.Changing.{paired-from}
use Rattle.mb_frames.proofs.Lasting.{Lasts, lasts-still}
use Rattle.mb_frames.proofs.Readying.{KeepsBuiltIns, changed-by, changed-same, queues-stay, scopes-stay}
use Rattle.mb_frames.proofs.StillFormed.{cells-stay}
use Rattle.mb_frames.specs.Passing.{TextsGrew}
use Rattle.mb_frames.specs.Ready.{Changed, IsReady}
use Rattle.mb_frames.specs.Wholeness.{KeepsCell, KeptWorld}
use Rattle.mb_world.proofs.Grow.{All-at}
use Rattle.mb_world.specs.Contained.{Contained, Paired}
use Rattle.mb_world.specs.Data.{Data, cell_at, with_texts}
use Rattle.mb_world.specs.Grows.{Grows}
use Rattle.mb_world.specs.Ids.{CellIn, HasItsIds}
use Rattle.mb_world.specs.declared.cell.Cell.{Cell}
use Rattle.std.proofs.Common.{Err, List, Ok, Result, Some, refl, subst, sym, ℕ, ◌≡◌}
use Rattle.std.specs.Prelude.{IsErr, OnErr}

module _ (home : Side) (d : Data) (texts : List (List ℕ)) (g : Grows d (with_texts d texts))
    (i : HasItsIds (with_texts d texts)) (r : IsReady d) where
  abbrev later : Data
  later = with_texts d texts

  cells-still : (id : ObjId) (x : Cell) → cell_at d id ≡ Some x
      → (e : Cell) × (cell_at later id ≡ Some e) × KeepsCell d later x e
  cells-still id x e = (x, e, still d later g x (All-at (CellIn d) d.cells id.0 x e r.ids.cells_in))

  texts-kept : Contained d → Paired d → KeptWorld home d later
  texts-kept c p = record {
    contained = record {
      cells_own = c.cells_own;
      two_of_proxies = c.two_of_proxies;
      scopes_own = c.scopes_own;
      jobs_own = c.jobs_own;
      of_table = c.of_table;
      one_for_a_place = c.one_for_a_place;
    };
    paired = paired-from d later r.ids (λ id x m. (λ e. e, λ e. e)) cells-still g p refl refl;
    rules = refl;
    entries = refl;
    revoked = refl;
    joined = refl;
    membrane = λ id x m. (λ e. e, λ e. e);
    resolves = g;
    opposite = refl;
    cells = cells-still;
  }

  more-texts : Changed home d later
  more-texts =
      let l : Lasts d later
      = lasts-still d later r.ids (record {
        grows = g;
        programs = refl;
        sides = refl;
        joined = refl;
      }) refl (λ id home h. h) refl refl refl in
      let b : KeepsBuiltIns d later = record {
        steady = λ id c place h s. h;
        first = λ side place id h. h;
        back = λ id c place h k. (c, h, k);
      } in
      changed-by home d later r l b refl (cells-stay d later r l) (λ u. (r.formed.joined u).membrane)
      (scopes-stay home d later r l b) (queues-stay home d later r l b) i
      (λ u. texts-kept (r.contained u) (r.paired u))

pub texts-changed : (home : Side) (d d' : Data) → TextsGrew d d' → IsReady d → Changed home d d'
texts-changed home d d' t r =
    let T : Data → Type 0 = λ x. Grows d x → HasItsIds x → Changed home d x in
    subst T (sym t.texts) (λ g i. more-texts home d d'.texts g i r) t.becomes.grows t.ids

pub texts-kept-or : {A B : Type 0} (home : Side) (d d' : Data) (result : Result A B) → OnErr result (d' ≡ d)
    → IsErr result → IsReady d → Changed home d d'
texts-kept-or home d d' (Ok x) h e r = cc
texts-kept-or home d d' (Err x) h e r = rw h (changed-same home d r)
