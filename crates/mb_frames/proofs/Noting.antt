-- An entry is added to a joined world.
use Rattle.mb_frames.proofs.Lasting.{Lasts, lasting-found, things-same}
use Rattle.mb_frames.proofs.Readying.{KeepsBuiltIns, all-grow, at-end, formed-by, queues-stay, ready-still, same-built-ins, scopes-stay}
use Rattle.mb_frames.proofs.StillFormed.{cells-stay, entry-stays}
use Rattle.mb_frames.proofs.AfterCalls.{still}
use Rattle.mb_frames.specs.Ready.{AnyEntry, IsReady}
use Rattle.mb_frames.specs.Wholeness.{StaysFound}
use Rattle.mb_world.proofs.Grow.{All-at, EntryIn-grows, Hold-entries}
use Rattle.mb_world.proofs.LongTexts.{Grows-entry}
use Rattle.mb_world.specs.Data.{Data, with_entry}
use Rattle.mb_world.specs.Formed.{FormedEntry}
use Rattle.mb_world.specs.Ids.{CellIn, EntryIn, HasItsIds, Hold}
use Rattle.mb_world.specs.declared.entry.Entry.{Entry}
use Rattle.std.proofs.Common.{Some, [], arith, inl, inr, length, length-append, refl, slice_get, sym, true, true≢false, ℕ, ◌<◌, ◌∙◌, ◌∷◌, ◌≡◌, ◌≤◌}
use Rattle.std.proofs.lemmas.List.Elements.{All-push}

module _ (d : Data) (e : Entry) (i : HasItsIds d) where
  entry-lasts : Lasts d (with_entry d e)
  entry-lasts = record {
    grew = record { grows = Grows-entry d e; programs = refl; sides = refl; joined = refl };
    cells = λ id c h. (c, h, still d (with_entry d e) (Grows-entry d e) c (All-at (CellIn d) d.cells id.0 c h i.cells_in));
    things = things-same d (with_entry d e) refl;
    scopes = λ id home h. h;
    entries = omega (arith, length-append d.entries (e ∷ []));
    rules = refl;
    revoked = refl;
  }

  pub noted-found : StaysFound d (with_entry d e)
  noted-found = lasting-found d (with_entry d e) entry-lasts

module _ (d : Data) (e : Entry) (r : IsReady d) (j : d.joined ≡ true) (h : EntryIn d e) (side : e.side.0 < d.sides)
    (began : e.began ≤ length d.entries) where
  its-form : (place : ℕ) (y : Entry) → slice_get (with_entry d e).entries place ≡ Some y
      → FormedEntry AnyEntry (with_entry d e) place y
  its-form place y k = elim (at-end d.entries e y place k) [
    | inl p ↦ entry-stays d (with_entry d e) r.ids (entry-lasts d e r.ids) place y (r.formed.entries place y p)
    | inr p ↦ rw (p.0, p.1) (record { side = side; began = began; form = tt })
  ]

  pub noted-world : IsReady (with_entry d e)
  noted-world =
      let d' : Data = with_entry d e in
      let l : Lasts d d' = entry-lasts d e r.ids in
      let b : KeepsBuiltIns d d' = same-built-ins d d' refl refl in
      let o : Hold d' d.symbols d.programs d.cells d.scopes d.queues d.rules d.entries = all-grow e.side d d' r l b in
      ready-still e.side d d' r l b
      (formed-by e.side d d' r l b (cells-stay d d' r l) (λ u. (r.formed.joined u).membrane)
      (scopes-stay e.side d d' r l b) (queues-stay e.side d d' r l b) its-form)
      (Hold-entries d' d.symbols d.programs d.cells d.scopes d.queues d.rules d.entries o d'.entries
      (All-push (EntryIn d') d.entries e o.entries_in (EntryIn-grows d d' (Grows-entry d e) e h)))
      (λ u. absurd (true≢false (sym j ∙ u))) (λ u. absurd (true≢false (sym j ∙ u)))
