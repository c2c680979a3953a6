-- A cell that changes changes its object in the graph, and nothing else.
use Rattle.std.proofs.Common.{◌≡◌, ◌∙◌, List, Ok, Some, ap, arith, refl, slice_set, sym, true, ℕ}
use Rattle.std.proofs.lemmas.Option.{slice_get_within}
use Rattle.mb_base.specs.declared.value.ObjId.{ObjId}
use Rattle.mb_base.specs.declared.value.Side.{Side}
use Rattle.mb_frames.proofs.Entries.{entries-grow}
use Rattle.mb_frames.proofs.Passed.{Part-passed, Part-sure, Passes-becomes}
use Rattle.mb_frames.specs.Passing.{Part}
use Rattle.mb_frames.specs.Stepping.{Sure}
use Rattle.mb_frames.specs.declared.frame.Move.{Move}
use Rattle.mb_model.specs.Operations.Makings.{alter, altered}
use Rattle.mb_model.specs.Task.{Answer, Nothing}
use Rattle.mb_model.specs.Writing.{Row}
use Rattle.mb_parts.proofs.ObjectChanged.{altered-at, becomes}
use Rattle.mb_world.proofs.AfterCalls.{numbers-rank, object-is, of-cell, rank}
use Rattle.mb_world.specs.Data.{Data, cell_at, change_cell, is_object_cell, stand}
use Rattle.mb_world.specs.Graph.{Graph, Item, Thing}
use Rattle.mb_world.specs.Ids.{HasItsIds}
use Rattle.mb_world.specs.Image.{Image, names_of, number_at, object_in, thing_in}
use Rattle.mb_world.specs.Objects.{thing_at}
use Rattle.mb_world.specs.Value.{Val}
use Rattle.mb_world.specs.declared.cell.Cell.{Cell}

module _ (d : Data) (id : ObjId) (c : Cell) (F : Cell → Cell) (there : cell_at d id ≡ Some c)
    (same : stand (F c) ≡ stand c)
    (counted : is_object_cell c ≡ true) where
  -- what the change makes of the object
  altered-image : (f : Thing → Thing) → thing_in (names_of d) (F c) ≡ f (thing_in (names_of d) c) → (log : List Item)
      → Image (change_cell d id F) log
      ≡ altered (object_in (names_of d) id) f (thing_at (Image d log) (object_in (names_of d) id)) (Image d log)
  altered-image f e log =
      let n : number_at (names_of d) id.0 ≡ rank d.cells id.0
      = omega (arith, numbers-rank d.cells id.0 0 (slice_get_within d.cells id.0 c there)) in
      (becomes d id c F there same counted).image log
      ∙ ap (λ (y : Thing). let r : Graph = record
      (Image d log) { objects = slice_set (Image d log).objects (number_at (names_of d) id.0) y } in r) e
      ∙ ap (λ (m : ℕ). let r : Graph = record (Image d log) {
        objects =
            slice_set (Image d log).objects m (f (thing_in (names_of d) c));
      } in r) n
      ∙ sym (altered-at (Image d log) (object_in (names_of d) id) (rank d.cells id.0) (thing_in (names_of d) c) f
      (of-cell d id c log there counted) (object-is d id c there counted))

  -- the change, and what follows it
  pub part-altered : (home : Side) (m : Move) (u : ℕ) (f : Thing → Thing) (p : Answer → Graph → Row)
      → thing_in (names_of d) (F c) ≡ f (thing_in (names_of d) c) → HasItsIds d
      → Sure home (change_cell d id F) (p Nothing) m
      → Part home (Ok m) d (change_cell d id F) u u (alter (object_in (names_of d) id) f p)
  part-altered home m u f p e i h =
      let d' : Data = change_cell d id F in
      let o : Val = object_in (names_of d) id in
      Part-passed home (Ok m) d d' d' u u u (alter o f p) (p Nothing)
      (Passes-becomes d d' u (λ g. altered o f (thing_at g o) g) (alter o f p) (p Nothing)
      (record { grows = (becomes d id c F there same counted).grows; image = altered-image f e })
      (entries-grow d d' (becomes d id c F there same counted).grows i (rw there refl)) (rw there refl) (rw there refl)
      (rw there refl) (λ log. refl))
      (Part-sure home d' u (p Nothing) m h)
