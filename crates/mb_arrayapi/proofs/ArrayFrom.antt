-- The array of the arguments of Array is given.
use Rattle.std.proofs.Common.{Ok, List, refl, ℕ}
use Rattle.mb_arrayapi.proofs.Acting.{Part-value}
use Rattle.mb_arrayapi.proofs.ArrayMade.{made-went}
use Rattle.mb_arrayapi.specs.machine.Making.{Made}
use Rattle.mb_base.specs.declared.value.ObjId.{ObjId}
use Rattle.mb_base.specs.declared.value.Side.{Side}
use Rattle.mb_base.specs.declared.value.Value.TheVariants as v
use Rattle.mb_frames.proofs.Giving.{gives-outcome}
use Rattle.mb_frames.proofs.Going.{Makes-passes}
use Rattle.mb_frames.proofs.HeldLess.{array-object, object-value}
use Rattle.mb_frames.proofs.Keeping.{keeps-left}
use Rattle.mb_frames.proofs.Passed.{Part-passed}
use Rattle.mb_frames.specs.Held.{HeldArray}
use Rattle.mb_frames.specs.Passing.{Part}
use Rattle.mb_frames.specs.Ready.{Changed, KeepsBy, MayHold}
use Rattle.mb_frames.specs.Sorts.{AnObject}
use Rattle.mb_frames.specs.declared.frame.Move.{Move}
use Rattle.mb_frames.specs.declared.frame.Move.TheVariants as move
use Rattle.mb_frames.specs.declared.task.Answer.TheVariants as a
use Rattle.mb_frames.specs.declared.task.Outcome.TheVariants as o
use Rattle.mb_model.specs.Meaning.{finished}
use Rattle.mb_model.specs.Operations.Makings.{array_thing}
use Rattle.mb_model.specs.Writing.{◌>>=◌, is_value, make}
use Rattle.mb_world.specs.Data.{Data}
use Rattle.mb_world.specs.Image.{names_of, object_in}
use Rattle.mb_world.specs.Value.{Val}

module _ (home : Side) (d d' : Data) (s n : ℕ) (p : Val) (xs : List Val) (id : ObjId) (m : Made d d' s p n xs id)
    (h : MayHold d' home (HeldArray id)) where
  abbrev given : Move
  given = move.Done (o.Normal (a.Value (v.Object id)))

  abbrev w : Val
  w = object_in (names_of d') id

  pub Part-given : (f : ℕ)
      → Part home (Ok given) d d' f f ((make (array_thing s p n xs) >>= is_value) finished)
  Part-given f =
      Part-passed home (Ok given) d d' d' f f f ((make (array_thing s p n xs) >>= is_value) finished)
      (is_value w finished)
      (Makes-passes d d' f (make (array_thing s p n xs)) id (λ u. is_value u finished)
      (made-went d d' s p n xs id m))
      (Part-value home d' f (is_value w) (v.Object id) h.within refl)

  pub given-kept : Changed home d d' → KeepsBy home AnObject (Ok given) d d'
  given-kept k =
      keeps-left home AnObject given d d' k
      (record {
        holds = (object-value d' home id (array-object d' home id h), tt);
        fit = tt;
        gives = gives-outcome d' home AnObject (o.Normal (a.Value (v.Object id))) tt;
      })
