-- What is asked of an object, below a member that waits for the answer.
use Rattle.std.proofs.Common.{List, Ok, ap, refl, sym, true, ℕ, ◌∙◌, ◌∷◌, ◌≡◌}
use Rattle.mb_base.specs.declared.value.ObjId.{ObjId}
use Rattle.mb_base.specs.declared.value.Side.{Side}
use Rattle.mb_frames.proofs.Agreeing.{array-agrees, grown-agree}
use Rattle.mb_frames.proofs.Growing.{are-grown}
use Rattle.mb_frames.proofs.Keeping.{keeps-left, leaves-wait}
use Rattle.mb_frames.proofs.Leaving.{holds-in, holds-still}
use Rattle.mb_frames.proofs.Parts.{all-both}
use Rattle.mb_frames.proofs.Passed.{Part-passed, Part-sure, Passes-texts}
use Rattle.mb_frames.proofs.Steps.{Sure-wait}
use Rattle.mb_frames.specs.Held.{AreIn, HeldIn, HeldObject}
use Rattle.mb_frames.specs.Holding.{array_held, method_held, task_held}
use Rattle.mb_frames.specs.Passing.{Part, TextsGrew}
use Rattle.mb_frames.specs.Ready.{Changed, Holds, IsReady, KeepsBy}
use Rattle.mb_frames.specs.Resolved.{task_in}
use Rattle.mb_frames.specs.Rest.Arraying.{array_rest}
use Rattle.mb_frames.specs.Rest.Parts.{with_answer}
use Rattle.mb_frames.specs.Sorts.{Sort, array_gives, array_waits, fits, method_gives}
use Rattle.mb_frames.specs.declared.arrays.ArrayFrame.{ArrayFrame}
use Rattle.mb_frames.specs.declared.frame.Frame.TheVariants as x
use Rattle.mb_frames.specs.declared.frame.Move.TheVariants as move
use Rattle.mb_frames.specs.declared.task.Method.{Method}
use Rattle.mb_frames.specs.declared.task.Task.{Task}
use Rattle.mb_frames.specs.declared.task.Task.TheVariants as task
use Rattle.mb_model.specs.Engine.{Do}
use Rattle.mb_model.specs.Meaning.{finished}
use Rattle.mb_model.specs.Task as model
use Rattle.mb_model.specs.Task.{Answer}
use Rattle.mb_model.specs.Writing.{Does, Row}
use Rattle.mb_parts.proofs.Texting.{texts-changed}
use Rattle.mb_world.specs.Data.{Data}
use Rattle.mb_world.specs.Graph.{Graph, Item}
use Rattle.mb_world.specs.Image.{Image, names_of}

-- ---- the part of a row that asks, where texts were added before it

module _ (home : Side) (d d' : Data) (f : ℕ) (t : TextsGrew d d') (y : ArrayFrame) (h : Holds d home (array_held y))
    (method : Method) (object : ObjId) (k : Holds d' home (HeldObject object ∷ method_held object method)) where
  abbrev asked : Task
  asked = task.Perform method object home true

  -- what the member does with the outcome
  abbrev rest : model.Outcome → Graph → Row
  rest = λ q. with_answer q (array_rest (names_of d) home.0 y) finished

  i : AreIn d (array_held y)
  i = holds-in d home (array_held y) h

  same-rest : (q : model.Outcome) (g : Graph)
      → rest q g ≡ with_answer q (array_rest (names_of d') home.0 y) finished g
  same-rest (model.Normal a) g =
      ap (λ (u : Does Answer). u finished g)
      (sym (array-agrees d (names_of d) (names_of d') (grown-agree d d' t.becomes.grows) home.0 y i a))
  same-rest (model.Throw v) g = refl
  same-rest (model.Return v) g = refl
  same-rest model.Break g = refl
  same-rest model.Continue g = refl

  pub Part-asks : (z : model.Task) (p : Graph → Row) → task_in (names_of d') home.0 asked ≡ z
      → ((log : List Item) → p (Image d log) ≡ Do z (Image d log) rest)
      → Part home (Ok (move.Wait (x.Array y) asked)) d d' f f p
  Part-asks z p e same =
      let q : Graph → Row = λ g. Do (task_in (names_of d') home.0 asked) g rest in
      Part-passed home (Ok (move.Wait (x.Array y) asked)) d d' d' f f f p q
      (Passes-texts d d' f p q t (λ log. same log ∙ ap (λ (u : model.Task). Do u (Image d log) rest) (sym e)))
      (Part-sure home d' f q (move.Wait (x.Array y) asked)
      (Sure-wait home d' (x.Array y) asked q rest (λ log. refl) tt same-rest
      (all-both (HeldIn d') (array_held y) (task_held asked) (are-grown d d' t.becomes.grows (array_held y) i)
      (holds-in d' home (task_held asked) k))))

  -- what it leaves
  module _ (r : IsReady d) (wanted : Sort) (e : fits (method_gives method) (array_waits y) ≡ true)
      (g : fits (array_gives y) wanted ≡ true) where
    later : Changed home d d'
    later = texts-changed home d d' t r

    pub asks-kept : KeepsBy home wanted (Ok (move.Wait (x.Array y) asked)) d d'
    asks-kept =
        keeps-left home wanted (move.Wait (x.Array y) asked) d d' later
        (leaves-wait d' home wanted (x.Array y) asked (holds-still home d d' r later (array_held y) h) k tt tt (e, g))
