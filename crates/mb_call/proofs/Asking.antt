-- What is asked of an object, below a call that waits for the answer.
use Rattle.std.proofs.Common.{List, Ok, ap, refl, sym, true, ℕ, ◌∙◌, ◌∷◌, ◌≡◌}
use Rattle.mb_base.specs.declared.value.ObjId.{ObjId}
use Rattle.mb_base.specs.declared.value.Side.{Side}
use Rattle.mb_frames.proofs.Agreeing.{call-agrees, grown-agree}
use Rattle.mb_frames.proofs.Growing.{are-grown}
use Rattle.mb_frames.proofs.Keeping.{keeps-left, leaves-wait}
use Rattle.mb_frames.proofs.Leaving.{holds-still}
use Rattle.mb_frames.proofs.Linking.{fits-then}
use Rattle.mb_frames.proofs.Parts.{all-both}
use Rattle.mb_frames.proofs.Passed.{Part-passed, Part-sure, Passes-texts}
use Rattle.mb_frames.proofs.Steps.{Sure-wait}
use Rattle.mb_frames.specs.Held.{AreIn, HeldIn, HeldObject}
use Rattle.mb_frames.specs.Holding.{call_held, method_held, task_held}
use Rattle.mb_frames.specs.Passing.{Part, TextsGrew}
use Rattle.mb_frames.specs.Ready.{Changed, Gives, Holds, IsReady, KeepsBy, Leaves}
use Rattle.mb_frames.specs.Resolved.{task_in}
use Rattle.mb_frames.specs.Rest.Calls.{call_rest}
use Rattle.mb_frames.specs.Sorts.{Sort, call_gives, call_waits, fits, frame_sort, method_gives, task_gives}
use Rattle.mb_frames.specs.Standing.{forms_at}
use Rattle.mb_frames.specs.declared.calls.CallFrame.{CallFrame}
use Rattle.mb_frames.specs.declared.frame.Frame.TheVariants as x
use Rattle.mb_frames.specs.declared.frame.Move.{Move}
use Rattle.mb_frames.specs.declared.frame.Move.TheVariants as move
use Rattle.mb_frames.specs.declared.task.Method.{Method}
use Rattle.mb_frames.specs.declared.task.Task.{Task}
use Rattle.mb_frames.specs.declared.task.Task.TheVariants as task
use Rattle.mb_model.specs.Engine.{Do}
use Rattle.mb_model.specs.Meaning.{finished}
use Rattle.mb_model.specs.Task as model
use Rattle.mb_model.specs.Task.{Answer}
use Rattle.mb_model.specs.Writing.{Does, Row}
use Rattle.mb_world.specs.Data.{Data}
use Rattle.mb_world.specs.Graph.{Graph, Item}
use Rattle.mb_world.specs.Image.{Image, names_of}

-- ---- the part of a row that asks, where texts were added before it

module _ (home : Side) (d d' : Data) (f : ℕ) (t : TextsGrew d d') (y : CallFrame) (i : AreIn d (call_held y)) where
  -- what the call does with the outcome
  abbrev rest : model.Outcome → Graph → Row
  rest = λ q. call_rest (names_of d) (forms_at d' home) home.0 y q finished

  pub Part-asks : (asked : Task) (z : model.Task) (p : Graph → Row) → AreIn d' (task_held asked)
      → task_in (names_of d') home.0 asked ≡ z
      → ((log : List Item) → p (Image d log) ≡ Do z (Image d log) rest)
      → Part home (Ok (move.Wait (x.Call y) asked)) d d' f f p
  Part-asks asked z p k e h =
      let n' = names_of d' in
      let q : Graph → Row = λ g. Do (task_in n' home.0 asked) g rest in
      Part-passed home (Ok (move.Wait (x.Call y) asked)) d d' d' f f f p q
      (Passes-texts d d' f p q t (λ log. h log ∙ ap (λ (u : model.Task). Do u (Image d log) rest) (sym e)))
      (Part-sure home d' f q (move.Wait (x.Call y) asked)
      (Sure-wait home d' (x.Call y) asked q rest (λ log. refl) tt
      (λ o g. ap (λ (u : Does Answer). u finished g)
      (sym (call-agrees d (names_of d) n' (grown-agree d d' t.becomes.grows) home.0 (forms_at d' home) y i o)))
      (all-both (HeldIn d') (call_held y) (task_held asked) (are-grown d d' t.becomes.grows (call_held y) i) k)))

-- ---- what it leaves

module _ (home : Side) (d d' : Data) (wanted : Sort) (y : CallFrame) (method : Method) (object : ObjId)
    (e : fits (method_gives method) (call_waits y) ≡ true) (g : fits (call_gives y) wanted ≡ true) where
  pub asks-kept : IsReady d → Changed home d d' → Holds d home (call_held y)
      → Holds d' home (HeldObject object ∷ method_held object method)
      → KeepsBy home wanted (Ok (move.Wait (x.Call y) (task.Perform method object home true))) d d'
  asks-kept r c h k =
      keeps-left home wanted (move.Wait (x.Call y) (task.Perform method object home true)) d d' c
      (leaves-wait d' home wanted (x.Call y) (task.Perform method object home true)
      (holds-still home d d' r c (call_held y) h) k tt tt (e, g))

-- what gives a sort gives each that it fits
module _ (d : Data) (home : Side) (a b : Sort) (e : fits a b ≡ true) where
  gives-fit : (go : Move) → Gives d home a go → Gives d home b go
  gives-fit (move.Done y) h = (h.0, h.1, fits-then h.0 a b h.2 e)
  gives-fit (move.Wait y t) h =
      (h.0, fits-then (frame_sort (forms_at d home) y (task_gives (forms_at d home) t)) a b h.1 e)
  gives-fit (move.Next t) h = fits-then (task_gives (forms_at d home) t) a b h e
  gives-fit (move.Anew t) h = fits-then (task_gives (forms_at d home) t) a b h e
  gives-fit (move.Entered y t) h =
      (h.0, fits-then (frame_sort (forms_at d home) y (task_gives (forms_at d home) t)) a b h.1 e)

  pub leaves-fit : (go : Move) → Leaves d home a go → Leaves d home b go
  leaves-fit go h = record { holds = h.holds; fit = h.fit; gives = gives-fit go h.gives }
