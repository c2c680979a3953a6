-- What is asked of an object below a frame of a Proxy, where texts were added before it.
use Rattle.std.proofs.Common.{List, Ok, ap, refl, sym, true, ℕ, ◌∙◌, ◌∷◌, ◌≡◌}
use Rattle.mb_base.specs.declared.value.ObjId.{ObjId}
use Rattle.mb_base.specs.declared.value.Side.{Side}
use Rattle.mb_frames.proofs.Agreeing.{grown-agree, proxy-agrees}
use Rattle.mb_frames.proofs.Growing.{are-grown}
use Rattle.mb_frames.proofs.Keeping.{keeps-left, leaves-wait}
use Rattle.mb_frames.proofs.Leaving.{holds-still}
use Rattle.mb_frames.proofs.Parts.{all-both}
use Rattle.mb_frames.proofs.Passed.{Part-passed, Part-sure, Passes-texts}
use Rattle.mb_frames.proofs.Steps.{Sure-wait}
use Rattle.mb_frames.specs.Held.{AreIn, HeldIn, HeldObject}
use Rattle.mb_frames.specs.Holding.{method_held, proxy_held, task_held}
use Rattle.mb_frames.specs.Passing.{Part, TextsGrew}
use Rattle.mb_frames.specs.Ready.{Changed, Holds, IsReady, KeepsBy}
use Rattle.mb_frames.specs.Resolved.{task_in}
use Rattle.mb_frames.specs.Rest.Proxying.{proxy_rest}
use Rattle.mb_frames.specs.Sorts.{Sort, fits, method_gives, proxy_gives, proxy_waits}
use Rattle.mb_frames.specs.Standing.{forms_at, frame_row}
use Rattle.mb_frames.specs.declared.frame.Frame.TheVariants as x
use Rattle.mb_frames.specs.declared.frame.Move.TheVariants as move
use Rattle.mb_frames.specs.declared.proxies.ProxyFrame.{ProxyFrame}
use Rattle.mb_frames.specs.declared.task.Method.{Method}
use Rattle.mb_frames.specs.declared.task.Task.{Task}
use Rattle.mb_frames.specs.declared.task.Task.TheVariants as task
use Rattle.mb_model.specs.Engine.{Do}
use Rattle.mb_model.specs.Meaning.{finished}
use Rattle.mb_model.specs.Task as model
use Rattle.mb_model.specs.Task.{Answer}
use Rattle.mb_model.specs.Writing.{Does, Row, pass}
use Rattle.mb_world.specs.Data.{Data}
use Rattle.mb_world.specs.Graph.{Graph, Item}
use Rattle.mb_world.specs.Grows.{Grows}
use Rattle.mb_world.specs.Image.{Image, names_of}

-- what the frame does with the outcome, it does in a world that grew
module _ (home : Side) (d d' : Data) (g : Grows d d') (y : ProxyFrame) (i : AreIn d (proxy_held y)) where
  pub rest-same : (q : model.Outcome) (z : Graph)
      → pass q (λ a. proxy_rest (names_of d) home.0 y a finished) z
      ≡ frame_row (names_of d') (forms_at d' home) home.0 (x.Proxy y) q z
  rest-same (model.Normal a) z =
      ap (λ (u : Does Answer). u finished z)
      (sym (proxy-agrees d (names_of d) (names_of d') (grown-agree d d' g) home.0 y i a))
  rest-same (model.Throw v) z = refl
  rest-same (model.Return v) z = refl
  rest-same model.Break z = refl
  rest-same model.Continue z = refl

module _ (home : Side) (d d' : Data) (f : ℕ) (t : TextsGrew d d') (y : ProxyFrame) (i : AreIn d (proxy_held y)) where
  -- what the frame does with the outcome
  abbrev rest : model.Outcome → Graph → Row
  rest = λ q. pass q (λ a. proxy_rest (names_of d) home.0 y a finished)

  pub Part-looks : (asked : Task) (z : model.Task) (p : Graph → Row) → AreIn d' (task_held asked)
      → task_in (names_of d') home.0 asked ≡ z
      → ((log : List Item) → p (Image d log) ≡ Do z (Image d log)
      (λ q. pass q (λ a. proxy_rest (names_of d) home.0 y a finished)))
      → Part home (Ok (move.Wait (x.Proxy y) asked)) d d' f f p
  Part-looks asked z p k e h =
      let n' = names_of d' in
      let q : Graph → Row = λ g. Do (task_in n' home.0 asked) g rest in
      Part-passed home (Ok (move.Wait (x.Proxy y) asked)) d d' d' f f f p q
      (Passes-texts d d' f p q t (λ log. h log ∙ ap (λ (u : model.Task). Do u (Image d log) rest) (sym e)))
      (Part-sure home d' f q (move.Wait (x.Proxy y) asked)
      (Sure-wait home d' (x.Proxy y) asked q rest (λ log. refl) tt
      (rest-same home d d' t.becomes.grows y i)
      (all-both (HeldIn d') (proxy_held y) (task_held asked) (are-grown d d' t.becomes.grows (proxy_held y) i) k)))

-- ---- what it leaves

pub looks-kept : (home : Side) (d d' : Data) (wanted : Sort) (y : ProxyFrame) (method : Method) (object : ObjId)
    → fits (method_gives method) (proxy_waits y) ≡ true → fits (proxy_gives y) wanted ≡ true → IsReady d
    → Changed home d d' → Holds d home (proxy_held y) → Holds d' home (HeldObject object ∷ method_held object method)
    → KeepsBy home wanted (Ok (move.Wait (x.Proxy y) (task.Perform method object home true))) d d'
looks-kept home d d' wanted y method object e g r c h k =
    keeps-left home wanted (move.Wait (x.Proxy y) (task.Perform method object home true)) d d' c
    (leaves-wait d' home wanted (x.Proxy y) (task.Perform method object home true)
    (holds-still home d d' r c (proxy_held y) h) k tt tt (e, g))
