-- A machine stays ready where a step of the home of its top frame changed its world.
use Rattle.mb_base.specs.declared.value.Side.{Side}
use Rattle.mb_frames.proofs.Forming.{formed-after}
use Rattle.mb_frames.proofs.Leaving.{holds-all, holds-own, leaves-formed}
use Rattle.mb_frames.proofs.Owning.{contained-after, kept-own, steps-kept}
use Rattle.mb_frames.proofs.Parts.{all-second, same-lasts}
use Rattle.mb_frames.specs.Holding.{FrameIn, answer_held, done_held, frame_held, move_held, outcome_held}
use Rattle.mb_frames.specs.Ready.{Changed, Holds, IsReady, IsReadyMachine, Leaves}
use Rattle.mb_frames.specs.Standing.{Here, Logged}
use Rattle.mb_frames.specs.Stepping.{MayCross, Stepped, Written}
use Rattle.mb_frames.specs.Wholeness.{AreAtHome, AreOwn, AreSound, IsFitFrame, StaysFound, StepsKept, sort_by}
use Rattle.mb_frames.specs.declared.frame.Move.{Move}
use Rattle.mb_frames.specs.declared.machine.Halt.{Halt}
use Rattle.mb_frames.specs.declared.machine.Machine.{Machine}
use Rattle.mb_frames.specs.declared.machine.Waiting.{Waiting}
use Rattle.mb_frames.specs.declared.task.Answer.{Answer}
use Rattle.mb_frames.specs.declared.task.Answer.TheVariants as a
use Rattle.mb_frames.specs.declared.task.Outcome.{Outcome}
use Rattle.mb_frames.specs.declared.task.Outcome.TheVariants as o
use Rattle.mb_model.specs.Trace.Entries.{entries}
use Rattle.mb_world.specs.Data.{Data}
use Rattle.mb_world.specs.Graph.{Entry, Traced}
use Rattle.mb_world.specs.Image.{entries_in}
use Rattle.std.proofs.Common.{Err, List, None, Ok, Option, Some, [], ap, false, inl, inr, map, refl, subst, sym, true, true≢false, ℕ, ◌++◌, ◌<◌, ◌∙◌, ◌∷◌, ◌≡◌, ◌⊎◌}

-- ---- what a ready machine holds

-- what is known of an answer hangs on no home
answer-anywhere : (d : Data) (one other : Side) (y : Answer) → AreSound d one (answer_held y)
    → AreSound d other (answer_held y)
answer-anywhere d one other a.Nothing h = h
answer-anywhere d one other (a.Value x) h = h
answer-anywhere d one other (a.Flag b) h = h
answer-anywhere d one other (a.Prop p) h = h
answer-anywhere d one other (a.Given x) h = h
answer-anywhere d one other (a.Keys ks) h = h
answer-anywhere d one other (a.Values vs) h = h
answer-anywhere d one other (a.Place base key) h = h
answer-anywhere d one other (a.Pair key value) h = h
answer-anywhere d one other a.Empty h = h

outcome-anywhere : (d : Data) (one other : Side) (y : Outcome) → AreSound d one (outcome_held y)
    → AreSound d other (outcome_held y)
outcome-anywhere d one other (o.Normal y) h = answer-anywhere d one other y h
outcome-anywhere d one other (o.Throw x) h = h
outcome-anywhere d one other (o.Return x) h = h
outcome-anywhere d one other o.Break h = h
outcome-anywhere d one other o.Continue h = h

done-anywhere : (d : Data) (one other : Side) (y : Option Outcome) → AreSound d one (done_held y)
    → AreSound d other (done_held y)
done-anywhere d one other None h = h
done-anywhere d one other (Some y) h = outcome-anywhere d one other y h

at-top : (below : List Waiting) (top : Waiting) (now : Side) → AreAtHome (below ++ (top ∷ [])) now
    → (top.home ≡ now) ⊎ MayCross top.frame
at-top [] top now h = h.0
at-top (y ∷ ys) top now h = at-top ys top now h.1

module _ (d : Data) (m : Machine) (below : List Waiting) (top : Waiting) (h : IsReadyMachine d m)
    (was : m.stack.items ≡ below ++ (top ∷ [])) where
  pub top-home : top.home.0 < d.sides
  top-home = (all-second (λ (y : Waiting). y.home.0 < d.sides) below (top ∷ []) (rw (← was) h.formed.homes)).0

  pub top-holds : Holds d top.home (frame_held top.frame)
  top-holds = holds-all d top.home (frame_held top.frame)
      (all-second (λ (y : Waiting). FrameIn d y.frame) below (top ∷ []) (rw (← was) h.formed.ids.frames)).0
      (all-second (λ (y : Waiting). AreSound d y.home (frame_held y.frame)) below (top ∷ [])
      (rw (← was) h.formed.frames)).0
      (λ u. (all-second (λ (y : Waiting). AreOwn d y.home (frame_held y.frame)) below (top ∷ [])
      (rw (← was) (h.contained u).frames)).0)

  pub top-fit : IsFitFrame d top.frame
  top-fit = (all-second (λ (y : Waiting). IsFitFrame d y.frame) below (top ∷ []) (rw (← was) h.formed.fit)).0

  now-home : (MayCross top.frame → ⊥) → d.joined ≡ false → m.now ≡ top.home
  now-home n u = elim (at-top below top m.now (rw (← was) (h.contained u).homes)) [
    | inl r ↦ sym r
    | inr r ↦ absurd (n r)
  ]

  pub done-holds : (MayCross top.frame → ⊥) → Holds d top.home (done_held m.done)
  done-holds n = holds-all d top.home (done_held m.done) h.formed.ids.done
      (done-anywhere d m.now top.home m.done h.formed.done)
      (λ u. subst (λ (s : Side). AreOwn d s (done_held m.done)) (now-home n u) (h.contained u).done)

-- ---- a step

traced : (es : List Entry) → entries (map Traced es) ≡ es
traced [] = refl
traced (e ∷ es) = ap (λ z. e ∷ z) (traced es)

a-log : (d : Data) → Logged d (map Traced (entries_in d))
a-log d = traced (entries_in d)

module _ (m m' : Machine) (d d' : Data) (f f' : ℕ) (l l' : Written) (q : Stepped m m' d d' f f' l l')
    (h : IsReadyMachine d m) (y : Move) (p : q.passage ≡ Here q.top.home y) (k : Changed q.top.home d d')
    (v : Leaves d' q.top.home (sort_by d q.top h.formed.sort) y) where
  not-joined : d'.joined ≡ false → d.joined ≡ false
  not-joined u = sym k.found.grew.joined ∙ u

  inside : q.top.home.0 < d'.sides
  inside = rw k.found.grew.sides (top-home d m q.below q.top h q.was)

  owned : d'.joined ≡ false → AreOwn d' q.top.home (move_held y)
  owned u = holds-own d' q.top.home (move_held y) u v.holds

  pub machine-ready : IsReadyMachine d' m'
  machine-ready = record {
    world = k.ready;
    formed = formed-after m m' d d' f f' l l' q (map Traced (entries_in d)) (a-log d) h.formed h.world.ids k.found
        (rw p (leaves-formed d' q.top.home (sort_by d q.top h.formed.sort) inside y v));
    contained = λ u. contained-after m m' d d' f f' l l' q (map Traced (entries_in d)) (a-log d) h.formed.ids
        (h.contained (not-joined u)) (k.kept (not-joined u)).contained
        (kept-own q.top.home d d' (k.kept (not-joined u))) (rw p refl) (rw p (owned u));
  }

  pub step-keeps : StepsKept (Ok tt) m m' d d'
  step-keeps = λ u below top was.
      steps-kept m m' d d' f f' l l' q (map Traced (entries_in d)) (a-log d) h.formed.ids (h.contained u) (k.kept u) y p
      (owned (k.found.grew.joined ∙ u)) u below top was

pub halt-keeps : (halt : Halt) (m m' : Machine) (d d' : Data) (below : List Waiting) (top : Waiting)
    → m.stack.items ≡ below ++ (top ∷ []) → Changed top.home d d' → StepsKept (Err halt) m m' d d'
halt-keeps halt m m' d d' below top was k = λ u under last also.
    rw (← ap (λ (z : Waiting). z.home) (same-lasts below under top last (sym was ∙ also))) (k.kept u)

-- in a joined world a step may act for any side
module _ (m m' : Machine) (d d' : Data) (f f' : ℕ) (l l' : Written) (q : Stepped m m' d d' f f' l l')
    (h : IsReadyMachine d m) (side : Side) (y : Move) (p : q.passage ≡ Here side y) (j : d.joined ≡ true)
    (i : side.0 < d.sides) (r : IsReady d') (k : StaysFound d d') (v : Leaves d' side (sort_by d q.top h.formed.sort) y) where
  pub noted-ready : IsReadyMachine d' m'
  noted-ready = record {
    world = r;
    formed = formed-after m m' d d' f f' l l' q (map Traced (entries_in d)) (a-log d) h.formed h.world.ids k
        (rw p (leaves-formed d' side (sort_by d q.top h.formed.sort) (rw k.grew.sides i) y v));
    contained = λ u. absurd (true≢false (sym j ∙ sym k.grew.joined ∙ u));
  }
