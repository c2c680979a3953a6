-- What may be held: its parts, that it may be held still after a change, and that what a part leaves goes on formed.
use Rattle.mb_base.specs.declared.value.Side.{Side}
use Rattle.mb_frames.proofs.Forming.{anew-formed, ends-formed, entered-formed, next-formed, wait-formed}
use Rattle.mb_frames.proofs.Founding.{sound-stays}
use Rattle.mb_frames.proofs.Growing.{held-grows}
use Rattle.mb_frames.proofs.Owning.{ids-own, kept-own, of-held}
use Rattle.mb_frames.proofs.Parts.{all-first, all-second}
use Rattle.mb_frames.specs.Held.{AreIn, Held}
use Rattle.mb_frames.specs.Holding.{frame_held, outcome_held, task_held}
use Rattle.mb_frames.specs.Ready.{Changed, Holds, IsReady, Leaves, MayHold}
use Rattle.mb_frames.specs.Sorts.{Sort}
use Rattle.mb_frames.specs.Standing.{Here}
use Rattle.mb_frames.specs.Wholeness.{AreOwn, AreSound, GoesOnFormed, IsSound, in_held}
use Rattle.mb_frames.specs.declared.frame.Move.{Move}
use Rattle.mb_frames.specs.declared.frame.Move.TheVariants as move
use Rattle.mb_world.specs.Data.{Data}
use Rattle.std.proofs.Common.{List, [], false, sym, ◌++◌, ◌<◌, ◌∙◌, ◌∷◌, ◌≡◌}

-- ---- the parts of what may be held

module _ (d : Data) (home : Side) where
  pub holds-in : (ys : List Held) → Holds d home ys → AreIn d ys
  holds-in [] h = tt
  holds-in (y ∷ ys) h = (h.0.within, holds-in ys h.1)

  pub holds-sound : (ys : List Held) → Holds d home ys → AreSound d home ys
  holds-sound [] h = tt
  holds-sound (y ∷ ys) h = (h.0.sound, holds-sound ys h.1)

  pub holds-own : (ys : List Held) → d.joined ≡ false → Holds d home ys → AreOwn d home ys
  holds-own [] u h = tt
  holds-own (y ∷ ys) u h = (h.0.own u, holds-own ys u h.1)

  pub holds-all : (ys : List Held) → AreIn d ys → AreSound d home ys → (d.joined ≡ false → AreOwn d home ys)
      → Holds d home ys
  holds-all [] i s o = tt
  holds-all (y ∷ ys) i s o =
      (record { within = i.0; sound = s.0; own = λ u. (o u).0 }, holds-all ys i.1 s.1 (λ u. (o u).1))

-- ---- after a change

module _ (home : Side) (d d' : Data) (r : IsReady d) (k : Changed home d d') where
  pub held-stays : (y : Held) → MayHold d home y → MayHold d' home y
  held-stays y h = record {
    within = held-grows d d' k.found.grew.grows y h.within;
    sound = sound-stays d d' r.ids k.found home y h.within h.sound;
    own = λ u.
        let w : d.joined ≡ false = sym k.found.grew.joined ∙ u in
        ids-own d d' (kept-own home d d' (k.kept w)) home (in_held y) (of-held d y h.within) (h.own w);
  }

  pub holds-still : (ys : List Held) → Holds d home ys → Holds d' home ys
  holds-still [] h = tt
  holds-still (y ∷ ys) h = (held-stays y h.0, holds-still ys h.1)

-- ---- what a part leaves

module _ (d : Data) (home : Side) (wanted : Sort) (inside : home.0 < d.sides) where
  both-sound : (a b : List Held) → Holds d home (a ++ b) → AreSound d home a × AreSound d home b
  both-sound a b h = (
    all-first (IsSound d home) a b (holds-sound d home (a ++ b) h),
    all-second (IsSound d home) a b (holds-sound d home (a ++ b) h),
  )

  pub leaves-formed : (m : Move) → Leaves d home wanted m → GoesOnFormed d wanted (Here home m)
  leaves-formed (move.Done y) h =
      ends-formed d home wanted inside y h.gives.0 (holds-sound d home (outcome_held y) h.holds) h.gives.1 h.gives.2
  leaves-formed (move.Wait y t) h =
      let s : AreSound d home (frame_held y) × AreSound d home (task_held t)
      = both-sound (frame_held y) (task_held t) h.holds in
      wait-formed d home wanted inside y t s.0 s.1 h.fit.0 h.fit.1 h.gives.0 h.gives.1
  leaves-formed (move.Next t) h =
      next-formed d home wanted inside t (holds-sound d home (task_held t) h.holds) h.fit h.gives
  leaves-formed (move.Anew t) h =
      anew-formed d home wanted inside t (holds-sound d home (task_held t) h.holds) h.fit h.gives
  leaves-formed (move.Entered y t) h =
      let s : AreSound d home (frame_held y) × AreSound d home (task_held t)
      = both-sound (frame_held y) (task_held t) h.holds in
      entered-formed d home wanted inside y t s.0 s.1 h.fit.0 h.fit.1 h.gives.0 h.gives.1
