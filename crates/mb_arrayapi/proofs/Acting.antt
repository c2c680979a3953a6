-- A side that acts in a ready world: what its parts keep.
use Rattle.std.proofs.Common.{◌<◌, ◌≡◌, Err, List, Ok, Result, ap, true, ℕ}
use Rattle.mb_base.specs.declared.value.Side.{Side}
use Rattle.mb_base.specs.declared.value.Value.{Value}
use Rattle.mb_call.specs.Ours.{Acts}
use Rattle.mb_frames.proofs.Keeping.{inside-still, keeps-halted, keeps-left, keeps-then, leaves-value}
use Rattle.mb_frames.proofs.Leaving.{holds-still}
use Rattle.mb_frames.proofs.Linking.{fits-then}
use Rattle.mb_frames.proofs.Passed.{Part-by, Part-passed, Part-sure, Passes-texts}
use Rattle.mb_frames.proofs.Readying.{changed-same}
use Rattle.mb_frames.specs.Held.{Held, HeldValue}
use Rattle.mb_frames.specs.Ready.{Changed, Gives, Holds, KeepsBy, Leaves, MayHold}
use Rattle.mb_frames.specs.Sorts.{AValue, Sort, fits, frame_sort, task_gives}
use Rattle.mb_frames.specs.Standing.{forms_at}
use Rattle.mb_frames.specs.declared.frame.Move.{Move}
use Rattle.mb_frames.specs.declared.frame.Move.TheVariants as move
use Rattle.mb_frames.specs.declared.machine.Halt.{Halt}
use Rattle.mb_frames.specs.declared.task.Answer.TheVariants as a
use Rattle.mb_frames.specs.declared.task.Outcome.TheVariants as o
use Rattle.mb_parts.proofs.Acting.{ready-acts}
use Rattle.mb_parts.proofs.Texting.{texts-changed}
use Rattle.mb_parts.specs.Standing.{Acts as ActsAny}
use Rattle.mb_frames.specs.Passing.{Part, TextsGrew}
use Rattle.mb_frames.proofs.Steps.{Sure-by, Sure-value}
use Rattle.mb_model.specs.Meaning.{finished}
use Rattle.mb_model.specs.Task.{Answer}
use Rattle.mb_model.specs.Writing.{Does, is_value}
use Rattle.mb_world.specs.Ids.{ValueIn}
use Rattle.mb_world.specs.Image.{Image, Resolve, names_of}
use Rattle.mb_world.specs.Data.{Data}

module _ (d : Data) (home : Side) (held : List Held) (act : Acts d home held) where
  pub acts : ActsAny d home
  acts = ready-acts d home act.ready act.side

  module _ (d1 : Data) (k : Changed home d d1) where
    pub side-after : home.0 < d1.sides
    side-after = inside-still home d d1 k act.side

    pub holds-after : (other : List Held) → Holds d home other → Holds d1 home other
    holds-after other h = holds-still home d d1 act.ready k other h

    pub acts-after : (other : List Held) → Holds d home other → Acts d1 home other
    acts-after other h = record { ready = k.ready; side = side-after; holds = holds-after other h }

    -- what is kept then
    pub keeps-after : (wanted : Sort) (r : Result Move Halt) (d2 : Data) → KeepsBy home wanted r d1 d2
        → KeepsBy home wanted r d d2
    keeps-after wanted r d2 h = keeps-then home wanted r d d1 d2 k h

    pub halts-after : (wanted : Sort) (halt : Halt) → KeepsBy home wanted (Err halt) d d1
    halts-after wanted halt = keeps-halted home wanted halt d d1 k

    -- a value that is given then
    pub gives-after : (x : Value) → MayHold d1 home (HeldValue x)
        → KeepsBy home AValue (Ok (move.Done (o.Normal (a.Value x)))) d d1
    gives-after x h = keeps-left home AValue (move.Done (o.Normal (a.Value x))) d d1 k (leaves-value d1 home x h)

  pub halts : (wanted : Sort) (halt : Halt) → KeepsBy home wanted (Err halt) d d
  halts wanted halt = halts-after d (changed-same home d act.ready) wanted halt

  pub gives : (x : Value) → MayHold d home (HeldValue x)
      → KeepsBy home AValue (Ok (move.Done (o.Normal (a.Value x)))) d d
  gives x h = gives-after d (changed-same home d act.ready) x h

  -- texts were added
  pub texted : (d1 : Data) → TextsGrew d d1 → Changed home d d1
  texted d1 t = texts-changed home d d1 t act.ready

-- ---- a value is given

pub Part-value : (home : Side) (d : Data) (f : ℕ) (p : Does Answer) (x : Value) → ValueIn d x
    → p ≡ is_value (Resolve (names_of d) x) → Part home (Ok (move.Done (o.Normal (a.Value x)))) d d f f (p finished)
Part-value home d f p x i e =
    Part-sure home d f (p finished) (move.Done (o.Normal (a.Value x)))
    (Sure-by home d (p finished) (is_value (Resolve (names_of d) x) finished) (move.Done (o.Normal (a.Value x)))
    (λ log. ap (λ (q : Does Answer). q finished (Image d log)) e) (Sure-value home d x i))

-- what is done after texts were added
pub Part-texted : (home : Side) (r : Result Move Halt) (d d1 d2 : Data) (f f' : ℕ) (p q : Does Answer)
    → TextsGrew d d1 → p ≡ q → Part home r d1 d2 f f' (q finished) → Part home r d d2 f f' (p finished)
Part-texted home r d d1 d2 f f' p q t e h =
    Part-passed home r d d1 d2 f f f' (p finished) (q finished)
    (Passes-texts d d1 f (p finished) (q finished) t (λ log. ap (λ (y : Does Answer). y finished (Image d log)) e)) h

-- what is the same part
pub Part-same : (home : Side) (r : Result Move Halt) (d d1 : Data) (f f' : ℕ) (p q : Does Answer)
    → p ≡ q → Part home r d d1 f f' (q finished) → Part home r d d1 f f' (p finished)
Part-same home r d d1 f f' p q e h =
    Part-by home r d d1 f f' (p finished) (q finished) (λ log. ap (λ (y : Does Answer). y finished (Image d log)) e) h

-- what gives a sort gives each that it fits
module _ (d : Data) (home : Side) (a b : Sort) (e : fits a b ≡ true) where
  gives-fit : (go : Move) → Gives d home a go → Gives d home b go
  gives-fit (move.Done y) h = (h.0, h.1, fits-then h.0 a b h.2 e)
  gives-fit (move.Wait y t) h =
      (h.0, fits-then (frame_sort (forms_at d home) y (task_gives (forms_at d home) t)) a b h.1 e)
  gives-fit (move.Next t) h = fits-then (task_gives (forms_at d home) t) a b h e
  gives-fit (move.Anew t) h = fits-then (task_gives (forms_at d home) t) a b h e
  gives-fit (move.Entered y t) h =
      (h.0, fits-then (frame_sort (forms_at d home) y (task_gives (forms_at d home) t)) a b h.1 e)

  leaves-fit : (go : Move) → Leaves d home a go → Leaves d home b go
  leaves-fit go h = record { holds = h.holds; fit = h.fit; gives = gives-fit go h.gives }

-- an object is a value too
pub keeps-fit : (home : Side) (r : Result Move Halt) (d d1 : Data) (a b : Sort) → fits a b ≡ true
    → KeepsBy home a r d d1 → KeepsBy home b r d d1
keeps-fit home (Ok m) d d1 a b e h = record { changed = h.changed; leaves = leaves-fit d1 home a b e m h.leaves }
keeps-fit home (Err halt) d d1 a b e h = record { changed = h.changed; leaves = tt }
