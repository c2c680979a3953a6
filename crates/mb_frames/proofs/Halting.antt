-- Parts that go on with an answer: what they keep where they halt, and where they change nothing.
use Rattle.mb_base.specs.declared.value.Side.{Side}
use Rattle.mb_frames.proofs.Readying.{changed-same}
use Rattle.mb_frames.specs.Held.{Held}
use Rattle.mb_frames.specs.Keeping.{KeepsOn}
use Rattle.mb_frames.specs.Ready.{Changed, Holds, IsReady}
use Rattle.mb_frames.specs.declared.machine.Halt.{Halt}
use Rattle.mb_world.specs.Data.{Data}
use Rattle.std.proofs.Common.{Err, List, Ok, Result, sym, true≢false, ◌<◌, ◌≡◌}
use Rattle.std.specs.Prelude.{IsErr}

-- where it halts, only the world is to be kept
pub halted-changed : {A : Type 0} (home : Side) (held : List Held) (in_answer : A → List Held) (result : Result A Halt)
    → IsErr result → (d d' : Data)
    → (IsReady d → home.0 < d.sides → Holds d home held → Changed home d d') → KeepsOn home held in_answer result d d'
halted-changed home held in_answer (Ok a) h d d' k = absurd (true≢false (sym h))
halted-changed home held in_answer (Err halt) h d d' k =
    λ r inside holds. record { changed = k r inside holds; holds = tt }

pub halted-same : {A : Type 0} (home : Side) (held : List Held) (in_answer : A → List Held) (result : Result A Halt)
    → IsErr result → (d d' : Data) → d' ≡ d → KeepsOn home held in_answer result d d'
halted-same home held in_answer result h d d' e =
    halted-changed home held in_answer result h d d' (λ r inside holds. rw e (changed-same home d r))
