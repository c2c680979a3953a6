-- What parts keep that go on with an answer: where nothing changes, where they halt, and one after the other.
use Rattle.std.proofs.Common.{◌≡◌, Err, List, Ok, Result}
use Rattle.std.proofs.lemmas.List.Elements.{All-nil}
use Rattle.mb_base.specs.declared.value.Side.{Side}
use Rattle.mb_base.specs.declared.value.StrId.{StrId}
use Rattle.mb_frames.proofs.Readying.{changed-same, changed-then}
use Rattle.mb_frames.specs.Held.{Held, HeldText}
use Rattle.mb_frames.specs.Keeping.{KeepsAnswer}
use Rattle.mb_frames.specs.Ready.{Holds, IsReady, MayHold, Changed, KeepsBy}
use Rattle.mb_frames.specs.Sorts.{Sort}
use Rattle.mb_frames.specs.declared.machine.Halt.{Halt}
use Rattle.mb_world.specs.Contained.{IsOwn}
use Rattle.mb_world.specs.Data.{Data}
use Rattle.mb_world.specs.Ids.{TextIn}

pub same-keeps : {A : Type 0} (f : A → List Held) (home : Side) (d : Data) (a : A) → IsReady d → Holds d home (f a)
    → KeepsAnswer home f (Ok a) d d
same-keeps f home d a r h = record { changed = changed-same home d r; holds = h }

pub halted-keeps : {A : Type 0} (f : A → List Held) (home : Side) (d d' : Data) (halt : Halt) → IsReady d → d' ≡ d
    → KeepsAnswer home f (Err halt) d d'
halted-keeps f home d d' halt r e = rw e (record { changed = changed-same home d r; holds = tt })

pub keeps-halts : {A : Type 0} (f : A → List Held) (home : Side) (wanted : Sort) (halt : Halt) (d d1 : Data)
    → KeepsAnswer home f (Err halt) d d1 → KeepsBy home wanted (Err halt) d d1
keeps-halts f home wanted halt d d1 h = record { changed = h.changed; leaves = tt }

pub answer-halts : {A B : Type 0} (f : A → List Held) (g : B → List Held) (home : Side) (halt : Halt) (d d1 : Data)
    → KeepsAnswer home f (Err halt) d d1 → KeepsAnswer home g (Err halt) d d1
answer-halts f g home halt d d1 h = record { changed = h.changed; holds = tt }

pub answer-then : {A : Type 0} (f : A → List Held) (home : Side) (r : Result A Halt) (d d1 d2 : Data)
    → Changed home d d1 → KeepsAnswer home f r d1 d2 → KeepsAnswer home f r d d2
answer-then f home r d d1 d2 h k = record { changed = changed-then home d d1 d2 h k.changed; holds = k.holds }

pub text-held : (d : Data) (home : Side) (name : StrId) → TextIn d name → MayHold d home (HeldText name)
text-held d home name h = record { within = h; sound = tt; own = λ u. All-nil (IsOwn d home) }
