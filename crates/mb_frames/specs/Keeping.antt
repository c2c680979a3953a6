-- What parts of rows keep that go on with an answer of their own.
use Rattle.std.specs.Prelude.{◌<◌, ◌∷◌, IfOk, List, Result, []}
use Rattle.mb_base.specs.declared.value.ScopeId.{ScopeId}
use Rattle.mb_base.specs.declared.value.Side.{Side}
use Rattle.mb_frames.specs.Held.{Held, HeldScope}
use Rattle.mb_frames.specs.Ready.{Changed, Holds, IsReady}
use Rattle.mb_frames.specs.declared.machine.Halt.{Halt}
use Rattle.mb_world.specs.Data.{Data}

-- the world is ready again, also where it halts, and the home may hold what stands in the answer
pub record KeepsAnswer {A : Type 0} (home : Side) (in_answer : A → List Held) (result : Result A Halt) (d d' : Data)
    : Type 0 where
  pub changed : Changed home d d'
  pub holds : IfOk result (λ a. Holds d' home (in_answer a))

-- what a part keeps that acts for a home, holds these, and goes on with an answer
abbrev pub KeepsOn : {A : Type 0} → Side → List Held → (A → List Held) → Result A Halt → Data → Data → Type 0
KeepsOn home held in_answer result d d' =
    IsReady d → home.0 < d.sides → Holds d home held → KeepsAnswer home in_answer result d d'

-- ---- what stands in an answer

abbrev pub none_held : Unit {0} → List Held
none_held u = []

abbrev pub scope_held : ScopeId → List Held
scope_held id = HeldScope id ∷ []
