-- Parts of rows that go on with an answer: what they charge, and what they change.
use Rattle.std.specs.Prelude.{Err, List, Ok, Result, suc, zero, ℕ, ◌+◌, ◌<◌, ◌≡◌}
use Rattle.mb_base.specs.declared.value.ObjId.{ObjId}
use Rattle.mb_base.specs.declared.value.ScopeId.{ScopeId}
use Rattle.mb_frames.specs.Stepping.{Grew}
use Rattle.mb_frames.specs.declared.machine.Halt.{Halt}
use Rattle.mb_frames.specs.declared.machine.Halt.TheVariants.{NoMemory, Spent as SpentHalt}
use Rattle.mb_model.specs.Engine.{Pay}
use Rattle.mb_model.specs.Task.{Answer, Nothing}
use Rattle.mb_model.specs.Writing.{Does, Row}
use Rattle.mb_world.specs.Data.{Data}
use Rattle.mb_world.specs.Graph.{Graph, Item}
use Rattle.mb_world.specs.Image.{Image, entries_in, names_of, object_in}
use Rattle.mb_world.specs.Value.{Val}

-- so many charges of 1, one after the other
abbrev pub paying : ℕ → Graph → Row → Row
paying zero g p = p
paying (suc n) g p = Pay 1 g (paying n g p)

-- the part went on with that answer, once so many charges of 1 were paid; it left the world d'
pub record WentOn (A : Type 0) (d d' : Data) (f f' : ℕ) (p : Does A) (answer : A) : Type 0 where
  pub units : ℕ
  pub paid : f ≡ f' + units
  pub same : (k : A → Graph → Row) (log : List Item) →
      p k (Image d log) ≡ paying units (Image d log) (k answer (Image d' log))
  pub trace : entries_in d' ≡ entries_in d
  pub grew : Grew d d'

-- it has more such charges than there are units, and changed nothing before them
pub record Stuck (A : Type 0) (d d' : Data) (f f' : ℕ) (p : Does A) : Type 0 where
  pub units : ℕ
  pub above : f < units
  pub none : f' ≡ 0
  pub same : (k : A → Graph → Row) (log : List Item) →
      (rest : Row) × (p k (Image d log) ≡ paying units (Image d log) rest)
  pub world : d' ≡ d

-- what a function answers that enters a scope
abbrev pub Enters : Result ScopeId Halt → Data → Data → ℕ → ℕ → Does ℕ → Type 0
Enters (Ok id) d d' f f' p = WentOn ℕ d d' f f' p id.0
Enters (Err SpentHalt) d d' f f' p = Stuck ℕ d d' f f' p
Enters (Err NoMemory) d d' f f' p = Unit {0}

-- what a function answers that only changes the world
abbrev pub Changes : Result (Unit {0}) Halt → Data → Data → Does Answer → Type 0
Changes (Ok u) d d' p = WentOn Answer d d' 0 0 p Nothing
Changes (Err SpentHalt) d d' p = ⊥
Changes (Err NoMemory) d d' p = Unit {0}

-- so many charges of 1 were paid, or couldn't be: then nothing is left
abbrev pub Charged : {A : Type 0} → Result A Halt → ℕ → ℕ → ℕ → Type 0
Charged (Ok a) f f' n = f ≡ f' + n
Charged (Err SpentHalt) f f' n = (f < n) × (f' ≡ 0)
Charged (Err NoMemory) f f' n = Unit {0}

-- what a function answers that makes an object
abbrev pub Makes : Result ObjId Halt → Data → Data → Does Val → Type 0
Makes (Ok id) d d' p = WentOn Val d d' 0 0 p (object_in (names_of d') id)
Makes (Err SpentHalt) d d' p = ⊥
Makes (Err NoMemory) d d' p = Unit {0}
