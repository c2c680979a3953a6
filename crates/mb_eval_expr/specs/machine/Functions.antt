-- Function expressions, and functions of properties.
use Rattle.std.specs.Prelude.{◌∷◌, ◌<◌, ◌≡◌, Err, List, None, Ok, Option, Result, Some, [], length, true, ℕ}
use Rattle.mb_base.specs.declared.value.ObjId.{ObjId}
use Rattle.mb_base.specs.declared.value.Side.{Side}
use Rattle.mb_base.specs.declared.value.StrId.{StrId}
use Rattle.mb_frames.specs.Going.{WentOn}
use Rattle.mb_frames.specs.Passing.{TextsGrew}
use Rattle.mb_frames.specs.declared.machine.Halt.{Halt}
use Rattle.mb_frames.specs.declared.machine.Halt.TheVariants.{NoMemory, Spent as SpentHalt}
use Rattle.mb_model.specs.Nodes.Scopes.{add_scope, binding, code, initialize, scope}
use Rattle.mb_model.specs.Operations.Conversions.{text_limit}
use Rattle.mb_model.specs.Operations.Makings.{make_function}
use Rattle.mb_model.specs.Task.{Answer}
use Rattle.mb_model.specs.Writing.{Does, Row, ◌>>=◌, is_value, range_error}
use Rattle.mb_world.specs.Data.{Data}
use Rattle.mb_world.specs.Graph.{Graph, Item}
use Rattle.mb_world.specs.Ids.{TextIn}
use Rattle.mb_world.specs.Image.{Image, names_of, object_in, text_in}
use Rattle.mb_world.specs.Value.{Val}

-- a named function expression, its name's unit being paid
abbrev pub named_row : ℕ → ℕ → ℕ → ℕ → List ℕ → Does Answer
named_row s parent n params x = do
  sc ← add_scope (scope s (Some parent) (binding x None true ∷ []))
  f ← make_function (code s n sc true None) (Some x) params x
  _ ← initialize sc x f
  is_value f

-- the text is that name, or the name is too long for a text
abbrev pub NamedAs : Data → Data → Option StrId → (Graph → List ℕ) → Type 0
NamedAs d d' (Some t) p = TextIn d' t × ((log : List Item) → text_in (names_of d') t ≡ p (Image d log))
NamedAs d d' None p = (log : List Item) → text_limit < length (p (Image d log))

-- the function of a property was made, or its name is too long
abbrev pub MakesKeyed : Side → Result (Option ObjId) Halt → Data → Data → Does Val → Type 0
MakesKeyed home (Ok (Some id)) d d' p = WentOn Val d d' 0 0 p (object_in (names_of d') id)
MakesKeyed home (Ok None) d d' p =
    TextsGrew d d' × ((k : Val → Graph → Row) (log : List Item) → p k (Image d log) ≡ range_error home.0 k
    (Image d log))
MakesKeyed home (Err SpentHalt) d d' p = ⊥
MakesKeyed home (Err NoMemory) d d' p = Unit {0}
