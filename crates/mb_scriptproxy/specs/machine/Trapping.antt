-- What a trap is called with, and what a frame of a Proxy asks of its target.
use Rattle.std.specs.Prelude.{Err, List, None, Ok, Option, Result, Some, [], ℕ, ◌∷◌, ◌≡◌}
use Rattle.mb_base.specs.declared.value.Key.{Key}
use Rattle.mb_base.specs.declared.value.Key.TheVariants as k
use Rattle.mb_base.specs.declared.value.ObjId.{ObjId}
use Rattle.mb_base.specs.declared.value.Value.{Value}
use Rattle.mb_base.specs.declared.value.Value.TheVariants as v
use Rattle.mb_base.specs.declared.value.Side.{Side}
use Rattle.mb_frames.specs.Going.{WentOn}
use Rattle.mb_frames.specs.Held.{Held, HeldValues}
use Rattle.mb_frames.specs.Resolved.{method_in, values_in}
use Rattle.mb_frames.specs.Rest.Proxying.{proxy_rest}
use Rattle.mb_frames.specs.declared.proxies.ProxyFrame.{ProxyFrame}
use Rattle.mb_frames.specs.declared.machine.Halt.{Halt}
use Rattle.mb_frames.specs.declared.machine.Halt.TheVariants.{NoMemory, Spent as SpentHalt}
use Rattle.mb_frames.specs.declared.task.Method.{Method as TheMethod}
use Rattle.mb_model.specs.Meaning.{finished}
use Rattle.mb_model.specs.Operations.Descriptors.{fromdesc}
use Rattle.mb_model.specs.Operations.Makings.{make_array}
use Rattle.mb_model.specs.Task as model
use Rattle.mb_model.specs.Task.{Method}
use Rattle.mb_model.specs.Writing.{◌>>=◌, Does, Row, answer, give, perform}
use Rattle.mb_world.specs.Data.{Data}
use Rattle.mb_world.specs.Graph.{Graph}
use Rattle.mb_world.specs.Image.{Names, names_of}
use Rattle.mb_world.specs.Key.{value_of_key}
use Rattle.mb_world.specs.Value.{Val}
use Rattle.mb_world.specs.declared.cell.CellKind.{CellKind}
use Rattle.mb_world.specs.declared.cell.CellKind.TheVariants.{Proxy}

-- ---- Proxies

-- its target and its handler, where it isn't revoked
abbrev pub proxy_parts : CellKind → Option (ObjId × ObjId)
proxy_parts (Proxy (Some target) (Some handler) shape) = Some (target, handler)
proxy_parts kind = None

-- ---- arguments

-- the value that a key is
abbrev pub key_value : Key → Value
key_value (k.Text text index) = v.Text text
key_value (k.Symbol symbol) = v.Symbol symbol

-- what a trap is called with, after the target (ECMA-262 10.5)
abbrev pub trap_arguments : ℕ → Method → Does (List Val)
trap_arguments p model.GetPrototypeOf = give []
trap_arguments p (model.SetPrototypeOf given) = give (given ∷ [])
trap_arguments p model.IsExtensible = give []
trap_arguments p model.PreventExtensions = give []
trap_arguments p (model.GetOwnProperty key) = give (value_of_key key ∷ [])
trap_arguments p (model.DefineOwnProperty key desc) = do
  o ← fromdesc p desc
  give (value_of_key key ∷ o ∷ [])
trap_arguments p (model.HasProperty key) = give (value_of_key key ∷ [])
trap_arguments p (model.Get key receiver) = give (value_of_key key ∷ receiver ∷ [])
trap_arguments p (model.Set key x receiver) = give (value_of_key key ∷ x ∷ receiver ∷ [])
trap_arguments p (model.Delete key) = give (value_of_key key ∷ [])
trap_arguments p model.OwnPropertyKeys = give []
trap_arguments p (model.Call this vs) = do
  a ← make_array p vs
  give (this ∷ a ∷ [])
trap_arguments p (model.Construct vs target) = do
  a ← make_array p vs
  give (a ∷ target ∷ [])

abbrev pub arguments_held : List Value → List Held
arguments_held arguments = HeldValues arguments ∷ []

-- ---- frames

-- the target is asked by a method, and the frame goes on with the answer
abbrev pub asks_row : Names → ℕ → ProxyFrame → Method → Val → Graph → Row
asks_row n s frame method target = (answer (perform s method target) >>= proxy_rest n s frame) finished

-- ---- what functions answer that list arguments

abbrev pub GivesList : Result (List Value) Halt → List Value → Type 0
GivesList (Ok list) values = list ≡ values
GivesList (Err SpentHalt) values = ⊥
GivesList (Err NoMemory) values = Unit {0}

-- the target comes first, and then the others
pub record ListsArguments (d d' : Data) (home : Side) (target : ObjId) (m : TheMethod) (list : List Value)
    : Type 0 where
  pub others : List Value
  pub is : list ≡ v.Object target ∷ others
  pub went : WentOn (List Val) d d' 0 0 (trap_arguments home.0 (method_in (names_of d) m))
      (values_in (names_of d') others)

abbrev pub GivesArguments : Result (List Value) Halt → Data → Data → Side → ObjId → TheMethod → Type 0
GivesArguments (Ok list) d d' home target m = ListsArguments d d' home target m list
GivesArguments (Err SpentHalt) d d' home target m = ⊥
GivesArguments (Err NoMemory) d d' home target m = Unit {0}
