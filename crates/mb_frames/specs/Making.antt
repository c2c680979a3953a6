-- Objects that rows make in several calls: functions, and what they need.
use Rattle.std.specs.Prelude.{if◌then◌else◌, ◌-◌, ◌^◌, ◌∷◌, ◌≡◌, All, Bool, Err, List, None, Ok, Option, Result, Some, [], false, is_some, slice_get, true, ℕ}
use Rattle.mb_base.specs.declared.value.Key.TheVariants as k
use Rattle.mb_base.specs.declared.value.ObjId.{ObjId}
use Rattle.mb_base.specs.declared.value.Side.{Side}
use Rattle.mb_base.specs.declared.value.StrId.{StrId}
use Rattle.mb_base.specs.declared.value.Value.{Value}
use Rattle.mb_base.specs.declared.value.Value.TheVariants as v
use Rattle.mb_desc.specs.Descriptors.{is_configurable}
use Rattle.mb_desc.specs.Validate.{same_flag}
use Rattle.mb_desc.specs.declared.descriptor.Full.{Full}
use Rattle.mb_frames.specs.Held.{Held, HeldCallable, HeldNode, HeldScope, HeldText, HeldTextIf, HeldValue}
use Rattle.mb_frames.specs.declared.machine.Halt.{Halt}
use Rattle.mb_frames.specs.declared.machine.Halt.TheVariants.{NoMemory, Spent as SpentHalt}
use Rattle.mb_text.specs.Texts.{AreDistinct, with_text}
use Rattle.mb_world.specs.Data.{Data, built_in_of, cell_at, change_cell, is_array, is_object_cell, put_in, with_texts}
use Rattle.mb_world.specs.Form.{Form}
use Rattle.mb_world.specs.Formed.{function_of}
use Rattle.mb_world.specs.Intrinsics.{FunctionPrototype, ObjectPrototype, place_of}
use Rattle.mb_world.specs.declared.cell.Cell.{Cell}
use Rattle.mb_world.specs.declared.cell.Code.{Code}

-- the side has the prototypes of functions and of objects
pub record HasPrototypes (d : Data) (side : Side) : Type 0 where
  pub function : is_some (built_in_of d.joined d.cells side (place_of FunctionPrototype)) ≡ true
  pub object : is_some (built_in_of d.joined d.cells side (place_of ObjectPrototype)) ≡ true

-- ---- properties

-- the text is in the table, and the object has the property
pub record Put (d d' : Data) (object : ObjId) (units : List ℕ) (full : Full Value) : Type 0 where
  pub text : StrId
  pub there : slice_get (with_text d.texts units) text.0 ≡ Some units
  pub distinct : AreDistinct (with_text d.texts units)
  pub world : d' ≡ change_cell (with_texts d (with_text d.texts units)) object (put_in (k.Text text (2 ^ 32 - 1)) full)

abbrev pub Puts : Result (Unit {0}) Halt → Data → Data → ObjId → List ℕ → Full Value → Type 0
Puts (Ok u) d d' object units full = Put d d' object units full
Puts (Err SpentHalt) d d' object units full = ⊥
Puts (Err NoMemory) d d' object units full = Unit {0}

-- an object of that home that takes any property: it is extensible, no array, and no property of it is fixed
-- (ECMA-262 10.1.6.3)
pub record IsOpen (d : Data) (home : Side) (id : ObjId) : Type 0 where
  pub cell : Cell
  pub there : cell_at d id ≡ Some cell
  pub home_is : cell.home ≡ home
  pub counted : is_object_cell cell ≡ true
  pub no_array : is_array cell.kind ≡ false
  pub extensible : cell.extensible ≡ true
  pub configurable : All (λ p. is_configurable p.1 ≡ true) cell.props

-- ---- functions

abbrev pub are_flags : Bool → Bool → Option (Bool × Bool) → Bool
are_flags a b None = false
are_flags a b (Some p) = if same_flag p.0 a then same_flag p.1 b else false

-- the node is a function's that constructs or not, and binds `this` or not
abbrev pub is_function_of : Bool → Bool → Option Form → Bool
is_function_of constructs binds form = are_flags constructs binds (function_of form)

abbrev pub value_held : Option Value → List Held
value_held None = []
value_held (Some x) = HeldValue x ∷ []

-- what stands in a function that is made
abbrev pub code_held : Code → Option StrId → StrId → List Held
code_held code label name =
    HeldScope code.scope ∷ HeldNode (is_function_of code.constructs (is_some code.bound_this)) code.node.0
    ∷ HeldTextIf label ∷ HeldText name ∷ value_held code.bound_this

abbrev pub function_held : ObjId → List Held
function_held id = HeldValue (v.Object id) ∷ HeldCallable (v.Object id) ∷ []
