-- Which frames are those of Object, Reflect, the error constructors and Function.prototype.
use Rattle.std.specs.Prelude.{Bool, Option, Some, false, true, ◌||◌, ◌≡◌}
use Rattle.mb_frames.specs.declared.frame.Frame.{Frame}
use Rattle.mb_frames.specs.declared.frame.Frame.TheVariants as x
use Rattle.mb_frames.specs.declared.task.Task.{Task}
use Rattle.mb_frames.specs.declared.task.Task.TheVariants as t
use Rattle.mb_world.specs.Intrinsics as i
use Rattle.mb_world.specs.Intrinsics.{Intrinsic, intrinsic}

-- Object, its members, and that of its prototype
abbrev pub is_of_object : Option Intrinsic → Bool
is_of_object (Some i.Object) = true
is_of_object (Some i.ObjectPrototypeHasOwnProperty) = true
is_of_object (Some i.ObjectCreate) = true
is_of_object (Some i.ObjectKeys) = true
is_of_object (Some i.ObjectFreeze) = true
is_of_object (Some i.ObjectIsFrozen) = true
is_of_object (Some i.ObjectSeal) = true
is_of_object (Some i.ObjectGetPrototypeOf) = true
is_of_object (Some i.ObjectSetPrototypeOf) = true
is_of_object (Some i.ObjectDefineProperty) = true
is_of_object (Some i.ObjectGetOwnPropertyDescriptor) = true
is_of_object (Some i.ObjectGetOwnPropertySymbols) = true
is_of_object place = false

-- the members of Reflect
abbrev pub is_of_reflect : Option Intrinsic → Bool
is_of_reflect (Some i.ReflectApply) = true
is_of_reflect (Some i.ReflectConstruct) = true
is_of_reflect (Some i.ReflectDefineProperty) = true
is_of_reflect (Some i.ReflectDeleteProperty) = true
is_of_reflect (Some i.ReflectGet) = true
is_of_reflect (Some i.ReflectGetOwnPropertyDescriptor) = true
is_of_reflect (Some i.ReflectGetPrototypeOf) = true
is_of_reflect (Some i.ReflectHas) = true
is_of_reflect (Some i.ReflectIsExtensible) = true
is_of_reflect (Some i.ReflectOwnKeys) = true
is_of_reflect (Some i.ReflectPreventExtensions) = true
is_of_reflect (Some i.ReflectSet) = true
is_of_reflect (Some i.ReflectSetPrototypeOf) = true
is_of_reflect place = false

-- the error constructors, and the members of Function.prototype
abbrev pub is_of_function : Option Intrinsic → Bool
is_of_function (Some i.Error) = true
is_of_function (Some i.TypeError) = true
is_of_function (Some i.RangeError) = true
is_of_function (Some i.ReferenceError) = true
is_of_function (Some i.FunctionPrototypeCall) = true
is_of_function (Some i.FunctionPrototypeApply) = true
is_of_function place = false

-- Reflect and the prototypes, which nothing calls
abbrev pub is_of_none : Option Intrinsic → Bool
is_of_none (Some i.Reflect) = true
is_of_none (Some i.FunctionPrototype) = true
is_of_none (Some i.ObjectPrototype) = true
is_of_none (Some i.ErrorPrototype) = true
is_of_none (Some i.TypeErrorPrototype) = true
is_of_none (Some i.RangeErrorPrototype) = true
is_of_none (Some i.ReferenceErrorPrototype) = true
is_of_none place = false

abbrev pub is_reflecting : Option Intrinsic → Bool
is_reflecting place = is_of_object place || (is_of_reflect place || (is_of_function place || is_of_none place))

abbrev pub IsReflectTask : Task → Type 0
IsReflectTask (t.Run place this arguments target) = is_reflecting (intrinsic place) ≡ true
IsReflectTask task = ⊥

-- one that is entered, or one that waits
abbrev pub IsReflectFrame : Frame → Type 0
IsReflectFrame (x.Begin task) = IsReflectTask task
IsReflectFrame (x.Anew task) = IsReflectTask task
IsReflectFrame (x.Reflect frame) = Unit {0}
IsReflectFrame frame = ⊥
