-- What is found at a key, and what a write does next.
use Rattle.std.specs.Prelude.{List, map, true, false, Option, Some, None, option_map}
use Rattle.mb_base.specs.declared.value.Key.{Key}
use Rattle.mb_base.specs.declared.value.Value.{Value}
use Rattle.mb_base.specs.declared.value.Value.TheVariants as v
use Rattle.mb_desc.specs.declared.descriptor.Full.{Full}
use Rattle.mb_desc.specs.declared.descriptor.Full.TheVariants.{Datum, Accessor}
use Rattle.mb_world.specs.Value.{Val}
use Rattle.mb_world.specs.Key.{PropertyKey, keys_in_order}
use Rattle.mb_world.specs.Graph.{Thing}
use Rattle.mb_world.specs.Objects.{property_keys}
use Rattle.mb_world.specs.Ordinary as graph
use Rattle.mb_world.specs.Ordinary.{Writing, RefuseWrite, WriteAbove, StoreInReceiver, CallSetter, looked, written}
use Rattle.mb_world.specs.Data.{Data}
use Rattle.mb_world.specs.Ids.{ValueIn, FullIn, ObjIn}
use Rattle.mb_world.specs.Image.{names_of, Resolve, object_in, key_in, full_in}
use Rattle.mb_ordinary.specs.declared.answers.Look.{Look}
use Rattle.mb_ordinary.specs.declared.answers.Look.TheVariants.{Found, Up}
use Rattle.mb_ordinary.specs.declared.answers.SetStep.{SetStep}
use Rattle.mb_ordinary.specs.declared.answers.SetStep.TheVariants as step
use Rattle.mb_ordinary.specs.Objects.{property_of}

-- ---- own properties (ECMA-262 10.1.5.1, 10.1.11.1)

-- what a property stands for, if there is one
abbrev pub own_in : Data → Option (Full Value) → Option (Full Val)
own_in d p = option_map (full_in (names_of d)) p

-- what keys stand for
abbrev pub keys_in : Data → List Key → List PropertyKey
keys_in d ks = map (key_in (names_of d)) ks

-- what the definition lists of an object
abbrev pub own_keys : Thing → List PropertyKey
own_keys t = keys_in_order (property_keys t.properties)

-- ---- a look (ECMA-262 10.1.7.1, 10.1.8.1)

abbrev pub look_from : Value → Option (Full Value) → Look
look_from above None = Up above
look_from above (Some p) = Found p

abbrev pub LookIn : Data → Look → Type 0
LookIn d (Found p) = FullIn d p
LookIn d (Up x) = ValueIn d x

-- what it stands for
abbrev pub look_in : Data → Look → graph.Look
look_in d (Found p) = graph.Found (full_in (names_of d) p)
look_in d (Up x) = graph.Upward (Resolve (names_of d) x)

-- what the definition finds in an object
abbrev pub looked_at : Data → Key → Thing → graph.Look
looked_at d key t = looked t.prototype (property_of d key t)

-- ---- the next step of a write (ECMA-262 10.1.9.2)

abbrev pub up_from : Value → SetStep
up_from (v.Object o) = step.Up (v.Object o)
up_from x = step.Store

abbrev pub setter_from : Value → SetStep
setter_from (v.Object o) = step.Setter o
setter_from x = step.Refuse

abbrev pub step_from : Value → Option (Full Value) → SetStep
step_from above None = up_from above
step_from above (Some (Datum x true e c)) = step.Store
step_from above (Some (Datum x false e c)) = step.Refuse
step_from above (Some (Accessor g s e c)) = setter_from s

abbrev pub StepIn : Data → SetStep → Type 0
StepIn d step.Refuse = Unit {0}
StepIn d (step.Up x) = ValueIn d x
StepIn d step.Store = Unit {0}
StepIn d (step.Setter o) = ObjIn d o

-- what it stands for
abbrev pub step_in : Data → SetStep → Writing
step_in d step.Refuse = RefuseWrite
step_in d (step.Up x) = WriteAbove (Resolve (names_of d) x)
step_in d step.Store = StoreInReceiver
step_in d (step.Setter o) = CallSetter (object_in (names_of d) o)

-- what the definition does with an object
abbrev pub written_at : Data → Key → Thing → Writing
written_at d key t = written t.prototype (property_of d key t)
