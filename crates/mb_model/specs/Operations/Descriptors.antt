use Rattle.std.specs.Prelude.{ℕ, List, [], ◌∷◌, Bool, true, false, ◌&&◌, ◌||◌, Option, Some, None, if◌then◌else◌, codes}
use Rattle.mb_desc.specs.declared.descriptor.Desc.{Desc}
use Rattle.mb_world.specs.Value.{Val, Truth, is_object, is_undefined, to_boolean}
use Rattle.mb_world.specs.Key.{PropertyKey, Named}
use Rattle.mb_world.specs.Property.{open_property}
use Rattle.mb_desc.specs.Descriptors.{no_fields, is_data_descriptor, is_accessor_descriptor}
use Rattle.mb_world.specs.Graph.{Plain, Property}
use Rattle.mb_world.specs.Standard.{object_prototype}
use Rattle.mb_world.specs.Objects.{is_callable, put_property, new_thing}
use Rattle.mb_model.specs.Task.{HasProperty, Answer}
use Rattle.mb_model.specs.Writing.{Does, ◌>>=◌, give, look, flag, perform, make, type_error, unless_type_error}
use Rattle.mb_model.specs.Operations.Calls.{get}

-- property descriptors as objects (ECMA-262 6.2.6)

pub data Field : Type 0 where
  EnumerableField : Field
  ConfigurableField : Field
  ValueField : Field
  WritableField : Field
  GetField : Field
  SetField : Field

abbrev pub field_key : Field → PropertyKey
field_key EnumerableField = Named (codes "enumerable")
field_key ConfigurableField = Named (codes "configurable")
field_key ValueField = Named (codes "value")
field_key WritableField = Named (codes "writable")
field_key GetField = Named (codes "get")
field_key SetField = Named (codes "set")

-- a getter or setter is callable or undefined
abbrev pub accessor_part : ℕ → Val → Does Answer
accessor_part s v = do
  c ← look (λ g. is_callable g v)
  unless_type_error s (c || is_undefined v)

-- a field that was read
abbrev pub with_field : ℕ → Desc Val → Field → Val → Does (Desc Val)
with_field s d EnumerableField v = give (record d { enumerable = Some (to_boolean v) })
with_field s d ConfigurableField v = give (record d { configurable = Some (to_boolean v) })
with_field s d ValueField v = give (record d { value = Some v })
with_field s d WritableField v = give (record d { writable = Some (to_boolean v) })
with_field s d GetField v = do
  _ ← accessor_part s v
  give (record d { get = Some v })
with_field s d SetField v = do
  _ ← accessor_part s v
  give (record d { set = Some v })

-- a field is read where it is there
abbrev pub field_found : ℕ → Val → Desc Val → Field → Bool → Does (Desc Val)
field_found s x d f false = give d
field_found s x d f true = do
  v ← get s x (field_key f)
  with_field s d f v

abbrev pub todesc_from : ℕ → Val → List Field → Desc Val → Does (Desc Val)
todesc_from s x [] d = if is_data_descriptor d && is_accessor_descriptor d then type_error s else give d
todesc_from s x (f ∷ fs) d = do
  there ← flag (perform s (HasProperty (field_key f)) x)
  e ← field_found s x d f there
  todesc_from s x fs e

-- the fields in the order in which they are read
abbrev pub fields : List Field
fields = EnumerableField ∷ ConfigurableField ∷ ValueField ∷ WritableField ∷ GetField ∷ SetField ∷ []

-- ToPropertyDescriptor (ECMA-262 6.2.6.5)
abbrev pub todesc : ℕ → Val → Does (Desc Val)
todesc s x = if is_object x then todesc_from s x fields no_fields else type_error s

abbrev pub put_field : List ℕ → Option Val → List Property → List Property
put_field name None ps = ps
put_field name (Some v) ps = put_property (Named name) (open_property v) ps

abbrev pub truth_if : Option Bool → Option Val
truth_if None = None
truth_if (Some b) = Some (Truth b)

-- in the paper's order: value, writable, get, set, enumerable, configurable
abbrev pub desc_properties : Desc Val → List Property
desc_properties d =
    put_field (codes "configurable") (truth_if d.configurable)
    (put_field (codes "enumerable") (truth_if d.enumerable)
    (put_field (codes "set") d.set
    (put_field (codes "get") d.get
    (put_field (codes "writable") (truth_if d.writable)
    (put_field (codes "value") d.value [])))))

-- FromPropertyDescriptor (ECMA-262 6.2.6.4)
abbrev pub fromdesc : ℕ → Desc Val → Does Val
fromdesc s d = make (record (new_thing s None Plain object_prototype) { properties = desc_properties d })
