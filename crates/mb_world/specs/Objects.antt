use Rattle.std.specs.Prelude.{ℕ, List, [], ◌∷◌, map, Bool, true, false, Option, Some, None, if◌then◌else◌, slice_get, slice_set}
use Rattle.mb_desc.specs.declared.descriptor.Full.{Full}
use Rattle.mb_world.specs.declared.cell.Shape.{Shape}
use Rattle.mb_world.specs.declared.cell.Shape.TheVariants.{Plain as PlainShape, Array as ArrayShape, Calls, Constructs}
use Rattle.mb_world.specs.Value.{Val, Object, BuiltIn}
use Rattle.mb_world.specs.Key.{PropertyKey, same_key}
use Rattle.mb_world.specs.Graph.{Graph, Thing, Kind, Array, Function, Standard, Proxy, Gone, Revoker, Property}
use Rattle.mb_world.specs.Intrinsics.{Intrinsic, intrinsic}
use Rattle.mb_world.specs.Standard.{standard_at, calls, constructs}

-- objects: which one a value names, which can be called or construct, and their own properties

-- the object that a value names, if it names one
abbrev pub thing_at : Graph → Val → Option Thing
thing_at g (Object n) = slice_get g.objects n
thing_at g (BuiltIn p) = standard_at p
thing_at g _ = None

-- the graph with another thing in an object's place; a built-in never changes
abbrev pub with_thing : Val → Thing → Graph → Graph
with_thing (Object n) t g = record g { objects = slice_set g.objects n t }
with_thing _ t g = g

abbrev pub shape_calls : Shape → Bool
shape_calls Calls = true
shape_calls Constructs = true
shape_calls _ = false

abbrev pub shape_constructs : Shape → Bool
shape_constructs Constructs = true
shape_constructs _ = false

abbrev pub intrinsic_is : (Intrinsic → Bool) → Option Intrinsic → Bool
intrinsic_is test None = false
intrinsic_is test (Some i) = test i

abbrev pub kind_calls : Kind → Bool
kind_calls (Function c) = true
kind_calls (Standard p) = intrinsic_is calls (intrinsic p)
kind_calls (Proxy t h s) = shape_calls s
kind_calls (Gone s) = shape_calls s
kind_calls (Revoker p) = true
kind_calls _ = false

abbrev pub kind_constructs : Kind → Bool
kind_constructs (Function c) = c.constructs
kind_constructs (Standard p) = intrinsic_is constructs (intrinsic p)
kind_constructs (Proxy t h s) = shape_constructs s
kind_constructs (Gone s) = shape_constructs s
kind_constructs _ = false

abbrev pub thing_is : (Kind → Bool) → Option Thing → Bool
thing_is test None = false
thing_is test (Some t) = test t.kind

-- IsCallable (ECMA-262 7.2.3), IsConstructor (ECMA-262 7.2.4)
abbrev pub is_callable : Graph → Val → Bool
is_callable g v = thing_is kind_calls (thing_at g v)

abbrev pub is_constructor : Graph → Val → Bool
is_constructor g v = thing_is kind_constructs (thing_at g v)

abbrev pub is_proxy_kind : Kind → Bool
is_proxy_kind (Proxy t h s) = true
is_proxy_kind (Gone s) = true
is_proxy_kind _ = false

-- a script-made Proxy
abbrev pub is_proxy : Graph → Val → Bool
is_proxy g v = thing_is is_proxy_kind (thing_at g v)

-- a script-made Proxy has the shape of its target
abbrev pub shape_of_kind : Kind → Shape
shape_of_kind Array = ArrayShape
shape_of_kind (Proxy t h s) = s
shape_of_kind (Gone s) = s
shape_of_kind k = if kind_constructs k then Constructs else if kind_calls k then Calls else PlainShape

abbrev pub shape_of_thing : Option Thing → Shape
shape_of_thing None = PlainShape
shape_of_thing (Some t) = shape_of_kind t.kind

-- what a Proxy of this object is
abbrev pub shape_of : Graph → Val → Shape
shape_of g v = shape_of_thing (thing_at g v)

-- an object as it is made: without properties, extensible (ECMA-262 10.1.12)
abbrev pub new_thing : (owner : ℕ) → (label : Option (List ℕ)) → Kind → (prototype : Val) → Thing
new_thing s label kind p =
    record { owner = Some s; label = label; kind = kind; prototype = p; extensible = true; properties = [] }

-- ---- own properties

abbrev pub find_property : PropertyKey → List Property → Option (Full Val)
find_property k [] = None
find_property k (p ∷ ps) = if same_key p.key k then Some p.full else find_property k ps

-- a property that is there is changed where it stands
abbrev pub put_property : PropertyKey → Full Val → List Property → List Property
put_property k f [] = record { key = k; full = f } ∷ []
put_property k f (p ∷ ps) = if same_key p.key k then record { key = k; full = f } ∷ ps else p ∷ put_property k f ps

abbrev pub remove_property : PropertyKey → List Property → List Property
remove_property k [] = []
remove_property k (p ∷ ps) = if same_key p.key k then ps else p ∷ remove_property k ps

abbrev pub property_keys : List Property → List PropertyKey
property_keys ps = map (λ p. p.key) ps

abbrev pub own_property : PropertyKey → Thing → Option (Full Val)
own_property k t = find_property k t.properties

abbrev pub with_property : PropertyKey → Full Val → Thing → Thing
with_property k f t = record t { properties = put_property k f t.properties }

abbrev pub without_property : PropertyKey → Thing → Thing
without_property k t = record t { properties = remove_property k t.properties }
