use Rattle.std.specs.Prelude.{ℕ, List, [], ◌∷◌, ◌++◌, map, Bool, true, false, nat_eq, Option, Some, None, is_some, if◌then◌else◌, codes, pos, option_map}
use Rattle.mb_desc.specs.declared.descriptor.Full.TheVariants.{Datum, Accessor}
use Rattle.mb_world.specs.declared.cell.Coll.{Coll}
use Rattle.mb_world.specs.declared.cell.Coll.TheVariants.{Map as MapColl, Set as SetColl, WeakMap as WeakMapColl}
use Rattle.mb_world.specs.declared.cell.ErrorKind.{ErrorKind}
use Rattle.mb_world.specs.declared.cell.ErrorKind.TheVariants.{Error as ErrorKindError, TypeError as ErrorKindType, RangeError as ErrorKindRange, ReferenceError as ErrorKindReference}
use Rattle.mb_world.specs.Value.{Val, Undefined, Null, Whole, Text, BuiltIn}
use Rattle.mb_world.specs.Key.{Named}
use Rattle.mb_world.specs.Graph.{Thing, Standard, Property}
use Rattle.mb_world.specs.Intrinsics.{Intrinsic, Print, Later, Labelled, Object, Array, Reflect, Proxy, String, Error, TypeError, RangeError, ReferenceError, FunctionPrototype, ObjectPrototype, ObjectPrototypeHasOwnProperty, ObjectCreate, ObjectKeys, ObjectFreeze, ObjectIsFrozen, ObjectSeal, ObjectGetPrototypeOf, ObjectSetPrototypeOf, ObjectDefineProperty, ObjectGetOwnPropertyDescriptor, ArrayPrototype, ArrayPrototypePush, ArrayPrototypePop, ArrayPrototypeMap, ArrayPrototypeForEach, ArrayPrototypeFilter, ArrayPrototypeReduce, ArrayPrototypeIndexOf, ArrayPrototypeSlice, ArrayPrototypeJoin, ArrayIsArray, ReflectApply, ReflectConstruct, ReflectDefineProperty, ReflectDeleteProperty, ReflectGet, ReflectGetOwnPropertyDescriptor, ReflectGetPrototypeOf, ReflectHas, ReflectIsExtensible, ReflectOwnKeys, ReflectPreventExtensions, ReflectSet, ReflectSetPrototypeOf, ProxyRevocable, ErrorPrototype, TypeErrorPrototype, RangeErrorPrototype, ReferenceErrorPrototype, FunctionPrototypeCall, FunctionPrototypeApply, Symbol, ObjectGetOwnPropertySymbols, Map, Set, WeakMap, MapPrototype, MapPrototypeGet, MapPrototypeSet, MapPrototypeHas, MapPrototypeDelete, MapPrototypeClear, MapPrototypeForEach, MapPrototypeSize, SetPrototype, SetPrototypeAdd, SetPrototypeHas, SetPrototypeDelete, SetPrototypeClear, SetPrototypeForEach, SetPrototypeSize, WeakMapPrototype, WeakMapPrototypeGet, WeakMapPrototypeSet, WeakMapPrototypeHas, WeakMapPrototypeDelete, intrinsic, place_of, name_of, function_length}

-- the intrinsic objects as objects of the graph (ECMA-262 18 to 28)

abbrev pub built_in : Intrinsic → Val
built_in i = BuiltIn (place_of i)

abbrev pub object_prototype : Val
object_prototype = built_in ObjectPrototype

abbrev pub function_prototype : Val
function_prototype = built_in FunctionPrototype

abbrev pub array_prototype : Val
array_prototype = built_in ArrayPrototype

-- the `prototype` of an error kind's constructor (ECMA-262 20.5.6.3)
abbrev pub error_prototype : ErrorKind → Val
error_prototype ErrorKindError = built_in ErrorPrototype
error_prototype ErrorKindType = built_in TypeErrorPrototype
error_prototype ErrorKindRange = built_in RangeErrorPrototype
error_prototype ErrorKindReference = built_in ReferenceErrorPrototype

-- the `prototype` of a collection's constructor (ECMA-262 24)
abbrev pub collection_prototype : Coll → Val
collection_prototype MapColl = built_in MapPrototype
collection_prototype SetColl = built_in SetPrototype
collection_prototype WeakMapColl = built_in WeakMapPrototype

-- IsCallable of an intrinsic object (ECMA-262 7.2.3)
abbrev pub calls : Intrinsic → Bool
calls i = is_some (function_length i)

-- IsConstructor of an intrinsic object (ECMA-262 7.2.4)
abbrev pub constructs : Intrinsic → Bool
constructs Object = true
constructs Array = true
constructs Proxy = true
constructs Error = true
constructs TypeError = true
constructs RangeError = true
constructs ReferenceError = true
constructs Map = true
constructs Set = true
constructs WeakMap = true
constructs _ = false

-- the prototype of an intrinsic object: the three lower errors inherit from Error
abbrev pub prototype_of : Intrinsic → Val
prototype_of ObjectPrototype = Null
prototype_of TypeError = built_in Error
prototype_of RangeError = built_in Error
prototype_of ReferenceError = built_in Error
prototype_of TypeErrorPrototype = built_in ErrorPrototype
prototype_of RangeErrorPrototype = built_in ErrorPrototype
prototype_of ReferenceErrorPrototype = built_in ErrorPrototype
prototype_of i = if calls i then function_prototype else object_prototype

-- ---- own properties, all frozen (ECMA-262 18 to 28)

abbrev pub frozen : List ℕ → Val → Property
frozen name v = record { key = Named name; full = Datum v false false false }

abbrev pub frozen_getter : List ℕ → Val → Property
frozen_getter name f = record { key = Named name; full = Accessor f Undefined false false }

-- the part of a name so far, and one more unit: a dot begins a new part
abbrev pub part_with : List ℕ → ℕ → List ℕ
part_with part c = if nat_eq c 46 then [] else part ++ (c ∷ [])

abbrev pub last_part : List ℕ → List ℕ → List ℕ
last_part part [] = part
last_part part (c ∷ cs) = last_part (part_with part c) cs

-- the last part of its name
abbrev pub short_name : Intrinsic → List ℕ
short_name i = last_part [] (name_of i)

abbrev pub function_properties : Intrinsic → Option ℕ → List Property
function_properties i None = []
function_properties i (Some n) = frozen (codes "length") (Whole (pos n)) ∷
    frozen (codes "name") (Text (short_name i)) ∷ []

-- the constructor whose `prototype` it is
abbrev pub constructor_of : Intrinsic → Option Intrinsic
constructor_of ObjectPrototype = Some Object
constructor_of ArrayPrototype = Some Array
constructor_of ErrorPrototype = Some Error
constructor_of TypeErrorPrototype = Some TypeError
constructor_of RangeErrorPrototype = Some RangeError
constructor_of ReferenceErrorPrototype = Some ReferenceError
constructor_of MapPrototype = Some Map
constructor_of SetPrototype = Some Set
constructor_of WeakMapPrototype = Some WeakMap
constructor_of _ = None

abbrev pub constructor_property : Option Intrinsic → List Property
constructor_property None = []
constructor_property (Some c) = frozen (codes "constructor") (built_in c) ∷ []

abbrev pub error_texts : Intrinsic → List Property
error_texts c = frozen (codes "name") (Text (name_of c)) ∷ frozen (codes "message") (Text []) ∷ []

-- `name` and `message` of an error's prototype (ECMA-262 20.5.3, 20.5.6.3)
abbrev pub error_properties : Intrinsic → List Property
error_properties ErrorPrototype = error_texts Error
error_properties TypeErrorPrototype = error_texts TypeError
error_properties RangeErrorPrototype = error_texts RangeError
error_properties ReferenceErrorPrototype = error_texts ReferenceError
error_properties _ = []

-- the members of an owner, in the order of their places
abbrev pub members_of : Intrinsic → List Intrinsic
members_of Object = ObjectPrototype ∷ ObjectCreate ∷ ObjectKeys ∷ ObjectFreeze ∷ ObjectIsFrozen ∷ ObjectSeal ∷
    ObjectGetPrototypeOf ∷ ObjectSetPrototypeOf ∷ ObjectDefineProperty ∷ ObjectGetOwnPropertyDescriptor ∷
    ObjectGetOwnPropertySymbols ∷ []
members_of ObjectPrototype = ObjectPrototypeHasOwnProperty ∷ []
members_of Array = ArrayPrototype ∷ ArrayIsArray ∷ []
members_of ArrayPrototype = ArrayPrototypePush ∷ ArrayPrototypePop ∷ ArrayPrototypeMap ∷ ArrayPrototypeForEach ∷
    ArrayPrototypeFilter ∷ ArrayPrototypeReduce ∷ ArrayPrototypeIndexOf ∷ ArrayPrototypeSlice ∷ ArrayPrototypeJoin ∷ []
members_of Reflect = ReflectApply ∷ ReflectConstruct ∷ ReflectDefineProperty ∷ ReflectDeleteProperty ∷ ReflectGet ∷
    ReflectGetOwnPropertyDescriptor ∷ ReflectGetPrototypeOf ∷ ReflectHas ∷ ReflectIsExtensible ∷ ReflectOwnKeys ∷
    ReflectPreventExtensions ∷ ReflectSet ∷ ReflectSetPrototypeOf ∷ []
members_of Proxy = ProxyRevocable ∷ []
members_of Error = ErrorPrototype ∷ []
members_of TypeError = TypeErrorPrototype ∷ []
members_of RangeError = RangeErrorPrototype ∷ []
members_of ReferenceError = ReferenceErrorPrototype ∷ []
members_of FunctionPrototype = FunctionPrototypeCall ∷ FunctionPrototypeApply ∷ []
members_of Map = MapPrototype ∷ []
members_of MapPrototype = MapPrototypeGet ∷ MapPrototypeSet ∷ MapPrototypeHas ∷ MapPrototypeDelete ∷
    MapPrototypeClear ∷ MapPrototypeForEach ∷ MapPrototypeSize ∷ []
members_of Set = SetPrototype ∷ []
members_of SetPrototype = SetPrototypeAdd ∷ SetPrototypeHas ∷ SetPrototypeDelete ∷ SetPrototypeClear ∷
    SetPrototypeForEach ∷ SetPrototypeSize ∷ []
members_of WeakMap = WeakMapPrototype ∷ []
members_of WeakMapPrototype = WeakMapPrototypeGet ∷ WeakMapPrototypeSet ∷ WeakMapPrototypeHas ∷
    WeakMapPrototypeDelete ∷ []
members_of _ = []

-- `size` is read by a getter (ECMA-262 24.1.3.10, 24.2.3.9)
abbrev pub member : Intrinsic → Property
member MapPrototypeSize = frozen_getter (short_name MapPrototypeSize) (built_in MapPrototypeSize)
member SetPrototypeSize = frozen_getter (short_name SetPrototypeSize) (built_in SetPrototypeSize)
member i = frozen (short_name i) (built_in i)

-- the own properties of an intrinsic object, in order of creation
abbrev pub properties_of : Intrinsic → List Property
properties_of i = function_properties i (function_length i) ++ constructor_property (constructor_of i) ++
    error_properties i ++ map member (members_of i)

-- an intrinsic object at its place; it is frozen and has no owner
abbrev pub standard : ℕ → Intrinsic → Thing
standard n i = record {
  owner = None;
  label = None;
  kind = Standard n;
  prototype = prototype_of i;
  extensible = false;
  properties = properties_of i;
}

abbrev pub standard_at : ℕ → Option Thing
standard_at n = option_map (standard n) (intrinsic n)

-- ---- the names that a side's first scope binds, where `desk` comes last

abbrev pub bound_intrinsics : List Intrinsic
bound_intrinsics = Print ∷ Later ∷ Labelled ∷ Object ∷ Array ∷ Reflect ∷ Proxy ∷ String ∷ Error ∷ TypeError ∷
    RangeError ∷ ReferenceError ∷ Symbol ∷ []

abbrev pub global_names : List (List ℕ × Val)
global_names = map (λ i. (name_of i, built_in i)) bound_intrinsics
