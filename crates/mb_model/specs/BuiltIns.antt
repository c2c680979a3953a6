use Rattle.std.specs.Prelude.{ℕ, List, [], true, false, Option, Some, None}
use Rattle.mb_world.specs.declared.cell.Coll.TheVariants.{Map as MapColl, Set as SetColl, WeakMap as WeakMapColl}
use Rattle.mb_world.specs.declared.cell.ErrorKind.TheVariants.{Error as ErrorKindError, TypeError as ErrorKindType, RangeError as ErrorKindRange, ReferenceError as ErrorKindReference}
use Rattle.mb_world.specs.Intrinsics.{intrinsic, Intrinsic, Print, Later, Labelled, Object, Array, Reflect, Proxy, String, Error, TypeError, RangeError, ReferenceError, FunctionPrototype, ObjectPrototype, ObjectPrototypeHasOwnProperty, ObjectCreate, ObjectKeys, ObjectFreeze, ObjectIsFrozen, ObjectSeal, ObjectGetPrototypeOf, ObjectSetPrototypeOf, ObjectDefineProperty, ObjectGetOwnPropertyDescriptor, ArrayPrototype, ArrayPrototypePush, ArrayPrototypePop, ArrayPrototypeMap, ArrayPrototypeForEach, ArrayPrototypeFilter, ArrayPrototypeReduce, ArrayPrototypeIndexOf, ArrayPrototypeSlice, ArrayPrototypeJoin, ArrayIsArray, ReflectApply, ReflectConstruct, ReflectDefineProperty, ReflectDeleteProperty, ReflectGet, ReflectGetOwnPropertyDescriptor, ReflectGetPrototypeOf, ReflectHas, ReflectIsExtensible, ReflectOwnKeys, ReflectPreventExtensions, ReflectSet, ReflectSetPrototypeOf, ProxyRevocable, ErrorPrototype, TypeErrorPrototype, RangeErrorPrototype, ReferenceErrorPrototype, FunctionPrototypeCall, FunctionPrototypeApply, Symbol, ObjectGetOwnPropertySymbols, Map, Set, WeakMap, MapPrototype, MapPrototypeGet, MapPrototypeSet, MapPrototypeHas, MapPrototypeDelete, MapPrototypeClear, MapPrototypeForEach, MapPrototypeSize, SetPrototype, SetPrototypeAdd, SetPrototypeHas, SetPrototypeDelete, SetPrototypeClear, SetPrototypeForEach, SetPrototypeSize, WeakMapPrototype, WeakMapPrototypeGet, WeakMapPrototypeSet, WeakMapPrototypeHas, WeakMapPrototypeDelete}
use Rattle.mb_world.specs.Value.{Val, BuiltIn, text_of}
use Rattle.mb_model.specs.Task.{GetAt, SetAt, Add, Has, DeleteAt, Clear, Size, Answer}
use Rattle.mb_model.specs.Writing.{Does}
use Rattle.mb_model.specs.BuiltIns.Arguments.{arg, undefined}
use Rattle.mb_model.specs.BuiltIns.Basics.{print_each, later, labelled, string, symbol}
use Rattle.mb_model.specs.BuiltIns.ObjectMembers.{object_fn, object_create, object_keys, own_symbols, settle, is_frozen, get_prototype_of, object_set_prototype_of, object_define_property, get_own_descriptor, has_own}
use Rattle.mb_model.specs.BuiltIns.ReflectMembers.{reflect_apply, reflect_construct, reflect_define, reflect_delete, reflect_get, reflect_has, reflect_is_extensible, reflect_own_keys, reflect_prevent, reflect_set, reflect_set_prototype}
use Rattle.mb_model.specs.BuiltIns.ErrorsAndFunctions.{error_fn, function_call, function_apply}
use Rattle.mb_model.specs.BuiltIns.Arrays.{array_fn, is_array_row}
use Rattle.mb_model.specs.BuiltIns.ArrayMembers.{push, pop, for_each_row, map_row, filter_row, reduce_row, index_of_row, slice, join}
use Rattle.mb_model.specs.BuiltIns.ProxyMaking.{proxy_fn, revocable}
use Rattle.mb_model.specs.BuiltIns.Collections.{value_member, truth_member, chained_member, for_each_pair, collection_fn}
pub mod Arguments
pub mod Basics
pub mod ObjectMembers
pub mod ReflectMembers
pub mod ErrorsAndFunctions
pub mod Arrays
pub mod ArrayMembers
pub mod ProxyMaking
pub mod Collections

-- what each built-in does, by its own row

-- one row for each built-in: s acts, p is the built-in's place, a target of undefined is a call without `new`
abbrev pub run : ℕ → ℕ → Val → List Val → Val → Intrinsic → Does Answer
run s p this vs target Print = print_each s [] true vs
run s p this vs target Later = later s (arg vs 0)
run s p this vs target Labelled = labelled s (text_of (arg vs 0))
run s p this vs target Object = object_fn s (BuiltIn p) target (arg vs 0)
run s p this vs target Array = array_fn s vs (BuiltIn p) target
run s p this vs target Reflect = undefined
run s p this vs target Proxy = proxy_fn s vs target
run s p this vs target String = string s vs
run s p this vs target Error = error_fn s ErrorKindError (BuiltIn p) target (arg vs 0)
run s p this vs target TypeError = error_fn s ErrorKindType (BuiltIn p) target (arg vs 0)
run s p this vs target RangeError = error_fn s ErrorKindRange (BuiltIn p) target (arg vs 0)
run s p this vs target ReferenceError = error_fn s ErrorKindReference (BuiltIn p) target (arg vs 0)
run s p this vs target FunctionPrototype = undefined
run s p this vs target ObjectPrototype = undefined
run s p this vs target ObjectPrototypeHasOwnProperty = has_own s this vs
run s p this vs target ObjectCreate = object_create s vs
run s p this vs target ObjectKeys = object_keys s (arg vs 0)
run s p this vs target ObjectFreeze = settle s true (arg vs 0)
run s p this vs target ObjectIsFrozen = is_frozen s (arg vs 0)
run s p this vs target ObjectSeal = settle s false (arg vs 0)
run s p this vs target ObjectGetPrototypeOf = get_prototype_of s (arg vs 0)
run s p this vs target ObjectSetPrototypeOf = object_set_prototype_of s (arg vs 0) (arg vs 1)
run s p this vs target ObjectDefineProperty = object_define_property s vs
run s p this vs target ObjectGetOwnPropertyDescriptor = get_own_descriptor s vs
run s p this vs target ArrayPrototype = undefined
run s p this vs target ArrayPrototypePush = push s this vs
run s p this vs target ArrayPrototypePop = pop s this
run s p this vs target ArrayPrototypeMap = map_row s this vs
run s p this vs target ArrayPrototypeForEach = for_each_row s this vs
run s p this vs target ArrayPrototypeFilter = filter_row s this vs
run s p this vs target ArrayPrototypeReduce = reduce_row s this vs
run s p this vs target ArrayPrototypeIndexOf = index_of_row s this vs
run s p this vs target ArrayPrototypeSlice = slice s this vs
run s p this vs target ArrayPrototypeJoin = join s this (arg vs 0)
run s p this vs target ArrayIsArray = is_array_row s (arg vs 0)
run s p this vs target ReflectApply = reflect_apply s vs
run s p this vs target ReflectConstruct = reflect_construct s vs
run s p this vs target ReflectDefineProperty = reflect_define s vs
run s p this vs target ReflectDeleteProperty = reflect_delete s vs
run s p this vs target ReflectGet = reflect_get s vs
run s p this vs target ReflectGetOwnPropertyDescriptor = get_own_descriptor s vs
run s p this vs target ReflectGetPrototypeOf = get_prototype_of s (arg vs 0)
run s p this vs target ReflectHas = reflect_has s vs
run s p this vs target ReflectIsExtensible = reflect_is_extensible s (arg vs 0)
run s p this vs target ReflectOwnKeys = reflect_own_keys s (arg vs 0)
run s p this vs target ReflectPreventExtensions = reflect_prevent s (arg vs 0)
run s p this vs target ReflectSet = reflect_set s vs
run s p this vs target ReflectSetPrototypeOf = reflect_set_prototype s (arg vs 0) (arg vs 1)
run s p this vs target ProxyRevocable = revocable s vs
run s p this vs target ErrorPrototype = undefined
run s p this vs target TypeErrorPrototype = undefined
run s p this vs target RangeErrorPrototype = undefined
run s p this vs target ReferenceErrorPrototype = undefined
run s p this vs target FunctionPrototypeCall = function_call s this vs
run s p this vs target FunctionPrototypeApply = function_apply s this vs
run s p this vs target Symbol = symbol s (arg vs 0)
run s p this vs target ObjectGetOwnPropertySymbols = own_symbols s (arg vs 0)
run s p this vs target Map = collection_fn s MapColl vs (BuiltIn p) target
run s p this vs target Set = collection_fn s SetColl vs (BuiltIn p) target
run s p this vs target WeakMap = collection_fn s WeakMapColl vs (BuiltIn p) target
run s p this vs target MapPrototype = undefined
run s p this vs target MapPrototypeGet = value_member s p MapColl this (GetAt (arg vs 0))
run s p this vs target MapPrototypeSet = chained_member s p MapColl this (SetAt (arg vs 0) (arg vs 1))
run s p this vs target MapPrototypeHas = truth_member s p MapColl this (Has (arg vs 0))
run s p this vs target MapPrototypeDelete = truth_member s p MapColl this (DeleteAt (arg vs 0))
run s p this vs target MapPrototypeClear = value_member s p MapColl this Clear
run s p this vs target MapPrototypeForEach = for_each_pair s p MapColl this vs
run s p this vs target MapPrototypeSize = value_member s p MapColl this Size
run s p this vs target SetPrototype = undefined
run s p this vs target SetPrototypeAdd = chained_member s p SetColl this (Add (arg vs 0))
run s p this vs target SetPrototypeHas = truth_member s p SetColl this (Has (arg vs 0))
run s p this vs target SetPrototypeDelete = truth_member s p SetColl this (DeleteAt (arg vs 0))
run s p this vs target SetPrototypeClear = value_member s p SetColl this Clear
run s p this vs target SetPrototypeForEach = for_each_pair s p SetColl this vs
run s p this vs target SetPrototypeSize = value_member s p SetColl this Size
run s p this vs target WeakMapPrototype = undefined
run s p this vs target WeakMapPrototypeGet = value_member s p WeakMapColl this (GetAt (arg vs 0))
run s p this vs target WeakMapPrototypeSet = chained_member s p WeakMapColl this (SetAt (arg vs 0) (arg vs 1))
run s p this vs target WeakMapPrototypeHas = truth_member s p WeakMapColl this (Has (arg vs 0))
run s p this vs target WeakMapPrototypeDelete = truth_member s p WeakMapColl this (DeleteAt (arg vs 0))

abbrev pub run_if : ℕ → ℕ → Val → List Val → Val → Option Intrinsic → Does Answer
run_if s p this vs target None = undefined
run_if s p this vs target (Some i) = run s p this vs target i

-- the row of a built-in
abbrev pub run_row : ℕ → ℕ → Val → List Val → Val → Does Answer
run_row s p this vs target = run_if s p this vs target (intrinsic p)
