use Rattle.std.specs.Prelude.{ℕ, List, [], true, false, Option, Some, None}
use Rattle.mb_world.specs.declared.cell.Coll.TheVariants.{Map as MapColl, Set as SetColl, WeakMap as WeakMapColl}
use Rattle.mb_world.specs.declared.cell.ErrorKind.TheVariants.{Error as ErrorKindError, TypeError as ErrorKindType, RangeError as ErrorKindRange, ReferenceError as ErrorKindReference}
use Rattle.mb_world.specs.Intrinsics.{intrinsic, Intrinsic, Print, Later, Labelled, Object, Array, Reflect, Proxy, String, Error, TypeError, RangeError, ReferenceError, FunctionPrototype, ObjectPrototype, ObjectPrototypeHasOwnProperty, ObjectCreate, ObjectKeys, ObjectFreeze, ObjectIsFrozen, ObjectSeal, ObjectGetPrototypeOf, ObjectSetPrototypeOf, ObjectDefineProperty, ObjectGetOwnPropertyDescriptor, ArrayPrototype, ArrayPrototypePush, ArrayPrototypePop, ArrayPrototypeMap, ArrayPrototypeForEach, ArrayPrototypeFilter, ArrayPrototypeReduce, ArrayPrototypeIndexOf, ArrayPrototypeSlice, ArrayPrototypeJoin, ArrayIsArray, ReflectApply, ReflectConstruct, ReflectDefineProperty, ReflectDeleteProperty, ReflectGet, ReflectGetOwnPropertyDescriptor, ReflectGetPrototypeOf, ReflectHas, ReflectIsExtensible, ReflectOwnKeys, ReflectPreventExtensions, ReflectSet, ReflectSetPrototypeOf, ProxyRevocable, ErrorPrototype, TypeErrorPrototype, RangeErrorPrototype, ReferenceErrorPrototype, FunctionPrototypeCall, FunctionPrototypeApply, Symbol, ObjectGetOwnPropertySymbols, Map, Set, WeakMap, MapPrototype, MapPrototypeGet, MapPrototypeSet, MapPrototypeHas, MapPrototypeDelete, MapPrototypeClear, MapPrototypeForEach, MapPrototypeSize, SetPrototype, SetPrototypeAdd, SetPrototypeHas, SetPrototypeDelete, SetPrototypeClear, SetPrototypeForEach, SetPrototypeSize, WeakMapPrototype, WeakMapPrototypeGet, WeakMapPrototypeSet, WeakMapPrototypeHas, WeakMapPrototypeDelete}
use Rattle.mb_world.specs.Value.{Val, BuiltIn, text_of}
use Rattle.mb_model.specs.Task.{GetAt, SetAt, Add, Has, DeleteAt, Clear, Size}
use Rattle.mb_model.specs.BuiltIns.Arguments.{arg}
use Rattle.mb_model.specs.BuiltIns.{run, run_if, run_row}
use Rattle.mb_model.proofs.Kept.Words.{Kept, Goes}
use Rattle.mb_model.proofs.Kept.BuiltInsArrays.{keeps-array_fn, keeps-is_array_row}
use Rattle.mb_model.proofs.Kept.BuiltInsCollections.{keeps-chained_member, keeps-collection_fn, keeps-for_each_pair, keeps-truth_member, keeps-value_member}
use Rattle.mb_model.proofs.Kept.BuiltInsErrorsAndFunctions.{keeps-error_fn, keeps-function_apply, keeps-function_call}
use Rattle.mb_model.proofs.Kept.Stored.{keeps-filter_row, keeps-map_row, keeps-slice}
use Rattle.mb_model.proofs.Kept.BuiltInsArrayMembers.{keeps-for_each_row, keeps-index_of_row, keeps-join, keeps-pop, keeps-push, keeps-reduce_row}
use Rattle.mb_model.proofs.Kept.BuiltInsObjectMembers.{keeps-get_own_descriptor, keeps-get_prototype_of, keeps-has_own, keeps-is_frozen, keeps-object_create, keeps-object_fn, keeps-object_keys, keeps-object_set_prototype_of, keeps-own_symbols, keeps-settle}
use Rattle.mb_model.proofs.Kept.BuiltInsBasics.{keeps-labelled, keeps-later, keeps-print_each, keeps-string, keeps-symbol}
use Rattle.mb_model.proofs.Kept.Defining.{keeps-object_define_property, keeps-reflect_define}
use Rattle.mb_model.proofs.Kept.BuiltInsProxyMaking.{keeps-proxy_fn, keeps-revocable}
use Rattle.mb_model.proofs.Kept.BuiltInsReflectMembers.{keeps-reflect_apply, keeps-reflect_construct, keeps-reflect_delete, keeps-reflect_get, keeps-reflect_has, keeps-reflect_is_extensible, keeps-reflect_own_keys, keeps-reflect_prevent, keeps-reflect_set, keeps-reflect_set_prototype}
use Rattle.mb_model.proofs.Kept.BuiltInsArguments.{keeps-undefined}

-- what the parts of these rows keep (written by tools/kept.py)

pub keeps-run : (kept : Kept) (x0 : ℕ) (x1 : ℕ) (x2 : Val) (x3 : List Val) (x4 : Val) (x5 : Intrinsic) → Goes kept
    (run x0 x1 x2 x3 x4 x5)
keeps-run kept s p this vs target Print = keeps-print_each kept s [] true vs
keeps-run kept s p this vs target Later = keeps-later kept s (arg vs 0)
keeps-run kept s p this vs target Labelled = keeps-labelled kept s (text_of (arg vs 0))
keeps-run kept s p this vs target Object = keeps-object_fn kept s (BuiltIn p) target (arg vs 0)
keeps-run kept s p this vs target Array = keeps-array_fn kept s vs (BuiltIn p) target
keeps-run kept s p this vs target Reflect = keeps-undefined kept
keeps-run kept s p this vs target Proxy = keeps-proxy_fn kept s vs target
keeps-run kept s p this vs target String = keeps-string kept s vs
keeps-run kept s p this vs target Error = keeps-error_fn kept s ErrorKindError (BuiltIn p) target (arg vs 0)
keeps-run kept s p this vs target TypeError = keeps-error_fn kept s ErrorKindType (BuiltIn p) target (arg vs 0)
keeps-run kept s p this vs target RangeError = keeps-error_fn kept s ErrorKindRange (BuiltIn p) target (arg vs 0)
keeps-run kept s p this vs target ReferenceError = keeps-error_fn kept s ErrorKindReference (BuiltIn p) target (arg
    vs 0)
keeps-run kept s p this vs target FunctionPrototype = keeps-undefined kept
keeps-run kept s p this vs target ObjectPrototype = keeps-undefined kept
keeps-run kept s p this vs target ObjectPrototypeHasOwnProperty = keeps-has_own kept s this vs
keeps-run kept s p this vs target ObjectCreate = keeps-object_create kept s vs
keeps-run kept s p this vs target ObjectKeys = keeps-object_keys kept s (arg vs 0)
keeps-run kept s p this vs target ObjectFreeze = keeps-settle kept s true (arg vs 0)
keeps-run kept s p this vs target ObjectIsFrozen = keeps-is_frozen kept s (arg vs 0)
keeps-run kept s p this vs target ObjectSeal = keeps-settle kept s false (arg vs 0)
keeps-run kept s p this vs target ObjectGetPrototypeOf = keeps-get_prototype_of kept s (arg vs 0)
keeps-run kept s p this vs target ObjectSetPrototypeOf = keeps-object_set_prototype_of kept s (arg vs 0) (arg vs 1)
keeps-run kept s p this vs target ObjectDefineProperty = keeps-object_define_property kept s vs
keeps-run kept s p this vs target ObjectGetOwnPropertyDescriptor = keeps-get_own_descriptor kept s vs
keeps-run kept s p this vs target ArrayPrototype = keeps-undefined kept
keeps-run kept s p this vs target ArrayPrototypePush = keeps-push kept s this vs
keeps-run kept s p this vs target ArrayPrototypePop = keeps-pop kept s this
keeps-run kept s p this vs target ArrayPrototypeMap = keeps-map_row kept s this vs
keeps-run kept s p this vs target ArrayPrototypeForEach = keeps-for_each_row kept s this vs
keeps-run kept s p this vs target ArrayPrototypeFilter = keeps-filter_row kept s this vs
keeps-run kept s p this vs target ArrayPrototypeReduce = keeps-reduce_row kept s this vs
keeps-run kept s p this vs target ArrayPrototypeIndexOf = keeps-index_of_row kept s this vs
keeps-run kept s p this vs target ArrayPrototypeSlice = keeps-slice kept s this vs
keeps-run kept s p this vs target ArrayPrototypeJoin = keeps-join kept s this (arg vs 0)
keeps-run kept s p this vs target ArrayIsArray = keeps-is_array_row kept s (arg vs 0)
keeps-run kept s p this vs target ReflectApply = keeps-reflect_apply kept s vs
keeps-run kept s p this vs target ReflectConstruct = keeps-reflect_construct kept s vs
keeps-run kept s p this vs target ReflectDefineProperty = keeps-reflect_define kept s vs
keeps-run kept s p this vs target ReflectDeleteProperty = keeps-reflect_delete kept s vs
keeps-run kept s p this vs target ReflectGet = keeps-reflect_get kept s vs
keeps-run kept s p this vs target ReflectGetOwnPropertyDescriptor = keeps-get_own_descriptor kept s vs
keeps-run kept s p this vs target ReflectGetPrototypeOf = keeps-get_prototype_of kept s (arg vs 0)
keeps-run kept s p this vs target ReflectHas = keeps-reflect_has kept s vs
keeps-run kept s p this vs target ReflectIsExtensible = keeps-reflect_is_extensible kept s (arg vs 0)
keeps-run kept s p this vs target ReflectOwnKeys = keeps-reflect_own_keys kept s (arg vs 0)
keeps-run kept s p this vs target ReflectPreventExtensions = keeps-reflect_prevent kept s (arg vs 0)
keeps-run kept s p this vs target ReflectSet = keeps-reflect_set kept s vs
keeps-run kept s p this vs target ReflectSetPrototypeOf = keeps-reflect_set_prototype kept s (arg vs 0) (arg vs 1)
keeps-run kept s p this vs target ProxyRevocable = keeps-revocable kept s vs
keeps-run kept s p this vs target ErrorPrototype = keeps-undefined kept
keeps-run kept s p this vs target TypeErrorPrototype = keeps-undefined kept
keeps-run kept s p this vs target RangeErrorPrototype = keeps-undefined kept
keeps-run kept s p this vs target ReferenceErrorPrototype = keeps-undefined kept
keeps-run kept s p this vs target FunctionPrototypeCall = keeps-function_call kept s this vs
keeps-run kept s p this vs target FunctionPrototypeApply = keeps-function_apply kept s this vs
keeps-run kept s p this vs target Symbol = keeps-symbol kept s (arg vs 0)
keeps-run kept s p this vs target ObjectGetOwnPropertySymbols = keeps-own_symbols kept s (arg vs 0)
keeps-run kept s p this vs target Map = keeps-collection_fn kept s MapColl vs (BuiltIn p) target
keeps-run kept s p this vs target Set = keeps-collection_fn kept s SetColl vs (BuiltIn p) target
keeps-run kept s p this vs target WeakMap = keeps-collection_fn kept s WeakMapColl vs (BuiltIn p) target
keeps-run kept s p this vs target MapPrototype = keeps-undefined kept
keeps-run kept s p this vs target MapPrototypeGet = keeps-value_member kept s p MapColl this (GetAt (arg vs 0))
keeps-run kept s p this vs target MapPrototypeSet = keeps-chained_member kept s p MapColl this (SetAt (arg vs 0)
    (arg vs 1))
keeps-run kept s p this vs target MapPrototypeHas = keeps-truth_member kept s p MapColl this (Has (arg vs 0))
keeps-run kept s p this vs target MapPrototypeDelete = keeps-truth_member kept s p MapColl this (DeleteAt (arg vs 0))
keeps-run kept s p this vs target MapPrototypeClear = keeps-value_member kept s p MapColl this Clear
keeps-run kept s p this vs target MapPrototypeForEach = keeps-for_each_pair kept s p MapColl this vs
keeps-run kept s p this vs target MapPrototypeSize = keeps-value_member kept s p MapColl this Size
keeps-run kept s p this vs target SetPrototype = keeps-undefined kept
keeps-run kept s p this vs target SetPrototypeAdd = keeps-chained_member kept s p SetColl this (Add (arg vs 0))
keeps-run kept s p this vs target SetPrototypeHas = keeps-truth_member kept s p SetColl this (Has (arg vs 0))
keeps-run kept s p this vs target SetPrototypeDelete = keeps-truth_member kept s p SetColl this (DeleteAt (arg vs 0))
keeps-run kept s p this vs target SetPrototypeClear = keeps-value_member kept s p SetColl this Clear
keeps-run kept s p this vs target SetPrototypeForEach = keeps-for_each_pair kept s p SetColl this vs
keeps-run kept s p this vs target SetPrototypeSize = keeps-value_member kept s p SetColl this Size
keeps-run kept s p this vs target WeakMapPrototype = keeps-undefined kept
keeps-run kept s p this vs target WeakMapPrototypeGet = keeps-value_member kept s p WeakMapColl this (GetAt (arg vs
    0))
keeps-run kept s p this vs target WeakMapPrototypeSet = keeps-chained_member kept s p WeakMapColl this (SetAt (arg
    vs 0) (arg vs 1))
keeps-run kept s p this vs target WeakMapPrototypeHas = keeps-truth_member kept s p WeakMapColl this (Has (arg vs 0))
keeps-run kept s p this vs target WeakMapPrototypeDelete = keeps-truth_member kept s p WeakMapColl this (DeleteAt
    (arg vs 0))

pub keeps-run_if : (kept : Kept) (x0 : ℕ) (x1 : ℕ) (x2 : Val) (x3 : List Val) (x4 : Val) (x5 : Option Intrinsic) →
    Goes kept (run_if x0 x1 x2 x3 x4 x5)
keeps-run_if kept s p this vs target None = keeps-undefined kept
keeps-run_if kept s p this vs target (Some i) = keeps-run kept s p this vs target i

pub keeps-run_row : (kept : Kept) (x0 : ℕ) (x1 : ℕ) (x2 : Val) (x3 : List Val) (x4 : Val) → Goes kept (run_row x0
    x1 x2 x3 x4)
keeps-run_row kept s p this vs target = keeps-run_if kept s p this vs target (intrinsic p)
