use Rattle.mb_world.specs.declared.entry.Op.{Op}
use Rattle.mb_world.specs.declared.entry.Op.TheVariants.{GetPrototypeOf as GetPrototypeOfOp, SetPrototypeOf as SetPrototypeOfOp, IsExtensible as IsExtensibleOp, PreventExtensions as PreventExtensionsOp, GetOwnPropertyDescriptor as GetOwnPropertyDescriptorOp, DefineProperty as DefinePropertyOp, Has as HasOp, Get as GetOp, Set as SetOp, DeleteProperty as DeletePropertyOp, OwnKeys as OwnKeysOp, Apply as ApplyOp, Construct as ConstructOp}
use Rattle.mb_model.specs.Task.{Method, GetPrototypeOf, SetPrototypeOf, IsExtensible, PreventExtensions, GetOwnProperty, DefineOwnProperty, HasProperty, Get, Set, Delete, OwnPropertyKeys, Call, Construct}

-- the internal methods in the trace

-- the function of Reflect that performs a method (ECMA-262 28.1), by whose name the trap goes too (10.5)
abbrev pub op_of : Method → Op
op_of GetPrototypeOf = GetPrototypeOfOp
op_of (SetPrototypeOf p) = SetPrototypeOfOp
op_of IsExtensible = IsExtensibleOp
op_of PreventExtensions = PreventExtensionsOp
op_of (GetOwnProperty k) = GetOwnPropertyDescriptorOp
op_of (DefineOwnProperty k d) = DefinePropertyOp
op_of (HasProperty k) = HasOp
op_of (Get k r) = GetOp
op_of (Set k x r) = SetOp
op_of (Delete k) = DeletePropertyOp
op_of OwnPropertyKeys = OwnKeysOp
op_of (Call this vs) = ApplyOp
op_of (Construct vs target) = ConstructOp
