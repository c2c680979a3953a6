-- What Object.freeze and Object.seal define, and how they go on.
use Rattle.std.specs.Prelude.{None, Some, false}
use Rattle.mb_base.specs.declared.value.Value.{Value}
use Rattle.mb_desc.specs.declared.descriptor.Desc.{Desc}
use Rattle.mb_desc.specs.declared.descriptor.Full.{Full}
use Rattle.mb_desc.specs.declared.descriptor.Full.TheVariants.{Accessor, Datum}

abbrev pub seals : Desc Value
seals = record { value = None; writable = None; get = None; set = None; enumerable = None; configurable = Some false }

abbrev pub freezes : Full Value → Desc Value
freezes (Datum x w e c) =
    record { value = None; writable = Some false; get = None; set = None; enumerable = None; configurable = Some false }
freezes (Accessor g h e c) = seals
