use Rattle.std.specs.Prelude.{true}
use Rattle.mb_desc.specs.declared.descriptor.Full.{Full}
use Rattle.mb_desc.specs.declared.descriptor.Full.TheVariants.{Datum}

-- a property as CreateDataProperty makes it (ECMA-262 7.3.5): with its three flags set
abbrev pub open_property : {V : Type 0} → V → Full V
open_property v = Datum v true true true
