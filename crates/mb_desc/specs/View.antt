-- A plain description of an object, by which laws and shadows speak of what a side sees of it (ECMA-262, 6.1.7).
use Rattle.std.specs.Prelude.{Bool, List}
use Rattle.mb_desc.specs.declared.descriptor.Full.{Full}

-- the properties stand in order of creation
pub record View (K V : Type 0) : Type 0 where
  pub prototype : V
  pub extensible : Bool
  pub properties : List (K × Full V)
