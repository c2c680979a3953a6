-- The first of three faults.
use Rattle.std.specs.Prelude.{Option}
use Rattle.std.specs.Option.{option_map}
use Rattle.mb_base.specs.declared.value.NodeId.{NodeId}
use Rattle.mb_scope.specs.declared.fault.NameFault.{NameFault}
use Rattle.mb_scope.specs.declared.fault.NameFault.TheVariants.{Twice, Stray, BadTarget}
use Rattle.mb_scope.specs.machine.First.{sooner}
use Rattle.mb_scope.specs.Faults.{fault_place}

-- the first of the nodes that break the three rules
abbrev pub first_fault_of : Option NodeId → Option NodeId → Option NodeId → Option NameFault
first_fault_of twice stray target =
    sooner fault_place (sooner fault_place (option_map Twice twice) (option_map Stray stray)) (option_map BadTarget target)
