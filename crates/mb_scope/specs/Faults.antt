-- The static rules.
use Rattle.std.specs.Prelude.{ℕ, ◌≤◌, List}
use Rattle.mb_tree.specs.Roses.{Shape}
use Rattle.mb_scope.specs.declared.fault.NameFault.{NameFault}
use Rattle.mb_scope.specs.declared.fault.NameFault.TheVariants.{Twice, Stray, BadTarget, NoMemory}
use Rattle.mb_scope.specs.Bindings.{IsTwice}
use Rattle.mb_scope.specs.Jumps.{IsStray}
use Rattle.mb_scope.specs.Targets.{IsBadTarget}

-- a node breaks a rule
abbrev pub Breaks : List Shape → NameFault → Type 0
Breaks shapes (Twice id) = IsTwice shapes id
Breaks shapes (Stray id) = IsStray shapes id
Breaks shapes (BadTarget id) = IsBadTarget shapes id
Breaks shapes NoMemory = ⊥

-- no node breaks a rule
abbrev pub IsRight : List Shape → Type 0
IsRight shapes = (fault : NameFault) → Breaks shapes fault → ⊥

abbrev pub fault_place : NameFault → ℕ
fault_place (Twice id) = id.0
fault_place (Stray id) = id.0
fault_place (BadTarget id) = id.0
fault_place NoMemory = 0

-- the first node that breaks a rule
pub record IsLeast (shapes : List Shape) (fault : NameFault) : Type 0 where
  pub broken : Breaks shapes fault
  pub least : (other : NameFault) → Breaks shapes other → fault_place fault ≤ fault_place other
