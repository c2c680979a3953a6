use Rattle.mb_rows.specs.Membrane.ACompoundOnAForeignKey as ACompoundOnAForeignKey
use Rattle.mb_rows.specs.Membrane.ACycleOverBothSides as ACycleOverBothSides
use Rattle.mb_rows.specs.Membrane.AFixedElementStopsALength as AFixedElementStopsALength
use Rattle.mb_rows.specs.Membrane.AGetterFixesItsOwnKey as AGetterFixesItsOwnKey
use Rattle.mb_rows.specs.Membrane.AGetterThrows as AGetterThrows
use Rattle.mb_rows.specs.Membrane.AThrownObjectComesBack as AThrownObjectComesBack
use Rattle.mb_rows.specs.Membrane.DescriptorsAreRead as DescriptorsAreRead
use Rattle.mb_rows.specs.Membrane.ErrorsAndTheirNumbers as ErrorsAndTheirNumbers
use Rattle.mb_rows.specs.Membrane.FrozenAcross as FrozenAcross
use Rattle.mb_rows.specs.Membrane.FrozenWhileADescriptorIsRead as FrozenWhileADescriptorIsRead
use Rattle.mb_rows.specs.Membrane.HandlersAcross as HandlersAcross
use Rattle.mb_rows.specs.Membrane.IdentityIsKept as IdentityIsKept
use Rattle.mb_rows.specs.Membrane.NewTargets as NewTargets
use Rattle.mb_rows.specs.Membrane.ReceiversOfEachSide as ReceiversOfEachSide
use Rattle.mb_rows.specs.Membrane.ThroughTwoObjects as ThroughTwoObjects
use Rattle.mb_rows.specs.Membrane.WhatIsAnArray as WhatIsAnArray
pub mod ACompoundOnAForeignKey
pub mod ACycleOverBothSides
pub mod AFixedElementStopsALength
pub mod AGetterFixesItsOwnKey
pub mod AGetterThrows
pub mod AThrownObjectComesBack
pub mod DescriptorsAreRead
pub mod ErrorsAndTheirNumbers
pub mod FrozenAcross
pub mod FrozenWhileADescriptorIsRead
pub mod HandlersAcross
pub mod IdentityIsKept
pub mod NewTargets
pub mod ReceiversOfEachSide
pub mod ThroughTwoObjects
pub mod WhatIsAnArray

-- all rows of this folder
abbrev pub Rows : Type 0
Rows =
    ACompoundOnAForeignKey.Row ×
    ACycleOverBothSides.Row ×
    AFixedElementStopsALength.Row ×
    AGetterFixesItsOwnKey.Row ×
    AGetterThrows.Row ×
    AThrownObjectComesBack.Row ×
    DescriptorsAreRead.Row ×
    ErrorsAndTheirNumbers.Row ×
    FrozenAcross.Row ×
    FrozenWhileADescriptorIsRead.Row ×
    HandlersAcross.Row ×
    IdentityIsKept.Row ×
    NewTargets.Row ×
    ReceiversOfEachSide.Row ×
    ThroughTwoObjects.Row ×
    WhatIsAnArray.Row

pub rows : Rows
rows = (
  ACompoundOnAForeignKey.row,
  ACycleOverBothSides.row,
  AFixedElementStopsALength.row,
  AGetterFixesItsOwnKey.row,
  AGetterThrows.row,
  AThrownObjectComesBack.row,
  DescriptorsAreRead.row,
  ErrorsAndTheirNumbers.row,
  FrozenAcross.row,
  FrozenWhileADescriptorIsRead.row,
  HandlersAcross.row,
  IdentityIsKept.row,
  NewTargets.row,
  ReceiversOfEachSide.row,
  ThroughTwoObjects.row,
  WhatIsAnArray.row,
)
