use Rattle.mb_rows.specs.Sides.HiddenFromOneViewer as HiddenFromOneViewer
use Rattle.mb_rows.specs.Sides.ThreeInTheOrderOfTheSchedule as ThreeInTheOrderOfTheSchedule
use Rattle.mb_rows.specs.Sides.ThreeKeepIdentity as ThreeKeepIdentity
pub mod HiddenFromOneViewer
pub mod ThreeInTheOrderOfTheSchedule
pub mod ThreeKeepIdentity

-- all rows of this folder
abbrev pub Rows : Type 0
Rows =
    HiddenFromOneViewer.Row ×
    ThreeInTheOrderOfTheSchedule.Row ×
    ThreeKeepIdentity.Row

pub rows : Rows
rows = (
  HiddenFromOneViewer.row,
  ThreeInTheOrderOfTheSchedule.row,
  ThreeKeepIdentity.row,
)
