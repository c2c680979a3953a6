use Rattle.mb_rows.specs.Collections.AMapAcross as AMapAcross
use Rattle.mb_rows.specs.Collections.AMapInATrace as AMapInATrace
use Rattle.mb_rows.specs.Collections.AWeakMapRefusesANumber as AWeakMapRefusesANumber
use Rattle.mb_rows.specs.Collections.AnAccessAfterTheCut as AnAccessAfterTheCut
use Rattle.mb_rows.specs.Collections.Members as Members
use Rattle.mb_rows.specs.Collections.WrongArguments as WrongArguments
pub mod AMapAcross
pub mod AMapInATrace
pub mod AWeakMapRefusesANumber
pub mod AnAccessAfterTheCut
pub mod Members
pub mod WrongArguments

-- all rows of this folder
abbrev pub Rows : Type 0
Rows =
    AMapAcross.Row ×
    AMapInATrace.Row ×
    AWeakMapRefusesANumber.Row ×
    AnAccessAfterTheCut.Row ×
    Members.Row ×
    WrongArguments.Row

pub rows : Rows
rows = (
  AMapAcross.row,
  AMapInATrace.row,
  AWeakMapRefusesANumber.row,
  AnAccessAfterTheCut.row,
  Members.row,
  WrongArguments.row,
)
