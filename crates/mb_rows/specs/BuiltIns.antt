use Rattle.mb_rows.specs.BuiltIns.ArgumentsNotGiven as ArgumentsNotGiven
use Rattle.mb_rows.specs.BuiltIns.ArgumentsOfArrays as ArgumentsOfArrays
use Rattle.mb_rows.specs.BuiltIns.ConversionsInSteps as ConversionsInSteps
use Rattle.mb_rows.specs.BuiltIns.WrongArguments as WrongArguments
use Rattle.mb_rows.specs.BuiltIns.WrongArgumentsToo as WrongArgumentsToo
pub mod ArgumentsNotGiven
pub mod ArgumentsOfArrays
pub mod ConversionsInSteps
pub mod WrongArguments
pub mod WrongArgumentsToo

-- all rows of this folder
abbrev pub Rows : Type 0
Rows =
    ArgumentsNotGiven.Row ×
    ArgumentsOfArrays.Row ×
    ConversionsInSteps.Row ×
    WrongArguments.Row ×
    WrongArgumentsToo.Row

pub rows : Rows
rows = (
  ArgumentsNotGiven.row,
  ArgumentsOfArrays.row,
  ConversionsInSteps.row,
  WrongArguments.row,
  WrongArgumentsToo.row,
)
