use Rattle.mb_rows.specs.Symbols.InTheTrace as InTheTrace
use Rattle.mb_rows.specs.Symbols.KeysInOrder as KeysInOrder
use Rattle.mb_rows.specs.Symbols.NoTextButAnUncaughtOne as NoTextButAnUncaughtOne
pub mod InTheTrace
pub mod KeysInOrder
pub mod NoTextButAnUncaughtOne

-- all rows of this folder
abbrev pub Rows : Type 0
Rows =
    InTheTrace.Row ×
    KeysInOrder.Row ×
    NoTextButAnUncaughtOne.Row

pub rows : Rows
rows = (
  InTheTrace.row,
  KeysInOrder.row,
  NoTextButAnUncaughtOne.row,
)
