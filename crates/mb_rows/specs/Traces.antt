use Rattle.mb_rows.specs.Traces.HandlersAcross as HandlersAcross
use Rattle.mb_rows.specs.Traces.LongTexts as LongTexts
use Rattle.mb_rows.specs.Traces.Spelling as Spelling
use Rattle.mb_rows.specs.Traces.TextsAndNumbers as TextsAndNumbers
use Rattle.mb_rows.specs.Traces.WhatContradicts as WhatContradicts
use Rattle.mb_rows.specs.Traces.WhatContradictsOnceClosed as WhatContradictsOnceClosed
pub mod HandlersAcross
pub mod LongTexts
pub mod Spelling
pub mod TextsAndNumbers
pub mod WhatContradicts
pub mod WhatContradictsOnceClosed

-- all rows of this folder
abbrev pub Rows : Type 0
Rows =
    HandlersAcross.Row ×
    LongTexts.Row ×
    Spelling.Row ×
    TextsAndNumbers.Row ×
    WhatContradicts.Row ×
    WhatContradictsOnceClosed.Row

pub rows : Rows
rows = (
  HandlersAcross.row,
  LongTexts.row,
  Spelling.row,
  TextsAndNumbers.row,
  WhatContradicts.row,
  WhatContradictsOnceClosed.row,
)
