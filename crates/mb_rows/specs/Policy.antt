use Rattle.mb_rows.specs.Policy.AHiddenKeyIsRead as AHiddenKeyIsRead
use Rattle.mb_rows.specs.Policy.AHiddenKeyOfAFrozenObject as AHiddenKeyOfAFrozenObject
use Rattle.mb_rows.specs.Policy.AReadOnlyDesk as AReadOnlyDesk
use Rattle.mb_rows.specs.Policy.ARevokedLabel as ARevokedLabel
use Rattle.mb_rows.specs.Policy.ASubstituteWhileItsKeyIsThere as ASubstituteWhileItsKeyIsThere
use Rattle.mb_rows.specs.Policy.AnEmptyLabel as AnEmptyLabel
use Rattle.mb_rows.specs.Policy.WalksPassLabels as WalksPassLabels
use Rattle.mb_rows.specs.Policy.WhatAHiddenKeyDecides as WhatAHiddenKeyDecides
use Rattle.mb_rows.specs.Policy.WhatASubstituteDecides as WhatASubstituteDecides
use Rattle.mb_rows.specs.Policy.WhatReadOnlyDecides as WhatReadOnlyDecides
pub mod AHiddenKeyIsRead
pub mod AHiddenKeyOfAFrozenObject
pub mod AReadOnlyDesk
pub mod ARevokedLabel
pub mod ASubstituteWhileItsKeyIsThere
pub mod AnEmptyLabel
pub mod WalksPassLabels
pub mod WhatAHiddenKeyDecides
pub mod WhatASubstituteDecides
pub mod WhatReadOnlyDecides

-- all rows of this folder
abbrev pub Rows : Type 0
Rows =
    AHiddenKeyIsRead.Row ×
    AHiddenKeyOfAFrozenObject.Row ×
    AReadOnlyDesk.Row ×
    ARevokedLabel.Row ×
    ASubstituteWhileItsKeyIsThere.Row ×
    AnEmptyLabel.Row ×
    WalksPassLabels.Row ×
    WhatAHiddenKeyDecides.Row ×
    WhatASubstituteDecides.Row ×
    WhatReadOnlyDecides.Row

pub rows : Rows
rows = (
  AHiddenKeyIsRead.row,
  AHiddenKeyOfAFrozenObject.row,
  AReadOnlyDesk.row,
  ARevokedLabel.row,
  ASubstituteWhileItsKeyIsThere.row,
  AnEmptyLabel.row,
  WalksPassLabels.row,
  WhatAHiddenKeyDecides.row,
  WhatASubstituteDecides.row,
  WhatReadOnlyDecides.row,
)
