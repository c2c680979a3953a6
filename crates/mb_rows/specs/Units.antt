use Rattle.mb_rows.specs.Units.OfADoWhile as OfADoWhile
use Rattle.mb_rows.specs.Units.OfAForWithoutLet as OfAForWithoutLet
use Rattle.mb_rows.specs.Units.OfAForeignPush as OfAForeignPush
use Rattle.mb_rows.specs.Units.OfAFunctionsOwnName as OfAFunctionsOwnName
use Rattle.mb_rows.specs.Units.OfANewTarget as OfANewTarget
use Rattle.mb_rows.specs.Units.OfAPrint as OfAPrint
use Rattle.mb_rows.specs.Units.OfAProxysKeys as OfAProxysKeys
use Rattle.mb_rows.specs.Units.OfATrap as OfATrap
use Rattle.mb_rows.specs.Units.OfATry as OfATry
use Rattle.mb_rows.specs.Units.OfAWalk as OfAWalk
use Rattle.mb_rows.specs.Units.OfArgumentsFromAList as OfArgumentsFromAList
use Rattle.mb_rows.specs.Units.OfConstructors as OfConstructors
use Rattle.mb_rows.specs.Units.OfFreezing as OfFreezing
use Rattle.mb_rows.specs.Units.OfHiddenKeys as OfHiddenKeys
use Rattle.mb_rows.specs.Units.OfInnerDeclarations as OfInnerDeclarations
use Rattle.mb_rows.specs.Units.OfInstanceof as OfInstanceof
use Rattle.mb_rows.specs.Units.OfListedKeys as OfListedKeys
use Rattle.mb_rows.specs.Units.OfLongTexts as OfLongTexts
use Rattle.mb_rows.specs.Units.OfPrintAndJoin as OfPrintAndJoin
pub mod OfADoWhile
pub mod OfAForWithoutLet
pub mod OfAForeignPush
pub mod OfAFunctionsOwnName
pub mod OfANewTarget
pub mod OfAPrint
pub mod OfAProxysKeys
pub mod OfATrap
pub mod OfATry
pub mod OfAWalk
pub mod OfArgumentsFromAList
pub mod OfConstructors
pub mod OfFreezing
pub mod OfHiddenKeys
pub mod OfInnerDeclarations
pub mod OfInstanceof
pub mod OfListedKeys
pub mod OfLongTexts
pub mod OfPrintAndJoin

-- all rows of this folder
abbrev pub Rows : Type 0
Rows =
    OfADoWhile.Row ×
    OfAForWithoutLet.Row ×
    OfAForeignPush.Row ×
    OfAFunctionsOwnName.Row ×
    OfANewTarget.Row ×
    OfAPrint.Row ×
    OfAProxysKeys.Row ×
    OfATrap.Row ×
    OfATry.Row ×
    OfAWalk.Row ×
    OfArgumentsFromAList.Row ×
    OfConstructors.Row ×
    OfFreezing.Row ×
    OfHiddenKeys.Row ×
    OfInnerDeclarations.Row ×
    OfInstanceof.Row ×
    OfListedKeys.Row ×
    OfLongTexts.Row ×
    OfPrintAndJoin.Row

pub rows : Rows
rows = (
  OfADoWhile.row,
  OfAForWithoutLet.row,
  OfAForeignPush.row,
  OfAFunctionsOwnName.row,
  OfANewTarget.row,
  OfAPrint.row,
  OfAProxysKeys.row,
  OfATrap.row,
  OfATry.row,
  OfAWalk.row,
  OfArgumentsFromAList.row,
  OfConstructors.row,
  OfFreezing.row,
  OfHiddenKeys.row,
  OfInnerDeclarations.row,
  OfInstanceof.row,
  OfListedKeys.row,
  OfLongTexts.row,
  OfPrintAndJoin.row,
)
