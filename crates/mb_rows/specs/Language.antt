use Rattle.mb_rows.specs.Language.AFunctionCallsItself as AFunctionCallsItself
use Rattle.mb_rows.specs.Language.ALengthIsCutToAFixedElement as ALengthIsCutToAFixedElement
use Rattle.mb_rows.specs.Language.ALengthThatIsFixedLate as ALengthThatIsFixedLate
use Rattle.mb_rows.specs.Language.ANameThatNothingBinds as ANameThatNothingBinds
use Rattle.mb_rows.specs.Language.AShorterLengthThatStays as AShorterLengthThatStays
use Rattle.mb_rows.specs.Language.ASum as ASum
use Rattle.mb_rows.specs.Language.ATextAndANumber as ATextAndANumber
use Rattle.mb_rows.specs.Language.ATextIsSpelled as ATextIsSpelled
use Rattle.mb_rows.specs.Language.AWholeNumberHasALimit as AWholeNumberHasALimit
use Rattle.mb_rows.specs.Language.Constructors as Constructors
use Rattle.mb_rows.specs.Language.EachSidePrints as EachSidePrints
use Rattle.mb_rows.specs.Language.EachTurnOfAForHasItsScope as EachTurnOfAForHasItsScope
use Rattle.mb_rows.specs.Language.ErrorsOfOperators as ErrorsOfOperators
use Rattle.mb_rows.specs.Language.FinallyAfterEachWayOut as FinallyAfterEachWayOut
use Rattle.mb_rows.specs.Language.FormsOfATree as FormsOfATree
use Rattle.mb_rows.specs.Language.InnerDeclarations as InnerDeclarations
use Rattle.mb_rows.specs.Language.KeysInOrder as KeysInOrder
use Rattle.mb_rows.specs.Language.Operators as Operators
use Rattle.mb_rows.specs.Language.TextsInOrder as TextsInOrder
use Rattle.mb_rows.specs.Language.UncaughtPrimitives as UncaughtPrimitives
use Rattle.mb_rows.specs.Language.UncaughtThrows as UncaughtThrows
pub mod AFunctionCallsItself
pub mod ALengthIsCutToAFixedElement
pub mod ALengthThatIsFixedLate
pub mod ANameThatNothingBinds
pub mod AShorterLengthThatStays
pub mod ASum
pub mod ATextAndANumber
pub mod ATextIsSpelled
pub mod AWholeNumberHasALimit
pub mod Constructors
pub mod EachSidePrints
pub mod EachTurnOfAForHasItsScope
pub mod ErrorsOfOperators
pub mod FinallyAfterEachWayOut
pub mod FormsOfATree
pub mod InnerDeclarations
pub mod KeysInOrder
pub mod Operators
pub mod TextsInOrder
pub mod UncaughtPrimitives
pub mod UncaughtThrows

-- all rows of this folder
abbrev pub Rows : Type 0
Rows =
    AFunctionCallsItself.Row ×
    ALengthIsCutToAFixedElement.Row ×
    ALengthThatIsFixedLate.Row ×
    ANameThatNothingBinds.Row ×
    AShorterLengthThatStays.Row ×
    ASum.Row ×
    ATextAndANumber.Row ×
    ATextIsSpelled.Row ×
    AWholeNumberHasALimit.Row ×
    Constructors.Row ×
    EachSidePrints.Row ×
    EachTurnOfAForHasItsScope.Row ×
    ErrorsOfOperators.Row ×
    FinallyAfterEachWayOut.Row ×
    FormsOfATree.Row ×
    InnerDeclarations.Row ×
    KeysInOrder.Row ×
    Operators.Row ×
    TextsInOrder.Row ×
    UncaughtPrimitives.Row ×
    UncaughtThrows.Row

pub rows : Rows
rows = (
  AFunctionCallsItself.row,
  ALengthIsCutToAFixedElement.row,
  ALengthThatIsFixedLate.row,
  ANameThatNothingBinds.row,
  AShorterLengthThatStays.row,
  ASum.row,
  ATextAndANumber.row,
  ATextIsSpelled.row,
  AWholeNumberHasALimit.row,
  Constructors.row,
  EachSidePrints.row,
  EachTurnOfAForHasItsScope.row,
  ErrorsOfOperators.row,
  FinallyAfterEachWayOut.row,
  FormsOfATree.row,
  InnerDeclarations.row,
  KeysInOrder.row,
  Operators.row,
  TextsInOrder.row,
  UncaughtPrimitives.row,
  UncaughtThrows.row,
)
