use Rattle.mb_rows.specs.Turns.AForOf32Units as AForOf32Units
use Rattle.mb_rows.specs.Turns.AForOf33Units as AForOf33Units
use Rattle.mb_rows.specs.Turns.AWalkAfterTheCut as AWalkAfterTheCut
use Rattle.mb_rows.specs.Turns.CallsBetweenSidesRunOut as CallsBetweenSidesRunOut
use Rattle.mb_rows.specs.Turns.CutBeforeALaterCall as CutBeforeALaterCall
use Rattle.mb_rows.specs.Turns.CutBeforeARead as CutBeforeARead
use Rattle.mb_rows.specs.Turns.CutTwice as CutTwice
use Rattle.mb_rows.specs.Turns.ElevenUnitsAreTooFew as ElevenUnitsAreTooFew
use Rattle.mb_rows.specs.Turns.FiveUnitsForAPrint as FiveUnitsForAPrint
use Rattle.mb_rows.specs.Turns.IsArrayAfterTheCut as IsArrayAfterTheCut
use Rattle.mb_rows.specs.Turns.LaterOfTheOtherSide as LaterOfTheOtherSide
use Rattle.mb_rows.specs.Turns.NoUnit as NoUnit
use Rattle.mb_rows.specs.Turns.NothingToDo as NothingToDo
use Rattle.mb_rows.specs.Turns.NothingToDoWithoutUnits as NothingToDoWithoutUnits
use Rattle.mb_rows.specs.Turns.SixUnitsForAPrint as SixUnitsForAPrint
use Rattle.mb_rows.specs.Turns.SpentAmongTheKeys as SpentAmongTheKeys
use Rattle.mb_rows.specs.Turns.TheRightFirst as TheRightFirst
use Rattle.mb_rows.specs.Turns.TwelveUnitsAreEnough as TwelveUnitsAreEnough
use Rattle.mb_rows.specs.Turns.UnitsOfAList as UnitsOfAList
use Rattle.mb_rows.specs.Turns.WhatEachTurnLeft as WhatEachTurnLeft
pub mod AForOf32Units
pub mod AForOf33Units
pub mod AWalkAfterTheCut
pub mod CallsBetweenSidesRunOut
pub mod CutBeforeALaterCall
pub mod CutBeforeARead
pub mod CutTwice
pub mod ElevenUnitsAreTooFew
pub mod FiveUnitsForAPrint
pub mod IsArrayAfterTheCut
pub mod LaterOfTheOtherSide
pub mod NoUnit
pub mod NothingToDo
pub mod NothingToDoWithoutUnits
pub mod SixUnitsForAPrint
pub mod SpentAmongTheKeys
pub mod TheRightFirst
pub mod TwelveUnitsAreEnough
pub mod UnitsOfAList
pub mod WhatEachTurnLeft

-- all rows of this folder
abbrev pub Rows : Type 0
Rows =
    AForOf32Units.Row ×
    AForOf33Units.Row ×
    AWalkAfterTheCut.Row ×
    CallsBetweenSidesRunOut.Row ×
    CutBeforeALaterCall.Row ×
    CutBeforeARead.Row ×
    CutTwice.Row ×
    ElevenUnitsAreTooFew.Row ×
    FiveUnitsForAPrint.Row ×
    IsArrayAfterTheCut.Row ×
    LaterOfTheOtherSide.Row ×
    NoUnit.Row ×
    NothingToDo.Row ×
    NothingToDoWithoutUnits.Row ×
    SixUnitsForAPrint.Row ×
    SpentAmongTheKeys.Row ×
    TheRightFirst.Row ×
    TwelveUnitsAreEnough.Row ×
    UnitsOfAList.Row ×
    WhatEachTurnLeft.Row

pub rows : Rows
rows = (
  AForOf32Units.row,
  AForOf33Units.row,
  AWalkAfterTheCut.row,
  CallsBetweenSidesRunOut.row,
  CutBeforeALaterCall.row,
  CutBeforeARead.row,
  CutTwice.row,
  ElevenUnitsAreTooFew.row,
  FiveUnitsForAPrint.row,
  IsArrayAfterTheCut.row,
  LaterOfTheOtherSide.row,
  NoUnit.row,
  NothingToDo.row,
  NothingToDoWithoutUnits.row,
  SixUnitsForAPrint.row,
  SpentAmongTheKeys.row,
  TheRightFirst.row,
  TwelveUnitsAreEnough.row,
  UnitsOfAList.row,
  WhatEachTurnLeft.row,
)
