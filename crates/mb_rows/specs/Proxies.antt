use Rattle.mb_rows.specs.Proxies.ABrokenRuleIsTheOwnersError as ABrokenRuleIsTheOwnersError
use Rattle.mb_rows.specs.Proxies.AForeignHandler as AForeignHandler
use Rattle.mb_rows.specs.Proxies.AForeignTarget as AForeignTarget
use Rattle.mb_rows.specs.Proxies.AFrozenValueIsKept as AFrozenValueIsKept
use Rattle.mb_rows.specs.Proxies.AGetterThroughAProxy as AGetterThroughAProxy
use Rattle.mb_rows.specs.Proxies.ARevokedForeignProxy as ARevokedForeignProxy
use Rattle.mb_rows.specs.Proxies.ATrapAnswersForAForeignProxy as ATrapAnswersForAForeignProxy
use Rattle.mb_rows.specs.Proxies.AWalkEndsAtAProxy as AWalkEndsAtAProxy
use Rattle.mb_rows.specs.Proxies.ErrorsOfTheOwner as ErrorsOfTheOwner
use Rattle.mb_rows.specs.Proxies.NoProxyOfAForeignProxy as NoProxyOfAForeignProxy
use Rattle.mb_rows.specs.Proxies.ReadsInOrder as ReadsInOrder
use Rattle.mb_rows.specs.Proxies.RulesOfDefinitions as RulesOfDefinitions
use Rattle.mb_rows.specs.Proxies.RulesOfDefinitionsAcross as RulesOfDefinitionsAcross
use Rattle.mb_rows.specs.Proxies.RulesOfDescriptors as RulesOfDescriptors
use Rattle.mb_rows.specs.Proxies.RulesOfDescriptorsAcross as RulesOfDescriptorsAcross
use Rattle.mb_rows.specs.Proxies.RulesOfExtensibility as RulesOfExtensibility
use Rattle.mb_rows.specs.Proxies.RulesOfKeys as RulesOfKeys
use Rattle.mb_rows.specs.Proxies.RulesOfKeysAcross as RulesOfKeysAcross
use Rattle.mb_rows.specs.Proxies.RulesOfPrototypes as RulesOfPrototypes
use Rattle.mb_rows.specs.Proxies.RulesOfReadsAndWrites as RulesOfReadsAndWrites
use Rattle.mb_rows.specs.Proxies.RulesOfReadsAndWritesAcross as RulesOfReadsAndWritesAcross
use Rattle.mb_rows.specs.Proxies.TheViewOfTheOwner as TheViewOfTheOwner
use Rattle.mb_rows.specs.Proxies.WhoMakesTheErrors as WhoMakesTheErrors
pub mod ABrokenRuleIsTheOwnersError
pub mod AForeignHandler
pub mod AForeignTarget
pub mod AFrozenValueIsKept
pub mod AGetterThroughAProxy
pub mod ARevokedForeignProxy
pub mod ATrapAnswersForAForeignProxy
pub mod AWalkEndsAtAProxy
pub mod ErrorsOfTheOwner
pub mod NoProxyOfAForeignProxy
pub mod ReadsInOrder
pub mod RulesOfDefinitions
pub mod RulesOfDefinitionsAcross
pub mod RulesOfDescriptors
pub mod RulesOfDescriptorsAcross
pub mod RulesOfExtensibility
pub mod RulesOfKeys
pub mod RulesOfKeysAcross
pub mod RulesOfPrototypes
pub mod RulesOfReadsAndWrites
pub mod RulesOfReadsAndWritesAcross
pub mod TheViewOfTheOwner
pub mod WhoMakesTheErrors

-- all rows of this folder
abbrev pub Rows : Type 0
Rows =
    ABrokenRuleIsTheOwnersError.Row ×
    AForeignHandler.Row ×
    AForeignTarget.Row ×
    AFrozenValueIsKept.Row ×
    AGetterThroughAProxy.Row ×
    ARevokedForeignProxy.Row ×
    ATrapAnswersForAForeignProxy.Row ×
    AWalkEndsAtAProxy.Row ×
    ErrorsOfTheOwner.Row ×
    NoProxyOfAForeignProxy.Row ×
    ReadsInOrder.Row ×
    RulesOfDefinitions.Row ×
    RulesOfDefinitionsAcross.Row ×
    RulesOfDescriptors.Row ×
    RulesOfDescriptorsAcross.Row ×
    RulesOfExtensibility.Row ×
    RulesOfKeys.Row ×
    RulesOfKeysAcross.Row ×
    RulesOfPrototypes.Row ×
    RulesOfReadsAndWrites.Row ×
    RulesOfReadsAndWritesAcross.Row ×
    TheViewOfTheOwner.Row ×
    WhoMakesTheErrors.Row

pub rows : Rows
rows = (
  ABrokenRuleIsTheOwnersError.row,
  AForeignHandler.row,
  AForeignTarget.row,
  AFrozenValueIsKept.row,
  AGetterThroughAProxy.row,
  ARevokedForeignProxy.row,
  ATrapAnswersForAForeignProxy.row,
  AWalkEndsAtAProxy.row,
  ErrorsOfTheOwner.row,
  NoProxyOfAForeignProxy.row,
  ReadsInOrder.row,
  RulesOfDefinitions.row,
  RulesOfDefinitionsAcross.row,
  RulesOfDescriptors.row,
  RulesOfDescriptorsAcross.row,
  RulesOfExtensibility.row,
  RulesOfKeys.row,
  RulesOfKeysAcross.row,
  RulesOfPrototypes.row,
  RulesOfReadsAndWrites.row,
  RulesOfReadsAndWritesAcross.row,
  TheViewOfTheOwner.row,
  WhoMakesTheErrors.row,
)
