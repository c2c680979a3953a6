use Rattle.mb_model.proofs.Entries.{method-entered, method-own}
use Rattle.mb_model.proofs.laws.entries_of_methods.Goals as goal

pub returns-clause-foreign : goal.returns-clause-foreign
returns-clause-foreign c s v m o g e = method-entered s v m o g e

pub returns-clause-own : goal.returns-clause-own
returns-clause-own c s v m o g e = method-own s v m o g e
