use Rattle.mb_model.proofs.Entries.{access-entered, access-own}
use Rattle.mb_model.proofs.laws.entries_of_accesses.Goals as goal

pub returns-clause-foreign : goal.returns-clause-foreign
returns-clause-foreign c s p x q g e = access-entered s p x q g e

pub returns-clause-own : goal.returns-clause-own
returns-clause-own c s p x q g e = access-own s p x q g e
