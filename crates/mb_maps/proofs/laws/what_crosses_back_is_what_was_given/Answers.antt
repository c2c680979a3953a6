use Rattle.mb_maps.proofs.Counterparts.{back-is-what-was-given}
use Rattle.mb_maps.proofs.laws.what_crosses_back_is_what_was_given.Goals as goal

pub returns : goal.returns
returns c = back-is-what-was-given
