use Rattle.mb_model.proofs.Tested.{test-tells-lawful}
use Rattle.mb_model.proofs.laws.what_passes_the_test_is_lawful.Goals as goal

pub returns : goal.returns
returns c = test-tells-lawful
