use Rattle.mb_text.proofs.WithText.{one_place}
use Rattle.mb_text.proofs.texts.equal_texts_have_equal_ids.Goals as goal

pub returns : goal.returns
returns c = one_place
