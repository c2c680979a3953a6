use Rattle.mb_view.proofs.By.{is_text_key, alike-texts}
use Rattle.mb_view.proofs.Alike.{alike-holds, alike-passes}
use Rattle.mb_view.proofs.laws.alike_agrees.Goals as goal

pub returns : goal.returns
returns g c = λ sort_of shadow view alike. let by = alike-texts g.K.PartialEq.eq sort_of view shadow alike in (alike-holds g.K.PartialEq.eq (is_text_key sort_of) view shadow by, alike-passes g.K.PartialEq.eq (is_text_key sort_of) view shadow by g.V.PartialEq.eq g.V.Slot.undefined_value)
