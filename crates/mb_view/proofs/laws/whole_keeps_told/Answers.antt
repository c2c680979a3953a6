use Rattle.mb_view.proofs.By.{is_text_key, alike-texts}
use Rattle.mb_view.proofs.Kept.{told-kept_whole}
use Rattle.mb_view.proofs.laws.whole_keeps_told.Goals as goal

pub returns : goal.returns
returns g c = λ sort_of entries entry shadow followed view places last told keeps alike. told-kept_whole g.K.PartialEq.eq (is_text_key sort_of) entries entry shadow followed view places last told keeps (alike-texts g.K.PartialEq.eq sort_of view followed alike)
