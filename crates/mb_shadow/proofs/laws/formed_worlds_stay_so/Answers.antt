use Rattle.mb_shadow.proofs.Keeping.{formed-follows}
use Rattle.mb_shadow.proofs.laws.formed_worlds_stay_so.Goals as goal

pub returns : goal.returns
returns g c = formed-follows g.F.Forms.is_program g.F.Forms.are_rules g.F.Forms.is_entry
