use Rattle.mb_maps.proofs.Keeping.{formed-crossed}
use Rattle.mb_maps.proofs.laws.formed_worlds_stay_so.Goals as goal

pub returns : goal.returns
returns g c = formed-crossed g.F.Forms.is_program g.F.Forms.are_rules g.F.Forms.is_entry
