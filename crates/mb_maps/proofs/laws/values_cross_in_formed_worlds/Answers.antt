use Rattle.mb_maps.proofs.Keeping.{formed-can-cross}
use Rattle.mb_maps.proofs.laws.values_cross_in_formed_worlds.Goals as goal

pub returns : goal.returns
returns g c = formed-can-cross g.F.Forms.is_program g.F.Forms.are_rules g.F.Forms.is_entry
