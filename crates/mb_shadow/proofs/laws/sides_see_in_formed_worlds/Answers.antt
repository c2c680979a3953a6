use Rattle.mb_shadow.proofs.Keeping.{formed-can-see}
use Rattle.mb_shadow.proofs.laws.sides_see_in_formed_worlds.Goals as goal

pub returns : goal.returns
returns g c = formed-can-see g.F.Forms.is_program g.F.Forms.are_rules g.F.Forms.is_entry
