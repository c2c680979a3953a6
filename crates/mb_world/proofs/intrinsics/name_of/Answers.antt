use Rattle.std.proofs.Common.{sym, ◌∙◌}
use Rattle.std.proofs.lemmas.Option.{slice_get-map}
use Rattle.mb_world.specs.Intrinsics.{intrinsics, name_of}
use Rattle.mb_world.proofs.intrinsics.name_of.Goals as goal

pub returns : goal.returns
returns c = sym (slice_get-map name_of intrinsics c.args.place) ∙ c.name_at.ensures
