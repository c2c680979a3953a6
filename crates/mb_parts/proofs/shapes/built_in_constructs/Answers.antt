use Rattle.std.proofs.Common.{◌∙◌}
use Rattle.mb_parts.proofs.Shaping.{table-is}
use Rattle.mb_world.specs.Standard.{constructs}
use Rattle.mb_parts.proofs.shapes.built_in_constructs.Goals as goal

pub returns : goal.returns
returns c = c.marked.ensures ∙ table-is constructs c.args.place
