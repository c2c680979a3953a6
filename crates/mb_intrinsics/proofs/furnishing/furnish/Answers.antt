use Rattle.std.proofs.Common.{ap, sym, ◌∙◌}
use Rattle.mb_frames.specs.Failing.{HasItsBuiltIns}
use Rattle.mb_intrinsics.proofs.Homes.{after-sides, no-answer, on-ok}
use Rattle.mb_intrinsics.proofs.Standing.{furnished-built-ins}
use Rattle.mb_intrinsics.specs.Furnished.{IsFurnished}
use Rattle.mb_world.specs.Data.{Data}
use Rattle.mb_intrinsics.proofs.furnishing.furnish.Goals as goal
use Rattle.mb_intrinsics.proofs.furnishing.furnish.Goals.{then-is_err, else-is_err}

pub returns-clause-furnished : goal.returns-clause-furnished
returns-clause-furnished c = elim c.if-is_err.branch [
  | then-is_err w ↦ no-answer c.add_all-added.result (IsFurnished c.args.w.now c.args.sides c.if-is_err.w)
      (sym c.is_err.ensures.value ∙ w.if-is_err.true)
  | else-is_err w ↦ on-ok c.add_all-added.result
      (after-sides c.args.w.now c.set_sides.new.self c.add_all-added.new.w c.if-is_err.w c.args.sides
      c.set_sides.ensures w.w-is)
      (c.add_all-added.ensures.furnished (ap (λ (d : Data). d.sides) c.set_sides.ensures))
]

pub returns-clause-built_ins : goal.returns-clause-built_ins
returns-clause-built_ins c =
    on-ok c.add_all-added.result (furnished-built-ins c.args.w.now c.if-is_err.w c.args.sides)
    (returns-clause-furnished c)
