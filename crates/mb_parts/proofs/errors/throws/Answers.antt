use Rattle.mb_frames.specs.Failing.{error_place}
use Rattle.mb_parts.proofs.Acting.{prototype-there}
use Rattle.mb_parts.proofs.errors.throws.Goals as goal

pub fail-requires-clause-prototype : goal.fail-requires-clause-prototype
fail-requires-clause-prototype c = c.requires.built_ins (error_place c.args.kind) (prototype-there c.args.kind)
