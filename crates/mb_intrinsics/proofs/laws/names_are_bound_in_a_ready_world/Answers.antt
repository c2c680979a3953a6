use Rattle.mb_intrinsics.proofs.Bound.{names-become, names-changed}
use Rattle.std.proofs.Common.{refl}
use Rattle.mb_intrinsics.proofs.laws.names_are_bound_in_a_ready_world.Goals as goal

pub returns-clause-changed : goal.returns-clause-changed
returns-clause-changed c d side desk r takes held = names-changed d side desk r takes held

pub returns-clause-image : goal.returns-clause-image
returns-clause-image c d side desk r takes within = names-become d side desk r takes within

pub returns-clause-globals : goal.returns-clause-globals
returns-clause-globals c = refl
