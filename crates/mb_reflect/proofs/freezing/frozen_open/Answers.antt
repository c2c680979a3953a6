use Rattle.std.proofs.Common.{false}
use Rattle.mb_base.specs.declared.value.Value.TheVariants as v
use Rattle.mb_frames.proofs.HeldLess.{flag-held}
use Rattle.mb_frames.proofs.Keeping.{leaves-value}
use Rattle.mb_reflect.proofs.freezing.frozen_open.Goals as goal

pub returns-then-extensible-clause-leaves : goal.returns-then-extensible-clause-leaves
returns-then-extensible-clause-leaves c = λ d a.
    rw c.value.ensures (leaves-value d c.args.home (v.Bool false) (flag-held d c.args.home false))
