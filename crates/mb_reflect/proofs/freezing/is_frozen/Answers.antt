use Rattle.std.proofs.Common.{Bool, ap, true}
use Rattle.std.specs.Prelude.{if◌then◌else◌}
use Rattle.mb_base.specs.declared.value.Value.TheVariants as v
use Rattle.mb_frames.proofs.HeldLess.{flag-held}
use Rattle.mb_frames.proofs.Keeping.{leaves-value}
use Rattle.mb_frames.proofs.Steps.{Sure-by, Sure-value}
use Rattle.mb_model.specs.BuiltIns.ObjectMembers.{frozen_object, is_frozen}
use Rattle.mb_model.specs.Meaning.{finished}
use Rattle.mb_model.specs.Task.{Answer}
use Rattle.mb_model.specs.Writing.{Does, truth}
use Rattle.mb_reflect.proofs.Doing.{given}
use Rattle.mb_reflect.proofs.Rows.{not-object}
use Rattle.mb_reflect.proofs.freezing.is_frozen.Goals as goal
use Rattle.mb_world.specs.Image.{Image, Resolve, names_of}

pub returns-in_default : goal.returns-in_default
returns-in_default c = record {
  sure = λ d a.
      let home = c.args.home in
      let o = Resolve (names_of d) c.args.x in
      rw c.value.ensures
      (Sure-by home d (is_frozen home.0 o finished) (truth true finished) (given (v.Bool true))
      (λ log. ap (λ (b : Bool). (let p : Does Answer = if b then frozen_object home.0 o else truth true in p)
      finished (Image d log))
      (not-object (names_of d) c.args.x c.in_default.not-Object))
      (Sure-value home d (v.Bool true) tt));
  leaves = λ d a. rw c.value.ensures (leaves-value d c.args.home (v.Bool true) (flag-held d c.args.home true));
}
