use Rattle.std.proofs.Common.{Bool, ap}
use Rattle.std.specs.Prelude.{if◌then◌else◌}
use Rattle.mb_frames.proofs.Keeping.{leaves-value}
use Rattle.mb_frames.proofs.Steps.{Sure-by, Sure-value}
use Rattle.mb_model.specs.BuiltIns.ObjectMembers.{settle, settle_object}
use Rattle.mb_model.specs.Meaning.{finished}
use Rattle.mb_model.specs.Task.{Answer}
use Rattle.mb_model.specs.Writing.{Does, is_value}
use Rattle.mb_reflect.proofs.Doing.{given}
use Rattle.mb_reflect.proofs.Rows.{not-object}
use Rattle.mb_reflect.proofs.settling.settle.Goals as goal
use Rattle.mb_world.specs.Image.{Image, Resolve, names_of}

pub returns-in_default : goal.returns-in_default
returns-in_default c = record {
  sure = λ d a.
      let home = c.args.home in
      let o = Resolve (names_of d) c.args.x in
      rw c.value.ensures
      (Sure-by home d (settle home.0 c.args.frozen o finished) (is_value o finished) (given c.args.x)
      (λ log. ap (λ (b : Bool). (let p : Does Answer =
      if b then settle_object home.0 o c.args.frozen else is_value o in p) finished (Image d log))
      (not-object (names_of d) c.args.x c.in_default.not-Object))
      (Sure-value home d c.args.x a.holds.0.within));
  leaves = λ d a. rw c.value.ensures (leaves-value d c.args.home c.args.x a.holds.0);
}
