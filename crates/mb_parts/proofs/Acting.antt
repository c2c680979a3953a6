-- The sides of a ready world act.
use Rattle.std.proofs.Common.{None, arith, refl, ◌<◌, ◌≢◌}
use Rattle.mb_base.specs.declared.value.Side.{Side}
use Rattle.mb_frames.proofs.Forms.{ready-runs}
use Rattle.mb_frames.specs.Failing.{error_place}
use Rattle.mb_frames.specs.Ready.{IsReady}
use Rattle.mb_parts.specs.Standing.{Acts}
use Rattle.mb_world.specs.Data.{Data}
use Rattle.mb_world.specs.Intrinsics.{intrinsic}
use Rattle.mb_world.specs.declared.cell.ErrorKind.{ErrorKind}
use Rattle.mb_world.specs.declared.cell.ErrorKind.TheVariants as k

pub ready-acts : (d : Data) (home : Side) → IsReady d → home.0 < d.sides → Acts d home
ready-acts d home r i = record {
  side = omega (arith, i, r.formed.sides.1);
  ids = r.ids;
  runs = ready-runs d home r i;
  built_ins = λ place h. rw (r.formed.built_ins home place i h).found refl;
}

-- the table has the prototype of each kind of errors
pub prototype-there : (kind : ErrorKind) → intrinsic (error_place kind) ≢ None
prototype-there k.Error = λ e. cc
prototype-there k.TypeError = λ e. cc
prototype-there k.RangeError = λ e. cc
prototype-there k.ReferenceError = λ e. cc
