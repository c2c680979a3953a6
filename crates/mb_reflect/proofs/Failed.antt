-- Prototypes of errors, and errors that are made.
use Rattle.std.proofs.Common.{◌≡◌, refl}
use Rattle.mb_frames.specs.Failing.{error_place}
use Rattle.mb_world.specs.Standard.{error_prototype}
use Rattle.mb_world.specs.Value.{BuiltIn}
use Rattle.mb_world.specs.declared.cell.ErrorKind.{ErrorKind}
use Rattle.mb_world.specs.declared.cell.ErrorKind.TheVariants as k

pub error-place : (kind : ErrorKind) → error_prototype kind ≡ BuiltIn (error_place kind)
error-place k.Error = refl
error-place k.TypeError = refl
error-place k.RangeError = refl
error-place k.ReferenceError = refl
