-- A frame gives what its own row does.
use Rattle.std.proofs.Common.{List, Option, refl, ℕ, ◌≡◌}
use Rattle.mb_engine.specs.machine.Advancing.{meant}
use Rattle.mb_frames.specs.Resolved.{done_in, task_in}
use Rattle.mb_frames.specs.Standing.{forms_at, frame_gives, frame_row, hands, row_of, under_way}
use Rattle.mb_frames.specs.declared.frame.Frame.{Frame}
use Rattle.mb_frames.specs.declared.frame.Frame.TheVariants as x
use Rattle.mb_frames.specs.declared.machine.Waiting.{Waiting}
use Rattle.mb_frames.specs.declared.task.Outcome.{Outcome as FrameOutcome}
use Rattle.mb_model.proofs.Engine.{given-row, means-charged_row}
use Rattle.mb_model.specs.Engine.{exec}
use Rattle.mb_model.specs.Meaning.{row}
use Rattle.mb_model.specs.Task.{Outcome}
use Rattle.mb_world.specs.Data.{Data}
use Rattle.mb_world.specs.Form.{Form}
use Rattle.mb_world.specs.Graph.{Graph}
use Rattle.mb_world.specs.Image.{Names, names_of}

frame-own : (n : Names) (fs : List Form) (s : ℕ) (y : Frame) (o : Outcome) (k : Graph) (f : ℕ)
    → frame_gives meant n fs s y o k f ≡ exec meant (under_way y) (frame_row n fs s y o k) f
frame-own n fs s (x.Begin y) o k f = means-charged_row row (task_in n s y) k f
frame-own n fs s (x.Begun y) o k f = refl
frame-own n fs s (x.Anew y) o k f = given-row row (task_in n s y) k f
frame-own n fs s (x.Expr y) o k f = refl
frame-own n fs s (x.Stmt y) o k f = refl
frame-own n fs s (x.Call y) o k f = refl
frame-own n fs s (x.Reflect y) o k f = refl
frame-own n fs s (x.Array y) o k f = refl
frame-own n fs s (x.Proxy y) o k f = refl
frame-own n fs s (x.Collect y) o k f = refl
frame-own n fs s (x.Membrane y) o k f = refl
frame-own n fs s (x.Entry y) o k f = refl

pub hands-own : (d : Data) (y : Waiting) (done : Option FrameOutcome) (k : Graph) (f : ℕ)
    → hands meant d y (done_in (names_of d) done) k f ≡ exec meant (under_way y.frame) (row_of d y done k) f
hands-own d y done k f =
    frame-own (names_of d) (forms_at d y.home) y.home.0 y.frame (done_in (names_of d) done) k f
