use Rattle.mb_frames.specs.Holding.{expr_held, reference_held}
use Rattle.mb_frames.specs.Sorts.{AValue}
use Rattle.std.proofs.Common.{ap, sym}
use Rattle.mb_frames.proofs.Passed.{Part-by}
use Rattle.mb_eval_expr.proofs.Referring.{read-found, read-missing}
use Rattle.mb_eval_expr.specs.machine.Uses.{used, use_frame}
use Rattle.mb_model.specs.Meaning.{finished}
use Rattle.mb_model.specs.Nodes.Scopes.{find_binding, read_name}
use Rattle.mb_model.specs.Writing.{◌>>=◌, Does, reference_error}
use Rattle.mb_world.specs.Image.{Image, Resolve, names_of, text_in}
use Rattle.mb_world.specs.Value.{Val}
use Rattle.mb_frames.proofs.Parts.{all-second}
use Rattle.mb_frames.specs.Ready.{MayHold}
use Rattle.mb_eval_expr.proofs.using.get_value.Goals as goal

pub returns-in-Some-clause-row : goal.returns-in-Some-clause-row
returns-in-Some-clause-row c = λ f.
    let d = c.args.w.now in
    let t = text_in (names_of d) c.in-Name.name in
    rw c.in-Name.is (Part-by c.args.home c.used.result d c.used.new.w f f
    ((read_name c.args.home.0 c.args.at.scope.0 t >>= used d c.args.home c.args.next) finished)
    (used d c.args.home c.args.next (Resolve (names_of d) c.in-Some.x) finished)
    (λ log. ap (λ (p : Does Val). (p >>= used d c.args.home c.args.next) finished (Image d log))
    (read-found c.args.home.0 (find_binding (Image d log) c.args.at.scope.0 t) (Resolve (names_of d) c.in-Some.x)
    (sym (c.in-Some.ensures.value log))))
    (c.used.ensures.row f))

pub returns-in-None-clause-row : goal.returns-in-None-clause-row
returns-in-None-clause-row c = λ f.
    let d = c.args.w.now in
    let t = text_in (names_of d) c.in-Name.name in
    rw c.in-Name.is (Part-by c.args.home c.throws.result d c.throws.new.w f f
    ((read_name c.args.home.0 c.args.at.scope.0 t >>= used d c.args.home c.args.next) finished)
    (reference_error c.args.home.0 finished)
    (λ log. ap (λ (p : Does Val). (p >>= used d c.args.home c.args.next) finished (Image d log))
    (read-missing c.args.home.0 (find_binding (Image d log) c.args.at.scope.0 t) (sym (c.in-None.ensures.value log))))
    (c.throws.ensures.part f))

pub returns-in-Place-clause-row : goal.returns-in-Place-clause-row
returns-in-Place-clause-row c = λ f. rw c.in-Place.is (c.get_place.ensures.row f)

pub returns-in-Some-clause-keeps : goal.returns-in-Some-clause-keeps
returns-in-Some-clause-keeps c = λ r i h.
    c.used.ensures.keeps r i (
      c.in-Some.ensures.held c.args.home r h.0,
      all-second (MayHold c.args.w.now c.args.home) (reference_held c.args.from)
          (expr_held (use_frame c.args.next)) h.1.1,
    )

pub returns-in-None-clause-keeps : goal.returns-in-None-clause-keeps
returns-in-None-clause-keeps c = λ r i h. c.throws.ensures.keeps AValue r i tt

pub returns-in-Place-clause-keeps : goal.returns-in-Place-clause-keeps
returns-in-Place-clause-keeps c = λ r i h. c.get_place.ensures.keeps r i (rw c.in-Place.is at h.1.1)
