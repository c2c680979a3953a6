use Rattle.std.proofs.Common.{◌∙◌, Ok, ap, refl}
use Rattle.mb_base.specs.declared.value.Value.TheVariants as v
use Rattle.mb_call.proofs.Calling.{calls-none, keeps-entered, kind-is, part-entered}
use Rattle.mb_call.proofs.Looking.{part-sure}
use Rattle.mb_call.proofs.calls.call.Goals as goal
use Rattle.mb_frames.proofs.Calling.{call-runs}
use Rattle.mb_frames.proofs.Keeping.{keeps-same}
use Rattle.mb_frames.proofs.Passed.{Part-by}
use Rattle.mb_frames.proofs.Steps.{Sure-next}
use Rattle.mb_frames.specs.Resolved.{task_in, values_in}
use Rattle.mb_frames.specs.Sorts.{AValue}
use Rattle.mb_frames.specs.declared.frame.Move.TheVariants as move
use Rattle.mb_frames.specs.declared.task.Task.TheVariants as task
use Rattle.mb_model.specs.Meaning.{finished}
use Rattle.mb_model.specs.Objects.Methods.{call_kind}
use Rattle.mb_model.specs.Task.{Answer}
use Rattle.mb_model.specs.Writing.{Does, answer, type_error}
use Rattle.mb_world.specs.Graph.{Kind}
use Rattle.mb_world.specs.Image.{Image, Resolve, names_of, object_in}
use Rattle.mb_world.specs.declared.cell.CellKind.TheVariants.{BuiltIn, Function, Revoker}

pub returns-in-Function-clause-part : goal.returns-in-Function-clause-part
returns-in-Function-clause-part c = λ viewer f t e.
    rw c.enter.ensures
    (part-entered c.args.w.now c.args.object c.cell.result.now c.cell.ensures.value c.args.home c.args.this
    c.args.arguments c.requires.acts.holds t (Function c.in-Function.field-0) e c.in-Function.is refl f)

pub returns-in-Function-clause-keeps : goal.returns-in-Function-clause-keeps
returns-in-Function-clause-keeps c =
    rw c.enter.ensures
    (keeps-entered c.args.w.now c.args.object c.cell.result.now c.cell.ensures.value c.args.home c.args.this
    c.args.arguments c.requires.acts.holds c.requires.acts.ready (rw c.in-Function.is refl) (rw c.in-Function.is refl)
    (rw (c.cell.ensures.value, c.in-Function.is) refl))

pub returns-in-Revoker-clause-part : goal.returns-in-Revoker-clause-part
returns-in-Revoker-clause-part c = λ viewer f t e.
    rw c.enter-in-Revoker.ensures
    (part-entered c.args.w.now c.args.object c.cell.result.now c.cell.ensures.value c.args.home c.args.this
    c.args.arguments c.requires.acts.holds t (Revoker c.in-Revoker.field-0) e c.in-Revoker.is refl f)

pub returns-in-Revoker-clause-keeps : goal.returns-in-Revoker-clause-keeps
returns-in-Revoker-clause-keeps c =
    rw c.enter-in-Revoker.ensures
    (keeps-entered c.args.w.now c.args.object c.cell.result.now c.cell.ensures.value c.args.home c.args.this
    c.args.arguments c.requires.acts.holds c.requires.acts.ready (rw c.in-Revoker.is refl) (rw c.in-Revoker.is refl)
    (rw (c.cell.ensures.value, c.in-Revoker.is) refl))

pub returns-in-BuiltIn-clause-part : goal.returns-in-BuiltIn-clause-part
returns-in-BuiltIn-clause-part c = λ viewer f t e.
    let d = c.args.w.now in
    let home = c.args.home in
    let h = c.requires.acts.holds in
    let run = task.Run c.in-BuiltIn.place c.args.this c.args.arguments v.Undefined in
    rw (kind-is d c.args.object c.cell.result.now c.cell.ensures.value t (BuiltIn c.in-BuiltIn.place) e c.in-BuiltIn.is)
    (part-sure d home (move.Next run) (answer (task_in (names_of d) home.0 run))
    (Sure-next home d run (tt, (h.1.0.within, (h.1.1.0.within, (tt, tt))))) f)

pub returns-in-BuiltIn-clause-keeps : goal.returns-in-BuiltIn-clause-keeps
returns-in-BuiltIn-clause-keeps c =
    let d = c.args.w.now in
    let home = c.args.home in
    let a = c.requires.acts in
    keeps-same home AValue (Ok (move.Next (task.Run c.in-BuiltIn.place c.args.this c.args.arguments v.Undefined))) d
    a.ready
    (call-runs d home a.ready c.args.object c.cell.result.now c.cell.ensures.value c.in-BuiltIn.place c.in-BuiltIn.is
    c.args.this c.args.arguments (a.holds.1.0, (a.holds.1.1.0, tt)))

pub returns-in_default : goal.returns-in_default
returns-in_default c =
    let d = c.args.w.now in
    let n = names_of d in
    let home = c.args.home in
    let o = object_in n c.args.object in
    let this = Resolve n c.args.this in
    let vs = values_in n c.args.arguments in
    let x = c.cell.result.now in
    record {
      part = λ viewer f t e. Part-by home c.type_error.result d c.type_error.new.w f f
          (call_kind home.0 o this vs t.kind finished) (type_error home.0 finished)
          (λ log. ap (λ (y : Kind). call_kind home.0 o this vs y finished (Image d log))
          (kind-is d c.args.object x c.cell.ensures.value t x.kind e refl)
          ∙ ap (λ (p : Does Answer). p finished (Image d log))
          (calls-none n x.slots x.kind c.in_default.not-Function c.in_default.not-Revoker c.in_default.not-BuiltIn
          home.0 o
          this vs))
          (c.type_error.ensures.part f);
      keeps = c.type_error.ensures.keeps AValue;
    }
