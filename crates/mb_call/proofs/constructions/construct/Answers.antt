use Rattle.std.proofs.Common.{◌≡◌, ◌∙◌, ◌∷◌, Ok, ap, refl, subst, sym}
use Rattle.mb_base.specs.declared.value.Side.{Side}
use Rattle.mb_base.specs.declared.value.Value.TheVariants as v
use Rattle.mb_call.proofs.Calling.{constructs-function, constructs-none, kind-is, owner-else}
use Rattle.mb_call.proofs.Owners.{acts-owner, side-is}
use Rattle.mb_call.proofs.constructions.construct.Goals as goal
use Rattle.mb_call.specs.Owners.{owner_by}
use Rattle.mb_frames.proofs.Calling.{construct-runs}
use Rattle.mb_frames.proofs.HeldCells.{cell-held, reads-home}
use Rattle.mb_frames.proofs.HeldLess.{as-function, text-if-held}
use Rattle.mb_frames.proofs.Keeping.{keeps-same}
use Rattle.mb_frames.proofs.Passed.{Part-by, Part-sure}
use Rattle.mb_frames.proofs.Steps.{Sure-next}
use Rattle.mb_frames.specs.Held.{HeldObject}
use Rattle.mb_frames.specs.Holding.{method_held}
use Rattle.mb_frames.specs.Passing.{Part}
use Rattle.mb_frames.specs.Ready.{KeepsBy}
use Rattle.mb_frames.specs.Resolved.{task_in, values_in}
use Rattle.mb_frames.specs.Sorts.{AnObject}
use Rattle.mb_frames.specs.declared.frame.Move.TheVariants as move
use Rattle.mb_frames.specs.declared.task.Method.TheVariants as method
use Rattle.mb_frames.specs.declared.task.Task.TheVariants as task
use Rattle.mb_model.specs.Meaning.{finished}
use Rattle.mb_model.specs.Objects.Methods.{construct_kind}
use Rattle.mb_model.specs.Task.{Answer}
use Rattle.mb_model.specs.Writing.{Does, answer, type_error}
use Rattle.mb_world.specs.Graph.{Kind}
use Rattle.mb_world.specs.Image.{Image, Resolve, names_of, object_in}
use Rattle.mb_world.specs.declared.cell.CellKind.TheVariants.{BuiltIn}

pub get_prototype-requires-clause-acts : goal.get_prototype-requires-clause-acts
get_prototype-requires-clause-acts c =
    let d = c.args.w.now in
    let home = c.args.home in
    let x = c.cell-cell.result.now in
    let a = c.requires.acts in
    let o = reads-home d home c.args.object x a.holds.0 c.cell-cell.ensures.value in
    let b = acts-owner d home c.args.object x a.ready c.cell-cell.ensures.value o c.args.side
    (HeldObject c.args.object ∷ method_held c.args.object (method.Construct c.args.arguments c.args.target))
    c.requires.side (refl, (refl, (refl, (refl, tt)))) a in
    let f = as-function d c.args.side c.args.object b.holds.0 (rw (c.cell-cell.ensures.value, c.in-Function.is) refl) in
    record {
      ready = b.ready;
      side = b.side;
      holds = (
        b.holds.1.1.1.0,
        (
          text-if-held d c.args.side x.label
              (cell-held d a.ready c.args.object x c.cell-cell.ensures.value home o).label.within,
          (b.holds.1.0, (f, tt)),
        ),
      );
    }

pub get_prototype-requires-clause-target : goal.get_prototype-requires-clause-target
get_prototype-requires-clause-target c =
    let d = c.args.w.now in
    let home = c.args.home in
    let x = c.cell-cell.result.now in
    let a = c.requires.acts in
    (acts-owner d home c.args.object x a.ready c.cell-cell.ensures.value
    (reads-home d home c.args.object x a.holds.0 c.cell-cell.ensures.value) c.args.side
    (HeldObject c.args.object ∷ method_held c.args.object (method.Construct c.args.arguments c.args.target))
    c.requires.side (refl, (refl, (refl, (refl, tt)))) a).holds.1.1.0

pub returns-in-Function-clause-part : goal.returns-in-Function-clause-part
returns-in-Function-clause-part c = λ viewer f t e.
    let d = c.args.w.now in
    let n = names_of d in
    let home = c.args.home in
    let x = c.cell-cell.result.now in
    let a = c.requires.acts in
    let own = reads-home d home c.args.object x a.holds.0 c.cell-cell.ensures.value in
    let s : c.args.side ≡ c.in-Function.field-0.side
    = side-is d home c.args.object x a.ready c.cell-cell.ensures.value own c.args.side c.requires.side
    ∙ ap (owner_by home) c.in-Function.is in
    Part-by c.args.side c.get_prototype.result d c.get_prototype.new.w f f
    (construct_kind home.0 (object_in n c.args.object) t (values_in n c.args.arguments) (Resolve n c.args.target) t.kind
    finished) _
    (λ log. constructs-function d c.args.object x c.cell-cell.ensures.value home c.args.side c.args.arguments
    c.args.target
    c.in-Function.field-0 t log e c.in-Function.is s)
    (c.get_prototype.ensures.part f)

pub returns-in-BuiltIn-clause-part : goal.returns-in-BuiltIn-clause-part
returns-in-BuiltIn-clause-part c = λ viewer f t e.
    let d = c.args.w.now in
    let home = c.args.home in
    let x = c.cell-cell.result.now in
    let a = c.requires.acts in
    let h = a.holds in
    let own = reads-home d home c.args.object x h.0 c.cell-cell.ensures.value in
    let s : c.args.side ≡ home
    = side-is d home c.args.object x a.ready c.cell-cell.ensures.value own c.args.side c.requires.side
    ∙ ap (owner_by home) c.in-BuiltIn.is in
    let run = task.Run c.in-BuiltIn.place v.Undefined c.args.arguments c.args.target in
    rw (s, kind-is d c.args.object x c.cell-cell.ensures.value t (BuiltIn c.in-BuiltIn.place) e c.in-BuiltIn.is)
    (Part-sure home d f (answer (task_in (names_of d) home.0 run) finished) (move.Next run)
    (Sure-next home d run (tt, (tt, (h.1.0.within, (h.1.1.0.within, tt))))))

pub returns-in-BuiltIn-clause-keeps : goal.returns-in-BuiltIn-clause-keeps
returns-in-BuiltIn-clause-keeps c =
    let d = c.args.w.now in
    let home = c.args.home in
    let x = c.cell-cell.result.now in
    let a = c.requires.acts in
    let own = reads-home d home c.args.object x a.holds.0 c.cell-cell.ensures.value in
    let s : c.args.side ≡ home
    = side-is d home c.args.object x a.ready c.cell-cell.ensures.value own c.args.side c.requires.side
    ∙ ap (owner_by home) c.in-BuiltIn.is in
    rw s
    (keeps-same home AnObject
    (Ok (move.Next (task.Run c.in-BuiltIn.place v.Undefined c.args.arguments c.args.target))) d a.ready
    (construct-runs d home a.ready c.args.object x c.cell-cell.ensures.value c.in-BuiltIn.place c.in-BuiltIn.is
    c.args.arguments c.args.target a.holds.1))

pub returns-in_default : goal.returns-in_default
returns-in_default c =
    let d = c.args.w.now in
    let n = names_of d in
    let home = c.args.home in
    let x = c.cell-cell.result.now in
    let a = c.requires.acts in
    let o = object_in n c.args.object in
    let vs = values_in n c.args.arguments in
    let y = Resolve n c.args.target in
    let own = reads-home d home c.args.object x a.holds.0 c.cell-cell.ensures.value in
    let s : c.args.side ≡ home
    = side-is d home c.args.object x a.ready c.cell-cell.ensures.value own c.args.side c.requires.side
    ∙ owner-else home x.kind c.in_default.not-Function in
    record {
      part = λ viewer f t e.
          subst (λ (z : Side). Part z c.type_error.result d c.type_error.new.w f f
          (construct_kind home.0 o t vs y t.kind finished)) (sym s)
          (Part-by home c.type_error.result d c.type_error.new.w f f (construct_kind home.0 o t vs y t.kind finished)
          (type_error home.0 finished)
          (λ log. ap (λ (z : Kind). construct_kind home.0 o t vs y z finished (Image d log))
          (kind-is d c.args.object x c.cell-cell.ensures.value t x.kind e refl)
          ∙ ap (λ (p : Does Answer). p finished (Image d log))
          (constructs-none n x.slots x.kind c.in_default.not-Function c.in_default.not-BuiltIn home.0 o t vs y))
          (c.type_error.ensures.part f));
      keeps = subst (λ (z : Side). KeepsBy z AnObject c.type_error.result d c.type_error.new.w) (sym s)
          (c.type_error.ensures.keeps AnObject);
    }
