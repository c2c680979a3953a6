use Rattle.std.proofs.Common.{◌≡◌, ◌∙◌, ap, slice_get, subst, sym}
use Rattle.mb_base.specs.declared.value.Side.{Side}
use Rattle.mb_call.proofs.FunctionEntered.{entered-function, entered-row, enters-acts}
use Rattle.mb_call.proofs.entering.enter_row.Goals as goal
use Rattle.mb_call.proofs.entering.enter_row.Goals.{In-Function}
use Rattle.mb_call.specs.Ours.{Acts}
use Rattle.mb_call.specs.Owners.{owner_by, owner_of}
use Rattle.mb_frames.proofs.Passed.{Part-by}
use Rattle.mb_frames.specs.Holding.{task_held}
use Rattle.mb_frames.specs.Passing.{Part}
use Rattle.mb_frames.specs.Ready.{KeepsBy}
use Rattle.mb_frames.specs.Resolved.{values_in}
use Rattle.mb_frames.specs.Sorts.{AValue}
use Rattle.mb_frames.specs.Standing.{forms_at}
use Rattle.mb_frames.specs.declared.task.Task.TheVariants as task
use Rattle.mb_model.specs.Meaning.{finished}
use Rattle.mb_model.specs.Nodes.Functions.{enter_form, enter_row}
use Rattle.mb_world.specs.Image.{Resolve, code_in, names_of, object_in}

-- the owner acts
owner : (c : In-Function) → c.args.home ≡ c.in-Function.code.side
owner c = c.requires.home ∙ ap (owner_of c.args.home) c.cell.ensures.value ∙ ap (owner_by c.args.home) c.in-Function.is

at-owner : (c : In-Function)
    → Acts c.args.w.now c.in-Function.code.side (task_held (task.Enter c.args.function c.args.this c.args.arguments))
at-owner c =
    subst (λ (s : Side). Acts c.args.w.now s (task_held (task.Enter c.args.function c.args.this c.args.arguments)))
    (owner c) c.requires.acts

pub enter_form-requires : goal.enter_form-requires
enter_form-requires c = record {
  acts = enters-acts c.args.w.now c.requires.acts.ready c.args.function c.cell.result.now c.cell.ensures.value
      c.in-Function.code c.in-Function.is c.args.this c.args.arguments
      (at-owner (goal.at.enter_form-requires c).In-Function);
}

pub unreachable-requires : goal.unreachable-requires
unreachable-requires c =
    entered-function c.cell.result.now.kind
    (rw c.cell.ensures.value at c.requires.acts.holds.1.1.1.0.sound) (rw c.cell.ensures.value at c.requires.entered)
    c.in_default.not-Function

pub returns-clause-part : goal.returns-clause-part
returns-clause-part c =
    let d = c.args.w.now in
    let n = names_of d in
    let f = c.args.fuel.now in
    let f' = c.enter_form.new.fuel in
    let code = c.in-Function.code in
    subst (λ (s : Side). Part s c.enter_form.result d c.enter_form.new.w f f'
    (enter_row (object_in n c.args.function) (Resolve n c.args.this) (values_in n c.args.arguments) finished))
    (sym (owner (goal.at.returns-clause-part c).In-Function))
    (Part-by code.side c.enter_form.result d c.enter_form.new.w f f'
    (enter_row (object_in n c.args.function) (Resolve n c.args.this) (values_in n c.args.arguments) finished)
    (enter_form (code_in n code) (Resolve n c.args.this) (values_in n c.args.arguments)
    (slice_get (forms_at d code.side) code.node.0) finished)
    (entered-row d c.requires.acts.ready c.args.function c.cell.result.now c.cell.ensures.value code c.in-Function.is
    (at-owner (goal.at.returns-clause-part c).In-Function).side c.args.this c.args.arguments)
    c.enter_form.ensures.part)

pub returns-clause-keeps : goal.returns-clause-keeps
returns-clause-keeps c =
    subst (λ (s : Side). KeepsBy s AValue c.enter_form.result c.args.w.now c.enter_form.new.w)
    (sym (owner (goal.at.returns-clause-keeps c).In-Function))
    c.enter_form.ensures.keeps
