use Rattle.mb_eval_expr.proofs.Keeping.{kept-left, plain-held, waits-node}
use Rattle.std.proofs.Common.{Ok, Option, subst, sym, refl}
use Rattle.mb_eval_expr.proofs.Rows.{Part-callee, not-place}
use Rattle.mb_frames.specs.Passing.{Part}
use Rattle.mb_eval_expr.specs.machine.Targets.{layers_at}
use Rattle.mb_frames.specs.Resolved.{context_in}
use Rattle.mb_frames.specs.Rest.Parts.{parts_at}
use Rattle.mb_frames.specs.Standing.{forms_at}
use Rattle.mb_model.specs.Meaning.{finished}
use Rattle.mb_model.specs.Nodes.Invocations.{call_row}
use Rattle.mb_model.specs.Nodes.References.{innermost}
use Rattle.mb_model.specs.Task.{Answer}
use Rattle.mb_model.specs.Writing.{Does}
use Rattle.mb_world.specs.Form.{Form}
use Rattle.mb_world.specs.Image.{names_of}
use Rattle.mb_base.specs.declared.value.Value.TheVariants as v
use Rattle.mb_frames.specs.declared.expressions.ExprFrame.TheVariants as e
use Rattle.mb_frames.specs.declared.frame.Frame.TheVariants as x
use Rattle.mb_frames.specs.declared.frame.Move.{Move}
use Rattle.mb_frames.specs.declared.frame.Move.TheVariants as move
use Rattle.mb_frames.specs.declared.task.Task.TheVariants as t
use Rattle.mb_eval_expr.proofs.beginning.call_row.Goals as goal

pub returns-in-Member-clause-row : goal.returns-in-Member-clause-row
returns-in-Member-clause-row c =
    let d = c.args.w.now in
    let o = innermost (layers_at d c.args.home c.args.callee.0) in
    let y = context_in (names_of d) c.args.home.0 c.args.at in
    let i = rw c.in-Member.is at c.strip-found.ensures.target in
    subst (λ (q : Option Form). Part c.args.home c.refer.result d c.refer.new.w c.args.fuel.now c.refer.new.fuel
    (call_row y c.args.callee.0 (parts_at (forms_at d c.args.home) c.args.node.0) q finished))
    (sym i) c.refer.ensures.row

pub returns-in-Index-clause-row : goal.returns-in-Index-clause-row
returns-in-Index-clause-row c =
    let d = c.args.w.now in
    let o = innermost (layers_at d c.args.home c.args.callee.0) in
    let y = context_in (names_of d) c.args.home.0 c.args.at in
    let i = rw c.in-Index.is at c.strip-found.ensures.target in
    subst (λ (q : Option Form). Part c.args.home c.refer-in-Index.result d c.refer-in-Index.new.w c.args.fuel.now
    c.refer-in-Index.new.fuel
    (call_row y c.args.callee.0 (parts_at (forms_at d c.args.home) c.args.node.0) q finished))
    (sym i) c.refer-in-Index.ensures.row

pub returns-in_default-clause-row : goal.returns-in_default-clause-row
returns-in_default-clause-row c =
    let d = c.args.w.now in
    let o = innermost (layers_at d c.args.home c.args.callee.0) in
    let f = c.args.fuel.now in
    let q = not-place c.args.home d c.args.at c.args.callee.0 (parts_at (forms_at d c.args.home) c.args.node.0)
    c.strip-found.result.target o
    c.strip-found.ensures.target c.in_default.not-Member c.in_default.not-Index in
    let m : Move = move.Wait (x.Expr (e.Callee c.args.at c.args.node v.Undefined))
    (t.Evaluate c.args.callee c.args.at) in
    subst (λ (p : Does Answer). Part c.args.home (Ok m) d d f f (p finished)) (sym q)
    (Part-callee c.args.home d c.args.at f c.args.node c.args.callee c.requires.at)

pub returns-in-Member-clause-keeps : goal.returns-in-Member-clause-keeps
returns-in-Member-clause-keeps c = λ r i h. c.refer.ensures.keeps r i (h.1.1.0, (h.1.1.1.0, (h.0, tt)))

pub returns-in-Index-clause-keeps : goal.returns-in-Index-clause-keeps
returns-in-Index-clause-keeps c = λ r i h. c.refer-in-Index.ensures.keeps r i (h.1.1.0, (h.1.1.1.0, (h.0, tt)))

pub returns-in_default-clause-keeps : goal.returns-in_default-clause-keeps
returns-in_default-clause-keeps c = λ r i h.
    let d = c.args.w.now in
    kept-left c.args.home d r
    (waits-node d c.args.home (e.Callee c.args.at c.args.node v.Undefined) c.args.callee c.args.at refl
    (h.1.1.0, (h.1.1.1.0, (h.0, (plain-held d c.args.home v.Undefined tt tt, tt)))) (h.1.1.0, (h.1.1.1.0, tt)) h.1.0)
