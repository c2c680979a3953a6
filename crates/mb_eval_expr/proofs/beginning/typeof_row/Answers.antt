use Rattle.mb_eval_expr.proofs.Keeping.{kept-left, kept-still, waits-node}
use Rattle.mb_eval_expr.proofs.Rows.{Part-typeof, Part-typeof-eval, Part-typeof-unpaid, not-name}
use Rattle.std.proofs.Common.{Ok, sym, subst, refl}
use Rattle.std.proofs.Common.{◌<◌, length}
use Rattle.std.proofs.lemmas.Grind.{common_steps}
use Rattle.std.proofs.Common.{arith}
use Rattle.mb_frames.specs.Passing.{Part}
use Rattle.mb_eval_expr.specs.machine.Targets.{layers_at}
use Rattle.mb_model.specs.Meaning.{finished}
use Rattle.mb_model.specs.Nodes.References.{innermost}
use Rattle.mb_model.specs.Task.{Answer}
use Rattle.mb_model.specs.Writing.{Does}
use Rattle.mb_world.specs.Image.{names_of, text_in}
use Rattle.mb_frames.specs.declared.expressions.ExprFrame.TheVariants as e
use Rattle.mb_frames.specs.declared.frame.Frame.TheVariants as x
use Rattle.mb_frames.specs.declared.frame.Move.{Move}
use Rattle.mb_frames.specs.declared.frame.Move.TheVariants as move
use Rattle.mb_frames.specs.declared.task.Task.TheVariants as t
use Rattle.mb_eval_expr.proofs.beginning.typeof_row.Goals as goal

pub returns-in-Ok-clause-row : goal.returns-in-Ok-clause-row
returns-in-Ok-clause-row c =
    let d = c.args.w.now in
    Part-typeof c.args.home d c.args.at c.typeof_name.result c.typeof_name.new.w c.args.fuel.now
    c.charge_each.new.fuel c.charge_each.new.fuel
    c.args.operand.0 (text_in (names_of d) c.in-Name.name) c.requires.acts.runs.takes_part
    (rw c.strip-found.ensures.nodes at c.in-Ok.ensures.paid)
    (rw c.in-Name.is at c.strip-found.ensures.target)
    (c.typeof_name.ensures.row c.charge_each.new.fuel)

pub returns-in-Err-clause-row : goal.returns-in-Err-clause-row
returns-in-Err-clause-row c =
    let d = c.args.w.now in
    let u : c.args.fuel.now < length (layers_at d c.args.home c.args.operand.0)
    = grind (arith, common_steps, c.in-Err.ensures.spent, c.strip-found.ensures.nodes) in
    rw c.in-Err.ensures.left (Part-typeof-unpaid c.args.home d c.args.at c.args.fuel.now c.args.operand.0
    (text_in (names_of d) c.in-Name.name)
    c.requires.acts.runs.takes_part u (rw c.in-Name.is at c.strip-found.ensures.target))

pub returns-in_default-clause-row : goal.returns-in_default-clause-row
returns-in_default-clause-row c =
    let d = c.args.w.now in
    let f = c.args.fuel.now in
    let q = not-name c.args.home d c.args.at c.args.operand.0 c.strip-found.result.target
    (innermost (layers_at d c.args.home c.args.operand.0))
    c.strip-found.ensures.target c.in_default.not-Name in
    let m : Move = move.Wait (x.Expr e.Typeof) (t.Evaluate c.args.operand c.args.at) in
    subst (λ (p : Does Answer). Part c.args.home (Ok m) d d f f (p finished)) (sym q)
    (Part-typeof-eval c.args.home d c.args.at f c.args.operand c.requires.at)

pub returns-in-Ok-clause-keeps : goal.returns-in-Ok-clause-keeps
returns-in-Ok-clause-keeps c = λ r i h.
    c.typeof_name.ensures.keeps r i ((rw c.in-Name.is at c.strip-found.ensures.held).0, h.1)

pub returns-in-Err-clause-keeps : goal.returns-in-Err-clause-keeps
returns-in-Err-clause-keeps c = λ r i h. kept-still c.args.home c.args.w.now r

pub returns-in_default-clause-keeps : goal.returns-in_default-clause-keeps
returns-in_default-clause-keeps c = λ r i h.
    kept-left c.args.home c.args.w.now r
    (waits-node c.args.w.now c.args.home e.Typeof c.args.operand c.args.at refl tt h.1 h.0)
