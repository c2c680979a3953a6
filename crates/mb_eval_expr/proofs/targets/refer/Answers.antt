use Rattle.mb_eval_expr.specs.machine.Keeping.{target_held}
use Rattle.mb_frames.specs.Holding.{after_held}
use Rattle.mb_eval_expr.proofs.Keeping.{kept-still}
use Rattle.std.proofs.Common.{◌<◌, arith, refl, length}
use Rattle.std.proofs.lemmas.Grind.{common_steps}
use Rattle.mb_eval_expr.proofs.Targeting.{Part-not-stripped, Part-stripped}
use Rattle.mb_eval_expr.specs.machine.Targets.{layers_at}
use Rattle.mb_model.specs.Nodes.References.{innermost}
use Rattle.mb_frames.proofs.Parts.{all-both}
use Rattle.mb_frames.specs.Ready.{MayHold}
use Rattle.mb_eval_expr.proofs.targets.refer.Goals as goal

pub returns-in-Ok-clause-row : goal.returns-in-Ok-clause-row
returns-in-Ok-clause-row c =
    let d = c.args.w.now in
    let o = innermost (layers_at d c.args.home c.args.node.0) in
    Part-stripped c.args.home d c.args.at c.args.node.0 c.args.after c.requires.acts.runs.takes_part
    c.referred.result c.referred.new.w c.args.fuel.now c.charge_each.new.fuel c.charge_each.new.fuel o
    (rw c.strip-found.ensures.nodes at c.in-Ok.ensures.paid) refl
    (c.referred.ensures.row c.charge_each.new.fuel o c.strip-found.ensures.target)

pub returns-in-Err-clause-row : goal.returns-in-Err-clause-row
returns-in-Err-clause-row c =
    let d = c.args.w.now in
    let u : c.args.fuel.now < length (layers_at d c.args.home c.args.node.0)
    = grind (arith, common_steps, c.in-Err.ensures.spent, c.strip-found.ensures.nodes) in
    rw c.in-Err.ensures.left (Part-not-stripped c.args.home d c.args.at c.args.node.0 c.args.after
    c.requires.acts.runs.takes_part
    c.args.fuel.now u)

pub returns-in-Ok-clause-keeps : goal.returns-in-Ok-clause-keeps
returns-in-Ok-clause-keeps c = λ r i h.
    c.referred.ensures.keeps r i (
      h.0,
      (
        h.1.0,
        all-both (MayHold c.args.w.now c.args.home) (target_held c.strip-found.result.target) (after_held c.args.after)
            c.strip-found.ensures.held h.1.1,
      ),
    )

pub returns-in-Err-clause-keeps : goal.returns-in-Err-clause-keeps
returns-in-Err-clause-keeps c = λ r i h. kept-still c.args.home c.args.w.now r
