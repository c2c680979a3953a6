use Rattle.std.proofs.Common.{◌∙◌, ap, refl}
use Rattle.mb_frames.proofs.Steps.{Sure-by}
use Rattle.mb_frames.specs.Resolved.{context_in, node_in}
use Rattle.mb_model.specs.Meaning.{finished}
use Rattle.mb_model.specs.Nodes.Statements.{for_turn, loop_row}
use Rattle.mb_model.specs.Task.{Answer, Nothing}
use Rattle.mb_model.specs.Writing.{Does, give}
use Rattle.mb_world.specs.Image.{Image, names_of}
use Rattle.mb_eval_stmt.proofs.Rows.{for-is, loop-is}
use Rattle.mb_eval_stmt.proofs.Leaving.{ends-nothing}
use Rattle.mb_eval_stmt.proofs.fors.loop_row.Goals as goal

pub returns-in-Some-clause-row : goal.returns-in-Some-clause-row
returns-in-Some-clause-row c =
    let d = c.args.w.now in
    let x = context_in (names_of d) c.args.home.0 c.args.at in
    let parts = c.in-Some.parts in
    Sure-by c.args.home d (loop_row x c.args.node.0 finished)
    (for_turn x c.args.node.0 parts.lets (node_in parts.test) (node_in parts.last) parts.body.0 finished) _
    (λ log.
    loop-is d c.args.home x c.args.node.0 log c.requires.world.takes_part refl
    ∙ ap (λ (p : Does Answer). p finished (Image d log))
    (for-is d c.args.home c.args.node parts c.in-Some.ensures.parts (λ lets test last body. for_turn x c.args.node.0
    lets test last body)))
    (c.for_turn.ensures.row c.args.home d c.requires.context c.in-Some.ensures.parts)

pub returns-in-None-clause-row : goal.returns-in-None-clause-row
returns-in-None-clause-row c =
    let d = c.args.w.now in
    let x = context_in (names_of d) c.args.home.0 c.args.at in
    Sure-by c.args.home d (loop_row x c.args.node.0 finished) (give Nothing finished) _
    (λ log.
    loop-is d c.args.home x c.args.node.0 log c.requires.world.takes_part refl
    ∙ ap (λ (p : Does Answer). p finished (Image d log))
    (c.in-None.ensures.none refl (λ lets test last body. for_turn x c.args.node.0 lets test last body)))
    (record { same = λ w begun log f. refl; free = λ log. refl; calm = tt; ids = tt })

pub returns-in-Some-clause-leaves : goal.returns-in-Some-clause-leaves
returns-in-Some-clause-leaves c = λ h. c.for_turn.ensures.leaves c.args.home c.args.w.now h c.in-Some.ensures.parts

pub returns-in-None-clause-leaves : goal.returns-in-None-clause-leaves
returns-in-None-clause-leaves c = λ h. ends-nothing c.args.w.now c.args.home
