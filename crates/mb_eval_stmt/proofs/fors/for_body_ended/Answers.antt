use Rattle.std.proofs.Common.{◌∙◌, Ok, refl, sym, true}
use Rattle.mb_frames.proofs.Steps.{Step-sure}
use Rattle.mb_frames.specs.Resolved.{context_in, node_in, outcome_in}
use Rattle.mb_frames.specs.Rest.Statements.{for_body_ended}
use Rattle.mb_frames.specs.Standing.{forms_at}
use Rattle.mb_model.specs.Meaning.{finished}
use Rattle.mb_model.specs.Nodes.Statements.{body_ended, for_next}
use Rattle.mb_world.specs.Image.{names_of}
use Rattle.mb_eval_stmt.proofs.Ended.{goes-on}
use Rattle.mb_eval_stmt.proofs.Rows.{Step-for, Step-nothing}
use Rattle.mb_eval_stmt.proofs.Keeping.{keeps-same}
use Rattle.mb_eval_stmt.proofs.Leaving.{ends-nothing}
use Rattle.mb_eval_stmt.proofs.fors.for_body_ended.Goals as goal

pub returns-then-goes_round-clause-row : goal.returns-then-goes_round-clause-row
returns-then-goes_round-clause-row c = λ l.
    let d = c.args.w.now in
    let x = context_in (names_of d) c.args.home.0 c.args.at in
    let n = c.args.node.0 in
    let parts = c.in-Some.parts in
    let y = outcome_in (names_of d) c.args.outcome in
    let next = for_next x n parts.lets (node_in parts.last) in
    Step-for c.args.home true c.for_next.result d c.for_next.new.w c.args.fuel.now c.for_next.new.fuel l l c.args.node
    parts c.in-Some.ensures.parts (λ lets test last body. body_ended (for_next x n lets last) y)
    (rw (goes-on (names_of d) next c.args.outcome (sym c.goes_round.ensures ∙ c.if-goes_round.true))
    (c.for_next.ensures.row c.args.home c.in-Some.ensures.parts c.requires.world l))

pub returns-else-goes_round-clause-row : goal.returns-else-goes_round-clause-row
returns-else-goes_round-clause-row c = λ l.
    let d = c.args.w.now in
    let x = context_in (names_of d) c.args.home.0 c.args.at in
    let n = c.args.node.0 in
    let parts = c.in-Some.parts in
    let y = outcome_in (names_of d) c.args.outcome in
    let next = for_next x n parts.lets (node_in parts.last) in
    Step-for c.args.home true (Ok c.leaves.result) d d c.args.fuel.now c.args.fuel.now l l c.args.node
    parts c.in-Some.ensures.parts (λ lets test last body. body_ended (for_next x n lets last) y)
    (Step-sure c.args.home true d (body_ended next y finished) c.leaves.result c.args.fuel.now l
    (c.leaves.ensures.row c.args.home d next c.requires.outcome))

pub returns-in-None-clause-row : goal.returns-in-None-clause-row
returns-in-None-clause-row c = λ l.
    let d = c.args.w.now in
    let x = context_in (names_of d) c.args.home.0 c.args.at in
    let y = outcome_in (names_of d) c.args.outcome in
    Step-nothing c.args.home true d c.args.fuel.now l (for_body_ended (forms_at d c.args.home) x c.args.node.0 y)
    (c.in-None.ensures.none refl (λ lets test last body. body_ended (for_next x c.args.node.0 lets last) y))

pub returns-then-goes_round-clause-keeps : goal.returns-then-goes_round-clause-keeps
returns-then-goes_round-clause-keeps c = λ r i h.
    c.for_next.ensures.keeps c.args.home c.in-Some.ensures.parts r i (h.0, (h.1.0, tt))

pub returns-else-goes_round-clause-keeps : goal.returns-else-goes_round-clause-keeps
returns-else-goes_round-clause-keeps c = λ r i h.
    keeps-same c.args.home c.args.w.now c.leaves.result r (c.leaves.ensures.leaves c.args.home c.args.w.now h.1.1)

pub returns-in-None-clause-keeps : goal.returns-in-None-clause-keeps
returns-in-None-clause-keeps c = λ r i h.
    keeps-same c.args.home c.args.w.now _ r (ends-nothing c.args.w.now c.args.home)
