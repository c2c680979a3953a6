use Rattle.std.proofs.Common.{Err, Ok, refl}
use Rattle.std.proofs.lemmas.Result.{err_from_is_err_and}
use Rattle.mb_frames.specs.Resolved.{context_in, node_in}
use Rattle.mb_frames.specs.Rest.Statements.{for_first_done}
use Rattle.mb_frames.specs.Standing.{forms_at}
use Rattle.mb_model.specs.Meaning.{finished}
use Rattle.mb_model.specs.Nodes.Evaluation.{with_scope}
use Rattle.mb_model.specs.Nodes.Statements.{copy_if, for_begun, for_turn}
use Rattle.mb_world.specs.Image.{names_of}
use Rattle.mb_frames.proofs.Going.{Step-unentered}
use Rattle.mb_eval_stmt.proofs.Rows.{Step-for, Step-nothing, Step-turn}
use Rattle.mb_frames.specs.Keeping.{scope_held}
use Rattle.mb_eval_stmt.proofs.Keeping.{entered-then, for-after, keeps-same}
use Rattle.mb_parts.proofs.Answering.{keeps-halts}
use Rattle.mb_eval_stmt.proofs.Leaving.{ends-nothing}
use Rattle.mb_frames.specs.Sorts.{ACompletion}
use Rattle.mb_eval_stmt.proofs.fors.for_first_done.Goals as goal

pub returns-in_err-scope-in-Some-clause-row : goal.returns-in_err-scope-in-Some-clause-row
returns-in_err-scope-in-Some-clause-row c = λ begun l.
    let d = c.args.w.now in
    let x = context_in (names_of d) c.args.home.0 c.args.at in
    let parts = c.in-Some.parts in
    let n = c.args.node.0 in
    let p = err_from_is_err_and c.from_residual.result c.from_residual.ensures.1 in
    rw (p.1, p.2)
    (Step-for c.args.home begun (Err c.in_err-scope-in-Some.field-0.0) d c.copy_if.new.w c.args.fuel.now
    c.copy_if.new.fuel l l c.args.node parts c.in-Some.ensures.parts
    (λ lets test last body. for_begun x n lets test last body)
    (Step-unentered c.args.home begun c.in_err-scope-in-Some.field-0.0 d c.copy_if.new.w c.args.fuel.now
    c.copy_if.new.fuel l
    (copy_if parts.lets c.args.at.scope.0)
    (λ sc. for_turn (with_scope x sc) n parts.lets (node_in parts.test) (node_in parts.last) parts.body.0 finished)
    c.in_err-scope-in-Some.ensures.enters))

pub returns-in_ok-scope-in-Some-clause-row : goal.returns-in_ok-scope-in-Some-clause-row
returns-in_ok-scope-in-Some-clause-row c = λ begun l.
    let d = c.args.w.now in
    let q = c.in-Some.ensures.parts in
    let e = c.in_ok-scope-in-Some.ensures.enters in
    let s = c.in_ok-scope-in-Some.ensures.scope in
    Step-for c.args.home begun (Ok c.for_turn.result) d c.copy_if.new.w c.args.fuel.now c.copy_if.new.fuel l l
    c.args.node
    c.in-Some.parts q (λ lets test last body. for_begun (context_in (names_of d) c.args.home.0 c.args.at)
    c.args.node.0 lets test last body)
    (Step-turn c.args.home begun d c.copy_if.new.w c.args.fuel.now c.copy_if.new.fuel l c.args.at c.args.node
    c.in-Some.parts
    c.in_ok-scope-in-Some.scope c.for_turn.result c.requires.world.ids c.requires.context q e s
    (c.for_turn.ensures.row c.args.home c.copy_if.new.w))

pub returns-in-None-clause-row : goal.returns-in-None-clause-row
returns-in-None-clause-row c = λ begun l.
    let d = c.args.w.now in
    let x = context_in (names_of d) c.args.home.0 c.args.at in
    Step-nothing c.args.home begun d c.args.fuel.now l (for_first_done (forms_at d c.args.home) x c.args.node.0)
    (c.in-None.ensures.none refl (λ lets test last body. for_begun x c.args.node.0 lets test last body))

pub returns-in_err-scope-in-Some-clause-keeps : goal.returns-in_err-scope-in-Some-clause-keeps
returns-in_err-scope-in-Some-clause-keeps c = λ r i h.
    let p = err_from_is_err_and c.from_residual.result c.from_residual.ensures.1 in
    rw (p.1, p.2)
    (keeps-halts scope_held c.args.home ACompletion c.in_err-scope-in-Some.field-0.0 c.args.w.now c.copy_if.new.w
    (c.in_err-scope-in-Some.ensures.keeps c.args.home r i (h.0, tt)))

pub returns-in_ok-scope-in-Some-clause-keeps : goal.returns-in_ok-scope-in-Some-clause-keeps
returns-in_ok-scope-in-Some-clause-keeps c = λ r i h.
    let d = c.args.w.now in
    let d1 = c.copy_if.new.w in
    let home = c.args.home in
    let k = c.in_ok-scope-in-Some.ensures.keeps home r i (h.0, tt) in
    entered-then home (Ok c.for_turn.result) d d1 d1 c.args.at c.in_ok-scope-in-Some.scope r i h k
    (λ s n q. keeps-same home d1 c.for_turn.result s
    (c.for_turn.ensures.leaves home d1 q
    (for-after home d d1 c.args.node c.in-Some.parts r k.changed c.in-Some.ensures.parts)))

pub returns-in-None-clause-keeps : goal.returns-in-None-clause-keeps
returns-in-None-clause-keeps c = λ r i h.
    keeps-same c.args.home c.args.w.now _ r (ends-nothing c.args.w.now c.args.home)
