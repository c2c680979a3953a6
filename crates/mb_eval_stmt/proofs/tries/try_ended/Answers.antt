use Rattle.std.proofs.Common.{Ok, refl}
use Rattle.mb_frames.proofs.Steps.{Step-sure}
use Rattle.mb_frames.specs.Resolved.{context_in, node_in, outcome_in}
use Rattle.mb_frames.specs.Rest.Statements.{try_ended}
use Rattle.mb_frames.specs.Standing.{forms_at}
use Rattle.mb_frames.specs.declared.task.Outcome.TheVariants as o
use Rattle.mb_model.specs.Meaning.{finished}
use Rattle.mb_model.specs.Nodes.Statements.{finally}
use Rattle.mb_world.specs.Image.{names_of}
use Rattle.mb_eval_stmt.proofs.TryRows.{Step-try, Step-untried}
use Rattle.mb_eval_stmt.proofs.Keeping.{keeps-same}
use Rattle.mb_frames.proofs.Keeping.{leaves-any, statement-if-held}
use Rattle.mb_eval_stmt.proofs.tries.try_ended.Goals as goal

pub returns-in-None-clause-row : goal.returns-in-None-clause-row
returns-in-None-clause-row c = λ begun l.
    let d = c.args.w.now in
    let x = context_in (names_of d) c.args.home.0 c.args.at in
    Step-untried c.args.home begun d c.args.fuel.now l c.args.outcome
    (try_ended (forms_at d c.args.home) x c.args.node.0 (outcome_in (names_of d) c.args.outcome)) c.requires.outcome
    (c.in-None.ensures.none refl x (outcome_in (names_of d) c.args.outcome))

pub returns-in-Throw-clause-row : goal.returns-in-Throw-clause-row
returns-in-Throw-clause-row c = λ begun l.
    let d = c.args.w.now in
    rw c.in-Throw.is
    (Step-try c.args.home begun c.catch.result d c.catch.new.w c.args.fuel.now c.catch.new.fuel l l c.args.at
    c.args.node
    c.in-Some.parts (outcome_in (names_of d) (o.Throw c.in-Throw.x)) c.in-Some.ensures.parts
    (c.catch.ensures.row begun l))

pub returns-in-Normal-clause-row : goal.returns-in-Normal-clause-row
returns-in-Normal-clause-row c = λ begun l.
    let d = c.args.w.now in
    let x = context_in (names_of d) c.args.home.0 c.args.at in
    let y = outcome_in (names_of d) (o.Normal c.in-Normal.answer) in
    rw c.in-Normal.is
    (Step-try c.args.home begun (Ok c.finally.result) d d c.args.fuel.now c.args.fuel.now l l c.args.at c.args.node
    c.in-Some.parts y c.in-Some.ensures.parts
    (Step-sure c.args.home begun d (finally x (node_in c.in-Some.parts.ending) y finished) c.finally.result
    c.args.fuel.now l
    (c.finally.ensures.row c.args.home d c.requires.context (rw c.in-Normal.is at c.requires.outcome))))

pub returns-in-Return-clause-row : goal.returns-in-Return-clause-row
returns-in-Return-clause-row c = λ begun l.
    let d = c.args.w.now in
    let x = context_in (names_of d) c.args.home.0 c.args.at in
    let y = outcome_in (names_of d) (o.Return c.in-Return.x) in
    rw c.in-Return.is
    (Step-try c.args.home begun (Ok c.finally-in-Return.result) d d c.args.fuel.now c.args.fuel.now l l c.args.at
    c.args.node
    c.in-Some.parts y c.in-Some.ensures.parts
    (Step-sure c.args.home begun d (finally x (node_in c.in-Some.parts.ending) y finished) c.finally-in-Return.result
    c.args.fuel.now l
    (c.finally-in-Return.ensures.row c.args.home d c.requires.context (rw c.in-Return.is at c.requires.outcome))))

pub returns-in-Break-clause-row : goal.returns-in-Break-clause-row
returns-in-Break-clause-row c = λ begun l.
    let d = c.args.w.now in
    let x = context_in (names_of d) c.args.home.0 c.args.at in
    let y = outcome_in (names_of d) o.Break in
    rw c.in-Break.is
    (Step-try c.args.home begun (Ok c.finally-in-Break.result) d d c.args.fuel.now c.args.fuel.now l l c.args.at
    c.args.node
    c.in-Some.parts y c.in-Some.ensures.parts
    (Step-sure c.args.home begun d (finally x (node_in c.in-Some.parts.ending) y finished) c.finally-in-Break.result
    c.args.fuel.now l
    (c.finally-in-Break.ensures.row c.args.home d c.requires.context (rw c.in-Break.is at c.requires.outcome))))

pub returns-in-Continue-clause-row : goal.returns-in-Continue-clause-row
returns-in-Continue-clause-row c = λ begun l.
    let d = c.args.w.now in
    let x = context_in (names_of d) c.args.home.0 c.args.at in
    let y = outcome_in (names_of d) o.Continue in
    rw c.in-Continue.is
    (Step-try c.args.home begun (Ok c.finally-in-Continue.result) d d c.args.fuel.now c.args.fuel.now l l c.args.at
    c.args.node
    c.in-Some.parts y c.in-Some.ensures.parts
    (Step-sure c.args.home begun d (finally x (node_in c.in-Some.parts.ending) y finished) c.finally-in-Continue.result
    c.args.fuel.now l
    (c.finally-in-Continue.ensures.row c.args.home d c.requires.context (rw c.in-Continue.is at c.requires.outcome))))

pub returns-in-None-clause-keeps : goal.returns-in-None-clause-keeps
returns-in-None-clause-keeps c = λ r i h.
    keeps-same c.args.home c.args.w.now _ r (leaves-any c.args.w.now c.args.home c.args.outcome h.1.1)

pub returns-in-Throw-clause-keeps : goal.returns-in-Throw-clause-keeps
returns-in-Throw-clause-keeps c = λ r i h.
    let g = rw c.in-Throw.is at h in
    c.catch.ensures.keeps r i (g.0, (g.1.0, (g.1.1.0, tt)))

pub returns-in-Normal-clause-keeps : goal.returns-in-Normal-clause-keeps
returns-in-Normal-clause-keeps c = λ r i h.
    let d = c.args.w.now in
    let home = c.args.home in
    let g = rw c.in-Normal.is at h in
    let parts = c.in-Some.parts in
    keeps-same home d c.finally.result r
    (c.finally.ensures.leaves home d
    (h.0, (h.1.0, (statement-if-held d home parts.ending c.in-Some.ensures.parts.last, tt)))
    g.1.1)

pub returns-in-Return-clause-keeps : goal.returns-in-Return-clause-keeps
returns-in-Return-clause-keeps c = λ r i h.
    let d = c.args.w.now in
    let home = c.args.home in
    let g = rw c.in-Return.is at h in
    let parts = c.in-Some.parts in
    keeps-same home d c.finally-in-Return.result r
    (c.finally-in-Return.ensures.leaves home d
    (h.0, (h.1.0, (statement-if-held d home parts.ending c.in-Some.ensures.parts.last, tt)))
    g.1.1)

pub returns-in-Break-clause-keeps : goal.returns-in-Break-clause-keeps
returns-in-Break-clause-keeps c = λ r i h.
    let d = c.args.w.now in
    let home = c.args.home in
    let g = rw c.in-Break.is at h in
    let parts = c.in-Some.parts in
    keeps-same home d c.finally-in-Break.result r
    (c.finally-in-Break.ensures.leaves home d
    (h.0, (h.1.0, (statement-if-held d home parts.ending c.in-Some.ensures.parts.last, tt)))
    g.1.1)

pub returns-in-Continue-clause-keeps : goal.returns-in-Continue-clause-keeps
returns-in-Continue-clause-keeps c = λ r i h.
    let d = c.args.w.now in
    let home = c.args.home in
    let g = rw c.in-Continue.is at h in
    let parts = c.in-Some.parts in
    keeps-same home d c.finally-in-Continue.result r
    (c.finally-in-Continue.ensures.leaves home d
    (h.0, (h.1.0, (statement-if-held d home parts.ending c.in-Some.ensures.parts.last, tt)))
    g.1.1)
