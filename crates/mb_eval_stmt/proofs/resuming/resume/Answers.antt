use Rattle.std.proofs.Common.{true, [], ◌∷◌}
use Rattle.mb_frames.proofs.Steps.{Step-sure}
use Rattle.mb_frames.specs.Resolved.{context_in, node_in, outcome_in}
use Rattle.mb_model.specs.Meaning.{finished}
use Rattle.mb_model.specs.Nodes.Statements.{finally, finally_ended}
use Rattle.mb_world.specs.Image.{names_of}
use Rattle.mb_eval_stmt.proofs.Resting.{Step-breaks, Step-continues, Step-returns, Step-throws, answered-of}
use Rattle.mb_frames.proofs.Parts.{all-both, all-first, all-second}
use Rattle.mb_frames.specs.Held.{HeldValue}
use Rattle.mb_frames.specs.Holding.{outcome_held, stmt_held}
use Rattle.mb_frames.specs.Ready.{MayHold}
use Rattle.mb_frames.specs.declared.task.Outcome.TheVariants as o
use Rattle.mb_eval_stmt.proofs.Keeping.{keeps-same}
use Rattle.mb_frames.proofs.Keeping.{leaves-any}
use Rattle.mb_eval_stmt.proofs.resuming.resume.Goals as goal

pub answered-requires : goal.answered-requires
answered-requires c = record {
  world = c.requires.world;
  frame = c.requires.frame;
  waits = answered-of c.args.frame c.in_default.not-WhileBody c.in_default.not-DoBody c.in_default.not-ForBody
      c.in_default.not-Try c.in_default.not-Handler c.in_default.not-Ending;
  value = c.value_of.ensures.ids c.args.w.now (rw c.in-Normal.is at c.requires.outcome);
}

pub returns-in-DoBody-clause-row : goal.returns-in-DoBody-clause-row
returns-in-DoBody-clause-row c = λ l.
    let h = rw c.in-DoBody.is at c.requires.frame in
    rw c.in-DoBody.is (c.do_ended.ensures.row c.args.home c.args.w.now c.args.fuel.now l (h.0, h.1.0)
    c.requires.outcome)

pub returns-in-Handler-clause-row : goal.returns-in-Handler-clause-row
returns-in-Handler-clause-row c = λ l.
    let d = c.args.w.now in
    let h = rw c.in-Handler.is at c.requires.frame in
    rw c.in-Handler.is
    (Step-sure c.args.home true d
    (finally (context_in (names_of d) c.args.home.0 c.in-Handler.at) (node_in c.in-Handler.ending)
    (outcome_in (names_of d) c.args.outcome) finished)
    c.finally.result c.args.fuel.now l (c.finally.ensures.row c.args.home d (h.0, h.1.0) c.requires.outcome))

pub returns-in-Ending-clause-row : goal.returns-in-Ending-clause-row
returns-in-Ending-clause-row c = λ l.
    let d = c.args.w.now in
    let h = rw c.in-Ending.is at c.requires.frame in
    rw c.in-Ending.is
    (Step-sure c.args.home true d
    (finally_ended (outcome_in (names_of d) c.in-Ending.before) (outcome_in (names_of d) c.args.outcome) finished)
    c.finally_ended.result c.args.fuel.now l (c.finally_ended.ensures.row c.args.home d h c.requires.outcome))

pub returns-in-Throw-clause-row : goal.returns-in-Throw-clause-row
returns-in-Throw-clause-row c = λ l.
    let h = rw c.in-Throw.is at c.requires.outcome in
    rw c.in-Throw.is
    (Step-throws c.args.home c.args.w.now c.args.fuel.now l c.args.frame c.in-Throw.x h
    (answered-of c.args.frame c.in_default.not-WhileBody c.in_default.not-DoBody c.in_default.not-ForBody
    c.in_default.not-Try c.in_default.not-Handler c.in_default.not-Ending))

pub returns-in-Return-clause-row : goal.returns-in-Return-clause-row
returns-in-Return-clause-row c = λ l.
    let h = rw c.in-Return.is at c.requires.outcome in
    rw c.in-Return.is
    (Step-returns c.args.home c.args.w.now c.args.fuel.now l c.args.frame c.in-Return.x h
    (answered-of c.args.frame c.in_default.not-WhileBody c.in_default.not-DoBody c.in_default.not-ForBody
    c.in_default.not-Try c.in_default.not-Handler c.in_default.not-Ending))

pub returns-in-Break-clause-row : goal.returns-in-Break-clause-row
returns-in-Break-clause-row c = λ l.
    let h = rw c.in-Break.is at c.requires.outcome in
    rw c.in-Break.is
    (Step-breaks c.args.home c.args.w.now c.args.fuel.now l c.args.frame h
    (answered-of c.args.frame c.in_default.not-WhileBody c.in_default.not-DoBody c.in_default.not-ForBody
    c.in_default.not-Try c.in_default.not-Handler c.in_default.not-Ending))

pub returns-in-Continue-clause-row : goal.returns-in-Continue-clause-row
returns-in-Continue-clause-row c = λ l.
    let h = rw c.in-Continue.is at c.requires.outcome in
    rw c.in-Continue.is
    (Step-continues c.args.home c.args.w.now c.args.fuel.now l c.args.frame h
    (answered-of c.args.frame c.in_default.not-WhileBody c.in_default.not-DoBody c.in_default.not-ForBody
    c.in_default.not-Try c.in_default.not-Handler c.in_default.not-Ending))

pub returns-in-WhileBody-clause-keeps : goal.returns-in-WhileBody-clause-keeps
returns-in-WhileBody-clause-keeps c = λ r i h.
    let d = c.args.w.now in
    let home = c.args.home in
    let g = rw c.in-WhileBody.is at h in
    keeps-same home d c.while_ended.result r
    (c.while_ended.ensures.leaves home d (g.0, (g.1.0, (g.1.1.0, tt))) g.1.1.1)

pub returns-in-DoBody-clause-keeps : goal.returns-in-DoBody-clause-keeps
returns-in-DoBody-clause-keeps c = λ r i h.
    let d = c.args.w.now in
    let home = c.args.home in
    let g = rw c.in-DoBody.is at h in
    keeps-same home d c.do_ended.result r
    (c.do_ended.ensures.leaves home d (g.0, (g.1.0, (g.1.1.0, (g.1.1.1.0, tt)))) g.1.1.1.1)

pub returns-in-ForBody-clause-keeps : goal.returns-in-ForBody-clause-keeps
returns-in-ForBody-clause-keeps c = λ r i h.
    let d = c.args.w.now in
    let home = c.args.home in
    let g = rw c.in-ForBody.is at h in
    c.for_body_ended.ensures.keeps r i (g.0, (g.1.0, g.1.1.1))

pub returns-in-Try-clause-keeps : goal.returns-in-Try-clause-keeps
returns-in-Try-clause-keeps c = λ r i h.
    let d = c.args.w.now in
    let home = c.args.home in
    let g = rw c.in-Try.is at h in
    c.try_ended.ensures.keeps r i (g.0, (g.1.0, g.1.1.1))

pub returns-in-Handler-clause-keeps : goal.returns-in-Handler-clause-keeps
returns-in-Handler-clause-keeps c = λ r i h.
    let d = c.args.w.now in
    let home = c.args.home in
    let g = rw c.in-Handler.is at h in
    keeps-same home d c.finally.result r
    (c.finally.ensures.leaves home d (g.0, (g.1.0, (g.1.1.0, tt))) g.1.1.1)

pub returns-in-Ending-clause-keeps : goal.returns-in-Ending-clause-keeps
returns-in-Ending-clause-keeps c = λ r i h.
    let d = c.args.w.now in
    let home = c.args.home in
    let g = rw c.in-Ending.is at h in
    let a = outcome_held c.in-Ending.before in
    let b = outcome_held c.args.outcome in
    keeps-same home d c.finally_ended.result r
    (c.finally_ended.ensures.leaves home d (all-first (MayHold d home) a b g) (all-second (MayHold d home) a b g))

pub returns-in-Normal-clause-keeps : goal.returns-in-Normal-clause-keeps
returns-in-Normal-clause-keeps c = λ r i h.
    let d = c.args.w.now in
    let home = c.args.home in
    let a = stmt_held c.args.frame in
    let b = outcome_held c.args.outcome in
    let g = rw c.in-Normal.is at (all-second (MayHold d home) a b h) in
    c.answered.ensures.keeps r i
    (all-both (MayHold d home) a (HeldValue c.value_of.result ∷ []) (all-first (MayHold d home) a b h)
    (c.value_of.ensures.held home d g, tt))

pub returns-in-Throw-clause-keeps : goal.returns-in-Throw-clause-keeps
returns-in-Throw-clause-keeps c = λ r i h.
    let d = c.args.w.now in
    let home = c.args.home in
    let a = stmt_held c.args.frame in
    let b = outcome_held c.args.outcome in
    let g = rw c.in-Throw.is at (all-second (MayHold d home) a b h) in
    keeps-same home d _ r
    (leaves-any d home (o.Throw c.in-Throw.x) g)

pub returns-in-Return-clause-keeps : goal.returns-in-Return-clause-keeps
returns-in-Return-clause-keeps c = λ r i h.
    let d = c.args.w.now in
    let home = c.args.home in
    let a = stmt_held c.args.frame in
    let b = outcome_held c.args.outcome in
    let g = rw c.in-Return.is at (all-second (MayHold d home) a b h) in
    keeps-same home d _ r
    (leaves-any d home (o.Return c.in-Return.x) g)

pub returns-in-Break-clause-keeps : goal.returns-in-Break-clause-keeps
returns-in-Break-clause-keeps c = λ r i h.
    keeps-same c.args.home c.args.w.now _ r (leaves-any c.args.w.now c.args.home o.Break tt)

pub returns-in-Continue-clause-keeps : goal.returns-in-Continue-clause-keeps
returns-in-Continue-clause-keeps c = λ r i h.
    keeps-same c.args.home c.args.w.now _ r (leaves-any c.args.w.now c.args.home o.Continue tt)
