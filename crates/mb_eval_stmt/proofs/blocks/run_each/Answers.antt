use Rattle.std.proofs.Common.{sym}
use Rattle.mb_frames.proofs.Steps.{Step-sure}
use Rattle.mb_frames.specs.Resolved.{context_in}
use Rattle.mb_frames.specs.Rest.Parts.{parts_at}
use Rattle.mb_frames.specs.Standing.{forms_at}
use Rattle.mb_model.specs.Meaning.{finished}
use Rattle.mb_model.specs.Nodes.Statements.{run_each}
use Rattle.mb_world.specs.Image.{names_of}
use Rattle.std.proofs.Common.{drop}
use Rattle.mb_eval_stmt.proofs.Rows.{each-done, each-next}
use Rattle.std.proofs.Common.{refl, slice_get, subst}
use Rattle.mb_frames.specs.Kinds.{NodeSort}
use Rattle.mb_frames.specs.Told.{IsNodeOf}
use Rattle.mb_frames.specs.declared.statements.StmtFrame.TheVariants as y
use Rattle.mb_eval_stmt.proofs.Keeping.{list-parts}
use Rattle.mb_eval_stmt.proofs.Leaving.{ends-nothing, waits-any}
use Rattle.mb_frames.proofs.Keeping.{statement-is}
use Rattle.mb_eval_stmt.proofs.blocks.run_each.Goals as goal

pub returns-in_ok-next-in-Some-clause-row : goal.returns-in_ok-next-in-Some-clause-row
returns-in_ok-next-in-Some-clause-row c = λ begun f l.
    let d = c.args.w.now in
    Step-sure c.args.home begun d
    (run_each (context_in (names_of d) c.args.home.0 c.args.at)
    (drop c.args.next (parts_at (forms_at d c.args.home) c.args.node.0)) finished)
    _ f l
    (each-next d c.args.home c.args.at c.args.node c.in-Some.part c.args.next c.in_ok-next-in-Some.next
    c.requires.context (sym c.in-Some.ensures.part) c.in_ok-next-in-Some.ensures)

pub returns-in-None-clause-row : goal.returns-in-None-clause-row
returns-in-None-clause-row c = λ begun f l.
    let d = c.args.w.now in
    Step-sure c.args.home begun d
    (run_each (context_in (names_of d) c.args.home.0 c.args.at)
    (drop c.args.next (parts_at (forms_at d c.args.home) c.args.node.0)) finished)
    _ f l
    (each-done d c.args.home c.args.at c.args.node c.args.next (sym c.in-None.ensures.part))

pub returns-in_ok-next-in-Some-clause-leaves : goal.returns-in_ok-next-in-Some-clause-leaves
returns-in_ok-next-in-Some-clause-leaves c = λ h.
    let d = c.args.w.now in
    let home = c.args.home in
    let e = list-parts (slice_get (forms_at d home) c.args.node.0) h.1.1.0.sound in
    waits-any d home (y.Each c.args.at c.args.node c.in_ok-next-in-Some.next) c.in-Some.part c.args.at refl h
    (h.0, (h.1.0, tt))
    (statement-is d home c.in-Some.part
    (subst (λ (s : NodeSort). IsNodeOf d home s c.in-Some.part) e c.in-Some.ensures.sort))

pub returns-in-None-clause-leaves : goal.returns-in-None-clause-leaves
returns-in-None-clause-leaves c = λ h. ends-nothing c.args.w.now c.args.home
