use Rattle.mb_frames.specs.Sorts.{AValue}
use Rattle.mb_eval_expr.proofs.Keeping.{either-held, plain-held}
use Rattle.std.proofs.Common.{sym}
use Rattle.std.specs.Prelude.{if◌then◌else◌}
use Rattle.mb_frames.proofs.Passed.{Part-passed}
use Rattle.mb_eval_expr.proofs.Referring.{resolve-either, value-either}
use Rattle.mb_frames.specs.Resolved.{context_in, reference_in}
use Rattle.mb_model.specs.Meaning.{finished}
use Rattle.mb_model.specs.Nodes.Assignments.{update_old}
use Rattle.mb_model.specs.Nodes.References.{put_and_give}
use Rattle.mb_model.specs.Task.{Answer}
use Rattle.mb_model.specs.Writing.{Row, fail, value_in}
use Rattle.mb_world.specs.Graph.{Graph}
use Rattle.mb_world.specs.Image.{Resolve, names_of}
use Rattle.mb_eval_expr.proofs.assignments.update_old.Goals as goal

pub returns-in-Value-clause-row : goal.returns-in-Value-clause-row
returns-in-Value-clause-row c = λ f.
    let d = c.args.w.now in
    let n = names_of d in
    let r = reference_in n c.args.to in
    let k : Answer → Graph → Row = λ a. put_and_give (context_in n c.args.home.0 c.args.at) r (value_in a)
    (if c.args.prefix then value_in a else Resolve n c.args.old) finished in
    let h = rw c.in-Value.is at (c.stepped.ensures.row c.args.home.0 d f c.requires.old) in
    let e = resolve-either n c.args.prefix c.in-Value.new c.args.old in
    Part-passed c.args.home c.put_and_give.result d d c.put_and_give.new.w f f f
    (update_old (context_in n c.args.home.0 c.args.at) c.args.plus c.args.prefix r (Resolve n c.args.old) finished)
    (put_and_give (context_in n c.args.home.0 c.args.at) r (Resolve n c.in-Value.new)
    (if c.args.prefix then Resolve n c.in-Value.new else Resolve n c.args.old) finished)
    (h.0 k)
    (rw (sym e) (rw c.either.ensures at (c.put_and_give.ensures.row f)))

pub returns-in-Faulty-clause-row : goal.returns-in-Faulty-clause-row
returns-in-Faulty-clause-row c = λ f.
    let d = c.args.w.now in
    let n = names_of d in
    let r = reference_in n c.args.to in
    let k : Answer → Graph → Row = λ a. put_and_give (context_in n c.args.home.0 c.args.at) r (value_in a)
    (if c.args.prefix then value_in a else Resolve n c.args.old) finished in
    let h = rw c.in-Faulty.is at (c.stepped.ensures.row c.args.home.0 d f c.requires.old) in
    Part-passed c.args.home c.throws.result d d c.throws.new.w f f f
    (update_old (context_in n c.args.home.0 c.args.at) c.args.plus c.args.prefix r (Resolve n c.args.old) finished)
    (fail c.args.home.0 c.in-Faulty.kind finished)
    (h.0 k) (c.throws.ensures.part f)

pub put_and_give-requires-clause-value : goal.put_and_give-requires-clause-value
put_and_give-requires-clause-value c =
    (rw c.in-Value.is at (c.stepped.ensures.row c.args.home.0 c.args.w.now 0 c.requires.old)).1

pub put_and_give-requires-clause-gives : goal.put_and_give-requires-clause-gives
put_and_give-requires-clause-gives c =
    rw c.either.ensures (value-either c.args.w.now c.args.prefix c.in-Value.new c.args.old
    (rw c.in-Value.is at (c.stepped.ensures.row c.args.home.0 c.args.w.now 0 c.requires.old)).1 c.requires.old)

pub returns-in-Value-clause-keeps : goal.returns-in-Value-clause-keeps
returns-in-Value-clause-keeps c = λ r i h.
    let d = c.args.w.now in
    let k = rw c.in-Value.is at (c.stepped.ensures.row c.args.home.0 d 0 c.requires.old) in
    let y = plain-held d c.args.home c.in-Value.new (rw c.in-Value.is at c.stepped.ensures.plain) k.1 in
    c.put_and_give.ensures.keeps r i (
      y,
      (
        rw c.either.ensures (either-held d c.args.home c.args.prefix c.in-Value.new c.args.old y h.0),
        (h.1.0, (h.1.1.0, h.1.1.1)),
      ),
    )

pub returns-in-Faulty-clause-keeps : goal.returns-in-Faulty-clause-keeps
returns-in-Faulty-clause-keeps c = λ r i h. c.throws.ensures.keeps AValue r i tt
