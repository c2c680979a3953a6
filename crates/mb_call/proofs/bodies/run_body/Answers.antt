use Rattle.std.proofs.Common.{List, [], ap, drop, slice_get, sym, ℕ}
use Rattle.mb_call.proofs.BodyParts.{leaves-statement, next-statement}
use Rattle.mb_call.proofs.bodies.run_body.Goals as goal
use Rattle.mb_call.specs.machine.Functions.{has_block}
use Rattle.mb_frames.proofs.Forms.{ready-runs}
use Rattle.mb_frames.proofs.HeldLess.{undefined-held}
use Rattle.mb_frames.proofs.Passed.{Part-sure}
use Rattle.mb_frames.proofs.Steps.{Sure-by}
use Rattle.mb_frames.specs.Resolved.{context_in}
use Rattle.mb_frames.specs.Rest.Parts.{body_at}
use Rattle.mb_frames.specs.Standing.{forms_at}
use Rattle.mb_model.specs.Meaning.{finished}
use Rattle.mb_model.specs.Nodes.Functions.{body}
use Rattle.mb_parts.proofs.Places.{drop-past}
use Rattle.mb_world.specs.Image.{Image, names_of}

pub body_part-requires : goal.body_part-requires
body_part-requires c = ready-runs c.args.w.now c.args.home c.requires.acts.ready c.requires.acts.side

pub returns-in_ok-next-in-Some-clause-part : goal.returns-in_ok-next-in-Some-clause-part
returns-in_ok-next-in-Some-clause-part c = λ f.
    let d = c.args.w.now in
    Part-sure c.args.home d f
    (body (context_in (names_of d) c.args.home.0 c.args.at)
    (drop c.args.next (body_at (forms_at d c.args.home) c.args.node.0)) finished) _
    (next-statement d c.args.home c.args.at c.args.node c.in-Some.statement c.requires.acts.holds c.args.next
    c.in_ok-next-in-Some.next (sym c.in-Some.ensures.part) c.in_ok-next-in-Some.ensures)

pub returns-in_ok-next-in-Some-clause-leaves : goal.returns-in_ok-next-in-Some-clause-leaves
returns-in_ok-next-in-Some-clause-leaves c =
    let d = c.args.w.now in
    leaves-statement d c.args.home c.args.at c.args.node c.in-Some.statement c.requires.acts.holds
    c.in_ok-next-in-Some.next (has_block (slice_get (forms_at d c.args.home) c.args.node.0)) c.in-Some.ensures.sort

pub returns-in-None-clause-part : goal.returns-in-None-clause-part
returns-in-None-clause-part c = λ f.
    let d = c.args.w.now in
    let home = c.args.home in
    let x = context_in (names_of d) home.0 c.args.at in
    let ns = body_at (forms_at d home) c.args.node.0 in
    Part-sure home d f (body x (drop c.args.next ns) finished) c.value.result
    (Sure-by home d (body x (drop c.args.next ns) finished) (body x [] finished) c.value.result
    (λ log. ap (λ (ms : List ℕ). body x ms finished (Image d log))
    (drop-past ns c.args.next (sym c.in-None.ensures.part)))
    (c.value.ensures.sure home d tt))

pub returns-in-None-clause-leaves : goal.returns-in-None-clause-leaves
returns-in-None-clause-leaves c =
    c.value.ensures.leaves c.args.home c.args.w.now (undefined-held c.args.w.now c.args.home, tt)
