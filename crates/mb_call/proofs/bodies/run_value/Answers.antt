use Rattle.std.proofs.Common.{Bool, List, [], ap, false, subst, sym, ℕ}
use Rattle.mb_call.proofs.BodyParts.{leaves-expression, next-value, none-of}
use Rattle.mb_call.proofs.bodies.run_value.Goals as goal
use Rattle.mb_call.specs.machine.Functions.{sort_by_block}
use Rattle.mb_frames.proofs.Forms.{ready-runs}
use Rattle.mb_frames.proofs.HeldLess.{undefined-held}
use Rattle.mb_frames.proofs.Steps.{Sure-by}
use Rattle.mb_frames.specs.Resolved.{context_in}
use Rattle.mb_frames.specs.Rest.Parts.{body_at}
use Rattle.mb_frames.specs.Standing.{forms_at}
use Rattle.mb_frames.specs.Told.{IsNodeOf}
use Rattle.mb_model.specs.Meaning.{finished}
use Rattle.mb_model.specs.Nodes.Functions.{body_or_value}
use Rattle.mb_world.specs.Image.{Image, names_of}

pub body_part-requires : goal.body_part-requires
body_part-requires c = ready-runs c.args.w.now c.args.home c.requires.acts.ready c.requires.acts.side

pub returns-in-Some-clause-sure : goal.returns-in-Some-clause-sure
returns-in-Some-clause-sure c =
    next-value c.args.w.now c.args.home c.args.at c.args.node c.in-Some.expression c.requires.acts.holds
    (sym c.in-Some.ensures.part)

pub returns-in-Some-clause-leaves : goal.returns-in-Some-clause-leaves
returns-in-Some-clause-leaves c =
    let d = c.args.w.now in
    leaves-expression d c.args.home c.args.at c.args.node c.in-Some.expression c.requires.acts.holds
    (subst (λ (b : Bool). IsNodeOf d c.args.home (sort_by_block b) c.in-Some.expression) c.requires.expression
    c.in-Some.ensures.sort)

pub returns-in-None-clause-sure : goal.returns-in-None-clause-sure
returns-in-None-clause-sure c =
    let d = c.args.w.now in
    let x = context_in (names_of d) c.args.home.0 c.args.at in
    let ns = body_at (forms_at d c.args.home) c.args.node.0 in
    Sure-by c.args.home d (body_or_value x false ns finished) (body_or_value x false [] finished) c.value.result
    (λ log. ap (λ (ms : List ℕ). body_or_value x false ms finished (Image d log))
    (none-of ns (sym c.in-None.ensures.part)))
    (c.value.ensures.sure c.args.home d tt)

pub returns-in-None-clause-leaves : goal.returns-in-None-clause-leaves
returns-in-None-clause-leaves c =
    c.value.ensures.leaves c.args.home c.args.w.now (undefined-held c.args.w.now c.args.home, tt)
