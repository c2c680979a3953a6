use Rattle.mb_frames.specs.Sorts.{AValue}
use Rattle.mb_frames.specs.Ready.{Changed}
use Rattle.mb_parts.proofs.Texting.{texts-changed}
use Rattle.mb_frames.proofs.Leaving.{holds-still}
use Rattle.mb_eval_expr.proofs.Keeping.{kept-halted, kept-then, plain-held, stays}
use Rattle.mb_frames.proofs.Keeping.{inside-still}
use Rattle.std.proofs.Common.{subst}
use Rattle.std.proofs.lemmas.Result.{err_from_is_err_and}
use Rattle.mb_eval_expr.proofs.Joining.{Part-halted, put-grows}
use Rattle.mb_frames.proofs.Passed.{Part-passed}
use Rattle.mb_parts.proofs.Writing.{Acts-texts}
use Rattle.mb_frames.specs.Passing.{Part, TextsGrew}
use Rattle.mb_frames.proofs.Growing.{are-grown}
use Rattle.mb_frames.specs.Holding.{reference_held}
use Rattle.mb_frames.specs.Resolved.{context_in, reference_in}
use Rattle.mb_model.specs.Meaning.{finished}
use Rattle.mb_model.specs.Nodes.Assignments.{compound_got}
use Rattle.mb_model.specs.Nodes.BinaryOperators.{operate}
use Rattle.mb_model.specs.Nodes.References.{put_and_give}
use Rattle.mb_model.specs.Task.{Answer}
use Rattle.mb_model.specs.Writing.{Does, Row, fail, value_in}
use Rattle.mb_world.proofs.Grow.{ScopeIn-grows, ValueIn-grows}
use Rattle.mb_world.specs.Data.{Data}
use Rattle.mb_world.specs.Graph.{Graph}
use Rattle.mb_world.specs.Image.{Resolve, names_of}
use Rattle.mb_eval_expr.proofs.assignments.compound_got.Goals as goal

pub returns-in-Value-clause-row : goal.returns-in-Value-clause-row
returns-in-Value-clause-row c =
    let d = c.args.w.now in
    let d' : Data = c.compute.new.w in
    let n = names_of d in
    let f = c.args.fuel.now in
    let f' = c.compute.new.fuel in
    let x = context_in n c.args.home.0 c.args.at in
    let r = reference_in n c.args.to in
    let y = Resolve (names_of d') c.in-Value.new in
    let k : Answer → Graph → Row = λ a. put_and_give x r (value_in a) (value_in a) finished in
    let h = rw c.in-Value.is at (c.in_ok-computed.ensures.row c.args.home.0) in
    Part-passed c.args.home c.put_and_give.result d d' c.put_and_give.new.w f f' f'
    (compound_got x c.args.sign r (Resolve n c.args.old) (Resolve n c.args.x) finished)
    (put_and_give x r y y finished)
    (h.0 k)
    (subst (λ (p : Does Answer). Part c.args.home c.put_and_give.result d' c.put_and_give.new.w f' f' (p finished))
    (put-grows d d' c.args.home c.in_ok-computed.ensures.grew c.args.at c.args.to c.requires.at c.requires.to y)
    (c.put_and_give.ensures.row f'))

pub returns-in-Faulty-clause-row : goal.returns-in-Faulty-clause-row
returns-in-Faulty-clause-row c =
    let d = c.args.w.now in
    let d' : Data = c.compute.new.w in
    let n = names_of d in
    let f = c.args.fuel.now in
    let f' = c.compute.new.fuel in
    let x = context_in n c.args.home.0 c.args.at in
    let r = reference_in n c.args.to in
    let k : Answer → Graph → Row = λ a. put_and_give x r (value_in a) (value_in a) finished in
    let h = rw c.in-Faulty.is at (c.in_ok-computed.ensures.row c.args.home.0) in
    Part-passed c.args.home c.throws.result d d' c.throws.new.w f f' f'
    (compound_got x c.args.sign r (Resolve n c.args.old) (Resolve n c.args.x) finished)
    (fail c.args.home.0 c.in-Faulty.kind finished)
    (h.0 k)
    (c.throws.ensures.part f')

pub returns-in_err-computed-clause-row : goal.returns-in_err-computed-clause-row
returns-in_err-computed-clause-row c =
    let d = c.args.w.now in
    let n = names_of d in
    let x = context_in n c.args.home.0 c.args.at in
    let r = reference_in n c.args.to in
    let k : Answer → Graph → Row = λ a. put_and_give x r (value_in a) (value_in a) finished in
    let p = err_from_is_err_and c.from_residual.result c.from_residual.ensures.1 in
    rw (p.1, p.2) (Part-halted c.args.home c.in_err-computed.field-0.0 d c.compute.new.w c.args.fuel.now
    c.compute.new.fuel
    (operate c.args.home.0 c.args.sign (Resolve n c.args.old) (Resolve n c.args.x)) k
    (c.in_err-computed.ensures.row c.args.home.0))

pub put_and_give-requires : goal.put_and_give-requires
put_and_give-requires c =
    let d = c.args.w.now in
    let d' : Data = c.compute.new.w in
    let t : TextsGrew d d' = c.in_ok-computed.ensures.grew in
    let g = t.becomes.grows in
    let h = rw c.in-Value.is at (c.in_ok-computed.ensures.row c.args.home.0) in
    record {
      acts = Acts-texts d d' c.args.home t c.requires.acts;
      at = (ScopeIn-grows d d' g c.args.at.scope c.requires.at.0, ValueIn-grows d d' g c.args.at.this c.requires.at.1);
      to = are-grown d d' g (reference_held c.args.to) c.requires.to;
      value = h.1;
      gives = h.1;
    }

pub throws-requires : goal.throws-requires
throws-requires c = Acts-texts c.args.w.now c.compute.new.w c.args.home c.in_ok-computed.ensures.grew c.requires.acts

pub returns-in-Value-clause-keeps : goal.returns-in-Value-clause-keeps
returns-in-Value-clause-keeps c = λ r i h.
    let d = c.args.w.now in
    let d' : Data = c.compute.new.w in
    let o = c.args.home in
    let g : Changed o d d' = texts-changed o d d' c.in_ok-computed.ensures.grew r in
    let k = rw c.in-Value.is at (c.in_ok-computed.ensures.row o.0) in
    let y = plain-held d' o c.in-Value.new (rw c.in-Value.is at c.in_ok-computed.ensures.plain) k.1 in
    kept-then o d d' g c.put_and_give.new.w
    (c.put_and_give.ensures.keeps g.ready (inside-still o d d' g i) (
      y,
      (
        y,
        (
          stays o d d' g r h.1.0,
          (
            stays o d d' g r h.1.1.0,
            holds-still o d d' r g (reference_held c.args.to) h.1.1.1.1.1,
          ),
        ),
      ),
    ))

pub returns-in-Faulty-clause-keeps : goal.returns-in-Faulty-clause-keeps
returns-in-Faulty-clause-keeps c = λ r i h.
    let d = c.args.w.now in
    let d' : Data = c.compute.new.w in
    let o = c.args.home in
    let g : Changed o d d' = texts-changed o d d' c.in_ok-computed.ensures.grew r in
    kept-then o d d' g c.throws.new.w (c.throws.ensures.keeps AValue g.ready (inside-still o d d' g i) tt)

pub returns-in_err-computed-clause-keeps : goal.returns-in_err-computed-clause-keeps
returns-in_err-computed-clause-keeps c =
    let p = err_from_is_err_and c.from_residual.result c.from_residual.ensures.1 in
    rw p.1 (λ r i h.
    kept-halted c.args.home c.args.w.now c.compute.new.w
    (texts-changed c.args.home c.args.w.now c.compute.new.w c.in_err-computed.ensures.halted r))
