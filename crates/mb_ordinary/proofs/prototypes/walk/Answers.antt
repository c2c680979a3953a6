use Rattle.std.proofs.Common.{◌≡◌, ◌∙◌, sym, true}
use Rattle.mb_ordinary.specs.Walks.{visited, walked, Answered}
use Rattle.mb_ordinary.proofs.Visiting.{walked-on, walked-ends}
use Rattle.mb_ordinary.proofs.prototypes.walk.Goals as goal

pub loop-next-preserved : goal.loop-next-preserved
loop-next-preserved c = record {
  same = sym (walked-on (visited c.args.w.now c.args.o) c.loop-next.fuel c.charge.new.self c.loop-next.next c.in-Onward.above c.in-Object.x c.in-Object.is c.in_ok-charge.ensures.paid (sym c.in-Onward.ensures.visit)) ∙ c.loop-next.invariant.same;
  within = c.in-Onward.ensures.within;
}

pub returns : goal.returns
returns c =
    let e : walked (visited c.args.w.now c.args.o) c.args.fuel.now c.args.p ≡ Answered true c.loop-next.fuel =
    sym c.loop-next.invariant.same ∙ walked-ends (visited c.args.w.now c.args.o) c.loop-next.fuel c.loop-next.next c.in_default.not-Object in
    record {
      spent = (λ h. cc, λ h. cc);
      answer = e;
      left = tt;
    }
