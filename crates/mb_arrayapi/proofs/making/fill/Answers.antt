use Rattle.std.proofs.Common.{arith, refl}
use Rattle.std.proofs.lemmas.List.{take_all}
use Rattle.std.proofs.lemmas.Result.{err_from_is_err_and}
use Rattle.mb_arrayapi.proofs.Fills.{element-held, fill-next}
use Rattle.mb_arrayapi.proofs.making.fill.Goals as goal
use Rattle.mb_frames.proofs.Keeping.{inside-still}
use Rattle.mb_frames.proofs.Readying.{changed-same, changed-then}

pub loop-x-init : goal.loop-x-init
loop-x-init c = record {
  changed = changed-same c.args.home c.args.w.now c.requires.acts.ready;
  place = refl;
  same = c.items-x-items.ensures;
  made = λ d s p m. m;
}

pub store-requires : goal.store-requires
store-requires c =
    let i = c.loop-x.invariant in
    let a = c.requires.acts in
    record {
      acts = record {
        ready = i.changed.ready;
        side = inside-still c.args.home c.args.w.now c.loop-x.w i.changed a.side;
        holds = rw i.same
            (element-held c.args.w.now c.loop-x.w c.args.home c.args.array c.args.values.now c.loop-x.x-index _
            (rw i.same at c.loop-x-test.true) a.ready a.holds i.changed);
      };
    }

pub returns-in_err-store-clause-keeps : goal.returns-in_err-store-clause-keeps
returns-in_err-store-clause-keeps c =
    let p = err_from_is_err_and c.from_residual.result c.from_residual.ensures.1 in
    rw p.1
    (record {
      changed = changed-then c.args.home c.args.w.now c.loop-x.w c.store.new.w c.loop-x.invariant.changed
          c.in_err-store.ensures.keeps.changed;
      holds = tt;
    })

pub loop-x-preserved : goal.loop-x-preserved
loop-x-preserved c =
    let i = c.loop-x.invariant in
    let a = c.requires.acts in
    let q = rw (i.place, i.same) at c.in_ok-store.ensures.stored in
    record {
      changed = changed-then c.args.home c.args.w.now c.loop-x.w c.store.new.w i.changed
          c.in_ok-store.ensures.keeps.changed;
      place = omega (arith, i.place);
      same = i.same;
      made = λ d s p m.
          fill-next c.args.w.now c.loop-x.w c.args.home c.args.array c.args.values.now c.loop-x.x-index _
          (rw i.same at c.loop-x-test.true) a.ready a.holds i.changed c.store.new.w s p q.0 d c.requires.many
          (i.made d s p m) q.1;
    }

pub returns-clause-filled : goal.returns-clause-filled
returns-clause-filled c = λ d s p m.
    let i = c.loop-x.invariant in
    rw (take_all c.loop-x.x-index c.args.values.now (rw i.same at c.loop-x-test.false)) at (i.made d s p m)

pub returns-clause-keeps : goal.returns-clause-keeps
returns-clause-keeps c = record { changed = c.loop-x.invariant.changed; holds = tt }
