use Rattle.std.proofs.Common.{arith, ◌-◌, ◌∷◌, ◌≡◌, [], suc}
use Rattle.std.proofs.lemmas.Result.{err_from_is_err_and}
use Rattle.mb_arrayapi.proofs.Acting.{halts}
use Rattle.mb_arrayapi.proofs.Pops.{Part-pops, pops-kept}
use Rattle.mb_arrayapi.proofs.popping.pop.Goals as goal
use Rattle.mb_frames.proofs.HeldLess.{undefined-held}
use Rattle.mb_frames.specs.Held.{HeldObject}
use Rattle.mb_frames.specs.Sorts.{AValue}

pub pop_length-requires : goal.pop_length-requires
pop_length-requires c =
    let a = c.requires.acts in
    record {
      acts = record {
        ready = a.ready;
        side = a.side;
        holds = (a.holds.0, (undefined-held c.args.w.now c.args.home, tt));
      };
    }

pub returns-then-length-eq0-clause-part : goal.returns-then-length-eq0-clause-part
returns-then-length-eq0-clause-part c = λ f.
    let e : c.args.length ≡ 0 = omega arith in
    rw e (c.pop_length.ensures.part f)

pub returns-in_err-key-clause-keeps : goal.returns-in_err-key-clause-keeps
returns-in_err-key-clause-keeps c =
    let p = err_from_is_err_and c.from_residual.result c.from_residual.ensures.1 in
    rw (p.1, c.in_err-key.ensures.kept)
    (halts c.args.w.now c.args.home (HeldObject c.args.object ∷ []) c.requires.acts AValue p.0)

pub returns-clause-part : goal.returns-clause-part
returns-clause-part c = λ f.
    let n : c.args.length ≡ suc (c.args.length - 1) = omega arith in
    rw c.waits.ensures
    (Part-pops c.args.home c.args.w.now c.index_key.new.w c.in_ok-key.ensures.grew c.requires.acts.ready
    c.args.object c.requires.acts.holds.0 c.in_ok-key.key c.in_ok-key.ensures.within f (c.args.length - 1)
    c.args.length n c.in_ok-key.ensures.key)

pub returns-clause-keeps : goal.returns-clause-keeps
returns-clause-keeps c =
    rw c.waits.ensures
    (pops-kept c.args.home c.args.w.now c.index_key.new.w c.in_ok-key.ensures.grew c.requires.acts.ready
    c.args.object c.requires.acts.holds.0 c.in_ok-key.key c.in_ok-key.ensures.within (c.args.length - 1)
    c.in_ok-key.ensures.key)
