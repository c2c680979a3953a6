use Rattle.std.proofs.Common.{arith}
use Rattle.mb_arrayapi.proofs.Freshness.{fresh-went}
use Rattle.mb_arrayapi.proofs.making.fresh_array.Goals as goal
use Rattle.mb_parts.proofs.Acting.{ready-acts}

pub built_in-prototype-requires : goal.built_in-prototype-requires
built_in-prototype-requires c =
    (ready-acts c.args.w.now c.args.home c.requires.acts.ready c.requires.acts.side).built_ins 24 (λ e. cc)

pub returns-clause-makes : goal.returns-clause-makes
returns-clause-makes c =
    fresh-went c.args.w.now c.make_array.new.w c.args.home.0 c.args.length c.make_array.result (omega arith)
    (rw c.built_in-prototype.ensures.value at c.make_array.ensures.makes)
