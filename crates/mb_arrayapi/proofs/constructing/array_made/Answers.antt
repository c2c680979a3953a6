use Rattle.mb_arrayapi.proofs.constructing.array_made.Goals as goal
use Rattle.mb_parts.proofs.Acting.{ready-acts}

pub built_in-prototype-requires : goal.built_in-prototype-requires
built_in-prototype-requires c =
    (ready-acts c.args.w.now c.args.home c.requires.acts.ready c.requires.acts.side).built_ins 24 (λ e. cc)

pub array_from-requires : goal.array_from-requires
array_from-requires c =
    let a = c.requires.acts in
    record {
      acts = record {
        ready = a.ready;
        side = a.side;
        holds = (a.holds.0, (c.built_in-prototype.ensures.held, tt));
      };
    }

pub returns-clause-part : goal.returns-clause-part
returns-clause-part c = λ f. rw c.built_in-prototype.ensures.value at (c.array_from.ensures.part f)
