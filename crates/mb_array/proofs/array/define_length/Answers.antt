use Rattle.std.proofs.Common.{sym, ◌∙◌, subst}
use Rattle.mb_array.specs.machine.Done.{Ends}
use Rattle.mb_array.proofs.Doing.{given-length, given-refused}
use Rattle.mb_array.proofs.array.define_length.Goals as goal

pub returns-in-Err : goal.returns-in-Err
returns-in-Err c =
    let l = c.args.length in
    given-refused c.args.w.now c.args.o c.requires.length.cell l.key l.value l.writable c.requires.length c.args.desc c.in-Some.value c.in-Err.refusal c.in-Some.is (sym c.asked_length.ensures ∙ c.in-Err.is)

pub returns-in-Ok : goal.returns-in-Ok
returns-in-Ok c =
    let l = c.args.length in
    subst (λ x. Ends c.args.w.now c.args.o c.args.desc x c.set_length.result c.set_length.new.w)
    (given-length c.args.w.now c.args.o c.requires.length.cell l.key l.value l.writable c.requires.length c.args.desc c.requires.can c.in-Ok.n c.in-Some.value c.in-Some.is (sym c.asked_length.ensures ∙ c.in-Ok.is))
    c.set_length.ensures
