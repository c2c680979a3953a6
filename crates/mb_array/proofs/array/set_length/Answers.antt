use Rattle.std.proofs.Common.{subst}
use Rattle.mb_array.specs.machine.Done.{Ends}
use Rattle.mb_array.proofs.Doing.{below-far, below-near, below-closed}
use Rattle.mb_array.proofs.array.set_length.Goals as goal

pub returns-then-length-n : goal.returns-then-length-n
returns-then-length-n c =
    let l = c.args.length in
    subst (λ x. Ends c.args.w.now c.args.o c.args.desc x c.define.result c.define.new.w)
    (below-far c.args.w.now c.args.o c.requires.length.cell l.key l.value l.writable c.requires.length c.args.desc c.requires.can c.args.n c.if-length-n.true)
    c.define.ensures

pub returns-then-length : goal.returns-then-length
returns-then-length c =
    let l = c.args.length in
    subst (λ x. Ends c.args.w.now c.args.o c.args.desc x c.shorten.result c.shorten.new.w)
    (below-near c.args.w.now c.args.o c.requires.length.cell l.key l.value l.writable c.requires.length c.args.desc c.requires.can c.args.n c.if-length-n.false c.if-length.true)
    c.shorten.ensures

pub returns-else-length : goal.returns-else-length
returns-else-length c =
    let l = c.args.length in
    below-closed c.args.w.now c.args.o c.requires.length.cell l.key l.value l.writable c.requires.length c.args.desc c.requires.can c.args.n c.if-length-n.false c.if-length.false
