use Rattle.std.proofs.Common.{◌≡◌, false, sym, ap, ◌∙◌, subst}
use Rattle.mb_props.specs.Table.{same_key}
use Rattle.mb_props.proofs.Keys.{same}
use Rattle.mb_array.specs.machine.Done.{Ends}
use Rattle.mb_array.proofs.Doing.{key-element, key-other}
use Rattle.mb_array.proofs.array.define.Goals as goal

pub returns-in-Some : goal.returns-in-Some
returns-in-Some c =
    subst (λ x. Ends c.args.w.now c.args.o c.args.desc x c.define_element.result c.define_element.new.w)
    (key-element c.args.w.now c.args.o c.length_of-length.ensures.cell c.args.key c.args.desc c.in-Some.index c.requires.can.key_there (sym c.index_of.ensures ∙ c.in-Some.is))
    c.define_element.ensures

pub returns-in-None-2 : goal.returns-in-None-2
returns-in-None-2 c =
    let l = c.length_of-length.result in
    let other : same_key c.args.key l.key ≡ false = sym (ap (λ t. t c.args.key l.key) same) ∙ sym c.eq.ensures ∙ c.if-eq.false in
    subst (λ x. Ends c.args.w.now c.args.o c.args.desc x c.define.result c.define.new.w)
    (key-other c.args.w.now c.args.o c.length_of-length.ensures.cell l.key l.value l.writable c.length_of-length.ensures c.args.key c.args.desc c.requires.can.key_there (sym c.index_of.ensures ∙ c.in-None-2.is) other)
    c.define.ensures
