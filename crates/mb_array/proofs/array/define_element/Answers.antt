use Rattle.std.proofs.Common.{pos, false, sym, ap, ◌∙◌, true≢false}
use Rattle.mb_base.specs.declared.value.Value.TheVariants.{Whole}
use Rattle.mb_desc.specs.declared.descriptor.Full.TheVariants.{Datum}
use Rattle.mb_world.specs.Data.{change_cell, put_in}
use Rattle.mb_array.proofs.Doing.{element-past, element-not, element-stored, length-kept}
use Rattle.mb_array.proofs.array.define_element.Goals as goal

pub returns-then-refuses : goal.returns-then-refuses
returns-then-refuses c =
    let l = c.args.length in
    element-past c.args.w.now c.args.o c.requires.length.cell l.key l.value l.writable c.requires.length c.args.key c.args.desc c.requires.can c.args.index
    (sym c.refuses.ensures ∙ c.if-refuses.true)

pub returns-in-None : goal.returns-in-None
returns-in-None c =
    let l = c.args.length in
    element-not c.args.w.now c.args.o c.requires.length.cell l.key l.value l.writable c.requires.length c.args.key c.args.desc c.requires.can c.args.index
    (sym c.refuses.ensures ∙ c.if-refuses.false) (sym c.accepted.ensures.value ∙ c.in-None.is)

pub returns-in_err-put-in-Some-2 : goal.returns-in_err-put-in-Some-2
returns-in_err-put-in-Some-2 c =
    let l = c.args.length in
    absurd (true≢false (sym (c.in_err-put-in-Some-2.ensures.there
    (length-kept c.args.w.now c.args.o c.requires.length.cell l.key l.value l.writable c.requires.length c.args.key c.in-Some.full c.put.new.self c.in_ok-put-in-Some.ensures.put))))

pub returns-in_ok-put-in-Some-2 : goal.returns-in_ok-put-in-Some-2
returns-in_ok-put-in-Some-2 c =
    let l = c.args.length in
    element-stored c.args.w.now c.args.o c.requires.length.cell l.key l.value l.writable c.requires.length c.args.key c.args.desc c.requires.can c.args.index
    (sym c.refuses.ensures ∙ c.if-refuses.false) c.in-Some.full (sym c.accepted.ensures.value ∙ c.in-Some.is) c.in-Some.ensures.within c.put.new.self c.put-in-Some.new.self
    c.in_ok-put-in-Some.ensures.put
    (c.in_ok-put-in-Some-2.ensures.put
    ∙ ap (λ p. change_cell c.put.new.self c.args.o (put_in l.key p))
    (c.length_property-grown.ensures ∙ ap (λ m. Datum (Whole (pos m)) l.writable false false) c.max.ensures))
