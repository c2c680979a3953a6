use Rattle.std.proofs.Common.{◌≡◌, pos, false, nat_eq, reverse, sym, ap, ◌∙◌, subst, true≢false}
use Rattle.mb_base.specs.declared.value.Value.TheVariants.{Whole}
use Rattle.mb_desc.specs.declared.descriptor.Full.TheVariants.{Datum}
use Rattle.mb_world.specs.Data.{cell_at, change_cell, put_in}
use Rattle.mb_ordinary.specs.Definitions.{accepted}
use Rattle.mb_array.specs.declared.Defined.TheVariants.{Answer}
use Rattle.mb_array.specs.Define.{table_in, with_table}
use Rattle.mb_array.specs.machine.Cutting.{Cut, cut_of, AreIndicesFrom}
use Rattle.mb_array.proofs.Doing.{off-desc, shorter-not, shorter-cut, length-stays}
use Rattle.mb_array.proofs.Shrinking.{low-keys}
use Rattle.mb_array.proofs.array.shorten.Goals as goal

pub accepted-requires-clause-desc : goal.accepted-requires-clause-desc
accepted-requires-clause-desc c = rw c.put_off.ensures (off-desc c.args.w.now c.args.desc c.requires.can.desc_there)

pub cut-least-requires-clause-indices : goal.cut-least-requires-clause-indices
cut-least-requires-clause-indices c =
    low-keys c.args.w.now c.args.n (table_in (cell_at c.args.w.now c.args.o)) c.in_ok-keys-in-Some.keys.items c.in_ok-keys-in-Some.ensures

pub returns-in-None : goal.returns-in-None
returns-in-None c =
    let l = c.args.length in
    shorter-not c.args.w.now c.args.o c.accepted.ensures.cell l.key l.value l.writable c.requires.length c.args.desc c.requires.can c.args.n
    (ap (accepted c.args.w.now c.args.o l.key) (sym c.put_off.ensures) ∙ sym c.accepted.ensures.value ∙ c.in-None.is)

pub returns-in_err-put-in-Some : goal.returns-in_err-put-in-Some
returns-in_err-put-in-Some c =
    let d = c.args.w.now in
    let l = c.args.length in
    let h = c.accepted.ensures.cell in
    let keys = c.in_ok-keys-in-Some.keys.items in
    absurd (true≢false (sym (c.in_err-put-in-Some.ensures.there
    (length-stays d c.args.o h l.key l.value l.writable c.requires.length c.args.desc c.requires.can c.args.n keys c.cut-least.new.w
    (low-keys d c.args.n (table_in (cell_at d c.args.o)) keys c.in_ok-keys-in-Some.ensures)
    (c.cut-least.ensures.cell ∙ ap (λ x. change_cell d c.args.o (with_table (cut_of (reverse keys) c.args.n (table_in x)).left)) h.there)))))

pub returns-in_ok-put-in-Some : goal.returns-in_ok-put-in-Some
returns-in_ok-put-in-Some c =
    let d = c.args.w.now in
    let l = c.args.length in
    let h = c.accepted.ensures.cell in
    let keys = c.in_ok-keys-in-Some.keys.items in
    let x : Cut = cut_of (reverse keys) c.args.n h.cell.props in
    let least : c.cut-least.result ≡ x.length = c.cut-least.ensures.length ∙ ap (λ y. (cut_of (reverse keys) c.args.n (table_in y)).length) h.there in
    let done = shorter-cut d c.args.o h l.key l.value l.writable c.requires.length c.args.desc c.requires.can c.args.n c.in-Some.full keys c.cut-least.new.w c.put.new.self
    (ap (accepted d c.args.o l.key) (sym c.put_off.ensures) ∙ sym c.accepted.ensures.value ∙ c.in-Some.is)
    (subst (λ y. AreIndicesFrom d c.args.n (table_in y) keys) h.there c.in_ok-keys-in-Some.ensures)
    (c.cut-least.ensures.cell ∙ ap (λ y. change_cell d c.args.o (with_table (cut_of (reverse keys) c.args.n (table_in y)).left)) h.there)
    (c.in_ok-put-in-Some.ensures.put
    ∙ ap (λ p. change_cell c.cut-least.new.w c.args.o (put_in l.key p))
    (c.length_property.ensures
    ∙ ap (λ m. Datum (Whole (pos m)) c.is_writable_last-writable.result false false) least
    ∙ ap (λ b. Datum (Whole (pos x.length)) b false false) c.is_writable_last-writable.ensures)) in
    (ap (λ m. Answer (nat_eq m c.args.n)) least ∙ done.0, done.1)
