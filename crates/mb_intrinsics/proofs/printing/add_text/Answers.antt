use Rattle.std.proofs.Common.{refl}
use Rattle.std.proofs.lemmas.Result.{err_from_is_err_and}
use Rattle.mb_intrinsics.proofs.Lines.{added, unpaid, untold}
use Rattle.mb_parts.proofs.Writing.{TextsGrew-same, text-is}
use Rattle.mb_intrinsics.proofs.printing.add_text.Goals as goal

pub returns-in_err-text-clause-grew : goal.returns-in_err-text-clause-grew
returns-in_err-text-clause-grew c = rw c.in_err-text.ensures.kept (TextsGrew-same c.args.w.now c.requires.ids)

pub returns-in_err-charge-in-Some-clause-row : goal.returns-in_err-charge-in-Some-clause-row
returns-in_err-charge-in-Some-clause-row c =
    let d1 = c.text_from.new.w in
    let units = c.units-units.result.now in
    let e = text-is d1 c.in-Some.text units (rw c.texts.ensures.value at c.units-units.ensures.text) in
    let q = c.from_residual-in_err-charge-in-Some in
    let p = err_from_is_err_and q.result q.ensures.1 in
    rw (p.1, p.2, c.in_err-charge-in-Some.ensures.kept)
    (unpaid c.args.w.now d1 c.in_ok-text.ensures.grew c.args.x c.args.fuel.now c.args.line.now c.args.first units
    (rw (c.in-Some.is, e) at c.in_ok-text.ensures.text) c.args.line.now (c.in_err-charge-in-Some.ensures.spent.0 refl))

pub returns-in_ok-append-in-Some-clause-row : goal.returns-in_ok-append-in-Some-clause-row
returns-in_ok-append-in-Some-clause-row c =
    let d1 = c.text_from.new.w in
    let units = c.units-units.result.now in
    let e = text-is d1 c.in-Some.text units (rw c.texts.ensures.value at c.units-units.ensures.text) in
    added c.args.w.now d1 c.in_ok-text.ensures.grew c.args.x c.args.fuel.now c.args.line.now c.args.first units
    (rw (c.in-Some.is, e) at c.in_ok-text.ensures.text) c.charge.new.fuel c.append.new.line
    c.in_ok-charge-in-Some.ensures.paid c.in_ok-append-in-Some.ensures

pub returns-in-None-clause-row : goal.returns-in-None-clause-row
returns-in-None-clause-row c =
    untold c.args.w.now c.text_from.new.w c.in_ok-text.ensures.grew c.args.x c.args.fuel.now c.args.line.now
    c.args.first
    (rw c.in-None.is at c.in_ok-text.ensures.text)
