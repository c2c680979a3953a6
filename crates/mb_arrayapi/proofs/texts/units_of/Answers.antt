use Rattle.std.proofs.Common.{Some, ap, sym, ◌∙◌}
use Rattle.mb_arrayapi.proofs.texts.units_of.Goals as goal
use Rattle.mb_parts.proofs.Writing.{TextsGrew-same, text-is}

pub returns-in_err-text-clause-grew : goal.returns-in_err-text-clause-grew
returns-in_err-text-clause-grew c = rw c.in_err-text.ensures.kept (TextsGrew-same c.args.w.now c.requires.ids)

pub returns-in_ok-extend-in-Some-clause-units : goal.returns-in_ok-extend-in-Some-clause-units
returns-in_ok-extend-in-Some-clause-units c =
    let d1 = c.text_from.new.w in
    let spelled = c.units-spelled.result.now in
    let e = text-is d1 c.in-Some.text spelled (rw c.texts.ensures.value at c.units-spelled.ensures.text) in
    rw (c.in_ok-extend-in-Some.ensures.extended, c.new-units.ensures)
    (ap Some (sym e) ∙ (rw c.in-Some.is at c.in_ok-text.ensures.text))
