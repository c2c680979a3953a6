use Rattle.std.proofs.Common.{◌≡◌, ap, sym, ◌∙◌, option_map}
use Rattle.mb_world.specs.Image.{names_of, full_in}
use Rattle.mb_ordinary.specs.Objects.{property_of}
use Rattle.mb_ordinary.proofs.Cells.{at-object, own-is, found-in}
use Rattle.mb_ordinary.proofs.reading.own.Goals as goal

pub returns-clause-meant : goal.returns-clause-meant
returns-clause-meant c =
    let d = c.args.w.now in
    at-object d c.args.o c.cell.result.now (λ t. option_map (full_in (names_of d)) c.get.result ≡ property_of d c.args.key t) c.cell.ensures.value
    (ap (option_map (full_in (names_of d))) c.get.ensures.value
    ∙ sym (own-is d c.args.o c.cell.result.now c.cell.ensures.value c.cell.ensures.distinct c.cell.ensures.within c.args.key c.requires.key))

pub returns-clause-within : goal.returns-clause-within
returns-clause-within c = rw c.get.ensures.value (found-in c.args.w.now c.cell.result.now.props c.args.key c.cell.ensures.within.props_in)
