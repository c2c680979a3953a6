use Rattle.std.proofs.Common.{Some, ap, sym, ◌∙◌}
use Rattle.mb_engine.proofs.Lines.{if-then, primitive-text}
use Rattle.mb_parts.proofs.Writing.{TextsGrew-same, text-is}
use Rattle.mb_world.specs.Image.{Image, Resolve, names_of}
use Rattle.mb_engine.proofs.uncaught.primitive_text.Goals as goal

pub returns-clause-text : goal.returns-clause-text
returns-clause-text c =
    let units = c.units-in-Some.result.now in
    let t = text-is c.text_from.new.w c.in-Some.text units (rw c.texts.ensures.value at c.units-in-Some.ensures.text) in
    if-then _ _ c.filled.result c.filled.ensures
    (λ u e log. e
    ∙ primitive-text (Image c.args.w.now log) (Resolve (names_of c.args.w.now) c.args.x) units
    (ap Some (sym t) ∙ (rw c.in-Some.is at c.in_ok-text.ensures.text)))

pub returns-in_err-text-clause-grew : goal.returns-in_err-text-clause-grew
returns-in_err-text-clause-grew c = rw c.in_err-text.ensures.kept (TextsGrew-same c.args.w.now c.requires.ready.ids)
