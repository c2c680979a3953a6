use Rattle.std.proofs.Common.{sym, ap, Some, w64, ◌∙◌}
use Rattle.std.proofs.lemmas.Int.{to_z-of_z}
use Rattle.std.specs.Fmt.{signed_decimal}
use Rattle.mb_world.specs.Data.{with_texts}
use Rattle.mb_text.specs.Texts.{with_text}
use Rattle.mb_parts.proofs.Writing.{TextsGrew-text, text-is, text-within, whole-is}
use Rattle.mb_parts.proofs.conversions.digits.Goals as goal

pub returns-clause-text : goal.returns-clause-text
returns-clause-text c =
    text-is c.of_whole.new.self c.in_ok-id.id (signed_decimal c.args.n)
    (c.in_ok-id.ensures.text ∙ ap (λ z. Some (signed_decimal z)) (to_z-of_z w64 c.args.n c.ranges.n))
    ∙ sym (whole-is c.args.n c.ranges.n.sfits)

pub returns-clause-within : goal.returns-clause-within
returns-clause-within c = text-within c.of_whole.new.self c.in_ok-id.id _ c.in_ok-id.ensures.text

pub returns-clause-grew : goal.returns-clause-grew
returns-clause-grew c =
    TextsGrew-text c.args.w.now c.of_whole.new.self (signed_decimal c.args.n) c.texts-before.ensures.ids
    c.texts-after.ensures.ids
    (c.in_ok-id.ensures.texts ∙ ap (λ z. with_texts c.args.w.now (with_text c.args.w.now.texts (signed_decimal z)))
    (to_z-of_z w64 c.args.n c.ranges.n))
