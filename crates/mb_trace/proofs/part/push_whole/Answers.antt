use Rattle.std.proofs.Common.{◌++◌, ap, ◌∙◌, w64}
use Rattle.std.specs.Fmt.{signed_decimal}
use Rattle.std.proofs.lemmas.Int.{to_z-of_z}
use Rattle.mb_trace.proofs.Decimals.{whole-printed}
use Rattle.mb_trace.proofs.part.push_whole.Goals as goal

pub returns : goal.returns
returns c =
    c.in_ok-extend_from_slice.ensures.items
    ∙ ap (λ ds. c.args.out.now.items ++ ds) (c.as_bytes.ensures.value ∙ c.format.ensures.text ∙ ap signed_decimal (to_z-of_z w64 c.args.whole c.ranges.whole) ∙ whole-printed c.args.whole c.ranges.whole.sfits)
