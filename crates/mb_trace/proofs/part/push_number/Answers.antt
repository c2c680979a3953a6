use Rattle.std.proofs.Common.{◌++◌, ap, ◌∙◌, arith}
use Rattle.mb_trace.proofs.Decimals.{decimal-printed}
use Rattle.mb_trace.proofs.part.push_number.Goals as goal

pub returns : goal.returns
returns c =
    c.in_ok-extend_from_slice.ensures.items
    ∙ ap (λ ds. c.args.out.now.items ++ ds) (c.as_bytes.ensures.value ∙ c.format.ensures.text ∙ decimal-printed c.args.n (omega (arith, c.ranges.n.fits)))
