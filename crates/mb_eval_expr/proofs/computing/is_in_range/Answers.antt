use Rattle.std.proofs.Common.{ap, nat_le, w64, ◌∙◌}
use Rattle.std.proofs.lemmas.Int.{to_z-of_z}
use Rattle.std.specs.Prelude.{unsigned_abs}
use Rattle.mb_eval_expr.proofs.Arithmetic.{range-is}
use Rattle.mb_eval_expr.proofs.computing.is_in_range.Goals as goal

pub returns : goal.returns
returns c =
    ap (λ n. nat_le n 9007199254740991) (c.unsigned_abs.ensures.value ∙ ap unsigned_abs
    (to_z-of_z w64 c.args.z c.ranges.z))
    ∙ range-is c.args.z
