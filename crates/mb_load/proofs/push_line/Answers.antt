use Rattle.std.proofs.Common.{◌≡◌, IfOk, string_bytes, subst}
use Rattle.mb_load.proofs.Steps.{wrapped}
use Rattle.mb_load.proofs.push_line.Goals as goal

pub returns : goal.returns
returns c =
    subst (λ bytes. IfOk c.format.result (λ text. string_bytes text ≡ bytes)) (wrapped _ _ c.in_ok-element.ensures) c.format.ensures.ok
