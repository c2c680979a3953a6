use Rattle.std.proofs.Common.{[], ap, ◌∙◌}
use Rattle.mb_scriptproxy.proofs.Targets.{a-proxy-in, no-proxy-in}
use Rattle.mb_scriptproxy.proofs.making.is_proxy.Goals as goal
use Rattle.mb_world.specs.Image.{kind_in, names_of}
use Rattle.mb_world.specs.Objects.{is_proxy_kind}
use Rattle.mb_world.specs.declared.cell.CellKind.{CellKind}

pub returns-in-Proxy : goal.returns-in-Proxy
returns-in-Proxy c = λ log.
    let n = names_of c.args.w.now in
    c.real_kind.ensures.proxy log
    ∙ ap (λ (k : CellKind). is_proxy_kind (kind_in n [] k)) c.in-Proxy.is
    ∙ a-proxy-in n c.in-Proxy.target c.in-Proxy.handler c.in-Proxy.shape

pub returns-in_default : goal.returns-in_default
returns-in_default c = λ log.
    let n = names_of c.args.w.now in
    c.real_kind.ensures.proxy log ∙ no-proxy-in n c.real_kind.result.now c.in_default.not-Proxy
