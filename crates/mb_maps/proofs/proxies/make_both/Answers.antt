use Rattle.std.proofs.Common.{◌≡◌, ◌∙◌, ◌⊎◌, inr}
use Rattle.mb_maps.specs.Crossing.{with_shadow}
use Rattle.mb_maps.proofs.Lists.{on-err}
use Rattle.mb_maps.proofs.Calls.{shadow-made, proxy-made}
use Rattle.mb_maps.proofs.proxies.make_both.Goals as goal

pub returns-in_err-proxy-clause-refused : goal.returns-in_err-proxy-clause-refused
returns-in_err-proxy-clause-refused c =
    on-err c.from_residual-in_err-proxy.result ((c.make-2.new.self ≡ c.args.w.now) ⊎ (c.make-2.new.self ≡ with_shadow c.args.w.now c.args.side c.args.id))
    (inr (c.in_err-proxy.ensures.kept
    ∙ shadow-made c.args.w.now c.make.new.self c.args.id c.args.side c.cell.result.now c.shape_of-shape.result c.cell.ensures.value c.requires.object c.shape_of-shape.ensures
    c.in_ok-shadow.ensures.made))

pub returns-clause-made : goal.returns-clause-made
returns-clause-made c =
    proxy-made c.args.w.now c.make.new.self c.args.id c.args.side c.cell.result.now c.shape_of-shape.result c.cell.ensures.value c.requires.object c.shape_of-shape.ensures
    c.in_ok-shadow.ensures.made c.make-2.new.self c.in_ok-shadow.shadow c.in_ok-shadow.ensures.id c.in_ok-proxy.ensures.made
