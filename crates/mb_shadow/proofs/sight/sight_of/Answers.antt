use Rattle.std.proofs.Common.{ap, sym, ◌∙◌}
use Rattle.std.specs.Option.{option_and_then}
use Rattle.mb_shadow.specs.machine.Sights.{view_of}
use Rattle.mb_shadow.proofs.Through.{home-as, shadow-as, plain-seen-as, plain-sight-as, gone-seen-as, target-in-as, target-seen-as, target-sight-as}
use Rattle.mb_shadow.proofs.sight.sight_of.Goals as goal

pub meant-requires : goal.meant-requires
meant-requires c = target-in-as c.args.w.now c.requires.world c.args.proxy c.cell.result.now c.cell.ensures.value c.in-Membrane.behind
    c.in-Membrane.shadow c.in-Membrane.is c.cell-2.result.now c.cell-2.ensures.value c.home-home.result c.home-home.ensures.value c.in-Proxy.target
    c.in-Proxy.handler c.in-Proxy.shape c.in-Proxy.is c.in_ok-target-in-Proxy.target c.in_ok-target-in-Proxy.was

pub returns-in_err-target-in-Proxy-clause-view : goal.returns-in_err-target-in-Proxy-clause-view
returns-in_err-target-in-Proxy-clause-view c =
    gone-seen-as c.args.w.now c.requires.world c.args.proxy c.cell.result.now c.cell.ensures.value
    c.in-Membrane.behind c.in-Membrane.shadow c.in-Membrane.is c.cell-2.result.now c.cell-2.ensures.value c.home-home.result
    c.home-home.ensures.value c.in-Proxy.target c.in-Proxy.handler c.in-Proxy.shape c.in-Proxy.is c.in_err-target-in-Proxy.was
    ∙ ap (option_and_then (view_of c.args.w.now)) (sym c.from_residual.ensures)

pub returns-in_ok-target-in-Proxy-clause-view : goal.returns-in_ok-target-in-Proxy-clause-view
returns-in_ok-target-in-Proxy-clause-view c = target-seen-as c.args.w.now c.requires.world c.args.proxy c.cell.result.now c.cell.ensures.value
    c.in-Membrane.behind c.in-Membrane.shadow c.in-Membrane.is c.cell-2.result.now c.cell-2.ensures.value c.home-home.result
    c.home-home.ensures.value c.in-Proxy.target c.in-Proxy.handler c.in-Proxy.shape c.in-Proxy.is c.in_ok-target-in-Proxy.target
    c.in_ok-target-in-Proxy.was c.home.result c.home.ensures.value c.meant.result c.meant.ensures

pub returns-in_ok-target-in-Proxy-clause-sight : goal.returns-in_ok-target-in-Proxy-clause-sight
returns-in_ok-target-in-Proxy-clause-sight c = target-sight-as c.args.w.now c.requires.world c.args.proxy c.cell.result.now c.cell.ensures.value
    c.in-Membrane.behind c.in-Membrane.shadow c.in-Membrane.is c.cell-2.result.now c.cell-2.ensures.value c.home-home.result
    c.home-home.ensures.value c.in-Proxy.target c.in-Proxy.handler c.in-Proxy.shape c.in-Proxy.is c.in_ok-target-in-Proxy.target
    c.in_ok-target-in-Proxy.was c.home.result c.home.ensures.value c.meant.result c.meant.ensures

pub returns-in_default-kind : goal.returns-in_default-kind
returns-in_default-kind c = record {
  view = plain-seen-as c.args.w.now c.requires.world c.args.proxy c.cell.result.now c.cell.ensures.value c.in-Membrane.behind
      c.in-Membrane.shadow c.in-Membrane.is c.cell-2.result.now c.cell-2.ensures.value c.home-home.result c.home-home.ensures.value
      c.in_default-kind.not-Proxy;
  sight = plain-sight-as c.args.w.now c.requires.world c.args.proxy c.cell.result.now c.cell.ensures.value c.in-Membrane.behind
      c.in-Membrane.shadow c.in-Membrane.is c.cell-2.result.now c.cell-2.ensures.value c.home-home.result c.home-home.ensures.value
      c.in_default-kind.not-Proxy;
  home = home-as c.args.w.now c.requires.world c.args.proxy c.cell.result.now c.cell.ensures.value c.in-Membrane.behind
      c.in-Membrane.shadow c.in-Membrane.is c.cell-2.result.now c.cell-2.ensures.value c.home-home.result c.home-home.ensures.value;
  shadow = shadow-as c.args.w.now c.requires.world c.args.proxy c.cell.result.now c.cell.ensures.value c.in-Membrane.behind
      c.in-Membrane.shadow c.in-Membrane.is c.cell-2.result.now c.cell-2.ensures.value c.home-home.result c.home-home.ensures.value;
}
