use Rattle.std.proofs.Common.{Option, Some, ap, ◌∙◌}
use Rattle.mb_call.proofs.ArrayRows.{target-numbered, target-thing, thing-kind}
use Rattle.mb_call.proofs.arrays.object_is_array.Goals as goal
use Rattle.mb_model.specs.Operations.Calls.{array_target}
use Rattle.mb_world.specs.Graph.{Thing}
use Rattle.mb_world.specs.Image.{Image}
use Rattle.mb_world.specs.declared.cell.CellKind.TheVariants as kind

pub target_is_array-requires-clause-object : goal.target_is_array-requires-clause-object
target_is_array-requires-clause-object c =
    rw c.real.ensures.real
    (target-numbered c.args.w.now c.requires.ready c.args.id c.cell.result.now c.cell.ensures.value
    c.in_ok-target-in-Proxy.field-0 c.in-Proxy.handler c.in-Proxy.shape
    (rw c.in_ok-target-in-Proxy.was at c.in-Proxy.is))

pub returns-in_ok-target-in-Proxy : goal.returns-in_ok-target-in-Proxy
returns-in_ok-target-in-Proxy c = λ log k.
    let d = c.args.w.now in
    let cell = c.cell.result.now in
    let target = c.in_ok-target-in-Proxy.field-0 in
    let handler = c.in_ok-handler-in-Proxy.field-0 in
    thing-kind d c.args.side.0 log k c.args.id cell c.cell.ensures.value
    (kind.Proxy (Some target) (Some handler) c.in-Proxy.shape)
    (rw (c.in_ok-target-in-Proxy.was, c.in_ok-handler-in-Proxy.was) at c.in-Proxy.is)
    (rw c.if-cut.false at c.cut.ensures)
    ∙ ap (λ (o : Option Thing). array_target c.args.side.0 o k (Image d log))
    (target-thing d c.requires.ready c.args.id cell c.cell.ensures.value target c.in-Proxy.handler c.in-Proxy.shape
    (rw c.in_ok-target-in-Proxy.was at c.in-Proxy.is) log)
    ∙ (rw c.real.ensures.real at c.target_is_array.ensures) log k
