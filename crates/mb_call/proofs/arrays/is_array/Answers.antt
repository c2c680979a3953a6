use Rattle.std.proofs.Common.{Option, ap, ◌∙◌}
use Rattle.mb_call.proofs.ArrayRows.{real-thing}
use Rattle.mb_call.proofs.arrays.is_array.Goals as goal
use Rattle.mb_model.specs.Operations.Calls.{array_thing_is}
use Rattle.mb_world.specs.Graph.{Thing}
use Rattle.mb_world.specs.Image.{Image}

pub returns-in-Object : goal.returns-in-Object
returns-in-Object c = λ log k.
    let d = c.args.w.now in
    rw c.in-Object.is
    (ap (λ (o : Option Thing). array_thing_is c.args.side.0 o k (Image d log))
    (real-thing d c.requires.ready c.in-Object.id (rw c.in-Object.is at c.requires.value)
    (rw c.in-Object.is at c.requires.real) log)
    ∙ (rw c.real.ensures.real at c.object_is_array.ensures) log k)
