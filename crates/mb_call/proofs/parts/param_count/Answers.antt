use Rattle.std.proofs.Common.{◌∙◌, ap, length, sym}
use Rattle.mb_call.proofs.PartsRead.{names-long}
use Rattle.mb_call.proofs.parts.param_count.Goals as goal
use Rattle.mb_call.specs.machine.Functions.{params_of}
use Rattle.mb_frames.specs.Told.{shapes_of}
use Rattle.mb_world.specs.Data.{program_of}
use Rattle.mb_world.specs.Image.{nodes_in}

pub returns-in-Some : goal.returns-in-Some
returns-in-Some c =
    let d = c.args.w.now in
    sym (names-long (nodes_in d.texts (shapes_of (program_of d c.args.home))) c.params_of.result.now)
    ∙ ap length (c.params_of.ensures.names c.args.home d)
    ∙ ap (λ f. length (params_of f)) c.in-Some.ensures.form
