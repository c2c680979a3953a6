use Rattle.std.proofs.Common.{[], ap, ◌∙◌}
use Rattle.mb_scriptproxy.proofs.Targets.{no-array-in}
use Rattle.mb_scriptproxy.proofs.making.is_array.Goals as goal
use Rattle.mb_scriptproxy.specs.machine.Making.{is_array_kind}
use Rattle.mb_world.specs.Image.{kind_in, names_of}
use Rattle.mb_world.specs.declared.cell.CellKind.{CellKind}

pub returns-in-Array : goal.returns-in-Array
returns-in-Array c = λ log.
    let n = names_of c.args.w.now in
    c.real_kind.ensures.array log ∙ ap (λ (k : CellKind). is_array_kind (kind_in n [] k)) c.in-Array.is

pub returns-in_default : goal.returns-in_default
returns-in_default c = λ log.
    let n = names_of c.args.w.now in
    c.real_kind.ensures.array log ∙ no-array-in n c.real_kind.result.now c.in_default.not-Array
