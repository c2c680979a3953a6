use Rattle.std.proofs.Common.{refl}
use Rattle.mb_parts.proofs.Shaping.{behind-kind, calls-kind, constructs-kind, real-kind}
use Rattle.mb_frames.specs.Real.{IsRealKind}
use Rattle.mb_world.specs.Objects.{kind_calls, kind_constructs}
use Rattle.mb_parts.proofs.shapes.real_kind.Goals as goal

pub returns-in-Membrane-clause-calls : goal.returns-in-Membrane-clause-calls
returns-in-Membrane-clause-calls c = λ log.
    let r : IsRealKind c.args.w.now c.cell.result.now.kind = rw c.cell.ensures.value at c.requires.real in
    let o = rw c.cell-in-Membrane.ensures.value at (rw c.in-Membrane.is at r) in
    behind-kind kind_calls calls-kind c.args.w.now log c.args.object c.in-Membrane.behind c.in-Membrane.shadow
    c.cell.result.now c.cell-in-Membrane.result.now c.cell.ensures.value c.in-Membrane.is
    c.cell-in-Membrane.ensures.value o

pub returns-in-Membrane-clause-constructs : goal.returns-in-Membrane-clause-constructs
returns-in-Membrane-clause-constructs c = λ log.
    let r : IsRealKind c.args.w.now c.cell.result.now.kind = rw c.cell.ensures.value at c.requires.real in
    let o = rw c.cell-in-Membrane.ensures.value at (rw c.in-Membrane.is at r) in
    behind-kind kind_constructs constructs-kind c.args.w.now log c.args.object c.in-Membrane.behind c.in-Membrane.shadow
    c.cell.result.now c.cell-in-Membrane.result.now c.cell.ensures.value c.in-Membrane.is
    c.cell-in-Membrane.ensures.value o

pub returns-in_default : goal.returns-in_default
returns-in_default c =
    let r : IsRealKind c.args.w.now c.cell.result.now.kind = rw c.cell.ensures.value at c.requires.real in
    record {
      calls = λ log. real-kind kind_calls calls-kind c.args.w.now log c.args.object c.cell.result.now
          c.cell.result.now.kind
          c.cell.ensures.value refl r c.in_default.not-Membrane;
      constructs = λ log. real-kind kind_constructs constructs-kind c.args.w.now log c.args.object c.cell.result.now
          c.cell.result.now.kind
          c.cell.ensures.value refl r c.in_default.not-Membrane;
    }
