use Rattle.std.proofs.Common.{refl}
use Rattle.mb_frames.specs.Real.{IsRealKind}
use Rattle.mb_parts.proofs.Shaping.{behind-kind, real-kind}
use Rattle.mb_scriptproxy.proofs.Targets.{array-kind, proxy-kind}
use Rattle.mb_scriptproxy.proofs.making.real_kind.Goals as goal
use Rattle.mb_scriptproxy.specs.machine.Making.{is_array_kind}
use Rattle.mb_world.specs.Objects.{is_proxy_kind}

pub returns-in-Membrane-clause-proxy : goal.returns-in-Membrane-clause-proxy
returns-in-Membrane-clause-proxy c = λ log.
    let r : IsRealKind c.args.w.now c.cell.result.now.kind = rw c.cell.ensures.value at c.requires.real in
    let o = rw c.cell-in-Membrane.ensures.value at (rw c.in-Membrane.is at r) in
    behind-kind is_proxy_kind proxy-kind c.args.w.now log c.args.object c.in-Membrane.behind c.in-Membrane.shadow
    c.cell.result.now c.cell-in-Membrane.result.now c.cell.ensures.value c.in-Membrane.is
    c.cell-in-Membrane.ensures.value o

pub returns-in-Membrane-clause-array : goal.returns-in-Membrane-clause-array
returns-in-Membrane-clause-array c = λ log.
    let r : IsRealKind c.args.w.now c.cell.result.now.kind = rw c.cell.ensures.value at c.requires.real in
    let o = rw c.cell-in-Membrane.ensures.value at (rw c.in-Membrane.is at r) in
    behind-kind is_array_kind array-kind c.args.w.now log c.args.object c.in-Membrane.behind c.in-Membrane.shadow
    c.cell.result.now c.cell-in-Membrane.result.now c.cell.ensures.value c.in-Membrane.is
    c.cell-in-Membrane.ensures.value o

pub returns-in_default : goal.returns-in_default
returns-in_default c =
    let r : IsRealKind c.args.w.now c.cell.result.now.kind = rw c.cell.ensures.value at c.requires.real in
    record {
      proxy = λ log. real-kind is_proxy_kind proxy-kind c.args.w.now log c.args.object c.cell.result.now
          c.cell.result.now.kind c.cell.ensures.value refl r c.in_default.not-Membrane;
      array = λ log. real-kind is_array_kind array-kind c.args.w.now log c.args.object c.cell.result.now
          c.cell.result.now.kind c.cell.ensures.value refl r c.in_default.not-Membrane;
    }
