use Rattle.std.proofs.Common.{refl, sym, ◌∙◌}
use Rattle.mb_engine.proofs.Words.{behind-word, real-word}
use Rattle.mb_frames.specs.Real.{IsRealKind}
use Rattle.mb_world.specs.Image.{names_of}
use Rattle.mb_engine.proofs.uncaught.kind_of.Goals as goal

pub returns-in-Membrane : goal.returns-in-Membrane
returns-in-Membrane c = λ log.
    let d = c.args.w.now in
    let b = c.cell-in-Membrane.result.now in
    let r : IsRealKind d c.cell.result.now.kind = rw c.cell.ensures.value at c.requires.real in
    let o = rw c.cell-in-Membrane.ensures.value at (rw c.in-Membrane.is at r) in
    c.word_of.ensures (names_of d) b.slots
    ∙ sym (behind-word d log c.args.id c.in-Membrane.behind c.in-Membrane.shadow c.cell.result.now b
    c.cell.ensures.value c.in-Membrane.is c.cell-in-Membrane.ensures.value o)

pub returns-in_default : goal.returns-in_default
returns-in_default c = λ log.
    let d = c.args.w.now in
    let x = c.cell.result.now in
    let r : IsRealKind d x.kind = rw c.cell.ensures.value at c.requires.real in
    c.word_of-in_default.ensures (names_of d) x.slots
    ∙ sym (real-word d log c.requires.ready c.args.id x x.kind c.cell.ensures.value refl r c.in_default.not-Membrane)
