use Rattle.std.proofs.Common.{[], ◌∷◌}
use Rattle.std.proofs.lemmas.Result.{err_from_is_err_and}
use Rattle.mb_base.specs.declared.value.Value.TheVariants as v
use Rattle.mb_frames.proofs.Readying.{symbol-changed}
use Rattle.mb_frames.specs.Held.{HeldTextIf}
use Rattle.mb_intrinsics.proofs.Sides.{given-after, halted}
use Rattle.mb_intrinsics.proofs.Symbols.{symbol-held, symbol-made}
use Rattle.mb_world.specs.Data.{with_symbol}
use Rattle.mb_intrinsics.proofs.basics.new_symbol.Goals as goal

pub returns-in_err-symbol-clause-keeps : goal.returns-in_err-symbol-clause-keeps
returns-in_err-symbol-clause-keeps c =
    let p = err_from_is_err_and c.from_residual.result c.from_residual.ensures.1 in
    rw (p.1, c.in_err-symbol.ensures.kept)
    (halted c.args.w.now c.args.home (HeldTextIf c.args.description ∷ []) c.requires.acting p.0)

pub returns-clause-row : goal.returns-clause-row
returns-clause-row c = λ f.
    rw (c.in_ok-symbol.ensures.made, c.value.ensures)
    (symbol-made c.args.home c.args.w.now c.args.description c.in_ok-symbol.symbol c.requires.acting.ready.ids
    c.in_ok-symbol.ensures.id f)

pub returns-clause-keeps : goal.returns-clause-keeps
returns-clause-keeps c =
    let d = c.args.w.now in
    let home = c.args.home in
    let a = c.requires.acting in
    rw (c.in_ok-symbol.ensures.made, c.value.ensures)
    (given-after d home (HeldTextIf c.args.description ∷ []) a (with_symbol d c.args.description)
    (symbol-changed home d a.ready c.args.description a.holds.0.within) (v.Symbol c.in_ok-symbol.symbol)
    (symbol-held d home c.args.description c.in_ok-symbol.symbol c.in_ok-symbol.ensures.id))
