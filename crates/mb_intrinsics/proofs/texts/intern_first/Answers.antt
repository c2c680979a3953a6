use Rattle.std.proofs.Common.{[], codes, ◌∷◌}
use Rattle.mb_intrinsics.proofs.Naming.{gains-then}
use Rattle.mb_intrinsics.proofs.texts.intern_first.Goals as goal

pub returns-clause-gains : goal.returns-clause-gains
returns-clause-gains c =
    rw c.in-Some.is
    (gains-then c.args.w.now c.intern.new.w c.intern-3.new.w (codes "length" ∷ [])
    (codes "name" ∷ c.in-Some.name.now ∷ [])
    c.in_ok-intern.ensures.gains
    (gains-then c.intern.new.w c.intern-2.new.w c.intern-3.new.w (codes "name" ∷ []) (c.in-Some.name.now ∷ [])
    c.in_ok-intern-2.ensures.gains c.in_ok-intern-3.ensures.gains))
