use Rattle.std.proofs.Common.{[], codes, refl, sym, ◌∷◌}
use Rattle.mb_intrinsics.proofs.Changes.{change-same, put-step}
use Rattle.mb_intrinsics.proofs.Rows.{no-function}
use Rattle.mb_intrinsics.specs.declared.table.Given.TheVariants as given
use Rattle.mb_intrinsics.specs.machine.Table.{given_property}
use Rattle.mb_intrinsics.proofs.standard.put_first.Goals as goal

pub returns-in_default-clause-put : goal.returns-in_default-clause-put
returns-in_default-clause-put c =
    rw (no-function c.args.function c.in_default.not-Some) (sym (change-same c.args.w.now c.args.id))

pub returns-clause-put : goal.returns-clause-put
returns-clause-put c =
    rw c.in-Some.is
    (put-step c.args.w.now c.put.new.w c.put-2.new.w c.args.id c.args.home
    (given_property (codes "length") (given.Whole c.in-Some.length) ∷ [])
    (given_property (codes "name") (given.Text c.in-Some.name)) c.in_ok-put.ensures.put c.in_ok-put-2.ensures.put)
