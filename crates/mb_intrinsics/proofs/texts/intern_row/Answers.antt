use Rattle.std.proofs.Common.{map}
use Rattle.std.proofs.lemmas.Grind.{flat_map-append}
use Rattle.mb_intrinsics.proofs.Naming.{gains-then}
use Rattle.mb_intrinsics.specs.machine.Filling.{property_texts}
use Rattle.mb_intrinsics.specs.machine.Table.{function_in, property_in}
use Rattle.mb_intrinsics.proofs.texts.intern_row.Goals as goal

pub returns-clause-gains : goal.returns-clause-gains
returns-clause-gains c =
    rw (flat_map-append property_texts (function_in c.args.row.1) (map property_in c.args.row.2.now))
    (gains-then c.args.w.now c.intern_first.new.w c.intern_each.new.w _ _ c.in_ok-intern_first.ensures.gains
    c.in_ok-intern_each.ensures.gains)
