use Rattle.std.proofs.Common.{map, take}
use Rattle.mb_intrinsics.specs.machine.Filling.{Gains, properties_texts}
use Rattle.mb_intrinsics.specs.machine.Table.{property_in}
use Rattle.mb_intrinsics.proofs.texts.intern_each.Given as goal

abbrev pub invariant-loop-key : goal.invariant-loop-key
invariant-loop-key l = Gains l.fn.w (properties_texts (map property_in (take l.key-index l.properties))) l.w
