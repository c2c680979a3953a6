-- The sides of two scripts.
use Rattle.mb_base.specs.declared.value.Side.{Side}

abbrev pub left_side : Side
left_side = record { 0 = 0 }

abbrev pub right_side : Side
right_side = record { 0 = 1 }
