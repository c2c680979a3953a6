-- An array as the code makes it.
use Rattle.std.specs.Prelude.{◌-◌, ◌^◌, true, false, [], ◌∷◌, Option, pos}
use Rattle.mb_base.specs.declared.value.StrId.{StrId}
use Rattle.mb_base.specs.declared.value.Side.{Side}
use Rattle.mb_base.specs.declared.value.Key.TheVariants as k
use Rattle.mb_base.specs.declared.value.Value.{Value}
use Rattle.mb_base.specs.declared.value.Value.TheVariants as v
use Rattle.mb_desc.specs.declared.descriptor.Full.TheVariants.{Datum}
use Rattle.mb_world.specs.declared.cell.CellKind.TheVariants.{Array}
use Rattle.mb_world.specs.declared.cell.Cell.{Cell}

-- a new array, where the text `length` has that id
abbrev pub array_by : StrId → Side → Value → Option StrId → Cell
array_by text home proto label = record {
  home = home;
  kind = Array;
  proto = proto;
  extensible = true;
  props = (k.Text text (2 ^ 32 - 1), Datum (v.Whole (pos 0)) true false false) ∷ [];
  label = label;
  slots = [];
}
