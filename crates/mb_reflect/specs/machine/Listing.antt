-- Values that stand for keys.
use Rattle.mb_base.specs.declared.value.Key.{Key}
use Rattle.mb_base.specs.declared.value.Key.TheVariants as k
use Rattle.mb_base.specs.declared.value.Value.{Value}
use Rattle.mb_base.specs.declared.value.Value.TheVariants as v

abbrev pub value_for : Key → Value
value_for (k.Text text index) = v.Text text
value_for (k.Symbol symbol) = v.Symbol symbol
