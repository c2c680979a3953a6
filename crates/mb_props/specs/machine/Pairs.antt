-- The two forms in which a table is kept.
use Rattle.std.specs.Prelude.{List}
use Rattle.mb_base.specs.declared.value.Key.{Key}
use Rattle.mb_props.specs.declared.pairs.Pairs.{Pairs}
use Rattle.mb_props.specs.declared.pairs.Pairs.TheVariants.{Few, Many}

-- the pairs that the form holds, in the order in which they were made
abbrev pub pairs_of : {P : Type 0} → Pairs P → List (Key × P)
pairs_of (Few list) = list.items
pairs_of (Many map) = map.value.entries
