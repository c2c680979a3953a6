-- What of a key is hashed.
use Rattle.std.specs.Prelude.{ℕ}
use Rattle.mb_base.specs.declared.value.Key.{Key}
use Rattle.mb_base.specs.declared.value.Key.TheVariants.{Text, Symbol}

-- the number of its id
abbrev pub hashed_number : Key → ℕ
hashed_number (Text text _index) = text.0
hashed_number (Symbol symbol) = symbol.0
