-- The array index that a text spells (ECMA-262, 6.1.7).
use Rattle.std.specs.Prelude.{ℕ, ◌-◌, ◌^◌, ◌&&◌, nat_lt, List, if◌then◌else◌, decimal}
use Rattle.std.specs.Str.{bytes_eq as same_text}
use Rattle.std.specs.Str.Parse.{digits_value}

-- stands for no array index
abbrev pub no_index : ℕ
no_index = 2 ^ 32 - 1

-- the number below 2^32 - 1 whose decimal text this is, if there is one
unfoldable pub index_of : List ℕ → ℕ
index_of text = let n = digits_value 10 text in if nat_lt n no_index && same_text (decimal n) text then n else no_index
