-- Marks of the table of built-ins.
use Rattle.std.specs.Prelude.{Bool, None, Option, Some, false}

-- a mark that is there and set
abbrev pub mark_of : Option Bool → Bool
mark_of None = false
mark_of (Some mark) = mark
