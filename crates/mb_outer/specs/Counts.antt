-- Counts of 64 bits, which stay at their end, and lists of the calls that are to fail.
use Rattle.std.specs.Prelude.{ℕ, ◌+◌, ◌-◌, ◌^◌, min, Bool, ◌&&◌, List, nat_eq, nat_le, nat_lt, Option, None, if◌then◌else◌}
use Rattle.std.specs.List.{list_all, list_any}
use Rattle.std.specs.Map.{lookup}

-- one more, up to the end
abbrev pub one_more : ℕ → ℕ
one_more count = min (count + 1) (2 ^ 64 - 1)

-- after so many calls there is a number for one more
abbrev pub has_next : ℕ → Bool
has_next calls = nat_lt calls (2 ^ 64 - 1)

-- after so many calls, the next one is in the list
abbrev pub names_next : List ℕ → ℕ → Bool
names_next numbers calls = has_next calls && list_any (nat_eq (calls + 1)) numbers

-- after so many calls, what the first pair for the next one says
abbrev pub next_of : List (ℕ × ℕ) → ℕ → Option ℕ
next_of pairs calls = if has_next calls then lookup (nat_eq (calls + 1)) pairs else None

-- no number is above that of the last call
abbrev pub none_above : List ℕ → ℕ → Bool
none_above numbers calls = list_all (λ number. nat_le number calls) numbers
