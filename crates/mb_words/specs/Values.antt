-- Numbers, schedules and budgets as words.
use Rattle.std.specs.Prelude.{slice_index, ℕ, ◌+◌, [], length, take, Bool, false, not, ◌&&◌, ◌||◌, nat_eq, nat_lt, nat_le, Option, Some, None, if◌then◌else◌}
use Rattle.std.specs.List.{list_all, position}
use Rattle.std.specs.Str.Parse.{digits_value}
use Rattle.mb_words.specs.declared.command.Command.{Command}
use Rattle.mb_words.specs.declared.command.Command.TheVariants.{Run, Shared, Sides}
use Rattle.mb_words.specs.Words.{Word}

abbrev pub is_digit : ℕ → Bool
is_digit b = nat_le 48 b && nat_le b 57

-- `0`, or digits of which the first isn't `0`
abbrev pub is_number : Word → Bool
is_number word = nat_lt 0 (length word)
    && (list_all is_digit word && (not (nat_eq (slice_index word 0) 48) || nat_eq (length word) 1))

-- the number that the word writes, where it is one from the least to the most
abbrev pub number_of : ℕ → ℕ → Word → Option ℕ
number_of least most word =
    if is_number word && (nat_le least (digits_value 10 word) && nat_le (digits_value 10 word) most)
    then Some (digits_value 10 word)
    else None

-- the letters of a schedule: those of the sides, and `X`, at which the membrane is revoked
abbrev pub is_letter : Command → ℕ → ℕ → Bool
is_letter Run sides b = nat_eq b 76 || (nat_eq b 82 || nat_eq b 88)
is_letter Shared sides b = nat_eq b 76 || nat_eq b 82
is_letter Sides sides b = (nat_le 65 b && nat_lt b (65 + sides)) || nat_eq b 88
is_letter _ sides b = false

abbrev pub past_the_most : Word → Option ℕ
past_the_most word = if nat_lt 10000 (length word) then Some 10000 else None

abbrev pub first_of : Option ℕ → Option ℕ → Option ℕ
first_of (Some at) other = Some at
first_of None other = other

-- the place of the first byte that is no letter among the first 10,000, or 10,000 in a longer word
abbrev pub schedule_fault : Command → ℕ → Word → Option ℕ
schedule_fault command sides word =
    first_of (position (λ b. not (is_letter command sides b)) (take 10000 word)) (past_the_most word)

abbrev pub budget_of : Option Word → Option ℕ
budget_of None = Some 1000000
budget_of (Some word) = number_of 0 4000000 word

abbrev pub schedule_of : Option Word → Word
schedule_of None = []
schedule_of (Some word) = word
