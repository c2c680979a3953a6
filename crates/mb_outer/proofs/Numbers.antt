-- Laws of the lists of calls that are to fail.
use Rattle.std.proofs.Common.{◌≡◌, ◌≤◌, ◌+◌, ℕ, List, [], ◌∷◌, true, false, arith, refl, ap}
use Rattle.std.specs.Prelude.{nat_eq, Option, None, option_map}
use Rattle.std.specs.List.{list_any, find}
use Rattle.std.specs.Map.{lookup, keys_of}
use Rattle.std.proofs.lemmas.Grind.{common_steps}
use Rattle.mb_outer.specs.Counts.{names_next, none_above}

-- a number above all of the list is not in it
any-above : (numbers : List ℕ) (calls : ℕ) → none_above numbers calls ≡ true → list_any (nat_eq (calls + 1)) numbers ≡ false
any-above [] calls h = refl
any-above (number ∷ numbers) calls h = grind (arith, common_steps, any-above numbers calls)

-- where no number is above that of the last call, the next call is none of them
pub names_next-none_above : (numbers : List ℕ) (calls : ℕ) → none_above numbers calls ≡ true → names_next numbers calls ≡ false
names_next-none_above numbers calls h = grind (arith, common_steps, any-above numbers calls h)

-- what the first pair of a number says
pub lookup-found : (number : ℕ) (pairs : List (ℕ × ℕ)) (pair : Option (ℕ × ℕ)) → pair ≡ find (λ (p : ℕ × ℕ). nat_eq number p.0) pairs
    → option_map (λ (p : ℕ × ℕ). p.1) pair ≡ lookup (nat_eq number) pairs
lookup-found number [] pair is = ap (option_map (λ (p : ℕ × ℕ). p.1)) is
lookup-found number (first ∷ pairs) pair is = grind (arith, common_steps, lookup-found number pairs)

-- a number above all of the list stands in no pair
pub lookup-above : (pairs : List (ℕ × ℕ)) (calls : ℕ) → none_above (keys_of pairs) calls ≡ true → lookup (nat_eq (calls + 1)) pairs ≡ None
lookup-above [] calls h = refl
lookup-above (pair ∷ pairs) calls h = grind (arith, common_steps, lookup-above pairs calls)

pub none_above-later : (numbers : List ℕ) (calls later : ℕ) → calls ≤ later → none_above numbers calls ≡ true → none_above numbers later ≡ true
none_above-later [] calls later le h = refl
none_above-later (number ∷ numbers) calls later le h = grind (arith, common_steps, none_above-later numbers calls later le)

-- the laws that the counting functions need
pub ruleset sound_calls = (names_next-none_above, lookup-above, none_above-later)
