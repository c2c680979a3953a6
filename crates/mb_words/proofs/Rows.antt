-- Lists of words and what the definition gives for them.
use Rattle.std.proofs.Common.{◌≡◌, refl, [], ◌∷◌, List, Some, None, Ok, Err, true, false, codes}
use Rattle.mb_words.specs.declared.fault.WordsKind.TheVariants.{Usage, Schedule, Budget}
use Rattle.mb_words.specs.Words.{Word}
use Rattle.mb_words.specs.Settings.{Reading, SettingsOf, to_run, to_load, to_run_sides}

abbrev run_with : List Word → Reading
run_with words = SettingsOf (codes "run" ∷ codes "l" ∷ codes "r" ∷ words)

no_word : SettingsOf [] ≡ Err Usage
no_word = refl

help : SettingsOf (codes "--help" ∷ []) ≡ Err Usage
help = refl

one_operand : SettingsOf (codes "run" ∷ codes "l" ∷ []) ≡ Err Usage
one_operand = refl

three_operands : run_with (codes "x" ∷ []) ≡ Err Usage
three_operands = refl

anywhere : SettingsOf (codes "run" ∷ codes "--trace" ∷ codes "l" ∷ codes "r" ∷ codes "--budget=12" ∷ [])
    ≡ Ok (to_run (codes "l") (codes "r") None [] 12 true)
anywhere = refl

before_the_command : SettingsOf (codes "--trace" ∷ codes "run" ∷ codes "l" ∷ codes "r" ∷ []) ≡ Err Usage
before_the_command = refl

behind_two_hyphens : SettingsOf (codes "run" ∷ codes "--" ∷ codes "-l" ∷ codes "r" ∷ [])
    ≡ Ok (to_run (codes "-l") (codes "r") None [] 1000000 false)
behind_two_hyphens = refl

two_hyphens_twice : SettingsOf (codes "run" ∷ codes "--" ∷ codes "--" ∷ codes "r" ∷ [])
    ≡ Ok (to_run (codes "--") (codes "r") None [] 1000000 false)
two_hyphens_twice = refl

given_twice : run_with (codes "--budget" ∷ codes "5" ∷ codes "--budget" ∷ codes "6" ∷ []) ≡ Err Usage
given_twice = refl

empty_value : run_with (codes "--budget=" ∷ []) ≡ Err Usage
empty_value = refl

without_a_value : run_with (codes "--budget" ∷ []) ≡ Err Usage
without_a_value = refl

a_value_with_a_hyphen : run_with (codes "--policy" ∷ codes "-p" ∷ []) ≡ Err Usage
a_value_with_a_hyphen = refl

a_hyphen_alone : run_with (codes "--policy" ∷ codes "-" ∷ [])
    ≡ Ok (to_run (codes "l") (codes "r") (Some (codes "-")) [] 1000000 false)
a_hyphen_alone = refl

trace_with_a_value : run_with (codes "--trace=1" ∷ []) ≡ Err Usage
trace_with_a_value = refl

bad_letter : run_with (codes "--schedule" ∷ codes "LQ" ∷ []) ≡ Err (Schedule 1)
bad_letter = refl

leading_zero : run_with (codes "--budget" ∷ codes "01" ∷ []) ≡ Err Budget
leading_zero = refl

too_large : run_with (codes "--budget" ∷ codes "4000001" ∷ []) ≡ Err Budget
too_large = refl

usage_first : run_with (codes "--schedule=Q" ∷ codes "--budget=x" ∷ codes "--help" ∷ []) ≡ Err Usage
usage_first = refl

schedule_second : run_with (codes "--budget=x" ∷ codes "--schedule=Q" ∷ []) ≡ Err (Schedule 0)
schedule_second = refl

no_revocation_on_one_graph : SettingsOf (codes "shared" ∷ codes "l" ∷ codes "r" ∷ codes "--schedule" ∷ codes "LX" ∷ [])
    ≡ Err (Schedule 1)
no_revocation_on_one_graph = refl

three_sides : SettingsOf (codes "sides" ∷ codes "a" ∷ codes "b" ∷ codes "c" ∷ codes "--schedule" ∷ codes "CAB" ∷ [])
    ≡ Ok (to_run_sides (codes "a" ∷ codes "b" ∷ codes "c" ∷ []) None (codes "CAB") 1000000 false)
three_sides = refl

no_fourth_side : SettingsOf (codes "sides" ∷ codes "a" ∷ codes "b" ∷ codes "c" ∷ codes "--schedule" ∷ codes "D" ∷ [])
    ≡ Err (Schedule 0)
no_fourth_side = refl

a_load : SettingsOf (codes "load" ∷ codes "4294967295" ∷ codes "5000" ∷ []) ≡ Ok (to_load 4294967295 5000)
a_load = refl

a_start_too_large : SettingsOf (codes "load" ∷ codes "4294967296" ∷ codes "1" ∷ []) ≡ Err Usage
a_start_too_large = refl

a_size_too_large : SettingsOf (codes "load" ∷ codes "0" ∷ codes "5001" ∷ []) ≡ Err Usage
a_size_too_large = refl

two_zeros : SettingsOf (codes "load" ∷ codes "00" ∷ codes "1" ∷ []) ≡ Err Usage
two_zeros = refl
