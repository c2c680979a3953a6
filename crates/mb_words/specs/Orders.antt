-- The order of options.
use Rattle.std.specs.Prelude.{◌≡◌, Bool, true, false, List, ◌∷◌, ◌++◌, Some}
use Rattle.std.specs.List.{list_all}
use Rattle.std.specs.List.Sorted.{IsPermutation}
use Rattle.mb_words.specs.declared.command.Command.{Command}
use Rattle.mb_words.specs.Words.{Word, Role, flag, given, operand, command_of, options_of, role_of}
use Rattle.mb_words.specs.Parts.{Parts, cut}
use Rattle.mb_words.specs.Settings.{SettingsOf}

-- the same operands in the same order, and the same options with the same values in some order
pub record SameButForOrder (one other : Parts) : Type 0 where
  pub operands : one.operands ≡ other.operands
  pub options : IsPermutation one.options other.options

-- words of one command that differ in the order of their options alone give the same
abbrev pub OrderDoesNotMatter : Type 0
OrderDoesNotMatter =
    (word : Word) (command : Command) (words others : List Word) (one other : Parts)
    → command_of word ≡ Some command
    → cut (options_of command) words ≡ Some one
    → cut (options_of command) others ≡ Some other
    → SameButForOrder one other
    → SettingsOf (word ∷ words) ≡ SettingsOf (word ∷ others)

-- an option with all that belongs to it
abbrev pub is_whole_option : Role → Bool
is_whole_option (flag name) = true
is_whole_option (given name value) = true
is_whole_option _ = false

-- the same, or an operand
abbrev pub is_whole : Role → Bool
is_whole (operand word) = true
is_whole role = is_whole_option role

-- an option that stands in one word changes places with the word behind it, and the words give the same
abbrev pub NeighboursMayChange : Type 0
NeighboursMayChange =
    (word : Word) (command : Command) (front rest : List Word) (option other : Word)
    → command_of word ≡ Some command
    → list_all (λ w. is_whole (role_of (options_of command) w)) front ≡ true
    → is_whole_option (role_of (options_of command) option) ≡ true
    → is_whole (role_of (options_of command) other) ≡ true
    → SettingsOf (word ∷ (front ++ option ∷ other ∷ rest)) ≡ SettingsOf (word ∷ (front ++ other ∷ option ∷ rest))
