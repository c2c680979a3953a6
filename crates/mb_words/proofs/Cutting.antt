-- What is read from left to right is what the words are cut into.
use Rattle.std.proofs.Common.{◌≡◌, ◌∙◌, sym, ap, refl, Bool, true, false, List, [], ◌∷◌, ◌++◌, Option, Some, None, if◌then◌else◌, append_assoc}
use Rattle.std.specs.Prelude.{option_and_then}
use Rattle.std.proofs.lemmas.List.{append-nil}
use Rattle.mb_words.specs.declared.command.OptionName.{OptionName}
use Rattle.mb_words.specs.Words.{Word, Role, marker, flag, opener, given, operand, wrong, role_of, operand_role, is_value}
use Rattle.mb_words.specs.Parts.{Parts, Chosen, cut, cut_from, cut_at, cut_behind, with_option, with_operand, chosen, choice_of, each_once}
use Rattle.mb_words.specs.machine.Scanning.{Slots, State, empty, start, put, held, at_role, behind_role, after, done, whole}
use Rattle.mb_words.proofs.Putting.{put_all, puts_all, merged}

abbrev state : List Word → Slots → Option OptionName → Bool → State
state operands s waits behind = record { operands = operands; slots = s; waits = waits; behind = behind }

abbrev finish : List Word → Option Slots → Option Chosen
finish operands None = None
finish operands (Some s) = Some (whole operands s)

abbrev joined : List Word → Slots → Option Parts → Option Chosen
joined operands s None = None
joined operands s (Some parts) = finish (operands ++ parts.operands) (put_all parts.options s)

abbrev rejoined : List Word → Option Slots → Option Parts → Option Chosen
rejoined operands None parts = None
rejoined operands (Some s) parts = joined operands s parts

put_then : (operands : List Word) (o : Option Slots) (parts : Parts)
    → finish (operands ++ parts.operands) (option_and_then (put_all parts.options) o) ≡ rejoined operands o (Some parts)
put_then operands None parts = refl
put_then operands (Some s) parts = refl

rejoined-none : (operands : List Word) (o : Option Slots) → None ≡ rejoined operands o None
rejoined-none operands None = refl
rejoined-none operands (Some s) = refl

joined-option : (name : OptionName) (value : Word) (operands : List Word) (s : Slots) (parts : Option Parts)
    → joined operands s (with_option (name, value) parts) ≡ rejoined operands (put name value s) parts
joined-option name value operands s None = rejoined-none operands (put name value s)
joined-option name value operands s (Some parts) = put_then operands (put name value s) parts

joined-operand : (word : Word) (operands : List Word) (s : Slots) (parts : Option Parts)
    → joined operands s (with_operand word parts) ≡ joined (operands ++ word ∷ []) s parts
joined-operand word operands s None = refl
joined-operand word operands s (Some parts) =
    ap (λ (all : List Word). finish all (put_all parts.options s)) (sym (append_assoc operands (word ∷ []) parts.operands))

-- what the words behind give, from any state
abbrev Behind : List OptionName → List Word → Type 0
Behind names words = (waits : Option OptionName) (behind : Bool) (operands : List Word) (s : Slots)
    → done (after names words (Some (state operands s waits behind))) ≡ joined operands s (cut_from names waits behind words)

module _ (names : List OptionName) (words : List Word) (rest : Behind names words) where
  holding : (operands : List Word) (behind : Bool) (o : Option Slots)
      → done (after names words (held operands behind o)) ≡ rejoined operands o (cut_from names None behind words)
  holding operands behind None = refl
  holding operands behind (Some s) = rest None behind operands s

  optioned : (name : OptionName) (value : Word) (behind : Bool) (operands : List Word) (s : Slots)
      → done (after names words (held operands behind (put name value s)))
      ≡ joined operands s (with_option (name, value) (cut_from names None behind words))
  optioned name value behind operands s =
      holding operands behind (put name value s)
      ∙ sym (joined-option name value operands s (cut_from names None behind words))

  operanded : (word : Word) (behind : Bool) (operands : List Word) (s : Slots)
      → done (after names words (Some (state (operands ++ word ∷ []) s None behind)))
      ≡ joined operands s (with_operand word (cut_from names None behind words))
  operanded word behind operands s =
      rest None behind (operands ++ word ∷ []) s ∙ sym (joined-operand word operands s (cut_from names None behind words))

  valued : (name : OptionName) (word : Word) (behind : Bool) (operands : List Word) (s : Slots) (b : Bool)
      → done (after names words (if b then held operands behind (put name word s) else None))
      ≡ joined operands s (if b then with_option (name, word) (cut_from names None behind words) else None)
  valued name word behind operands s true = optioned name word behind operands s
  valued name word behind operands s false = refl

  at : (operands : List Word) (s : Slots) (role : Role)
      → done (after names words (at_role role operands s))
      ≡ joined operands s (cut_at role (λ waits behind. cut_from names waits behind words))
  at operands s marker = rest None true operands s
  at operands s (flag name) = optioned name [] false operands s
  at operands s (opener name) = rest (Some name) false operands s
  at operands s (given name value) = optioned name value false operands s
  at operands s (operand word) = operanded word false operands s
  at operands s wrong = refl

  beyond : (operands : List Word) (s : Slots) (role : Role)
      → done (after names words (behind_role role operands s)) ≡ joined operands s (cut_behind role (cut_from names None true words))
  beyond operands s marker = refl
  beyond operands s (flag name) = refl
  beyond operands s (opener name) = refl
  beyond operands s (given name value) = refl
  beyond operands s (operand word) = operanded word true operands s
  beyond operands s wrong = refl

cuts : (names : List OptionName) (words : List Word) → Behind names words
cuts names [] None behind operands s = ap (λ (all : List Word). Some (whole all s)) (sym (append-nil operands))
cuts names [] (Some name) behind operands s = refl
cuts names (word ∷ words) (Some name) behind operands s =
    valued names words (cuts names words) name word behind operands s (is_value word)
cuts names (word ∷ words) None true operands s = beyond names words (cuts names words) operands s (operand_role word)
cuts names (word ∷ words) None false operands s = at names words (cuts names words) operands s (role_of names word)

chooses : (parts : Option Parts) → joined [] empty parts ≡ chosen parts
chooses None = refl
chooses (Some parts) = ap (finish parts.operands) (puts_all parts.options) ∙ go (each_once parts.options)
  where
    go : (b : Bool) → finish parts.operands (if b then Some (merged parts.options None None None false) else None)
        ≡ (if b then Some (choice_of parts) else None)
    go true = refl
    go false = refl

pub cut_is : (names : List OptionName) (words : List Word) → done (after names words (Some start)) ≡ chosen (cut names words)
cut_is names words = cuts names words None false [] empty ∙ chooses (cut names words)
