-- What the getters of `clap` give, and what they are for.
use Rattle.std.proofs.Common.{◌≡◌, ◌∙◌, sym, ap, refl, Bool, true, false, List, [], ◌∷◌, Option, Some, None, if◌then◌else◌, codes}
use Rattle.std.specs.Prelude.{option_map}
use Rattle.std.proofs.Common.{ap₂, subst}
use Rattle.clap.specs.declared.parser.matches.ArgMatches.{ArgMatches}
use Rattle.clap.specs.Words.{App, HasMatchesOf, found_of, is_simple, matched_of, matches_of, raw_values, takes}
use Rattle.clap.specs.Words.{Row, Text, rows_of, all_of, first_of, one_of, first_value, one_text}
use Rattle.clap.specs.declared.parser.matches.Found.{Found}
use Rattle.clap.proofs.WalkLemmas.{both, first_value-rows, one_text-rows, raw_values-rows}
use Rattle.mb_words.specs.declared.command.Command.{Command}
use Rattle.mb_words.specs.declared.command.Command.TheVariants.{Run, Shared, Check, Load, Sides}
use Rattle.mb_words.specs.declared.command.OptionName.{OptionName}
use Rattle.mb_words.specs.Words.{Word}
use Rattle.mb_words.specs.Parts.{Chosen}
use Rattle.mb_words.specs.Settings.{asked}
use Rattle.mb_words.specs.machine.Scanning.{Slots, whole}
use Rattle.mb_words.specs.machine.Matching.{Finds, IsOwn, own, has_option, label, value_in, flag_in, truth, app_for, in_order, takes_operands}
use Rattle.mb_words.proofs.Matched.{matched}

pub value_is : (command : Command) (name : OptionName) (f : Found) (id : Text) (r : Option Text)
    → true ≡ has_option command name → id ≡ label name → r ≡ first_value f id → r ≡ value_in command name (rows_of f)
value_is command name f id r has is e =
    e ∙ first_value-rows f id ∙ ap (λ (i : Text). first_of i (rows_of f)) is
    ∙ ap (λ (b : Bool). if b then first_of (label name) (rows_of f) else None) has

flag_is : (command : Command) (name : OptionName) (f : Found) (id : Text)
    → true ≡ has_option command name → id ≡ label name → one_text f id ≡ flag_in command name (rows_of f)
flag_is command name f id has is =
    one_text-rows f id ∙ ap (λ (i : Text). one_of i (rows_of f)) is
    ∙ ap (λ (b : Bool). if b then one_of (label name) (rows_of f) else Some (truth false)) has

pub flag_read : (command : Command) (name : OptionName) (f : Found) (id : Text) (r : Bool)
    → true ≡ has_option command name → id ≡ label name
    → (one_text f id ≡ Some (codes "true") → r ≡ true) → (one_text f id ≡ Some (codes "false") → r ≡ false)
    → (given : Bool) → flag_in command name (rows_of f) ≡ Some (truth given) → r ≡ given
flag_read command name f id r has is on off true h = on (flag_is command name f id has is ∙ h)
flag_read command name f id r has is on off false h = off (flag_is command name f id has is ∙ h)

own_operands : (command : Command) (c : Chosen) → c.operands ≡ (own command c).operands
own_operands Run c = refl
own_operands Shared c = refl
own_operands Check c = refl
own_operands Load c = refl
own_operands Sides c = refl

some_same : (a b : List Word) → Some a ≡ Some b → a ≡ b
some_same a b e = cc

-- the operands and values that were found are those of the command's own options
found_own : (command : Command) (c : Chosen) (rows : List Row) (operands : List Word) (s : Slots)
    → Finds command c rows → Some operands ≡ all_of (codes "operand") rows → IsOwn command rows s
    → whole operands s ≡ own command c
found_own command c rows operands s finds got is =
    let eo : operands ≡ (own command c).operands = some_same _ _ (got ∙ finds.0) ∙ own_operands command c in
    let ep : s.policy ≡ (own command c).policy = is.policy ∙ finds.1 in
    let es : s.schedule ≡ (own command c).schedule = is.schedule ∙ finds.2 in
    let eb : s.budget ≡ (own command c).budget = is.budget ∙ finds.3 in
    let et : s.traced ≡ (own command c).traced = is.traced _ finds.4 in
    λ i. record { operands = eo i; policy = ep i; schedule = es i; budget = eb i; traced = et i }

two_own : (operands : List Word) (c : Chosen) → asked Shared (record c { operands = operands; policy = None }) ≡ asked Shared (record c { operands = operands })
two_own [] c = refl
two_own (v ∷ []) c = refl
two_own (v ∷ w ∷ []) c = refl
two_own (v ∷ w ∷ x ∷ ws) c = refl

-- a command asks for nothing by an option that it hasn't
asked_own : (command : Command) (c : Chosen) → asked command (own command c) ≡ asked command c
asked_own Run c = refl
asked_own Sides c = refl
asked_own Shared c = two_own c.operands c
asked_own Check c = refl
asked_own Load c = refl

found_asked : (command : Command) (c : Chosen) (rows : List Row) (operands : List Word) (s : Slots)
    → Finds command c rows → Some operands ≡ all_of (codes "operand") rows → IsOwn command rows s
    → asked command (whole operands s) ≡ asked command c
found_asked command c rows operands s finds got is =
    ap (asked command) (found_own command c rows operands s finds got is) ∙ asked_own command c

-- what was chosen is found where `clap` gives the matches of the words in order
pub clap_found : (command : Command) (c : Chosen) (app : App) (ws : List Text) (m : ArgMatches)
    → app ≡ app_for command → ws ≡ in_order command c → takes_operands command c.operands ≡ true → HasMatchesOf app ws m
    → Finds command c (rows_of (found_of m))
clap_found command c app ws m ea ew fits has =
    let known = matched command c fits in
    let simple : is_simple app ≡ true = ap is_simple ea ∙ (both _ _ known.1).0 in
    let rows : rows_of (found_of m) ≡ matches_of (app_for command) (in_order command c) = (has simple).0 ∙ ap₂ matches_of ea ew in
    subst (Finds command c) (sym rows) known.0

pub clap_takes : (command : Command) (c : Chosen) (app : App) (ws : List Text)
    → app ≡ app_for command → ws ≡ in_order command c → takes_operands command c.operands ≡ true → takes app ws ≡ true
clap_takes command c app ws ea ew fits = ap₂ takes ea ew ∙ (matched command c fits).1

-- the operands are found
pub some_operands : (command : Command) (c : Chosen) (f : Found) → Finds command c (rows_of f)
    → None ≡ option_map raw_values (matched_of f (codes "operand")) → ⊥
some_operands command c f finds none =
    let bad : None ≡ Some c.operands = none ∙ raw_values-rows f (codes "operand") ∙ finds.0 in
    cc

pub found_all : (command : Command) (c : Chosen) (f : Found) (operands : List Word) (s : Slots) → Finds command c (rows_of f)
    → Some operands ≡ option_map raw_values (matched_of f (codes "operand")) → IsOwn command (rows_of f) s
    → asked command (whole operands s) ≡ asked command c
found_all command c f operands s finds got is =
    found_asked command c (rows_of f) operands s finds (got ∙ raw_values-rows f (codes "operand")) is
