-- Turns of the loop over words.
use Rattle.std.proofs.Common.{◌≡◌, ◌∙◌, sym, ap, refl, ℕ, ◌+◌, ◌<◌, ◌≤◌, true, false, List, [], ◌∷◌, Option, Some, None, is_some, Err, map, length, drop, get_or, add-one, string_bytes, Global}
use Rattle.std.specs.Prelude.{String}
use Rattle.std.proofs.Math.Seq.{drop-cons}
use Rattle.std.proofs.lemmas.List.{drop_all}
use Rattle.mb_words.specs.declared.command.OptionName.{OptionName}
use Rattle.mb_words.specs.declared.fault.WordsFault.{WordsFault}
use Rattle.mb_words.specs.declared.fault.WordsFault.TheVariants.{Refused, NoMemory}
use Rattle.mb_words.specs.Words.{Word}
use Rattle.mb_words.specs.Parts.{cut, chosen}
use Rattle.mb_words.specs.machine.Scanning.{Slots, State, start, next, after, done, done_at, whole, Steps, Chooses}
use Rattle.mb_words.proofs.Cutting.{cut_is}

abbrev texts : List (String Global) → List Word
texts = map string_bytes

at_word : (names : List OptionName) (ws : List (String Global)) (i : ℕ) (d : String Global) (s : State) → i < length ws
    → after names (texts (drop i ws)) (Some s) ≡ after names (texts (drop (i + 1) ws)) (next names s (string_bytes (get_or ws i d)))
at_word names ws i d s lt =
    let e : drop i ws ≡ get_or ws i d ∷ drop (i + 1) ws = rw add-one (drop-cons ws i d lt) in
    ap (λ (rest : List (String Global)). after names (texts rest) (Some s)) e

pub fails : (names : List OptionName) (ws : List (String Global)) (i : ℕ) (d : String Global) (s : State) (fault : WordsFault)
    → i < length ws
    → after names (texts (drop i ws)) (Some s) ≡ after names (texts ws) (Some start)
    → (word : Word) → word ≡ string_bytes (get_or ws i d)
    → Steps (Err fault) (next names s word)
    → Chooses (Err fault) (chosen (cut names (texts ws)))
fails names ws i d s (Refused kind) lt before word is h =
    let none : after names (texts ws) (Some start) ≡ None =
    sym before ∙ at_word names ws i d s lt
    ∙ ap (after names (texts (drop (i + 1) ws))) (ap (next names s) (sym is) ∙ h.1) in
    (h.0, sym (cut_is names (texts ws)) ∙ ap done none)
fails names ws i d s NoMemory lt before word is h = tt

ended : (names : List OptionName) (ws : List (String Global)) (i : ℕ) (s : State) → length ws ≤ i
    → after names (texts (drop i ws)) (Some s) ≡ after names (texts ws) (Some start)
    → chosen (cut names (texts ws)) ≡ done (Some s)
ended names ws i s le before =
    let none : drop i ws ≡ [] = drop_all i ws le in
    sym (cut_is names (texts ws)) ∙ ap done (sym before ∙ ap (λ (rest : List (String Global)). after names (texts rest) (Some s)) none)

no_more : (waits : Option OptionName) (operands : List Word) (s : Slots) → is_some waits ≡ false
    → done_at waits operands s ≡ Some (whole operands s)
no_more None operands s e = refl
no_more (Some name) operands s e = cc

one_more : (waits : Option OptionName) (operands : List Word) (s : Slots) → is_some waits ≡ true → done_at waits operands s ≡ None
one_more None operands s e = cc
one_more (Some name) operands s e = refl

pub ends : (names : List OptionName) (ws : List (String Global)) (i : ℕ) (s : State) → length ws ≤ i
    → after names (texts (drop i ws)) (Some s) ≡ after names (texts ws) (Some start)
    → is_some s.waits ≡ false
    → chosen (cut names (texts ws)) ≡ Some (whole s.operands s.slots)
ends names ws i s le before e = ended names ws i s le before ∙ no_more s.waits s.operands s.slots e

pub waits_on : (names : List OptionName) (ws : List (String Global)) (i : ℕ) (s : State) → length ws ≤ i
    → after names (texts (drop i ws)) (Some s) ≡ after names (texts ws) (Some start)
    → is_some s.waits ≡ true
    → chosen (cut names (texts ws)) ≡ None
waits_on names ws i s le before e = ended names ws i s le before ∙ one_more s.waits s.operands s.slots e
