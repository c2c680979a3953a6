-- Turns of the loop over options.
use Rattle.std.proofs.Common.{◌≡◌, ◌∙◌, sym, ap, ℕ, ◌+◌, ◌<◌, List, ◌∷◌, Option, Some, None, unwrap_or, length, drop, get_or, add-one}
use Rattle.std.proofs.Math.Seq.{drop-cons}
use Rattle.mb_words.specs.declared.command.OptionName.{OptionName}
use Rattle.mb_words.specs.Words.{Word, Role, role_by, option_role}

at_turn : (names : List OptionName) (i : ℕ) (d : OptionName) (word : Word) → i < length names
    → option_role (drop i names) word ≡ unwrap_or (role_by (get_or names i d) word) (option_role (drop (i + 1) names) word)
at_turn names i d word lt =
    let e : drop i names ≡ get_or names i d ∷ drop (i + 1) names = rw add-one (drop-cons names i d lt) in
    ap (λ (ns : List OptionName). option_role ns word) e

pub picks : (names : List OptionName) (i : ℕ) (d : OptionName) (word : Word) (role : Role) → i < length names
    → Some role ≡ role_by (get_or names i d) word
    → option_role (drop i names) word ≡ option_role names word
    → role ≡ option_role names word
picks names i d word role lt is before =
    ap (λ (o : Option Role). unwrap_or o (option_role (drop (i + 1) names) word)) is ∙ sym (at_turn names i d word lt) ∙ before

pub passes : (names : List OptionName) (i : ℕ) (d : OptionName) (word : Word) → i < length names
    → None ≡ role_by (get_or names i d) word
    → option_role (drop i names) word ≡ option_role names word
    → option_role (drop (i + 1) names) word ≡ option_role names word
passes names i d word lt is before =
    ap (λ (o : Option Role). unwrap_or o (option_role (drop (i + 1) names) word)) is ∙ sym (at_turn names i d word lt) ∙ before
