-- Neighbouring words change places.
use Rattle.std.proofs.Common.{◌≡◌, ◌∙◌, sym, ap, refl, subst, true, false, List, [], ◌∷◌, ◌++◌, Option, Some, None}
use Rattle.std.specs.List.{list_all}
use Rattle.std.proofs.lemmas.List.Sorted.{IsPermutation-refl, IsPermutation-cons, IsPermutation-append_left, IsPermutation-to_front}
use Rattle.clap.proofs.WalkLemmas.{both}
use Rattle.mb_words.specs.declared.command.Command.{Command}
use Rattle.mb_words.specs.declared.command.OptionName.{OptionName}
use Rattle.mb_words.specs.Words.{Word, Role, marker, flag, opener, given, operand, wrong, options_of, role_of}
use Rattle.mb_words.specs.Parts.{Given, Parts, cut, cut_from, cut_at, with_option, with_operand, chosen}
use Rattle.mb_words.specs.Settings.{by_command, by_choice}
use Rattle.mb_words.specs.Orders.{SameButForOrder, is_whole, is_whole_option, NeighboursMayChange}
use Rattle.mb_words.proofs.Ordered.{chosen_alike}

abbrev Alike : Option Parts → Option Parts → Type 0
Alike None None = Unit {0}
Alike (Some one) (Some other) = SameButForOrder one other
Alike _ _ = ⊥

alike : (parts : Option Parts) → Alike parts parts
alike None = tt
alike (Some parts) = record { operands = refl; options = IsPermutation-refl parts.options }

optioned : (o : Given) (a b : Option Parts) → Alike a b → Alike (with_option o a) (with_option o b)
optioned o None None h = tt
optioned o None (Some b) h = h
optioned o (Some a) None h = h
optioned o (Some a) (Some b) h =
    record { operands = h.operands; options = IsPermutation-cons o a.options b.options h.options }

operanded : (w : Word) (a b : Option Parts) → Alike a b → Alike (with_operand w a) (with_operand w b)
operanded w None None h = tt
operanded w None (Some b) h = h
operanded w (Some a) None h = h
operanded w (Some a) (Some b) h = record { operands = ap (λ (ws : List Word). w ∷ ws) h.operands; options = h.options }

swapped : (o p : Given) (parts : Option Parts)
    → Alike (with_option o (with_option p parts)) (with_option p (with_option o parts))
swapped o p None = tt
swapped o p (Some parts) = record {
  operands = refl;
  options = IsPermutation-append_left parts.options (o ∷ p ∷ []) (p ∷ o ∷ []) (IsPermutation-to_front (o ∷ []) p);
}

across : (o : Given) (w : Word) (parts : Option Parts)
    → Alike (with_option o (with_operand w parts)) (with_operand w (with_option o parts))
across o w None = tt
across o w (Some parts) = record { operands = refl; options = IsPermutation-refl (o ∷ parts.options) }

-- the parts that begin with a word that is whole
abbrev wrapped : Role → Option Parts → Option Parts
wrapped (flag name) parts = with_option (name, []) parts
wrapped (given name value) parts = with_option (name, value) parts
wrapped (operand word) parts = with_operand word parts
wrapped _ parts = None

unwrapped : (names : List OptionName) (role : Role) (words : List Word) → is_whole role ≡ true
    → cut_at role (λ waits behind. cut_from names waits behind words) ≡ wrapped role (cut_from names None false words)
unwrapped names marker words e = cc
unwrapped names (flag name) words e = refl
unwrapped names (opener name) words e = cc
unwrapped names (given name value) words e = refl
unwrapped names (operand word) words e = refl
unwrapped names wrong words e = cc

wrapping : (role : Role) (a b : Option Parts) → Alike a b → Alike (wrapped role a) (wrapped role b)
wrapping marker a b h = tt
wrapping (flag name) a b h = optioned (name, []) a b h
wrapping (opener name) a b h = tt
wrapping (given name value) a b h = optioned (name, value) a b h
wrapping (operand word) a b h = operanded word a b h
wrapping wrong a b h = tt

exchanged : (one other : Role) (parts : Option Parts) → is_whole_option one ≡ true → is_whole other ≡ true
    → Alike (wrapped one (wrapped other parts)) (wrapped other (wrapped one parts))
exchanged (flag n) (flag m) parts e f = swapped (n, []) (m, []) parts
exchanged (flag n) (given m v) parts e f = swapped (n, []) (m, v) parts
exchanged (flag n) (operand w) parts e f = across (n, []) w parts
exchanged (given n u) (flag m) parts e f = swapped (n, u) (m, []) parts
exchanged (given n u) (given m v) parts e f = swapped (n, u) (m, v) parts
exchanged (given n u) (operand w) parts e f = across (n, u) w parts
exchanged (flag n) marker parts e f = cc
exchanged (flag n) (opener m) parts e f = cc
exchanged (flag n) wrong parts e f = cc
exchanged (given n u) marker parts e f = cc
exchanged (given n u) (opener m) parts e f = cc
exchanged (given n u) wrong parts e f = cc
exchanged marker other parts e f = cc
exchanged (opener n) other parts e f = cc
exchanged (operand w) other parts e f = cc
exchanged wrong other parts e f = cc

option_is_whole : (role : Role) → is_whole_option role ≡ true → is_whole role ≡ true
option_is_whole marker e = cc
option_is_whole (flag name) e = refl
option_is_whole (opener name) e = cc
option_is_whole (given name value) e = refl
option_is_whole (operand word) e = refl
option_is_whole wrong e = cc

module _ (names : List OptionName) (option other : Word) (rest : List Word)
    (one : is_whole_option (role_of names option) ≡ true) (two : is_whole (role_of names other) ≡ true) where
  both_ways : Alike (cut names (option ∷ other ∷ rest)) (cut names (other ∷ option ∷ rest))
  both_ways =
      let a = role_of names option in
      let b = role_of names other in
      let whole = option_is_whole (role_of names option) one in
      let x = cut_from names None false rest in
      let first : cut names (option ∷ other ∷ rest) ≡ wrapped a (wrapped b x) =
      unwrapped names a (other ∷ rest) whole ∙ ap (wrapped a) (unwrapped names b rest two) in
      let second : cut names (other ∷ option ∷ rest) ≡ wrapped b (wrapped a x) =
      unwrapped names b (option ∷ rest) two ∙ ap (wrapped b) (unwrapped names a rest whole) in
      subst (λ (p : Option Parts). Alike p (cut names (other ∷ option ∷ rest))) (sym first)
      (subst (Alike (wrapped a (wrapped b x))) (sym second) (exchanged a b x one two))

  behind : (front : List Word) → list_all (λ w. is_whole (role_of names w)) front ≡ true
      → Alike (cut names (front ++ option ∷ other ∷ rest)) (cut names (front ++ other ∷ option ∷ rest))
  behind [] e = both_ways
  behind (word ∷ front) e =
      let role = role_of names word in
      let whole = (both _ _ e).0 in
      let h = behind front (both _ _ e).1 in
      let one_way = unwrapped names role (front ++ option ∷ other ∷ rest) whole in
      let other_way = unwrapped names role (front ++ other ∷ option ∷ rest) whole in
      subst (λ (p : Option Parts). Alike p (cut names (word ∷ (front ++ other ∷ option ∷ rest)))) (sym one_way)
      (subst (Alike (wrapped role (cut names (front ++ option ∷ other ∷ rest)))) (sym other_way) (wrapping role _ _ h))

settled : (command : Command) (a b : Option Parts) → Alike a b → by_choice command (chosen a) ≡ by_choice command (chosen b)
settled command None None h = refl
settled command None (Some b) h = absurd h
settled command (Some a) None h = absurd h
settled command (Some a) (Some b) h = ap (by_choice command) (chosen_alike a b h)

pub change : NeighboursMayChange
change word command front rest option other is whole one two =
    ap (λ (c : Option Command). by_command c (front ++ option ∷ other ∷ rest)) is
    ∙ settled command _ _ (behind (options_of command) option other rest one two front whole)
    ∙ sym (ap (λ (c : Option Command). by_command c (front ++ other ∷ option ∷ rest)) is)
