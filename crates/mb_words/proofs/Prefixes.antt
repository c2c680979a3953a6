-- What `strip_prefix` leaves, as a function.
use Rattle.std.proofs.Common.{◌≡◌, refl, ℕ, List, Option, Some, None, MatchOption, option_map, if◌then◌else◌, length, drop, true, false, nat_eq, ap, ◌∙◌, Bor}
use Rattle.std.specs.List.{starts_with}
use Rattle.std.specs.Str.Pattern.{FindsTextPrefix, StripsPrefix}
use Rattle.std.specs.Str.{IsCharBoundary}
use Rattle.std.proofs.lemmas.Str.Pattern.{starts_text}
use Rattle.mb_words.specs.machine.Scanning.{text}

pub stripped : (r : Option (Bor (List ℕ))) (n s : List ℕ)
    → MatchOption r (FindsTextPrefix n s None) (λ x. StripsPrefix (FindsTextPrefix n) s x.now)
    → option_map text r ≡ (if starts_with nat_eq s n then Some (drop (length n) s) else None)
stripped None n s h =
    let no : false ≡ starts_with nat_eq s n = starts_text false n s h in
    rw (← no) refl
stripped (Some x) n s h =
    let at_length : IsCharBoundary s h.0 = rw h.1.0 h.1.2 in
    let yes : true ≡ starts_with nat_eq s n = starts_text true n s (h.0, h.1, at_length) in
    rw (← yes) (ap Some (h.2 ∙ ap (λ k. drop k s) h.1.0))
