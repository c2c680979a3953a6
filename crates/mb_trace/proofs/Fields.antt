-- Fields of a descriptor, one after the other.
use Rattle.std.proofs.Common.{◌≡◌, ℕ, List, [], ◌∷◌, ◌++◌, Bool, true, false, refl, sym, ap, ◌∙◌, append_assoc, append-nil}
use Rattle.std.specs.List.{join_with_byte}
use Rattle.mb_trace.specs.machine.Told.{led}

joined-more : (fs : List (List ℕ)) (f : List ℕ) → join_with_byte 44 (f ∷ fs) ≡ f ++ led true fs
joined-more [] f = sym (append-nil f)
joined-more (g ∷ fs) f = ap (λ r. f ++ 44 ∷ r) (joined-more fs g)

pub joined : (fs : List (List ℕ)) → join_with_byte 44 fs ≡ led false fs
joined [] = refl
joined (f ∷ fs) = joined-more fs f

led-nil : (later : Bool) → led later [] ≡ []
led-nil true = refl
led-nil false = refl

-- from one field to the next, between braces
pub braced : (before opened last closed : List ℕ) (later : Bool) (fs : List (List ℕ)) → opened ≡ before ++ 123 ∷ []
    → last ++ led later [] ≡ opened ++ led false fs → closed ≡ last ++ 125 ∷ []
    → closed ≡ before ++ 123 ∷ (join_with_byte 44 fs ++ 125 ∷ [])
braced before opened last closed later fs opens between closes =
    let l : last ≡ opened ++ led false fs = sym (append-nil last) ∙ ap (λ r. last ++ r) (sym (led-nil later)) ∙ between in
    closes ∙ ap (λ x. x ++ 125 ∷ []) (l ∙ ap (λ o. o ++ led false fs) opens) ∙ append_assoc (before ++ 123 ∷ []) (led false fs) (125 ∷ [])
    ∙ append_assoc before (123 ∷ []) (led false fs ++ 125 ∷ []) ∙ ap (λ j. before ++ 123 ∷ (j ++ 125 ∷ [])) (sym (joined fs))
