-- The code units of a text, one character after the other.
use Rattle.std.proofs.Common.{◌≡◌, ℕ, List, [], ◌∷◌, ◌++◌, refl, sym, ap, ◌∙◌, append_assoc, map}
use Rattle.std.proofs.lemmas.List.{append-nil}
use Rattle.std.specs.Char.Escape.{encode_utf16}
use Rattle.std.specs.List.{flat_map}

-- one more character
pub units-push : (cs : List ℕ) (c : ℕ) → flat_map encode_utf16 (cs ++ c ∷ []) ≡ flat_map encode_utf16 cs ++ encode_utf16 c
units-push [] c = append-nil (encode_utf16 c)
units-push (d ∷ cs) c =
    ap (λ t. encode_utf16 d ++ t) (units-push cs c) ∙ sym (append_assoc (encode_utf16 d) (flat_map encode_utf16 cs) (encode_utf16 c))

pub map_same : (xs : List ℕ) → map (λ x. x) xs ≡ xs
map_same [] = refl
map_same (x ∷ xs) = ap (λ t. x ∷ t) (map_same xs)
