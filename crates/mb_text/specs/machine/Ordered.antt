-- The ordered index of a table of texts: from each text to its id.
use Rattle.std.specs.Prelude.{◌≡◌, ℕ, ◌+◌, List, [], ◌∷◌, Option, Some, None, if◌then◌else◌, Vec}
use Rattle.std.specs.Map.{lookup}
use Rattle.std.specs.Cmp.Lexicographic.{slice_cmp}
use Rattle.std.specs.declared.cmp.Ordering.{Ordering}
use Rattle.std.specs.Ordering.{is_eq, nat_cmp}
use Rattle.std.specs.Str.{bytes_eq as same_text}
use Rattle.mb_base.specs.declared.value.StrId.{StrId}

-- the id of a text in a list whose first text has this id
abbrev pub id_from : ℕ → List (List ℕ) → List ℕ → Option StrId
id_from first [] t = None
id_from first (x ∷ xs) t = if same_text t x then Some (record { 0 = first }) else id_from (first + 1) xs t

-- how a text stands to a key of the index
abbrev pub beside : {A : Type 0} → List ℕ → Vec ℕ A → Ordering
beside t key = slice_cmp nat_cmp t key.items

-- the id that the index has for a text
abbrev pub indexed : {A : Type 0} → List (Vec ℕ A × StrId) → List ℕ → Option StrId
indexed entries t = lookup (λ key. is_eq (beside t key)) entries

-- the index has the texts of the table and no other, each with its id
abbrev pub IsIndexOf : {A : Type 0} → List (Vec ℕ A × StrId) → List (List ℕ) → Type 0
IsIndexOf entries texts = (t : List ℕ) → indexed entries t ≡ id_from 0 texts t
