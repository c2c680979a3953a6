-- A table of texts. A text is the list of its 16-bit units, and an id is a place in the table.
use Rattle.std.specs.Prelude.{◌≡◌, ℕ, Bool, List, [], ◌∷◌, ◌++◌, if◌then◌else◌, Vec, map, slice_index_or}
use Rattle.std.specs.List.{list_any, IsDistinct}
use Rattle.std.specs.Str.{bytes_eq as same_text}
use Rattle.mb_base.specs.declared.value.StrId.{StrId}

-- the text is one of the texts
abbrev pub has_text : List (List ℕ) → List ℕ → Bool
has_text texts t = list_any (same_text t) texts

-- the texts with this one: last, unless it is there already
abbrev pub with_text : List (List ℕ) → List ℕ → List (List ℕ)
with_text texts t = if has_text texts t then texts else texts ++ t ∷ []

-- no text stands there twice
abbrev pub AreDistinct : List (List ℕ) → Type 0
AreDistinct texts = IsDistinct same_text texts

-- the text of an id of the table
abbrev pub text_at : List (List ℕ) → StrId → List ℕ
text_at texts id = slice_index_or texts id.0 []

-- the texts that these vectors hold
abbrev pub texts_of : {A : Type 0} → List (Vec ℕ A) → List (List ℕ)
texts_of vectors = map (λ v. v.items) vectors

-- each id of the old table names its text in the new one still
abbrev pub KeepsIds : List (List ℕ) → List (List ℕ) → Type 0
KeepsIds old new = (more : List (List ℕ)) × (new ≡ old ++ more)
