-- The letters of a schedule, one after another.
use Rattle.std.proofs.Common.{List, [], ap, ap₂, get_or, length, map, sym, take, ℕ, ◌+◌, ◌++◌, ◌<◌, ◌≡◌, ◌∙◌, ◌∷◌}
use Rattle.std.proofs.lemmas.List.{map-append, map_more}
use Rattle.mb_cli.specs.Sharing.{letter_of as meant_by, letters_of}
use Rattle.mb_model.specs.Story as story
use Rattle.mb_story.specs.Running.{letter_of}
use Rattle.mb_story.specs.declared.schedule.Letter.{Letter}

pub letters_more : (word more : List Letter) (bytes : List ℕ) (k : ℕ) (l : Letter) → k < length bytes
    → more ≡ word ++ l ∷ [] → letter_of l ≡ meant_by (get_or bytes k 0)
    → map letter_of word ≡ letters_of (take k bytes) → map letter_of more ≡ letters_of (take (k + 1) bytes)
letters_more word more bytes k l within is one before =
    ap (map letter_of) is ∙ map-append letter_of word (l ∷ [])
    ∙ ap₂ (λ (xs : List story.Letter) (x : story.Letter). xs ++ x ∷ []) before one
    ∙ sym (map_more meant_by bytes k 0 within)
