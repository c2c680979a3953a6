-- Places in the texts of a shelf, and what is left from there on.
use Rattle.std.specs.Prelude.{◌<◌, ◌≤◌, ℕ, List, length, take, drop, vec_len, Option, Some, None, IfSome, option_map, slice_get, String, Vec}
use Rattle.std.specs.declared.alloc.Global.{Global}
use Rattle.mb_outer.specs.Shelf.{Shelf}
use Rattle.mb_outer.specs.declared.place.Place.{Place}

-- what is left of a text from a place on
abbrev pub rest_at : Shelf → Option Place → Option (List ℕ)
rest_at shelf None = None
rest_at shelf (Some place) = option_map (λ entry. drop place.offset entry.1) (slice_get shelf place.entry)

-- at most so many bytes of a text from a place on
abbrev pub bytes_at : Shelf → Place → ℕ → Option (List ℕ)
bytes_at shelf place most = option_map (take most) (rest_at shelf (Some place))

-- the place is in the text of an entry, or at its end
abbrev pub IsOn : List (String Global × Vec ℕ Global) → Place → Type 0
IsOn entries place =
    (place.entry < length entries) × IfSome (slice_get entries place.entry) (λ entry. place.offset ≤ vec_len entry.1)
