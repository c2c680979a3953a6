-- Laws of the entries of a shelf.
use Rattle.std.proofs.Common.{◌≡◌, ◌<◌, ℕ, List, ◌∷◌, true, Some, sym, ◌∙◌, ap, length, drop-cons, get_or}
use Rattle.std.specs.Prelude.{String, Vec, suc, drop, string_bytes, slice_get, option_map, cond, refl}
use Rattle.std.specs.Str.{bytes_eq}
use Rattle.std.specs.declared.alloc.Global.{Global}
use Rattle.std.proofs.lemmas.Option.{slice_get-map, slice_get_read}
use Rattle.mb_outer.specs.Shelf.{held, entry_of, shelf_of}
use Rattle.mb_outer.specs.machine.Place.{rest_at}
use Rattle.mb_outer.specs.declared.place.Place.{Place}

abbrev pub Entry : Type 0
Entry = String Global × Vec ℕ Global

-- what is left of the text of an entry
pub rest_at-entry : (entries : List Entry) (place : Place) (entry : Entry) → slice_get entries place.entry ≡ Some entry
    → rest_at (shelf_of entries) (Some place) ≡ Some (drop place.offset entry.1.items)
rest_at-entry entries place entry found =
    ap (option_map (λ (e : List ℕ × List ℕ). drop place.offset e.1)) (slice_get-map entry_of entries place.entry ∙ ap (option_map entry_of) found)

-- the first entry with the name, where none before it has the name
pub held-first : (entries : List Entry) (k : ℕ) (entry : Entry) (name : List ℕ) → k < length entries → entry ≡ get_or entries k entry
    → bytes_eq (string_bytes entry.0) name ≡ true → held name (shelf_of entries) ≡ held name (shelf_of (drop k entries))
    → rest_at (shelf_of entries) (Some (record { entry = k; offset = 0 })) ≡ held name (shelf_of entries)
held-first entries k entry name within is same before =
    let from_here : drop k entries ≡ entry ∷ drop (suc k) entries = drop-cons entries k entry within ∙ ap (λ e. e ∷ drop (suc k) entries) (sym is) in
    let first : held name (shelf_of (entry ∷ drop (suc k) entries)) ≡ Some entry.1.items = ap (λ b. cond b (Some entry.1.items) (held name (shelf_of (drop (suc k) entries)))) same in
    rest_at-entry entries (record { entry = k; offset = 0 }) entry (slice_get_read entries (length entries) k entry refl within is)
    ∙ sym (before ∙ ap (λ es. held name (shelf_of es)) from_here ∙ first)
