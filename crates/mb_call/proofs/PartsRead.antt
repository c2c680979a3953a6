-- Parts of nodes that are read by their places.
use Rattle.std.proofs.Common.{◌<◌, ◌≡◌, ◌≤◌, ◌∷◌, Bor, List, None, Option, Some, [], ap, get_or, length, option_map}
use Rattle.std.proofs.Common.{refl, slice_get, sym, suc, zero, ℕ}
use Rattle.std.proofs.lemmas.Option.{slice_get_past, slice_get_read}
use Rattle.std.specs.Option.{option_copied}
use Rattle.std.specs.Prelude.{IfSome, MatchOption}
use Rattle.mb_base.specs.declared.value.NodeId.{NodeId}
use Rattle.mb_frames.specs.Told.{numbers_of}
use Rattle.mb_world.specs.FormOf.{TreeNode, name_at, names_at}

-- a copy of what a slice has at a place
pub copied-at : (xs : List NodeId) (i : ℕ) (P : Bor NodeId → Type 0) (r : Option (Bor NodeId))
    → IfSome r (λ x. x.now ≡ get_or xs i x.now) → MatchOption r (length xs ≤ i) (λ x. (i < length xs) × P x)
    → option_copied r ≡ slice_get xs i
copied-at xs i P None h m = sym (slice_get_past xs i m)
copied-at xs i P (Some x) h m = sym (slice_get_read xs (length xs) i x.now refl m.0 h)

-- the name at a place
pub named-at : (ns : List TreeNode) (ids : List NodeId) (place : ℕ)
    → slice_get (names_at ns (numbers_of ids)) place
    ≡ option_map (λ (id : NodeId). name_at (slice_get ns id.0)) (slice_get ids place)
named-at ns [] place = refl
named-at ns (id ∷ ids) zero = refl
named-at ns (id ∷ ids) (suc place) = named-at ns ids place

pub names-long : (ns : List TreeNode) (ids : List NodeId) → length (names_at ns (numbers_of ids)) ≡ length ids
names-long ns [] = refl
names-long ns (id ∷ ids) = ap suc (names-long ns ids)
