-- Places outside the table of built-ins.
use Rattle.std.proofs.Common.{◌≡◌, ℕ, ◌≤◌, [], option_map, ap}
use Rattle.std.specs.Prelude.{unwrap_or}
use Rattle.std.proofs.lemmas.Option.{slice_get_past}
use Rattle.mb_world.specs.Intrinsics.{intrinsics, name_of}
use Rattle.mb_world.specs.EntryLine.{intrinsic_name}

pub no-name : (p : ℕ) → 80 ≤ p → intrinsic_name p ≡ []
no-name p l = ap (λ o. unwrap_or (option_map name_of o) []) (slice_get_past intrinsics p l)
