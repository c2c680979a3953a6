use Rattle.std.proofs.Common.{◌≡◌, option_map, ℕ, ◌<◌, List, Some, map, get_or, slice_get, length, ap, ◌∙◌, Bor}
use Rattle.std.proofs.lemmas.Option.{slice_get-map, slice_get-get_or}
use Rattle.mb_world.proofs.intrinsics.name_at.Goals as goal

at : (xs : List (Bor (List ℕ))) (k : ℕ) (d : Bor (List ℕ)) → k < length xs → slice_get (map (λ x. x.now) xs) k ≡ Some (get_or xs k d).now
at xs k d l = slice_get-map (λ x. x.now) xs k ∙ ap (option_map (λ x. x.now)) (slice_get-get_or xs k d l)

pub returns : goal.returns
returns c = at c.args.names.now c.args.place _ c.requires
