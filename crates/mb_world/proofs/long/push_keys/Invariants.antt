use Rattle.std.proofs.Common.{◌≡◌, ◌++◌, take, filter}
use Rattle.std.specs.List.{flat_map}
use Rattle.mb_world.specs.Long.{is_long, key_texts}
use Rattle.mb_world.proofs.long.push_keys.Given as goal

abbrev pub invariant-loop-key : goal.invariant-loop-key
invariant-loop-key l = l.found.items ≡ l.initial.found.items ++ filter (is_long l.texts) (flat_map key_texts (take l.key-index l.keys))
