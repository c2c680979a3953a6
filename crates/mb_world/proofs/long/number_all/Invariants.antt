use Rattle.std.proofs.Common.{◌≡◌, ◌≤◌, ◌+◌, length, take, fold}
use Rattle.indexmap.specs.IndexSet.{spare, insert_key}
use Rattle.mb_world.specs.Long.{same_id}
use Rattle.mb_world.proofs.long.number_all.Given as goal

abbrev pub invariant-loop-text : goal.invariant-loop-text
invariant-loop-text l = (l.long.keys ≡ fold (insert_key same_id) l.initial.long.keys (take l.text-index l.found)) × (length l.found ≤ l.text-index + spare l.long)
