use Rattle.std.proofs.Common.{◌≡◌, ◌++◌, ◌∷◌, take}
use Rattle.std.specs.List.{flat_map}
use Rattle.mb_world.specs.Image.{key_by}
use Rattle.mb_world.specs.EntryLine.{seen_key}
use Rattle.mb_trace.specs.machine.Told.{numbered}
use Rattle.mb_trace.proofs.part.push_more_keys.Given as goal

abbrev pub invariant-loop-key : goal.invariant-loop-key
invariant-loop-key l =
    l.out.items ≡ l.initial.out.items ++ flat_map (λ key. 44 ∷ seen_key (numbered l.w) (key_by l.w.texts key)) (take l.key-index l.keys)
