-- The target's keys as they are parted.
use Rattle.std.specs.Prelude.{All, Bool, List, [], if◌then◌else◌, ◌++◌, ◌∷◌, ◌≡◌}
use Rattle.mb_base.specs.declared.value.Key.{Key}
use Rattle.mb_frames.specs.Held.{Held, HeldKeys}
use Rattle.mb_scriptproxy.specs.declared.keys.Parting.{Parting}
use Rattle.mb_world.specs.Data.{Data}
use Rattle.mb_world.specs.Ids.{KeyIn}

abbrev pub parting_held : Parting → List Held
parting_held at = HeldKeys at.said ∷ HeldKeys at.keys ∷ HeldKeys at.fixed ∷ HeldKeys at.loose ∷ []

pub record AreKeysIn (d : Data) (at : Parting) : Type 0 where
  pub said : All (KeyIn d) at.said
  pub fixed : All (KeyIn d) at.fixed
  pub loose : All (KeyIn d) at.loose

-- a key stands with those that are fixed, or with the others, and nothing else is another
pub record IsParted (at : Parting) (key : Key) (fixed : Bool) (now : Parting) : Type 0 where
  pub said : now.said ≡ at.said
  pub extensible : now.extensible ≡ at.extensible
  pub keys : now.keys ≡ at.keys
  pub next : now.next ≡ at.next
  pub fixed_keys : now.fixed ≡ (if fixed then at.fixed ++ (key ∷ []) else at.fixed)
  pub loose_keys : now.loose ≡ (if fixed then at.loose else at.loose ++ (key ∷ []))
