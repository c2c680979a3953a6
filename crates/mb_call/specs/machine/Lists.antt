-- Lists that are being read.
use Rattle.std.specs.Prelude.{List, None, Option, Some, [], length, option_map, ℕ, ◌++◌, ◌∷◌, ◌≡◌}
use Rattle.mb_base.specs.declared.value.Key.{Key}
use Rattle.mb_base.specs.declared.value.ObjId.{ObjId}
use Rattle.mb_base.specs.declared.value.Value.{Value}
use Rattle.mb_frames.specs.Resolved.{values_in}
use Rattle.mb_frames.specs.Rest.Calls.{after_list, asks_keys}
use Rattle.mb_frames.specs.declared.calls.AfterList.{AfterList}
use Rattle.mb_model.specs.Operations.Calls.{list_from}
use Rattle.mb_model.specs.Task.{Answer}
use Rattle.mb_model.specs.Writing.{◌>>=◌, Does}
use Rattle.mb_world.specs.Data.{Data}
use Rattle.mb_world.specs.Ids.{KeyIn, Maybe}
use Rattle.mb_world.specs.Image.{Names, Resolve, key_in, names_of, object_in}
use Rattle.mb_world.specs.Key.{key_of}

-- the elements that are left, after those that were got, and what follows
abbrev pub rest_of_list : Names → ℕ → ObjId → (left : ℕ) → List Value → AfterList → Does Answer
rest_of_list n s list left done after =
    list_from s (asks_keys after) (object_in n list) left (length done) (values_in n done) >>= after_list n s after

abbrev pub key_if : Option Key → List Key
key_if None = []
key_if (Some key) = key ∷ []

-- the key that the value is, if it is one, comes last
pub record IsAdded (d d' : Data) (x : Value) (keys more : List Key) : Type 0 where
  pub key : Option Key
  pub is : more ≡ keys ++ key_if key
  pub means : option_map (key_in (names_of d')) key ≡ key_of (Resolve (names_of d) x)
  pub within : Maybe (KeyIn d') key
