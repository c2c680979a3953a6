-- The deletion of elements past a shorter length, over the keys of a world.
use Rattle.std.specs.Prelude.{◌≡◌, ◌+◌, ◌&&◌, nat_le, ℕ, List, [], ◌∷◌, map, All, Bool, true, false, Option, Some, None, if◌then◌else◌}
use Rattle.std.specs.Map.{keys_of}
use Rattle.mb_base.specs.declared.value.Key.{Key}
use Rattle.mb_base.specs.declared.value.Value.{Value}
use Rattle.mb_desc.specs.declared.descriptor.Desc.{Desc}
use Rattle.mb_desc.specs.declared.descriptor.Full.{Full}
use Rattle.mb_props.specs.Table.{found, without}
use Rattle.mb_props.specs.KeyOrder.{index_of, is_array_index}
use Rattle.mb_desc.specs.Descriptors.{is_fixed, property_is, denies}
use Rattle.mb_world.specs.Arrays.{indices_from}
use Rattle.mb_world.specs.Key.{indices}
use Rattle.mb_world.specs.Data.{Data}
use Rattle.mb_world.specs.Ids.{KeyIn}
use Rattle.mb_world.specs.Image.{names_of, key_in}

-- the array index of a key
abbrev pub index_in : Key → Option ℕ
index_in key = if is_array_index key then Some (index_of key) else None

-- a key that is an array index, and not below n
abbrev pub is_from : ℕ → Key → Bool
is_from n key = is_array_index key && nat_le n (index_of key)

-- the keys that stand for the array indices not below n, ascending, as the definition lists them
pub record AreIndicesFrom (d : Data) (n : ℕ) (props : List (Key × Full Value)) (from : List Key) : Type 0 where
  pub listed : map (λ k. (index_of k, key_in (names_of d) k)) from
      ≡ indices_from n (indices (map (key_in (names_of d)) (keys_of props)))
  pub there : All (KeyIn d) from
  pub high : All (λ k. is_from n k ≡ true) from

-- a table that was cut: what is left, its least length, and whether all went
pub record Cut : Type 0 where
  pub left : List (Key × Full Value)
  pub length : ℕ
  pub whole : Bool

-- the keys go in their order, down to the first that is fixed
abbrev pub cut_of : List Key → ℕ → List (Key × Full Value) → Cut
cut_of [] n props = record { left = props; length = n; whole = true }
cut_of (key ∷ keys) n props =
    if property_is is_fixed (found props key) then record { left = props; length = index_of key + 1; whole = false }
    else cut_of keys n (without props key)

-- writable false is put off
abbrev pub put_off : Desc Value → Desc Value
put_off desc = if denies desc.writable then record desc { writable = None } else desc
