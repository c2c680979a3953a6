-- The order in which ownKeys lists the keys of a view (ECMA-262, 10.1.11.1).
use Rattle.std.specs.Prelude.{◌≡◌, ℕ, ◌<◌, Bool, ◌&&◌, List, [], ◌∷◌, ◌++◌}
use Rattle.std.specs.List.{AllByRecursion, list_any}
use Rattle.std.specs.Map.{keys_of}
use Rattle.mb_desc.specs.View.{View}
use Rattle.mb_view.specs.Views.{Sort, is_index, texts, symbols}

abbrev pub Ascends : {K : Type 0} → (K → ℕ) → List K → Type 0
Ascends number [] = Unit {0}
Ascends number (key ∷ keys) = AllByRecursion (λ later. number key < number later) keys × Ascends number keys

-- the array indices ascending, then the other texts and then the symbols, both in order of creation; `number` is the
-- number of an array index
pub record IsOwnKeys {K V : Type 0} (same_key : K → K → Bool) (sort_of : K → Sort) (number : K → ℕ)
    (view : View K V)
    (keys : List K) : Type 0 where
  pub indices : List K
  pub listed : keys ≡ indices ++ (texts sort_of view ++ symbols sort_of view)
  pub ascend : Ascends number indices
  pub members : (key : K)
      → list_any (same_key key) indices
      ≡ (is_index (sort_of key) && list_any (same_key key) (keys_of view.properties))
