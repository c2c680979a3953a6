-- Lists of property keys, of any sort of keys.
use Rattle.std.specs.Prelude.{Bool, true, not, ◌&&◌, List, [], ◌∷◌}
use Rattle.std.specs.List.{list_all, list_any}

module _ {K : Type 0} (same : K → K → Bool) where
  -- the key is one of the keys
  abbrev pub is_among : K → List K → Bool
  is_among key keys = list_any (λ there. same there key) keys

  -- each key is one of the others
  abbrev pub all_among : List K → List K → Bool
  all_among keys others = list_all (λ key. is_among key others) keys

  -- no key is there twice
  abbrev pub are_distinct : List K → Bool
  are_distinct [] = true
  are_distinct (key ∷ keys) = not (is_among key keys) && are_distinct keys
