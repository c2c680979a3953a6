-- Lines as the code has them.
use Rattle.std.specs.Prelude.{◌≡◌, ℕ, List, ◌++◌, map, Vec}
use Rattle.std.specs.declared.alloc.Global.{Global}

abbrev pub contents_of : List (Vec ℕ Global) → List (List ℕ)
contents_of = map (λ v. v.items)

-- the first is a prefix of the second
abbrev pub IsPrefix : List ℕ → List ℕ → Type 0
IsPrefix front text = (rest : List ℕ) × (text ≡ front ++ rest)
