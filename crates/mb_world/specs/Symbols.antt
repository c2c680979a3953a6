use Rattle.std.specs.Prelude.{ℕ, List, [], ◌∷◌, ◌++◌, Option, Some, None, unwrap_or, slice_get, codes}
use Rattle.mb_world.specs.Key.{PropertyKey, Named, SymbolKey}
use Rattle.mb_world.specs.Graph.{Graph}

-- the symbols of a graph (ECMA-262 6.1.5)

abbrev pub description_in : Option (Option (List ℕ)) → Option (List ℕ)
description_in None = None
description_in (Some d) = d

-- a symbol's description, if it has one
abbrev pub description : Graph → ℕ → Option (List ℕ)
description g n = description_in (slice_get g.symbols n)

-- SymbolDescriptiveString (ECMA-262 20.4.3.3.1)
abbrev pub symbol_text : Graph → ℕ → List ℕ
symbol_text g n = codes "Symbol(" ++ unwrap_or (description g n) [] ++ codes ")"

abbrev pub bracketed : Option (List ℕ) → List ℕ
bracketed None = []
bracketed (Some d) = 91 ∷ d ++ (93 ∷ [])

-- a key as the name of a function (ECMA-262 10.2.9 SetFunctionName)
abbrev pub key_name : Graph → PropertyKey → List ℕ
key_name g (Named t) = t
key_name g (SymbolKey n) = bracketed (description g n)
