-- How a world is furnished, step by step.
use Rattle.std.specs.Prelude.{ℕ, ◌+◌, ◌*◌, ◌≡◌, ◌≤◌, List, [], ◌∷◌, ◌++◌, map, length, true, None, All}
use Rattle.std.specs.List.{flat_map}
use Rattle.mb_base.specs.declared.value.Side.{Side}
use Rattle.mb_base.specs.declared.value.Value.TheVariants as v
use Rattle.mb_text.specs.Texts.{KeepsIds, has_text}
use Rattle.mb_intrinsics.specs.Furnished.{full_of, full_texts, key_of, key_texts, value_of}
use Rattle.mb_world.specs.Data.{Data, closed, new_cell, put_in, with_cells, with_proto, with_texts}
use Rattle.mb_world.specs.Graph.{Property}
use Rattle.mb_world.specs.Intrinsics.{Intrinsic, intrinsics, place_of}
use Rattle.mb_world.specs.Value.{Val}
use Rattle.mb_world.specs.declared.cell.Cell.{Cell}
use Rattle.mb_world.specs.declared.cell.CellKind.TheVariants as kind

-- ---- texts

abbrev pub property_texts : Property → List (List ℕ)
property_texts p = key_texts p.key ++ full_texts p.full

abbrev pub properties_texts : List Property → List (List ℕ)
properties_texts ps = flat_map property_texts ps

abbrev pub AreThere : List (List ℕ) → List (List ℕ) → Type 0
AreThere texts ts = All (λ t. has_text texts t ≡ true) ts

-- these texts are there from then on, and nothing else changes
pub record Gains (d : Data) (ts : List (List ℕ)) (d' : Data) : Type 0 where
  pub stays : KeepsIds d.texts d'.texts
  pub there : AreThere d'.texts ts
  pub rest : d' ≡ with_texts d d'.texts

-- ---- cells

-- one property more
abbrev pub put_of : List (List ℕ) → Side → Property → Cell → Cell
put_of texts home p c = put_in (key_of texts p.key) (full_of texts home p.full) c

abbrev pub puts : List (List ℕ) → Side → List Property → Cell → Cell
puts texts home [] c = c
puts texts home (p ∷ ps) c = puts texts home ps (put_of texts home p c)

-- a bare cell with its prototype and properties, closed
abbrev pub filled : List (List ℕ) → Side → Val × List Property → Cell → Cell
filled texts home row c = closed (puts texts home row.1 (with_proto (value_of texts home row.0) c))

abbrev pub bare_cell : List (List ℕ) → Side → Intrinsic → Cell
bare_cell texts home i = new_cell texts home (kind.BuiltIn (place_of i)) v.Null None

abbrev pub bare_cells : List (List ℕ) → Side → List Cell
bare_cells texts home = map (bare_cell texts home) intrinsics

-- the cells alone change
abbrev pub OnlyCells : Data → Data → Type 0
OnlyCells d d' = d' ≡ with_cells d d'.cells

-- the built-ins of the side are there
abbrev pub HasCellsOf : Data → Side → Type 0
HasCellsOf d home = 80 * home.0 + 80 ≤ length d.cells
