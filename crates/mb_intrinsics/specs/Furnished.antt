-- A furnished world: the built-ins of the sides, and `desk`.
use Rattle.std.specs.Prelude.{ℕ, zero, suc, ◌+◌, ◌*◌, ◌-◌, ◌^◌, ◌≡◌, List, [], ◌∷◌, ◌++◌, map, Bool, true, false, Option, Some, None, All, codes, pos}
use Rattle.std.specs.List.{flat_map, position_or_len}
use Rattle.std.specs.Str.{bytes_eq as same_text}
use Rattle.mb_base.specs.declared.value.Key.{Key}
use Rattle.mb_base.specs.declared.value.Key.TheVariants as k
use Rattle.mb_base.specs.declared.value.ObjId.{ObjId}
use Rattle.mb_base.specs.declared.value.Side.{Side}
use Rattle.mb_base.specs.declared.value.StrId.{StrId}
use Rattle.mb_base.specs.declared.value.Value.{Value}
use Rattle.mb_base.specs.declared.value.Value.TheVariants as v
use Rattle.mb_desc.specs.declared.descriptor.Full.{Full}
use Rattle.mb_desc.specs.declared.descriptor.Full.TheVariants.{Datum, Accessor}
use Rattle.mb_text.specs.Texts.{KeepsIds, has_text}
use Rattle.mb_world.specs.Data.{Data}
use Rattle.mb_world.specs.Graph.{Property}
use Rattle.mb_world.specs.Intrinsics.{Intrinsic, intrinsics, place_of}
use Rattle.mb_world.specs.Key.{PropertyKey, Named, SymbolKey}
use Rattle.mb_world.specs.Standard.{object_prototype, properties_of, prototype_of}
use Rattle.mb_world.specs.Value.{Val, Undefined, Null, Truth, Whole, Text, Symbol, Object, BuiltIn}
use Rattle.mb_world.specs.declared.cell.Cell.{Cell}
use Rattle.mb_world.specs.declared.cell.CellKind.TheVariants as kind

-- ---- what stands for the table in a world

-- the id of a text: its place
abbrev pub id_of : List (List ℕ) → List ℕ → StrId
id_of texts t = record { 0 = position_or_len (same_text t) texts }

-- no key of the table spells an array index
abbrev pub key_of : List (List ℕ) → PropertyKey → Key
key_of texts (Named name) = k.Text (id_of texts name) (2 ^ 32 - 1)
key_of texts (SymbolKey n) = k.Symbol (record { 0 = n })

-- the cell of a home's built-in: the homes stand one after the other, and those of one home by their places
abbrev pub built_in_id : Side → ℕ → ObjId
built_in_id home place = record { 0 = 80 * home.0 + place }

abbrev pub value_of : List (List ℕ) → Side → Val → Value
value_of texts home Undefined = v.Undefined
value_of texts home Null = v.Null
value_of texts home (Truth b) = v.Bool b
value_of texts home (Whole z) = v.Whole z
value_of texts home (Text t) = v.Text (id_of texts t)
value_of texts home (Symbol n) = v.Symbol (record { 0 = n })
value_of texts home (Object n) = v.Object (record { 0 = n })
value_of texts home (BuiltIn place) = v.Object (built_in_id home place)

abbrev pub full_of : List (List ℕ) → Side → Full Val → Full Value
full_of texts home (Datum x w e c) = Datum (value_of texts home x) w e c
full_of texts home (Accessor g s e c) = Accessor (value_of texts home g) (value_of texts home s) e c

abbrev pub property_of : List (List ℕ) → Side → Property → Key × Full Value
property_of texts home p = (key_of texts p.key, full_of texts home p.full)

-- ---- the cells

-- a home's built-in, as the table has it: closed, and its properties in order of creation
abbrev pub standard_cell : List (List ℕ) → Side → Intrinsic → Cell
standard_cell texts home i = record {
  home = home;
  kind = kind.BuiltIn (place_of i);
  proto = value_of texts home (prototype_of i);
  extensible = false;
  props = map (property_of texts home) (properties_of i);
  label = None;
  slots = [];
}

-- one for a place, by place
abbrev pub standard_cells : List (List ℕ) → Side → List Cell
standard_cells texts home = map (standard_cell texts home) intrinsics

abbrev pub first_side : Side
first_side = record { 0 = 0 }

-- `desk`, which the first side owns: open, and without properties
abbrev pub desk_cell : List (List ℕ) → Cell
desk_cell texts = record {
  home = first_side;
  kind = kind.Plain;
  proto = value_of texts first_side object_prototype;
  extensible = true;
  props = [];
  label = Some (id_of texts (codes "desk"));
  slots = [];
}

-- so many sides, from that one on
abbrev pub sides_from : ℕ → ℕ → List Side
sides_from s zero = []
sides_from s (suc n) = record { 0 = s } ∷ sides_from (suc s) n

-- how many sides have built-ins of their own: in a joined world the first one's serve all
abbrev pub home_count : Bool → ℕ → ℕ
home_count true n = 1
home_count false n = n

abbrev pub homes : Bool → ℕ → List Side
homes joined n = sides_from 0 (home_count joined n)

abbrev pub furnished_cells : List (List ℕ) → Bool → ℕ → List Cell
furnished_cells texts joined n = flat_map (standard_cells texts) (homes joined n) ++ desk_cell texts ∷ []

-- `desk` stands behind all of them
abbrev pub desk_id : Bool → ℕ → ObjId
desk_id joined n = record { 0 = 80 * home_count joined n }

-- ---- the texts

abbrev pub key_texts : PropertyKey → List (List ℕ)
key_texts (Named name) = name ∷ []
key_texts (SymbolKey n) = []

abbrev pub value_texts : Val → List (List ℕ)
value_texts (Text t) = t ∷ []
value_texts x = []

abbrev pub full_texts : Full Val → List (List ℕ)
full_texts (Datum x w e c) = value_texts x
full_texts (Accessor g s e c) = value_texts g ++ value_texts s

-- the texts of the table
abbrev pub table_texts : List (List ℕ)
table_texts = flat_map (λ i. flat_map (λ p. key_texts p.key ++ full_texts p.full) (properties_of i)) intrinsics

-- each text that the built-ins need, and the label of `desk`, is there
abbrev pub HasTableTexts : List (List ℕ) → Type 0
HasTableTexts texts = All (λ t. has_text texts t ≡ true) (table_texts ++ codes "desk" ∷ [])

-- ---- the world

-- the built-ins of so many sides and `desk`, and nothing else, in a world that had no cells
pub record IsFurnished (d : Data) (n : ℕ) (d' : Data) : Type 0 where
  pub texts_stay : KeepsIds d.texts d'.texts
  pub texts_there : HasTableTexts d'.texts
  pub all : d' ≡ record d {
    texts = d'.texts;
    sides = n;
    cells = furnished_cells d'.texts d.joined n;
  }

-- a part of it, where memory ran out: the world is halted
pub record IsHalfFurnished (d : Data) (n : ℕ) (d' : Data) : Type 0 where
  pub texts_stay : KeepsIds d.texts d'.texts
  pub all : d' ≡ record d { texts = d'.texts; sides = n; cells = d'.cells; halted = true }
