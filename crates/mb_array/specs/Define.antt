-- What a definition does to a cell: what the pure one does to the object that the cell is.
use Rattle.std.specs.Prelude.{◌≡◌, ◌<◌, ◌^◌, ◌++◌, [], ℕ, List, Bool, true, false, Option, Some, None, All, Contains, pos}
use Rattle.std.specs.List.{flat_map}
use Rattle.mb_base.specs.declared.value.Key.{Key}
use Rattle.mb_base.specs.declared.value.ObjId.{ObjId}
use Rattle.mb_base.specs.declared.value.Value.{Value}
use Rattle.mb_base.specs.declared.value.Value.TheVariants as v
use Rattle.mb_desc.specs.declared.descriptor.Desc.{Desc}
use Rattle.mb_desc.specs.declared.descriptor.Full.{Full}
use Rattle.mb_desc.specs.declared.descriptor.Full.TheVariants.{Datum}
use Rattle.mb_props.specs.Table.{found}
use Rattle.mb_world.specs.declared.cell.Cell.{Cell}
use Rattle.mb_world.specs.declared.cell.ErrorKind.TheVariants.{RangeError}
use Rattle.mb_world.specs.Value.{Val}
use Rattle.mb_world.specs.Key.{PropertyKey}
use Rattle.mb_world.specs.Graph.{Thing}
use Rattle.mb_world.specs.Ordinary.{Defined as Outcome, Refused, Becomes, Faulty}
use Rattle.mb_world.specs.Arrays.{defined}
use Rattle.mb_world.specs.Data.{Data, cell_at, length_key}
use Rattle.mb_world.specs.Formed.{full_values, IsBelow}
use Rattle.mb_world.specs.Image.{Names, names_of, Resolve, key_in, desc_in}
use Rattle.mb_array.specs.declared.Defined.{Defined}
use Rattle.mb_array.specs.declared.Defined.TheVariants.{Answer, Range, Kind}
use Rattle.mb_ordinary.specs.Objects.{object_of}
use Rattle.mb_ordinary.specs.Definitions.{desc_values}

-- ---- what is asked of an array

-- `length`: a fixed data property that no loop lists, a number below 2^32 that is above each index (ECMA-262 10.4.2)
pub record HasItsLength (texts : List (List ℕ)) (props : List (Key × Full Value)) : Type 0 where
  pub length : ℕ
  pub writable : Bool
  pub there : found props (length_key texts) ≡ Some (Datum (v.Whole (pos length)) writable false false)
  pub limit : length < 2 ^ 32
  pub above : All (λ p. IsBelow length p.0) props

-- ---- what is done

-- a pure definition, over the object that a cell is and over what a key and a descriptor stand for
abbrev pub on_object : (Thing → PropertyKey → Desc Val → Outcome) → Names → Key → Desc Value → Option Cell → Outcome
on_object f n key desc None = Refused
on_object f n key desc (Some c) = f (object_of n c) (key_in n key) (desc_in (Resolve n) desc)

-- [[DefineOwnProperty]] (ECMA-262 10.1.6, 10.4.2.1)
abbrev pub meant : Data → ObjId → Key → Desc Value → Outcome
meant d o key desc = on_object defined (names_of d) key desc (cell_at d o)

-- the answer
abbrev pub told : Outcome → Defined
told Refused = Answer false
told (Becomes t answer) = Answer answer
told (Faulty RangeError) = Range
told (Faulty kind) = Kind

-- the object afterwards
abbrev pub left : Outcome → Thing → Thing
left (Becomes t answer) before = t
left outcome before = before

abbrev pub changes : Outcome → Bool
changes (Becomes t answer) = true
changes outcome = false

-- ---- what stays

abbrev pub table_in : Option Cell → List (Key × Full Value)
table_in None = []
table_in (Some c) = c.props

-- the cell has other properties, and nothing else of it is other
abbrev pub with_table : List (Key × Full Value) → Cell → Cell
with_table props c = record c { props = props }

-- the values that stand in a table, or in the descriptor
abbrev pub known_values : List (Key × Full Value) → Desc Value → List Value
known_values props desc = flat_map (λ p. full_values p.1) props ++ desc_values desc

-- if it is an object, it is one of these values
abbrev pub IsKnown : List Value → Value → Type 0
IsKnown known (v.Object a) = Contains known (v.Object a)
IsKnown known x = Unit {0}

-- each object that stands in the property is one of these values
abbrev pub HoldsKnown : List Value → Key × Full Value → Type 0
HoldsKnown known p = All (IsKnown known) (full_values p.1)
