-- What each of the calls within does, by the pure definition that it carries out.
use Rattle.std.specs.Prelude.{◌≡◌, ◌<◌, ◌^◌, ℕ, Bool, false, Option, Some, None, All, option_map, unwrap_or, pos, MatchResult, Ok, Err}
use Rattle.std.specs.declared.result.Result.{Result}
use Rattle.mb_base.specs.declared.NoMemory.{NoMemory}
use Rattle.mb_base.specs.declared.value.Key.{Key}
use Rattle.mb_base.specs.declared.value.ObjId.{ObjId}
use Rattle.mb_base.specs.declared.value.Value.{Value}
use Rattle.mb_base.specs.declared.value.Value.TheVariants as v
use Rattle.mb_desc.specs.declared.descriptor.Desc.{Desc}
use Rattle.mb_desc.specs.declared.descriptor.Full.{Full}
use Rattle.mb_desc.specs.declared.descriptor.Full.TheVariants.{Datum}
use Rattle.mb_desc.specs.Descriptors.{IsOfOneKind}
use Rattle.mb_world.specs.Ordinary.{Defined as Outcome}
use Rattle.mb_world.specs.Data.{Data, cell_at, property_at, change_cell, length_key, length_units}
use Rattle.mb_world.specs.Arrays.{as_length}
use Rattle.mb_world.specs.Formed.{IsBelow}
use Rattle.mb_world.specs.Key.{Named}
use Rattle.mb_text.specs.Texts.{AreDistinct}
use Rattle.mb_world.specs.declared.cell.Cell.{Cell}
use Rattle.mb_world.specs.Ids.{ObjIn, KeyIn, CellIn}
use Rattle.mb_world.specs.Image.{names_of, key_in}
use Rattle.mb_array.specs.declared.Defined.{Defined}
use Rattle.mb_array.specs.declared.Defined.TheVariants.{Range, Kind}
use Rattle.mb_ordinary.specs.Objects.{object_of}
use Rattle.mb_ordinary.specs.Definitions.{DescIn, TellsApart, compared}
use Rattle.mb_array.specs.Define.{told, left, changes, table_in, with_table, known_values, HoldsKnown}

-- the conditions of a definition
pub record CanDefine (d : Data) (o : ObjId) (key : Key) (desc : Desc Value) : Type 0 where
  pub object : ObjIn d o
  pub key_there : KeyIn d key
  pub desc_there : DescIn d desc
  pub one_kind : IsOfOneKind desc
  pub apart : TellsApart d (compared d o key desc)

-- the cell that an id names
pub record HasCell (d : Data) (o : ObjId) : Type 0 where
  pub cell : Cell
  pub there : cell_at d o ≡ Some cell
  pub within : CellIn d cell
  pub distinct : AreDistinct d.texts

-- the array's `length`, as it was read
pub record LengthIs (d : Data) (o : ObjId) (key : Key) (n : ℕ) (writable : Bool) : Type 0 where
  pub cell : HasCell d o
  pub key_is : key ≡ length_key d.texts
  pub named : key_in (names_of d) key ≡ Named length_units
  pub key_there : KeyIn d key
  pub there : property_at d o key ≡ Some (Datum (v.Whole (pos n)) writable false false)
  pub limit : n < 2 ^ 32
  pub above : All (λ p. IsBelow n p.0) (table_in (cell_at d o))

-- the length that a value asks for, or the answer that refuses it
abbrev pub length_or_range : Option ℕ → Result ℕ Defined
length_or_range (Some n) = Ok n
length_or_range None = Err Range

abbrev pub asked_length : Value → Result ℕ Defined
asked_length (v.Whole z) = length_or_range (as_length z)
asked_length value = Err Kind

-- the value and the writable flag of a `length`
abbrev pub length_parts : Option (Full Value) → ℕ × Bool
length_parts (Some (Datum (v.Whole z) writable e c)) = (unwrap_or (as_length z) 0, writable)
length_parts property = (0, false)

-- the cell is what the outcome says, all else is as before, and each object in it was there or was given
pub record Done (d : Data) (o : ObjId) (desc : Desc Value) (x : Outcome) (d' : Data) : Type 0 where
  pub cell : option_map (object_of (names_of d)) (cell_at d' o)
      ≡ option_map (left x) (option_map (object_of (names_of d)) (cell_at d o))
  pub rest : d' ≡ change_cell d o (with_table (table_in (cell_at d' o)))
  pub unchanged : changes x ≡ false → d' ≡ d
  pub objects : All (HoldsKnown (known_values (table_in (cell_at d o)) desc)) (table_in (cell_at d' o))

-- the call carries out that outcome, or memory wasn't there
abbrev pub Ends : Data → ObjId → Desc Value → Outcome → Result Defined NoMemory → Data → Type 0
Ends d o desc x r d' = MatchResult r (λ answer. (answer ≡ told x) × Done d o desc x d') (λ e. d' ≡ d)
