-- How the parts of a line are told by ids.
use Rattle.std.specs.Prelude.{◌≡◌, ℕ, Bool, true, false, List, [], ◌∷◌, ◌++◌, All, Option, None, Some, codes}
use Rattle.std.specs.List.{join_with_byte}
use Rattle.mb_base.specs.declared.value.StrId.{StrId}
use Rattle.mb_base.specs.declared.value.Key.{Key}
use Rattle.mb_base.specs.declared.value.Key.TheVariants as k
use Rattle.mb_desc.specs.declared.descriptor.Desc.{Desc}
use Rattle.mb_text.specs.Spelling.{spelled}
use Rattle.mb_text.specs.Texts.{text_at}
use Rattle.mb_world.specs.declared.entry.Entry.{Entry}
use Rattle.mb_world.specs.declared.entry.Op.{Op}
use Rattle.mb_world.specs.declared.entry.Said.{Said}
use Rattle.mb_world.specs.declared.entry.Said.TheVariants as said
use Rattle.mb_world.specs.declared.entry.Seen.{Seen}
use Rattle.mb_world.specs.declared.entry.Seen.TheVariants as s
use Rattle.mb_world.specs.Value.{decimal}
use Rattle.mb_world.specs.Data.{Data}
use Rattle.mb_world.specs.Ids.{TextIn, Maybe}
use Rattle.mb_world.specs.Image.{entries_in}
use Rattle.mb_world.specs.Long.{long_of}
use Rattle.mb_world.specs.EntryLine.{numbered_texts, op_name, seen_text, side_letter}

-- the long texts of the trace, in the order of their numbers
abbrev pub numbered : Data → List (List ℕ)
numbered d = numbered_texts (entries_in d)

-- a text by its number, or in quotes where it has none
abbrev pub told_by : Option ℕ → List ℕ → List ℕ
told_by None t = 34 ∷ spelled true t ++ (34 ∷ [])
told_by (Some n) t = 126 ∷ decimal n

-- a text of the world, whose number in the world is its number in the trace
pub record IsTold (d : Data) (t : StrId) : Type 0 where
  pub text_in : TextIn d t
  pub told : told_by (long_of d t) (text_at d.texts t) ≡ seen_text (numbered d) (text_at d.texts t)

-- so are the texts of a part of an entry
abbrev pub KeyTold : Data → Key → Type 0
KeyTold d (k.Text text index) = IsTold d text
KeyTold d (k.Symbol symbol) = Unit {0}

abbrev pub SeenTold : Data → Seen → Type 0
SeenTold d (s.Text t) = IsTold d t
SeenTold d _ = Unit {0}

pub record DescTold (d : Data) (x : Desc Seen) : Type 0 where
  pub value_told : Maybe (SeenTold d) x.value
  pub get_told : Maybe (SeenTold d) x.get
  pub set_told : Maybe (SeenTold d) x.set

abbrev pub SaidTold : Data → Said → Type 0
SaidTold d (said.Plain x) = SeenTold d x
SaidTold d (said.Prop x) = DescTold d x
SaidTold d (said.Keys ks) = All (KeyTold d) ks
SaidTold d (said.Thrown x) = SeenTold d x
SaidTold d (said.Pair x y) = SeenTold d x × SeenTold d y
SaidTold d _ = Unit {0}

pub record EntryTold (d : Data) (e : Entry) : Type 0 where
  pub key_told : Maybe (KeyTold d) e.key
  pub given_told : SaidTold d e.given
  pub answer_told : SaidTold d e.answer

-- fields, with a comma before each but the first where none comes earlier
abbrev pub led : Bool → List (List ℕ) → List ℕ
led later [] = []
led true (f ∷ fs) = 44 ∷ f ++ led true fs
led false (f ∷ fs) = f ++ led true fs

abbrev pub comma_if : Bool → List ℕ
comma_if true = 44 ∷ []
comma_if false = []

-- the parts of a line in front of the key
abbrev pub head_of : Bool → (began side object : ℕ) → Op → List ℕ
head_of lettered began side object op = join_with_byte 32 (codes "T" ∷ decimal began ∷
    (side_letter lettered side ∷ []) ∷ (35 ∷ decimal object) ∷ op_name op ∷ [])
