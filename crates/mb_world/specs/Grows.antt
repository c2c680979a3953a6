-- A world that grew: its ids name what they named, and each reference stands for what it stood for.
use Rattle.std.specs.Prelude.{◌≤◌, ◌≡◌, length}
use Rattle.mb_base.specs.declared.value.StrId.{StrId}
use Rattle.mb_base.specs.declared.value.ObjId.{ObjId}
use Rattle.mb_text.specs.Texts.{text_at}
use Rattle.mb_world.specs.Data.{Data}
use Rattle.mb_world.specs.Ids.{TextIn, ObjIn}
use Rattle.mb_world.specs.Image.{names_of, object_in, number_at}

pub record Grows (d d' : Data) : Type 0 where
  pub texts_in : length d.texts ≤ length d'.texts
  pub symbols_in : length d.symbols ≤ length d'.symbols
  pub cells_in : length d.cells ≤ length d'.cells
  pub scopes_in : length d.scopes ≤ length d'.scopes
  pub same_text : (t : StrId) → TextIn d t → text_at d'.texts t ≡ text_at d.texts t
  pub same_object : (o : ObjId) → ObjIn d o → object_in (names_of d') o ≡ object_in (names_of d) o
  pub same_number : (o : ObjId) → ObjIn d o → number_at (names_of d') o.0 ≡ number_at (names_of d) o.0
