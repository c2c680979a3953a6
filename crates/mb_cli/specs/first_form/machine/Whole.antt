-- What a read of a script gives.
use Rattle.std.specs.Prelude.{◌≡◌, ◌<◌, ◌≤◌, ℕ, List, length, Option, Some, None}
use Rattle.mb_text.specs.Texts.{AreDistinct}
use Rattle.mb_lexer.specs.Feeding.{Fed}
use Rattle.mb_cli.specs.declared.first_form.whole.Script.{Script}

-- the text of a name, or nothing where it has more bytes than these
abbrev pub IsWhole : ℕ → Option (List ℕ) → Option Script → Type 0
IsWhole most text (Some script) = (text ≡ Some script.bytes.items) × (length script.bytes.items ≤ most)
IsWhole most None None = ⊥
IsWhole most (Some text) None = most < length text

-- the lexer stands for the bytes
pub record IsLexed (script : Script) : Type 0 where
  pub fed : Fed script.lexer script.texts script.bytes.items
  pub distinct : AreDistinct script.texts
