-- The line of an entry of a world.
use Rattle.std.specs.Prelude.{ℕ, Bool, List}
use Rattle.mb_world.specs.declared.entry.Entry.{Entry}
use Rattle.mb_world.specs.Data.{Data}
use Rattle.mb_world.specs.Image.{entry_in, entries_in}
use Rattle.mb_world.specs.EntryLine.{numbered_texts, entry_line}

-- the line of the entry that this one stands for, where the long texts of the world's trace are told by number
abbrev pub line_of : Data → Bool → Entry → List ℕ
line_of d lettered e = entry_line lettered (numbered_texts (entries_in d)) (entry_in d.texts e)
