-- What the machine reads of the bytes, and where they stop being UTF-8.
use Rattle.std.proofs.Common.{◌≡◌, ℕ, false, List, length, arith, sym, subst, ◌∙◌}
use Rattle.std.proofs.lemmas.List.{take_all}
use Rattle.std.specs.Str.{IsUtf8, IsValidUpTo, chars}
use Rattle.std.proofs.lemmas.Str.{utf8_valid_len-IsValidUpTo}
use Rattle.mb_lexer.specs.Reading.{Reads}
use Rattle.mb_lexer.specs.machine.Machine.{Answer, idle, run}
use Rattle.mb_lexer.proofs.Sound.{sound}

abbrev pub of : List ℕ → Answer
of bytes = run (idle 0 false) (chars bytes)

pub reads : (bytes : List ℕ) → Reads 0 false (chars bytes) (of bytes).tokens (of bytes).stop
reads bytes = (sound (chars bytes)).between 0 false

-- no bytes are UTF-8 and have a longest front that is
pub not_both : (bytes : List ℕ) (at : ℕ) → IsUtf8 bytes → IsValidUpTo bytes at → ⊥
not_both bytes at u v = v.longest (length bytes) v.short (subst IsUtf8 (sym (take_all (length bytes) bytes (omega arith))) u)

-- there is one such place
pub one_place : (bytes : List ℕ) (a b : ℕ) → IsValidUpTo bytes a → IsValidUpTo bytes b → a ≡ b
one_place bytes a b v w = sym (utf8_valid_len-IsValidUpTo bytes a v) ∙ utf8_valid_len-IsValidUpTo bytes b w
