-- What the answers of std's calls become.
use Rattle.std.specs.Prelude.{◌≡◌, ℕ, Result, Ok, Err, ⊤}
use Rattle.mb_outer.specs.Counts.{one_more}
use Rattle.mb_outer.specs.declared.library.Start.{Start}
use Rattle.mb_outer.specs.declared.library.Start.TheVariants as start
use Rattle.mb_outer.specs.declared.library.Got.{Got}
use Rattle.mb_outer.specs.declared.library.Got.TheVariants as got

-- the count of faults behind an answer: each error is one more
abbrev pub counted : {X E : Type 0} → ℕ → Result X E → ℕ
counted faults (Ok value) = faults
counted faults (Err error) = one_more faults

-- the answer of a start, by the opening of its file
abbrev pub start_of : {X E : Type 0} → Result X E → Start
start_of (Ok file) = start.Started
start_of (Err error) = start.Failed

-- the answer of a read, by the read of its file
abbrev pub got_of : {E : Type 0} → Result ℕ E → Got
got_of (Ok count) = got.Bytes count
got_of (Err error) = got.Failed

-- a write took no byte, or is an error
abbrev pub TookNone : {E : Type 0} → Result ℕ E → Type 0
TookNone (Ok count) = count ≡ 0
TookNone (Err error) = ⊤
