-- When the answers of a library and of a sink come, and what each says of the bytes.
use Rattle.std.specs.Prelude.{◌≡◌, ℕ, ◌-◌, ◌^◌, ◌≤◌, ◌<◌, ◌⊎◌, List, [], ◌++◌, length, take, Option, Some, None, ⊤}
use Rattle.mb_outer.specs.Shelf.{Shelf, held}
use Rattle.mb_outer.specs.declared.library.Start.{Start}
use Rattle.mb_outer.specs.declared.library.Start.TheVariants as start
use Rattle.mb_outer.specs.declared.library.Got.{Got}
use Rattle.mb_outer.specs.declared.library.Got.TheVariants as got
use Rattle.mb_outer.specs.declared.sink.Put.{Put}
use Rattle.mb_outer.specs.declared.sink.Put.TheVariants as put

-- a count of 64 bits rose: it became greater, or stands at its end
abbrev pub IsRaised : ℕ → ℕ → Type 0
IsRaised before now = (before < now) ⊎ (now ≡ 2 ^ 64 - 1)

-- a failed start: the count of faults rose; any other start leaves the count as it was
abbrev pub StartHasCause : ℕ → ℕ → Start → Type 0
StartHasCause before now start.Started = now ≡ before
StartHasCause before now start.Failed = (before ≤ now) × IsRaised before now

-- a failed read: the count of faults rose; any other read leaves the count as it was
abbrev pub GotHasCause : ℕ → ℕ → Got → Type 0
GotHasCause before now (got.Bytes n) = now ≡ before
GotHasCause before now got.Failed = (before ≤ now) × IsRaised before now

-- a failed put: the count of faults rose; a whole put leaves the count as it was
abbrev pub PutHasCause : ℕ → ℕ → Put → Type 0
PutHasCause before now put.All = now ≡ before
PutHasCause before now put.Failed = (before ≤ now) × IsRaised before now

-- a text is started only under a name that the shelf has, where the shelf is told, and then it is the text of that
-- name; after a failure nothing is started
abbrev pub Starts : Option Shelf → List ℕ → Option (List ℕ) → Start → Type 0
Starts None name rest start.Started = ⊤
Starts (Some shelf) name rest start.Started = (text : List ℕ) × (held name shelf ≡ Some text) × (rest ≡ Some text)
Starts shelf name rest start.Failed = rest ≡ None

-- where the rest of a text is told, the bytes read are its next ones and what is left is told too; no byte is read
-- into a buffer that isn't empty only at the end of the text
abbrev pub Gets : Option (List ℕ) → Option (List ℕ) → List ℕ → Got → Type 0
Gets None new into answer = ⊤
Gets (Some rest) new into (got.Bytes n) =
    (left : List ℕ) × (new ≡ Some left) × (rest ≡ take n into ++ left) × (n ≡ 0 → 0 < length into → left ≡ [])
Gets (Some rest) new into got.Failed = ⊤

-- at most as many bytes as the buffer has
abbrev pub GotWithin : Got → List ℕ → Type 0
GotWithin (got.Bytes n) into = n ≤ length into
GotWithin got.Failed into = ⊤

-- where the bytes so far are told, a whole put appends all bytes, and a failed one a prefix of them
abbrev pub Puts : Option (List ℕ) → Option (List ℕ) → List ℕ → Put → Type 0
Puts None new bytes answer = ⊤
Puts (Some taken) new bytes put.All = new ≡ Some (taken ++ bytes)
Puts (Some taken) new bytes put.Failed = (n : ℕ) × (new ≡ Some (taken ++ take n bytes))

-- where a room is told, bytes that fit are all taken, and lower it by their number
abbrev pub FitsIn : Option ℕ → Option ℕ → List ℕ → Put → Type 0
FitsIn None new bytes answer = ⊤
FitsIn (Some room) new bytes answer = length bytes ≤ room → (answer ≡ put.All) × (new ≡ Some (room - length bytes))
