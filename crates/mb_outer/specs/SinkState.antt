-- A sink in memory as its callers see it, and what a put does.
use Rattle.std.specs.Prelude.{ℕ, ◌-◌, List, ◌++◌, Bool, ◌||◌, length, take, min, nat_lt, Option, Some, None, is_some, unwrap_or, if◌then◌else◌}
use Rattle.std.specs.Map.{keys_of}
use Rattle.mb_outer.specs.Counts.{one_more, next_of, none_above}
use Rattle.mb_outer.specs.declared.sink.Put.{Put}
use Rattle.mb_outer.specs.declared.sink.Put.TheVariants as put

-- the bytes so far, what is left of the room, the numbers of the puts that are to fail with how many bytes each takes,
-- and the numbers of puts and of faults so far
pub record SinkState : Type 0 where
  pub bytes : List ℕ
  pub left : ℕ
  pub failing : List (ℕ × ℕ)
  pub puts : ℕ
  pub faults : ℕ

-- the room that the sink tells: what is left, where no put fails any more by its number
abbrev pub room_told : SinkState → Option ℕ
room_told sink = if none_above (keys_of sink.failing) sink.puts then Some sink.left else None

-- how many bytes the next put takes, where it is to fail by its number
abbrev pub next_cut : SinkState → Option ℕ
next_cut sink = next_of sink.failing sink.puts

-- the next put of these bytes is a fault: by its number, or since they don't fit
abbrev pub next_fails : SinkState → List ℕ → Bool
next_fails sink bytes = is_some (next_cut sink) || nat_lt sink.left (length bytes)

-- which of these bytes the next put takes: those that fit, and no more than its number says
abbrev pub next_taken : SinkState → List ℕ → List ℕ
next_taken sink bytes = take (min (unwrap_or (next_cut sink) (length bytes)) sink.left) bytes

-- the sink after a put of these bytes
abbrev pub after_put : SinkState → List ℕ → SinkState
after_put sink bytes = record {
  bytes = sink.bytes ++ next_taken sink bytes;
  left = sink.left - length (next_taken sink bytes);
  failing = sink.failing;
  puts = one_more sink.puts;
  faults = if next_fails sink bytes then one_more sink.faults else sink.faults;
}

-- the answer of a put that is a fault, or none
abbrev pub put_answer : Bool → Put
put_answer fails = if fails then put.Failed else put.All
