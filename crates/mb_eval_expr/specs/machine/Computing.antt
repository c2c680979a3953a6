-- What operators give that ask no object.
use Rattle.std.specs.Cmp.Lexicographic.{slice_cmp}
use Rattle.std.specs.Ordering.{int_cmp, is_ge, is_gt, is_le, is_lt, nat_cmp}
use Rattle.std.specs.declared.cmp.Ordering.{Ordering}
use Rattle.std.specs.Prelude.{Bool, Err, None, Ok, Option, Result, Some, false, true, ℕ}
use Rattle.mb_eval_expr.specs.declared.computing.Computed.{Computed}
use Rattle.mb_eval_expr.specs.declared.computing.Computed.TheVariants as c
use Rattle.mb_frames.specs.Passing.{Passes}
use Rattle.mb_frames.specs.Stepping.{Unpaid, Written}
use Rattle.mb_frames.specs.declared.machine.Halt.{Halt}
use Rattle.mb_frames.specs.declared.machine.Halt.TheVariants.{Spent as SpentHalt, NoMemory}
use Rattle.mb_model.specs.Task.{Answer, Value as ValueAnswer}
use Rattle.mb_model.specs.Writing.{Does, Row, fail}
use Rattle.mb_tree.specs.declared.kind.Sign.{Sign}
use Rattle.mb_tree.specs.declared.kind.Sign.TheVariants.{Greater, GreaterEqual, Less, LessEqual, Minus, Percent, Slash}
use Rattle.mb_tree.specs.declared.kind.Sign.TheVariants.{Times}
use Rattle.mb_world.specs.Data.{Data}
use Rattle.mb_world.specs.Graph.{Graph}
use Rattle.mb_world.specs.Ids.{ValueIn}
use Rattle.mb_world.specs.Image.{Resolve, names_of}
use Rattle.mb_world.specs.Value.{Text, Val, Whole}

-- how the row goes on: with the value, or with an error of the side that computes
abbrev pub goes_with : ℕ → Data → Computed → (Answer → Graph → Row) → Graph → Row
goes_with s d (c.Value x) k = k (ValueAnswer (Resolve (names_of d) x))
goes_with s d (c.Faulty kind) k = fail s kind k

abbrev pub ValueOf : Data → Computed → Type 0
ValueOf d (c.Value x) = ValueIn d x
ValueOf d (c.Faulty kind) = Unit {0}

-- the part of a row that computes, whatever goes on with its answer
abbrev pub Computes : Result Computed Halt → ℕ → Data → Data → ℕ → ℕ → Does Answer → Type 0
Computes (Ok r) s d d' f f' p =
    ((k : Answer → Graph → Row) → Passes d d' f f' (p k) (goes_with s d' r k)) × ValueOf d' r
Computes (Err SpentHalt) s d d' f f' p =
    (k : Answer → Graph → Row) (begun : Bool) (l : Written) → Unpaid begun d d' f f' l l (p k)
Computes (Err NoMemory) s d d' f f' p = Unit {0}

-- the order of two whole numbers or texts
abbrev pub ordered_by : Val → Val → Option Ordering
ordered_by (Whole a) (Whole b) = Some (int_cmp a b)
ordered_by (Text a) (Text b) = Some (slice_cmp nat_cmp a b)
ordered_by a b = None

-- a comparison, in that order
abbrev pub holds : Sign → Ordering → Bool
holds Less order = is_lt order
holds Greater order = is_gt order
holds LessEqual order = is_le order
holds sign order = is_ge order

abbrev pub is_arithmetic : Sign → Bool
is_arithmetic Minus = true
is_arithmetic Times = true
is_arithmetic Slash = true
is_arithmetic Percent = true
is_arithmetic sign = false

abbrev pub is_ordering : Sign → Bool
is_ordering Less = true
is_ordering Greater = true
is_ordering LessEqual = true
is_ordering GreaterEqual = true
is_ordering sign = false
