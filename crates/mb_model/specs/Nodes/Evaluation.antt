use Rattle.std.specs.Prelude.{ℕ, Bool, true, false, Option, Some, None}
use Rattle.mb_world.specs.Value.{Val}
use Rattle.mb_model.specs.Task.{Task, Evaluate, Answer, Nothing}
use Rattle.mb_model.specs.Writing.{Does, give, answer, value}

-- where a node is evaluated (ECMA-262 9.4 execution contexts): the acting side, the scope, `this`
pub record Context : Type 0 where
  pub side : ℕ
  pub scope : ℕ
  pub this : Val

abbrev pub task : Context → ℕ → Task
task c n = Evaluate c.side n c.scope c.this

abbrev pub eval : Context → ℕ → Does Val
eval c n = value (task c n)

abbrev pub with_scope : Context → ℕ → Context
with_scope c sc = record c { scope = sc }

-- one of two parts, the second of which may be missing
abbrev pub branch : Context → ℕ → Option ℕ → Bool → Does Answer
branch c main other true = answer (task c main)
branch c main None false = give Nothing
branch c main (Some other) false = answer (task c other)
