-- What a parser of statements answers, and what it has read.
use Rattle.std.specs.Prelude.{◌≡◌, ℕ, List, []}
use Rattle.mb_base.specs.declared.value.NodeId.{NodeId}
use Rattle.mb_token.specs.declared.token.Spanned.{Spanned}
use Rattle.mb_tree.specs.Roses.{Rose, Roses, Shape}
use Rattle.mb_tree.specs.machine.Operands.{pushed, written, places}
use Rattle.mb_grammar.specs.declared.level.Level.{Level}
use Rattle.mb_grammar.specs.Grammar.{Statements}
use Rattle.mb_parse_stmt.specs.declared.machine.Stop.{Stop}
use Rattle.mb_parse_stmt.specs.declared.machine.Frame.{Frame}
use Rattle.mb_parse_stmt.specs.declared.machine.Mode.{Mode}
use Rattle.mb_parse_stmt.specs.machine.Machine.{State, Going, Wants, Ends, Leads}
use Rattle.mb_tree.specs.machine.Stack.{laid}
use Rattle.mb_parse_stmt.specs.machine.Covers.{IsStop, Good}

-- what is read stands there, and all statements that stand there up to a stop are read from here on
pub record Progress (stop : Stop) (ts : List Spanned) (start : ℕ) (state : State) : Type 0 where
  pub sound : Good stop ts start state
  pub complete : (parts : Roses) (k : ℕ) → Statements ts parts start k → IsStop stop ts k → Leads stop ts state (Ends (pushed parts []) k)

-- the code's lists hold what is read
pub record Reading (stop : Stop) (ts : List Spanned) (start : ℕ) (base : List Shape) (frames : List Frame) (mode : Mode) (at : ℕ) (ids : List NodeId) (shapes : List Shape) : Type 0 where
  pub fs : List Frame
  pub rs : List Rose
  pub frames_are : frames ≡ laid fs
  pub ids_are : ids ≡ places base rs
  pub shapes_are : shapes ≡ written base rs
  pub progress : Progress stop ts start (Going fs rs mode at)

-- the same where an expression is to be read
pub record Wanting (stop : Stop) (ts : List Spanned) (start : ℕ) (base : List Shape) (level : Level) (frames : List Frame) (at : ℕ) (ids : List NodeId) (shapes : List Shape) : Type 0 where
  pub fs : List Frame
  pub rs : List Rose
  pub frames_are : frames ≡ laid fs
  pub ids_are : ids ≡ places base rs
  pub shapes_are : shapes ≡ written base rs
  pub progress : Progress stop ts start (Wants level fs rs at)
