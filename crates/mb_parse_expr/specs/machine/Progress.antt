-- What a parser has read.
use Rattle.std.specs.Prelude.{◌≡◌, ℕ, List, [], ◌∷◌}
use Rattle.mb_base.specs.declared.value.NodeId.{NodeId}
use Rattle.mb_token.specs.declared.token.Spanned.{Spanned}
use Rattle.mb_tree.specs.Roses.{Rose, Shape}
use Rattle.mb_tree.specs.machine.Operands.{written, places}
use Rattle.mb_grammar.specs.declared.level.Level.{Level}
use Rattle.mb_parse_expr.specs.declared.machine.Frame.{Frame}
use Rattle.mb_parse_expr.specs.declared.machine.Mode.{Mode}
use Rattle.mb_parse_expr.specs.machine.Machine.{State, Going, Waits, Ends, Leads}
use Rattle.mb_tree.specs.machine.Stack.{laid}
use Rattle.mb_grammar.specs.Script.{Whole}
use Rattle.mb_parse_expr.specs.machine.Covers.{Good}

-- what is read stands there, and each expression that stands there is read from here on
pub record Progress (ts : List Spanned) (level : Level) (start : ℕ) (state : State) : Type 0 where
  pub sound : Good ts level start state
  pub complete : (a : Rose) (es : List ℕ) (j : ℕ) → Whole ts level a es start j → Leads ts state (Ends (a ∷ []) es j)

-- the code's lists hold what is read; ds are the bodies that were named, the last first
pub record Reading (ts : List Spanned) (level : Level) (start : ℕ) (base : List Shape) (ds : List ℕ) (frames : List Frame) (mode : Mode) (at : ℕ) (ids : List NodeId) (shapes : List Shape) : Type 0 where
  pub fs : List Frame
  pub rs : List Rose
  pub frames_are : frames ≡ laid fs
  pub ids_are : ids ≡ places base rs
  pub shapes_are : shapes ≡ written base rs
  pub progress : Progress ts level start (Going fs rs ds mode at)

pub record Waiting (ts : List Spanned) (level : Level) (start : ℕ) (base : List Shape) (ds : List ℕ) (frames : List Frame) (at : ℕ) (ids : List NodeId) (shapes : List Shape) : Type 0 where
  pub fs : List Frame
  pub rs : List Rose
  pub frames_are : frames ≡ laid fs
  pub ids_are : ids ≡ places base rs
  pub shapes_are : shapes ≡ written base rs
  pub progress : Progress ts level start (Waits fs rs ds at)
