-- What a parser of statements answers.
use Rattle.std.specs.Prelude.{◌≡◌, ℕ, ◌+◌, ◌≤◌, List, length}
use Rattle.mb_base.specs.declared.value.NodeId.{NodeId}
use Rattle.mb_token.specs.declared.token.Spanned.{Spanned}
use Rattle.mb_tree.specs.Roses.{Roses, Shape, write_all, roots}
use Rattle.mb_grammar.specs.declared.level.Level.{Level}
use Rattle.mb_grammar.specs.Grammar.{Statements}
use Rattle.mb_parse_stmt.specs.declared.machine.Stop.{Stop}
use Rattle.mb_parse_stmt.specs.declared.machine.Mode.{Mode}
use Rattle.mb_parse_stmt.specs.declared.machine.Mode.TheVariants as mo
use Rattle.mb_parse_stmt.specs.declared.statements.Step.{Step}
use Rattle.mb_parse_stmt.specs.declared.statements.Step.TheVariants as step
use Rattle.mb_parse_stmt.specs.declared.statements.StatementParser.{StatementParser}
use Rattle.mb_parse_stmt.specs.machine.Covers.{IsStop}
use Rattle.mb_parse_stmt.specs.machine.Progress.{Reading, Wanting}

-- a parser that is to read on, and one that wants an expression
abbrev pub IsUnderWay : List Spanned → ℕ → List Shape → StatementParser → List Shape → Type 0
IsUnderWay ts start base p shapes = Reading p.stop ts start base p.frames.items p.mode p.at p.operands.items shapes

abbrev pub IsWanting : List Spanned → ℕ → List Shape → Level → StatementParser → List Shape → Type 0
IsWanting ts start base level p shapes = Wanting p.stop ts start base level p.frames.items p.at p.operands.items shapes

-- how many tokens are taken at least before the parser stops again
abbrev pub taken : Mode → ℕ
taken mo.Behind = 1
taken mo.Declared = 1
taken _ = 0

-- these statements, written behind base; and no others stand there up to a stop
pub record AreAll (stop : Stop) (ts : List Spanned) (start : ℕ) (base : List Shape) (at : ℕ) (ids : List NodeId) (shapes : List Shape) : Type 0 where
  pub parts : Roses
  pub within : at ≤ length ts
  pub stand : Statements ts parts start at
  pub stops : IsStop stop ts at
  pub ids_are : ids ≡ roots base parts
  pub shapes_are : shapes ≡ write_all base parts
  pub only : (other : Roses) (k : ℕ) → Statements ts other start k → IsStop stop ts k → (other ≡ parts) × (k ≡ at)

abbrev pub NoneStand : Stop → List Spanned → ℕ → Type 0
NoneStand stop ts start = (parts : Roses) (k : ℕ) → Statements ts parts start k → IsStop stop ts k → ⊥

abbrev pub TellsStep : List Spanned → ℕ → List Shape → StatementParser → List Shape → Step → Type 0
TellsStep ts start base p shapes (step.Asks level) = IsWanting ts start base level p shapes
TellsStep ts start base p shapes step.Ended = AreAll p.stop ts start base p.at p.operands.items shapes
TellsStep ts start base p shapes step.Wrong = NoneStand p.stop ts start

-- how far a parser goes
abbrev pub StepMoves : StatementParser → StatementParser → Step → Type 0
StepMoves old new step.Wrong = Unit {0}
StepMoves old new _ = old.at + taken old.mode ≤ new.at
