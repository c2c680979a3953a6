-- Statements by what they begin with, and what stands in their frames.
use Rattle.std.specs.Prelude.{Bool, Option, Some, false, slice_get, true, ℕ, ◌≡◌}
use Rattle.mb_base.specs.declared.value.NodeId.{NodeId}
use Rattle.mb_base.specs.declared.value.Side.{Side}
use Rattle.mb_eval_stmt.specs.declared.fors.ForParts.{ForParts}
use Rattle.mb_frames.specs.Held.{AreIn}
use Rattle.mb_frames.specs.Holding.{outcome_held}
use Rattle.mb_frames.specs.Kinds.{Expression, Statement}
use Rattle.mb_frames.specs.Resolved.{node_in}
use Rattle.mb_frames.specs.Rest.Statements.{lets_of}
use Rattle.mb_frames.specs.Standing.{forms_at}
use Rattle.mb_frames.specs.Told.{IsNodeOf}
use Rattle.mb_frames.specs.declared.statements.StmtFrame.TheVariants as x
use Rattle.mb_frames.specs.declared.statements.StmtFrame.{StmtFrame}
use Rattle.mb_frames.specs.declared.task.Outcome.TheVariants as o
use Rattle.mb_frames.specs.declared.task.Outcome.{Outcome}
use Rattle.mb_tree.specs.Form as t
use Rattle.mb_world.specs.Data.{Data}
use Rattle.mb_world.specs.Form.{ForForm}
use Rattle.mb_world.specs.Ids.{Maybe}

abbrev pub OutcomeIn : Data → Outcome → Type 0
OutcomeIn d y = AreIn d (outcome_held y)

-- the statements that begin with one part or with none, and change nothing
abbrev pub is_plain : t.Form → Bool
is_plain (t.DeclForm name value) = true
is_plain (t.FunctionDeclForm name parts) = true
is_plain t.EmptyForm = true
is_plain (t.ParamForm name) = true
is_plain (t.ExprStmtForm value) = true
is_plain (t.IfForm test main other) = true
is_plain (t.WhileForm test body) = true
is_plain (t.DoWhileForm body test) = true
is_plain (t.ReturnForm value) = true
is_plain (t.ThrowForm value) = true
is_plain t.BreakForm = true
is_plain t.ContinueForm = true
is_plain (t.TryForm block caught handler ending) = true
is_plain form = false

-- the node is a `for` with these parts
pub record IsFor (d : Data) (home : Side) (node : NodeId) (parts : ForParts) : Type 0 where
  pub first : Option ℕ
  pub there : slice_get (forms_at d home) node.0
      ≡ Some (ForForm first (node_in parts.test) (node_in parts.last) parts.body.0)
  pub lets : lets_of (forms_at d home) first ≡ parts.lets
  pub test : Maybe (IsNodeOf d home Expression) parts.test
  pub last : Maybe (IsNodeOf d home Expression) parts.last
  pub body : IsNodeOf d home Statement parts.body

-- the frames that pass on each outcome but an answer
abbrev pub is_answered : StmtFrame → Bool
is_answered (x.Each at node next) = true
is_answered (x.Declared at node name next) = true
is_answered x.Expression = true
is_answered (x.If at main other) = true
is_answered (x.WhileTest at node body) = true
is_answered (x.DoTest at node) = true
is_answered (x.ForFirst at node) = true
is_answered (x.ForTest at node) = true
is_answered (x.ForLast at node) = true
is_answered x.Return = true
is_answered x.Throw = true
is_answered (x.WhileBody at node) = false
is_answered (x.DoBody at node test) = false
is_answered (x.ForBody at node) = false
is_answered (x.Try at node) = false
is_answered (x.Handler at ending) = false
is_answered (x.Ending outcome) = false

-- how a loop's body ended leaves the loop or not
abbrev pub goes_round : Outcome → Bool
goes_round (o.Normal y) = true
goes_round o.Continue = true
goes_round y = false
