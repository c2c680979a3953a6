-- Which frames are those of statements.
use Rattle.std.specs.Prelude.{Bool, Option, Some, false, slice_get, true, ◌≡◌}
use Rattle.mb_base.specs.declared.value.Side.{Side}
use Rattle.mb_frames.specs.Standing.{forms_at}
use Rattle.mb_frames.specs.declared.frame.Frame.TheVariants as x
use Rattle.mb_frames.specs.declared.frame.Frame.{Frame}
use Rattle.mb_frames.specs.declared.task.Task.TheVariants as t
use Rattle.mb_frames.specs.declared.task.Task.{Task}
use Rattle.mb_world.specs.Data.{Data}
use Rattle.mb_world.specs.Form.{BlockForm, BreakForm, ConstForm, ContinueForm, DeclForm, DoWhileForm, EmptyForm, ExprStmtForm, ForForm, Form, FunctionDeclForm, IfForm, LetForm, ParamForm, ReturnForm, ScriptForm, ThrowForm, TryForm, WhileForm}

-- a statement or declaration, or a part of one that is no expression
abbrev pub is_statement : Option Form → Bool
is_statement (Some (ScriptForm ns)) = true
is_statement (Some (LetForm ns)) = true
is_statement (Some (ConstForm ns)) = true
is_statement (Some (DeclForm name value)) = true
is_statement (Some (FunctionDeclForm name parts)) = true
is_statement (Some (BlockForm ns)) = true
is_statement (Some EmptyForm) = true
is_statement (Some (ExprStmtForm value)) = true
is_statement (Some (IfForm test main other)) = true
is_statement (Some (WhileForm test body)) = true
is_statement (Some (DoWhileForm body test)) = true
is_statement (Some (ForForm first test last body)) = true
is_statement (Some (ReturnForm value)) = true
is_statement (Some (ThrowForm value)) = true
is_statement (Some BreakForm) = true
is_statement (Some ContinueForm) = true
is_statement (Some (TryForm block caught handler ending)) = true
is_statement (Some (ParamForm name)) = true
is_statement form = false

abbrev pub IsStatementTask : Data → Side → Task → Type 0
IsStatementTask d home (t.Evaluate node at) = is_statement (slice_get (forms_at d home) node.0) ≡ true
IsStatementTask d home (t.Loop node at) = Unit {0}
IsStatementTask d home task = ⊥

-- a statement that begins, a loop that goes round, and a statement that waits
abbrev pub IsStatementFrame : Data → Side → Frame → Type 0
IsStatementFrame d home (x.Begin task) = IsStatementTask d home task
IsStatementFrame d home (x.Anew task) = IsStatementTask d home task
IsStatementFrame d home (x.Stmt frame) = Unit {0}
IsStatementFrame d home frame = ⊥
