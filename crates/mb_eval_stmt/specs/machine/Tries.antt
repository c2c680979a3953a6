-- The parts of a `try`.
use Rattle.std.specs.Prelude.{List, Option, Some, option_map, slice_get, ℕ, ◌≡◌}
use Rattle.mb_base.specs.declared.value.NodeId.{NodeId}
use Rattle.mb_base.specs.declared.value.Side.{Side}
use Rattle.mb_frames.specs.Kinds.{Statement}
use Rattle.mb_frames.specs.Told.{IsNamed, IsNodeOf}
use Rattle.mb_eval_stmt.specs.declared.tries.TryParts.{TryParts}
use Rattle.mb_frames.specs.Told.{shapes_of}
use Rattle.mb_frames.specs.Resolved.{node_in}
use Rattle.mb_frames.specs.Standing.{forms_at}
use Rattle.mb_world.specs.Data.{Data, program_of}
use Rattle.mb_world.specs.Form.{TryForm}
use Rattle.mb_world.specs.FormOf.{name_at}
use Rattle.mb_world.specs.Ids.{Maybe}
use Rattle.mb_world.specs.Image.{nodes_in}

-- the name of the `catch`
abbrev pub caught_in : Data → Side → TryParts → Option (List ℕ)
caught_in d home parts =
    option_map (λ id. name_at (slice_get (nodes_in d.texts (shapes_of (program_of d home))) id.0)) parts.caught

-- the node is a `try` with these parts
pub record IsTry (d : Data) (home : Side) (node : NodeId) (parts : TryParts) : Type 0 where
  pub block : ℕ
  pub there : slice_get (forms_at d home) node.0
      ≡ Some (TryForm block (caught_in d home parts) (node_in parts.handler) (node_in parts.ending))
  pub run : Maybe (IsNodeOf d home Statement) parts.handler
  pub last : Maybe (IsNodeOf d home Statement) parts.ending
  pub named : Maybe (λ id. IsNamed (slice_get (shapes_of (program_of d home)) id.0)) parts.caught
