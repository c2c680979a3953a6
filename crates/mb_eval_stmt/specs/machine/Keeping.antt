-- What stands in a context, and in a declaration that waits.
use Rattle.std.specs.Prelude.{◌∷◌, List, None, Option, Some, []}
use Rattle.mb_base.specs.declared.value.NodeId.{NodeId}
use Rattle.mb_base.specs.declared.value.StrId.{StrId}
use Rattle.mb_frames.specs.Held.{Held, HeldNode, HeldScope, HeldText, HeldValue}
use Rattle.mb_frames.specs.Kinds.{is_expression}
use Rattle.mb_frames.specs.declared.task.Context.{Context}

-- a scope and `this`
abbrev pub context_held : Context → List Held
context_held at = HeldScope at.scope ∷ HeldValue at.this ∷ []

-- the name and the value of a declaration that waits
abbrev pub declared_held : Option (StrId × NodeId) → List Held
declared_held None = []
declared_held (Some p) = HeldText p.0 ∷ HeldNode is_expression p.1.0 ∷ []
