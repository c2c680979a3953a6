-- Which changes the policy is asked about.
use Rattle.std.specs.Prelude.{None, Option, Some, option_map}
use Rattle.mb_base.specs.declared.value.ObjId.{ObjId}
use Rattle.mb_frames.specs.declared.task.Method.{Method}
use Rattle.mb_frames.specs.declared.task.Method.TheVariants as m
use Rattle.mb_rules.specs.Seen.{ChangeIn, TellsChange, change_in}
use Rattle.mb_rules.specs.declared.change.Change.{Change}
use Rattle.mb_rules.specs.declared.change.Change.TheVariants as change
use Rattle.mb_world.specs.Data.{Data}
use Rattle.mb_world.specs.Ids.{Maybe, ObjIn}
use Rattle.mb_world.specs.Image.{Names}
use Rattle.mb_world.specs.View as view

-- the change that a method asks, if it asks one
abbrev pub change_of : Method → Option Change
change_of (m.SetPrototypeOf given) = Some (change.Proto given)
change_of m.PreventExtensions = Some change.Prevent
change_of (m.DefineOwnProperty key given) = Some (change.Define key)
change_of (m.Set key value receiver) = Some (change.Set key)
change_of (m.Delete key) = Some (change.Delete key)
change_of method = None

abbrev pub changes_in : Names → Option Change → Option view.Change
changes_in n c = option_map (change_in n) c

-- its ids are there, and a prototype that is asked for is told apart from the object's
pub record AsksChange (d : Data) (object : ObjId) (c : Option Change) : Type 0 where
  pub there : ObjIn d object
  pub within : Maybe (ChangeIn d) c
  pub apart : Maybe (TellsChange d object) c
