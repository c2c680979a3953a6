-- The rest of a built-in of a collection that waits (ECMA-262 24).
use Rattle.std.specs.Prelude.{◌+◌, ℕ}
use Rattle.mb_frames.specs.Resolved.{values_in}
use Rattle.mb_model.specs.BuiltIns.Arguments.{prototype_or}
use Rattle.mb_model.specs.BuiltIns.Collections.{collection_made, slot_in, visited}
use Rattle.mb_model.specs.Task.{Answer, Value, Visit}
use Rattle.mb_model.specs.Writing.{Does, again, flag_in, give, truth, value_in}
use Rattle.mb_world.specs.Image.{Names, Resolve, object_in}
use Rattle.mb_world.specs.Standard.{collection_prototype}
use Rattle.mb_frames.specs.declared.collections.CollectFrame.{CollectFrame}
use Rattle.mb_frames.specs.declared.collections.CollectFrame.TheVariants as l

abbrev pub collect_rest : Names → ℕ → CollectFrame → Answer → Does Answer
collect_rest n s l.Truth a = truth (flag_in a)
collect_rest n s (l.Chained collection) a = give (Value (object_in n collection))
collect_rest n s (l.SlotRead at) a =
    visited s at.place (object_in n at.collection) (Resolve n at.function) (Resolve n at.this) at.position (slot_in a)
collect_rest n s (l.Called at) a =
    again (Visit s at.place (object_in n at.collection) (Resolve n at.function) (Resolve n at.this) (at.position + 1))
collect_rest n s (l.Prototype coll arguments) a =
    collection_made s coll (values_in n arguments) (prototype_or (collection_prototype coll) (value_in a))
