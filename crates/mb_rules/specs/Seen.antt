-- Changes and rulings of a world, and what they stand for.
use Rattle.std.specs.Prelude.{◌≡◌, [], Option, Some, None}
use Rattle.mb_base.specs.declared.value.ObjId.{ObjId}
use Rattle.mb_base.specs.declared.value.Value.{Value}
use Rattle.mb_base.specs.declared.value.Value.TheVariants.{Object}
use Rattle.mb_world.specs.declared.cell.Cell.{Cell}
use Rattle.mb_world.specs.Graph.{Graph}
use Rattle.mb_world.specs.View as graph
use Rattle.mb_world.specs.Data.{Data, cell_at}
use Rattle.mb_world.specs.Ids.{KeyIn, ValueIn}
use Rattle.mb_world.specs.Image.{Names, names_of, object_in, Resolve, key_in, Image}
use Rattle.mb_rules.specs.declared.change.Change.{Change}
use Rattle.mb_rules.specs.declared.change.Change.TheVariants.{Proto, Prevent, Define, Set, Delete}
use Rattle.mb_rules.specs.declared.change.Ruling.{Ruling}
use Rattle.mb_rules.specs.declared.change.Ruling.TheVariants.{Free, Decided}

-- the graph for which a world stands; views and rulings read nothing of its log
abbrev pub graph_of : Data → Graph
graph_of d = Image d []

-- its ids are of the world
abbrev pub ChangeIn : Data → Change → Type 0
ChangeIn d (Proto p) = ValueIn d p
ChangeIn d Prevent = Unit {0}
ChangeIn d (Define key) = KeyIn d key
ChangeIn d (Set key) = KeyIn d key
ChangeIn d (Delete key) = KeyIn d key

abbrev pub change_in : Names → Change → graph.Change
change_in n (Proto p) = graph.Proto (Resolve n p)
change_in n Prevent = graph.Prevent
change_in n (Define key) = graph.Define (key_in n key)
change_in n (Set key) = graph.Write (key_in n key)
change_in n (Delete key) = graph.Remove (key_in n key)

abbrev pub ruling_in : Ruling → graph.Ruling
ruling_in Free = graph.Free
ruling_in (Decided answer) = graph.Decided answer

-- the two values name one cell, if they name cells that stand for one object
abbrev pub TellsValues : Data → Value → Value → Type 0
TellsValues d p q = (a b : ObjId) → p ≡ Object a → q ≡ Object b →
    object_in (names_of d) a ≡ object_in (names_of d) b → a ≡ b

abbrev pub TellsProto : Data → Value → Option Cell → Type 0
TellsProto d p None = Unit {0}
TellsProto d p (Some c) = TellsValues d p c.proto

-- so do a prototype that is asked for and the one that the object has
abbrev pub TellsChange : Data → ObjId → Change → Type 0
TellsChange d id (Proto p) = TellsProto d p (cell_at d id)
TellsChange d id _ = Unit {0}
