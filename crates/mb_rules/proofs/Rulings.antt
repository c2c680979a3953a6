-- What a read-only rule says of a prototype, said of the object that a cell is.
use Rattle.std.proofs.Common.{◌≡◌, Bool, Some, sym, ap, ◌∙◌, subst}
use Rattle.std.specs.Prelude.{IfSome}
use Rattle.mb_base.specs.declared.value.ObjId.{ObjId}
use Rattle.mb_base.specs.declared.value.Side.{Side}
use Rattle.mb_base.specs.declared.value.Value.{Value}
use Rattle.mb_desc.specs.Values.{equal}
use Rattle.mb_text.specs.Texts.{AreDistinct}
use Rattle.mb_world.specs.declared.cell.Cell.{Cell}
use Rattle.mb_world.specs.View as seen
use Rattle.mb_world.specs.View.{read_only_ruling}
use Rattle.mb_world.specs.Data.{Data, cell_at}
use Rattle.mb_world.specs.Ids.{CellIn}
use Rattle.mb_world.specs.Image.{names_of, object_at}
use Rattle.mb_world.proofs.Values.{same-as}
use Rattle.mb_rules.specs.declared.change.Change.{Change}
use Rattle.mb_rules.specs.declared.change.Change.TheVariants.{Proto}
use Rattle.mb_rules.specs.Seen.{graph_of, ChangeIn, change_in, TellsProto, TellsChange}
use Rattle.mb_rules.proofs.Views.{at-object}

-- the answer decides the change
abbrev pub Decides : Data → ObjId → Side → Bool → Change → Type 0
Decides d o viewer answer change =
    IfSome (object_at d o) (λ t. seen.Decided answer ≡ read_only_ruling (graph_of d) viewer.0 t (change_in (names_of d) change))

pub proto-answer : (d : Data) (o : ObjId) (c : Cell) → cell_at d o ≡ Some c → AreDistinct d.texts → CellIn d c → (viewer : Side) (change : Change) → ChangeIn d change →
    (p : Value) → change ≡ Proto p → (answer : Bool) → answer ≡ equal p c.proto → TellsChange d o change → Decides d o viewer answer change
proto-answer d o c there distinct within viewer change change-in p is answer e =
    subst (λ x. ChangeIn d x → TellsChange d o x → Decides d o viewer answer x) (sym is) asked change-in
  where
    asked : ChangeIn d (Proto p) → TellsChange d o (Proto p) → Decides d o viewer answer (Proto p)
    asked in-d tells =
        let apart : TellsProto d p (Some c) = subst (TellsProto d p) there tells in
        at-object d o c (λ t. seen.Decided answer ≡ read_only_ruling (graph_of d) viewer.0 t (change_in (names_of d) (Proto p))) there
        (ap (λ b. seen.Decided b) (e ∙ sym (same-as d distinct p c.proto in-d within.proto_in apart)))
