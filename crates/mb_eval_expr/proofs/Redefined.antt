-- An object of a home whose properties were defined: the world stays ready.
use Rattle.std.proofs.Common.{◌≡◌, List, None, Option, Some, option_map, refl, subst, true}
use Rattle.std.specs.Prelude.{All, is_some}
use Rattle.std.specs.List.{IsDistinct}
use Rattle.std.specs.Map.{keys_of}
use Rattle.mb_base.specs.declared.value.Key.{Key}
use Rattle.mb_base.specs.declared.value.ObjId.{ObjId}
use Rattle.mb_base.specs.declared.value.Side.{Side}
use Rattle.mb_base.specs.declared.value.Value.{Value}
use Rattle.mb_desc.specs.Descriptors.{IsOfOneKind}
use Rattle.mb_desc.specs.declared.descriptor.Desc.{Desc}
use Rattle.mb_desc.specs.declared.descriptor.Full.{Full}
use Rattle.mb_eval_expr.proofs.Describing.{becomes-it}
use Rattle.mb_frames.proofs.HeldCells.{cell-held, reads-home}
use Rattle.mb_frames.proofs.HeldLess.{key-held, plain-object}
use Rattle.mb_frames.proofs.Readying.{changed-same}
use Rattle.mb_frames.specs.Held.{HeldDesc, HeldFull, HeldKey, HeldPlain}
use Rattle.mb_frames.specs.Ready.{Changed, IsReady, MayHold}
use Rattle.mb_ordinary.specs.Definitions.{IsDefined, accepted, with_accepted}
use Rattle.mb_props.specs.Table.{same_key}
use Rattle.mb_text.specs.Texts.{AreDistinct}
use Rattle.mb_world.proofs.Grow.{All-at}
use Rattle.mb_world.proofs.Worlds.{All-insert}
use Rattle.mb_world.specs.Data.{Data, cell_at, change_cell, put_in}
use Rattle.mb_world.specs.Ids.{CellIn, KeyIn}
use Rattle.mb_world.specs.Image.{Names, Resolve, desc_in, key_in, names_of, thing_in}
use Rattle.mb_world.specs.Key.{PropertyKey}
use Rattle.mb_world.specs.Objects.{with_property}
use Rattle.mb_world.specs.Ordinary.{Becomes as BecomesThing, defined_as, validated}
use Rattle.mb_world.specs.Value.{Val}
use Rattle.mb_world.specs.declared.cell.Cell.{Cell}
use Rattle.mb_world.specs.declared.cell.CellKind.TheVariants as kind
use Rattle.mb_parts.proofs.Validated.{accepted-held}
use Rattle.mb_parts.proofs.Viewing.{defined-evolves, names-distinct}
use Rattle.mb_parts.proofs.TableChanged.{table-changed}

-- ---- a plain object

pub defined-changed : (d : Data) (r : IsReady d) (home : Side) (id : ObjId) (c : Cell) (key : Key)
    (desc : Desc Value) (full : Full Value)
    → AreDistinct d.texts → cell_at d id ≡ Some c → c.kind ≡ kind.Plain → c.home ≡ home
    → IsDistinct same_key (keys_of c.props) → KeyIn d key → MayHold d home (HeldPlain id) → MayHold d home
    (HeldDesc desc)
    → accepted d id key desc ≡ Some full
    → (k : PropertyKey) (y : Desc Val) (p : Full Val) → IsOfOneKind y → validated (thing_in (names_of d) c) k y ≡ Some p
    → with_property k p (thing_in (names_of d) c) ≡ thing_in (names_of d) (put_in key full c)
    → Changed home d (change_cell d id (put_in key full))
defined-changed d r home id c key desc full u there plain at distinct k o h e name y p one allowed same =
    let object = plain-object d home id o in
    let P : Key × Full Value → Type 0 = λ q. MayHold d home (HeldKey q.0) × MayHold d home (HeldFull q.1) in
    let f = accepted-held d home r id c key desc full there object h e in
    let ps : List (Key × Full Value) = (put_in key full c).props in
    let was : All P c.props = (cell-held d r id c there home (reads-home d home id c object there)).properties in
    let held : All P ps = All-insert P c.props key full (key-held d home key k, f) (λ q i. (i.0, f)) was in
    let i : CellIn d c = All-at (CellIn d) d.cells id.0 c there r.ids.cells_in in
    let n = names-distinct d u c.props i.props_in distinct in
    subst (Changed home d) (rw there refl)
    (table-changed d r home id c there (λ u. at) (rw plain refl) (rw plain refl) ps held
    (defined-evolves (names_of d) c name y p ps n one allowed same) (rw plain tt))

some-map : (n : Names) (o : Option Value) → is_some (option_map (Resolve n) o) ≡ is_some o
some-map n None = refl
some-map n (Some x) = refl

one-kind : (n : Names) (desc : Desc Value) → IsOfOneKind desc → IsOfOneKind (desc_in (Resolve n) desc)
one-kind n desc h = rw (some-map n desc.value, some-map n desc.get, some-map n desc.set) h

pub redefined : (d d' : Data) (r : IsReady d) (home : Side) (id : ObjId) (c : Cell) (key : Key) (desc : Desc Value)
    → AreDistinct d.texts → cell_at d id ≡ Some c → c.kind ≡ kind.Plain → c.home ≡ home
    → IsDistinct same_key (keys_of c.props) → KeyIn d key → MayHold d home (HeldPlain id) → MayHold d home
    (HeldDesc desc)
    → (m : Option (Full Value)) → accepted d id key desc ≡ m → d' ≡ with_accepted d id key m → IsDefined d d' id key
    desc (is_some m)
    → Changed home d d'
redefined d d' r home id c key desc u there plain at distinct k o h None e w q = rw w (changed-same home d r)
redefined d d' r home id c key desc u there plain at distinct k o h (Some full) e w q =
    rw w (by (validated (thing_in (names_of d) c) (key_in (names_of d) key) (desc_in (Resolve (names_of d)) desc))
    refl (becomes-it d d' home id c there plain key desc r.ids full w q))
  where
    by : (z : Option (Full Val)) → validated (thing_in (names_of d) c) (key_in (names_of d) key)
        (desc_in (Resolve (names_of d)) desc) ≡ z
        → defined_as (thing_in (names_of d) c) (key_in (names_of d) key) z ≡ BecomesThing
        (thing_in (names_of d) (put_in key full c)) true → Changed home d (change_cell d id (put_in key full))
    by None i j = cc
    by (Some p) i j =
        let same : with_property (key_in (names_of d) key) p (thing_in (names_of d) c)
        ≡ thing_in (names_of d) (put_in key full c) = cc in
        defined-changed d r home id c key desc full u there plain at distinct k o h e (key_in (names_of d) key)
        (desc_in (Resolve (names_of d)) desc) p (one-kind (names_of d) desc h.sound.0) i same
