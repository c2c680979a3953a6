-- An array of a ready world has its `length`.
use Rattle.std.proofs.Common.{◌<◌, ◌-◌, ◌^◌, ◌≡◌, ◌∙◌, ◌∷◌, Bool, List, Some, [], ap, false, pos, refl, slice_get, sym}
use Rattle.std.proofs.Common.{true, ℕ, subst, true≢false}
use Rattle.std.proofs.lemmas.Bool.{eq-eqb}
use Rattle.std.proofs.lemmas.List.Elements.{All-cons, All-head}
use Rattle.std.proofs.lemmas.Option.{slice_get-get_or}
use Rattle.std.specs.Prelude.{All}
use Rattle.mb_array.specs.Define.{HasItsLength}
use Rattle.mb_base.specs.declared.value.Key.TheVariants as k
use Rattle.mb_base.specs.declared.value.Key.{Key}
use Rattle.mb_base.specs.declared.value.ObjId.{ObjId}
use Rattle.mb_base.specs.declared.value.StrId.{StrId}
use Rattle.mb_base.specs.declared.value.Value.TheVariants as v
use Rattle.mb_base.specs.declared.value.Value.{Value}
use Rattle.mb_desc.specs.declared.descriptor.Full.TheVariants.{Datum}
use Rattle.mb_desc.specs.declared.descriptor.Full.{Full}
use Rattle.mb_frames.specs.Ready.{IsReady}
use Rattle.mb_props.specs.Table.{found, same_key}
use Rattle.mb_text.specs.Index.{index_of}
use Rattle.mb_text.specs.Texts.{AreDistinct}
use Rattle.mb_world.proofs.Arrays.{length-no-index, place-found}
use Rattle.mb_world.proofs.Grow.{All-at}
use Rattle.mb_world.specs.Data.{Data, cell_at, is_array, length_key, length_units}
use Rattle.mb_world.specs.Formed.{FormedCell, HasLength, IsArray, IsBelow}
use Rattle.mb_world.specs.Ids.{KeyIn, CellIn, PropertyIn}
use Rattle.mb_world.specs.Image.{names_of, text_in}
use Rattle.mb_world.specs.declared.cell.Cell.{Cell}
use Rattle.mb_world.specs.declared.cell.CellKind.TheVariants as kind
use Rattle.mb_world.specs.declared.cell.CellKind.{CellKind}

array-kind : (y : CellKind) → is_array y ≡ true → y ≡ kind.Array
array-kind kind.Array h = refl
array-kind _ h = absurd (true≢false (sym h))

key-same : (key : Key) → same_key key key ≡ true
key-same (k.Text t n) = rw (eq-eqb t.0 t.0 refl, eq-eqb n n refl) refl
key-same (k.Symbol t) = eq-eqb t.0 t.0 refl

first-found : (key : Key) (p : Full Value) (rest : List (Key × Full Value)) → found ((key, p) ∷ rest) key ≡ Some p
first-found key p rest = rw (key-same key) refl

key-is : (texts : List (List ℕ)) (id : StrId) → AreDistinct texts → slice_get texts id.0 ≡ Some length_units
    → k.Text id (2 ^ 32 - 1) ≡ length_key texts
key-is texts id distinct e =
    ap (λ n. let t : StrId = record { 0 = n } in k.Text t (2 ^ 32 - 1))
    (sym (place-found texts length_units id.0 distinct e))

first-length : (d : Data) → AreDistinct d.texts → (t : StrId) (n m : ℕ) (w : Bool) (rest : List (Key × Full Value))
    → text_in (names_of d) t ≡ length_units → m < 2 ^ 32 → All (λ p. IsBelow m p.0) rest → KeyIn d (k.Text t n)
    → HasItsLength d.texts ((k.Text t n, Datum (v.Whole (pos m)) w false false) ∷ rest)
first-length d u t n m w rest e l b i =
    let g : slice_get d.texts t.0 ≡ Some length_units = slice_get-get_or d.texts t.0 [] i.0 ∙ ap Some e in
    let z : n ≡ 2 ^ 32 - 1 = i.1 ∙ ap index_of e ∙ length-no-index in
    let q : k.Text t n ≡ length_key d.texts = ap (k.Text t) z ∙ key-is d.texts t u g in
    let p : Full Value = Datum (v.Whole (pos m)) w false false in
    record {
      length = m;
      writable = w;
      there = subst (λ (y : Key). found ((k.Text t n, p) ∷ rest) y ≡ Some p) q (first-found (k.Text t n) p rest);
      limit = l;
      above = All-cons (λ x. IsBelow m x.0) (k.Text t n, p) rest (λ y. absurd (y z)) b;
    }

by-props : (d : Data) → AreDistinct d.texts → (ps : List (Key × Full Value)) → HasLength d ps → All (PropertyIn d) ps
    → HasItsLength d.texts ps
by-props d u ((k.Text t n, Datum (v.Whole (pos m)) w false false) ∷ rest) h i =
    first-length d u t n m w rest h.0 h.1 h.2
    (All-head (PropertyIn d) (k.Text t n, Datum (v.Whole (pos m)) w false false) rest i).0
by-props d u _ h i = absurd h

-- an array of a ready world has its `length`
pub array-length : (d : Data) → AreDistinct d.texts → IsReady d → (id : ObjId) (c : Cell) → cell_at d id ≡ Some c
    → is_array c.kind ≡ true → HasItsLength d.texts c.props
array-length d u r id c there array =
    let f : FormedCell d c = All-at (FormedCell d) d.cells id.0 c there r.formed.cells in
    let i : CellIn d c = All-at (CellIn d) d.cells id.0 c there r.ids.cells_in in
    by-props d u c.props (subst (λ (y : CellKind). IsArray d y c) (array-kind c.kind array) f.array).1 i.props_in
