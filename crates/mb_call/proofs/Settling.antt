-- A definition as its function tells it: the row, and the world that stays ready.
use Rattle.std.proofs.Common.{◌≡◌, ◌∙◌, Bool, List, Ok, Option, Some, ap, false, inl, inr, option_map, subst, sym}
use Rattle.std.proofs.Common.{true, ℕ}
use Rattle.std.proofs.lemmas.List.Elements.{All-weaker}
use Rattle.std.specs.List.{IsDistinct}
use Rattle.std.specs.Map.{keys_of}
use Rattle.std.specs.Prelude.{All}
use Rattle.mb_array.specs.Define.{HoldsKnown, changes, known_values, left, meant, on_object, table_in, told}
use Rattle.mb_array.specs.declared.Defined.TheVariants.{Answer, Kind, Range}
use Rattle.mb_base.specs.declared.value.Key.{Key}
use Rattle.mb_base.specs.declared.value.ObjId.{ObjId}
use Rattle.mb_base.specs.declared.value.Side.{Side}
use Rattle.mb_base.specs.declared.value.Value.{Value}
use Rattle.mb_call.proofs.Defining.{defined-changed, defined-part}
use Rattle.mb_call.proofs.Faults.{IsFault, fault, told-answer, told-kind, told-range}
use Rattle.mb_desc.specs.declared.descriptor.Desc.{Desc}
use Rattle.mb_desc.specs.declared.descriptor.Full.{Full}
use Rattle.mb_frames.proofs.Passed.{Part-by, Part-sure}
use Rattle.mb_frames.proofs.Readying.{changed-same}
use Rattle.mb_frames.specs.Held.{HeldDesc, HeldObject}
use Rattle.mb_frames.specs.Passing.{Part}
use Rattle.mb_frames.specs.Ready.{Changed, IsReady, MayHold}
use Rattle.mb_frames.specs.Stepping.{Sure}
use Rattle.mb_frames.specs.declared.frame.Move.{Move}
use Rattle.mb_model.specs.Meaning.{finished}
use Rattle.mb_model.specs.Objects.Methods.{settled}
use Rattle.mb_model.specs.Writing.{yes_or_no}
use Rattle.mb_ordinary.specs.Objects.{is_ordinary}
use Rattle.mb_parts.proofs.ObjectChanged.{get-set}
use Rattle.mb_parts.proofs.Tables.{property-back}
use Rattle.mb_parts.proofs.Viewing.{with_props}
use Rattle.mb_props.specs.Table.{same_key}
use Rattle.mb_text.specs.Texts.{AreDistinct}
use Rattle.mb_world.proofs.Grow.{All-at}
use Rattle.mb_world.specs.Arrays.{defined}
use Rattle.mb_world.specs.Data.{Data, cell_at, change_cell}
use Rattle.mb_world.specs.Formed.{is_of_membrane}
use Rattle.mb_world.specs.Graph.{Thing}
use Rattle.mb_world.specs.Ids.{CellIn, HasItsIds, KeyIn, PropertyIn}
use Rattle.mb_world.specs.Image.{Image, Names, Resolve, desc_in, key_in, names_of, object_in, object_of}
use Rattle.mb_world.specs.Key.{PropertyKey}
use Rattle.mb_world.specs.Ordinary.{Becomes, Defined as Outcome, Faulty}
use Rattle.mb_world.specs.Value.{Val}
use Rattle.mb_world.specs.declared.cell.Cell.{Cell}
use Rattle.mb_world.specs.declared.cell.ErrorKind.TheVariants.{TypeError}

-- the object is that of its cell
pub object-is : (n : Names) (o : Option Cell) (c : Cell) (t : Thing) → o ≡ Some c → option_map (object_of n) o ≡ Some t
    → object_of n c ≡ t
object-is n o c t e q =
    let z : Some (object_of n c) ≡ Some t = sym (ap (option_map (object_of n)) e) ∙ q in
    cc

module _ (d d' : Data) (r : IsReady d) (home : Side) (id : ObjId) (h : MayHold d home (HeldObject id)) (c : Cell)
    (there : cell_at d id ≡ Some c) (u : AreDistinct d.texts) (distinct : IsDistinct same_key (keys_of c.props))
    (key : Key) (i : KeyIn d key) (given : Desc Value) (g : MayHold d home (HeldDesc given))
    (ordinary : is_ordinary c.kind ≡ true) (membrane : is_of_membrane c.kind ≡ false)
    (cell : option_map (object_of (names_of d)) (cell_at d' id)
    ≡ option_map (left (meant d id key given)) (option_map (object_of (names_of d)) (cell_at d id)))
    (rest : d' ≡ change_cell d id (with_props (table_in (cell_at d' id))))
    (unchanged : changes (meant d id key given) ≡ false → d' ≡ d)
    (objects : All (HoldsKnown (known_values (table_in (cell_at d id)) given)) (table_in (cell_at d' id)))
    (ids : HasItsIds d') where
  abbrev t : Thing
  t = object_of (names_of d) c

  abbrev name : PropertyKey
  name = key_in (names_of d) key

  abbrev asked : Desc Val
  asked = desc_in (Resolve (names_of d)) given

  abbrev outcome : Outcome
  outcome = meant d id key given

  abbrev o : Val
  o = object_in (names_of d) id

  abbrev ps : List (Key × Full Value)
  ps = table_in (cell_at d' id)

  meant-is : outcome ≡ defined t name asked
  meant-is = ap (on_object defined (names_of d) key given) there

  rest-is : d' ≡ change_cell d id (with_props ps)
  rest-is = rest

  now-there : cell_at d' id ≡ Some (with_props ps c)
  now-there =
      ap (λ (x : Data). cell_at x id) rest-is ∙ rw there (get-set d.cells id.0 c (with_props ps c) there)

  inside : All (PropertyIn d) ps
  inside =
      let F : Cell → Cell = with_props ps in
      let x : All (PropertyIn d') ps = (All-at (CellIn d') d'.cells id.0
      (with_props ps c) now-there ids.cells_in).props_in in
      All-weaker (PropertyIn (change_cell d id F)) (PropertyIn d) (property-back d id c F there) ps
      (subst (λ (y : Data). All (PropertyIn y) ps) rest-is x)

  known : All (HoldsKnown (known_values c.props given)) ps
  known = subst (λ (x : Option Cell). All (HoldsKnown (known_values (table_in x) given)) ps) there objects

  becomes : (after : Thing) (b : Bool) → outcome ≡ Becomes after b → object_of (names_of d) (with_props ps c) ≡ after
  becomes after b e =
      let x : Some (object_of (names_of d) (with_props ps c)) ≡ Some (left outcome t)
      = sym (ap (option_map (object_of (names_of d))) now-there) ∙ cell
      ∙ ap (λ y. option_map (left outcome) (option_map (object_of (names_of d)) y)) there in
      let y : left outcome t ≡ after = ap (λ z. left z t) e in
      cc

  -- ---- an answer

  pub answer-part : (b : Bool) → told outcome ≡ Answer b → (m : Move) (f : ℕ)
      → ((x : Data) → Sure home x (yes_or_no b finished) m)
      → Part home (Ok m) d d' f f (settled home.0 o (defined t name asked) finished)
  answer-part b e m f s = elim (told-answer outcome b e) [
    | inl x ↦
        subst (λ (y : Data). Part home (Ok m) d y f f (settled home.0 o (defined t name asked) finished))
        (sym (unchanged (ap changes x.0)))
        (Part-by home (Ok m) d d f f (settled home.0 o (defined t name asked) finished) (yes_or_no false finished)
        (λ log. ap (λ z. settled home.0 o z finished (Image d log)) (sym meant-is ∙ x.0))
        (Part-sure home d f (yes_or_no false finished) m
        (subst (λ (z : Bool). Sure home d (yes_or_no z finished) m) x.1 (s d))))
    | inr x ↦
        subst (λ (y : Data). Part home (Ok m) d y f f (settled home.0 o (defined t name asked) finished)) (sym rest-is)
        (defined-part d r home id h c there u distinct key i given g ordinary membrane x.0 b (sym meant-is ∙ x.1) ps
        (becomes x.0 b x.1) inside known m f (s (change_cell d id (with_props ps))))
  ]

  pub answer-changed : (b : Bool) → told outcome ≡ Answer b → Changed home d d'
  answer-changed b e = elim (told-answer outcome b e) [
    | inl x ↦ subst (Changed home d) (sym (unchanged (ap changes x.0))) (changed-same home d r)
    | inr x ↦
        subst (Changed home d) (sym rest-is)
        (defined-changed d r home id h c there u distinct key i given g ordinary membrane x.0 b (sym meant-is ∙ x.1) ps
        (becomes x.0 b x.1) inside known)
  ]

  -- ---- an error

  pub kind-meant : told outcome ≡ Kind → defined t name asked ≡ Faulty TypeError
  kind-meant e =
      sym meant-is ∙ told-kind outcome (subst IsFault (sym meant-is) (fault t name asked)) e

  pub range-same : told outcome ≡ Range → d' ≡ d
  range-same e = unchanged (ap changes (told-range outcome e))

  pub kind-same : told outcome ≡ Kind → d' ≡ d
  kind-same e = unchanged (ap changes (meant-is ∙ kind-meant e))
