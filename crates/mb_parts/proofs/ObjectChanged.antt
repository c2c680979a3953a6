-- An object that is changed in place, in a world and in its image.
use Rattle.std.proofs.Common.{◌≡◌, ◌∙◌, ◌∷◌, Bool, List, None, Option, Some, [], ap, arith, false, option_map, refl}
use Rattle.std.proofs.Common.{slice_get, slice_set, suc, sym, true, zero, ℕ}
use Rattle.std.proofs.lemmas.List.Folds.{position_or_len-set}
use Rattle.std.proofs.lemmas.List.{length-set}
use Rattle.std.proofs.lemmas.Option.{get_or_from_slice_get, slice_get_within}
use Rattle.std.specs.Prelude.{is_some, position, IsSomeAnd}
use Rattle.mb_base.specs.declared.value.ObjId.{ObjId}
use Rattle.mb_base.specs.declared.value.Side.{Side}
use Rattle.mb_frames.proofs.Forms.{CanRun-grows}
use Rattle.mb_frames.specs.Stepping.{Grew}
use Rattle.mb_frames.specs.Wholeness.{IsOfKind}
use Rattle.mb_model.specs.Objects.Methods.{settled}
use Rattle.mb_model.specs.Operations.Makings.{altered}
use Rattle.mb_model.specs.Task.{Answer, Flag}
use Rattle.mb_model.specs.Writing.{Row}
use Rattle.mb_parts.specs.Standing.{Acts}
use Rattle.mb_world.proofs.AfterCalls.{numbers-rank, object-is, of-cell, of-changed, rank}
use Rattle.mb_world.specs.Data.{Data, built_in_of, cell_at, change_cell, is_object_cell, obj_id, serves, stand}
use Rattle.mb_world.specs.Graph.{Graph, Item, Thing}
use Rattle.mb_world.specs.Ids.{HasItsIds}
use Rattle.mb_world.specs.Image.{Image, names_of, number_at, object_in, thing_in}
use Rattle.mb_world.specs.Laws.{Becomes}
use Rattle.mb_world.specs.Objects.{thing_at, with_thing}
use Rattle.mb_world.specs.Ordinary.{Becomes as BecomesThing, Defined, Faulty, Refused}
use Rattle.mb_world.specs.Value.{Object, Val}
use Rattle.mb_world.specs.declared.cell.Cell.{Cell}
use Rattle.mb_world.specs.declared.cell.CellKind.{CellKind}

-- ---- lists in which one changed

pub get-set : {A : Type 0} (xs : List A) (i : ℕ) (x y : A) → slice_get xs i ≡ Some x
    → slice_get (slice_set xs i y) i ≡ Some y
get-set [] i x y e = cc
get-set (z ∷ zs) zero x y e = refl
get-set (z ∷ zs) (suc i) x y e = get-set zs i x y e

pub position-set : {A : Type 0} (p : A → Bool) (xs : List A) (i : ℕ) (x y : A) → slice_get xs i ≡ Some x → p y ≡ p x
    → position p (slice_set xs i y) ≡ position p xs
position-set p xs i x y e h =
    rw (
      position_or_len-set p xs i y x (h ∙ ap p (sym (get_or_from_slice_get xs i x x e))),
      length-set xs i y,
    ) refl

-- ---- one object of a graph changes

pub altered-at : (g : Graph) (v : Val) (n : ℕ) (t : Thing) (f : Thing → Thing) → thing_at g v ≡ Some t → v ≡ Object n
    → altered v f (thing_at g v) g ≡ record g { objects = slice_set g.objects n (f t) }
altered-at g v n t f e h =
    ap (λ (o : Option Thing). altered v f o g) e ∙ ap (λ (w : Val). with_thing w (f t) g) h

module _ (d : Data) (id : ObjId) (c : Cell) (F : Cell → Cell) (there : cell_at d id ≡ Some c)
    (same : stand (F c) ≡ stand c)
    (counted : is_object_cell c ≡ true) where
  pub becomes : Becomes d (change_cell d id F)
      (λ g. let r : Graph = record g {
        objects = slice_set g.objects (number_at (names_of d) id.0)
            (thing_in (names_of d) (F c));
      } in r)
  becomes = of-changed d id c F there same counted

  pub cell-changed : cell_at (change_cell d id F) id ≡ Some (F c)
  cell-changed = rw there (get-set d.cells id.0 c (F c) there)

  pub Grew-changed : Grew d (change_cell d id F)
  Grew-changed = record {
    grows = becomes.grows;
    programs = rw there refl;
    sides = rw there refl;
    joined = rw there refl;
  }

  pub changed-is : (t : Thing) → thing_in (names_of d) (F c) ≡ t → (log : List Item)
      → Image (change_cell d id F) log
      ≡ altered (object_in (names_of d) id) (λ u. t) (thing_at (Image d log) (object_in (names_of d) id)) (Image d log)
  changed-is t e log =
      let n : number_at (names_of d) id.0 ≡ rank d.cells id.0
      = omega (arith, numbers-rank d.cells id.0 0 (slice_get_within d.cells id.0 c there)) in
      becomes.image log
      ∙ ap (λ (y : Thing). let r : Graph = record (Image d log) {
        objects = slice_set (Image d log).objects
            (number_at (names_of d) id.0) y;
      } in r) e
      ∙ ap (λ (m : ℕ). let r : Graph = record (Image d log) { objects = slice_set (Image d log).objects m t } in r) n
      ∙ sym (altered-at (Image d log) (object_in (names_of d) id) (rank d.cells id.0) (thing_in (names_of d) c) (λ u. t)
      (of-cell d id c log there counted) (object-is d id c there counted))

  pub Acts-changed : (home : Side) → (F c).home ≡ c.home → HasItsIds (change_cell d id F) → Acts d home
      → Acts (change_cell d id F) home
  Acts-changed home h i a = record {
    side = a.side;
    ids = i;
    runs = CanRun-grows d (change_cell d id F) home Grew-changed i a.runs;
    built_ins = λ place e. kept place ∙ a.built_ins place e;
  }
    where
      kept : (place : ℕ) → is_some (built_in_of (change_cell d id F).joined (change_cell d id F).cells home place)
          ≡ is_some (built_in_of d.joined d.cells home place)
      kept place = rw there (ap (λ o. is_some (option_map obj_id o))
          (position-set (serves d.joined home place) d.cells id.0 c (F c) there (rw (h, same) refl)))

-- ---- what a definition makes of an object

abbrev pub IsSettled : Defined → Val → Graph → Graph → Type 0
IsSettled Refused v g g' = g' ≡ g
IsSettled (BecomesThing t b) v g g' = g' ≡ altered v (λ u. t) (thing_at g v) g
IsSettled (Faulty kind) v g g' = ⊥

abbrev pub answer_by : Defined → Answer
answer_by Refused = Flag false
answer_by (BecomesThing t b) = Flag b
answer_by (Faulty kind) = Flag false

pub settled-is : (s : ℕ) (v : Val) (m : Defined) (g g' : Graph) → IsSettled m v g g' → (k : Answer → Graph → Row)
    → settled s v m k g ≡ k (answer_by m) g'
settled-is s v Refused g g' h k = ap (k (Flag false)) (sym h)
settled-is s v (BecomesThing t b) g g' h k = ap (k (Flag b)) (sym h)
settled-is s v (Faulty kind) g g' h k = absurd h

-- ---- an object of a kind

-- a cell of that kind
pub held-cell : (d : Data) (home : Side) (y : CellKind) (id : ObjId) → IsOfKind d home y id
    → (c : Cell) × (cell_at d id ≡ Some c) × (c.home ≡ home) × (c.kind ≡ y)
held-cell d home y id h = by (cell_at d id) refl h
  where
    by : (o : Option Cell) → cell_at d id ≡ o → IsSomeAnd o (λ c. (c.home ≡ home) × (c.kind ≡ y))
        → (c : Cell) × (cell_at d id ≡ Some c) × (c.home ≡ home) × (c.kind ≡ y)
    by None e k = absurd k
    by (Some c) e k = (c, e, k.0, k.1)
