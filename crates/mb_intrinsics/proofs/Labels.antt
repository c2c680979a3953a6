-- An object of `labelled` is the last of the graph, has its label, and the world stays ready.
use Rattle.std.proofs.Common.{◌<◌, ◌∙◌, ◌≡◌, None, Ok, Option, Some, ap, arith, false, length, refl, sym, ℕ}
use Rattle.std.proofs.lemmas.List.Elements.{All-nil}
use Rattle.mb_base.specs.declared.value.ObjId.{ObjId}
use Rattle.mb_base.specs.declared.value.Side.{Side}
use Rattle.mb_base.specs.declared.value.StrId.{StrId}
use Rattle.mb_base.specs.declared.value.Value.{Value}
use Rattle.mb_base.specs.declared.value.Value.TheVariants as v
use Rattle.mb_frames.proofs.Going.{WentOn-free, WentOn-passes}
use Rattle.mb_frames.proofs.HeldAs.{made-held}
use Rattle.mb_frames.proofs.Made.{last-went, made-last}
use Rattle.mb_frames.proofs.Passed.{Part-passed, Part-sure}
use Rattle.mb_frames.proofs.Renewing.{made-changed}
use Rattle.mb_frames.proofs.Steps.{Sure-value}
use Rattle.mb_frames.specs.Going.{WentOn}
use Rattle.mb_frames.specs.Held.{HeldPrototype, HeldValue}
use Rattle.mb_frames.specs.Passing.{Part}
use Rattle.mb_frames.specs.Ready.{Changed, IsMade, IsReady, MayHold}
use Rattle.mb_frames.specs.declared.frame.Move.TheVariants as move
use Rattle.mb_frames.specs.declared.task.Answer.TheVariants as a
use Rattle.mb_frames.specs.declared.task.Outcome.TheVariants as o
use Rattle.mb_model.specs.BuiltIns.Basics.{labelled}
use Rattle.mb_model.specs.Meaning.{finished}
use Rattle.mb_model.specs.Task.{Value as ValueAnswer}
use Rattle.mb_model.specs.Writing.{Row, is_value, make}
use Rattle.mb_world.specs.Contained.{IsOwn}
use Rattle.mb_world.specs.Data.{Data, made}
use Rattle.mb_world.specs.Formed.{InRange}
use Rattle.mb_world.specs.Graph.{Graph, Plain as GraphPlain}
use Rattle.mb_world.specs.Ids.{HasItsIds, TextIn, ValueIn}
use Rattle.mb_world.specs.Image.{Names, Resolve, names_of, object_in, stood, text_in}
use Rattle.mb_world.specs.Objects.{new_thing}
use Rattle.mb_world.specs.Standard.{object_prototype}
use Rattle.mb_world.specs.Value.{Val, text_of}
use Rattle.mb_world.specs.declared.cell.CellKind.TheVariants.{Plain}
use Rattle.mb_world.specs.Data.{AtPlace, Before, Counted, Hidden, Stand}
use Rattle.std.proofs.Common.{slice_get}
use Rattle.mb_world.specs.Value.{BuiltIn, Object}

-- ---- what a reference to an object stands for is an object

pub object-cases : (n : Names) (id : ObjId) (P : Val → Type 0) → ((i : ℕ) → P (Object i)) → ((p : ℕ) → P (BuiltIn p))
    → P (object_in n id)
object-cases n id P f g = by (slice_get n.stands id.0)
  where
    by : (s : Option Stand) → P (stood n id.0 s)
    by (Some Counted) = f _
    by (Some (AtPlace place)) = g place
    by (Some (Before behind)) = f _
    by (Some Hidden) = f _
    by None = f _

pub no-text : (n : Names) (x : Value) → ((t : StrId) → x ≡ v.Text t → ⊥) → text_of (Resolve n x) ≡ None
no-text n v.Undefined h = refl
no-text n v.Null h = refl
no-text n (v.Bool b) h = refl
no-text n (v.Whole z) h = refl
no-text n (v.Text t) h = absurd (h t refl)
no-text n (v.Symbol y) h = refl
no-text n (v.Object id) h = object-cases n id (λ y. text_of y ≡ None) (λ i. refl) (λ p. refl)

-- ---- an object with a label

module _ (d d1 : Data) (home : Side) (proto : Value) (label : StrId) (id : ObjId) (i : HasItsIds d)
    (same : d1 ≡ made d home Plain proto (Some label)) (number : id.0 ≡ length d.cells) (inside : home.0 < 8)
    (p : ValueIn d proto) (l : TextIn d label) (standard : Resolve (names_of d) proto ≡ object_prototype) where
  labelled-went : WentOn Val d d1 0 0
      (make (new_thing home.0 (Some (text_in (names_of d) label)) GraphPlain object_prototype))
      (object_in (names_of d1) id)
  labelled-went =
      rw (← standard)
      (last-went d d1 id (new_thing home.0 (Some (text_in (names_of d) label)) GraphPlain (Resolve (names_of d) proto))
      (made-last d d1 home Plain proto (Some label) id i refl refl same number inside tt p l))

  pub labelled-row : ValueIn d1 (v.Object id) → (u : ℕ)
      → Part home (Ok (move.Done (o.Normal (a.Value (v.Object id))))) d d1 u u
      (labelled home.0 (Some (text_in (names_of d) label)) finished)
  labelled-row h u =
      let x : Val = object_in (names_of d1) id in
      let k : Val → Graph → Row = λ y. is_value y finished in
      let r : Graph → Row = labelled home.0 (Some (text_in (names_of d) label)) finished in
      Part-passed home (Ok (move.Done (o.Normal (a.Value (v.Object id))))) d d1 d1 u u u r (k x)
      (WentOn-passes Val d d1 u u (make (new_thing home.0 (Some (text_in (names_of d) label)) GraphPlain
      object_prototype)) x k
      (WentOn-free Val d d1 u (make (new_thing home.0 (Some (text_in (names_of d) label)) GraphPlain object_prototype))
      x labelled-went))
      (Part-sure home d1 u (k x) (move.Done (o.Normal (a.Value (v.Object id)))) (Sure-value home d1 (v.Object id) h))

module _ (d : Data) (home : Side) (proto : Value) (label : StrId) (q : MayHold d home (HeldPrototype proto))
    (l : TextIn d label) where
  labelled-made : IsMade d home Plain proto (Some label)
  labelled-made = record {
    counted = refl;
    kind_in = tt;
    proto_in = q.within;
    label_in = l;
    prototype = q.sound;
    wholes = All-nil InRange;
    kind = tt;
    unlabelled = λ e. cc;
    kind_own = λ u. All-nil (IsOwn d home);
    proto_own = q.own;
  }

  pub labelled-changed : IsReady d → home.0 < d.sides → Changed home d (made d home Plain proto (Some label))
  labelled-changed r i = made-changed home d Plain proto (Some label) r i labelled-made

  pub labelled-held : (id : ObjId) → id.0 ≡ length d.cells
      → MayHold (made d home Plain proto (Some label)) home (HeldValue (v.Object id))
  labelled-held id n = (made-held d home Plain proto (Some label) id refl n).value
