-- New targets of constructors, and their `prototype`, which is got.
use Rattle.std.proofs.Common.{◌||◌, ◌≡◌, ◌∙◌, ◌∷◌, List, Ok, Some, [], ap, false, nat_eq, refl, sym, true, ℕ}
use Rattle.std.specs.Prelude.{codes}
use Rattle.mb_base.specs.declared.value.Key.{Key}
use Rattle.mb_base.specs.declared.value.ObjId.{ObjId}
use Rattle.mb_base.specs.declared.value.Side.{Side}
use Rattle.mb_base.specs.declared.value.Value.TheVariants as v
use Rattle.mb_call.proofs.Objects.{object-defined}
use Rattle.mb_frames.proofs.Agreeing.{grown-agree, reflect-agrees}
use Rattle.mb_frames.proofs.Apartness.{stands-for}
use Rattle.mb_frames.proofs.Growing.{are-grown}
use Rattle.mb_frames.proofs.HeldAs.{place-kind}
use Rattle.mb_frames.proofs.HeldLess.{key-held, object-value}
use Rattle.mb_frames.proofs.Keeping.{keeps-left}
use Rattle.mb_frames.proofs.Leaving.{holds-in, holds-still}
use Rattle.mb_frames.proofs.Parts.{all-both}
use Rattle.mb_frames.proofs.Passed.{Part-passed, Part-sure, Passes-texts}
use Rattle.mb_frames.proofs.Steps.{Sure-wait}
use Rattle.mb_frames.specs.Held.{HeldIn, HeldObject}
use Rattle.mb_frames.specs.Holding.{method_held, reflect_held}
use Rattle.mb_frames.specs.Passing.{TextsGrew}
use Rattle.mb_frames.specs.Ready.{Holds, IsReady, MayHold}
use Rattle.mb_frames.specs.Resolved.{task_in}
use Rattle.mb_frames.specs.Rest.Parts.{with_answer}
use Rattle.mb_frames.specs.Rest.Reflecting.{reflect_rest}
use Rattle.mb_frames.specs.Sorts.{AValue, Sort, fits, method_gives, reflect_gives, reflect_waits}
use Rattle.mb_frames.specs.declared.frame.Frame.TheVariants as x
use Rattle.mb_frames.specs.declared.reflecting.ReflectFrame.{ReflectFrame}
use Rattle.mb_frames.specs.declared.task.Method.{Method}
use Rattle.mb_frames.specs.declared.task.Method.TheVariants as m
use Rattle.mb_frames.specs.declared.task.Task.{Task}
use Rattle.mb_frames.specs.declared.task.Task.TheVariants as task
use Rattle.mb_model.specs.Engine.{Do}
use Rattle.mb_model.specs.Meaning.{finished}
use Rattle.mb_model.specs.Task as model
use Rattle.mb_model.specs.Task.{Answer}
use Rattle.mb_model.specs.Writing.{Does, Row}
use Rattle.mb_parts.proofs.Texting.{texts-changed}
use Rattle.mb_reflect.proofs.Doing.{Done, asked, leaves-asked}
use Rattle.mb_reflect.specs.machine.Targets.{getting, is_own_target}
use Rattle.mb_world.specs.Data.{AtPlace, Before, Counted, Data, Hidden, Stand, cell_at, kind_stand, stand}
use Rattle.mb_world.specs.Graph.{Graph, Item}
use Rattle.mb_world.specs.Ids.{KeyIn}
use Rattle.mb_world.specs.Image.{Image, key_in, names_of, object_in, stood}
use Rattle.mb_world.specs.Key.{Named}
use Rattle.mb_world.specs.Value.{BuiltIn, same_value}
use Rattle.mb_world.specs.declared.cell.Cell.{Cell}
use Rattle.mb_world.specs.declared.cell.CellKind.TheVariants as kind

-- ---- whether a new target is the constructor itself

module _ (d : Data) (id : ObjId) (c : Cell) (there : cell_at d id ≡ Some c) (place : ℕ) where
  defined-target : is_own_target place (object_in (names_of d) id)
      ≡ same_value (BuiltIn place) (object_in (names_of d) id)
  defined-target =
      ap (λ b. b || same_value (BuiltIn place) (object_in (names_of d) id)) (object-defined (names_of d) id)

  pub built-in-target : (at : ℕ) → c.kind ≡ kind.BuiltIn at
      → is_own_target place (object_in (names_of d) id) ≡ nat_eq place at
  built-in-target at e =
      defined-target
      ∙ ap (same_value (BuiltIn place)) (stands-for d id c (AtPlace at) there (ap kind_stand e))

  other-stand : (s : Stand) → stand c ≡ s → same_value (BuiltIn place) (stood (names_of d) id.0 (Some s)) ≡ false
      → is_own_target place (object_in (names_of d) id) ≡ false
  other-stand s e h = defined-target ∙ ap (same_value (BuiltIn place)) (stands-for d id c s there e) ∙ h

  pub other-target : ((at : ℕ) → c.kind ≡ kind.BuiltIn at → ⊥) → is_own_target place (object_in (names_of d) id) ≡ false
  other-target h = by (stand c) refl
    where
      by : (s : Stand) → stand c ≡ s → is_own_target place (object_in (names_of d) id) ≡ false
      by Counted e = other-stand Counted e refl
      by (AtPlace at) e = absurd (h at (place-kind c.kind at e))
      by (Before behind) e = other-stand (Before behind) e refl
      by Hidden e = other-stand Hidden e refl

-- ---- a method is asked once texts were added

module _ (home : Side) (d d1 : Data) (f : ℕ) (t : TextsGrew d d1) (y : ReflectFrame) (r : IsReady d)
    (h : Holds d home (reflect_held y)) where
  -- what the frame does with the outcome
  abbrev rest : model.Outcome → Graph → Row
  rest = λ q. with_answer q (reflect_rest (names_of d) home.0 y) finished

  rest-agrees : (q : model.Outcome) (g : Graph) → rest q g ≡ with_answer q (reflect_rest (names_of d1) home.0 y)
      finished g
  rest-agrees (model.Normal w) g =
      ap (λ (u : Does Answer). u finished g)
      (sym (reflect-agrees d (names_of d) (names_of d1) (grown-agree d d1 t.becomes.grows) home.0 y
      (holds-in d home (reflect_held y) h) w))
  rest-agrees (model.Throw w) g = refl
  rest-agrees (model.Return w) g = refl
  rest-agrees model.Break g = refl
  rest-agrees model.Continue g = refl

  module _ (wanted : Sort) (q : Method) (id : ObjId) (p : Graph → Row)
      (k : Holds d1 home (HeldObject id ∷ method_held id q)) (e : fits (method_gives q) (reflect_waits y) ≡ true)
      (g : fits (reflect_gives y) wanted ≡ true) where
    abbrev wants : Task
    wants = task.Perform q id home true

    pub done-later : ((log : List Item) → p (Image d log) ≡ Do (task_in (names_of d1) home.0 wants) (Image d log) rest)
        → Done home wanted (Ok (asked home y q id)) d d1 f f p
    done-later is =
        let z : Graph → Row = λ u. Do (task_in (names_of d1) home.0 wants) u rest in
        record {
          part = Part-passed home (Ok (asked home y q id)) d d1 d1 f f f p z (Passes-texts d d1 f p z t is)
              (Part-sure home d1 f z (asked home y q id)
              (Sure-wait home d1 (x.Reflect y) wants z rest (λ log. refl) tt rest-agrees
              (all-both (HeldIn d1) (reflect_held y) (HeldObject id ∷ method_held id q)
              (are-grown d d1 t.becomes.grows (reflect_held y) (holds-in d home (reflect_held y) h))
              (holds-in d1 home (HeldObject id ∷ method_held id q) k))));
          keeps = keeps-left home wanted (asked home y q id) d d1 (texts-changed home d d1 t r)
              (leaves-asked home d1 y q id wanted
              (holds-still home d d1 r (texts-changed home d d1 t r) (reflect_held y) h) k e g);
        }

  -- the `prototype` of an object
  pub done-getting : (key : Key) (id : ObjId) → KeyIn d1 key → key_in (names_of d1) key ≡ Named (codes "prototype")
      → MayHold d home (HeldObject id) → reflect_waits y ≡ AValue → (wanted : Sort)
      → fits (reflect_gives y) wanted ≡ true
      → Done home wanted (Ok (asked home y (m.Get key (v.Object id)) id)) d d1 f f
      (getting (names_of d) home.0 y (object_in (names_of d) id) finished)
  done-getting key id i named o waits wanted g =
      let c = texts-changed home d d1 t r in
      let still = holds-still home d d1 r c (HeldObject id ∷ []) (o, tt) in
      done-later wanted (m.Get key (v.Object id)) id
      (getting (names_of d) home.0 y (object_in (names_of d) id) finished)
      (still.0, (key-held d1 home key i, (object-value d1 home id still.0, tt)))
      (ap (fits AValue) waits) g
      (λ log. rw (named, t.becomes.grows.same_object id o.within) refl)
