-- Members that get, set or delete a property of an object, and wait.
use Rattle.std.proofs.Common.{Bool, Ok, ap, refl, sym, true, ℕ, ◌∙◌, ◌∷◌, ◌≡◌, []}
use Rattle.std.specs.Prelude.{if◌then◌else◌}
use Rattle.mb_arrayapi.proofs.Asking.{Part-asks, asks-kept}
use Rattle.mb_base.specs.declared.value.Key.{Key}
use Rattle.mb_base.specs.declared.value.ObjId.{ObjId}
use Rattle.mb_base.specs.declared.value.Side.{Side}
use Rattle.mb_base.specs.declared.value.Value.{Value}
use Rattle.mb_base.specs.declared.value.Value.TheVariants as v
use Rattle.mb_frames.proofs.HeldLess.{key-held, object-value}
use Rattle.mb_frames.proofs.Leaving.{holds-still}
use Rattle.mb_frames.specs.Held.{HeldKey, HeldObject, HeldValue}
use Rattle.mb_frames.specs.Holding.{array_held}
use Rattle.mb_frames.specs.Passing.{Part, TextsGrew}
use Rattle.mb_frames.specs.Ready.{Holds, IsReady, KeepsBy, MayHold}
use Rattle.mb_frames.specs.Rest.Arraying.{array_rest}
use Rattle.mb_frames.specs.Rest.Parts.{with_answer}
use Rattle.mb_frames.specs.Sorts.{AFlag, AValue, Sort, array_gives, array_waits, fits}
use Rattle.mb_frames.specs.declared.arrays.ArrayFrame.{ArrayFrame}
use Rattle.mb_frames.specs.declared.frame.Frame.TheVariants as x
use Rattle.mb_frames.specs.declared.frame.Move.TheVariants as move
use Rattle.mb_frames.specs.declared.task.Method.{Method}
use Rattle.mb_frames.specs.declared.task.Method.TheVariants as m
use Rattle.mb_frames.specs.declared.task.Task.TheVariants as task
use Rattle.mb_model.specs.Engine.{Do}
use Rattle.mb_model.specs.Meaning.{finished}
use Rattle.mb_model.specs.Operations.Calls.{get, putv, set_in}
use Rattle.mb_model.specs.Task as model
use Rattle.mb_model.specs.Task.{Answer}
use Rattle.mb_model.specs.Writing.{◌>>=◌, Does, flag, flag_in, perform, type_error, unless_type_error, value_in}
use Rattle.mb_parts.proofs.Texting.{texts-changed}
use Rattle.mb_world.proofs.Images.{value-grows}
use Rattle.mb_world.proofs.Values.{object-object}
use Rattle.mb_world.specs.Data.{Data}
use Rattle.mb_world.specs.Ids.{KeyIn}
use Rattle.mb_world.specs.Image.{Image, Names, Resolve, key_in, names_of, object_in}
use Rattle.mb_world.specs.Key.{PropertyKey}
use Rattle.mb_world.specs.Value.{Val}

module _ (home : Side) (d d' : Data) (t : TextsGrew d d') (r : IsReady d) (y : ArrayFrame)
    (h : Holds d home (array_held y)) (key : Key) (i : KeyIn d' key) (object : ObjId)
    (b : MayHold d home (HeldObject object)) (name : PropertyKey) (e : key_in (names_of d') key ≡ name) where
  abbrev n : Names
  n = names_of d

  abbrev o : Val
  o = object_in n object

  same-object : object_in (names_of d') object ≡ o
  same-object = t.becomes.grows.same_object object b.within

  still : MayHold d' home (HeldObject object)
  still = (holds-still home d d' r (texts-changed home d d' t r) (HeldObject object ∷ []) (b, tt)).0

  -- ---- it is got

  get-held : Holds d' home (HeldObject object ∷ HeldKey key ∷ HeldValue (v.Object object) ∷ [])
  get-held = (still, (key-held d' home key i, (object-value d' home object still, tt)))

  pub Part-gets : (f : ℕ) (p : Val → Does Answer) → array_rest n home.0 y ≡ (λ a. p (value_in a))
      → Part home (Ok (move.Wait (x.Array y) (task.Perform (m.Get key (v.Object object)) object home true))) d d' f f
      ((get home.0 o name >>= p) finished)
  Part-gets f p q =
      let z : model.Task = perform home.0 (model.Get name o) o in
      Part-asks home d d' f t y h (m.Get key (v.Object object)) object get-held z ((get home.0 o name >>= p) finished)
      (rw (e, same-object) refl)
      (λ log. ap (λ (F : Answer → Does Answer). Do z (Image d log) (λ w. with_answer w F finished)) (sym q))

  pub gets-kept : (wanted : Sort) → fits AValue (array_waits y) ≡ true → fits (array_gives y) wanted ≡ true
      → KeepsBy home wanted
      (Ok (move.Wait (x.Array y) (task.Perform (m.Get key (v.Object object)) object home true))) d d'
  gets-kept wanted a g = asks-kept home d d' 0 t y h (m.Get key (v.Object object)) object get-held r wanted a g

  -- ---- it is deleted

  delete-held : Holds d' home (HeldObject object ∷ HeldKey key ∷ [])
  delete-held = (still, (key-held d' home key i, tt))

  pub Part-deletes : (f : ℕ) (p : Bool → Does Answer) → array_rest n home.0 y ≡ (λ a. p (flag_in a))
      → Part home (Ok (move.Wait (x.Array y) (task.Perform (m.Delete key) object home true))) d d' f f
      ((flag (perform home.0 (model.Delete name) o) >>= p) finished)
  Part-deletes f p q =
      let z : model.Task = perform home.0 (model.Delete name) o in
      Part-asks home d d' f t y h (m.Delete key) object delete-held z ((flag z >>= p) finished)
      (rw (e, same-object) refl)
      (λ log. ap (λ (F : Answer → Does Answer). Do z (Image d log) (λ w. with_answer w F finished)) (sym q))

  pub deletes-kept : (wanted : Sort) → fits AFlag (array_waits y) ≡ true → fits (array_gives y) wanted ≡ true
      → KeepsBy home wanted (Ok (move.Wait (x.Array y) (task.Perform (m.Delete key) object home true))) d d'
  deletes-kept wanted a g = asks-kept home d d' 0 t y h (m.Delete key) object delete-held r wanted a g

  -- ---- it is set

  module _ (given : Value) (g : MayHold d home (HeldValue given)) where
    given-still : MayHold d' home (HeldValue given)
    given-still = (holds-still home d d' r (texts-changed home d d' t r) (HeldValue given ∷ []) (g, tt)).0

    set-held : Holds d' home
        (HeldObject object ∷ HeldKey key ∷ HeldValue given ∷ HeldValue (v.Object object) ∷ [])
    set-held = (still, (key-held d' home key i, (given-still, (object-value d' home object still, tt))))

    abbrev setting : Method
    setting = m.Set key given (v.Object object)

    pub Part-sets : (f : ℕ) (p : Answer → Does Answer)
        → array_rest n home.0 y ≡ (λ a. unless_type_error home.0 (flag_in a) >>= p)
        → Part home (Ok (move.Wait (x.Array y) (task.Perform setting object home true))) d d' f f
        ((putv home.0 o name (Resolve n given) >>= p) finished)
    Part-sets f p q =
        let w : Val = Resolve n given in
        let z : model.Task = perform home.0 (model.Set name w o) o in
        Part-asks home d d' f t y h setting object set-held z ((putv home.0 o name w >>= p) finished)
        (rw (e, same-object, value-grows d d' t.becomes.grows given g.within) refl)
        (λ log. ap (λ (c : Bool).
        ((let u : Does Answer = if c then set_in home.0 o name w else type_error home.0 in u) >>= p)
        finished (Image d log)) (object-object n object)
        ∙ ap (λ (F : Answer → Does Answer). Do z (Image d log) (λ u. with_answer u F finished)) (sym q))

    pub sets-kept : (wanted : Sort) → fits AFlag (array_waits y) ≡ true → fits (array_gives y) wanted ≡ true
        → KeepsBy home wanted (Ok (move.Wait (x.Array y) (task.Perform setting object home true))) d d'
    sets-kept wanted a k = asks-kept home d d' 0 t y h setting object set-held r wanted a k
