-- One turn of a loop over the elements of an object: its unit, and whether an element is there.
use Rattle.std.proofs.Common.{◌+◌, ◌<◌, ◌≡◌, ◌∷◌, Err, Ok, Result, [], ap, false, refl, suc, true, ℕ}
use Rattle.mb_arrayapi.proofs.Asking.{Part-asks, asks-kept}
use Rattle.mb_arrayapi.proofs.TurnLaws.{turns-more, turns-over}
use Rattle.mb_arrayapi.specs.machine.Turning.{turns_from}
use Rattle.mb_base.specs.declared.value.Key.{Key}
use Rattle.mb_base.specs.declared.value.ObjId.{ObjId}
use Rattle.mb_base.specs.declared.value.Side.{Side}
use Rattle.mb_base.specs.declared.value.Value.TheVariants as v
use Rattle.mb_frames.proofs.HeldLess.{key-held, object-value}
use Rattle.mb_frames.proofs.Leaving.{holds-still}
use Rattle.mb_frames.proofs.Passed.{Part-by, Part-passed, Part-unpaid, Passes-paid}
use Rattle.mb_frames.specs.Held.{HeldKey, HeldObject, HeldValue}
use Rattle.mb_frames.specs.Holding.{turn_held}
use Rattle.mb_frames.specs.Passing.{Part, TextsGrew}
use Rattle.mb_frames.specs.Ready.{Holds, IsReady, KeepsBy, MayHold}
use Rattle.mb_frames.specs.Rest.Arraying.{turn_found, turn_index}
use Rattle.mb_frames.specs.Sorts.{AValue}
use Rattle.mb_frames.specs.Stepping.{charged_by}
use Rattle.mb_frames.specs.declared.arrays.ArrayFrame.TheVariants as y
use Rattle.mb_frames.specs.declared.arrays.Turn.{Turn}
use Rattle.mb_frames.specs.declared.frame.Frame.TheVariants as x
use Rattle.mb_frames.specs.declared.frame.Move.{Move}
use Rattle.mb_frames.specs.declared.frame.Move.TheVariants as move
use Rattle.mb_frames.specs.declared.machine.Halt.{Halt}
use Rattle.mb_frames.specs.declared.machine.Halt.TheVariants.{Spent as SpentHalt}
use Rattle.mb_frames.specs.declared.task.Method.TheVariants as m
use Rattle.mb_frames.specs.declared.task.Task.TheVariants as task
use Rattle.mb_model.specs.BuiltIns.Arrays.{element_found}
use Rattle.mb_model.specs.Meaning.{finished}
use Rattle.mb_model.specs.Task.{Answer, Get, HasProperty}
use Rattle.mb_model.specs.Writing.{◌>>=◌, Does, Row, flag, perform}
use Rattle.mb_parts.proofs.Texting.{texts-changed}
use Rattle.mb_world.specs.Arrays.{index_key}
use Rattle.mb_world.specs.Data.{Data}
use Rattle.mb_world.specs.Graph.{Graph}
use Rattle.mb_world.specs.Ids.{KeyIn}
use Rattle.mb_world.specs.Image.{Image, Names, key_in, names_of, object_in}
use Rattle.mb_world.specs.Value.{Val}

-- what is asked of the object may be held where texts were added
module _ (home : Side) (d d' : Data) (t : TextsGrew d d') (r : IsReady d) (object : ObjId)
    (h : MayHold d home (HeldObject object)) (key : Key) (k : KeyIn d' key) where
  still : MayHold d' home (HeldObject object)
  still = (holds-still home d d' r (texts-changed home d d' t r) (HeldObject object ∷ []) (h, tt)).0

  pub has-held : Holds d' home (HeldObject object ∷ HeldKey key ∷ [])
  has-held = (still, (key-held d' home key k, tt))

  pub get-held : Holds d' home (HeldObject object ∷ HeldKey key ∷ HeldValue (v.Object object) ∷ [])
  get-held = (still, (key-held d' home key k, (object-value d' home object still, tt)))

module _ (home : Side) (d : Data) (object : ObjId) (t : Turn) (k : ℕ) where
  abbrev n : Names
  n = names_of d

  abbrev o : Val
  o = object_in n object

  -- whether the element is there, and what follows
  abbrev asking : ℕ → Graph → Row
  asking left =
      (flag (perform home.0 (HasProperty (index_key (turn_index t k))) o)
      >>= element_found home.0 o (turn_index t k)
      >>= turn_found n home.0 o t k left) finished

  turn-is : (left : ℕ) (g : Graph)
      → turns_from n home.0 o t k (suc left) finished g ≡ charged_by 1 (asking left) g
  turn-is left g = ap (λ (p : Does Answer). p finished g) (turns-more n home.0 o t k left)

  -- its unit can't be paid
  pub Part-unpaid-turn : (f left all : ℕ) → all ≡ suc left → f < 1
      → Part home (Err SpentHalt) d d f f (turns_from n home.0 o t k all finished)
  Part-unpaid-turn f left all i e =
      rw i (Part-by home (Err SpentHalt) d d f f (turns_from n home.0 o t k (suc left) finished)
      (charged_by 1 (asking left)) (λ log. turn-is left (Image d log)) (Part-unpaid home d 1 f (asking left) e))

  module _ (d' : Data) (g : TextsGrew d d') (r : IsReady d) (key : Key) (i : KeyIn d' key)
      (h : Holds d home (HeldObject object ∷ turn_held t))
      (e : key_in (names_of d') key ≡ index_key (turn_index t k)) (left : ℕ) where
    -- whether it is there is asked
    pub Part-turn : (f f' all : ℕ) → all ≡ suc left → f' + 1 ≡ f
        → Part home (Ok (move.Wait (x.Array (y.There object k left t))
        (task.Perform (m.HasProperty key) object home true))) d d' f f' (turns_from n home.0 o t k all finished)
    Part-turn f f' all q u =
        let go : Move = move.Wait (x.Array (y.There object k left t))
        (task.Perform (m.HasProperty key) object home true) in
        rw q (Part-by home (Ok go) d d' f f' (turns_from n home.0 o t k (suc left) finished)
        (charged_by 1 (asking left)) (λ log. turn-is left (Image d log))
        (Part-passed home (Ok go) d d d' f f' f' (charged_by 1 (asking left)) (asking left)
        (Passes-paid d 1 f f' (asking left) u)
        (Part-asks home d d' f' g (y.There object k left t) h (m.HasProperty key) object
        (has-held home d d' g r object h.0 key i) (perform home.0 (HasProperty (index_key (turn_index t k))) o)
        (asking left) (rw (e, g.becomes.grows.same_object object h.0.within) refl) (λ log. refl))))

    pub turn-kept : KeepsBy home AValue (Ok (move.Wait (x.Array (y.There object k left t))
        (task.Perform (m.HasProperty key) object home true))) d d'
    turn-kept =
        asks-kept home d d' 0 g (y.There object k left t) h (m.HasProperty key) object
        (has-held home d d' g r object h.0 key i) r AValue refl refl

    -- an element that is there is got
    pub Part-there : (f : ℕ)
        → Part home (Ok (move.Wait (x.Array (y.Got object k left t))
        (task.Perform (m.Get key (v.Object object)) object home true))) d d' f f
        ((element_found home.0 o (turn_index t k) true >>= turn_found n home.0 o t k left) finished)
    Part-there f =
        Part-asks home d d' f g (y.Got object k left t) h (m.Get key (v.Object object)) object
        (get-held home d d' g r object h.0 key i) (perform home.0 (Get (index_key (turn_index t k)) o) o)
        ((element_found home.0 o (turn_index t k) true >>= turn_found n home.0 o t k left) finished)
        (rw (e, g.becomes.grows.same_object object h.0.within) refl) (λ log. refl)

    pub there-kept : KeepsBy home AValue (Ok (move.Wait (x.Array (y.Got object k left t))
        (task.Perform (m.Get key (v.Object object)) object home true))) d d'
    there-kept =
        asks-kept home d d' 0 g (y.Got object k left t) h (m.Get key (v.Object object)) object
        (get-held home d d' g r object h.0 key i) r AValue refl refl

  -- a hole is passed over
  pub Part-hole : (r : Result Move Halt) (d' : Data) (f f' left : ℕ)
      → Part home r d d' f f' (turns_from n home.0 o t (k + 1) left finished)
      → Part home r d d' f f'
      ((element_found home.0 o (turn_index t k) false >>= turn_found n home.0 o t k left) finished)
  Part-hole r d' f f' left p =
      Part-by home r d d' f f'
      ((element_found home.0 o (turn_index t k) false >>= turn_found n home.0 o t k left) finished)
      (turns_from n home.0 o t (k + 1) left finished)
      (λ log. ap (λ (q : Does Answer). q finished (Image d log)) (turns-over n home.0 o t k left)) p
