-- pop (ECMA-262 23.1.3.22): the last element is got and deleted, and then the length is set.
use Rattle.std.proofs.Common.{Ok, pos, refl, suc, true, ℕ, ◌≡◌}
use Rattle.mb_arrayapi.proofs.MemberRows.{Part-gets, Part-sets, gets-kept, sets-kept}
use Rattle.mb_arrayapi.proofs.PlaceValues.{place-held, small-held}
use Rattle.mb_arrayapi.specs.machine.Placing.{IsPlace}
use Rattle.mb_arrayapi.specs.machine.Writing.{popped}
use Rattle.mb_base.specs.declared.value.Key.{Key}
use Rattle.mb_base.specs.declared.value.ObjId.{ObjId}
use Rattle.mb_base.specs.declared.value.Side.{Side}
use Rattle.mb_base.specs.declared.value.Value.{Value}
use Rattle.mb_base.specs.declared.value.Value.TheVariants as v
use Rattle.mb_frames.specs.Held.{HeldObject, HeldValue}
use Rattle.mb_frames.specs.Passing.{Part, TextsGrew}
use Rattle.mb_frames.specs.Ready.{IsReady, KeepsBy, MayHold}
use Rattle.mb_frames.specs.Sorts.{AValue}
use Rattle.mb_frames.specs.declared.arrays.ArrayFrame.TheVariants as y
use Rattle.mb_frames.specs.declared.frame.Frame.TheVariants as x
use Rattle.mb_frames.specs.declared.frame.Move.TheVariants as move
use Rattle.mb_frames.specs.declared.task.Method.TheVariants as m
use Rattle.mb_frames.specs.declared.task.Task.TheVariants as task
use Rattle.mb_model.specs.BuiltIns.ArrayMembers.{pop_from, pop_got}
use Rattle.mb_model.specs.Meaning.{finished}
use Rattle.mb_model.specs.Task.{Value as ValueAnswer}
use Rattle.mb_model.specs.Writing.{give}
use Rattle.mb_world.specs.Arrays.{index_key, length_key}
use Rattle.mb_world.specs.Data.{Data}
use Rattle.mb_world.specs.Ids.{KeyIn}
use Rattle.mb_world.specs.Image.{Resolve, key_in, names_of, object_in}

module _ (home : Side) (d d' : Data) (t : TextsGrew d d') (r : IsReady d) (object : ObjId)
    (b : MayHold d home (HeldObject object)) (key : Key) (i : KeyIn d' key) where
  -- the last element is got
  pub Part-pops : (f k all : ℕ) → all ≡ suc k → key_in (names_of d') key ≡ index_key k
      → Part home (Ok (move.Wait (x.Array (y.PopGot object k))
      (task.Perform (m.Get key (v.Object object)) object home true))) d d' f f
      (pop_from home.0 (object_in (names_of d) object) all finished)
  Part-pops f k all a e =
      rw a (Part-gets home d d' t r (y.PopGot object k) (b, tt) key i object b (index_key k) e f
      (pop_got home.0 (object_in (names_of d) object) k) refl)

  pub pops-kept : (k : ℕ) → key_in (names_of d') key ≡ index_key k
      → KeepsBy home AValue (Ok (move.Wait (x.Array (y.PopGot object k))
      (task.Perform (m.Get key (v.Object object)) object home true))) d d'
  pops-kept k e = gets-kept home d d' t r (y.PopGot object k) (b, tt) key i object b (index_key k) e AValue refl refl

  -- the length is set
  module _ (k : ℕ) (whole : Value) (p : IsPlace k whole) (given : Value) (g : MayHold d home (HeldValue given))
      (e : key_in (names_of d') key ≡ length_key) where
    pub Part-popped : (f : ℕ)
        → Part home (Ok (move.Wait (x.Array (y.PopLength given))
        (task.Perform (m.Set key whole (v.Object object)) object home true))) d d' f f
        (popped home.0 (object_in (names_of d) object) k (Resolve (names_of d) given) finished)
    Part-popped f =
        rw p.is (Part-sets home d d' t r (y.PopLength given) (g, tt) key i object b length_key e (v.Whole (pos k))
        (small-held d home k p.small) f (λ a. give (ValueAnswer (Resolve (names_of d) given))) refl)

    pub popped-kept : KeepsBy home AValue (Ok (move.Wait (x.Array (y.PopLength given))
        (task.Perform (m.Set key whole (v.Object object)) object home true))) d d'
    popped-kept =
        sets-kept home d d' t r (y.PopLength given) (g, tt) key i object b length_key e whole
        (place-held d home k whole p) AValue refl refl
