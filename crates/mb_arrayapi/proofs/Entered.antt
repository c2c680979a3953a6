-- Members of Array.prototype that are entered: `this` must be an object, whose length is got.
use Rattle.std.proofs.Common.{Bool, Ok, Result, ap, refl, true, ℕ, ◌≡◌}
use Rattle.mb_arrayapi.proofs.MemberRows.{Part-gets, gets-kept}
use Rattle.mb_base.specs.declared.value.Key.{Key}
use Rattle.mb_base.specs.declared.value.ObjId.{ObjId}
use Rattle.mb_base.specs.declared.value.Side.{Side}
use Rattle.mb_base.specs.declared.value.Value.{Value}
use Rattle.mb_base.specs.declared.value.Value.TheVariants as v
use Rattle.mb_call.proofs.Objects.{no-object}
use Rattle.mb_frames.proofs.Passed.{Part-by}
use Rattle.mb_frames.specs.Held.{HeldObject}
use Rattle.mb_frames.specs.Holding.{member_held}
use Rattle.mb_frames.specs.Passing.{Part, TextsGrew}
use Rattle.mb_frames.specs.Ready.{Holds, IsReady, KeepsBy, MayHold}
use Rattle.mb_frames.specs.Rest.Arraying.{member_from}
use Rattle.mb_frames.specs.Sorts.{AValue}
use Rattle.mb_frames.specs.declared.arrays.ArrayFrame.TheVariants as y
use Rattle.mb_frames.specs.declared.arrays.Member.{Member}
use Rattle.mb_frames.specs.declared.frame.Frame.TheVariants as x
use Rattle.mb_frames.specs.declared.frame.Move.{Move}
use Rattle.mb_frames.specs.declared.frame.Move.TheVariants as move
use Rattle.mb_frames.specs.declared.machine.Halt.{Halt}
use Rattle.mb_frames.specs.declared.task.Method.TheVariants as m
use Rattle.mb_frames.specs.declared.task.Task.TheVariants as task
use Rattle.mb_model.specs.BuiltIns.Arrays.{array_start}
use Rattle.mb_model.specs.Meaning.{finished}
use Rattle.mb_model.specs.Operations.Calls.{get, length_from, length_of}
use Rattle.mb_model.specs.Task.{Answer}
use Rattle.mb_model.specs.Writing.{◌>>=◌, Does, type_error, unless_type_error}
use Rattle.mb_world.proofs.Values.{object-object}
use Rattle.mb_world.specs.Arrays.{length_key}
use Rattle.mb_world.specs.Data.{Data}
use Rattle.mb_world.specs.Ids.{KeyIn}
use Rattle.mb_world.specs.Image.{Image, Names, Resolve, key_in, names_of, object_in}
use Rattle.mb_world.specs.Value.{Val}

-- a member, where it is told whether `this` is an object
abbrev starts : Names → ℕ → Val → Member → Bool → Does Answer
starts n s o member b = unless_type_error s b >>= (λ a. length_of s o) >>= member_from n s o member

module _ (home : Side) (d d' : Data) (t : TextsGrew d d') (r : IsReady d) (object : ObjId)
    (b : MayHold d home (HeldObject object)) (key : Key) (i : KeyIn d' key)
    (e : key_in (names_of d') key ≡ length_key) (member : Member) (h : Holds d home (member_held member)) where
  abbrev n : Names
  n = names_of d

  abbrev o : Val
  o = object_in n object

  pub Part-object : (f : ℕ)
      → Part home (Ok (move.Wait (x.Array (y.Length object member))
      (task.Perform (m.Get key (v.Object object)) object home true))) d d' f f
      ((array_start home.0 o >>= member_from n home.0 o member) finished)
  Part-object f =
      Part-by home (Ok (move.Wait (x.Array (y.Length object member))
      (task.Perform (m.Get key (v.Object object)) object home true))) d d' f f
      ((array_start home.0 o >>= member_from n home.0 o member) finished)
      ((get home.0 o length_key >>= (λ a. length_from home.0 a >>= member_from n home.0 o member)) finished)
      (λ log. ap (λ (c : Bool). starts n home.0 o member c finished (Image d log)) (object-object n object))
      (Part-gets home d d' t r (y.Length object member) (b, h) key i object b length_key e f
      (λ a. length_from home.0 a >>= member_from n home.0 o member) refl)

  pub object-kept : KeepsBy home AValue (Ok (move.Wait (x.Array (y.Length object member))
      (task.Perform (m.Get key (v.Object object)) object home true))) d d'
  object-kept =
      gets-kept home d d' t r (y.Length object member) (b, h) key i object b length_key e AValue refl refl

-- no object
pub Part-no-object : (home : Side) (r : Result Move Halt) (d d' : Data) (f : ℕ) (this : Value) (member : Member)
    → ((o : ObjId) → this ≡ v.Object o → ⊥) → Part home r d d' f f (type_error home.0 finished)
    → Part home r d d' f f ((array_start home.0 (Resolve (names_of d) this)
    >>= member_from (names_of d) home.0 (Resolve (names_of d) this) member) finished)
Part-no-object home r d d' f this member e p =
    let n : Names = names_of d in
    let o : Val = Resolve n this in
    Part-by home r d d' f f ((array_start home.0 o >>= member_from n home.0 o member) finished)
    (type_error home.0 finished)
    (λ log. ap (λ (c : Bool). starts n home.0 o member c finished (Image d log)) (no-object n this e)) p
