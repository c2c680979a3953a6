-- push (ECMA-262 23.1.3.23): the arguments are set one after the other, and then the length.
use Rattle.std.proofs.Common.{◌+◌, ◌<◌, ◌∙◌, ◌≡◌, ◌∷◌, Err, List, None, Ok, Result, Some, [], ap, drop, option_map, pos}
use Rattle.std.proofs.Common.{refl, slice_get, suc, true, zero, ℕ}
use Rattle.std.proofs.Math.Seq.{drop-nil}
use Rattle.std.proofs.lemmas.Option.{slice_get-map}
use Rattle.mb_arrayapi.proofs.MemberRows.{Part-sets, sets-kept}
use Rattle.mb_arrayapi.proofs.PlaceValues.{place-held, small-held}
use Rattle.mb_arrayapi.specs.machine.Placing.{IsPlace}
use Rattle.mb_base.specs.declared.value.Key.{Key}
use Rattle.mb_base.specs.declared.value.ObjId.{ObjId}
use Rattle.mb_base.specs.declared.value.Side.{Side}
use Rattle.mb_base.specs.declared.value.Value.{Value}
use Rattle.mb_base.specs.declared.value.Value.TheVariants as v
use Rattle.mb_frames.proofs.HeldLess.{values-each}
use Rattle.mb_frames.proofs.Passed.{Part-by, Part-passed, Part-unpaid, Passes-paid}
use Rattle.mb_frames.proofs.Steps.{drop-at}
use Rattle.mb_frames.specs.Held.{HeldObject, HeldValue, HeldValues}
use Rattle.mb_frames.specs.Passing.{Part, TextsGrew}
use Rattle.mb_frames.specs.Ready.{IsReady, KeepsBy, MayHold}
use Rattle.mb_frames.specs.Resolved.{values_in}
use Rattle.mb_frames.specs.Sorts.{AValue}
use Rattle.mb_frames.specs.Stepping.{charged_by}
use Rattle.mb_frames.specs.declared.arrays.ArrayFrame.{ArrayFrame}
use Rattle.mb_frames.specs.declared.arrays.ArrayFrame.TheVariants as y
use Rattle.mb_frames.specs.declared.frame.Frame.TheVariants as x
use Rattle.mb_frames.specs.declared.frame.Move.{Move}
use Rattle.mb_frames.specs.declared.frame.Move.TheVariants as move
use Rattle.mb_frames.specs.declared.machine.Halt.{Halt}
use Rattle.mb_frames.specs.declared.machine.Halt.TheVariants.{Spent as SpentHalt}
use Rattle.mb_frames.specs.declared.task.Method.TheVariants as m
use Rattle.mb_frames.specs.declared.task.Task.TheVariants as task
use Rattle.mb_model.specs.BuiltIns.ArrayMembers.{push_each}
use Rattle.mb_model.specs.BuiltIns.Arrays.{place_value}
use Rattle.mb_model.specs.Meaning.{finished}
use Rattle.mb_model.specs.Operations.Calls.{putv}
use Rattle.mb_model.specs.Task.{Answer, Value as ValueAnswer}
use Rattle.mb_model.specs.Writing.{◌>>=◌, Does, Row, give}
use Rattle.mb_world.proofs.Grow.{All-at}
use Rattle.mb_world.specs.Arrays.{index_key, length_key}
use Rattle.mb_world.specs.Data.{Data}
use Rattle.mb_world.specs.Graph.{Graph}
use Rattle.mb_world.specs.Ids.{KeyIn}
use Rattle.mb_world.specs.Image.{Image, Names, Resolve, key_in, names_of, object_in}
use Rattle.mb_world.specs.Value.{Val}

-- ---- the next argument

drop-more : (n : Names) (xs : List Value) (k : ℕ) (a : Value) → slice_get xs k ≡ Some a
    → drop k (values_in n xs) ≡ Resolve n a ∷ drop (k + 1) (values_in n xs)
drop-more n xs k a e =
    drop-at (values_in n xs) k (Resolve n a) (slice_get-map (Resolve n) xs k ∙ ap (option_map (Resolve n)) e)

drop-none : (n : Names) (xs : List Value) (k : ℕ) → slice_get xs k ≡ None → drop k (values_in n xs) ≡ []
drop-none n [] k e = drop-nil k
drop-none n (a ∷ xs) zero e = cc
drop-none n (a ∷ xs) (suc k) e = drop-none n xs k e

module _ (home : Side) (d : Data) (r : IsReady d) (object : ObjId) (b : MayHold d home (HeldObject object)) where
  abbrev n : Names
  n = names_of d

  abbrev o : Val
  o = object_in n object

  -- no argument is left
  pub Part-last : (q : Result Move Halt) (d2 : Data) (f f' place next : ℕ) (xs : List Value)
      → slice_get xs next ≡ None → Part home q d d2 f f' (push_each home.0 o place [] finished)
      → Part home q d d2 f f' (push_each home.0 o place (drop next (values_in n xs)) finished)
  Part-last q d2 f f' place next xs e h =
      Part-by home q d d2 f f' (push_each home.0 o place (drop next (values_in n xs)) finished)
      (push_each home.0 o place [] finished)
      (λ log. ap (λ (vs : List Val). push_each home.0 o place vs finished (Image d log)) (drop-none n xs next e)) h

  -- the length is set
  module _ (d' : Data) (t : TextsGrew d d') (key : Key) (i : KeyIn d' key) (k : ℕ) (whole : Value)
      (p : IsPlace k whole) (e : key_in (names_of d') key ≡ length_key) where
    pub Part-length : (f : ℕ)
        → Part home (Ok (move.Wait (x.Array (y.PushLength k))
        (task.Perform (m.Set key whole (v.Object object)) object home true))) d d' f f
        (push_each home.0 o k [] finished)
    Part-length f =
        rw p.is (Part-sets home d d' t r (y.PushLength k) tt key i object b length_key e (v.Whole (pos k))
        (small-held d home k p.small) f (λ a. give (ValueAnswer (place_value k))) refl)

    pub length-kept : KeepsBy home AValue (Ok (move.Wait (x.Array (y.PushLength k))
        (task.Perform (m.Set key whole (v.Object object)) object home true))) d d'
    length-kept =
        sets-kept home d d' t r (y.PushLength k) tt key i object b length_key e whole (place-held d home k whole p)
        AValue
        refl refl

  -- an argument is set
  module _ (xs : List Value) (h : MayHold d home (HeldValues xs)) (place next : ℕ) (a : Value)
      (is : slice_get xs next ≡ Some a) where
    abbrev after : Answer → Does Answer
    after w = push_each home.0 o (place + 1) (drop (next + 1) (values_in n xs))

    abbrev setting : Graph → Row
    setting = (putv home.0 o (index_key place) (Resolve n a) >>= after) finished

    next-is : (g : Graph) → push_each home.0 o place (drop next (values_in n xs)) finished g
        ≡ charged_by 1 setting g
    next-is g = ap (λ (vs : List Val). push_each home.0 o place vs finished g) (drop-more n xs next a is)

    given : MayHold d home (HeldValue a)
    given = All-at (λ z. MayHold d home (HeldValue z)) xs next a is (values-each d home xs h)

    pub Part-unpaid-push : (f : ℕ) → f < 1
        → Part home (Err SpentHalt) d d f f (push_each home.0 o place (drop next (values_in n xs)) finished)
    Part-unpaid-push f e =
        Part-by home (Err SpentHalt) d d f f (push_each home.0 o place (drop next (values_in n xs)) finished)
        (charged_by 1 setting) (λ log. next-is (Image d log)) (Part-unpaid home d 1 f setting e)

    module _ (d' : Data) (t : TextsGrew d d') (key : Key) (i : KeyIn d' key)
        (e : key_in (names_of d') key ≡ index_key place) where
      abbrev frame : ArrayFrame
      frame = y.PushSet object place xs (next + 1)

      pub Part-push : (f f' : ℕ) → f' + 1 ≡ f
          → Part home (Ok (move.Wait (x.Array frame)
          (task.Perform (m.Set key a (v.Object object)) object home true))) d d' f f'
          (push_each home.0 o place (drop next (values_in n xs)) finished)
      Part-push f f' u =
          let go : Move = move.Wait (x.Array frame) (task.Perform (m.Set key a (v.Object object)) object home true) in
          Part-by home (Ok go) d d' f f' (push_each home.0 o place (drop next (values_in n xs)) finished)
          (charged_by 1 setting) (λ log. next-is (Image d log))
          (Part-passed home (Ok go) d d d' f f' f' (charged_by 1 setting) setting (Passes-paid d 1 f f' setting u)
          (Part-sets home d d' t r frame (b, (h, tt)) key i object b (index_key place) e a given f' after refl))

      pub push-kept : KeepsBy home AValue (Ok (move.Wait (x.Array frame)
          (task.Perform (m.Set key a (v.Object object)) object home true))) d d'
      push-kept =
          sets-kept home d d' t r frame (b, (h, tt)) key i object b (index_key place) e a given AValue refl refl
