-- A function is called for an element, and what follows.
use Rattle.std.proofs.Common.{◌+◌, ◌++◌, ◌≡◌, ◌∷◌, Bool, List, None, Ok, Some, [], ap, false, pos, refl, subst, sym}
use Rattle.std.proofs.Common.{true, true≢false, ℕ}
use Rattle.std.proofs.lemmas.List.Elements.{All-append, All-cons, All-nil}
use Rattle.std.specs.Option.{option_to_list}
use Rattle.std.specs.Prelude.{All, if◌then◌else◌}
use Rattle.mb_arrayapi.specs.machine.Passing.{IsPassed, function_of, lacks_value, so_far_of, this_of}
use Rattle.mb_arrayapi.specs.machine.Turning.{turns_from}
use Rattle.mb_base.specs.declared.value.ObjId.{ObjId}
use Rattle.mb_base.specs.declared.value.Side.{Side}
use Rattle.mb_base.specs.declared.value.Value.{Value}
use Rattle.mb_base.specs.declared.value.Value.TheVariants as v
use Rattle.mb_frames.proofs.HeldLess.{callable-object, object-value, undefined-held, values-all}
use Rattle.mb_frames.specs.Held.{HeldCallable, HeldObject, HeldValue, HeldValues}
use Rattle.mb_frames.specs.Holding.{array_held, callback_held}
use Rattle.mb_frames.specs.Passing.{Part}
use Rattle.mb_frames.specs.Ready.{Holds, IsReady, KeepsBy, MayHold}
use Rattle.mb_frames.specs.Sorts.{AValue}
use Rattle.mb_frames.specs.declared.frame.Frame.TheVariants as frames
use Rattle.mb_frames.specs.declared.frame.Move.TheVariants as move
use Rattle.mb_frames.specs.declared.task.Method.{Method}
use Rattle.mb_frames.specs.declared.task.Method.TheVariants as m
use Rattle.mb_frames.specs.declared.task.Task.TheVariants as task
use Rattle.mb_parts.proofs.Writing.{TextsGrew-same}
use Rattle.mb_world.specs.Formed.{IsCallable}
use Rattle.mb_arrayapi.proofs.Asking.{Part-asks, asks-kept}
use Rattle.mb_arrayapi.proofs.PlaceValues.{small-held}
use Rattle.mb_frames.specs.Resolved.{values_in}
use Rattle.mb_frames.specs.Rest.Arraying.{array_rest, call_found, callback_called}
use Rattle.mb_frames.specs.Rest.Parts.{with_answer}
use Rattle.mb_frames.specs.declared.arrays.ArrayFrame.TheVariants as waiting
use Rattle.mb_frames.specs.declared.arrays.ArrayFrame.{ArrayFrame}
use Rattle.mb_frames.specs.declared.arrays.Callback.{Callback}
use Rattle.mb_frames.specs.declared.arrays.Callback.TheVariants as callback
use Rattle.mb_frames.specs.declared.arrays.Turn.TheVariants as turn
use Rattle.mb_model.specs.BuiltIns.ArrayMembers.{filter_each, filter_kept}
use Rattle.mb_model.specs.Engine.{Do}
use Rattle.mb_model.specs.Meaning.{finished}
use Rattle.mb_model.specs.Objects.Methods.{store_element}
use Rattle.mb_model.specs.Task as model
use Rattle.mb_model.specs.Task.{Answer}
use Rattle.mb_model.specs.Writing.{◌>>=◌, Does, give, perform}
use Rattle.mb_world.specs.Data.{Data}
use Rattle.mb_world.specs.Graph.{Graph}
use Rattle.mb_world.specs.Image.{Image, Names, Resolve, names_of, object_in}
use Rattle.mb_world.specs.Value.{Val, to_boolean}

-- what is passed
abbrev pub passed : Callback → Value → ℕ → ObjId → List Value
passed f x k object = option_to_list (so_far_of f) ++ (x ∷ v.Whole (pos k) ∷ v.Object object ∷ [])

module _ (n : Names) (s : ℕ) (object : ObjId) where
  abbrev o : Val
  o = object_in n object

  -- the function is called
  pub call-is : (f : Callback) (x : Value) (k m : ℕ) (g : Graph) → lacks_value f ≡ false
      → call_found n s o f k m (Some (Resolve n x)) finished g
      ≡ Do (perform s (model.Call (Resolve n (this_of f)) (values_in n (passed f x k object)))
      (Resolve n (function_of f)))
      g (λ q. with_answer q (array_rest n s (waiting.Called object k m x f)) finished)
  call-is (callback.ForEach f this) x k m g e = refl
  call-is (callback.Map f this array) x k m g e = refl
  call-is (callback.Filter f this array count) x k m g e = refl
  call-is (callback.Reduce f None) x k m g e = absurd (true≢false e)
  call-is (callback.Reduce f (Some a)) x k m g e = refl

  -- the first element of reduce begins where nothing else does
  pub call-first : (f : Callback) (x : Value) (k m : ℕ) → lacks_value f ≡ true
      → call_found n s o f k m (Some (Resolve n x))
      ≡ turns_from n s o (turn.Call (callback.Reduce (function_of f) (Some x))) (k + 1) m
  call-first (callback.ForEach f this) x k m e = absurd (true≢false (sym e))
  call-first (callback.Map f this array) x k m e = absurd (true≢false (sym e))
  call-first (callback.Filter f this array count) x k m e = absurd (true≢false (sym e))
  call-first (callback.Reduce f None) x k m e = refl
  call-first (callback.Reduce f (Some a)) x k m e = absurd (true≢false (sym e))

  module _ (f this : Value) (array : ObjId) (count k m : ℕ) (x w : Val) where
    abbrev filtered : Bool → Does Answer
    filtered b =
        (let p : Does ℕ = if b then filter_kept s (object_in n array) x count else give count in p)
        >>= filter_each s o (Resolve n f) (Resolve n this) (object_in n array) m (k + 1)

    -- filter keeps an element
    pub called-in : to_boolean w ≡ true
        → callback_called n s o x k m w (callback.Filter f this array count)
        ≡ (store_element s (object_in n array) count x
        >>= (λ b. turns_from n s o (turn.Call (callback.Filter f this array (count + 1))) (k + 1) m))
    called-in e = ap filtered e

-- ---- what may be held of it

module _ (d : Data) (home : Side) where
  pub function-held : (f : Callback) → Holds d home (callback_held f) → MayHold d home (HeldCallable (function_of f))
  function-held (callback.ForEach f this) h = h.0
  function-held (callback.Map f this array) h = h.0
  function-held (callback.Filter f this array count) h = h.0
  function-held (callback.Reduce f so_far) h = h.0

  pub this-held : (f : Callback) → Holds d home (callback_held f) → MayHold d home (HeldValue (this_of f))
  this-held (callback.ForEach f this) h = h.1.0
  this-held (callback.Map f this array) h = h.1.0
  this-held (callback.Filter f this array count) h = h.1.0
  this-held (callback.Reduce f so_far) h = undefined-held d home

  abbrev P : Value → Type 0
  P x = MayHold d home (HeldValue x)

  so-far-held : (f : Callback) → Holds d home (callback_held f) → All P (option_to_list (so_far_of f))
  so-far-held (callback.ForEach f this) h = All-nil P
  so-far-held (callback.Map f this array) h = All-nil P
  so-far-held (callback.Filter f this array count) h = All-nil P
  so-far-held (callback.Reduce f None) h = All-nil P
  so-far-held (callback.Reduce f (Some x)) h = All-cons P x [] h.1.0 (All-nil P)

  pub passed-held : (f : Callback) (x : Value) (k : ℕ) (object : ObjId) → Holds d home (callback_held f)
      → MayHold d home (HeldValue x) → MayHold d home (HeldValue (v.Whole (pos k))) → MayHold d home (HeldObject object)
      → MayHold d home (HeldValues (passed f x k object))
  passed-held f x k object h a b c =
      values-all d home (passed f x k object)
      (All-append P (option_to_list (so_far_of f)) (x ∷ v.Whole (pos k) ∷ v.Object object ∷ []) (so-far-held f h)
      (All-cons P x (v.Whole (pos k) ∷ v.Object object ∷ []) a
      (All-cons P (v.Whole (pos k)) (v.Object object ∷ []) b
      (All-cons P (v.Object object) [] (object-value d home object c) (All-nil P)))))

-- ---- the call

module _ (home : Side) (d : Data) (f : ℕ) (r : IsReady d) (object : ObjId) (b : MayHold d home (HeldObject object))
    (y : Callback) (h : Holds d home (callback_held y)) (x : Value) (a : MayHold d home (HeldValue x)) (k : ℕ)
    (xs : List Value) (p : IsPassed (so_far_of y) x k object xs) (function : ObjId)
    (e : function_of y ≡ v.Object function) (left : ℕ) where
  abbrev frame : ArrayFrame
  frame = waiting.Called object k left x y

  abbrev calling : Method
  calling = m.Call (this_of y) xs

  frame-held : Holds d home (array_held frame)
  frame-held = (b, (a, h))

  called-held : Holds d home (HeldObject function ∷ HeldValue (this_of y) ∷ HeldValues xs ∷ [])
  called-held = (
    callable-object d home function
        (subst (λ (z : Value). MayHold d home (HeldCallable z)) e (function-held d home y h)),
    (
      this-held d home y h,
      (rw p.are (passed-held d home y x k object h a (small-held d home k p.small) b), tt),
    ),
  )

  pub Part-calls : lacks_value y ≡ false
      → Part home (Ok (move.Wait (frames.Array frame) (task.Perform calling function home true))) d d f f
      (call_found (names_of d) home.0 (object_in (names_of d) object) y k left (Some (Resolve (names_of d) x)) finished)
  Part-calls lacks =
      let n : Names = names_of d in
      let z : model.Task = perform home.0 (model.Call (Resolve n (this_of y)) (values_in n (passed y x k object)))
      (Resolve n (function_of y)) in
      Part-asks home d d f (TextsGrew-same d r.ids) frame frame-held calling function called-held z
      (call_found n home.0 (object_in n object) y k left (Some (Resolve n x)) finished)
      (rw (p.are, e) refl)
      (λ log. call-is n home.0 object y x k left (Image d log) lacks)

  pub calls-kept : KeepsBy home AValue
      (Ok (move.Wait (frames.Array frame) (task.Perform calling function home true))) d d
  calls-kept =
      asks-kept home d d f (TextsGrew-same d r.ids) frame frame-held calling function called-held r AValue refl refl

-- what may be called is an object
pub not-object : (d : Data) (x : Value) → IsCallable d x → ((o : ObjId) → x ≡ v.Object o → ⊥) → ⊥
not-object d v.Undefined h k = true≢false (sym h)
not-object d v.Null h k = true≢false (sym h)
not-object d (v.Bool b) h k = true≢false (sym h)
not-object d (v.Whole z) h k = true≢false (sym h)
not-object d (v.Text t) h k = true≢false (sym h)
not-object d (v.Symbol t) h k = true≢false (sym h)
not-object d (v.Object o) h k = k o refl
