-- Rows that read a list of an array-like (ECMA-262 7.3.19, 7.3.20), one element after the other.
use Rattle.std.proofs.Common.{◌+◌, ◌++◌, ◌<◌, ◌||◌, Bool, Err, List, None, Ok, Option, Result, Some, [], ap, false}
use Rattle.std.proofs.Common.{length, length-append, not, refl, slice_get, suc, sym, true, true≢false, ℕ, ℤ, ◌∙◌}
use Rattle.std.proofs.Common.{◌∷◌, ◌≡◌}
use Rattle.std.proofs.lemmas.List.{map-append}
use Rattle.std.specs.Prelude.{if◌then◌else◌}
use Rattle.mb_base.specs.declared.value.Key.{Key}
use Rattle.mb_base.specs.declared.value.ObjId.{ObjId}
use Rattle.mb_base.specs.declared.value.Side.{Side}
use Rattle.mb_base.specs.declared.value.Value.{Value}
use Rattle.mb_base.specs.declared.value.Value.TheVariants as v
use Rattle.mb_call.proofs.Asking.{Part-asks, asks-kept}
use Rattle.mb_call.proofs.Objects.{no-object}
use Rattle.mb_call.specs.machine.Lists.{rest_of_list}
use Rattle.mb_frames.proofs.HeldLess.{key-held, object-value}
use Rattle.mb_frames.proofs.Leaving.{holds-in, holds-still}
use Rattle.mb_frames.proofs.Linking.{fits-same}
use Rattle.mb_frames.proofs.Passed.{Part-by, Part-passed, Part-unpaid, Passes-paid}
use Rattle.mb_frames.specs.Held.{HeldObject, HeldValues}
use Rattle.mb_frames.specs.Holding.{list_held}
use Rattle.mb_frames.specs.Passing.{Part, TextsGrew}
use Rattle.mb_frames.specs.Ready.{Changed, Holds, IsReady, KeepsBy, MayHold}
use Rattle.mb_frames.specs.Resolved.{values_in}
use Rattle.mb_frames.specs.Rest.Calls.{after_list, asks_keys}
use Rattle.mb_frames.specs.Sorts.{list_gives}
use Rattle.mb_frames.specs.declared.calls.AfterList.{AfterList}
use Rattle.mb_frames.specs.declared.calls.CallFrame.TheVariants as c
use Rattle.mb_frames.specs.declared.frame.Frame.TheVariants as x
use Rattle.mb_frames.specs.declared.frame.Move.{Move}
use Rattle.mb_frames.specs.declared.frame.Move.TheVariants as move
use Rattle.mb_frames.specs.declared.machine.Halt.{Halt}
use Rattle.mb_frames.specs.declared.machine.Halt.TheVariants.{Spent as SpentHalt}
use Rattle.mb_frames.specs.declared.task.Method.TheVariants as m
use Rattle.mb_frames.specs.declared.task.Task.{Task}
use Rattle.mb_frames.specs.declared.task.Task.TheVariants as task
use Rattle.mb_model.specs.Meaning.{finished}
use Rattle.mb_model.specs.Operations.Calls.{get, length_from, list_from, list_got, list_of, list_of_object}
use Rattle.mb_model.specs.Task.{Answer, Get}
use Rattle.mb_model.specs.Writing.{◌>>=◌, Does, Row, give, perform, type_error, unless_type_error}
use Rattle.mb_parts.proofs.Texting.{texts-changed}
use Rattle.mb_world.proofs.Grow.{ObjIn-grows}
use Rattle.mb_world.proofs.Values.{object-object}
use Rattle.mb_world.specs.Arrays.{index_key, length_key}
use Rattle.mb_world.specs.Data.{AtPlace, Before, Counted, Data, Hidden, Stand}
use Rattle.mb_world.specs.Formed.{IsCallable}
use Rattle.mb_world.specs.Graph.{Graph}
use Rattle.mb_world.specs.Ids.{KeyIn}
use Rattle.mb_world.specs.Image.{Image, Names, Resolve, key_in, names_of, object_in, stood}
use Rattle.mb_world.specs.Key.{is_property_key}
use Rattle.mb_world.specs.Value.{Val}

-- ---- the length

module _ (home : Side) (d d' : Data) (f : ℕ) (t : TextsGrew d d') (list : ObjId) (after : AfterList) (key : Key)
    (k : KeyIn d' key) (h : Holds d home (HeldObject list ∷ list_held after)) where
  abbrev asked : Task
  asked = task.Perform (m.Get key (v.Object list)) list home true

  pub Part-length : key_in (names_of d') key ≡ length_key
      → Part home (Ok (move.Wait (x.Call (c.ListLength list after)) asked)) d d' f f
      ((list_of home.0 (asks_keys after) (object_in (names_of d) list)
      >>= after_list (names_of d) home.0 after) finished)
  Part-length q =
      let n = names_of d in
      let o : Val = object_in n list in
      Part-asks home d d' f t (c.ListLength list after) (holds-in d home (HeldObject list ∷ list_held after) h) asked
      (perform home.0 (Get length_key o) o)
      ((list_of home.0 (asks_keys after) o >>= after_list n home.0 after) finished) (
        ObjIn-grows d d' t.becomes.grows list h.0.within,
        (k, (ObjIn-grows d d' t.becomes.grows list h.0.within, tt)),
      )
      (rw (q, t.becomes.grows.same_object list h.0.within) refl)
      (λ log. ap (λ (b : Bool). (
      (let p : Does (List Val) =
      if b then list_of_object home.0 (asks_keys after) o else type_error home.0 in p)
      >>= after_list n home.0 after) finished (Image d log)) (object-object n list))

  module _ (r : IsReady d) where
    later : Changed home d d'
    later = texts-changed home d d' t r

    still : MayHold d' home (HeldObject list)
    still = (holds-still home d d' r later (HeldObject list ∷ []) (h.0, tt)).0

    pub keeps-length : KeepsBy home (list_gives after)
        (Ok (move.Wait (x.Call (c.ListLength list after)) asked)) d d'
    keeps-length =
        asks-kept home d d' (list_gives after) (c.ListLength list after) (m.Get key (v.Object list)) list refl
        (fits-same (list_gives after)) r later h
        (still, (key-held d' home key k, (object-value d' home list still, tt)))

-- no list
pub Part-no-list : (home : Side) (r : Result Move Halt) (d d' : Data) (f : ℕ) (y : Value) (after : AfterList)
    → ((o : ObjId) → y ≡ v.Object o → ⊥) → Part home r d d' f f (type_error home.0 finished)
    → Part home r d d' f f
    ((list_of home.0 (asks_keys after) (Resolve (names_of d) y) >>= after_list (names_of d) home.0 after) finished)
Part-no-list home r d d' f y after e p =
    let n = names_of d in
    Part-by home r d d' f f
    ((list_of home.0 (asks_keys after) (Resolve n y) >>= after_list n home.0 after) finished)
    (type_error home.0 finished)
    (λ log. ap (λ (b : Bool). (
    (let p : Does (List Val) =
    if b then list_of_object home.0 (asks_keys after) (Resolve n y) else type_error home.0 in p)
    >>= after_list n home.0 after) finished (Image d log)) (no-object n y e)) p

-- what is no length
wrong-stood : (n : Names) (s i : ℕ) (o : Option Stand) → length_from s (stood n i o) ≡ type_error s
wrong-stood n s i (Some Counted) = refl
wrong-stood n s i (Some (AtPlace place)) = refl
wrong-stood n s i (Some (Before behind)) = refl
wrong-stood n s i (Some Hidden) = refl
wrong-stood n s i None = refl

pub wrong-length : (n : Names) (s : ℕ) (y : Value) → (y ≡ v.Undefined → ⊥) → ((z : ℤ) → y ≡ v.Whole z → ⊥)
    → length_from s (Resolve n y) ≡ type_error s
wrong-length n s v.Undefined h k = absurd (h refl)
wrong-length n s v.Null h k = refl
wrong-length n s (v.Bool b) h k = refl
wrong-length n s (v.Whole z) h k = absurd (k z refl)
wrong-length n s (v.Text y) h k = refl
wrong-length n s (v.Symbol y) h k = refl
wrong-length n s (v.Object o) h k = wrong-stood n s o.0 (slice_get n.stands o.0)

pub Part-wrong-length : (home : Side) (r : Result Move Halt) (d d' : Data) (f : ℕ) (list : ObjId) (y : Value)
    (after : AfterList) → (y ≡ v.Undefined → ⊥) → ((z : ℤ) → y ≡ v.Whole z → ⊥)
    → Part home r d d' f f (type_error home.0 finished)
    → Part home r d d' f f
    ((length_from home.0 (Resolve (names_of d) y)
    >>= (λ n. list_from home.0 (asks_keys after) (object_in (names_of d) list) n 0 [])
    >>= after_list (names_of d) home.0 after) finished)
Part-wrong-length home r d d' f list y after h k p =
    let q : Does ℕ → Does Answer = λ length.
    length >>= (λ n. list_from home.0 (asks_keys after) (object_in (names_of d) list) n 0 [])
    >>= after_list (names_of d) home.0 after in
    Part-by home r d d' f f (q (length_from home.0 (Resolve (names_of d) y)) finished) (type_error home.0 finished)
    (λ log. ap (λ (z : Does ℕ). q z finished (Image d log)) (wrong-length (names_of d) home.0 y h k)) p

-- ---- elements

module _ (home : Side) (d : Data) (list : ObjId) (done : List Value) (after : AfterList) where
  abbrev o : Val
  o = object_in (names_of d) list

  -- an element, and those after it
  abbrev element : ℕ → Graph → Row
  element left =
      (get home.0 o (index_key (length done))
      >>= list_got home.0 (asks_keys after) (values_in (names_of d) done)
      >>= list_from home.0 (asks_keys after) o left (length done + 1)
      >>= after_list (names_of d) home.0 after) finished

  -- its unit can't be paid
  pub Part-unpaid-element : (f left all : ℕ) → all ≡ suc left → f < 1
      → Part home (Err SpentHalt) d d f f (rest_of_list (names_of d) home.0 list all done after finished)
  Part-unpaid-element f left all i e = rw i (Part-unpaid home d 1 f (element left) e)

  module _ (d' : Data) (f f' left : ℕ) (t : TextsGrew d d') (key : Key) (k : KeyIn d' key)
      (h : Holds d home (HeldObject list ∷ HeldValues done ∷ list_held after)) where
    abbrev wanted : Task
    wanted = task.Perform (m.Get key (v.Object list)) list home true

    pub Part-element : (all : ℕ) → all ≡ suc left → key_in (names_of d') key ≡ index_key (length done) → f' + 1 ≡ f
        → Part home (Ok (move.Wait (x.Call (c.ListElement list left done after)) wanted)) d d' f f'
        (rest_of_list (names_of d) home.0 list all done after finished)
    Part-element all i q e =
        rw i (Part-passed home (Ok (move.Wait (x.Call (c.ListElement list left done after)) wanted)) d d d' f f' f'
        (rest_of_list (names_of d) home.0 list (suc left) done after finished) (element left)
        (Passes-paid d 1 f f' (element left) e)
        (Part-asks home d d' f' t (c.ListElement list left done after)
        (holds-in d home (HeldObject list ∷ HeldValues done ∷ list_held after) h) wanted
        (perform home.0 (Get (index_key (length done)) o) o) (element left) (
          ObjIn-grows d d' t.becomes.grows list h.0.within,
          (k, (ObjIn-grows d d' t.becomes.grows list h.0.within, tt)),
        )
        (rw (q, t.becomes.grows.same_object list h.0.within) refl) (λ log. refl)))

    module _ (r : IsReady d) where
      after-texts : Changed home d d'
      after-texts = texts-changed home d d' t r

      held-still : MayHold d' home (HeldObject list)
      held-still = (holds-still home d d' r after-texts (HeldObject list ∷ []) (h.0, tt)).0

      pub keeps-element : KeepsBy home (list_gives after)
          (Ok (move.Wait (x.Call (c.ListElement list left done after)) wanted)) d d'
      keeps-element =
          asks-kept home d d' (list_gives after) (c.ListElement list left done after) (m.Get key (v.Object list)) list
          refl (fits-same (list_gives after)) r after-texts h
          (held-still, (key-held d' home key k, (object-value d' home list held-still, tt)))

  -- one more was got
  module _ (r : Result Move Halt) (d' : Data) (f f' left : ℕ) (y : Value) where
    abbrev got : Bool → Does Answer
    got b =
        unless_type_error home.0 b
        >>= (λ a. give (values_in (names_of d) done ++ (Resolve (names_of d) y ∷ [])))
        >>= list_from home.0 (asks_keys after) o left (length done + 1)
        >>= after_list (names_of d) home.0 after

    -- which is a text or a symbol, where keys are asked
    pub Part-more : not (asks_keys after) || is_property_key (Resolve (names_of d) y) ≡ true
        → Part home r d d' f f'
        (rest_of_list (names_of d) home.0 list left (done ++ (y ∷ [])) after finished)
        → Part home r d d' f f' ((list_got home.0 (asks_keys after) (values_in (names_of d) done)
        (Resolve (names_of d) y) >>= list_from home.0 (asks_keys after) o left (length done + 1)
        >>= after_list (names_of d) home.0 after) finished)
    Part-more i p =
        Part-by home r d d' f f' (got (not (asks_keys after) || is_property_key (Resolve (names_of d) y)) finished)
        (rest_of_list (names_of d) home.0 list left (done ++ (y ∷ [])) after finished)
        (λ log. ap (λ (b : Bool). got b finished (Image d log)) i
        ∙ sym (ap (λ (vs : List Val). (list_from home.0 (asks_keys after) o left (length (done ++ (y ∷ []))) vs
        >>= after_list (names_of d) home.0 after) finished (Image d log))
        (map-append (Resolve (names_of d)) done (y ∷ []))
        ∙ ap (λ (k : ℕ). (list_from home.0 (asks_keys after) o left k
        (values_in (names_of d) done ++ (Resolve (names_of d) y ∷ []))
        >>= after_list (names_of d) home.0 after) finished (Image d log)) (length-append done (y ∷ [])))) p

    pub Part-no-key : not (asks_keys after) || is_property_key (Resolve (names_of d) y) ≡ false
        → Part home r d d' f f' (type_error home.0 finished)
        → Part home r d d' f f' ((list_got home.0 (asks_keys after) (values_in (names_of d) done)
        (Resolve (names_of d) y) >>= list_from home.0 (asks_keys after) o left (length done + 1)
        >>= after_list (names_of d) home.0 after) finished)
    Part-no-key i p =
        Part-by home r d d' f f' (got (not (asks_keys after) || is_property_key (Resolve (names_of d) y)) finished)
        (type_error home.0 finished) (λ log. ap (λ (b : Bool). got b finished (Image d log)) i) p

-- ---- what is called is an object

pub no-callable-value : (d : Data) (y : Value) → IsCallable d y → ((o : ObjId) → y ≡ v.Object o → ⊥) → ⊥
no-callable-value d v.Undefined h k = true≢false (sym h)
no-callable-value d v.Null h k = true≢false (sym h)
no-callable-value d (v.Bool b) h k = true≢false (sym h)
no-callable-value d (v.Whole z) h k = true≢false (sym h)
no-callable-value d (v.Text t) h k = true≢false (sym h)
no-callable-value d (v.Symbol t) h k = true≢false (sym h)
no-callable-value d (v.Object o) h k = k o refl
