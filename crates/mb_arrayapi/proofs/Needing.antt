-- Members that need a function, and make their array before the loop.
use Rattle.std.proofs.Common.{Bool, Ok, Result, ap, arith, false, nat_le, sym, true, ℕ, ◌<◌, ◌∙◌, ◌≡◌, ◌≤◌, List, []}
use Rattle.std.proofs.lemmas.Bool.Decides.{nat_tests}
use Rattle.std.specs.Prelude.{if◌then◌else◌}
use Rattle.mb_arrayapi.specs.machine.Turning.{turns_from}
use Rattle.mb_base.specs.declared.value.ObjId.{ObjId}
use Rattle.mb_base.specs.declared.value.Side.{Side}
use Rattle.mb_base.specs.declared.value.Value.{Value}
use Rattle.mb_frames.proofs.Going.{Makes-passes}
use Rattle.mb_frames.proofs.HeldLess.{called}
use Rattle.mb_frames.proofs.Passed.{Part-by, Part-passed}
use Rattle.mb_frames.specs.Going.{Makes}
use Rattle.mb_frames.specs.Held.{HeldCallable, HeldValue}
use Rattle.mb_frames.specs.Passing.{Part}
use Rattle.mb_frames.specs.Ready.{MayHold}
use Rattle.mb_frames.specs.declared.arrays.Callback.TheVariants as callback
use Rattle.mb_frames.specs.declared.arrays.Turn.TheVariants as turn
use Rattle.mb_frames.specs.declared.frame.Move.{Move}
use Rattle.mb_frames.specs.declared.machine.Halt.{Halt}
use Rattle.mb_model.specs.BuiltIns.Arguments.{need_callable}
use Rattle.mb_model.specs.BuiltIns.ArrayMembers.{filter_each, map_each, slice_each}
use Rattle.mb_model.specs.BuiltIns.Arrays.{fresh_array}
use Rattle.mb_model.specs.Meaning.{finished}
use Rattle.mb_model.specs.Task.{Answer}
use Rattle.mb_model.specs.Operations.Makings.{array_thing}
use Rattle.mb_model.specs.Writing.{◌>>=◌, Does, make, range_error, type_error, unless_type_error}
use Rattle.mb_world.specs.Arrays.{length_limit}
use Rattle.mb_world.specs.Standard.{array_prototype}
use Rattle.mb_world.proofs.Images.{value-grows}
use Rattle.mb_world.specs.Data.{Data}
use Rattle.mb_world.specs.Graph.{Item}
use Rattle.mb_world.specs.Ids.{ObjIn, ValueIn}
use Rattle.mb_world.specs.Image.{Image, Names, Resolve, names_of, object_in}
use Rattle.mb_world.specs.Objects.{is_callable}
use Rattle.mb_world.specs.Value.{Val}

-- ---- a function is needed

module _ (home : Side) (r : Result Move Halt) (d d' : Data) (f f' : ℕ) (function : Value) (p : Does Answer) (b : Bool)
    (calls : (log : List Item) → is_callable (Image d log) (Resolve (names_of d) function) ≡ b) where
  abbrev needs : Does Answer
  needs = need_callable home.0 (Resolve (names_of d) function) >>= (λ a. p)

  needed : (log : List Item)
      → needs finished (Image d log) ≡ (unless_type_error home.0 b >>= (λ a. p)) finished (Image d log)
  needed log = ap (λ (c : Bool). (unless_type_error home.0 c >>= (λ a. p)) finished (Image d log)) (calls log)

  pub Part-called : b ≡ true → Part home r d d' f f' (p finished) → Part home r d d' f f' (needs finished)
  Part-called e h =
      Part-by home r d d' f f' (needs finished) (p finished)
      (λ log. needed log
      ∙ ap (λ (c : Bool). (unless_type_error home.0 c >>= (λ a. p)) finished (Image d log)) e) h

  pub Part-uncalled : b ≡ false → Part home r d d' f f' (type_error home.0 finished)
      → Part home r d d' f f' (needs finished)
  Part-uncalled e h =
      Part-by home r d d' f f' (needs finished) (type_error home.0 finished)
      (λ log. needed log
      ∙ ap (λ (c : Bool). (unless_type_error home.0 c >>= (λ a. p)) finished (Image d log)) e) h

pub callable-held : (d : Data) (home : Side) (x : Value) (b : Bool)
    → ((log : List Item) → is_callable (Image d log) (Resolve (names_of d) x) ≡ b) → b ≡ true
    → MayHold d home (HeldValue x) → MayHold d home (HeldCallable x)
callable-held d home x b calls e h = called d home x h (calls [] ∙ e)

-- ---- an array is made before the loop

module _ (home : Side) (r : Result Move Halt) (d d1 d2 : Data) (f f' : ℕ) (object : ObjId) (o : ObjIn d object)
    (id : ObjId) (k : ℕ) (q : Makes (Ok id) d d1 (fresh_array home.0 k)) where
  abbrev n : Names
  n = names_of d

  abbrev n1 : Names
  n1 = names_of d1

  abbrev s : ℕ
  s = home.0

  same : object_in n1 object ≡ object_in n object
  same = q.grew.grows.same_object object o

  -- what is done with the array
  made-then : (p : Val → Does Answer) → Part home r d1 d2 f f' (p (object_in n1 id) finished)
      → Part home r d d2 f f' ((fresh_array s k >>= p) finished)
  made-then p h =
      Part-passed home r d d1 d2 f f f' ((fresh_array s k >>= p) finished) (p (object_in n1 id) finished)
      (Makes-passes d d1 f (fresh_array s k) id (λ a. p a finished) q) h

  module _ (function this : Value) (g : ValueIn d function) (h : ValueIn d this) (m : ℕ) where
    pub Part-mapped : Part home r d1 d2 f f' (turns_from n1 s (object_in n1 object)
        (turn.Call (callback.Map function this id)) 0 m finished)
        → Part home r d d2 f f' ((fresh_array s k
        >>= (λ a. map_each s (object_in n object) (Resolve n function) (Resolve n this) a m 0)) finished)
    Part-mapped p =
        made-then (λ a. map_each s (object_in n object) (Resolve n function) (Resolve n this) a m 0)
        (rw (sym same, sym (value-grows d d1 q.grew.grows function g), sym (value-grows d d1 q.grew.grows this h)) p)

    pub Part-filtered : Part home r d1 d2 f f' (turns_from n1 s (object_in n1 object)
        (turn.Call (callback.Filter function this id 0)) 0 m finished)
        → Part home r d d2 f f' ((fresh_array s k
        >>= (λ a. filter_each s (object_in n object) (Resolve n function) (Resolve n this) a m 0 0)) finished)
    Part-filtered p =
        made-then (λ a. filter_each s (object_in n object) (Resolve n function) (Resolve n this) a m 0 0)
        (rw (sym same, sym (value-grows d d1 q.grew.grows function g), sym (value-grows d d1 q.grew.grows this h)) p)

  pub Part-sliced : (from m : ℕ) → Part home r d1 d2 f f' (turns_from n1 s (object_in n1 object)
      (turn.Slice id from) 0 m finished)
      → Part home r d d2 f f' ((fresh_array s k >>= (λ a. slice_each s (object_in n object) a m from 0)) finished)
  Part-sliced from m p =
      made-then (λ a. slice_each s (object_in n object) a m from 0) (rw (sym same) p)

-- no array is so long
pub fresh-long : (s n : ℕ) → 4294967295 < n → fresh_array s n ≡ range_error s
fresh-long s n h =
    let e : nat_le n length_limit ≡ false = grind (arith, nat_tests) in
    ap (λ (b : Bool). let p : Does Val = if b then make (array_thing s array_prototype n []) else range_error s in p) e

pub fresh-short : (s n : ℕ) → n ≤ 4294967295 → fresh_array s n ≡ make (array_thing s array_prototype n [])
fresh-short s n h =
    let e : nat_le n length_limit ≡ true = grind (arith, nat_tests) in
    ap (λ (b : Bool). let p : Does Val = if b then make (array_thing s array_prototype n []) else range_error s in p) e
